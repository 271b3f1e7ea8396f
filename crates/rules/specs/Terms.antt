-- Terms (000, section 2.2), values, label tuples and closed substitution.
use Rattle.std.specs.Prelude.{ℕ, zero, suc, ◌+◌, Bool, true, false, ◌&&◌, List, [], ◌∷◌, ◌++◌, length}
use Rattle.rules.specs.Types.{Ty, wire, unit, ◌⊗◌, ◌⊸◌, !◌, Circ, wires}

-- 000, 2.2: label tuples, ℓ, k ::= ℓ | ⟨ℓ, k⟩. 02, ticket 5: unit's value "counts there as part of a label tuple".
pub data Tuple : Type 0 where
  single : ℕ → Tuple
  empty : Tuple
  both : Tuple → Tuple → Tuple

-- The labels of a tuple, left to right.
abbrev pub labels : Tuple → List ℕ
labels (single ℓ) = ℓ ∷ []
labels empty = []
labels (both t u) = labels t ++ labels u

-- The tuple of T's wires, numbered left to right from n (000, definition 2.12, with 01's numbering). 02, ticket 5: unit's "value
-- stands in a tuple wherever the type has unit".
abbrev pub tuple_from : ℕ → Ty → Tuple
tuple_from n (wire α) = single n
tuple_from n unit = empty
tuple_from n (T ⊗ U) = both (tuple_from n T) (tuple_from (n + length (wires T)) U)
tuple_from n (A ⊸ B) = single n
tuple_from n (! A) = single n
tuple_from n (Circ T U) = single n

-- A gate in a circuit: its number and the wires that it takes, slot by slot. The wires that it makes are the next numbers.
pub data Gate : Type 0 where
  ◌on◌ : ℕ → List ℕ → Gate

infix 50 ◌on◌
-- A boxed circuit (000, 2.2: (ℓ, C, ℓ')): the type of its inputs, its gates, the newest first, and its result tuple.
pub data Boxed : Type 0 where
  boxed : Ty → List Gate → Tuple → Boxed

-- 000, 2.2: M, N ::= x | ℓ | λx.M | M N | ⟨M, N⟩ | let ⟨x, y⟩ = M in N | lift M | force M | box_T M | apply(M, N) | (ℓ, C, ℓ').
-- 01 adds the gates as constants and the type of an abstraction's variable, 02's ticket 5 unit's value. A variable counts the
-- binders between it and its own; let binds two, 0 the second half and 1 the first.
pub data Term : Type 0 where
  variable label gate : ℕ → Term
  unit_value : Term
  constant : Boxed → Term
  abstraction : Ty → Term → Term
  application pair let_in : Term → Term → Term
  lift force : Term → Term
  box : Ty → Term → Term
  apply : Term → Term → Term

-- 000, 2.2: V, W ::= ℓ | λx.M | ⟨V, W⟩ | lift M | (ℓ, C, ℓ'). 01 adds the gates, 02's ticket 5 unit's value.
abbrev pub value : Term → Bool
value (variable n) = false
value (label ℓ) = true
value (gate n) = true
value unit_value = true
value (constant b) = true
value (abstraction A M) = true
value (application M N) = false
value (pair M N) = value M && value N
value (let_in M N) = false
value (lift M) = true
value (force M) = false
value (box T M) = false
value (apply M N) = false

-- A label tuple as a term.
abbrev pub tuple : Tuple → Term
tuple (single ℓ) = label ℓ
tuple empty = unit_value
tuple (both t u) = pair (tuple t) (tuple u)

-- The labels of a term in file order, every occurrence. The labels inside a circuit constant are its own and not the term's.
abbrev pub term_labels : Term → List ℕ
term_labels (variable n) = []
term_labels (label ℓ) = ℓ ∷ []
term_labels (gate n) = []
term_labels unit_value = []
term_labels (constant b) = []
term_labels (abstraction A M) = term_labels M
term_labels (application M N) = term_labels M ++ term_labels N
term_labels (pair M N) = term_labels M ++ term_labels N
term_labels (let_in M N) = term_labels M ++ term_labels N
term_labels (lift M) = term_labels M
term_labels (force M) = term_labels M
term_labels (box T M) = term_labels M
term_labels (apply M N) = term_labels M ++ term_labels N

-- Term n, counted from the first of the list; the given term where the list ends before.
abbrev pub term_at : List Term → ℕ → Term → Term
term_at [] n M = M
term_at (W ∷ Ws) zero M = W
term_at (W ∷ Ws) (suc n) M = term_at Ws n M

-- What becomes of variable n, M itself, under k binders: those keep their variables, the ones outside become the values.
abbrev pub variable_at : ℕ → List Term → ℕ → Term → Term
variable_at zero Ws n M = term_at Ws n M
variable_at (suc k) Ws zero M = M
variable_at (suc k) Ws (suc n) M = variable_at k Ws n M

-- 000, definition 2.9, for closed values: under k binders, variable k becomes the first value, k + 1 the second. A closed
-- value has no variable that a binder could catch, so nothing is renumbered. In 000, (λy.L)[N/x] is λy.(L[N/x]).
abbrev pub under : ℕ → List Term → Term → Term
under k Ws (variable n) = variable_at k Ws n (variable n)
under k Ws (label ℓ) = label ℓ
under k Ws (gate n) = gate n
under k Ws unit_value = unit_value
under k Ws (constant b) = constant b
under k Ws (abstraction A M) = abstraction A (under (suc k) Ws M)
under k Ws (application M N) = application (under k Ws M) (under k Ws N)
under k Ws (pair M N) = pair (under k Ws M) (under k Ws N)
under k Ws (let_in M N) = let_in (under k Ws M) (under (suc (suc k)) Ws N)
under k Ws (lift M) = lift (under k Ws M)
under k Ws (force M) = force (under k Ws M)
under k Ws (box T M) = box T (under k Ws M)
under k Ws (apply M N) = apply (under k Ws M) (under k Ws N)

-- M with its outermost variables become the values of a list: one for an abstraction, two for let.
abbrev pub substitute : List Term → Term → Term
substitute Ws M = under zero Ws M
