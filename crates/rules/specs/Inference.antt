-- What the check computes with: uses of variables and labels, and the type that a rule of 01, "Typing", gives a node from the
-- types of its parts.
use Rattle.std.specs.Prelude.{ℕ, suc, ◌+◌, Bool, true, false, ◌&&◌, not, List, ◌∷◌, T as Truth, eqb, leb}
use Rattle.std.proofs.Math.Option.{Option, none, some, map}
use Rattle.rules.specs.Types.{Ty, wire, ◌⊗◌, ◌⊸◌, !◌, Circ, is_wire_type, copyable, entries, most_entries, Wire_discrete}
use Rattle.rules.specs.Types.{Ty_discrete, unit}
use Rattle.rules.specs.Gates.{GateType, ◌to◌, nth, gate_type}
use Rattle.rules.specs.Terms.{Term, variable, label, gate, constant, abstraction, application, pair, let_in, lift}
use Rattle.rules.specs.Terms.{force, box, apply, unit_value}
use Rattle.rules.specs.Circuits.{one_if}
use Rattle.rules.specs.Typing.{LabelContext}

-- 01: "a variable of any other type is linear".
abbrev pub Linear : Ty → Type 0
Linear A = Truth (not (copyable A))

-- How often a term uses a variable; all occurrences count, inside lifts and uncalled bodies too.
abbrev pub uses : ℕ → Term → ℕ
uses n (variable m) = one_if (eqb n m)
uses n (label ℓ) = 0
uses n (gate m) = 0
uses n unit_value = 0
uses n (constant b) = 0
uses n (abstraction A M) = uses (suc n) M
uses n (application M N) = uses n M + uses n N
uses n (pair M N) = uses n M + uses n N
uses n (let_in M N) = uses n M + uses (suc (suc n)) N
uses n (lift M) = uses n M
uses n (force M) = uses n M
uses n (box T M) = uses n M
uses n (apply M N) = uses n M + uses n N

-- How often a term uses a label, counted likewise.
abbrev pub label_uses : ℕ → Term → ℕ
label_uses ℓ (variable m) = 0
label_uses ℓ (label k) = one_if (eqb ℓ k)
label_uses ℓ (gate m) = 0
label_uses ℓ unit_value = 0
label_uses ℓ (constant b) = 0
label_uses ℓ (abstraction A M) = label_uses ℓ M
label_uses ℓ (application M N) = label_uses ℓ M + label_uses ℓ N
label_uses ℓ (pair M N) = label_uses ℓ M + label_uses ℓ N
label_uses ℓ (let_in M N) = label_uses ℓ M + label_uses ℓ N
label_uses ℓ (lift M) = label_uses ℓ M
label_uses ℓ (force M) = label_uses ℓ M
label_uses ℓ (box T M) = label_uses ℓ M
label_uses ℓ (apply M N) = label_uses ℓ M + label_uses ℓ N

-- The halves of a pair type, if it is one.
abbrev pub as_pair : Ty → Option (Ty × Ty)
as_pair (wire α) = none
as_pair unit = none
as_pair (A ⊗ B) = some (A, B)
as_pair (A ⊸ B) = none
as_pair (! A) = none
as_pair (Circ T U) = none

-- What a function type takes and gives, if it is one.
abbrev pub as_function : Ty → Option (Ty × Ty)
as_function (wire α) = none
as_function unit = none
as_function (A ⊗ B) = none
as_function (A ⊸ B) = some (A, B)
as_function (! A) = none
as_function (Circ T U) = none

-- 01: "force undoes it": the type of which a type is the reusable kind, if it is.
abbrev pub as_reusable : Ty → Option Ty
as_reusable (wire α) = none
as_reusable unit = none
as_reusable (A ⊗ B) = none
as_reusable (A ⊸ B) = none
as_reusable (! A) = some A
as_reusable (Circ T U) = none

-- What a circuit type takes and gives, if it is one.
abbrev pub as_circ : Ty → Option (Ty × Ty)
as_circ (wire α) = none
as_circ unit = none
as_circ (A ⊗ B) = none
as_circ (A ⊸ B) = none
as_circ (! A) = none
as_circ (Circ T U) = some (T, U)

-- What follows, if there is something.
abbrev pub given : {X Y : Type 0} → Option X → (X → Option Y) → Option Y
given none f = none
given (some x) f = f x

-- A type, if a test holds.
abbrev pub if_true : Bool → Ty → Option Ty
if_true true A = some A
if_true false A = none

-- Has it been decided so?
abbrev pub is_yes : {X : Type 0} → Dec X → Bool
is_yes (yes x) = true
is_yes (no f) = false

-- Are two types the same?
abbrev pub same : Ty → Ty → Bool
same A B = is_yes (Ty_discrete Wire_discrete A B)

-- 01: "No type of a node may exceed 512 entries."
abbrev pub if_bounded : Ty → Option Ty
if_bounded A = if_true (leb (entries A) most_entries) A

-- 01: "Gate types are Circ of these." Here and below: the type that a rule gives a node from the types of its parts, if it
-- applies.
abbrev pub gate_node_type : GateType → Ty
gate_node_type (T to U) = Circ T U

-- 01: "An abstraction over A with a body of type B is a function from A to B."
abbrev pub abstraction_type : Ty → Ty → Option Ty
abstraction_type A B = if_bounded (A ⊸ B)

-- 01: "Application takes such a function and an A and gives B."
abbrev pub application_type : Ty → Ty → Option Ty
application_type F A = given (as_function F) λ p. if_true (same p.0 A) p.1

-- 01: "A pair has the pair type of its halves".
abbrev pub pair_type : Ty → Ty → Option Ty
pair_type A B = if_bounded (A ⊗ B)

-- 01: "Lift of an A gives reusable A".
abbrev pub lift_type : Ty → Option Ty
lift_type A = if_bounded (! A)

-- 01: "Box at T takes a reusable function from T to U, where U must be a wire type, and gives Circ from T to U."
abbrev pub box_type : Ty → Ty → Option Ty
box_type T A =
    given (as_reusable A) λ F. given (as_function F) λ p.
    if_true (same T p.0 && (is_wire_type T && is_wire_type p.1)) (Circ T p.1)

-- 01: "Apply takes Circ from T to U and a T and gives U."
abbrev pub apply_type : Ty → Ty → Option Ty
apply_type F A = given (as_circ F) λ p. if_true (same p.0 A) p.1

-- The type that the rules of nodes give, if they apply throughout.
abbrev pub infer : List Ty → LabelContext → Term → Option Ty
infer Γ Q (variable n) = nth Γ n
infer Γ Q (label ℓ) = map wire (Q ℓ)
infer Γ Q (gate n) = map gate_node_type (gate_type n)
infer Γ Q unit_value = some unit
infer Γ Q (constant b) = none
infer Γ Q (abstraction A M) = given (infer (A ∷ Γ) Q M) λ B. abstraction_type A B
infer Γ Q (application M N) = given (infer Γ Q M) λ F. given (infer Γ Q N) λ A. application_type F A
infer Γ Q (pair M N) = given (infer Γ Q M) λ A. given (infer Γ Q N) λ B. pair_type A B
infer Γ Q (let_in M N) = given (infer Γ Q M) λ A. given (as_pair A) λ p. infer (p.1 ∷ p.0 ∷ Γ) Q N
infer Γ Q (lift M) = given (infer Γ Q M) lift_type
infer Γ Q (force M) = given (infer Γ Q M) as_reusable
infer Γ Q (box T M) = given (infer Γ Q M) λ A. box_type T A
infer Γ Q (apply M N) = given (infer Γ Q M) λ F. given (infer Γ Q N) λ A. apply_type F A
