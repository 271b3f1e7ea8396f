-- The entries that the refusals 16, 17 and 18 concern (01, "Check, in number order"), and the first of them (02, ticket 1: "the
-- place becomes the first such entry in file order, where 01 allowed some such entry"). Theorems.Places says that the check
-- gives the first.
use Rattle.std.specs.Prelude.{ℕ, suc, ◌+◌, ◌<◌, ◌≡◌, ◌≢◌, ◌⊎◌, List, [], ◌∷◌, length}
use Rattle.std.proofs.Math.Option.{none, some}
use Rattle.rules.specs.Types.{Wire, Ty, ◌⊗◌}
use Rattle.rules.specs.Gates.{nth}
use Rattle.rules.specs.Terms.{Term, variable, label, gate, constant, abstraction, application, pair, let_in, lift, force}
use Rattle.rules.specs.Terms.{box, apply, unit_value}
use Rattle.rules.specs.Sizes.{nodes}
use Rattle.rules.specs.Inference.{uses, label_uses, Linear, as_pair, infer}
use Rattle.check_program.specs.Checking.{Binder, ◌under◌}

-- The types of the variables in scope.
abbrev pub types_of : List Binder → List Ty
types_of [] = []
types_of (A under bound ∷ Γ) = A ∷ types_of Γ

-- Which entry is which node. 01: "Terms stand in preorder." In M, whose node is entry e under the binders Γ and this many
-- lifts, the node at entry e' is M', under Γ' and lifts'. One constructor for the node itself and one for each part; the two
-- variables of a let have the types that its first part gives them.
pub data Occurs (L : List Wire) : List Binder → ℕ → ℕ → Term → List Binder → ℕ → ℕ → Term → Type 0 where
  itself : {Γ : List Binder} {lifts e : ℕ} {M : Term} → Occurs L Γ lifts e M Γ lifts e M
  in_abstraction : {Γ Γ' : List Binder} {lifts e lifts' e' : ℕ} {A : Ty} {M M' : Term}
      → Occurs L (A under lifts ∷ Γ) lifts (suc e) M Γ' lifts' e' M'
      → Occurs L Γ lifts e (abstraction A M) Γ' lifts' e' M'
  in_application_first : {Γ Γ' : List Binder} {lifts e lifts' e' : ℕ} {M N M' : Term}
      → Occurs L Γ lifts (suc e) M Γ' lifts' e' M'
      → Occurs L Γ lifts e (application M N) Γ' lifts' e' M'
  in_application_second : {Γ Γ' : List Binder} {lifts e lifts' e' : ℕ} {M N M' : Term}
      → Occurs L Γ lifts (suc e + nodes M) N Γ' lifts' e' M'
      → Occurs L Γ lifts e (application M N) Γ' lifts' e' M'
  in_pair_first : {Γ Γ' : List Binder} {lifts e lifts' e' : ℕ} {M N M' : Term}
      → Occurs L Γ lifts (suc e) M Γ' lifts' e' M'
      → Occurs L Γ lifts e (pair M N) Γ' lifts' e' M'
  in_pair_second : {Γ Γ' : List Binder} {lifts e lifts' e' : ℕ} {M N M' : Term}
      → Occurs L Γ lifts (suc e + nodes M) N Γ' lifts' e' M'
      → Occurs L Γ lifts e (pair M N) Γ' lifts' e' M'
  in_let_first : {Γ Γ' : List Binder} {lifts e lifts' e' : ℕ} {M N M' : Term}
      → Occurs L Γ lifts (suc e) M Γ' lifts' e' M'
      → Occurs L Γ lifts e (let_in M N) Γ' lifts' e' M'
  in_let_second : {Γ Γ' : List Binder} {lifts e lifts' e' : ℕ} {A B : Ty} {M N M' : Term}
      → infer (types_of Γ) (nth L) M ≡ some (A ⊗ B)
      → Occurs L (B under lifts ∷ A under lifts ∷ Γ) lifts (suc e + nodes M) N Γ' lifts' e' M'
      → Occurs L Γ lifts e (let_in M N) Γ' lifts' e' M'
  in_lift : {Γ Γ' : List Binder} {lifts e lifts' e' : ℕ} {M M' : Term}
      → Occurs L Γ (suc lifts) (suc e) M Γ' lifts' e' M'
      → Occurs L Γ lifts e (lift M) Γ' lifts' e' M'
  in_force : {Γ Γ' : List Binder} {lifts e lifts' e' : ℕ} {M M' : Term}
      → Occurs L Γ lifts (suc e) M Γ' lifts' e' M'
      → Occurs L Γ lifts e (force M) Γ' lifts' e' M'
  in_box : {Γ Γ' : List Binder} {lifts e lifts' e' : ℕ} {T : Ty} {M M' : Term}
      → Occurs L Γ lifts (suc e) M Γ' lifts' e' M'
      → Occurs L Γ lifts e (box T M) Γ' lifts' e' M'
  in_apply_first : {Γ Γ' : List Binder} {lifts e lifts' e' : ℕ} {M N M' : Term}
      → Occurs L Γ lifts (suc e) M Γ' lifts' e' M'
      → Occurs L Γ lifts e (apply M N) Γ' lifts' e' M'
  in_apply_second : {Γ Γ' : List Binder} {lifts e lifts' e' : ℕ} {M N M' : Term}
      → Occurs L Γ lifts (suc e + nodes M) N Γ' lifts' e' M'
      → Occurs L Γ lifts e (apply M N) Γ' lifts' e' M'

-- A term has a type by plain inference, which asks nothing of how often a variable is used.
abbrev pub HasType : List Wire → List Binder → Term → Type 0
HasType L Γ M = (A : Ty) × (infer (types_of Γ) (nth L) M ≡ some A)

-- 16: "a node whose parts all have types".
abbrev pub PartsHaveTypes : List Wire → List Binder → ℕ → Term → Type 0
PartsHaveTypes L Γ lifts (variable n) = Unit
PartsHaveTypes L Γ lifts (label ℓ) = Unit
PartsHaveTypes L Γ lifts (gate n) = Unit
PartsHaveTypes L Γ lifts unit_value = Unit
PartsHaveTypes L Γ lifts (constant b) = Unit
PartsHaveTypes L Γ lifts (abstraction A M) = HasType L (A under lifts ∷ Γ) M
PartsHaveTypes L Γ lifts (application M N) = HasType L Γ M × HasType L Γ N
PartsHaveTypes L Γ lifts (pair M N) = HasType L Γ M × HasType L Γ N
PartsHaveTypes L Γ lifts (let_in M N) =
    (A : Ty) × (B : Ty) × (infer (types_of Γ) (nth L) M ≡ some (A ⊗ B))
    × HasType L (B under lifts ∷ A under lifts ∷ Γ) N
PartsHaveTypes L Γ lifts (lift M) = HasType L Γ M
PartsHaveTypes L Γ lifts (force M) = HasType L Γ M
PartsHaveTypes L Γ lifts (box T M) = HasType L Γ M
PartsHaveTypes L Γ lifts (apply M N) = HasType L Γ M × HasType L Γ N

-- 16: "a node whose parts all have types and whose rule fails or whose type would exceed 512 entries, or a let whose first
-- part has a type that is no pair". A variable without a binder and a label or gate that there is not would count too, but
-- the reader has refused them before (9 and 5), and a program file has no circuit constants.
pub data Faulty (L : List Wire) (Γ : List Binder) (lifts : ℕ) : Term → Type 0 where
  rule_fails : {M : Term}
      → PartsHaveTypes L Γ lifts M → infer (types_of Γ) (nth L) M ≡ none
      → Faulty L Γ lifts M
  no_pair : {M N : Term} {A : Ty}
      → infer (types_of Γ) (nth L) M ≡ some A → as_pair A ≡ none
      → Faulty L Γ lifts (let_in M N)

-- 17: an abstraction or a let that binds "a linear variable .. not used exactly once".
pub data BindsWrongly (L : List Wire) (Γ : List Binder) (lifts : ℕ) : Term → Type 0 where
  by_abstraction : {A : Ty} {M : Term} → Linear A → uses 0 M ≢ 1 → BindsWrongly L Γ lifts (abstraction A M)
  by_let_first : {A B : Ty} {M N : Term}
      → infer (types_of Γ) (nth L) M ≡ some (A ⊗ B) → Linear A → uses 1 N ≢ 1
      → BindsWrongly L Γ lifts (let_in M N)
  by_let_second : {A B : Ty} {M N : Term}
      → infer (types_of Γ) (nth L) M ≡ some (A ⊗ B) → Linear B → uses 0 N ≢ 1
      → BindsWrongly L Γ lifts (let_in M N)

-- 18: "a linear use inside a lift from outside it": more lifts stand around the use than around its binder. Labels are bound
-- outside of all lifts.
pub data UsesInside (L : List Wire) (Γ : List Binder) (lifts : ℕ) : Term → Type 0 where
  of_variable : {n : ℕ} {A : Ty} {bound : ℕ}
      → nth Γ n ≡ some (A under bound) → Linear A → bound < lifts
      → UsesInside L Γ lifts (variable n)
  of_label : {ℓ : ℕ} {α : Wire} → nth L ℓ ≡ some α → 0 < lifts → UsesInside L Γ lifts (label ℓ)

-- A property of a node, under the binders and lifts around it.
abbrev pub Property : Type 1
Property = List Binder → ℕ → Term → Type 0

-- A node with a property stands at entry p of M, whose own node is entry e under the binders Γ and this many lifts.
abbrev pub At : List Wire → Property → List Binder → ℕ → ℕ → Term → ℕ → Type 0
At L P Γ lifts e M p =
    (Γ' : List Binder) × (lifts' : ℕ) × (M' : Term) × Occurs L Γ lifts e M Γ' lifts' p M' × P Γ' lifts' M'

-- 16 concerns entry p of the program with these labels and the term M, whose first entry is e.
abbrev pub FaultAt : List Wire → ℕ → Term → ℕ → Type 0
FaultAt L e M p = At L (Faulty L) [] 0 e M p

-- 17 concerns the label entry p: "a .. label not used exactly once".
abbrev pub WrongLabelAt : List Wire → Term → ℕ → Type 0
WrongLabelAt L M p = (p < length L) × (label_uses p M ≢ 1)

-- 17 concerns the binder at entry p: an abstraction or a let.
abbrev pub WrongBinderAt : List Wire → ℕ → Term → ℕ → Type 0
WrongBinderAt L e M p = At L (BindsWrongly L) [] 0 e M p

-- 17 concerns entry p: a label or a binder.
abbrev pub NotOnceAt : List Wire → ℕ → Term → ℕ → Type 0
NotOnceAt L e M p = WrongLabelAt L M p ⊎ WrongBinderAt L e M p

-- 18 concerns the use at entry p.
abbrev pub UseInsideAt : List Wire → ℕ → Term → ℕ → Type 0
UseInsideAt L e M p = At L (UsesInside L) [] 0 e M p

-- There is no such entry.
abbrev pub Nowhere : (ℕ → Type 0) → Type 0
Nowhere P = (p : ℕ) → P p → ⊥

-- 02, ticket 1: "the first such entry in file order". Entry p is such an entry, and no earlier one is.
abbrev pub First : (ℕ → Type 0) → ℕ → Type 0
First P p = P p × ((q : ℕ) → q < p → P q → ⊥)
