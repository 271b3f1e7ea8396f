-- At an entry of a file stands one tree at most, so a file has one program.
use Rattle.std.specs.Prelude.{ℕ, suc, ◌≡◌, refl, List, [], ◌∷◌, length}
use Rattle.std.proofs.Common.{sym, ap, ap₂, subst, ◌∙◌, arith}
use Rattle.std.proofs.Math.Option.{some}
use Rattle.rules.specs.Types.{Wire, Bit, Qubit, Ty, wire, unit, ◌⊗◌, ◌⊸◌, !◌, Circ}
use Rattle.rules.specs.Gates.{nth}
use Rattle.rules.specs.Terms.{Term, variable, label, gate, unit_value, abstraction, application, pair, let_in, lift, force}
use Rattle.rules.specs.Terms.{box, apply}
use Rattle.rules.proofs.Laws.TypeCodes.{same_wire}
use Rattle.program.specs.Format.{kind_at, argument_at}
use Rattle.program.specs.Trees.{TypeAt, bit_at, qubit_at, unit_at, tensor_at, function_at, reusable_at, circ_at}
use Rattle.program.specs.Trees.{TypeAtPosition}
use Rattle.program.specs.Trees.{at_position, AcceptedFile, TermAt, variable_term_at, label_at, abstraction_at}
use Rattle.program.specs.Trees.{application_at, pair_at, let_at, lift_at, force_at, box_term_at, apply_at, gate_term_at, unit_value_at}

-- The type that stands at e, by the kind of e.
data TypeCase (f : List ℕ) (e : ℕ) : ℕ → Ty → ℕ → Type 0 where
  bit_case : TypeCase f e 0 (wire Bit) (suc e)
  qubit_case : TypeCase f e 1 (wire Qubit) (suc e)
  tensor_case : {m n : ℕ} {A B : Ty} → TypeAt f (suc e) A m → TypeAt f m B n → TypeCase f e 2 (A ⊗ B) n
  function_case : {m n : ℕ} {A B : Ty} → TypeAt f (suc e) A m → TypeAt f m B n → TypeCase f e 3 (A ⊸ B) n
  reusable_case : {n : ℕ} {A : Ty} → TypeAt f (suc e) A n → TypeCase f e 4 (! A) n
  circ_case : {m n : ℕ} {A B : Ty} → TypeAt f (suc e) A m → TypeAt f m B n → TypeCase f e 5 (Circ A B) n
  unit_case : TypeCase f e 6 unit (suc e)

type_case : {f : List ℕ} {e n : ℕ} {A : Ty} → TypeAt f e A n → TypeCase f e (kind_at f e) A n
type_case {f} (bit_at {e = e} k) = subst (λ i. TypeCase f e i (wire Bit) (suc e)) (sym k) bit_case
type_case {f} (qubit_at {e = e} k) = subst (λ i. TypeCase f e i (wire Qubit) (suc e)) (sym k) qubit_case
type_case {f} (unit_at {e = e} k) = subst (λ i. TypeCase f e i unit (suc e)) (sym k) unit_case
type_case {f} (tensor_at {e = e} {n = n} {A = A} {B = B} k s t) =
    subst (λ i. TypeCase f e i (A ⊗ B) n) (sym k) (tensor_case s t)
type_case {f} (function_at {e = e} {n = n} {A = A} {B = B} k s t) =
    subst (λ i. TypeCase f e i (A ⊸ B) n) (sym k) (function_case s t)
type_case {f} (reusable_at {e = e} {n = n} {A = A} k s) =
    subst (λ i. TypeCase f e i (! A) n) (sym k) (reusable_case s)
type_case {f} (circ_at {e = e} {n = n} {A = A} {B = B} k s t) =
    subst (λ i. TypeCase f e i (Circ A B) n) (sym k) (circ_case s t)

-- Two types at one entry with one kind.
type_case_at : {f : List ℕ} {e n : ℕ} {A : Ty} (k : ℕ) → kind_at f e ≡ k → TypeAt f e A n → TypeCase f e k A n
type_case_at {f} {e} {n} {A} k q s = subst (λ i. TypeCase f e i A n) q (type_case s)

-- This is the only type that stands at e, and it ends at n.
abbrev OnlyType : List ℕ → ℕ → Ty → ℕ → Type 0
OnlyType f e A n = (B : Ty) (m : ℕ) → TypeAt f e B m → (A ≡ B) × (n ≡ m)

only_two : {f : List ℕ} {e m m' n n' : ℕ} {A A' B B' : Ty} (C : Ty → Ty → Ty)
    → OnlyType f (suc e) A m → OnlyType f m B n
    → TypeAt f (suc e) A' m' → TypeAt f m' B' n'
    → (C A B ≡ C A' B') × (n ≡ n')
only_two {f} {m} {m'} {n} {n'} {A} {A'} {B} {B'} C first second s t =
    let p = first A' m' s in
    let q = second B' n' (subst (λ i. TypeAt f i B' n') (sym p.1) t) in
    (ap₂ C p.0 q.0, q.1)

bit_unique : {f : List ℕ} {e m : ℕ} {B : Ty} → TypeCase f e 0 B m → (wire Bit ≡ B) × (suc e ≡ m)
bit_unique bit_case = (refl, refl)

qubit_unique : {f : List ℕ} {e m : ℕ} {B : Ty} → TypeCase f e 1 B m → (wire Qubit ≡ B) × (suc e ≡ m)
qubit_unique qubit_case = (refl, refl)

unit_unique : {f : List ℕ} {e m : ℕ} {B : Ty} → TypeCase f e 6 B m → (unit ≡ B) × (suc e ≡ m)
unit_unique unit_case = (refl, refl)

tensor_unique : {f : List ℕ} {e m n k : ℕ} {A B D : Ty}
    → OnlyType f (suc e) A m → OnlyType f m B n → TypeCase f e 2 D k
    → (A ⊗ B ≡ D) × (n ≡ k)
tensor_unique first second (tensor_case s t) = only_two ◌⊗◌ first second s t

function_unique : {f : List ℕ} {e m n k : ℕ} {A B D : Ty}
    → OnlyType f (suc e) A m → OnlyType f m B n → TypeCase f e 3 D k
    → (A ⊸ B ≡ D) × (n ≡ k)
function_unique first second (function_case s t) = only_two ◌⊸◌ first second s t

reusable_unique : {f : List ℕ} {e n k : ℕ} {A D : Ty}
    → OnlyType f (suc e) A n → TypeCase f e 4 D k
    → (! A ≡ D) × (n ≡ k)
reusable_unique part (reusable_case {n = m} {A = B} s) = let p = part B m s in (ap !◌ p.0, p.1)

circ_unique : {f : List ℕ} {e m n k : ℕ} {A B D : Ty}
    → OnlyType f (suc e) A m → OnlyType f m B n → TypeCase f e 5 D k
    → (Circ A B ≡ D) × (n ≡ k)
circ_unique first second (circ_case s t) = only_two Circ first second s t

-- At an entry stands one type at most, with one end.
pub type_unique : {f : List ℕ} {e n : ℕ} {A : Ty}
    → TypeAt f e A n
    → (B : Ty) (m : ℕ) → TypeAt f e B m
    → (A ≡ B) × (n ≡ m)
type_unique (bit_at k) D j u = bit_unique (type_case_at 0 k u)
type_unique (qubit_at k) D j u = qubit_unique (type_case_at 1 k u)
type_unique (unit_at k) D j u = unit_unique (type_case_at 6 k u)
type_unique (tensor_at k s t) D j u = tensor_unique (type_unique s) (type_unique t) (type_case_at 2 k u)
type_unique (function_at k s t) D j u = function_unique (type_unique s) (type_unique t) (type_case_at 3 k u)
type_unique (reusable_at k s) D j u = reusable_unique (type_unique s) (type_case_at 4 k u)
type_unique (circ_at k s t) D j u = circ_unique (type_unique s) (type_unique t) (type_case_at 5 k u)

-- At a position stands one type at most.
pub position_unique : {f : List ℕ} {p : ℕ} {A B : Ty} → TypeAtPosition f p A → TypeAtPosition f p B → A ≡ B
position_unique {B} (at_position s h) (at_position {n = m} t l) = (type_unique s B m t).0

-- The term that stands at e, by the kind of e.
data TermCase (f : List ℕ) (e : ℕ) : ℕ → Term → ℕ → Type 0 where
  variable_case : TermCase f e 16 (variable (argument_at f e)) (suc e)
  label_case : TermCase f e 17 (label (argument_at f e)) (suc e)
  abstraction_case : {n : ℕ} {A : Ty} {M : Term}
      → TypeAtPosition f (argument_at f e) A → TermAt f (suc e) M n
      → TermCase f e 18 (abstraction A M) n
  application_case : {m n : ℕ} {M N : Term}
      → TermAt f (suc e) M m → TermAt f m N n
      → TermCase f e 19 (application M N) n
  pair_case : {m n : ℕ} {M N : Term} → TermAt f (suc e) M m → TermAt f m N n → TermCase f e 20 (pair M N) n
  let_case : {m n : ℕ} {M N : Term} → TermAt f (suc e) M m → TermAt f m N n → TermCase f e 21 (let_in M N) n
  lift_case : {n : ℕ} {M : Term} → TermAt f (suc e) M n → TermCase f e 22 (lift M) n
  force_case : {n : ℕ} {M : Term} → TermAt f (suc e) M n → TermCase f e 23 (force M) n
  box_case : {n : ℕ} {T : Ty} {M : Term}
      → TypeAtPosition f (argument_at f e) T → TermAt f (suc e) M n
      → TermCase f e 24 (box T M) n
  apply_case : {m n : ℕ} {M N : Term} → TermAt f (suc e) M m → TermAt f m N n → TermCase f e 25 (apply M N) n
  gate_case : TermCase f e 26 (gate (argument_at f e)) (suc e)
  unit_value_case : TermCase f e 27 unit_value (suc e)

term_case : {f : List ℕ} {e n : ℕ} {M : Term} → TermAt f e M n → TermCase f e (kind_at f e) M n
term_case {f} (variable_term_at {e = e} k a) =
    subst (λ x. TermCase f e (kind_at f e) (variable x) (suc e)) a
    (subst (λ i. TermCase f e i (variable (argument_at f e)) (suc e)) (sym k) variable_case)
term_case {f} (label_at {e = e} k a) =
    subst (λ x. TermCase f e (kind_at f e) (label x) (suc e)) a
    (subst (λ i. TermCase f e i (label (argument_at f e)) (suc e)) (sym k) label_case)
term_case {f} (abstraction_at {e = e} {n = n} {A = A} {M = M} k a s) =
    subst (λ i. TermCase f e i (abstraction A M) n) (sym k) (abstraction_case a s)
term_case {f} (application_at {e = e} {n = n} {M = M} {N = N} k a s t) =
    subst (λ i. TermCase f e i (application M N) n) (sym k) (application_case s t)
term_case {f} (pair_at {e = e} {n = n} {M = M} {N = N} k a s t) =
    subst (λ i. TermCase f e i (pair M N) n) (sym k) (pair_case s t)
term_case {f} (let_at {e = e} {n = n} {M = M} {N = N} k a s t) =
    subst (λ i. TermCase f e i (let_in M N) n) (sym k) (let_case s t)
term_case {f} (lift_at {e = e} {n = n} {M = M} k a s) =
    subst (λ i. TermCase f e i (lift M) n) (sym k) (lift_case s)
term_case {f} (force_at {e = e} {n = n} {M = M} k a s) =
    subst (λ i. TermCase f e i (force M) n) (sym k) (force_case s)
term_case {f} (box_term_at {e = e} {n = n} {T = T} {M = M} k a s) =
    subst (λ i. TermCase f e i (box T M) n) (sym k) (box_case a s)
term_case {f} (apply_at {e = e} {n = n} {M = M} {N = N} k a s t) =
    subst (λ i. TermCase f e i (apply M N) n) (sym k) (apply_case s t)
term_case {f} (gate_term_at {e = e} k a) =
    subst (λ x. TermCase f e (kind_at f e) (gate x) (suc e)) a
    (subst (λ i. TermCase f e i (gate (argument_at f e)) (suc e)) (sym k) gate_case)
term_case {f} (unit_value_at {e = e} k a) = subst (λ i. TermCase f e i unit_value (suc e)) (sym k) unit_value_case

term_case_at : {f : List ℕ} {e n : ℕ} {M : Term} (k : ℕ) → kind_at f e ≡ k → TermAt f e M n → TermCase f e k M n
term_case_at {f} {e} {n} {M} k q s = subst (λ i. TermCase f e i M n) q (term_case s)

-- This is the only term that stands at e, and it ends at n.
abbrev OnlyTerm : List ℕ → ℕ → Term → ℕ → Type 0
OnlyTerm f e M n = (N : Term) (m : ℕ) → TermAt f e N m → (M ≡ N) × (n ≡ m)

only_parts : {f : List ℕ} {e m m' n n' : ℕ} {M M' N N' : Term} (C : Term → Term → Term)
    → OnlyTerm f (suc e) M m → OnlyTerm f m N n
    → TermAt f (suc e) M' m' → TermAt f m' N' n'
    → (C M N ≡ C M' N') × (n ≡ n')
only_parts {f} {m} {m'} {n} {n'} {M} {M'} {N} {N'} C first second s t =
    let p = first M' m' s in
    let q = second N' n' (subst (λ i. TermAt f i N' n') (sym p.1) t) in
    (ap₂ C p.0 q.0, q.1)

variable_unique : {f : List ℕ} {e x k : ℕ} {D : Term}
    → argument_at f e ≡ x → TermCase f e 16 D k
    → (variable x ≡ D) × (suc e ≡ k)
variable_unique a variable_case = (ap variable (sym a), refl)

label_unique : {f : List ℕ} {e x k : ℕ} {D : Term}
    → argument_at f e ≡ x → TermCase f e 17 D k
    → (label x ≡ D) × (suc e ≡ k)
label_unique a label_case = (ap label (sym a), refl)

gate_unique : {f : List ℕ} {e x k : ℕ} {D : Term}
    → argument_at f e ≡ x → TermCase f e 26 D k
    → (gate x ≡ D) × (suc e ≡ k)
gate_unique a gate_case = (ap gate (sym a), refl)

unit_value_unique : {f : List ℕ} {e k : ℕ} {D : Term} → TermCase f e 27 D k → (unit_value ≡ D) × (suc e ≡ k)
unit_value_unique unit_value_case = (refl, refl)

abstraction_unique : {f : List ℕ} {e n k : ℕ} {A : Ty} {M D : Term}
    → TypeAtPosition f (argument_at f e) A → OnlyTerm f (suc e) M n → TermCase f e 18 D k
    → (abstraction A M ≡ D) × (n ≡ k)
abstraction_unique a part (abstraction_case {n = m} {M = N} b s) =
    let p = part N m s in (ap₂ abstraction (position_unique a b) p.0, p.1)

box_unique : {f : List ℕ} {e n k : ℕ} {A : Ty} {M D : Term}
    → TypeAtPosition f (argument_at f e) A → OnlyTerm f (suc e) M n → TermCase f e 24 D k
    → (box A M ≡ D) × (n ≡ k)
box_unique a part (box_case {n = m} {M = N} b s) =
    let p = part N m s in (ap₂ box (position_unique a b) p.0, p.1)

lift_unique : {f : List ℕ} {e n k : ℕ} {M D : Term}
    → OnlyTerm f (suc e) M n → TermCase f e 22 D k
    → (lift M ≡ D) × (n ≡ k)
lift_unique part (lift_case {n = m} {M = N} s) = let p = part N m s in (ap lift p.0, p.1)

force_unique : {f : List ℕ} {e n k : ℕ} {M D : Term}
    → OnlyTerm f (suc e) M n → TermCase f e 23 D k
    → (force M ≡ D) × (n ≡ k)
force_unique part (force_case {n = m} {M = N} s) = let p = part N m s in (ap force p.0, p.1)

application_unique : {f : List ℕ} {e m n k : ℕ} {M N D : Term}
    → OnlyTerm f (suc e) M m → OnlyTerm f m N n → TermCase f e 19 D k
    → (application M N ≡ D) × (n ≡ k)
application_unique first second (application_case s t) = only_parts application first second s t

pair_unique : {f : List ℕ} {e m n k : ℕ} {M N D : Term}
    → OnlyTerm f (suc e) M m → OnlyTerm f m N n → TermCase f e 20 D k
    → (pair M N ≡ D) × (n ≡ k)
pair_unique first second (pair_case s t) = only_parts pair first second s t

let_unique : {f : List ℕ} {e m n k : ℕ} {M N D : Term}
    → OnlyTerm f (suc e) M m → OnlyTerm f m N n → TermCase f e 21 D k
    → (let_in M N ≡ D) × (n ≡ k)
let_unique first second (let_case s t) = only_parts let_in first second s t

apply_unique : {f : List ℕ} {e m n k : ℕ} {M N D : Term}
    → OnlyTerm f (suc e) M m → OnlyTerm f m N n → TermCase f e 25 D k
    → (apply M N ≡ D) × (n ≡ k)
apply_unique first second (apply_case s t) = only_parts apply first second s t

-- At an entry stands one term at most, with one end.
pub term_unique : {f : List ℕ} {e n : ℕ} {M : Term}
    → TermAt f e M n
    → (N : Term) (m : ℕ) → TermAt f e N m
    → (M ≡ N) × (n ≡ m)
term_unique (variable_term_at k a) D j u = variable_unique a (term_case_at 16 k u)
term_unique (label_at k a) D j u = label_unique a (term_case_at 17 k u)
term_unique (abstraction_at k a s) D j u = abstraction_unique a (term_unique s) (term_case_at 18 k u)
term_unique (application_at k a s t) D j u = application_unique (term_unique s) (term_unique t) (term_case_at 19 k u)
term_unique (pair_at k a s t) D j u = pair_unique (term_unique s) (term_unique t) (term_case_at 20 k u)
term_unique (let_at k a s t) D j u = let_unique (term_unique s) (term_unique t) (term_case_at 21 k u)
term_unique (lift_at k a s) D j u = lift_unique (term_unique s) (term_case_at 22 k u)
term_unique (force_at k a s) D j u = force_unique (term_unique s) (term_case_at 23 k u)
term_unique (box_term_at k a s) D j u = box_unique a (term_unique s) (term_case_at 24 k u)
term_unique (apply_at k a s t) D j u = apply_unique (term_unique s) (term_unique t) (term_case_at 25 k u)
term_unique (gate_term_at k a) D j u = gate_unique a (term_case_at 26 k u)
term_unique (unit_value_at k a) D j u = unit_value_unique (term_case_at 27 k u)

-- Two lists of one length that have the same at each place.
same_lists : (l m : List Wire)
    → length l ≡ length m
    → ((i : ℕ) (α β : Wire) → nth l i ≡ some α → nth m i ≡ some β → α ≡ β)
    → l ≡ m
same_lists [] [] h k = refl
same_lists [] (β ∷ m) h k = let z : ⊥ = omega arith in absurd z
same_lists (α ∷ l) [] h k = let z : ⊥ = omega arith in absurd z
same_lists (α ∷ l) (β ∷ m) h k =
    ap₂ ◌∷◌ (k 0 α β refl refl) (same_lists l m (omega arith) (λ i γ δ p q. k (suc i) γ δ p q))

-- A file has one program at most: the labels and the term are settled by the file.
pub tree_unique : {f : List ℕ} {labels labels' : List Wire} {M M' : Term}
    → AcceptedFile f labels M → AcceptedFile f labels' M'
    → (labels ≡ labels') × (M ≡ M')
tree_unique {f} {labels} {labels'} {M} {M'} s t = (
  same_lists labels labels' (s.label_count_is ∙ sym t.label_count_is)
      (λ i α β p q. same_wire α β (sym (s.label_kinds_are i α p) ∙ t.label_kinds_are i β q)),
  (term_unique s.term_is_at M' _ t.term_is_at).0,
)
