-- From the tests to the trees: the label section, the types at all positions, the term.
use Rattle.std.specs.Prelude.{ℕ, zero, suc, ◌+◌, ◌-◌, ◌≤◌, ◌<◌, ◌≡◌, refl, Bool, true, false, ◌&&◌, not, List, [], ◌∷◌, T as Truth, eqb, ltb, length, Result, Ok, is_some}
use Rattle.std.proofs.Common.{sym, ap, subst, ◌∙◌, true≢false, arith, eqb→eq, ltb→lt}
use Rattle.std.proofs.Math.Option.{some}
use Rattle.std.proofs.Math.Decide.{dec_lt}
use Rattle.std.proofs.lemmas.Bool.{not-false}
use Rattle.rules.specs.Kinds.{circuit_kind, box_kind}
use Rattle.rules.specs.Types.{Wire, Bit, Qubit, Ty, ◌⊗◌, ◌⊸◌, !◌, Circ, is_wire_type, wire_code}
use Rattle.rules.specs.Gates.{nth, is_gate}
use Rattle.rules.specs.Terms.{Term, abstraction, application, pair, let_in, lift, force, box, apply}
use Rattle.rules.proofs.Laws.Booleans.{and_both}
use Rattle.program.specs.Format.{known}
use Rattle.program.specs.Format.{label_count, type_count, term_count, first_term, entry_count, kind_at, argument_at}
use Rattle.program.specs.Format.{label_shape, type_shape, term_shape, shape_at, shape_allows}
use Rattle.program.specs.Traversal.{traverse_from}
use Rattle.program.specs.Reading.{runs_out, kind_wrong, argument_wrong, type_wrong, circ_wrong, box_wrong, wires_wrong}
use Rattle.program.specs.Trees.{TypeAt, bit_at, qubit_at, unit_at, tensor_at, function_at, reusable_at, circ_at}
use Rattle.program.specs.Trees.{TypeAtPosition}
use Rattle.program.specs.Trees.{at_position, formed, TermAt, variable_term_at, label_at, abstraction_at, application_at}
use Rattle.program.specs.Trees.{pair_at, let_at, lift_at, force_at, box_term_at, apply_at, gate_term_at, labels_below, gates_known}
use Rattle.program.specs.Trees.{unit_value_at, boxes_wired}
use Rattle.program.proofs.Laws.Kinds.{of_true, TypeKind, is_bit, is_qubit, is_tensor, is_function, is_reusable}
use Rattle.program.proofs.Laws.Kinds.{is_circ, is_unit, type_kind, label_range, shape_of_label, shape_of_type, shape_of_term}
use Rattle.program.proofs.Laws.Kinds.{TermKind, is_variable, is_label, is_abstraction, is_application, is_pair, is_let}
use Rattle.program.proofs.Laws.Kinds.{is_lift_lem, is_force, is_box, is_apply, is_gate_lem, is_unit_value, term_kind}
use Rattle.program.proofs.Laws.Kinds.{label_shape_zero, type_shape_zero, zero_shape_argument}
use Rattle.program.proofs.Laws.TreeTraversal.{traverse_entry, type_parts_lem, type_end, term_parts_lem, term_end}
use Rattle.program.proofs.Laws.WireTests.{circ_test, box_test, wires_of_type, wires_of_term}
use Rattle.program.proofs.Laws.Tests.{Passed}
use Rattle.program.specs.declared.format.Argument.TheVariants.{Zero}
use Rattle.program.specs.declared.traversal.Halt.{Halt}
use Rattle.program.specs.Traversal.{End}
use Rattle.program.specs.declared.traversal.Parts.TheVariants.{Leaf, One, Two}

-- Types stand one behind the other from e to n − 1, one for each part that a traversal waits for.
data TypesAt (f : List ℕ) : ℕ → List ℕ → ℕ → Type 0 where
  no_type : {e : ℕ} → TypesAt f e [] e
  next_type : {e m n b : ℕ} {A : Ty} {waiting : List ℕ}
      → TypeAt f e A m → TypesAt f m waiting n
      → TypesAt f e (b ∷ waiting) n

-- They end inside the type section.
abbrev Types : List ℕ → ℕ → List ℕ → Type 0
Types f e waiting = (n : ℕ) × TypesAt f e waiting n × (n ≤ first_term f)

types_leaf : {f : List ℕ} {e b : ℕ} {A : Ty} {waiting : List ℕ}
    → TypeAt f e A (suc e) → Types f (suc e) waiting
    → Types f e (b ∷ waiting)
types_leaf s r = (r.0, next_type s r.1, r.2)

types_one_at : {f : List ℕ} {e b x n : ℕ} {waiting : List ℕ} (C : Ty → Ty)
    → ((A : Ty) (m : ℕ) → TypeAt f (suc e) A m → TypeAt f e (C A) m)
    → TypesAt f (suc e) (x ∷ waiting) n
    → TypesAt f e (b ∷ waiting) n
types_one_at C g (next_type {m = m} {A = A} s r) = next_type (g A m s) r

types_two_at : {f : List ℕ} {e b x y n : ℕ} {waiting : List ℕ} (C : Ty → Ty → Ty)
    → ((A B : Ty) (m k : ℕ) → TypeAt f (suc e) A m → TypeAt f m B k → TypeAt f e (C A B) k)
    → TypesAt f (suc e) (x ∷ y ∷ waiting) n
    → TypesAt f e (b ∷ waiting) n
types_two_at C g (next_type {m = m} {A = A} s (next_type {m = k} {A = B} t r)) = next_type (g A B m k s t) r

-- One entry of the type section.
type_entry : (f : List ℕ) (left e b : ℕ) (waiting : List ℕ)
    → label_count f ≤ e → e < first_term f → TypeKind (kind_at f e)
    → runs_out (traverse_from End f (suc left) e (b ∷ waiting)) ≡ false
    → ((w : List ℕ) → runs_out (traverse_from End f left (suc e) w) ≡ false → Types f (suc e) w)
    → Types f e (b ∷ waiting)
unfolding type_shape
type_entry f left e b waiting h l (is_bit k) o ih =
    types_leaf (bit_at k)
    (ih waiting (ap runs_out (sym (traverse_entry End f left e b waiting Leaf (type_parts_lem f e b 0 h l k))) ∙ o))
type_entry f left e b waiting h l (is_qubit k) o ih =
    types_leaf (qubit_at k)
    (ih waiting (ap runs_out (sym (traverse_entry End f left e b waiting Leaf (type_parts_lem f e b 1 h l k))) ∙ o))
type_entry f left e b waiting h l (is_tensor k) o ih =
    let r =
    ih (b ∷ b ∷ waiting)
    (ap runs_out (sym (traverse_entry End f left e b waiting (Two b b) (type_parts_lem f e b 2 h l k))) ∙ o) in
    (r.0, types_two_at ◌⊗◌ (λ A B m n s t. tensor_at k s t) r.1, r.2)
type_entry f left e b waiting h l (is_function k) o ih =
    let r =
    ih (b ∷ b ∷ waiting)
    (ap runs_out (sym (traverse_entry End f left e b waiting (Two b b) (type_parts_lem f e b 3 h l k))) ∙ o) in
    (r.0, types_two_at ◌⊸◌ (λ A B m n s t. function_at k s t) r.1, r.2)
type_entry f left e b waiting h l (is_reusable k) o ih =
    let r =
    ih (b ∷ waiting)
    (ap runs_out (sym (traverse_entry End f left e b waiting (One b) (type_parts_lem f e b 4 h l k))) ∙ o) in
    (r.0, types_one_at !◌ (λ A m s. reusable_at k s) r.1, r.2)
type_entry f left e b waiting h l (is_circ k) o ih =
    let r =
    ih (b ∷ b ∷ waiting)
    (ap runs_out (sym (traverse_entry End f left e b waiting (Two b b) (type_parts_lem f e b 5 h l k))) ∙ o) in
    (r.0, types_two_at Circ (λ A B m n s t. circ_at k s t) r.1, r.2)
type_entry f left e b waiting h l (is_unit k) o ih =
    types_leaf (unit_at k)
    (ih waiting (ap runs_out (sym (traverse_entry End f left e b waiting Leaf (type_parts_lem f e b 6 h l k))) ∙ o))

-- An entry of the type section has one of its kinds.
kind_of_type : (f : List ℕ) → Passed f → (e : ℕ) → label_count f ≤ e → e < first_term f → TypeKind (kind_at f e)
unfolding kind_wrong
kind_of_type f p e h l =
    type_kind (kind_at f e)
    (of_true (is_some (type_shape (kind_at f e)))
    (ap is_some (sym (shape_of_type f e h l))
    ∙ not-false (is_some (shape_at f e)) (p.kinds_right e (omega arith))))

-- A traversal that does not run out of the section leaves a type behind it for each part.
types_from : (f : List ℕ)
    → Passed f
    → (left e : ℕ) (waiting : List ℕ)
    → label_count f ≤ e → e + left ≡ first_term f
    → runs_out (traverse_from End f left e waiting) ≡ false
    → Types f e waiting
types_from f p zero e [] h l o = (e, no_type, omega arith)
types_from f p zero e (b ∷ waiting) h l o = absurd (true≢false o)
types_from f p (suc left) e [] h l o = (e, no_type, omega arith)
types_from f p (suc left) e (b ∷ waiting) h l o =
    type_entry f left e b waiting h (omega arith) (kind_of_type f p e h (omega arith)) o
    (λ w q. types_from f p left (suc e) w (omega arith) (omega arith) q)

first_of_types : {f : List ℕ} {e n b : ℕ} → TypesAt f e (b ∷ []) n → (A : Ty) × TypeAt f e A n
first_of_types (next_type {A = A} s no_type) = (A, s)

-- At each position of the type section stands a type that ends inside it.
pub position_typed : (f : List ℕ) → Passed f → (q : ℕ) → q < type_count f → (A : Ty) × TypeAtPosition f q A
unfolding type_wrong
position_typed f p q h =
    let e = label_count f + q in
    let r =
    types_from f p (first_term f - e) e (0 ∷ []) (omega arith) (omega arith)
    (p.types_right e (omega arith) (omega arith)) in
    let s = first_of_types r.1 in
    (s.0, at_position s.1 r.2)

-- A test that is found false by an equation with a negation.
holds_of : (b w : Bool) → w ≡ false → w ≡ not b → Truth b
holds_of true w h q = tt
holds_of false w h q = true≢false (sym q ∙ h)

-- The Circs of a type of the section have wire types for their parts.
pub type_formed : {f : List ℕ} {e n : ℕ} {A : Ty}
    → Passed f → TypeAt f e A n → label_count f ≤ e → n ≤ first_term f
    → Truth (formed A)
type_formed p (bit_at k) h l = tt
type_formed p (qubit_at k) h l = tt
type_formed p (unit_at k) h l = tt
type_formed p (tensor_at {A = A} {B = B} k s t) h l =
    let u = type_end s in
    let v = type_end t in
    and_both (formed A) (formed B) (type_formed p s (omega arith) (omega arith)) (type_formed p t (omega arith) l)
type_formed p (function_at {A = A} {B = B} k s t) h l =
    let u = type_end s in
    let v = type_end t in
    and_both (formed A) (formed B) (type_formed p s (omega arith) (omega arith)) (type_formed p t (omega arith) l)
type_formed p (reusable_at k s) h l = type_formed p s (omega arith) l
type_formed {f} p (circ_at {e = e} {A = A} {B = B} k s t) h l =
    let u = type_end s in
    let v = type_end t in
    holds_of (is_wire_type A && is_wire_type B) (wires_wrong f e) (p.wires_right e (omega arith))
    (wires_of_type f e h (omega arith) ∙ ap (λ i. eqb i circuit_kind && circ_wrong f e) k ∙ circ_test s t l)

-- The wire of a label's kind.
abbrev wire_of : ℕ → Wire
wire_of zero = Bit
wire_of (suc k) = Qubit

-- The wires of n entries from e on.
abbrev wires_from : List ℕ → ℕ → ℕ → List Wire
wires_from f e zero = []
wires_from f e (suc n) = wire_of (kind_at f e) ∷ wires_from f (suc e) n

wires_count : (f : List ℕ) (e n : ℕ) → length (wires_from f e n) ≡ n
wires_count f e zero = refl
wires_count f e (suc n) = ap suc (wires_count f (suc e) n)

wire_of_code : (k : ℕ) → k ≤ 1 → k ≡ wire_code (wire_of k)
wire_of_code zero h = refl
wire_of_code (suc zero) h = refl
wire_of_code (suc (suc k)) h = let z : ⊥ = omega arith in absurd z

pub some_is : {A : Type 0} (a b : A) → some a ≡ some b → a ≡ b
some_is a b h = cc

wires_are : (f : List ℕ) (e n : ℕ)
    → ((i : ℕ) → e ≤ i → i < e + n → kind_at f i ≤ 1)
    → (i : ℕ) (α : Wire) → nth (wires_from f e n) i ≡ some α
    → kind_at f (e + i) ≡ wire_code α
wires_are f e zero h i α q = let z : ◌≡◌ {A = ℕ} 0 1 = cc in let y : ⊥ = omega arith in absurd y
wires_are f e (suc n) h zero α q =
    ap (kind_at f) (omega arith)
    ∙ wire_of_code (kind_at f e) (h e (omega arith) (omega arith))
    ∙ ap wire_code (some_is (wire_of (kind_at f e)) α q)
wires_are f e (suc n) h (suc i) α q =
    ap (kind_at f) (omega arith) ∙ wires_are f (suc e) n (λ j k l. h j (omega arith) (omega arith)) i α q

-- The wires of the label section.
abbrev pub label_wires : List ℕ → List Wire
label_wires f = wires_from f 0 (label_count f)

pub label_wires_count : (f : List ℕ) → length (label_wires f) ≡ label_count f
label_wires_count f = wires_count f 0 (label_count f)

kind_of_label : (f : List ℕ) → Passed f → (e : ℕ) → e < label_count f → kind_at f e ≤ 1
unfolding kind_wrong
kind_of_label f p e h =
    label_range (kind_at f e)
    (of_true (is_some (label_shape (kind_at f e)))
    (ap is_some (sym (shape_of_label f e h))
    ∙ not-false (is_some (shape_at f e)) (p.kinds_right e (omega arith))))

pub label_wires_kinds : (f : List ℕ)
    → Passed f
    → (e : ℕ) (α : Wire) → nth (label_wires f) e ≡ some α
    → kind_at f e ≡ wire_code α
label_wires_kinds f p e α q =
    ap (kind_at f) (omega arith)
    ∙ wires_are f 0 (label_count f) (λ i k l. kind_of_label f p i (omega arith)) e α q

-- The arguments of labels and types are 0.
pub argument_zero : (f : List ℕ) → Passed f → (e : ℕ) → e < first_term f → argument_at f e ≡ 0
argument_zero f p e h = go (dec_lt e (label_count f))
  where
    of_shape : (parts : ℕ) → shape_at f e ≡ known parts Zero → argument_at f e ≡ 0
    of_shape parts q =
        eqb→eq (argument_at f e) 0
        (holds_of (eqb (argument_at f e) 0) (argument_wrong f e) (p.arguments_right e (omega arith))
        (zero_shape_argument f e parts q))

    go : Dec (e < label_count f) → argument_at f e ≡ 0
    go (yes l) = of_shape 0 (shape_of_label f e l ∙ label_shape_zero (kind_at f e) (kind_of_label f p e l))
    go (no l) =
        let k : label_count f ≤ e = omega (arith, l) in
        let r = type_shape_zero (kind_at f e) (kind_of_type f p e k h) in
        of_shape r.0 (shape_of_type f e k h ∙ r.1)

-- Terms stand one behind the other from e to n − 1, one for each part that a traversal waits for.
data TermsAt (f : List ℕ) : ℕ → List ℕ → ℕ → Type 0 where
  no_term : {e : ℕ} → TermsAt f e [] e
  next_term : {e m n b : ℕ} {M : Term} {waiting : List ℕ}
      → TermAt f e M m → TermsAt f m waiting n
      → TermsAt f e (b ∷ waiting) n

terms_one_at : {f : List ℕ} {e b x n : ℕ} {waiting : List ℕ} (C : Term → Term)
    → ((M : Term) (m : ℕ) → TermAt f (suc e) M m → TermAt f e (C M) m)
    → TermsAt f (suc e) (x ∷ waiting) n
    → TermsAt f e (b ∷ waiting) n
terms_one_at C g (next_term {m = m} {M = M} s r) = next_term (g M m s) r

terms_two_at : {f : List ℕ} {e b x y n : ℕ} {waiting : List ℕ} (C : Term → Term → Term)
    → ((M N : Term) (m k : ℕ) → TermAt f (suc e) M m → TermAt f m N k → TermAt f e (C M N) k)
    → TermsAt f (suc e) (x ∷ y ∷ waiting) n
    → TermsAt f e (b ∷ waiting) n
terms_two_at C g (next_term {m = m} {M = M} s (next_term {m = k} {M = N} t r)) = next_term (g M N m k s t) r

-- The argument of an entry of the term section is one that its kind allows.
argument_of_term : (f : List ℕ)
    → Passed f
    → (e k : ℕ) → first_term f ≤ e → e < entry_count f → kind_at f e ≡ k
    → Truth (shape_allows (label_count f) (type_count f) (term_shape k) (argument_at f e))
unfolding argument_wrong
argument_of_term f p e k h l q =
    of_true (shape_allows (label_count f) (type_count f) (term_shape k) (argument_at f e))
    (ap (λ s. shape_allows (label_count f) (type_count f) s (argument_at f e)) (sym (shape_of_term f e h ∙ ap term_shape q))
    ∙ not-false (shape_allows (label_count f) (type_count f) (shape_at f e) (argument_at f e)) (p.arguments_right e l))

-- One entry of the term section.
term_entry : (f : List ℕ)
    → Passed f
    → (left e b n : ℕ) (waiting : List ℕ)
    → first_term f ≤ e → e < entry_count f → TermKind (kind_at f e)
    → traverse_from End f (suc left) e (b ∷ waiting) ≡ Ok n
    → ((w : List ℕ) → traverse_from End f left (suc e) w ≡ Ok n → TermsAt f (suc e) w n)
    → TermsAt f e (b ∷ waiting) n
unfolding term_shape
term_entry f p left e b n waiting h l (is_variable k) o ih =
    next_term (variable_term_at k refl)
    (ih waiting (sym (traverse_entry End f left e b waiting Leaf (term_parts_lem f e b 16 h k)) ∙ o))
term_entry f p left e b n waiting h l (is_label k) o ih =
    next_term (label_at k refl)
    (ih waiting (sym (traverse_entry End f left e b waiting Leaf (term_parts_lem f e b 17 h k)) ∙ o))
term_entry f p left e b n waiting h l (is_abstraction k) o ih =
    let r =
    ih (b ∷ waiting) (sym (traverse_entry End f left e b waiting (One b) (term_parts_lem f e b 18 h k)) ∙ o) in
    let t = position_typed f p (argument_at f e) (ltb→lt (argument_at f e) (type_count f) (argument_of_term f p e 18 h l k)) in
    terms_one_at (abstraction t.0) (λ M m s. abstraction_at k t.1 s) r
term_entry f p left e b n waiting h l (is_application k) o ih =
    let r =
    ih (b ∷ b ∷ waiting) (sym (traverse_entry End f left e b waiting (Two b b) (term_parts_lem f e b 19 h k)) ∙ o) in
    let z = eqb→eq (argument_at f e) 0 (argument_of_term f p e 19 h l k) in
    terms_two_at application (λ M N m j s t. application_at k z s t) r
term_entry f p left e b n waiting h l (is_pair k) o ih =
    let r =
    ih (b ∷ b ∷ waiting) (sym (traverse_entry End f left e b waiting (Two b b) (term_parts_lem f e b 20 h k)) ∙ o) in
    let z = eqb→eq (argument_at f e) 0 (argument_of_term f p e 20 h l k) in
    terms_two_at pair (λ M N m j s t. pair_at k z s t) r
term_entry f p left e b n waiting h l (is_let k) o ih =
    let r =
    ih (b ∷ b ∷ waiting) (sym (traverse_entry End f left e b waiting (Two b b) (term_parts_lem f e b 21 h k)) ∙ o) in
    let z = eqb→eq (argument_at f e) 0 (argument_of_term f p e 21 h l k) in
    terms_two_at let_in (λ M N m j s t. let_at k z s t) r
term_entry f p left e b n waiting h l (is_lift_lem k) o ih =
    let r =
    ih (b ∷ waiting) (sym (traverse_entry End f left e b waiting (One b) (term_parts_lem f e b 22 h k)) ∙ o) in
    let z = eqb→eq (argument_at f e) 0 (argument_of_term f p e 22 h l k) in
    terms_one_at lift (λ M m s. lift_at k z s) r
term_entry f p left e b n waiting h l (is_force k) o ih =
    let r =
    ih (b ∷ waiting) (sym (traverse_entry End f left e b waiting (One b) (term_parts_lem f e b 23 h k)) ∙ o) in
    let z = eqb→eq (argument_at f e) 0 (argument_of_term f p e 23 h l k) in
    terms_one_at force (λ M m s. force_at k z s) r
term_entry f p left e b n waiting h l (is_box k) o ih =
    let r =
    ih (b ∷ waiting) (sym (traverse_entry End f left e b waiting (One b) (term_parts_lem f e b 24 h k)) ∙ o) in
    let t = position_typed f p (argument_at f e) (ltb→lt (argument_at f e) (type_count f) (argument_of_term f p e 24 h l k)) in
    terms_one_at (box t.0) (λ M m s. box_term_at k t.1 s) r
term_entry f p left e b n waiting h l (is_apply k) o ih =
    let r =
    ih (b ∷ b ∷ waiting) (sym (traverse_entry End f left e b waiting (Two b b) (term_parts_lem f e b 25 h k)) ∙ o) in
    let z = eqb→eq (argument_at f e) 0 (argument_of_term f p e 25 h l k) in
    terms_two_at apply (λ M N m j s t. apply_at k z s t) r
term_entry f p left e b n waiting h l (is_gate_lem k) o ih =
    next_term (gate_term_at k refl)
    (ih waiting (sym (traverse_entry End f left e b waiting Leaf (term_parts_lem f e b 26 h k)) ∙ o))
term_entry f p left e b n waiting h l (is_unit_value k) o ih =
    next_term (unit_value_at k (eqb→eq (argument_at f e) 0 (argument_of_term f p e 27 h l k)))
    (ih waiting (sym (traverse_entry End f left e b waiting Leaf (term_parts_lem f e b 27 h k)) ∙ o))

-- An entry of the term section has one of its kinds.
kind_of_term : (f : List ℕ) → Passed f → (e : ℕ) → first_term f ≤ e → e < entry_count f → TermKind (kind_at f e)
unfolding kind_wrong
kind_of_term f p e h l =
    term_kind (kind_at f e)
    (of_true (is_some (term_shape (kind_at f e)))
    (ap is_some (sym (shape_of_term f e h))
    ∙ not-false (is_some (shape_at f e)) (p.kinds_right e l)))

to_is : (m n : ℕ) → ◌≡◌ {A = Result ℕ Halt} (Ok m) (Ok n) → m ≡ n
to_is m n h = cc

-- A traversal that comes to an end leaves a term behind it for each part.
terms_from : (f : List ℕ)
    → Passed f
    → (left e n : ℕ) (waiting : List ℕ)
    → first_term f ≤ e → e + left ≡ entry_count f
    → traverse_from End f left e waiting ≡ Ok n
    → TermsAt f e waiting n
terms_from f p zero e n [] h l o = subst (λ i. TermsAt f e [] i) (to_is e n o) no_term
terms_from f p zero e n (b ∷ waiting) h l o = let z : ◌≡◌ {A = ℕ} 0 1 = cc in let y : ⊥ = omega arith in absurd y
terms_from f p (suc left) e n [] h l o = subst (λ i. TermsAt f e [] i) (to_is e n o) no_term
terms_from f p (suc left) e n (b ∷ waiting) h l o =
    term_entry f p left e b n waiting h (omega arith) (kind_of_term f p e h (omega arith)) o
    (λ w q. terms_from f p left (suc e) n w (omega arith) (omega arith) q)

first_of_terms : {f : List ℕ} {e n b : ℕ} → TermsAt f e (b ∷ []) n → (M : Term) × TermAt f e M n
first_of_terms (next_term {M = M} s no_term) = (M, s)

-- The term section is one whole term.
pub whole_term : (f : List ℕ) → Passed f → (M : Term) × TermAt f (first_term f) M (entry_count f)
whole_term f p =
    first_of_terms
    (terms_from f p (term_count f) (first_term f) (entry_count f) (0 ∷ []) (omega arith) refl p.one_term_lem)

-- The labels and gates that a term names are there, and its boxes are of wire types.
abbrev pub Allowed : List ℕ → Term → Type 0
Allowed f M =
    Truth (labels_below (label_count f) M) × Truth (gates_known M) × Truth (boxes_wired M)

allowed_two : (f : List ℕ) (M N : Term)
    → Allowed f M → Allowed f N
    → Truth (labels_below (label_count f) M && labels_below (label_count f) N)
    × Truth (gates_known M && gates_known N)
    × Truth (boxes_wired M && boxes_wired N)
allowed_two f M N h k = (
  and_both (labels_below (label_count f) M) (labels_below (label_count f) N) h.0 k.0,
  and_both (gates_known M) (gates_known N) h.1 k.1,
  and_both (boxes_wired M) (boxes_wired N) h.2 k.2,
)

-- The term that stands in a file that passes the tests.
pub term_allowed : {f : List ℕ} {e n : ℕ} {M : Term}
    → Passed f → TermAt f e M n → first_term f ≤ e → n ≤ entry_count f
    → Allowed f M
unfolding term_shape
term_allowed p (variable_term_at k a) h l = (tt, tt, tt)
term_allowed {f} p (label_at {e = e} k a) h l =
    (subst (λ x. Truth (ltb x (label_count f))) a (argument_of_term f p e 17 h l k), tt, tt)
term_allowed p (abstraction_at k a s) h l = term_allowed p s (omega arith) l
term_allowed {f} p (application_at {M = M} {N = N} k a s t) h l =
    let u = term_end s in
    let v = term_end t in
    allowed_two f M N (term_allowed p s (omega arith) (omega arith)) (term_allowed p t (omega arith) l)
term_allowed {f} p (pair_at {M = M} {N = N} k a s t) h l =
    let u = term_end s in
    let v = term_end t in
    allowed_two f M N (term_allowed p s (omega arith) (omega arith)) (term_allowed p t (omega arith) l)
term_allowed {f} p (let_at {M = M} {N = N} k a s t) h l =
    let u = term_end s in
    let v = term_end t in
    allowed_two f M N (term_allowed p s (omega arith) (omega arith)) (term_allowed p t (omega arith) l)
term_allowed p (lift_at k a s) h l = term_allowed p s (omega arith) l
term_allowed p (force_at k a s) h l = term_allowed p s (omega arith) l
term_allowed {f} p (box_term_at {e = e} {T = T} {M = M} k a s) h l =
    let u = term_end s in
    let r = term_allowed p s (omega arith) l in (
      r.0,
      r.1,
      and_both (is_wire_type T) (boxes_wired M)
          (holds_of (is_wire_type T) (wires_wrong f e) (p.wires_right e (omega arith))
          (wires_of_term f e h ∙ ap (λ i. eqb i box_kind && box_wrong f e) k ∙ box_test e a))
          r.2,
    )
term_allowed {f} p (apply_at {M = M} {N = N} k a s t) h l =
    let u = term_end s in
    let v = term_end t in
    allowed_two f M N (term_allowed p s (omega arith) (omega arith)) (term_allowed p t (omega arith) l)
term_allowed p (gate_term_at {e = e} k a) h l = (tt, subst (λ x. Truth (is_gate x)) a (argument_of_term _ p e 26 h l k), tt)
term_allowed p (unit_value_at k a) h l = (tt, tt, tt)
