-- `read` accepts exactly the files in which trees stand: what it accepts has a term, and what has a term it accepts.
use Rattle.std.specs.Prelude.{ℕ, ◌+◌, ◌-◌, ◌≤◌, ◌<◌, ◌≡◌, refl, Bool, true, false, ◌&&◌, not, List, [], ◌∷◌, T as Truth, eqb, ltb, is_some}
use Rattle.std.proofs.Common.{sym, ap, subst, ◌∙◌, true≢false, arith, eq-eqb, lt-ltb}
use Rattle.std.proofs.Math.Decide.{dec_lt}
use Rattle.rules.specs.Kinds.{circuit_kind, box_kind}
use Rattle.rules.specs.Types.{Wire, Ty, is_wire_type, entries}
use Rattle.rules.specs.Gates.{is_gate}
use Rattle.rules.specs.Terms.{Term}
use Rattle.rules.specs.Sizes.{nodes}
use Rattle.rules.proofs.Laws.Booleans.{and_left, and_right, is_true}
use Rattle.rules.proofs.Laws.TypeCodes.{wire_kind}
use Rattle.rules.proofs.Laws.Wires.{nth_within}
use Rattle.program.specs.Format.{known}
use Rattle.program.specs.Reading.{accepted}
use Rattle.program.specs.Format.{label_count, type_count, term_count, first_term, entry_count, kind_at, argument_at}
use Rattle.program.specs.Format.{term_shape, shape_at, shape_allows}
use Rattle.program.specs.Traversal.{traverse_from}
use Rattle.program.specs.Reading.{runs_out, kind_wrong, argument_wrong, type_wrong, circ_wrong, box_wrong, wires_wrong}
use Rattle.program.specs.Reading.{read_of}
use Rattle.program.specs.Trees.{TypeAt, bit_at, qubit_at, unit_at, tensor_at, function_at, reusable_at, circ_at}
use Rattle.program.specs.Trees.{TypeAtPosition}
use Rattle.program.specs.Trees.{at_position, formed, TermAt, variable_term_at, label_at, abstraction_at, application_at}
use Rattle.program.specs.Trees.{pair_at, let_at, lift_at, force_at, box_term_at, apply_at, gate_term_at, labels_below, gates_known}
use Rattle.program.specs.Trees.{unit_value_at, boxes_wired, closed_under, AcceptedFile}
use Rattle.program.proofs.Laws.Kinds.{of_true, TypeKind, is_bit, is_qubit, is_tensor}
use Rattle.program.proofs.Laws.Kinds.{is_function, is_reusable, is_circ, is_unit, shape_of_label, shape_of_type, shape_of_term}
use Rattle.program.proofs.Laws.Kinds.{label_shape_zero, type_shape_zero, zero_shape_kind, zero_shape_argument}
use Rattle.program.proofs.Laws.TreeTraversal.{type_end, type_nonempty, pass_type, term_end, term_source, pass_term}
use Rattle.program.proofs.Laws.TreeTraversal.{pass_scope, stop_scope, range_leaf, range_one, range_two}
use Rattle.program.proofs.Laws.WireTests.{circ_test, box_test, wires_of_label, wires_of_type}
use Rattle.program.proofs.Laws.WireTests.{wires_of_term}
use Rattle.program.proofs.Laws.Tests.{Passed, is_stopped, passed_of, of_passed}
use Rattle.program.proofs.Laws.Sections.{position_typed, type_formed, label_wires, label_wires_count, label_wires_kinds}
use Rattle.program.proofs.Laws.Sections.{argument_zero, whole_term, term_allowed, Allowed}
use Rattle.program.specs.declared.format.Argument.TheVariants.{Zero}
use Rattle.program.specs.Traversal.{End, Scope}
use Rattle.program.proofs.Laws.Traversal.{traverse_none}

-- The traversal over binders stops at a term that has a variable with no binder.
term_closed : (f : List ℕ) (M : Term)
    → TermAt f (first_term f) M (entry_count f)
    → is_stopped (traverse_from Scope f (term_count f) (first_term f) (0 ∷ [])) ≡ false
    → Truth (closed_under 0 M)
term_closed f M s h = go (closed_under 0 M) refl
  where
    go : (b : Bool) → closed_under 0 M ≡ b → Truth (closed_under 0 M)
    go true q = of_true (closed_under 0 M) q
    go false q =
        let u = term_end s in
        let r = stop_scope s 0 (omega arith) q 0 [] in
        let e : term_count f ≡ nodes M + 0 = omega arith in
        absurd
        (true≢false
        (sym (ap (λ k. is_stopped (traverse_from Scope f k (first_term f) (0 ∷ []))) e ∙ ap is_stopped r.1) ∙ h))

trees_of : (f : List ℕ) → Passed f → (M : Term) → TermAt f (first_term f) M (entry_count f) → AcceptedFile f (label_wires f) M
trees_of f p M s =
    let r = term_allowed p s (omega arith) (omega arith) in
    record {
      labels_fit = p.labels_fit;
      types_fit = p.types_fit;
      some_term = p.some_term;
      terms_fit = p.terms_fit;
      length_is = p.length_is;
      label_count_is = label_wires_count f;
      label_kinds_are = label_wires_kinds f p;
      arguments_zero = argument_zero f p;
      type_at = λ q h. typed q (position_typed f p q h);
      term_is_at = s;
      is_source = term_source s;
      labels_are_below = r.0;
      gates_are_known = r.1;
      boxes_are_wired = r.2;
      closed = term_closed f M s p.all_bound;
    }
  where
    formed_at : (q : ℕ) (A : Ty) → TypeAtPosition f q A → Truth (formed A)
    formed_at q A (at_position t l) = type_formed p t (omega arith) l

    typed : (q : ℕ) → (A : Ty) × TypeAtPosition f q A → (A : Ty) × TypeAtPosition f q A × Truth (formed A)
    typed q t = (t.0, t.1, formed_at q t.0 t.1)

-- A file that `read` accepts has labels and a term: the trees that stand in it. The answer has its sizes.
pub read_sound : (f : List ℕ) (L P N : ℕ)
    → read_of f ≡ accepted L P N
    → (labels : List Wire)
    × (M : Term)
    × AcceptedFile f labels M
    × (L ≡ label_count f)
    × (P ≡ type_count f)
    × (N ≡ term_count f)
read_sound f L P N h =
    let r = passed_of f L P N h in
    let t = whole_term f r.0 in
    (label_wires f, t.0, trees_of f r.0 t.0 t.1, r.1, r.2, r.3)

-- The tests 4, 5 and 7 pass at an entry.
abbrev EntryRight : List ℕ → ℕ → Type 0
EntryRight f e = (kind_wrong f e ≡ false) × (argument_wrong f e ≡ false) × (wires_wrong f e ≡ false)

zero_shape_right : (f : List ℕ) (e parts : ℕ)
    → shape_at f e ≡ known parts Zero → argument_at f e ≡ 0 → wires_wrong f e ≡ false
    → EntryRight f e
zero_shape_right f e parts h a w = (
  zero_shape_kind f e parts h,
  zero_shape_argument f e parts h ∙ ap not (eq-eqb (argument_at f e) 0 a),
  w,
)

label_right : (f : List ℕ) (labels : List Wire) (M : Term)
    → AcceptedFile f labels M
    → (e : ℕ) → e < label_count f
    → EntryRight f e
label_right f labels M t e h =
    let r = nth_within labels e (omega (arith, t.label_count_is)) in
    let k = t.label_kinds_are e r.0 r.1 in
    let s = wire_kind r.0 in
    zero_shape_right f e 0 (shape_of_label f e h ∙ label_shape_zero (kind_at f e) (omega arith))
    (t.arguments_zero e (omega arith))
    (wires_of_label f e h)

-- The kind of the entry at which a type stands.
kind_of_tree : {f : List ℕ} {e n : ℕ} {A : Ty} → TypeAt f e A n → TypeKind (kind_at f e)
kind_of_tree (bit_at k) = is_bit k
kind_of_tree (qubit_at k) = is_qubit k
kind_of_tree (unit_at k) = is_unit k
kind_of_tree (tensor_at k s t) = is_tensor k
kind_of_tree (function_at k s t) = is_function k
kind_of_tree (reusable_at k s) = is_reusable k
kind_of_tree (circ_at k s t) = is_circ k

-- The test for wire types passes where a type stands whose Circs are of wire types.
type_wires : {f : List ℕ} {e n : ℕ} {A : Ty}
    → TypeAt f e A n → n ≤ first_term f → Truth (formed A)
    → (eqb (kind_at f e) circuit_kind && circ_wrong f e) ≡ false
type_wires {f} (bit_at {e = e} k) h w = ap (λ i. eqb i circuit_kind && circ_wrong f e) k
type_wires {f} (qubit_at {e = e} k) h w = ap (λ i. eqb i circuit_kind && circ_wrong f e) k
type_wires {f} (unit_at {e = e} k) h w = ap (λ i. eqb i circuit_kind && circ_wrong f e) k
type_wires {f} (tensor_at {e = e} k s t) h w = ap (λ i. eqb i circuit_kind && circ_wrong f e) k
type_wires {f} (function_at {e = e} k s t) h w = ap (λ i. eqb i circuit_kind && circ_wrong f e) k
type_wires {f} (reusable_at {e = e} k s) h w = ap (λ i. eqb i circuit_kind && circ_wrong f e) k
type_wires {f} (circ_at {e = e} {A = A} {B = B} k s t) h w =
    ap (λ i. eqb i circuit_kind && circ_wrong f e) k ∙ circ_test s t h ∙ ap not (is_true (is_wire_type A && is_wire_type B) w)

type_right_at : {f : List ℕ} {e n : ℕ} {A : Ty}
    → TypeAt f e A n → label_count f ≤ e → n ≤ first_term f → Truth (formed A) → argument_at f e ≡ 0
    → EntryRight f e × (type_wrong f e ≡ false)
unfolding type_wrong
type_right_at {f} {e} {n} {A} s h l w a =
    let u = type_end s in
    let z = type_nonempty s in
    let k : first_term f - e ≡ entries A + (first_term f - n) = omega arith in
    let r = type_shape_zero (kind_at f e) (kind_of_tree s) in (
      zero_shape_right f e r.0 (shape_of_type f e h (omega arith) ∙ r.1) a
          (wires_of_type f e h (omega arith) ∙ type_wires s l w),
      ap (λ j. runs_out (traverse_from End f j e (0 ∷ []))) k
          ∙ ap runs_out (pass_type s 0 h l (first_term f - n) [] ∙ traverse_none End f (first_term f - n) n),
    )

type_right : (f : List ℕ) (labels : List Wire) (M : Term)
    → AcceptedFile f labels M
    → (e : ℕ) → label_count f ≤ e → e < first_term f
    → EntryRight f e × (type_wrong f e ≡ false)
type_right f labels M t e h l =
    let r = t.type_at (e - label_count f) (omega arith) in go r.0 r.1 r.2
  where
    here : label_count f + (e - label_count f) ≡ e
    here = omega arith

    go : (A : Ty) → TypeAtPosition f (e - label_count f) A → Truth (formed A) → EntryRight f e × (type_wrong f e ≡ false)
    go A (at_position {n = n} s q) w =
        type_right_at (subst (λ i. TypeAt f i A n) here s) h q w (t.arguments_zero e l)

-- The entry of a term's first node.
term_right : (f : List ℕ) (e k : ℕ)
    → first_term f ≤ e → kind_at f e ≡ k
    → is_some (term_shape k) ≡ true
    → shape_allows (label_count f) (type_count f) (term_shape k) (argument_at f e) ≡ true
    → (eqb k box_kind && box_wrong f e) ≡ false
    → EntryRight f e
unfolding kind_wrong argument_wrong
term_right f e k h q known allowed wired =
    let s = shape_of_term f e h ∙ ap term_shape q in (
      ap (λ x. not (is_some x)) s ∙ ap not known,
      ap (λ x. not (shape_allows (label_count f) (type_count f) x (argument_at f e))) s ∙ ap not allowed,
      wires_of_term f e h ∙ ap (λ i. eqb i box_kind && box_wrong f e) q ∙ wired,
    )

-- A position at which a type stands is one of the section.
position_below : {f : List ℕ} {q : ℕ} {A : Ty} → TypeAtPosition f q A → q < type_count f
position_below (at_position s h) = let z = type_nonempty s in omega arith

allowed_first : (f : List ℕ) (M N : Term)
    → Truth (labels_below (label_count f) M && labels_below (label_count f) N)
    × Truth (gates_known M && gates_known N)
    × Truth (boxes_wired M && boxes_wired N)
    → Allowed f M
allowed_first f M N h = (
  and_left (labels_below (label_count f) M) (labels_below (label_count f) N) h.0,
  and_left (gates_known M) (gates_known N) h.1,
  and_left (boxes_wired M) (boxes_wired N) h.2,
)

allowed_second : (f : List ℕ) (M N : Term)
    → Truth (labels_below (label_count f) M && labels_below (label_count f) N)
    × Truth (gates_known M && gates_known N)
    × Truth (boxes_wired M && boxes_wired N)
    → Allowed f N
allowed_second f M N h = (
  and_right (labels_below (label_count f) M) (labels_below (label_count f) N) h.0,
  and_right (gates_known M) (gates_known N) h.1,
  and_right (boxes_wired M) (boxes_wired N) h.2,
)

-- The entries of a term whose labels and gates are there and whose boxes are of wire types.
terms_right : {f : List ℕ} {e n : ℕ} {M : Term}
    → TermAt f e M n → first_term f ≤ e → Allowed f M
    → (i : ℕ) → e ≤ i → i < n → EntryRight f i
unfolding term_shape
terms_right {f} (variable_term_at {e = e} k a) h w =
    range_leaf (EntryRight f) e (term_right f e 16 h k refl refl refl)
terms_right {f} (label_at {e = e} {x = x} k a) h w =
    range_leaf (EntryRight f) e
    (term_right f e 17 h k refl (ap (λ i. ltb i (label_count f)) a ∙ is_true (ltb x (label_count f)) w.0) refl)
terms_right {f} (abstraction_at {e = e} {n = n} k a s) h w =
    range_one (EntryRight f) e n
    (term_right f e 18 h k refl (lt-ltb (argument_at f e) (type_count f) (position_below a)) refl)
    (terms_right s (omega arith) w)
terms_right {f} (application_at {e = e} {m = m} {n = n} {M = M} {N = N} k a s t) h w =
    let u = term_end s in
    range_two (EntryRight f) e m n (term_right f e 19 h k refl (eq-eqb (argument_at f e) 0 a) refl)
    (terms_right s (omega arith) (allowed_first f M N w))
    (terms_right t (omega arith) (allowed_second f M N w))
terms_right {f} (pair_at {e = e} {m = m} {n = n} {M = M} {N = N} k a s t) h w =
    let u = term_end s in
    range_two (EntryRight f) e m n (term_right f e 20 h k refl (eq-eqb (argument_at f e) 0 a) refl)
    (terms_right s (omega arith) (allowed_first f M N w))
    (terms_right t (omega arith) (allowed_second f M N w))
terms_right {f} (let_at {e = e} {m = m} {n = n} {M = M} {N = N} k a s t) h w =
    let u = term_end s in
    range_two (EntryRight f) e m n (term_right f e 21 h k refl (eq-eqb (argument_at f e) 0 a) refl)
    (terms_right s (omega arith) (allowed_first f M N w))
    (terms_right t (omega arith) (allowed_second f M N w))
terms_right {f} (lift_at {e = e} {n = n} k a s) h w =
    range_one (EntryRight f) e n (term_right f e 22 h k refl (eq-eqb (argument_at f e) 0 a) refl)
    (terms_right s (omega arith) w)
terms_right {f} (force_at {e = e} {n = n} k a s) h w =
    range_one (EntryRight f) e n (term_right f e 23 h k refl (eq-eqb (argument_at f e) 0 a) refl)
    (terms_right s (omega arith) w)
terms_right {f} (box_term_at {e = e} {n = n} {T = T} {M = M} k a s) h w =
    range_one (EntryRight f) e n
    (term_right f e 24 h k refl (lt-ltb (argument_at f e) (type_count f) (position_below a))
    (box_test e a ∙ ap not (is_true (is_wire_type T) (and_left (is_wire_type T) (boxes_wired M) w.2))))
    (terms_right s (omega arith) (w.0, w.1, and_right (is_wire_type T) (boxes_wired M) w.2))
terms_right {f} (apply_at {e = e} {m = m} {n = n} {M = M} {N = N} k a s t) h w =
    let u = term_end s in
    range_two (EntryRight f) e m n (term_right f e 25 h k refl (eq-eqb (argument_at f e) 0 a) refl)
    (terms_right s (omega arith) (allowed_first f M N w))
    (terms_right t (omega arith) (allowed_second f M N w))
terms_right {f} (gate_term_at {e = e} {x = x} k a) h w =
    range_leaf (EntryRight f) e
    (term_right f e 26 h k refl (ap is_gate a ∙ is_true (is_gate x) w.1) refl)
terms_right {f} (unit_value_at {e = e} k a) h w =
    range_leaf (EntryRight f) e (term_right f e 27 h k refl (eq-eqb (argument_at f e) 0 a) refl)

entry_right : (f : List ℕ) (labels : List Wire) (M : Term)
    → AcceptedFile f labels M
    → (e : ℕ) → e < entry_count f
    → EntryRight f e
entry_right f labels M t e h = go (dec_lt e (label_count f)) (dec_lt e (first_term f))
  where
    go : Dec (e < label_count f) → Dec (e < first_term f) → EntryRight f e
    go (yes k) l = label_right f labels M t e k
    go (no k) (yes l) = (type_right f labels M t e (omega (arith, k)) l).0
    go (no k) (no l) =
        terms_right t.term_is_at (omega arith) (t.labels_are_below, t.gates_are_known, t.boxes_are_wired) e (omega (arith, l)) h

-- Each test of `read` passes if trees stand in the file.
passed_by : (f : List ℕ) (labels : List Wire) (M : Term) → AcceptedFile f labels M → Passed f
passed_by f labels M t =
    let u = term_end t.term_is_at in
    let c : term_count f ≡ nodes M + 0 = omega arith in
    record {
      labels_fit = t.labels_fit;
      types_fit = t.types_fit;
      some_term = t.some_term;
      terms_fit = t.terms_fit;
      length_is = t.length_is;
      kinds_right = λ e h. (entry_right f labels M t e h).0;
      arguments_right = λ e h. (entry_right f labels M t e h).1;
      types_right = λ e h l. (type_right f labels M t e h l).1;
      wires_right = λ e h. (entry_right f labels M t e h).2;
      one_term_lem = ap (λ k. traverse_from End f k (first_term f) (0 ∷ [])) c
          ∙ pass_term t.term_is_at 0 (omega arith) 0 [];
      all_bound = ap (λ k. is_stopped (traverse_from Scope f k (first_term f) (0 ∷ []))) c
          ∙ ap is_stopped (pass_scope t.term_is_at 0 (omega arith) t.closed 0 []);
    }

-- A file in which such trees stand is accepted, with its sizes.
pub read_complete : (f : List ℕ) (labels : List Wire) (M : Term)
    → AcceptedFile f labels M
    → read_of f ≡ accepted (label_count f) (type_count f) (term_count f)
read_complete f labels M t = of_passed f (passed_by f labels M t)
