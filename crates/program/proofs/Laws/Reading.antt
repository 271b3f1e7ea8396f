-- Laws of the tests of `read`, in the form in which the proofs of the code use them.
use Prim.Native.Nat.{ℕ, zero, ◌+◌, ◌*◌, ◌-◌, ◌≤◌, ◌<◌}
use native.Mathlib.Omega.{arith}
use Rattle.std.specs.Prelude.{◌≡◌, refl, Bool, true, false, ◌&&◌, cond, List, [], ◌∷◌, eqb, leb, length, Option, Some, None, Result, Ok, Err, is_err}
use Rattle.std.proofs.Math.Path.{sym, ap}
use Rattle.std.proofs.Common.{subst, ◌∙◌}
use Rattle.std.proofs.lemmas.Bool.{false≢true}
use borrow.Author.Tests.{lt-ltb, le-ltb, eq-eqb, ne_eqb, leb-true}
use Rattle.program.specs.Reading.{accepted}
use Rattle.program.specs.Format.{label_count, type_count, term_count, first_term, entry_count, kind_at, argument_at, within}
use Rattle.program.specs.Sized.{Sized}
use Rattle.program.specs.Traversal.{traverse_from}
use Rattle.program.specs.Reach.{TraversedOf, Ends}
use Rattle.program.proofs.Laws.Traversal.{traversed_alone}
use Rattle.program.specs.Reading.{refused, runs_out, sizes_right, type_wrong, circ_wrong, box_wrong, wires_wrong}
use Rattle.program.specs.Reading.{scope_answer, whole_answer, or_else, read_scope, read_whole, read_kinds, read_of}
use Rattle.program.specs.declared.format.Sizes.{Sizes}
use Rattle.refusals.specs.declared.Refusal.{Refusal}
use Rattle.program.specs.declared.format.Sizes.{Sizes}
use Rattle.program.specs.Traversal.{End, WireType, Scope}
use Rattle.program.specs.declared.traversal.Halt.{Halt}
use Rattle.program.specs.declared.traversal.Halt.TheVariants.{Stopped, Out}
use Rattle.program.specs.Sized.{sizes_fit}
use Rattle.rules.specs.Kinds.{circuit_kind, box_kind}
use Rattle.rules.specs.Sizes.{most_labels, most_types, most_terms}

-- A part that is no wire type, whatever waits behind it.
stuck_part
    : (f : List ℕ) (end e : ℕ) (halt : Halt) → Ends WireType f end e 0 (Err halt)
    → true ≡ is_err (traverse_from WireType f (end - e) e (0 ∷ 0 ∷ []))
stuck_part f end e (Stopped at) part = sym (ap (λ w. is_err w) (part (0 ∷ [])))
stuck_part f end e Out part = sym (ap (λ w. is_err w) (part (0 ∷ [])))

-- Test 6.
pub type_test : {f : List ℕ} {e : ℕ} {r : Result ℕ Halt} → TraversedOf End f (first_term f) e 0 r → runs_out r ≡ type_wrong f e
unfolding type_wrong
type_test {f} {e} {r} walked = ap runs_out (traversed_alone End f (first_term f) e 0 r walked)

-- Test 7. The first part of a circuit type is no wire type; or it is one, and the second decides.
pub circ_first
    : {f : List ℕ} (e : ℕ) {halt : Halt} {r : Result ℕ Halt} → r ≡ Err halt
    → TraversedOf WireType f (first_term f) (e + 1) 0 r → true ≡ circ_wrong f e
unfolding circ_wrong
circ_first {f} e {halt} is first =
    stuck_part f (first_term f) (e + 1) halt (subst (λ r. Ends WireType f (first_term f) (e + 1) 0 r) is first.ends)

pub circ_second
    : {f : List ℕ} (e : ℕ) {m : ℕ} {q r : Result ℕ Halt} → q ≡ Ok m → TraversedOf WireType f (first_term f) (e + 1) 0 q
    → TraversedOf WireType f (first_term f) m 0 r → is_err r ≡ circ_wrong f e
unfolding circ_wrong
circ_second {f} e {m} {r = r} is first second =
    let ends : Ends WireType f (first_term f) (e + 1) 0 (Ok m)
    = subst (λ q. Ends WireType f (first_term f) (e + 1) 0 q) is first.ends in
    ap (λ w. is_err w) (traversed_alone WireType f (first_term f) m 0 r second ∙ sym (ends.1 (0 ∷ [])))

-- A box whose argument is past the type section; a box at a type.
pub no_position : (f : List ℕ) (e : ℕ) → type_count f ≤ argument_at f e → true ≡ box_wrong f e
unfolding box_wrong
no_position f e past =
    let none : type_count f - argument_at f e ≡ zero = omega arith in
    sym (ap (λ n. is_err (traverse_from WireType f n (label_count f + argument_at f e) (0 ∷ []))) none)

pub box_test
    : {f : List ℕ} (e : ℕ) {r : Result ℕ Halt} → argument_at f e < type_count f
    → TraversedOf WireType f (first_term f) (label_count f + argument_at f e) 0 r → is_err r ≡ box_wrong f e
unfolding box_wrong
box_test {f} e {r} below walked =
    let start = label_count f + argument_at f e in
    let left : first_term f - start ≡ type_count f - argument_at f e = omega arith in
    ap (λ w. is_err w) (traversed_alone WireType f (first_term f) start 0 r walked)
    ∙ ap (λ n. is_err (traverse_from WireType f n start (0 ∷ []))) left

-- An entry of each section.
pub label_wires_lem : (f : List ℕ) (e : ℕ) → e < label_count f → false ≡ wires_wrong f e
unfolding wires_wrong
label_wires_lem f e below = rw (lt-ltb e (label_count f) below)

pub type_wires : (f : List ℕ) (e : ℕ) → label_count f ≤ e → e < first_term f → (eqb (kind_at f e) circuit_kind && circ_wrong f e) ≡ wires_wrong f e
unfolding wires_wrong
type_wires f e from below = rw (le-ltb e (label_count f) from, lt-ltb e (first_term f) below)

pub term_wires : (f : List ℕ) (e : ℕ) → first_term f ≤ e → (eqb (kind_at f e) box_kind && box_wrong f e) ≡ wires_wrong f e
unfolding wires_wrong
term_wires f e from = rw (le-ltb e (label_count f) (omega arith), le-ltb e (first_term f) from)

-- Test 8: what the traversal over the term section answers. One whole term; a term with entries left over.
module _ (f : List ℕ) where
  terms_left : entry_count f - first_term f ≡ term_count f
  terms_left = omega arith

  pub whole_test
      : {r : Result ℕ Halt} → TraversedOf End f (entry_count f) (first_term f) 0 r → whole_answer f r ≡ read_whole f
  unfolding read_whole
  whole_test {r} walked =
      ap (whole_answer f)
      (traversed_alone End f (entry_count f) (first_term f) 0 r walked
      ∙ ap (λ n. traverse_from End f n (first_term f) (0 ∷ [])) terms_left)

  pub whole_term : (e : ℕ) → e ≡ entry_count f → read_scope f ≡ whole_answer f (Ok e)
  whole_term e end = sym (ap (λ t. cond t (read_scope f) (refused 8 e)) (eq-eqb e (entry_count f) end))

  pub left_over : (e : ℕ) → (e ≡ entry_count f → ⊥) → refused 8 e ≡ whole_answer f (Ok e)
  left_over e other = sym (ap (λ t. cond t (read_scope f) (refused 8 e)) (ne_eqb e (entry_count f) other))

  -- Test 9.
  pub scope_test
      : {r : Result ℕ Halt} → TraversedOf Scope f (entry_count f) (first_term f) 0 r → scope_answer f r ≡ read_scope f
  unfolding read_scope
  scope_test {r} walked =
      ap (scope_answer f)
      (traversed_alone Scope f (entry_count f) (first_term f) 0 r walked
      ∙ ap (λ n. traverse_from Scope f n (first_term f) (0 ∷ [])) terms_left)

-- The sizes of a file are those of the answer.
pub accepted_sizes : {f : List ℕ} {s : Sizes} → Sized f s → Ok s ≡ accepted (label_count f) (type_count f) (term_count f)
accepted_sizes sized = λ i. accepted (sized.labels_are i) (sized.types_are i) (sized.terms_are i)

pub record Ranges (s : Sizes) : Type 0 where
  pub labels_fit : s.labels ≤ most_labels
  pub types_fit : s.types ≤ most_types
  pub some_term : 1 ≤ s.terms
  pub terms_fit : s.terms ≤ most_terms

both_true : (a b : Bool) → (a && b) ≡ true → (a ≡ true) × (b ≡ true)
both_true true b is = (refl, is)
both_true false b is = absurd (false≢true is)

pub ranges : (s : Sizes) → sizes_fit s ≡ true → Ranges s
ranges s fit =
    let first = both_true (leb s.labels most_labels) (leb s.types most_types && within 1 most_terms s.terms) fit in
    let second = both_true (leb s.types most_types) (within 1 most_terms s.terms) first.1 in
    let third = both_true (leb 1 s.terms) (leb s.terms most_terms) second.1 in
    record {
      labels_fit = leb-true s.labels most_labels first.0;
      types_fit = leb-true s.types most_types second.0;
      some_term = leb-true 1 s.terms third.0;
      terms_fit = leb-true s.terms most_terms third.1;
    }

-- A test that finds an entry refuses it; one that finds nothing leaves the file to the next.
pub test_refuses
    : (number : ℕ) (later : Result Sizes Refusal) {e : ℕ} {found : Option ℕ} → found ≡ Some e
    → refused number e ≡ or_else number found later
test_refuses number later is = ap (λ found. or_else number found later) (sym is)

pub test_leaves
    : (number : ℕ) (later : Result Sizes Refusal) {found : Option ℕ} → found ≡ None → later ≡ or_else number found later
test_leaves number later is = ap (λ found. or_else number found later) (sym is)

-- Tests 1 to 3, of a file and the three numbers at its start.
pub too_short_lem : (f : List ℕ) → length f < 6 → refused 1 0 ≡ read_of f
unfolding read_of
too_short_lem f short = rw (lt-ltb (length f) 6 short)

pub record Start (f : List ℕ) (s : Sizes) : Type 0 where
  pub labels_are : s.labels ≡ label_count f
  pub types_are : s.types ≡ type_count f
  pub terms_are : s.terms ≡ term_count f
  pub long : 6 ≤ length f

module _ {f : List ℕ} {s : Sizes} (start : Start f s) where
  sizes_are : sizes_fit s ≡ sizes_right f
  unfolding sizes_right
  sizes_are = rw (start.labels_are, start.types_are, start.terms_are)

  entries_are : 6 + 3 * (s.labels + s.types + s.terms) ≡ 6 + 3 * entry_count f
  entries_are = omega arith

  pub wrong_sizes : sizes_fit s ≡ false → refused 2 0 ≡ read_of f
  unfolding read_of
  wrong_sizes fit = rw (le-ltb (length f) 6 start.long, ← sizes_are, fit)

  pub wrong_length
      : sizes_fit s ≡ true → (length f ≡ 6 + 3 * (s.labels + s.types + s.terms) → ⊥) → refused 3 0 ≡ read_of f
  unfolding read_of
  wrong_length fit other =
      let test = ne_eqb (length f) (6 + 3 * entry_count f) (λ is. other (is ∙ sym entries_are)) in
      rw (le-ltb (length f) 6 start.long, ← sizes_are, fit, test)

  pub right_length
      : sizes_fit s ≡ true → length f ≡ 6 + 3 * (s.labels + s.types + s.terms) → read_kinds f ≡ read_of f
  unfolding read_of
  right_length fit is =
      let test = eq-eqb (length f) (6 + 3 * entry_count f) (is ∙ entries_are) in
      rw (le-ltb (length f) 6 start.long, ← sizes_are, fit, test)
