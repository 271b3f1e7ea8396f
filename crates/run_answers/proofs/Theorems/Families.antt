-- Which refusals the reader and the check give, and how large the numbers of their answers are (01: "A refusal belongs to one of
-- three families: form, typing or run (1 to 9, 16 to 18, the rest). It gives a number and a place, an entry number where named").
use Rattle.std.specs.Prelude.{ℕ, zero, suc, ◌+◌, ◌*◌, ◌≤◌, ◌<◌, ◌≡◌, refl, ◌⊎◌, Bool, true, false, ◌&&◌, cond, List, [], ◌∷◌, T as Truth, eqb, leb, ltb, length}
use native.Mathlib.Omega.{arith}
use Rattle.std.proofs.Common.{◌∙◌, ap, subst, inl, inr, leb→le}
use Rattle.std.proofs.Math.Option.{Option, none, some}
use Rattle.rules.specs.Types.{Wire, Ty, Circ, entries, most_entries}
use Rattle.rules.specs.Gates.{GateType, ◌to◌, gate_table, nth}
use Rattle.rules.specs.Terms.{Term}
use Rattle.rules.specs.Sizes.{nodes, most_labels, most_types, most_terms}
use Rattle.rules.specs.Typing.{LabelContext, Bounded}
use Rattle.rules.proofs.Laws.Counting.{Plain, plain_var, plain_label, plain_gate, plain_circ, plain_abs, plain_app}
use Rattle.rules.proofs.Laws.Counting.{plain_tuple, plain_let, plain_lift, plain_force, plain_box, plain_apply, plain_unit}
use Rattle.rules.proofs.Theorems.Counting.{closed→plain}
use Rattle.rules.proofs.Laws.Booleans.{and_left, and_right}
use Rattle.refusals.specs.Refusals.{refusal_place}
use Rattle.refusals.specs.declared.Refusal.{Refusal}
use Rattle.refusals.specs.declared.Refusal.TheVariants.{Form, Typing, Run}
use Rattle.program.specs.Format.{label_count, type_count, term_count, first_term, entry_count}
use Rattle.program.specs.Reading.{refused, sizes_right, kind_wrong, argument_wrong, type_wrong, wires_wrong, scope_answer}
use Rattle.program.specs.Reading.{read_scope, whole_answer, read_whole, or_else, read_wires, read_types, read_arguments, read_kinds}
use Rattle.program.specs.Reading.{read_of}
use Rattle.program.proofs.Laws.Reading.{Ranges, ranges}
use Rattle.program.specs.Traversal.{Subject, End, Scope, first_from, parts_at, traverse_from}
use Rattle.program.proofs.Theorems.Accepting.{read_sound}
use Rattle.std.specs.Prelude.{Option as RustOption, Some, None, Result, Ok, Err}
use Rattle.program.specs.declared.format.Sizes.{Sizes}
use Rattle.program.specs.declared.traversal.Parts.{Parts}
use Rattle.program.specs.declared.traversal.Parts.TheVariants.{Leaf, One, Two, Stop}
use Rattle.program.specs.declared.traversal.Halt.{Halt}
use Rattle.program.specs.declared.traversal.Halt.TheVariants.{Stopped, Out}
use Rattle.check_program.specs.Checking.{Checked, typed, fault, earlier, check_term, wrong_label, Verdict, has_type, refusal}
use Rattle.check_program.specs.Checking.{lastly, secondly, decided, verdict}
use Rattle.check_program.specs.Answers.{labels_of, term_of, Judged, accepts, refuses, judged, judged_as, check_of}
use Rattle.check_program.proofs.Laws.ReadBack.{file_read}
use Rattle.check_program.proofs.Theorems.Agreement.{accepts→has}
use Rattle.check_program.specs.Places.{NotOnceAt}
use Rattle.check_program.proofs.Theorems.Places.{occurs_within, sixteen, seventeen, eighteen}
use Rattle.run_answers.specs.Demand2.{OfRead, OfCheck}
use Rattle.program.specs.Sized.{most_file_entries}
use Rattle.program.proofs.Laws.TreeTraversal.{term_end}

-- No file has more entries: 64 labels, 512 types, 2,048 terms. So no place is greater.
abbrev pub most_places : ℕ
most_places = most_file_entries

-- THE READER

-- What an answer of the reader is bounded by.
abbrev pub ReadBounds : Result Sizes Refusal → Type 0
ReadBounds (Ok s) = (s.labels ≤ most_labels) × (s.types ≤ most_types) × (s.terms ≤ most_terms)
ReadBounds (Err x) = OfRead x × (refusal_place x ≤ most_places)

-- A scan finds an entry among those that it looks at.
abbrev FoundWithin : ℕ → RustOption ℕ → Type 0
FoundWithin most (Some e) = e ≤ most
FoundWithin most None = Unit {0}

found_within : (fails : ℕ → Bool) (e n most : ℕ) → e + n ≤ most → FoundWithin most (first_from fails e n)
found_within fails e zero most h = tt
found_within fails e (suc n) most h = of (fails e) (found_within fails (suc e) n most (omega arith))
  where
    of : (b : Bool)
        → FoundWithin most (first_from fails (suc e) n)
        → FoundWithin most (cond b (Some e) (first_from fails (suc e) n))
    of true p = omega arith
    of false p = p

-- So does a walk, or it ends behind the last of them.
abbrev TraversedWithin : ℕ → Result ℕ Halt → Type 0
TraversedWithin most (Ok e) = e ≤ most
TraversedWithin most (Err (Stopped e)) = e ≤ most
TraversedWithin most (Err Out) = Unit {0}

traversed_within : (s : Subject) (f : List ℕ) (left e most : ℕ) (waiting : List ℕ)
    → e + left ≤ most
    → TraversedWithin most (traverse_from s f left e waiting)
traversed_within s f zero e most [] h = omega arith
traversed_within s f zero e most (b ∷ waiting) h = tt
traversed_within s f (suc left) e most [] h = omega arith
traversed_within s f (suc left) e most (b ∷ waiting) h =
    of (parts_at s f e b) (λ w. traversed_within s f left (suc e) most w (omega arith))
  where
    of : (p : Parts)
        → ((w : List ℕ) → TraversedWithin most (traverse_from s f left (suc e) w))
        → TraversedWithin most (elim p [
          | Leaf ↦ traverse_from s f left (suc e) waiting
          | One x ↦ traverse_from s f left (suc e) (x ∷ waiting)
          | Two x y ↦ traverse_from s f left (suc e) (x ∷ y ∷ waiting)
          | Stop ↦ Err (Stopped e)
        ])
    of Leaf later = later waiting
    of (One x) later = later (x ∷ waiting)
    of (Two x y) later = later (x ∷ y ∷ waiting)
    of Stop later = omega arith

-- Two answers by a test, and a test that may find an entry.
either_bounds : (b : Bool) (x y : Result Sizes Refusal) → (b ≡ true → ReadBounds x) → ReadBounds y → ReadBounds (cond b x y)
either_bounds true x y p q = p refl
either_bounds false x y p q = q

else_bounds : (number : ℕ) (found : RustOption ℕ) (later : Result Sizes Refusal)
    → 1 ≤ number
    → number ≤ 9
    → FoundWithin most_places found
    → ReadBounds later
    → ReadBounds (or_else number found later)
else_bounds number (Some e) later low high within p = ((low, high), within)
else_bounds number None later low high within p = p

-- The answers of each test of the reader whose sizes are right, from the last to the first.
module _ (f : List ℕ) (labels_fit : label_count f ≤ most_labels) (types_fit : type_count f ≤ most_types) (terms_fit : term_count f ≤ most_terms) where
  scope_bounds : ReadBounds (read_scope f)
  unfolding read_scope
  scope_bounds =
      of (traverse_from Scope f (term_count f) (first_term f) (0 ∷ []))
      (traversed_within Scope f (term_count f) (first_term f) most_places (0 ∷ []) (omega arith))
    where
      of : (w : Result ℕ Halt) → TraversedWithin most_places w → ReadBounds (scope_answer f w)
      of (Ok e) within = (labels_fit, types_fit, terms_fit)
      of (Err (Stopped e)) within = ((omega arith, omega arith), within)
      of (Err Out) within = (labels_fit, types_fit, terms_fit)

  whole_bounds : ReadBounds (read_whole f)
  unfolding read_whole
  whole_bounds =
      of (traverse_from End f (term_count f) (first_term f) (0 ∷ []))
      (traversed_within End f (term_count f) (first_term f) most_places (0 ∷ []) (omega arith))
    where
      of : (w : Result ℕ Halt) → TraversedWithin most_places w → ReadBounds (whole_answer f w)
      of (Ok e) within =
          either_bounds (eqb e (entry_count f)) (read_scope f) (refused 8 e) (λ t. scope_bounds)
          ((omega arith, omega arith), within)
      of (Err (Stopped e)) within = ((omega arith, omega arith), within)
      of (Err Out) within = ((omega arith, omega arith), omega arith)

  wires_bounds : ReadBounds (read_wires f)
  unfolding read_wires
  wires_bounds =
      else_bounds 7 (first_from (wires_wrong f) 0 (entry_count f)) (read_whole f) (omega arith) (omega arith)
      (found_within (wires_wrong f) 0 (entry_count f) most_places (omega arith))
      whole_bounds

  types_bounds : ReadBounds (read_types f)
  unfolding read_types
  types_bounds =
      else_bounds 6 (first_from (type_wrong f) (label_count f) (type_count f)) (read_wires f) (omega arith) (omega arith)
      (found_within (type_wrong f) (label_count f) (type_count f) most_places (omega arith))
      wires_bounds

  arguments_bounds : ReadBounds (read_arguments f)
  unfolding read_arguments
  arguments_bounds =
      else_bounds 5 (first_from (argument_wrong f) 0 (entry_count f)) (read_types f) (omega arith) (omega arith)
      (found_within (argument_wrong f) 0 (entry_count f) most_places (omega arith))
      types_bounds

  kinds_bounds : ReadBounds (read_kinds f)
  unfolding read_kinds
  kinds_bounds =
      else_bounds 4 (first_from (kind_wrong f) 0 (entry_count f)) (read_arguments f) (omega arith) (omega arith)
      (found_within (kind_wrong f) 0 (entry_count f) most_places (omega arith))
      arguments_bounds

-- The sizes are in their ranges where the test says so.
sizes_in_range : (f : List ℕ)
    → sizes_right f ≡ true
    → Ranges (record { labels = label_count f; types = type_count f; terms = term_count f })
unfolding sizes_right
sizes_in_range f h = ranges (record { labels = label_count f; types = type_count f; terms = term_count f }) h

-- The reader refuses with 1 to 9 of the form family, at an entry of the file or behind its last.
pub read_bounds : (f : List ℕ) → ReadBounds (read_of f)
unfolding read_of
read_bounds f =
    let right = cond (eqb (length f) (6 + 3 * entry_count f)) (read_kinds f) (refused 3 0) in
    either_bounds (ltb (length f) 6) (refused 1 0) (cond (sizes_right f) right (refused 2 0))
    (λ t. ((omega arith, omega arith), omega arith))
    (either_bounds (sizes_right f) right (refused 2 0)
    (λ t.
    let s = sizes_in_range f t in
    either_bounds (eqb (length f) (6 + 3 * entry_count f)) (read_kinds f) (refused 3 0)
    (λ u. kinds_bounds f s.labels_fit s.types_fit s.terms_fit)
    ((omega arith, omega arith), omega arith))
    ((omega arith, omega arith), omega arith))

-- THE CHECK

-- What an answer of the check is bounded by.
abbrev pub CheckBounds : Judged → Type 0
CheckBounds (accepts A) = Bounded A
CheckBounds (refuses x) = OfCheck x × (refusal_place x ≤ most_places)

-- The types of a list are all within the bound, and so is the one that stands at a place of it.
abbrev AllBounded : List Ty → Type 0
AllBounded [] = Unit {0}
AllBounded (A ∷ Γ) = Bounded A × AllBounded Γ

nth_bounded : (Γ : List Ty) (n : ℕ) (A : Ty) → AllBounded Γ → nth Γ n ≡ some A → Bounded A
nth_bounded [] n A all h = let z : ◌≡◌ {A = ℕ} 0 1 = cc in absurd (omega arith)
nth_bounded (B ∷ Γ) zero A all h = let p : B ≡ A = cc in subst Bounded p all.0
nth_bounded (B ∷ Γ) (suc n) A all h = nth_bounded Γ n A all.1 h

-- The same of the types of gates, by a test of the whole table.
abbrev all_gates_bounded : List GateType → Bool
all_gates_bounded [] = true
all_gates_bounded ((T to U) ∷ gs) = leb (entries (Circ T U)) most_entries && all_gates_bounded gs

nth_gate_bounded : (gs : List GateType) (n : ℕ) (T U : Ty)
    → Truth (all_gates_bounded gs)
    → nth gs n ≡ some (T to U)
    → Bounded (Circ T U)
nth_gate_bounded [] n T U all h = let z : ◌≡◌ {A = ℕ} 0 1 = cc in absurd (omega arith)
nth_gate_bounded ((T' to U') ∷ gs) zero T U all h =
    let p : T' ≡ T = cc in
    let q : U' ≡ U = cc in
    let first = and_left (leb (entries (Circ T' U')) most_entries) (all_gates_bounded gs) all in
    omega (arith, leb→le (entries (Circ T' U')) most_entries first, ap entries p, ap entries q)
nth_gate_bounded ((T' to U') ∷ gs) (suc n) T U all h =
    nth_gate_bounded gs n T U (and_right (leb (entries (Circ T' U')) most_entries) (all_gates_bounded gs) all) h

-- 01: "No type of a node may exceed 512 entries." The rules ask it where a type is built; all others are parts of such.
plain_bounded : {Γ : List Ty} {Q : LabelContext} {M : Term} {A : Ty} → AllBounded Γ → Plain Γ Q M A → Bounded A
plain_bounded {Γ} {A = A} all (plain_var {n = n} p) = nth_bounded Γ n A all p
plain_bounded all (plain_label p) = omega arith
plain_bounded all (plain_gate {n = n} {T = T} {U = U} p) = nth_gate_bounded gate_table n T U tt p
plain_bounded all plain_unit = omega arith
plain_bounded all (plain_circ w b s d) = b
plain_bounded all (plain_abs b d) = b
plain_bounded all (plain_app d e) = let b = plain_bounded all d in omega (arith, b)
plain_bounded all (plain_tuple b d e) = b
plain_bounded all (plain_let d e) =
    let b = plain_bounded all d in plain_bounded (omega (arith, b), (omega (arith, b), all)) e
plain_bounded all (plain_lift b d) = b
plain_bounded all (plain_force d) = let b = plain_bounded all d in omega (arith, b)
plain_bounded all (plain_box t u d) = let b = plain_bounded all d in omega (arith, b)
plain_bounded all (plain_apply d e) = let b = plain_bounded all d in omega (arith, b)

-- The number of a refusal for its typing.
abbrev TypingNumber : ℕ → Type 0
TypingNumber number = (number ≡ 16) ⊎ (number ≡ 17) ⊎ (number ≡ 18)

abbrev VerdictNumber : Verdict → Type 0
VerdictNumber (has_type A) = Unit {0}
VerdictNumber (refusal number place) = TypingNumber number

-- What is known of a program: its labels L and its term M, whose first entry e is behind them.
module _ (L : List Wire) (e : ℕ) (M : Term) (behind : length L ≤ e) where
  verdict_number : VerdictNumber (verdict L e M)
  verdict_number = of (check_term L [] 0 e M)
    where
      third : (A : Ty) (v : Option ℕ) → VerdictNumber (lastly A v)
      third A none = tt
      third A (some p) = inr (inr refl)

      second : (A : Ty) (u v : Option ℕ) → VerdictNumber (secondly A u v)
      second A none v = third A v
      second A (some p) v = inr (inl refl)

      of : (c : Checked) → VerdictNumber (decided L M c)
      of (fault p) = inl refl
      of (typed A u v) = second A (earlier (wrong_label M 0 (length L)) u) v

  -- Its place is a label or an entry of the term.
  verdict_place : (number place : ℕ)
      → TypingNumber number
      → verdict L e M ≡ refusal number place
      → place < e + nodes M
  verdict_place number place (inl n) h =
      let a = ((sixteen L e M place).0 (h ∙ ap (λ k. refusal k place) n)).0 in (occurs_within a.3).1
  verdict_place number place (inr (inl n)) h =
      of ((seventeen L e M behind place).0 (h ∙ ap (λ k. refusal k place) n)).1.0
    where
      of : NotOnceAt L e M place → place < e + nodes M
      of (inl a) = let within = a.0 in omega arith
      of (inr a) = (occurs_within a.3).1
  verdict_place number place (inr (inr n)) h =
      let a = ((eighteen L e M behind place).0 (h ∙ ap (λ k. refusal k place) n)).2.0 in (occurs_within a.3).1

-- A typing refusal is one of the check.
of_typing : (number place : ℕ) → TypingNumber number → OfCheck (Typing number place)
of_typing number place (inl n) = (omega arith, omega arith)
of_typing number place (inr (inl n)) = (omega arith, omega arith)
of_typing number place (inr (inr n)) = (omega arith, omega arith)

-- A refusal of the reader is one of the check.
pub of_read : (x : Refusal) → OfRead x → OfCheck x
of_read (Form number place) h = h
of_read (Typing number place) h = absurd h
of_read (Run number place) h = absurd h

-- The check refuses with what the reader refuses with, or with 16 to 18 of the typing family.
pub check_bounds : (f : List ℕ) → CheckBounds (check_of f)
unfolding check_of
check_bounds f = of (read_of f) refl (read_bounds f)
  where
    of : (r : Result Sizes Refusal) → read_of f ≡ r → ReadBounds r → CheckBounds (judged_as f r)
    of (Ok s) h bounds =
        let file = file_read (read_sound f s.labels s.types s.terms h).2 in
        let behind : length (labels_of f) ≤ first_term f = omega (arith, file.label_count_is) in
        let end : first_term f + nodes (term_of f) ≤ most_places
        = omega (arith, term_end file.term_is_at, file.labels_fit, file.types_fit, file.terms_fit) in
        given (verdict (labels_of f) (first_term f) (term_of f)) refl behind end
        (verdict_number (labels_of f) (first_term f) (term_of f) behind)
      where
        given : (v : Verdict)
            → verdict (labels_of f) (first_term f) (term_of f) ≡ v
            → length (labels_of f) ≤ first_term f
            → first_term f + nodes (term_of f) ≤ most_places
            → VerdictNumber v
            → CheckBounds (judged v)
        given (has_type A) p behind end n =
            plain_bounded tt (closed→plain (accepts→has (labels_of f) (first_term f) (term_of f) A p))
        given (refusal number place) p behind end n =
            let within = verdict_place (labels_of f) (first_term f) (term_of f) behind number place n p in
            (of_typing number place n, omega arith)
    of (Err x) h bounds = (of_read x bounds.0, bounds.1)

-- A refusal of the check is of the form or the typing family.
pub check_family : (f : List ℕ) (x : Refusal) → check_of f ≡ refuses x → OfCheck x
check_family f x h = (subst CheckBounds h (check_bounds f)).0
