-- A file is accepted exactly if each test of `read` passes at each entry.
use Rattle.std.specs.Prelude.{ℕ, zero, suc, ◌+◌, ◌*◌, ◌≤◌, ◌<◌, ◌≡◌, refl, Bool, true, false, ◌&&◌, cond, List, [], ◌∷◌, T as Truth, eqb, leb, ltb, length, Option, Some, None, Result, Ok, Err}
use Rattle.std.proofs.Common.{ap, sym, ◌∙◌, true≢false, arith, leb→le, le→leb, le-ltb, eqb-true, eq-eqb}
use Rattle.std.proofs.Math.Decide.{ℕ_discrete}
use Rattle.program.specs.Reading.{accepted}
use Rattle.program.specs.Format.{label_count, type_count, term_count, first_term, entry_count, within}
use Rattle.program.specs.Traversal.{first_from, traverse_from}
use Rattle.program.specs.Reading.{refused, sizes_right, kind_wrong, argument_wrong, type_wrong, wires_wrong, scope_answer}
use Rattle.program.specs.Reading.{read_scope, whole_answer, read_whole, or_else, read_wires, read_types, read_arguments}
use Rattle.program.specs.Reading.{read_kinds, read_of}
use Rattle.program.proofs.Laws.Kinds.{of_true}
use Rattle.refusals.specs.declared.Refusal.{Refusal}
use Rattle.program.specs.declared.format.Sizes.{Sizes}
use Rattle.program.specs.Traversal.{End, Scope}
use Rattle.program.specs.declared.traversal.Halt.{Halt}
use Rattle.program.specs.declared.traversal.Halt.TheVariants.{Stopped, Out}
use Rattle.rules.specs.Sizes.{most_labels, most_types, most_terms}
use Rattle.rules.proofs.Laws.Booleans.{and_left, and_right, and_both, is_true}

abbrev pub is_stopped : Result ℕ Halt → Bool
is_stopped (Ok e) = false
is_stopped (Err (Stopped e)) = true
is_stopped (Err Out) = false

-- Each test of `read` passes.
pub record Passed (f : List ℕ) : Type 0 where
  pub labels_fit : label_count f ≤ most_labels
  pub types_fit : type_count f ≤ most_types
  pub some_term : 1 ≤ term_count f
  pub terms_fit : term_count f ≤ most_terms
  pub length_is : length f ≡ 6 + 3 * entry_count f
  pub kinds_right : (e : ℕ) → e < entry_count f → kind_wrong f e ≡ false
  pub arguments_right : (e : ℕ) → e < entry_count f → argument_wrong f e ≡ false
  pub types_right : (e : ℕ) → label_count f ≤ e → e < first_term f → type_wrong f e ≡ false
  pub wires_right : (e : ℕ) → e < entry_count f → wires_wrong f e ≡ false
  pub one_term_lem : traverse_from End f (term_count f) (first_term f) (0 ∷ []) ≡ Ok (entry_count f)
  pub all_bound : is_stopped (traverse_from Scope f (term_count f) (first_term f) (0 ∷ [])) ≡ false

-- A case that cannot be.
impossible : {P : Type 0} → ◌≡◌ {A = ℕ} 0 1 → P
impossible q = let z : ⊥ = omega arith in absurd z

-- No entry is found: the test finds none of them wrong.
pub none_found : (fails : ℕ → Bool) (e n : ℕ)
    → first_from fails e n ≡ None
    → (i : ℕ) → e ≤ i → i < e + n
    → fails i ≡ false
none_found fails e zero h i k l = let z : ⊥ = omega arith in absurd z
none_found fails e (suc n) h i k l =
    go (fails e) refl h (λ q. λ u v. none_found fails (suc e) n q i u v) (ℕ_discrete i e)
  where
    go : (b : Bool)
        → fails e ≡ b
        → cond b (Some e) (first_from fails (suc e) n) ≡ None
        → (first_from fails (suc e) n ≡ None → suc e ≤ i → i < suc e + n → fails i ≡ false)
        → Dec (i ≡ e)
        → fails i ≡ false
    go true q p ih d = impossible (cc)
    go false q p ih (yes r) = ap fails r ∙ q
    go false q p ih (no r) = ih p (omega arith) (omega arith)

pub find_none : (fails : ℕ → Bool) (e n : ℕ)
    → ((i : ℕ) → e ≤ i → i < e + n → fails i ≡ false)
    → first_from fails e n ≡ None
find_none fails e zero h = refl
find_none fails e (suc n) h =
    ap (λ b. cond b (Some e) (first_from fails (suc e) n)) (h e (omega arith) (omega arith))
    ∙ find_none fails (suc e) n (λ i k l. h i (omega arith) (omega arith))

-- An answer that accepts passed each refusal before it.
not_refused : (b : Bool) (r later : Result Sizes Refusal) (L P N : ℕ)
    → (number place : ℕ) → r ≡ refused number place
    → cond b r later ≡ accepted L P N
    → (b ≡ false) × (later ≡ accepted L P N)
not_refused true r later L P N number place q h = impossible (cc)
not_refused false r later L P N number place q h = (refl, h)

let_through : (b : Bool) (later : Result Sizes Refusal) (L P N number place : ℕ)
    → cond b later (refused number place) ≡ accepted L P N
    → (b ≡ true) × (later ≡ accepted L P N)
let_through true later L P N number place h = (refl, h)
let_through false later L P N number place h = impossible (cc)

found_none : (number : ℕ) (found : Option ℕ) (later : Result Sizes Refusal) (L P N : ℕ)
    → or_else number found later ≡ accepted L P N
    → (found ≡ None) × (later ≡ accepted L P N)
found_none number (Some e) later L P N h = impossible (cc)
found_none number None later L P N h = (refl, h)

-- Two answers that accept have the same sizes.
abbrev sizes_in : Result Sizes Refusal → Sizes
sizes_in (Ok s) = s
sizes_in (Err r) = record { labels = 0; types = 0; terms = 0 }

pub sizes_same : {l p n L P N : ℕ} → accepted l p n ≡ accepted L P N → (L ≡ l) × (P ≡ p) × (N ≡ n)
sizes_same h =
    let same = sym (ap sizes_in h) in
    (ap (λ (s : Sizes). s.labels) same, ap (λ (s : Sizes). s.types) same, ap (λ (s : Sizes). s.terms) same)

scope_passed : (f : List ℕ) (w : Result ℕ Halt) (L P N : ℕ)
    → scope_answer f w ≡ accepted L P N
    → (is_stopped w ≡ false) × (L ≡ label_count f) × (P ≡ type_count f) × (N ≡ term_count f)
scope_passed f (Ok e) L P N h = let same = sizes_same h in (refl, same.0, same.1, same.2)
scope_passed f (Err (Stopped e)) L P N h = impossible (cc)
scope_passed f (Err Out) L P N h = let same = sizes_same h in (refl, same.0, same.1, same.2)

whole_passed : (f : List ℕ) (w : Result ℕ Halt) (L P N : ℕ)
    → whole_answer f w ≡ accepted L P N
    → (w ≡ Ok (entry_count f)) × (read_scope f ≡ accepted L P N)
whole_passed f (Ok e) L P N h =
    let r = let_through (eqb e (entry_count f)) (read_scope f) L P N 8 e h in
    (ap {B = Result ℕ Halt} Ok (eqb-true e (entry_count f) r.0), r.1)
whole_passed f (Err (Stopped e)) L P N h = impossible (cc)
whole_passed f (Err Out) L P N h = impossible (cc)

-- A file that `read` accepts passes each test, and the answer has its sizes.
pub passed_of : (f : List ℕ) (L P N : ℕ)
    → read_of f ≡ accepted L P N
    → Passed f × (L ≡ label_count f) × (P ≡ type_count f) × (N ≡ term_count f)
unfolding read_of sizes_right read_kinds read_arguments read_types read_wires read_whole read_scope
passed_of f L P N h =
    let r1 =
    not_refused (ltb (length f) 6) (refused 1 0)
    (cond (sizes_right f) (cond (eqb (length f) (6 + 3 * entry_count f)) (read_kinds f) (refused 3 0)) (refused 2 0)) L P N 1 0 refl h in
    let r2 = let_through (sizes_right f) (cond (eqb (length f) (6 + 3 * entry_count f)) (read_kinds f) (refused 3 0)) L P N 2 0 r1.1 in
    let r3 = let_through (eqb (length f) (6 + 3 * entry_count f)) (read_kinds f) L P N 3 0 r2.1 in
    let r4 = found_none 4 (first_from (kind_wrong f) 0 (entry_count f)) (read_arguments f) L P N r3.1 in
    let r5 = found_none 5 (first_from (argument_wrong f) 0 (entry_count f)) (read_types f) L P N r4.1 in
    let r6 = found_none 6 (first_from (type_wrong f) (label_count f) (type_count f)) (read_wires f) L P N r5.1 in
    let r7 = found_none 7 (first_from (wires_wrong f) 0 (entry_count f)) (read_whole f) L P N r6.1 in
    let r8 = whole_passed f (traverse_from End f (term_count f) (first_term f) (0 ∷ [])) L P N r7.1 in
    let r9 = scope_passed f (traverse_from Scope f (term_count f) (first_term f) (0 ∷ [])) L P N r8.1 in
    let s = of_true (sizes_right f) r2.0 in
    let s1 = and_left (leb (label_count f) most_labels) (leb (type_count f) most_types && within 1 most_terms (term_count f)) s in
    let s2 = and_right (leb (label_count f) most_labels) (leb (type_count f) most_types && within 1 most_terms (term_count f)) s in
    let s3 = and_left (leb (type_count f) most_types) (within 1 most_terms (term_count f)) s2 in
    let s4 = and_right (leb (type_count f) most_types) (within 1 most_terms (term_count f)) s2 in (
      record {
        labels_fit = leb→le (label_count f) most_labels s1;
        types_fit = leb→le (type_count f) most_types s3;
        some_term = leb→le 1 (term_count f) (and_left (leb 1 (term_count f)) (leb (term_count f) most_terms) s4);
        terms_fit = leb→le (term_count f) most_terms (and_right (leb 1 (term_count f)) (leb (term_count f) most_terms) s4);
        length_is = eqb-true (length f) (6 + 3 * entry_count f) r3.0;
        kinds_right = λ e k. none_found (kind_wrong f) 0 (entry_count f) r4.0 e (omega arith) (omega arith);
        arguments_right = λ e k. none_found (argument_wrong f) 0 (entry_count f) r5.0 e (omega arith) (omega arith);
        types_right = λ e k l. none_found (type_wrong f) (label_count f) (type_count f) r6.0 e k l;
        wires_right = λ e k. none_found (wires_wrong f) 0 (entry_count f) r7.0 e (omega arith) (omega arith);
        one_term_lem = r8.0;
        all_bound = r9.0;
      },
      r9.1,
      r9.2,
      r9.3,
    )

scope_answer_lem : (f : List ℕ) (w : Result ℕ Halt)
    → is_stopped w ≡ false
    → scope_answer f w ≡ accepted (label_count f) (type_count f) (term_count f)
scope_answer_lem f (Ok e) h = refl
scope_answer_lem f (Err (Stopped e)) h = absurd (true≢false h)
scope_answer_lem f (Err Out) h = refl

sizes_right_lem : (f : List ℕ) → Passed f → Truth (sizes_right f)
unfolding sizes_right
sizes_right_lem f p =
    and_both (leb (label_count f) most_labels) (leb (type_count f) most_types && within 1 most_terms (term_count f))
    (le→leb (label_count f) most_labels p.labels_fit)
    (and_both (leb (type_count f) most_types) (within 1 most_terms (term_count f)) (le→leb (type_count f) most_types p.types_fit)
    (and_both (leb 1 (term_count f)) (leb (term_count f) most_terms) (le→leb 1 (term_count f) p.some_term)
    (le→leb (term_count f) most_terms p.terms_fit)))

read_scope_passed : (f : List ℕ) → Passed f → read_scope f ≡ accepted (label_count f) (type_count f) (term_count f)
unfolding read_scope
read_scope_passed f p = scope_answer_lem f (traverse_from Scope f (term_count f) (first_term f) (0 ∷ [])) p.all_bound

read_whole_passed : (f : List ℕ) → Passed f → read_whole f ≡ read_scope f
unfolding read_whole
read_whole_passed f p =
    ap (whole_answer f) p.one_term_lem
    ∙ ap (λ b. cond b (read_scope f) (refused 8 (entry_count f))) (eq-eqb (entry_count f) (entry_count f) refl)

read_wires_passed : (f : List ℕ) → Passed f → read_wires f ≡ read_whole f
unfolding read_wires
read_wires_passed f p =
    ap (λ found. or_else 7 found (read_whole f))
    (find_none (wires_wrong f) 0 (entry_count f) (λ i k l. p.wires_right i (omega arith)))

read_types_passed : (f : List ℕ) → Passed f → read_types f ≡ read_wires f
unfolding read_types
read_types_passed f p =
    ap (λ found. or_else 6 found (read_wires f))
    (find_none (type_wrong f) (label_count f) (type_count f) (λ i k l. p.types_right i k l))

read_arguments_passed : (f : List ℕ) → Passed f → read_arguments f ≡ read_types f
unfolding read_arguments
read_arguments_passed f p =
    ap (λ found. or_else 5 found (read_types f))
    (find_none (argument_wrong f) 0 (entry_count f) (λ i k l. p.arguments_right i (omega arith)))

read_kinds_passed : (f : List ℕ) → Passed f → read_kinds f ≡ read_arguments f
unfolding read_kinds
read_kinds_passed f p =
    ap (λ found. or_else 4 found (read_arguments f))
    (find_none (kind_wrong f) 0 (entry_count f) (λ i k l. p.kinds_right i (omega arith)))

read_sizes_passed : (f : List ℕ) → Passed f → read_of f ≡ read_kinds f
unfolding read_of
read_sizes_passed f p =
    let n : 6 ≤ length f = omega (arith, p.length_is) in
    ap
    (λ b.
    cond b (refused 1 0)
    (cond (sizes_right f) (cond (eqb (length f) (6 + 3 * entry_count f)) (read_kinds f) (refused 3 0)) (refused 2 0)))
    (le-ltb (length f) 6 n)
    ∙ ap (λ b. cond b (cond (eqb (length f) (6 + 3 * entry_count f)) (read_kinds f) (refused 3 0)) (refused 2 0))
    (is_true (sizes_right f) (sizes_right_lem f p))
    ∙ ap (λ b. cond b (read_kinds f) (refused 3 0)) (eq-eqb (length f) (6 + 3 * entry_count f) p.length_is)

-- A file that passes each test is accepted, with its sizes.
pub of_passed : (f : List ℕ) → Passed f → read_of f ≡ accepted (label_count f) (type_count f) (term_count f)
of_passed f p =
    read_sizes_passed f p
    ∙ read_kinds_passed f p
    ∙ read_arguments_passed f p
    ∙ read_types_passed f p
    ∙ read_wires_passed f p
    ∙ read_whole_passed f p
    ∙ read_scope_passed f p
