-- Laws of the definitions, in the form in which the proofs of the code use them.
use Rattle.std.specs.Prelude.{ℕ, zero, ◌+◌, ◌-◌, ◌≤◌, ◌<◌, ◌≡◌, refl, Bool, true, false, eqb, Some, None, suc, Option, MatchOption}
use Rattle.std.proofs.Common.{add-one, arith, sym, ap, ◌∙◌}
use borrow.Author.Tests.{le-leb, lt-leb, ne_eqb}
use Rattle.rules.specs.Kinds.{qubit_kind, pair_type_kind, function_kind, reusable_kind, circuit_kind, unit_kind, variable_kind}
use Rattle.rules.specs.Kinds.{label_kind, abstraction_kind, application_kind, let_kind, lift_kind, force_kind, box_kind}
use Rattle.rules.specs.Kinds.{apply_kind, gate_term_kind, unit_value_kind}
use Rattle.rules.specs.Parts.{parts_of_kind}
use Rattle.rules.proofs.Laws.Ranges.{◌and◌, no_more, in_range}
use Rattle.program.specs.Format.{known}
use Rattle.program.specs.Format.{label_shape, type_shape}
use Rattle.program.specs.Format.{term_shape}
use Rattle.program.specs.ArgumentRules.{rule_of}
use Rattle.words.proofs.Laws.Numbers.{one_left}
use Rattle.program.specs.Traversal.{first_from}
use Rattle.program.specs.declared.format.Argument.TheVariants.{Zero}

-- A scan looks for the first entry at which a test fails, from entry e on, up to an end.

-- The test fails at e: e is what the scan finds.
pub scan_hits : (fails : ℕ → Bool) (end e : ℕ) → e < end → fails e ≡ true → first_from fails e (end - e) ≡ Some e
scan_hits fails end e below fault = rw (one_left end e below, fault)

-- The test holds at e: the scan goes on at e + 1.
pub scan_goes_on
    : (fails : ℕ → Bool) (end e : ℕ) → e < end → fails e ≡ false
    → first_from fails e (end - e) ≡ first_from fails (e + 1) (end - (e + 1))
scan_goes_on fails end e below fine = rw (one_left end e below, fine, add-one)

-- No entry is left: the scan finds nothing.
pub scan_ends : (fails : ℕ → Bool) (end e : ℕ) → end ≤ e → first_from fails e (end - e) ≡ None
scan_ends fails end e past = rw none_left
  where
    none_left : end - e ≡ zero
    none_left = omega arith

-- The test holds at n entries: the scan goes on behind them.
scan_passes
    : (fails : ℕ → Bool) (end e n : ℕ) → e + n ≤ end → ((k : ℕ) → e ≤ k → k < e + n → fails k ≡ false)
    → first_from fails e (end - e) ≡ first_from fails (e + n) (end - (e + n))
scan_passes fails end e zero within fine = ap (λ k. first_from fails k (end - k)) (omega arith)
scan_passes fails end e (suc n) within fine =
    scan_goes_on fails end e (omega arith) (fine e (omega arith) (omega arith))
    ∙ scan_passes fails end (e + 1) n (omega arith) (λ k low high. fine k (omega arith) (omega arith))
    ∙ ap (λ k. first_from fails k (end - k)) (omega arith)

-- What is first among the n entries from e on is what the scan finds.
pub is_first
    : (fails : ℕ → Bool) (e n end : ℕ) (found : Option ℕ) → end ≡ e + n
    → MatchOption found ((k : ℕ) → e ≤ k → k < end → fails k ≡ false)
    (λ i. (e ≤ i) × (i < end) × (fails i ≡ true) × ((k : ℕ) → e ≤ k → k < i → fails k ≡ false))
    → found ≡ first_from fails e n
is_first fails e n end None is none =
    sym (ap (first_from fails e) (omega arith)
    ∙ scan_passes fails end e n (omega arith) (λ k low high. none k low (omega arith))
    ∙ scan_ends fails end (e + n) (omega arith))
is_first fails e n end (Some i) is some =
    sym (ap (first_from fails e) (omega arith)
    ∙ scan_passes fails end e (i - e) (omega (arith, some.0, some.1)) (λ k low high. some.3 k low (omega (arith, some.0)))
    ∙ ap (λ k. first_from fails k (end - k)) (omega (arith, some.0))
    ∙ scan_hits fails end i some.1 some.2)

-- A kind above or below a number is not that number.
above : (k n : ℕ) → n < k → eqb k n ≡ false
above k n h = ne_eqb k n (λ e. omega arith)

below : (k n : ℕ) → k < n → eqb k n ≡ false
below k n h = ne_eqb k n (λ e. omega arith)

-- The shapes of the kinds of a range, and of those that are in no range.
pub label_shapes : (k : ℕ) → k ≤ qubit_kind → label_shape k ≡ known (parts_of_kind k) Zero
unfolding label_shape parts_of_kind
label_shapes k most =
    in_range (λ k. label_shape k ≡ known (parts_of_kind k) Zero) 0 2 (refl and refl and no_more) k (omega arith) (omega arith)

pub type_shapes : (k : ℕ) → k ≤ unit_kind → type_shape k ≡ known (parts_of_kind k) Zero
unfolding type_shape parts_of_kind
type_shapes k most =
    in_range (λ k. type_shape k ≡ known (parts_of_kind k) Zero) 0 7
    (refl and refl and refl and refl and refl and refl and refl and no_more)
    k
    (omega arith)
    (omega arith)

pub no_types : (k : ℕ) → unit_kind < k → type_shape k ≡ None
unfolding type_shape
no_types k h =
    rw (
      lt-leb k qubit_kind (omega arith),
      le-leb pair_type_kind k (omega arith),
      lt-leb k function_kind (omega arith),
      above k reusable_kind (omega arith),
      above k circuit_kind (omega arith),
      above k unit_kind h,
    )

pub zero_terms : (k : ℕ) → application_kind ≤ k → k ≤ force_kind → rule_of (term_shape k) ≡ Some Zero
unfolding term_shape
zero_terms k least most =
    in_range (λ k. rule_of (term_shape k) ≡ Some Zero) application_kind 5
    (refl and refl and refl and refl and refl and no_more)
    k
    least
    (omega arith)

pub no_terms_below : (k : ℕ) → k < variable_kind → term_shape k ≡ None
unfolding term_shape
no_terms_below k h =
    rw (
      below k variable_kind h,
      below k label_kind (omega arith),
      below k abstraction_kind (omega arith),
      lt-leb application_kind k (omega arith),
      lt-leb lift_kind k (omega arith),
      below k box_kind (omega arith),
      below k apply_kind (omega arith),
      below k gate_term_kind (omega arith),
      below k unit_value_kind (omega arith),
    )

pub no_terms_above : (k : ℕ) → unit_value_kind < k → term_shape k ≡ None
unfolding term_shape
no_terms_above k h =
    rw (
      above k variable_kind (omega arith),
      above k label_kind (omega arith),
      above k abstraction_kind (omega arith),
      le-leb application_kind k (omega arith),
      lt-leb k let_kind (omega arith),
      le-leb lift_kind k (omega arith),
      lt-leb k force_kind (omega arith),
      above k box_kind (omega arith),
      above k apply_kind (omega arith),
      above k gate_term_kind (omega arith),
      above k unit_value_kind h,
    )

-- What the shapes of the type section and of the term section are, kind by kind.
pub ruleset type_section = (type_shapes, no_types)

pub ruleset term_section = (zero_terms, no_terms_below, no_terms_above)
