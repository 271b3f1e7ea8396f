-- Laws of specs/Deciding.antt.
use Rattle.std.specs.Prelude.{ℕ, zero, suc, ◌+◌, ◌-◌, ◌≤◌, ◌<◌, ◌≡◌, refl, Bool, true, false, cond, List, [], eqb, length}
use Rattle.std.specs.Prelude.{Some, Result, Ok, Err}
use Rattle.std.specs.Option.{option_or}
use Rattle.std.proofs.Common.{arith, sym, ◌∙◌, ap, ap₂, subst, eq-eqb, ne_eqb}
use Rattle.std.proofs.Math.Option.{Option, none, some}
use Rattle.rules.specs.Types.{Wire, Ty}
use Rattle.rules.specs.Terms.{Term}
use Rattle.rules.specs.Inference.{label_uses}
use Rattle.refusals.specs.declared.Refusal.{Refusal}
use Rattle.check_types.specs.Cells.{Denotes}
use Rattle.check_program.specs.Checking.{Checked, typed, fault, check_term, earlier, wrong_label, secondly, decided}
use Rattle.check_program.specs.Checking.{verdict}
use Rattle.words.specs.Found.{option_of}
use Rattle.check_program.specs.Layout.{binding_uses}
use Rattle.rules.specs.Sizes.{most_labels}
use Rattle.check_program.proofs.Laws.Counting.{counted_label}
use Rattle.check_program.specs.Inferring.{Inferred, Answered}
use Rattle.check_program.proofs.Laws.Arms.{earlier_as}
use Rattle.check_program.specs.Deciding.{wrong_use, settled, decided_as, SaysVerdict}

-- The scan of the labels: the next one, and the end.
pub wrong_here : (w : List ℕ) (end ℓ : ℕ)
    → ℓ < end → (binding_uses w ℓ ≡ 1 → ⊥) → wrong_use w ℓ (end - ℓ) ≡ Some ℓ
wrong_here w end ℓ h wrong =
    let left : end - ℓ ≡ suc (end - suc ℓ) = omega arith in
    ap (wrong_use w ℓ) left
    ∙ ap (λ t. cond t (wrong_use w (suc ℓ) (end - suc ℓ)) (Some ℓ)) (ne_eqb (binding_uses w ℓ) 1 wrong)

pub right_here : (w : List ℕ) (end ℓ : ℕ)
    → ℓ < end → binding_uses w ℓ ≡ 1 → wrong_use w ℓ (end - ℓ) ≡ wrong_use w (ℓ + 1) (end - (ℓ + 1))
right_here w end ℓ h right =
    let left : end - ℓ ≡ suc (end - suc ℓ) = omega arith in
    let next : suc ℓ ≡ ℓ + 1 = omega arith in
    ap (wrong_use w ℓ) left
    ∙ ap (λ t. cond t (wrong_use w (suc ℓ) (end - suc ℓ)) (Some ℓ)) (eq-eqb (binding_uses w ℓ) 1 right)
    ∙ ap (λ i. wrong_use w i (end - i)) next

-- The bindings' uses are those of the labels, so the scan finds the first label that is used wrongly.
wrong_is : (w : List ℕ) (M : Term) (ℓ k : ℕ)
    → ((i : ℕ) → i < ℓ + k → binding_uses w i ≡ label_uses i M)
    → wrong_use w ℓ k ≡ option_of (wrong_label M ℓ k)
wrong_is w M ℓ zero uses = refl
wrong_is w M ℓ (suc k) uses =
    ap₂ (λ n x. cond (eqb n 1) x (Some ℓ)) (uses ℓ (omega arith))
    (wrong_is w M (suc ℓ) k (λ i h. uses i (omega arith)))
    ∙ go (eqb (label_uses ℓ M) 1)
  where
    go : (t : Bool) → cond t (option_of (wrong_label M (suc ℓ) k)) (Some ℓ) ≡ option_of (cond t (wrong_label M (suc ℓ) k) (some ℓ))
    go true = refl
    go false = refl

settle_says : (w : List ℕ) (n cell : ℕ) (A : Ty) (u v : Option ℕ) (r : Result ℕ Refusal)
    → Denotes w n cell A
    → r ≡ settled cell (option_of u) (option_of v)
    → SaysVerdict w (secondly A u v) r
settle_says w n cell A none none r d q = record { cell = cell; cells = n; answer = q; denotes = d }
settle_says w n cell A none (some p) r d q = q
settle_says w n cell A (some p) v r d q = q

-- The answer for what is found in a term: the decision, or the first 16.
abbrev pub Decides : List ℕ → ℕ → Inferred → Result ℕ Refusal → Type 0
Decides w labels (Ok found) r = r ≡ decided_as w labels found
Decides w labels (Err x) r = r ≡ Err x

-- The verdict on the program, from what is found in its term.
pub verdict_said : (w w' : List ℕ) (cells e n : ℕ) (L : List Wire) (M : Term) (found : Inferred) (r : Result ℕ Refusal) (labels : ℕ)
    → Answered w w' cells [] M n (check_term L [] 0 e M) found
    → labels ≡ length L
    → length L ≤ most_labels
    → ((ℓ : ℕ) → ℓ < most_labels → binding_uses w ℓ ≡ 0)
    → Decides w' labels found r
    → SaysVerdict w' (verdict L e M) r
verdict_said w w' cells e n L M found r labels answered count few fresh is = go (check_term L [] 0 e M) answered
  where
    go : (c : Checked) → Answered w w' cells [] M n c found → SaysVerdict w' (decided L M c) r
    go (fault p) q = subst (λ x. Decides w' labels x r) q is
    go (typed A u v) g =
        let uses : (i : ℕ) → i < 0 + length L → binding_uses w' i ≡ label_uses i M
        = λ i h. omega (
          arith,
          g.kept.uses_counted i (omega arith),
          fresh i (omega arith),
          counted_label 0 i M (omega arith),
        )
        in
        settle_says w' g.cells' g.cell A (earlier (wrong_label M 0 (length L)) u) v r g.denotes
        (subst (λ x. Decides w' labels x r) g.answer is
        ∙ ap (λ k. settled g.cell (option_or (wrong_use w' 0 k) (option_of u)) (option_of v)) count
        ∙ ap (λ x. settled g.cell (option_or x (option_of u)) (option_of v)) (wrong_is w' M 0 (length L) uses)
        ∙ ap (λ x. settled g.cell x (option_of v)) (sym (earlier_as (wrong_label M 0 (length L)) u)))
