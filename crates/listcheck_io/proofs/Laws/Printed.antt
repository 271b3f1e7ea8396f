-- The line for the answer to the bytes of a listing.
use Rattle.std.specs.Prelude.{ℕ, ◌≤◌, ◌≡◌, false, cond, List, [], ◌∷◌, length, Result, Err}
use Rattle.std.proofs.Common.{◌∙◌, ap, subst}
use Rattle.lent.specs.Lent.{too_short}
use Rattle.refusals.specs.declared.Refusal.{Refusal}
use Rattle.refusals.specs.declared.Refusal.TheVariants.{Run}
use Rattle.listing_check.specs.declared.ListingSizes.{ListingSizes}
use Rattle.listing_check.specs.Answers.{listing_lengths, listing_check_of, listing_check_answer}
use Rattle.text.specs.Written.{Written}
use Rattle.wirelist_lines.specs.Least.{refusal_bytes}
use Rattle.listcheck_io.specs.Printing.{answer_line, checked_line}

-- With working memory that is long enough the line is the one for the bytes.
pub answered_line : (b work : List ℕ) {answer : Result ListingSizes Refusal} {l text : List ℕ} {at : ℕ}
    → answer ≡ listing_check_answer b (work ∷ [])
    → Written l (answer_line answer) text at × (length (answer_line answer) ≤ refusal_bytes)
    → too_short listing_lengths (work ∷ []) ≡ false
    → Written l (checked_line b) text at × (length (checked_line b) ≤ refusal_bytes)
unfolding checked_line listing_check_answer
answered_line b work {l = l} {text = text} {at = at} is written long =
    subst (λ a. Written l (answer_line a) text at × (length (answer_line a) ≤ refusal_bytes))
    (is ∙ ap (λ t. cond t (Err (Run 19 0)) (listing_check_of b)) long)
    written
