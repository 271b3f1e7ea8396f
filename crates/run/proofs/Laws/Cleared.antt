-- The final bytes of a run's buffers, from those that it leaves before its working memory is cleared.
use Rattle.std.specs.Prelude.{ℕ, ◌≡◌, true, false, cond, List, ◌∷◌, map, length}
use Rattle.std.proofs.Common.{◌∙◌, ap, ap₂}
use Rattle.lent.specs.Lent.{too_short, zeroed}
use Rattle.lent.proofs.Laws.Lent.{short_left, long_left, zeroed_same}
use Rattle.run_answers.specs.Lengths.{run_lengths}
use Rattle.run_answers.specs.Answers.{run_of, out_to, run_bytes}
use Rattle.run_parts.specs.Parts.{out_left}

module _ (f : List ℕ) (limit : ℕ) (out : List ℕ) (work : List (List ℕ)) where
  -- A buffer is too short: none is touched.
  pub untouched : too_short run_lengths (out ∷ work) ≡ true → (out ∷ work) ≡ run_bytes f limit (out ∷ work)
  untouched short = short_left run_lengths (λ o. out_to o (run_of f limit)) (out ∷ work) short

  -- None is: the output buffer as the run left it, and working memory of the same lengths cleared.
  pub cleared : (out' : List ℕ) (work₁ work₂ : List (List ℕ))
      → too_short run_lengths (out ∷ work) ≡ false
      → out' ≡ out_left f limit (out ∷ work) out
      → map length work₁ ≡ map length work
      → work₂ ≡ map zeroed work₁
      → (out' ∷ work₂) ≡ run_bytes f limit (out ∷ work)
  cleared out' work₁ work₂ long left same zeroes =
      long_left run_lengths (λ o. out_to o (run_of f limit)) (out ∷ work) (out' ∷ work₂) long
      (ap₂ ◌∷◌ (left ∙ ap (λ b. cond b out (out_to out (run_of f limit))) long) (zeroes ∙ zeroed_same work₁ work same))
