-- To read one byte more than the longest listing has is enough: the answer is that to all bytes.
use Rattle.std.specs.Prelude.{ℕ, ◌<◌, ◌≡◌, List, length, take}
use Rattle.std.proofs.Common.{arith, sym, ◌∙◌, ap, length-take, take_all}
use Rattle.std.proofs.Math.Decide.{dec_lt}
use Rattle.listing_check.specs.Answers.{listing_check_of}
use Rattle.listing_check.proofs.Laws.Places.{long_refused}
use Rattle.listcheck_io.specs.Printing.{most_read, answer_line, checked_line}

-- The answer to what is read is the answer to all bytes, and so is what is printed.
pub same_answer : (b : List ℕ) → listing_check_of (take most_read b) ≡ listing_check_of b
same_answer b = of (dec_lt most_read (length b))
  where
    of : Dec (most_read < length b) → listing_check_of (take most_read b) ≡ listing_check_of b
    of (yes long) =
        long_refused (take most_read b) (omega (arith, length-take most_read b)) ∙ sym (long_refused b (omega arith))
    of (no short) = ap listing_check_of (take_all most_read b (omega arith))

pub same_line : (b : List ℕ) → checked_line (take most_read b) ≡ checked_line b
unfolding checked_line
same_line b = ap answer_line (same_answer b)
