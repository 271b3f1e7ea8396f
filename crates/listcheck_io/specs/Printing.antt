-- What the program `listcheck` reads and prints (02, ticket 3).
use Rattle.std.specs.Prelude.{ℕ, ◌+◌, List, [], Result, Ok, Err}
use Rattle.refusals.specs.declared.Refusal.{Refusal}
use Rattle.refusals.specs.Refusals.{refusal_number, refusal_place}
use Rattle.listing.specs.Listing.{most_bytes}
use Rattle.listing_check.specs.declared.ListingSizes.{ListingSizes}
use Rattle.listing_check.specs.Answers.{listing_check_of}
use Rattle.text.specs.Text.{ascii, line}
use Rattle.wirelist_lines.specs.Lines.{refused_line}

-- It reads at most one byte more than the longest listing has.
abbrev pub most_read : ℕ
most_read = most_bytes + 1

-- One line: `accepted`, or that of the refusal, as `wirelist` prints it.
abbrev pub answer_line : Result ListingSizes Refusal → List ℕ
answer_line (Ok n) = line (ascii "accepted") []
answer_line (Err x) = refused_line (refusal_number x) (refusal_place x)

-- All bytes that `listcheck` prints for the bytes of a listing.
unfoldable pub checked_line : List ℕ → List ℕ
checked_line b = answer_line (listing_check_of b)
