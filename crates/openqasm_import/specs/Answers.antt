-- What the import of a text answers and leaves in its buffers (02, ticket 4).
use Rattle.std.specs.Prelude.{ℕ, Bool, true, false, ◌&&◌, cond, List, [], ◌∷◌, ◌++◌, eqb, length, drop, Result, Ok, Err}
use Rattle.std.proofs.Math.Option.{Option, none, some}
use Rattle.lent.specs.Lent.{too_short, bytes_left}
use Rattle.refusals.specs.declared.Refusal.{Refusal}
use Rattle.refusals.specs.declared.Refusal.TheVariants.{Run}
use Rattle.listing.specs.Listing.{most_bytes}
use Rattle.listing_check.specs.declared.ListingSizes.{ListingSizes}
use Rattle.listing_check.specs.Answers.{most_wires}
use Rattle.openqasm.specs.Layout.{export_of, most_text}
use Rattle.openqasm_export.specs.Answers.{export_check_of}
use Rattle.openqasm_parts.specs.Reading.{listing_read, slots_bytes}

abbrev pub is_accepted : Result ListingSizes Refusal → Bool
is_accepted (Ok sizes) = true
is_accepted (Err x) = false

-- Are these the same bytes?
abbrev pub same_bytes : List ℕ → List ℕ → Bool
same_bytes [] [] = true
same_bytes [] (y ∷ ys) = false
same_bytes (x ∷ xs) [] = false
same_bytes (x ∷ xs) (y ∷ ys) = eqb x y && same_bytes xs ys

-- The listing of a text: the one that is read from it, if the export takes it and the text is its export. Specs/Meaning says what
-- that comes to, whatever is read: "Importing an exported text gives the same listing; any other text is refused."
unfoldable pub import_of : List ℕ → Option (List ℕ)
import_of text =
    let b = listing_read text in cond (is_accepted (export_check_of b) && same_bytes text (export_of b)) (some b) none

-- The least lengths. The output buffer holds the longest listing. Of the working memory the first buffer holds slots and outputs,
-- the second the listing, the third a byte for each wire, the fourth a text.
abbrev pub import_lengths : List ℕ
import_lengths = most_bytes ∷ slots_bytes ∷ most_bytes ∷ most_wires ∷ most_text ∷ []

-- "27 a text that is the export of no listing within the sizes, place 0"; else the length of the listing.
abbrev pub imported_as : Option (List ℕ) → Result ℕ Refusal
imported_as none = Err (Run 27 0)
imported_as (some b) = Ok (length b)

-- The listing starts the output buffer; bytes past it keep their values, and after a refusal all do.
abbrev pub out_after : Option (List ℕ) → List ℕ → List ℕ
out_after none out = out
out_after (some b) out = b ++ drop (length b) out

-- The answer, with the buffers that were lent: the output buffer, then the working memory. 01: "19, before all else".
unfoldable pub import_answer : List ℕ → List (List ℕ) → Result ℕ Refusal
import_answer text buffers =
    let later = imported_as (import_of text) in cond (too_short import_lengths buffers) (Err (Run 19 0)) later

-- Their final bytes.
abbrev pub import_bytes : List ℕ → List (List ℕ) → List (List ℕ)
import_bytes text buffers = bytes_left import_lengths (out_after (import_of text)) buffers
