-- To read one byte more than the longest listing has, or the longest text, is enough: what is printed is what all bytes give.
use Rattle.std.specs.Prelude.{ℕ, ◌<◌, ◌≡◌, List, length, take}
use Rattle.std.proofs.Common.{arith, sym, ◌∙◌, ap, length-take, take_all}
use Rattle.std.proofs.Math.Decide.{dec_lt}
use Rattle.refusals.specs.declared.Refusal.TheVariants.{Run}
use Rattle.listing.specs.Listing.{most_bytes}
use Rattle.listing_check.proofs.Laws.Places.{long_refused}
use Rattle.openqasm.specs.Layout.{most_text}
use Rattle.openqasm_export.proofs.Laws.Longest.{sound_fits}
use Rattle.openqasm_export.proofs.Laws.Statements.{refused_too}
use Rattle.openqasm_import.specs.Meaning.{ExportedFrom}
use Rattle.openqasm_import.proofs.Theorems.Imports.{import_means}
use Rattle.openqasm_io.specs.Printing.{most_listing_read, most_text_read, refusal_line, answer_bytes, exported_bytes}
use Rattle.openqasm_io.specs.Printing.{found_bytes, imported_bytes}

-- What is longer than the longest listing is refused.
long_unexported : (b : List ℕ) → most_bytes < length b → exported_bytes b ≡ refusal_line (Run 24 0)
unfolding exported_bytes
long_unexported b long = ap (answer_bytes b) (refused_too b (long_refused b long))

pub same_export : (b : List ℕ) → exported_bytes (take most_listing_read b) ≡ exported_bytes b
same_export b = of (dec_lt most_listing_read (length b))
  where
    of : Dec (most_listing_read < length b) → exported_bytes (take most_listing_read b) ≡ exported_bytes b
    of (yes long) =
        long_unexported (take most_listing_read b) (omega (arith, length-take most_listing_read b))
        ∙ sym (long_unexported b (omega arith))
    of (no short) = ap exported_bytes (take_all most_listing_read b (omega arith))

-- What is longer than the longest text is the export of no listing.
none_long : (text : List ℕ) → most_text < length text → (b : List ℕ) → ExportedFrom b text → ⊥
none_long text long b x = absurd (omega (arith, ap length x.text_is, sound_fits b x.accepted x.written))

long_unknown : (text : List ℕ) → most_text < length text → imported_bytes text ≡ refusal_line (Run 27 0)
unfolding imported_bytes
long_unknown text long = ap found_bytes ((import_means text).refused.1 (none_long text long))

pub same_import : (text : List ℕ) → imported_bytes (take most_text_read text) ≡ imported_bytes text
same_import text = of (dec_lt most_text_read (length text))
  where
    of : Dec (most_text_read < length text) → imported_bytes (take most_text_read text) ≡ imported_bytes text
    of (yes long) =
        long_unknown (take most_text_read text) (omega (arith, length-take most_text_read text))
        ∙ sym (long_unknown text (omega arith))
    of (no short) = ap imported_bytes (take_all most_text_read text (omega arith))
