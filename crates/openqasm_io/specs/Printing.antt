-- What the programs `qasmout` and `qasmin` read and print (02, ticket 4).
use Rattle.std.specs.Prelude.{ℕ, ◌+◌, List, Result, Ok, Err}
use Rattle.std.proofs.Math.Option.{Option, none, some}
use Rattle.refusals.specs.declared.Refusal.{Refusal}
use Rattle.refusals.specs.declared.Refusal.TheVariants.{Run}
use Rattle.refusals.specs.Refusals.{refusal_number, refusal_place}
use Rattle.listing.specs.Listing.{most_bytes}
use Rattle.listing_check.specs.declared.ListingSizes.{ListingSizes}
use Rattle.openqasm.specs.Layout.{export_of, most_text}
use Rattle.openqasm_export.specs.Answers.{export_check_of}
use Rattle.openqasm_import.specs.Answers.{import_of}
use Rattle.wirelist_lines.specs.Lines.{refused_line}

-- `qasmout` reads at most one byte more than the longest listing has, `qasmin` one more than the longest text.
abbrev pub most_listing_read : ℕ
most_listing_read = most_bytes + 1

abbrev pub most_text_read : ℕ
most_text_read = most_text + 1

-- The line of a refusal, as `wirelist` prints it.
abbrev pub refusal_line : Refusal → List ℕ
refusal_line x = refused_line (refusal_number x) (refusal_place x)

-- The text of a listing that the export takes; the line of the refusal of any other.
abbrev pub answer_bytes : List ℕ → Result ListingSizes Refusal → List ℕ
answer_bytes b (Ok sizes) = export_of b
answer_bytes b (Err x) = refusal_line x

-- All bytes that `qasmout` prints for the bytes of a listing.
unfoldable pub exported_bytes : List ℕ → List ℕ
exported_bytes b = answer_bytes b (export_check_of b)

-- The listing of which a text is the export; where there is none, the line of the refusal: "27 a text that is the export of no
-- listing within the sizes, place 0".
abbrev pub found_bytes : Option (List ℕ) → List ℕ
found_bytes none = refusal_line (Run 27 0)
found_bytes (some b) = b

-- All bytes that `qasmin` prints for a text.
unfoldable pub imported_bytes : List ℕ → List ℕ
imported_bytes text = found_bytes (import_of text)
