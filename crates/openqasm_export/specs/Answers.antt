-- What the export of a listing answers and leaves in its buffers (02, ticket 4): "Export takes any listing that ticket 3's check
-- accepts", unless it has a gate for which the exchange format has no word (ticket 5).
use Rattle.std.specs.Prelude.{ℕ, Bool, not, cond, List, [], ◌∷◌, ◌++◌, length, drop, Result, Ok, Err}
use Rattle.std.proofs.Math.Option.{Option, none, some}
use Rattle.lent.specs.Lent.{too_short, bytes_left}
use Rattle.refusals.specs.declared.Refusal.{Refusal}
use Rattle.refusals.specs.declared.Refusal.TheVariants.{Run}
use Rattle.listing.specs.Reading.{input_count, gate_count, kind_at}
use Rattle.wire_table.specs.Wires.{first_where}
use Rattle.listing_check.specs.declared.ListingSizes.{ListingSizes}
use Rattle.listing_check.specs.Answers.{listing_check_of, most_wires}
use Rattle.openqasm.specs.Layout.{has_statement, export_of, most_text}

-- The least lengths: the output buffer holds every text, the working memory a byte for each wire that a listing may make.
abbrev pub export_lengths : List ℕ
export_lengths = most_text ∷ most_wires ∷ []

-- Is there no statement for the gate of entry e?
abbrev pub is_unwritten : List ℕ → ℕ → Bool
is_unwritten b e = not (has_statement (kind_at b e))

-- The first gate entry of which this is so. Inputs are the first entries, and the gates follow, the oldest first.
unfoldable pub first_unwritten : List ℕ → Option ℕ
first_unwritten b = first_where (is_unwritten b) (input_count b) (gate_count b)

-- "28 export of a listing with gate 9 or 10, place the first such entry", of a listing that is accepted.
abbrev pub statements_judged : Result ListingSizes Refusal → Option ℕ → Result ListingSizes Refusal
statements_judged (Ok sizes) none = Ok sizes
statements_judged (Ok sizes) (some entry) = Err (Run 28 entry)
statements_judged (Err x) found = Err x

-- The check of a listing that is to be exported: 24, 25 and 26 "first wherever a listing is read", then 28.
unfoldable pub export_check_of : List ℕ → Result ListingSizes Refusal
export_check_of b = let found = first_unwritten b in statements_judged (listing_check_of b) found

-- What is refused, and else the length of the text.
abbrev pub exported_as : List ℕ → Result ListingSizes Refusal → Result ℕ Refusal
exported_as b (Ok sizes) = Ok (length (export_of b))
exported_as b (Err x) = Err x

-- The text starts the output buffer; bytes past it keep their values, and after a refusal all do.
abbrev pub out_after : List ℕ → Result ListingSizes Refusal → List ℕ → List ℕ
out_after b (Ok sizes) out = export_of b ++ drop (length (export_of b)) out
out_after b (Err x) out = out

-- The answer, with the buffers that were lent: the output buffer, then the working memory. 01: "19, before all else".
unfoldable pub export_answer : List ℕ → List (List ℕ) → Result ℕ Refusal
export_answer b buffers =
    let later = exported_as b (export_check_of b) in cond (too_short export_lengths buffers) (Err (Run 19 0)) later

-- Their final bytes.
abbrev pub export_bytes : List ℕ → List (List ℕ) → List (List ℕ)
export_bytes b buffers = bytes_left export_lengths (out_after b (export_check_of b)) buffers
