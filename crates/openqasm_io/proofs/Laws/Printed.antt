-- What each answer leaves to be printed, and that it is what the program prints.
use Rattle.std.specs.Prelude.{ℕ, ◌≤◌, ◌≡◌, false, List, [], ◌∷◌, ◌++◌, map, get_or, take, drop, Result, Ok, Err}
use Rattle.std.proofs.Common.{arith, sym, ◌∙◌, ap₂, subst, subst₂, length-take, length-append}
use Rattle.std.proofs.Math.Path.{ap}
use Rattle.std.proofs.Math.Bool.{cond}
use Rattle.std.proofs.Math.Option.{Option, none, some}
use Rattle.std.proofs.Math.ListN.{length}
use Rattle.std.proofs.Math.Seq.{take-append_seam}
use Rattle.lent.specs.Lent.{too_short, answered, bytes_left}
use Rattle.lent.proofs.Laws.Lent.{below_later}
use Rattle.refusals.specs.declared.Refusal.{Refusal}
use Rattle.refusals.specs.declared.Refusal.TheVariants.{Run}
use Rattle.refusals.specs.Refusals.{refusal_number, refusal_place}
use Rattle.text.specs.Written.{Written}
use Rattle.text.proofs.Laws.Writing.{all_written}
use Rattle.listing.specs.Listing.{most_bytes}
use Rattle.listing_check.specs.declared.ListingSizes.{ListingSizes}
use Rattle.listing_check.specs.Answers.{most_wires}
use Rattle.openqasm.specs.Layout.{export_of, most_text}
use Rattle.openqasm_export.specs.Answers.{export_lengths, export_check_of, exported_as, out_after as text_after, export_answer}
use Rattle.openqasm_export.specs.Answers.{export_bytes}
use Rattle.openqasm_parts.specs.Reading.{slots_bytes}
use Rattle.openqasm_import.specs.Answers.{import_of, import_lengths, imported_as, out_after as listing_after, import_answer, import_bytes}
use Rattle.wirelist_lines.specs.Lines.{refused_line}
use Rattle.wirelist_lines.specs.Least.{refusal_bytes}
use Rattle.openqasm_io.specs.Printing.{refusal_line, answer_bytes, exported_bytes, found_bytes, imported_bytes}
use Rattle.openqasm_io.specs.Answered.{Ends}

-- The two ways to end.
module _ {answer : Result ℕ Refusal} {l out : List ℕ} {at : ℕ} where
  pub ends_written : {n : ℕ} → answer ≡ Ok n → out ≡ l → at ≡ n → Ends answer l out at
  ends_written kind same is = subst (λ a. Ends a l out at) (sym kind) (same, is)

  pub ends_refused : {x : Refusal} {number place : ℕ}
      → answer ≡ Err x
      → number ≡ refusal_number x
      → place ≡ refusal_place x
      → Written l (refused_line number place) out at
      → length (refused_line number place) ≤ refusal_bytes
      → Ends answer l out at
  ends_refused kind is_number is_place written fits =
      let its = ap₂ refused_line is_number is_place in
      subst (λ a. Ends a l out at) (sym kind)
      (subst (λ xs. Written l xs out at) its written, subst (λ xs. length xs ≤ refusal_bytes) its fits)

-- These bytes stand at the start of a buffer, before a place.
abbrev pub Starts : List ℕ → List ℕ → ℕ → Type 0
Starts xs out at = (take at out ≡ xs) × (at ≤ length out)

written_starts : (xs l out : List ℕ) (at : ℕ) → out ≡ xs ++ drop (length xs) l → at ≡ length xs → Starts xs out at
written_starts xs l out at is here = (
  ap₂ take here is ∙ take-append_seam xs (drop (length xs) l),
  omega (arith, ap length is, length-append xs (drop (length xs) l)),
)

refusal_starts : (x : Refusal) (l out : List ℕ) (at : ℕ)
    → refusal_bytes ≤ length l
    → Ends (Err x) l out at
    → Starts (refusal_line x) out at
refusal_starts x l out at room ends =
    let whole = all_written ends.0 (omega (arith, ends.1)) in
    (whole, omega (arith, ends.0.place, ends.1, ap length whole, length-take at out))

-- With buffers that are long enough, the output buffer is left as the answer has it written.
first_left : (least : List ℕ) (written : List ℕ → List ℕ) (out : List ℕ) (work : List (List ℕ))
    {out' : List ℕ} {work' : List (List ℕ)}
    → too_short least (out ∷ work) ≡ false
    → (out' ∷ work') ≡ bytes_left least written (out ∷ work)
    → out' ≡ written out
unfolding bytes_left
first_left least written out work long is =
    ap (λ l. get_or l 0 []) (is ∙ ap (λ t. cond t (out ∷ work) (answered written (out ∷ work))) long)

-- What `qasmout` prints is what stands in front.
module _ (b : List ℕ) where
  export_starts : (a : Result ListingSizes Refusal) (out out' : List ℕ) (at : ℕ)
      → refusal_bytes ≤ length out
      → Ends (exported_as b a) (text_after b a out) out' at
      → Starts (answer_bytes b a) out' at
  export_starts (Ok sizes) out out' at room ends = written_starts (export_of b) out out' at ends.0 ends.1
  export_starts (Err x) out out' at room ends = refusal_starts x out out' at room ends

  pub export_printed : (out out' : List ℕ) (work : List (List ℕ)) (at : ℕ)
      {answer : Result ℕ Refusal} {left : List ℕ} {work' : List (List ℕ)}
      → most_text ≤ length out
      → too_short (most_wires ∷ []) work ≡ false
      → answer ≡ export_answer b (out ∷ work)
      → (left ∷ work') ≡ export_bytes b (out ∷ work)
      → Ends answer left out' at
      → Starts (exported_bytes b) out' at
  unfolding export_answer exported_bytes
  export_printed out out' work at room others is bytes ends =
      let long = below_later most_text (length out) (most_wires ∷ []) (map length work) room ∙ others in
      let a = export_check_of b in
      export_starts a out out' at (omega arith)
      (subst₂ (λ c l. Ends c l out' at)
      (is ∙ ap (λ t. cond t (Err (Run 19 0)) (exported_as b a)) long)
      (first_left export_lengths (text_after b a) out work long bytes)
      ends)

-- The same of `qasmin`; these are the least lengths of its working memory.
abbrev pub memory_lengths : List ℕ
memory_lengths = slots_bytes ∷ most_bytes ∷ most_wires ∷ most_text ∷ []

module _ (text : List ℕ) where
  import_starts : (o : Option (List ℕ)) (out out' : List ℕ) (at : ℕ)
      → refusal_bytes ≤ length out
      → Ends (imported_as o) (listing_after o out) out' at
      → Starts (found_bytes o) out' at
  import_starts none out out' at room ends = refusal_starts (Run 27 0) out out' at room ends
  import_starts (some b) out out' at room ends = written_starts b out out' at ends.0 ends.1

  pub import_printed : (out out' : List ℕ) (work : List (List ℕ)) (at : ℕ)
      {answer : Result ℕ Refusal} {left : List ℕ} {work' : List (List ℕ)}
      → most_bytes ≤ length out
      → too_short memory_lengths work ≡ false
      → answer ≡ import_answer text (out ∷ work)
      → (left ∷ work') ≡ import_bytes text (out ∷ work)
      → Ends answer left out' at
      → Starts (imported_bytes text) out' at
  unfolding import_answer imported_bytes
  import_printed out out' work at room others is bytes ends =
      let long = below_later most_bytes (length out) memory_lengths (map length work) room ∙ others in
      let o = import_of text in
      import_starts o out out' at (omega arith)
      (subst₂ (λ c l. Ends c l out' at)
      (is ∙ ap (λ t. cond t (Err (Run 19 0)) (imported_as o)) long)
      (first_left import_lengths (listing_after o) out work long bytes)
      ends)
