-- The answer of an import, with the buffers that were lent.
use Rattle.std.specs.Prelude.{ℕ, ◌≤◌, ◌≡◌, Bool, true, false, not, ◌&&◌, ◌||◌, List, [], ◌∷◌, eqb, ltb, length, take, Result, Ok, Err}
use Rattle.std.specs.Result.{is_err}
use lib.Pointwise.{pointwise}
use Rattle.std.proofs.Common.{arith, ◌∙◌, length-take, le-ltb}
use Rattle.std.proofs.Math.Path.{refl, sym, ap, ap₂, subst}
use Rattle.std.proofs.Math.Bool.{cond}
use Rattle.std.proofs.Math.Option.{none, some}
use Rattle.lent.specs.Lent.{too_short, zeroed}
use Rattle.lent.proofs.Laws.Lent.{all_least, short_left, long_left}
use Rattle.refusals.specs.declared.Refusal.{Refusal}
use Rattle.refusals.specs.declared.Refusal.TheVariants.{Run}
use Rattle.text.specs.Writing.{Puts}
use Rattle.text.specs.Written.{Written}
use Rattle.text.proofs.Laws.Writing.{puts_first, all_written}
use Rattle.listing.specs.Listing.{most_bytes}
use Rattle.listing.proofs.Laws.Lengths.{length_listing}
use Rattle.listing.specs.Reading.{gates_of}
use Rattle.listing_check.specs.declared.ListingSizes.{ListingSizes}
use Rattle.listing_check.specs.Answers.{most_wires}
use Rattle.listing_check.specs.Wires.{Whole}
use Rattle.openqasm.specs.Layout.{AllWritten, export_of, most_text}
use Rattle.openqasm_export.specs.Answers.{export_check_of}
use Rattle.openqasm_export.proofs.Laws.Longest.{sound_fits}
use Rattle.openqasm_export.proofs.Laws.Answering.{or_false, written_whole, accepted_whole}
use Rattle.openqasm_parts.specs.Reading.{parts_read, listing_read, slots_bytes}
use Rattle.openqasm_parts.proofs.Theorems.ReadBack.{parts_few}
use Rattle.openqasm_import.specs.Answers.{is_accepted, same_bytes, import_of, import_lengths, imported_as, out_after}
use Rattle.openqasm_import.specs.Answers.{import_answer, import_bytes}
use Rattle.openqasm_import.specs.Buffers.{AllLong}
use Rattle.openqasm_import.proofs.Laws.Comparing.{same_told}
use Rattle.openqasm_import.proofs.Theorems.Imports.{read_sound, read_written}

-- These bytes stand at the start of a buffer, before a place.
pub record Stands (xs buffer : List ℕ) (at : ℕ) : Type 0 where
  pub within : at ≤ length buffer
  pub counted : at ≡ length xs
  pub part_length : at ≡ length (take at buffer)
  pub part_is : take at buffer ≡ xs

-- What was written with room for all of it stands there.
written_stands : {l xs buffer : List ℕ} {at : ℕ}
    → Written l xs buffer at
    → length xs ≤ length l
    → length buffer ≡ length l
    → Stands xs buffer at
written_stands {buffer = buffer} {at = at} w fits same =
    let place = (written_whole w fits).0 in
    record {
      within = omega (arith, place);
      counted = place;
      part_length = omega (arith, place, length-take at buffer);
      part_is = all_written w fits;
    }

module _ (text : List ℕ) where
  abbrev b : List ℕ
  b = listing_read text

  -- The listing that is read is no longer than the longest.
  read_fits : length b ≤ most_bytes
  read_fits =
      let p = parts_read text in
      let few = parts_few text in
      omega (arith, length_listing p.inputs p.gates p.outs, few.0, few.1, few.2)

  -- It stands before the place that is answered.
  pub listing_stands : {l listing : List ℕ} {r : ℕ}
      → most_bytes ≤ length l
      → length listing ≡ length l
      → Written l b listing r
      → Stands b listing r
  listing_stands {l} {listing} room same w = written_stands w (omega (arith, read_fits)) same

  -- What the check of its export answers tells whether the export takes it.
  module _ {listing : List ℕ} {n : ℕ} {answer : Result ListingSizes Refusal} {failed t : Bool}
      (read : Stands b listing n) (is : answer ≡ export_check_of (take n listing))
      (told : failed ≡ is_err answer) (tested : failed ≡ t) where
    pub taken : is_accepted (export_check_of b) ≡ not t
    taken =
        ap (λ d. is_accepted (export_check_of d)) (sym read.part_is)
        ∙ ap is_accepted (sym is)
        ∙ of answer
        ∙ ap not (sym told ∙ tested)
      where
        of : (a : Result ListingSizes Refusal) → is_accepted a ≡ not (is_err a)
        of (Ok m) = refl
        of (Err x) = refl

  -- If the export takes it, it is within the sizes, and its text stands likewise.
  pub text_stands : {l listing exported table : List ℕ} {n r : ℕ}
      → Stands b listing n
      → is_accepted (export_check_of b) ≡ true
      → most_wires ≤ length table
      → most_text ≤ length l
      → length exported ≡ length l
      → (Whole (take n listing) table → AllWritten (gates_of (take n listing)) → Written l (export_of (take n listing)) exported r)
      → Stands (export_of b) exported r
  text_stands {l} {listing} {exported} {table} {n} {r} read passed long room same w =
      let sound = read_sound text passed in
      let written = read_written text passed in
      let here = sym read.part_is in
      written_stands
      (subst (λ d. Written l (export_of d) exported r) read.part_is
      (w (subst (λ d. Whole d table) here (accepted_whole b table sound long)) (subst (λ d. AllWritten (gates_of d)) here written)))
      (omega (arith, sound_fits b sound written, room))
      same

  -- What std says of the text and the one that was written.
  pub compared : {exported : List ℕ} {r : ℕ} {differs t : Bool}
      → Stands (export_of b) exported r
      → differs ≡ not (pointwise eqb text (take r exported))
      → differs ≡ t
      → same_bytes text (export_of b) ≡ not t
  compared {exported} {r} stands told tested =
      ap (same_bytes text) (sym stands.part_is)
      ∙ sym (same_told text (take r exported))
      ∙ of (pointwise eqb text (take r exported))
      ∙ ap not (sym told ∙ tested)
    where
      of : (s : Bool) → s ≡ not (not s)
      of true = refl
      of false = refl

  -- The three ways to end.
  not_accepted : is_accepted (export_check_of b) ≡ false → import_of text ≡ none
  unfolding import_of
  not_accepted e = ap (λ t. cond (t && same_bytes text (export_of b)) (some b) none) e

  other_text : is_accepted (export_check_of b) ≡ true → same_bytes text (export_of b) ≡ false → import_of text ≡ none
  unfolding import_of
  other_text e f = ap₂ (λ t u. cond (t && u) (some b) none) e f

  same_text : is_accepted (export_check_of b) ≡ true → same_bytes text (export_of b) ≡ true → import_of text ≡ some b
  unfolding import_of
  same_text e f = ap₂ (λ t u. cond (t && u) (some b) none) e f

  module _ (out : List ℕ) where
    none_answered : {r : Result ℕ Refusal}
        → import_of text ≡ none
        → r ≡ Err (Run 27 0)
        → (r ≡ imported_as (import_of text)) × (out ≡ out_after (import_of text) out)
    none_answered e is = (is ∙ sym (ap imported_as e), sym (ap (λ o. out_after o out) e))

    pub not_accepted_answered : {r : Result ℕ Refusal}
        → is_accepted (export_check_of b) ≡ false
        → r ≡ Err (Run 27 0)
        → (r ≡ imported_as (import_of text)) × (out ≡ out_after (import_of text) out)
    not_accepted_answered e is = none_answered (not_accepted e) is

    pub other_text_answered : {r : Result ℕ Refusal}
        → is_accepted (export_check_of b) ≡ true
        → same_bytes text (export_of b) ≡ false
        → r ≡ Err (Run 27 0)
        → (r ≡ imported_as (import_of text)) × (out ≡ out_after (import_of text) out)
    other_text_answered e f is = none_answered (other_text e f) is

    pub same_text_answered : {out' : List ℕ} {n at : ℕ}
        → is_accepted (export_check_of b) ≡ true
        → same_bytes text (export_of b) ≡ true
        → most_bytes ≤ length out
        → n ≡ length b
        → Puts out 0 b out' at
        → (Ok n ≡ imported_as (import_of text)) × (out' ≡ out_after (import_of text) out)
    same_text_answered e f room is puts =
        let whole = written_whole (puts_first puts) (omega (arith, read_fits, room)) in
        let found = same_text e f in
        (ap Ok is ∙ sym (ap imported_as found), whole.1 ∙ sym (ap (λ o. out_after o out) found))

  -- Buffers that are too short, and those that are not.
  module _ (out slots listing table exported : List ℕ) where
    abbrev lent : List (List ℕ)
    lent = out ∷ slots ∷ listing ∷ table ∷ exported ∷ []

    abbrev tested : Bool
    tested =
        ltb (length out) most_bytes
        || (ltb (length slots) slots_bytes
        || (ltb (length listing) most_bytes || (ltb (length table) most_wires || ltb (length exported) most_text)))

    same_test : too_short import_lengths lent ≡ tested
    same_test =
        ap (λ t.
        ltb (length out) most_bytes
        || (ltb (length slots) slots_bytes || (ltb (length listing) most_bytes || (ltb (length table) most_wires || t))))
        (or_false (ltb (length exported) most_text))

    all_long : tested ≡ false → AllLong out slots listing table exported
    all_long long =
        let e = all_least import_lengths (length out ∷ length slots ∷ length listing ∷ length table ∷ length exported ∷ [])
        (same_test ∙ long) in
        record {
          out_long = e.0;
          slots_long = e.1.0;
          listing_long = e.1.1.0;
          table_long = e.1.1.1.0;
          exported_long = e.1.1.1.1.0;
        }

    pub short_answered : {r : Result ℕ Refusal}
        → (AllLong out slots listing table exported → ⊥)
        → r ≡ Err (Run 19 0)
        → (r ≡ import_answer text lent) × (lent ≡ import_bytes text lent)
    unfolding import_answer
    short_answered short is =
        let e = same_test ∙ of tested refl in (
          is ∙ sym (ap (λ t. cond t (Err (Run 19 0)) (imported_as (import_of text))) e),
          short_left import_lengths (out_after (import_of text)) lent e,
        )
      where
        of : (t : Bool) → tested ≡ t → tested ≡ true
        of true e = e
        of false e = absurd (short (all_long e))

    none_short : AllLong out slots listing table exported → tested ≡ false
    none_short l =
        ap₂ ◌||◌ (le-ltb _ _ l.out_long)
        (ap₂ ◌||◌ (le-ltb _ _ l.slots_long)
        (ap₂ ◌||◌ (le-ltb _ _ l.listing_long) (ap₂ ◌||◌ (le-ltb _ _ l.table_long) (le-ltb _ _ l.exported_long))))

    pub long_answered : {r : Result ℕ Refusal} (out' slots' listing' table' exported' : List ℕ)
        → AllLong out slots listing table exported
        → r ≡ imported_as (import_of text)
        → out' ≡ out_after (import_of text) out
        → slots' ≡ zeroed slots
        → listing' ≡ zeroed listing
        → table' ≡ zeroed table
        → exported' ≡ zeroed exported
        → (r ≡ import_answer text lent)
        × ((out' ∷ slots' ∷ listing' ∷ table' ∷ exported' ∷ []) ≡ import_bytes text lent)
    unfolding import_answer
    long_answered out' slots' listing' table' exported' long is o s l t x =
        let e = same_test ∙ none_short long in (
          is ∙ sym (ap (λ t. cond t (Err (Run 19 0)) (imported_as (import_of text))) e),
          long_left import_lengths (out_after (import_of text)) lent (out' ∷ slots' ∷ listing' ∷ table' ∷ exported' ∷ []) e
              (ap₂ (λ u v. u ∷ v ∷ listing' ∷ table' ∷ exported' ∷ []) o s
              ∙ ap₂ (λ u v. out_after (import_of text) out ∷ zeroed slots ∷ u ∷ v ∷ exported' ∷ []) l t
              ∙ ap (λ u. out_after (import_of text) out ∷ zeroed slots ∷ zeroed listing ∷ zeroed table ∷ u ∷ []) x),
        )
