-- The answer of an export, with the buffers that were lent.
use Rattle.std.specs.Prelude.{ℕ, ◌≤◌, ◌<◌, ◌≡◌, refl, Bool, true, false, ◌||◌, ltb, length, get_or, drop, Result, Ok, Err, Option as Found, Some, None}
use Rattle.std.proofs.Common.{arith, ◌∙◌, ap₂, take_all, le-ltb}
use Rattle.std.proofs.Math.Path.{sym, ap}
use Rattle.std.proofs.Math.Bool.{cond}
use mathlib.Core.List.{List, [], ◌∷◌, ◌++◌}
use Rattle.std.proofs.Math.Option.{Option, none, some}
use Rattle.std.proofs.Math.ListN.{replicate}
use Rattle.lent.specs.Lent.{too_short}
use Rattle.lent.proofs.Laws.Lent.{all_least, below_later, short_left, long_left}
use Rattle.refusals.specs.declared.Refusal.{Refusal}
use Rattle.refusals.specs.declared.Refusal.TheVariants.{Run}
use Rattle.text.specs.Written.{Written}
use Rattle.listing.specs.Reading.{input_count, gate_count, inputs_of, gates_of, outputs_of}
use Rattle.listing.proofs.Laws.Decoding.{length_inputs, length_first}
use Rattle.words.specs.Found.{option_of}
use Rattle.listing_check.specs.declared.ListingSizes.{ListingSizes}
use Rattle.listing_check.specs.Answers.{most_wires, listing_check_of, listing_check_answer}
use Rattle.listing_check.specs.Meaning.{SoundListing, many_inputs, many_gates}
use Rattle.listing_check.specs.Wires.{Whole}
use Rattle.listing_check.proofs.Laws.Judging.{at_most, Judged, sizes_wrong_lem, entry_wrong_lem, wires_wrong_lem, all_right, listing_judged, sound_read}
use Rattle.listing_check.proofs.Theorems.Listings.{listing_means}
use Rattle.openqasm.specs.Layout.{AllWritten, export_of, most_text}
use Rattle.openqasm_export.specs.Answers.{export_lengths, first_unwritten, statements_judged, export_check_of, exported_as}
use Rattle.openqasm_export.specs.Answers.{out_after, export_answer, export_bytes}
use Rattle.openqasm_export.proofs.Laws.Longest.{as_many_outputs, text_fits, sound_fits}
use Rattle.openqasm_export.proofs.Laws.Statements.{export_accepted, refused_too}

pub or_false : (t : Bool) → t || false ≡ t
or_false true = refl
or_false false = refl

-- Bytes for which there is room are written whole, and what stood behind them stays.
pub written_whole : {l xs text : List ℕ} {at : ℕ}
    → Written l xs text at
    → length xs ≤ length l
    → (at ≡ length xs) × (text ≡ xs ++ drop (length xs) l)
written_whole {l} {xs} w room = (
  omega (arith, w.place),
  w.contents ∙ ap (λ t. t ++ drop (length xs) l) (take_all (length l) xs room),
)

module _ (b : List ℕ) where
  -- With memory that is long enough the core answers to the bytes alone.
  pub core_answer : (work : List ℕ) {answer : Result ListingSizes Refusal}
      → most_wires ≤ length work
      → answer ≡ listing_check_answer b (work ∷ [])
      → answer ≡ listing_check_of b
  unfolding listing_check_answer
  core_answer work long is =
      is ∙ ap (λ t. cond t (Err (Run 19 0)) (listing_check_of b)) (below_later most_wires (length work) [] [] long)

  -- The check of a listing that is to be exported, by what its two parts answer.
  module _ {answer : Result ListingSizes Refusal} {entry : Found ℕ} (is : answer ≡ listing_check_of b) (found : entry ≡ option_of (first_unwritten b)) where
    none_found : entry ≡ None → first_unwritten b ≡ none
    none_found e = of (first_unwritten b) (sym found ∙ e)
      where
        of : (o : Option ℕ) → option_of o ≡ None → o ≡ none
        of none e = refl
        of (some n) e = cc

    one_found : {i : ℕ} → entry ≡ Some i → first_unwritten b ≡ some i
    one_found {i} e = of (first_unwritten b) (sym found ∙ e)
      where
        of : (o : Option ℕ) → option_of o ≡ Some i → o ≡ some i
        of none e = cc
        of (some n) e = cc

    pub checked_written : {n : ListingSizes} → answer ≡ Ok n → entry ≡ None → Ok n ≡ export_check_of b
    unfolding export_check_of
    checked_written e no_entry = sym (ap₂ statements_judged (sym is ∙ e) (none_found no_entry))

    pub checked_unwritten : {n : ListingSizes} {i : ℕ} → answer ≡ Ok n → entry ≡ Some i → Err (Run 28 i) ≡ export_check_of b
    unfolding export_check_of
    checked_unwritten e this = sym (ap₂ statements_judged (sym is ∙ e) (one_found this))

  pub checked_refused : {answer : Result ListingSizes Refusal} {x : Refusal}
      → answer ≡ listing_check_of b
      → answer ≡ Err x
      → Err x ≡ export_check_of b
  checked_refused is e = sym (refused_too b (sym is ∙ e))

  -- A listing that is accepted is within the sizes.
  pub accepted_whole : (work : List ℕ) {L G O : ℕ} → SoundListing b L G O → most_wires ≤ length work → Whole b work
  accepted_whole work x long =
      let r = sound_read b x in
      record {
        few_inputs = omega (arith, r.input_count_is, x.few_inputs);
        few_gates = omega (arith, r.gate_count_is, x.few_gates);
        room = long;
      }

  module _ (small : (i : ℕ) → get_or b i 0 < 256) {answer : Result ListingSizes Refusal} (is : answer ≡ export_check_of b) where
    pub is_sound : {n : ListingSizes} → answer ≡ Ok n → SoundListing b n.inputs n.gates n.outputs
    is_sound {n} e = ((listing_means b small).accepted n.inputs n.gates n.outputs).0 (export_accepted b (sym is ∙ e)).0

    -- A listing that the export takes is written.
    pub exported : {out text : List ℕ} {r : ℕ} {n : ListingSizes}
        → answer ≡ Ok n
        → most_text ≤ length out
        → Written out (export_of b) text r
        → (Ok r ≡ exported_as b (export_check_of b)) × (text ≡ out_after b (export_check_of b) out)
    exported {out} e room w =
        let accepted = sym is ∙ e in
        let whole = written_whole w (omega (arith, sound_fits b (is_sound e) (export_accepted b accepted).1, room)) in (
          ap Ok whole.0 ∙ sym (ap (exported_as b) accepted),
          whole.1 ∙ sym (ap (λ a. out_after b a out) accepted),
        )

    -- Any other is refused as the check refuses it.
    pub declined : (out : List ℕ) {x : Refusal}
        → answer ≡ Err x
        → (Err x ≡ exported_as b (export_check_of b)) × (out ≡ out_after b (export_check_of b) out)
    declined out e =
        let refused = sym is ∙ e in (sym (ap (exported_as b) refused), sym (ap (λ a. out_after b a out) refused))

  -- Buffers that are too short, and those that are not.
  module _ (out work : List ℕ) where
    abbrev tested : Bool
    tested = ltb (length out) most_text || ltb (length work) most_wires

    same_test : too_short export_lengths (out ∷ work ∷ []) ≡ tested
    same_test = ap (λ t. ltb (length out) most_text || t) (or_false (ltb (length work) most_wires))

    pub short_answered : (most_text ≤ length out → most_wires ≤ length work → ⊥)
        → (Err (Run 19 0) ≡ export_answer b (out ∷ work ∷ [])) × ((out ∷ work ∷ []) ≡ export_bytes b (out ∷ work ∷ []))
    unfolding export_answer
    short_answered short =
        let e = same_test ∙ of tested refl in (
          sym (ap (λ t. cond t (Err (Run 19 0)) (exported_as b (export_check_of b))) e),
          short_left export_lengths (out_after b (export_check_of b)) (out ∷ work ∷ []) e,
        )
      where
        of : (t : Bool) → tested ≡ t → tested ≡ true
        of true e = e
        of false e = let long = all_least export_lengths (length out ∷ length work ∷ []) (same_test ∙ e) in absurd (short long.0 long.1.0)

    pub long_answered : {r : Result ℕ Refusal} (out' work' : List ℕ) (n : ℕ)
        → most_text ≤ length out
        → most_wires ≤ length work
        → r ≡ exported_as b (export_check_of b)
        → out' ≡ out_after b (export_check_of b) out
        → ◌≡◌ {A = List ℕ} work' (replicate n 0)
        → n ≡ length work
        → (r ≡ export_answer b (out ∷ work ∷ [])) × ((out' ∷ work' ∷ []) ≡ export_bytes b (out ∷ work ∷ []))
    unfolding export_answer
    long_answered out' work' n out_long work_long is text cleared same =
        let e = same_test ∙ ap₂ ◌||◌ (le-ltb (length out) most_text out_long) (le-ltb (length work) most_wires work_long) in (
          is ∙ sym (ap (λ t. cond t (Err (Run 19 0)) (exported_as b (export_check_of b))) e),
          long_left export_lengths (out_after b (export_check_of b)) (out ∷ work ∷ []) (out' ∷ work' ∷ []) e
              (ap₂ (λ x y. x ∷ y ∷ []) text (cleared ∙ ap (λ k. replicate k 0) same)),
        )

-- The text of whatever the export takes fits.
judged_fits : (b : List ℕ) {a : Result ListingSizes Refusal} {n : ListingSizes}
    → Judged b a
    → a ≡ Ok n
    → AllWritten (gates_of b)
    → length (export_of b) ≤ most_text
judged_fits b (sizes_wrong_lem h) e written = cc
judged_fits b (entry_wrong_lem f first) e written = cc
judged_fits b (wires_wrong_lem f n broken) e written = cc
judged_fits b (all_right f n goes) e written =
    let inputs = length_inputs b 0 (input_count b) in
    let gates = length_first b (gate_count b) in
    let few_inputs = at_most (λ h. f (many_inputs h)) in
    let few_gates = at_most (λ h. f (many_gates h)) in
    text_fits (inputs_of b) (gates_of b) (outputs_of b)
    (omega (arith, inputs, few_inputs))
    (omega (arith, gates, few_gates))
    (omega (arith, as_many_outputs (inputs_of b) (gates_of b) (outputs_of b) goes written))

pub accepted_fits : (b : List ℕ) {n : ListingSizes} → export_check_of b ≡ Ok n → length (export_of b) ≤ most_text
accepted_fits b e = let x = export_accepted b e in judged_fits b (listing_judged b) x.0 x.1
