-- Which refusals the check of a listing gives, and how large the numbers of its answers are.
use Rattle.std.specs.Prelude.{ℕ, ◌+◌, ◌≤◌, ◌<◌, ◌≡◌, List, length, Result, Ok, Err}
use Rattle.std.proofs.Common.{arith}
use Rattle.std.proofs.Math.Decide.{dec_lt}
use Rattle.rules.specs.Types.{Wire}
use Rattle.rules.specs.Terms.{Gate}
use Rattle.rules.specs.Sizes.{most_labels, most_gates}
use Rattle.refusals.specs.Refusals.{refusal_place}
use Rattle.refusals.specs.declared.Refusal.{Refusal}
use Rattle.refusals.specs.declared.Refusal.TheVariants.{Form, Typing, Run}
use Rattle.listing.specs.Listing.{most_outputs, most_bytes}
use Rattle.listing.specs.Reading.{input_count, gate_count, output_count, outputs_from}
use Rattle.listing.proofs.Laws.Decoding.{length_words, length_inputs, length_first}
use Rattle.wire_table.specs.WireRules.{WrongGate, the_newest, an_older, WrongOutput, this_output, later_output}
use Rattle.wire_table.specs.WireRules.{Makes, an_input, newest_makes, older_makes, BrokenAt, at_gate, at_output, at_maker}
use Rattle.listing_check.specs.declared.ListingSizes.{ListingSizes}
use Rattle.listing_check.specs.Answers.{listing_check_of}
use Rattle.listing_check.specs.Meaning.{SizesWrong, many_inputs, many_gates, many_outputs, other_length}
use Rattle.listing_check.proofs.Laws.Judging.{at_most, Judged, sizes_wrong_lem, entry_wrong_lem, wires_wrong_lem, all_right}
use Rattle.listing_check.proofs.Laws.Judging.{listing_judged, judged_answer}

-- THE PLACE OF A BROKEN RULE

-- A wrong gate is one of the gates, a wrong output one of the outputs, and what makes a wire is an entry.
gate_within : {I : List Wire} {gs : List Gate} {i : ℕ} → WrongGate I gs i → i < length gs
gate_within (the_newest h) = omega arith
gate_within (an_older h) = let k = gate_within h in omega arith

output_within : {types : List Wire} {gone outs : List ℕ} {j : ℕ} → WrongOutput types gone outs j → j < length outs
output_within (this_output h) = omega arith
output_within (later_output h) = let k = output_within h in omega arith

maker_within : {I : List Wire} {gs : List Gate} {w e : ℕ} → Makes I gs w e → e < length I + length gs
maker_within (an_input h) = omega arith
maker_within (newest_makes h k) = omega arith
maker_within (older_makes h) = let k = maker_within h in omega arith

-- So the place is below the number of entries and outputs.
broken_within : {I : List Wire} {gs : List Gate} {outs : List ℕ} {p : ℕ}
    → BrokenAt I gs outs p
    → p < length I + length gs + length outs
broken_within (at_gate first) = let k = gate_within first.is_such in omega arith
broken_within (at_output gates first) = let k = output_within first.is_such in omega arith
broken_within (at_maker gates outs first makes) = let k = maker_within makes in omega arith

-- THE ANSWER

-- No listing has more entries and outputs: 64 inputs, 2,048 gates, 256 outputs. So every place is below.
abbrev pub most_listed : ℕ
most_listed = most_labels + most_gates + most_outputs

-- The refusals of an operation on listings, numbered from 24 to the last: for this check 24, 25 and 26.
abbrev pub OfListing : ℕ → Refusal → Type 0
OfListing last (Form number place) = ⊥
OfListing last (Typing number place) = ⊥
OfListing last (Run number place) = (24 ≤ number) × (number ≤ last)

-- What an answer is bounded by.
abbrev pub ListingBounds : ℕ → Result ListingSizes Refusal → Type 0
ListingBounds last (Ok n) = (n.inputs ≤ most_labels) × (n.gates ≤ most_gates) × (n.outputs ≤ most_outputs)
ListingBounds last (Err x) = OfListing last x × (refusal_place x < most_listed)

module _ (b : List ℕ) where
  -- Sizes that are not wrong are within their most.
  sizes_within : (SizesWrong b → ⊥) → ListingBounds 26 (Ok (record { inputs = input_count b; gates = gate_count b; outputs = output_count b }))
  sizes_within f =
      (at_most (λ h. f (many_inputs h)), at_most (λ h. f (many_gates h)), at_most (λ h. f (many_outputs h)))

  judged_within : {a : Result ListingSizes Refusal} → Judged b a → ListingBounds 26 a
  judged_within (sizes_wrong_lem h) = ((omega arith, omega arith), omega arith)
  judged_within (entry_wrong_lem f first) =
      let s = sizes_within f in
      let k = first.is_such.0 in
      ((omega arith, omega arith), omega (arith, s.0, s.1))
  judged_within (wires_wrong_lem f n broken) =
      let s = sizes_within f in
      let k = broken_within broken in
      let l = length_inputs b 0 (input_count b) in
      let g = length_first b (gate_count b) in
      let o = length_words b (outputs_from b) (output_count b) in
      ((omega arith, omega arith), omega (arith, s.0, s.1, s.2, k, l, g, o))
  judged_within (all_right f n goes) = sizes_within f

  pub listing_bounds : ListingBounds 26 (listing_check_of b)
  listing_bounds = judged_within (listing_judged b)

-- WHAT IS LONGER THAN THE LONGEST LISTING

-- It has another length than its sizes give, or sizes beyond their most.
long_wrong : (b : List ℕ) → most_bytes < length b → SizesWrong b
long_wrong b long =
    of (dec_lt most_labels (input_count b)) (dec_lt most_gates (gate_count b)) (dec_lt most_outputs (output_count b))
  where
    of : Dec (most_labels < input_count b) → Dec (most_gates < gate_count b) → Dec (most_outputs < output_count b) → SizesWrong b
    of (yes p) g o = many_inputs p
    of (no n) (yes p) o = many_gates p
    of (no n) (no m) (yes p) = many_outputs p
    of (no n) (no m) (no k) = other_length (λ e. omega arith)

pub long_refused : (b : List ℕ) → most_bytes < length b → listing_check_of b ≡ Err (Run 24 0)
long_refused b long = judged_answer b (sizes_wrong_lem (long_wrong b long))
