-- What the parts of the check of a listing's wires leave in the table.
use Rattle.std.specs.Prelude.{ℕ, ◌≤◌, ◌<◌, ◌≡◌, List, ◌++◌, length, Option, Some, None, Result, Err}
use Rattle.rules.specs.Types.{Wire}
use Rattle.rules.specs.Circuits.{outputs, taken}
use Rattle.rules.specs.Sizes.{most_labels, most_gates}
use Rattle.refusals.specs.declared.Refusal.{Refusal}
use Rattle.refusals.specs.declared.Refusal.TheVariants.{Run}
use Rattle.listing.specs.Reading.{input_count, gate_count, inputs_of, gates_of}
use Rattle.wire_table.specs.Wires.{first_wrong_gate, first_wrong_output}
use Rattle.words.specs.Found.{option_of}
use Rattle.wire_table.specs.Table.{Holds}
use Rattle.listing_check.specs.declared.ListingSizes.{ListingSizes}
use Rattle.listing_check.specs.Answers.{most_wires}

-- The sizes are within their most, and the table has room for every wire.
pub record Whole (b m : List ℕ) : Type 0 where
  pub few_inputs : input_count b ≤ most_labels
  pub few_gates : gate_count b ≤ most_gates
  pub room : most_wires ≤ length m

-- The gates have been read: the first wrong one, or the wires that are there after all of them.
pub record GatesRead (b m : List ℕ) (found : Option ℕ) : Type 0 where
  pub answers : found ≡ option_of (first_wrong_gate (inputs_of b) (gates_of b))
  pub few : (i : ℕ) → found ≡ Some i → i < gate_count b
  pub holds : found ≡ None → Holds m (inputs_of b ++ outputs (gates_of b)) (taken (gates_of b))

-- The outputs have been read: the first wrong one, or the wires that are left.
pub record OutputsRead (types : List Wire) (gone outs m : List ℕ) (found : Option ℕ) : Type 0 where
  pub answers : found ≡ option_of (first_wrong_output types gone 0 outs)
  pub few : (j : ℕ) → found ≡ Some j → j < length outs
  pub holds : found ≡ None → Holds m types (outs ++ gone)

-- A refusal of the family run, with its place.
abbrev pub refused_with : ℕ → ℕ → Result ListingSizes Refusal
refused_with number place = Err (Run number place)
