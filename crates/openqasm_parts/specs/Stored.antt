-- The parts of a listing in lent memory while they are read: kinds and slots from the start of two buffers, as a listing has them.
use Rattle.std.specs.Prelude.{ℕ, ◌+◌, ◌*◌, ◌≤◌, ◌≡◌, length, take, drop}
use mathlib.Core.List.{List, [], ◌∷◌, ◌++◌, flat_map}
use Rattle.rules.specs.Gates.{is_gate}
use Rattle.rules.specs.Sizes.{most_labels, most_gates}
use Rattle.words.specs.Regions.{Stands}
use Rattle.listing.specs.Listing.{bytes_of, kinds as kind_bytes_is, entry_slots, all_slots}
use Rattle.openqasm_parts.specs.Reading.{Parts, is_input, with_input, with_gate, is_output, with_output, items_read}
use Rattle.openqasm_parts.specs.Reading.{begun, at_outputs}

-- The kinds take a byte for each entry.
abbrev pub kinds_bytes : ℕ
kinds_bytes = most_labels + most_gates

-- The parts behind the declarations, behind the gates and behind the outputs, at most so many of each.
unfoldable pub behind_inputs : ℕ → List ℕ → Parts
behind_inputs labels text = items_read is_input with_input labels (begun text)

unfoldable pub behind_gates : ℕ → ℕ → List ℕ → Parts
behind_gates labels gates text = items_read is_gate with_gate gates (behind_inputs labels text)

unfoldable pub behind_outputs : ℕ → ℕ → ℕ → List ℕ → Parts
behind_outputs labels gates outputs text = items_read is_output with_output outputs (at_outputs (behind_gates labels gates text))

-- Bytes were put behind those that stand at the start of a buffer.
pub record Adds (m : List ℕ) (at : ℕ) (ys m' : List ℕ) : Type 0 where
  pub behind : (xs : List ℕ)
      → at ≡ length xs
      → Stands m 0 xs
      → length xs + length ys ≤ length m
      → Stands m' 0 (xs ++ ys)

-- The bytes of a listing: the sizes, the kinds that stand from the start of one buffer, and the slots and outputs of another.
abbrev pub assembled : ℕ → ℕ → ℕ → List ℕ → List ℕ → List ℕ
assembled inputs gates outputs kinds slots =
    flat_map bytes_of (inputs ∷ gates ∷ outputs ∷ [])
    ++ (take (inputs + gates) kinds ++ take (2 * entry_slots * (inputs + gates) + 2 * outputs) slots)

-- So many inputs, gates and outputs are stored, and the text is left from a place on.
pub record Stored (p : Parts) (text : List ℕ) (at inputs gates outputs : ℕ) (kinds slots : List ℕ) : Type 0 where
  pub rest_is : p.rest ≡ drop at text
  pub input_count_is : inputs ≡ length p.inputs
  pub gate_count_is : gates ≡ length p.gates
  pub output_count_is : outputs ≡ length p.outs
  pub kinds_stand : Stands kinds 0 (kind_bytes_is p.inputs p.gates)
  pub slots_stand : Stands slots 0 (flat_map bytes_of (all_slots p.inputs p.gates ++ p.outs))

-- i inputs are read, and at most so many are left to read.
pub record InputsRead (labels left : ℕ) (text : List ℕ) (at i : ℕ) (kinds slots : List ℕ) : Type 0 where
  pub so_far : Parts
  pub then_all : items_read is_input with_input left so_far ≡ behind_inputs labels text
  pub stored : Stored so_far text at i 0 0 kinds slots
  pub made_is : i ≡ so_far.made
  pub few : i + left ≤ labels
  pub near : at ≤ 36 + 26 * i

-- Behind so many inputs i gates are read; the registers hold the wires, of which so many are made.
pub record GatesRead (labels gates left : ℕ) (text : List ℕ) (at inputs i made : ℕ) (held kinds slots : List ℕ) : Type 0 where
  pub so_far : Parts
  pub then_all : items_read is_gate with_gate left so_far ≡ behind_gates labels gates text
  pub stored : Stored so_far text at inputs i 0 kinds slots
  pub held_are : held ≡ so_far.held
  pub made_is : made ≡ so_far.made
  pub few_inputs : inputs ≤ labels
  pub few : i + left ≤ gates
  pub few_made : made ≤ inputs + entry_slots * i
  pub near : at ≤ 36 + 26 * (inputs + i)

-- Behind them i outputs are read.
pub record OutputsRead (labels gates outputs left : ℕ) (text : List ℕ) (at inputs done i : ℕ) (held kinds slots : List ℕ)
    : Type 0 where
  pub so_far : Parts
  pub then_all : items_read is_output with_output left so_far ≡ behind_outputs labels gates outputs text
  pub stored : Stored so_far text at inputs done i kinds slots
  pub held_are : held ≡ so_far.held
  pub few_inputs : inputs ≤ labels
  pub few_gates : done ≤ gates
  pub few : i + left ≤ outputs
  pub near : at ≤ 42 + 26 * (inputs + done + i)
