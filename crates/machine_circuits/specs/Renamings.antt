-- How the wires of a copied circuit are renamed: by its labels and the next number.
use Rattle.std.specs.Prelude.{ℕ, ◌≤◌, List, length, take}
use Rattle.rules.specs.Slots.{no_wire}
use Rattle.rules.specs.Terms.{Gate}
use Rattle.rules.specs.Circuits.{rename_gate}
use Rattle.words.specs.Words.{words}
use Rattle.machine_circuits.specs.declared.renamings.Renaming.{Renaming}

-- The labels of the inputs.
abbrev pub labels_of : Renaming → List ℕ
labels_of r = take r.inputs (words r.labels.now)

-- The gate with its wires renamed.
abbrev pub renamed_gate : Renaming → Gate → Gate
renamed_gate r g = rename_gate (labels_of r) r.next g

-- There is a label for each input, and the next number is one of 16 bits.
pub record Usable (r : Renaming) : Type 0 where
  pub enough : r.inputs ≤ length (words r.labels.now)
  pub small : r.next ≤ no_wire
