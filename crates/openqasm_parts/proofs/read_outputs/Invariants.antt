use Prim.Native.Nat.{ℕ, ◌-◌}
use mathlib.Core.List.{List}
use Rattle.rules.specs.Sizes.{most_labels, most_gates}
use Rattle.listing.specs.Listing.{most_outputs}
use Rattle.openqasm_parts.specs.Stored.{GatesRead, OutputsRead}
use Rattle.openqasm_parts.proofs.read_outputs.Given as goal

abbrev pub invariant-loop-i : goal.invariant-loop-i
invariant-loop-i l =
    (kinds : List ℕ) (made : ℕ)
    → GatesRead most_labels most_gates 0 l.text l.at l.inputs l.gates made l.held kinds l.initial.slots
    → OutputsRead most_labels most_gates most_outputs (most_outputs - l.i) l.text l.here l.inputs l.gates l.i l.held kinds l.slots
