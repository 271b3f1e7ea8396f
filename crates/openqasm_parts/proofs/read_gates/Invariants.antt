use Prim.Native.Nat.{◌-◌}
use Rattle.rules.specs.Sizes.{most_labels, most_gates}
use Rattle.openqasm_parts.specs.Stored.{GatesRead}
use Rattle.openqasm_parts.proofs.read_gates.Given as goal

abbrev pub invariant-loop-i : goal.invariant-loop-i
invariant-loop-i l =
    GatesRead most_labels most_gates (most_gates - l.i) l.text l.here l.inputs l.i l.made l.held l.kinds l.slots
