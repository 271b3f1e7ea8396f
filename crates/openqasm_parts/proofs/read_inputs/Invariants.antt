use Prim.Native.Nat.{◌-◌}
use Rattle.rules.specs.Sizes.{most_labels}
use Rattle.openqasm_parts.specs.Stored.{InputsRead}
use Rattle.openqasm_parts.proofs.read_inputs.Given as goal

abbrev pub invariant-loop-i : goal.invariant-loop-i
invariant-loop-i l =
    InputsRead most_labels (most_labels - l.i) l.text l.at l.i l.kinds l.slots
