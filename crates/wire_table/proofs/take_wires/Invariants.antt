use Rattle.rules.specs.Gates.{gate_type, input_wires}
use Rattle.wire_table.proofs.Laws.Table.{LeftToTake}
use Rattle.wire_table.proofs.take_wires.Given as goal

abbrev pub invariant-loop-needed : goal.invariant-loop-needed
invariant-loop-needed l = LeftToTake l.source l.from (input_wires (gate_type l.gate)) l.initial.table l.table l.at l.needed

abbrev pub decreases-loop-needed : goal.decreases-loop-needed
decreases-loop-needed l = l.needed
