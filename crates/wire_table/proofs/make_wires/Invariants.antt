use Rattle.rules.specs.Gates.{gate_outputs}
use Rattle.wire_table.proofs.Laws.Table.{LeftToMake}
use Rattle.wire_table.proofs.make_wires.Given as goal

abbrev pub invariant-loop-codes : goal.invariant-loop-codes
invariant-loop-codes l = LeftToMake (gate_outputs l.gate) l.initial.table l.table l.made l.next l.codes

abbrev pub decreases-loop-codes : goal.decreases-loop-codes
decreases-loop-codes l = l.codes
