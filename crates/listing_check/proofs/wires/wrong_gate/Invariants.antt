use Rattle.listing_check.proofs.Laws.Wires.{GatesSoFar}
use Rattle.listing_check.proofs.wires.wrong_gate.Given as goal

abbrev pub invariant-loop-i : goal.invariant-loop-i
invariant-loop-i l =
    GatesSoFar l.listing l.table l.i l.made
