use Rattle.text.specs.Writer.{SameText}
use Rattle.openqasm_export.proofs.Laws.Writing.{GatesWritten}
use Rattle.openqasm_export.proofs.write_gates.Given as goal

abbrev pub invariant-loop-i : goal.invariant-loop-i
invariant-loop-i l =
    SameText l.initial.out l.out
    × GatesWritten l.listing l.initial.out.text.now l.initial.out.at l.table l.out.text.now l.out.at l.made l.i
