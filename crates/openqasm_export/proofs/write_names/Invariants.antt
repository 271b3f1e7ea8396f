use Rattle.text.specs.Writer.{SameText}
use Rattle.listing.specs.Reading.{inputs_of, gates_of}
use Rattle.openqasm.specs.Layout.{AllWritten}
use Rattle.openqasm_export.specs.Places.{places_of, Begins}
use Rattle.openqasm_export.proofs.Laws.Writing.{OutputsWritten}
use Rattle.openqasm_export.proofs.write_names.Given as goal

abbrev pub invariant-loop-j : goal.invariant-loop-j
invariant-loop-j l =
    SameText l.initial.out l.out
    × (AllWritten (gates_of l.listing)
    → Begins l.table (places_of (inputs_of l.listing) (gates_of l.listing))
    → OutputsWritten l.listing l.initial.out.text.now l.initial.out.at l.out.text.now l.out.at l.j)
