use Rattle.listing.specs.Pieces.{pieces}
use Rattle.text.specs.Writer.{Writes}
use Rattle.wirelist_lines.specs.LinesAt.{input_line_at}
use Rattle.wirelist_lines.proofs.write_inputs.Given as goal

-- The lines of the inputs passed are written.
abbrev pub invariant-loop-i : goal.invariant-loop-i
invariant-loop-i l = Writes l.initial.out (pieces (input_line_at l.listing) l.i) l.out
