use mathlib.Core.List.{map}
use Rattle.rules.specs.Circuits.{numbers}
use Rattle.text.specs.Text.{decimal, spaced}
use Rattle.text.specs.Writer.{Writes}
use Rattle.wirelist_lines.proofs.numbers.put_numbers.Given as goal

-- The numbers passed are written.
abbrev pub invariant-loop-i : goal.invariant-loop-i
invariant-loop-i l = Writes l.initial.out (spaced (map decimal (numbers l.first l.i))) l.out
