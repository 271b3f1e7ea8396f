use mathlib.Core.List.{map}
use Rattle.text.specs.Text.{decimal, spaced}
use Rattle.text.specs.Writer.{Writes}
use Rattle.words.specs.Numbers.{words_at}
use Rattle.wirelist_lines.proofs.numbers.put_words.Given as goal

-- The numbers passed are written.
abbrev pub invariant-loop-i : goal.invariant-loop-i
invariant-loop-i l = Writes l.initial.out (spaced (map decimal (words_at l.listing l.from l.i))) l.out
