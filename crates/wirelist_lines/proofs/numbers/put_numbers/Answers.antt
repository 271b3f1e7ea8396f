-- `wirelist_lines::numbers::put_numbers` meets its contract. Assumes nothing.
use borrow.Author.Rules.{rules}
use mathlib.Core.Path.{◌∙◌}
use Rattle.wirelist_lines.proofs.Laws.Read.{puts_number}
use Rattle.wirelist_lines.proofs.numbers.put_numbers.Goals as goal

pub loop-i-preserved : goal.loop-i-preserved
loop-i-preserved c =
    let s = c.loop-i in
    (c.put_number.ensures.0 ∙ s.invariant.0, puts_number c.args.first s.i s.invariant.1 c.put_number.ensures.1, search rules)
