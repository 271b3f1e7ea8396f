-- `wirelist_lines::write_inputs` meets its contract. Assumes nothing.
use borrow.Author.Rules.{rules}
use mathlib.Core.Path.{refl, ◌∙◌}
use Rattle.wirelist_lines.specs.LinesAt.{input_line_at}
use Rattle.wirelist_lines.proofs.Laws.Lines.{puts_piece, puts_no_piece}
use Rattle.wirelist_lines.proofs.write_inputs.Goals as goal

pub loop-i-init : goal.loop-i-init
loop-i-init c = (refl, puts_no_piece (input_line_at c.args.listing.now) c.args.out.now.text.now c.args.out.now.at, search rules)

pub loop-i-preserved : goal.loop-i-preserved
loop-i-preserved c =
    let s = c.loop-i in
    (c.write_input.ensures.0 ∙ s.invariant.0, puts_piece (input_line_at c.args.listing.now) s.i s.invariant.1 c.write_input.ensures.1, search rules)
