-- `wirelist_lines::write_lines` meets its contract. Assumes nothing.
use borrow.Author.Rules.{rules}
use Rattle.text.proofs.Laws.Writer.{puts_at_start}
use Rattle.wirelist_lines.proofs.Laws.Lines.{puts_text}
use Rattle.wirelist_lines.proofs.write_lines.Goals as goal

pub returns : goal.returns
returns c =
    let begun = puts_at_start c.new-out.ensures.contents c.new-out.ensures.start c.write_inputs.ensures.1 in
    let all = puts_text c.args.listing.now c.args.steps begun c.write_gates.ensures.1 c.write_outputs.ensures.1 c.write_steps.ensures.1 in
    search (rules, all)
