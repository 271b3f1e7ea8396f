-- `openqasm_parts::assemble` meets its contract. Assumes nothing.
use borrow.Author.Rules.{rules}
use Rattle.text.proofs.Laws.Writer.{puts_at_start}
use Rattle.openqasm_parts.proofs.Laws.Stored.{puts_listing}
use Rattle.openqasm_parts.proofs.assemble.Goals as goal

pub returns : goal.returns
returns c =
    let a = c.args in
    let begun = puts_at_start c.new-out.ensures.contents c.new-out.ensures.start c.put_word.ensures.1 in
    let all =
    puts_listing a.inputs a.gates a.outputs begun c.put_word-2.ensures.1 c.put_word-3.ensures.1 c.put_bytes.ensures.1 c.put_bytes-2.ensures.1 in
    search (rules, all)
