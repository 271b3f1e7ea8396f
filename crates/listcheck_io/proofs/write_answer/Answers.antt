-- `listcheck_io::write_answer` meets its contract. Assumes nothing.
use borrow.Author.Rules.{rules}
use Rattle.std.proofs.Common.{sym, subst}
use Rattle.text.specs.Written.{Written}
use Rattle.text.proofs.Laws.Writer.{puts_at_start}
use Rattle.text.proofs.Laws.Writing.{puts_first}
use Rattle.listcheck_io.specs.Printing.{answer_line}
use Rattle.listcheck_io.proofs.write_answer.Goals as goal

pub returns-in-Ok-clause-written : goal.returns-in-Ok-clause-written
returns-in-Ok-clause-written c =
    let begun = puts_at_start c.new-out.ensures.contents c.new-out.ensures.start c.put_bytes.ensures.1 in
    let all =
    subst (λ a. Written c.args.text.now (answer_line a) c.put_bytes.new.self.text.now c.put_bytes.new.self.at) (sym c.in-Ok.is)
    (puts_first begun) in
    search (rules, all)
