use Rattle.openqasm_reader.proofs.Laws.Items.{one_here}
use borrow.Author.Rules.{rules}
use Rattle.openqasm_reader.proofs.one_number.Goals as goal

pub returns : goal.returns
returns c =
    let start = c in
    let a = c.args in
    let number = c.number_at-number.ensures in
    let known = c.requires.prefix_value in
    (one_here a.text.now a.at a.kind _ _ _ _ known.0 number.value number.digits known.1, search rules)
