use Rattle.openqasm_reader.proofs.Laws.Items.{two_here}
use borrow.Author.Rules.{rules}
use Rattle.openqasm_reader.proofs.two_numbers.Goals as goal

pub returns : goal.returns
returns c =
    let start = c in
    let a = c.args in
    let first = c.number_at-first.ensures in
    let second = c.number_at-second.ensures in
    let known = c.requires.prefix_value in (
      two_here a.text.now a.at a.kind _ _ _ _ _ _ _
          known.0 known.1 first.value first.digits second.value second.digits known.2,
      search rules,
    )
