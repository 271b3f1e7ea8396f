-- `openqasm_reader::three_numbers` meets its contract. Assumes nothing.
use mathlib.Core.Path.{refl}
use Rattle.openqasm_reader.specs.Items.{before, between, behind}
use Rattle.openqasm_reader.proofs.Laws.Items.{three_here}
use borrow.Author.Rules.{rules}
use Rattle.openqasm_reader.proofs.three_numbers.Goals as goal

pub returns : goal.returns
unfolding before between behind
returns c =
    let a = c.args in
    let first = c.number_at-first.ensures in
    let second = c.number_at-second.ensures in
    let third = c.number_at-third.ensures in (
      three_here a.text.now a.at 11 5 5 _ _ _ _ _ _ 5
          refl refl first.value first.digits second.value second.digits third.value third.digits refl,
      search rules,
    )
