-- `check_types::two_parts` meets its contract: the bound is tested before the cell is written. Assumes nothing.
use Rattle.words.specs.Words.{words}
use Rattle.check_types.proofs.Laws.NewCell.{cell_put}
use Rattle.check_types.proofs.Laws.Rules.{too_large, makes_cell}
use Rattle.check_types.proofs.two_parts.Goals as goal

pub returns-then-size-gt-MOST_ENTRIES-clause-makes_two : goal.returns-then-size-gt-MOST_ENTRIES-clause-makes_two
returns-then-size-gt-MOST_ENTRIES-clause-makes_two c =
    let s = c.args in
    let x = c.cell_size in
    let y = c.cell_size-2 in
    too_large (words s.work.now) s.n s.kind s.a s.b x.result y.result x.ensures.value y.ensures.value c.if-size-gt-MOST_ENTRIES.true

pub returns-clause-makes_two : goal.returns-clause-makes_two
returns-clause-makes_two c =
    let s = c.args in
    let x = c.cell_size in
    let y = c.cell_size-2 in
    let word = c.fourth_word-word in
    let new = c.new_cell in
    makes_cell (words s.work.now) s.n s.kind s.a s.b x.result y.result x.ensures.value y.ensures.value
    (words new.new.work) word.result c.if-size-gt-MOST_ENTRIES.false word.ensures (cell_put _ _ _ _ _ _ _ new.ensures)
