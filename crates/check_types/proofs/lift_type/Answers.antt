-- `check_types::lift_type` meets its contract: the bound is tested before the cell is written. Assumes nothing.
use Rattle.words.specs.Words.{words}
use Rattle.check_types.proofs.Laws.NewCell.{cell_put}
use Rattle.check_types.proofs.Laws.Rules.{too_large_lift, makes_lift}
use Rattle.check_types.proofs.lift_type.Goals as goal

pub returns-then-size-gt-MOST_ENTRIES-clause-meets_one : goal.returns-then-size-gt-MOST_ENTRIES-clause-meets_one
returns-then-size-gt-MOST_ENTRIES-clause-meets_one c =
    let s = c.args in
    let x = c.cell_size-size in
    too_large_lift (words s.work.now) s.n s.a x.result x.ensures.value c.if-size-gt-MOST_ENTRIES.true

pub returns-clause-meets_one : goal.returns-clause-meets_one
returns-clause-meets_one c =
    let s = c.args in
    let x = c.cell_size-size in
    let new = c.new_cell in
    makes_lift (words s.work.now) s.n s.a x.result x.ensures.value
    (words new.new.work) 0 c.if-size-gt-MOST_ENTRIES.false (cell_put _ _ _ _ _ _ _ new.ensures)
