-- `check_types::load_entry` meets its contract: the new cell's parts are the cells behind it. Assumes nothing.
use Rattle.words.specs.Words.{words}
use Rattle.check_types.proofs.Laws.NewCell.{cell_put}
use Rattle.check_types.proofs.Laws.Load.{entry_loaded}
use Rattle.check_types.proofs.load_entry.Goals as goal

pub returns-clause-work_after : goal.returns-clause-work_after
returns-clause-work_after c =
    let s = c.args in
    let new = c.new_cell in
    let size = c.cell_size in
    let word = c.fourth_word-word in
    entry_loaded (words s.work.now) (words new.new.work) s.n s.kind _ _ _ word.result size.result
    c.saturating_sub-first.ensures size.ensures.value c.saturating_sub-second.ensures c.entry_size-size.ensures.value word.ensures
    (cell_put _ _ _ _ _ _ _ new.ensures)
