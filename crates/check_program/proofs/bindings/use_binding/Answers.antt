-- `check_program::bindings::use_binding` meets its contract: its uses are counted. Assumes nothing.
use Rattle.words.specs.Words.{words}
use Rattle.words.proofs.Laws.Words.{word_put}
use Rattle.check_program.proofs.Laws.Leaves.{binding_used}
use Rattle.check_program.proofs.bindings.use_binding.Goals as goal

pub returns : goal.returns
returns c =
    let s = c.args in
    binding_used (words s.work.now) (words c.put.new.memory) s.i s.at.entry s.at.lifts s.cells c.cell_kind-cell.result
    c.cell_first.result c.cell_second-uses.result c.crossing_at-crossing.result
    c.cell_kind-cell.ensures
    c.cell_first.ensures
    c.cell_second-uses.ensures
    c.requires.1
    (word_put _ _ _ _ c.put.ensures)
    c.crossing_at-crossing.ensures
