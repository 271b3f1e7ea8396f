-- `check_types::write_type` meets its contract: from the first place on. Assumes nothing.
use Rattle.words.specs.Words.{words}
use Rattle.rules.specs.Types.{most_entries}
use Rattle.check_types.proofs.Laws.Cells.{cell_of}
use Rattle.check_types.proofs.Laws.Write.{wrote_all}
use Rattle.check_types.proofs.write_type.Goals as goal

pub returns-clause-says_wrote : goal.returns-clause-says_wrote
returns-clause-says_wrote c =
    let s = c.args in
    let one = c.write_at in
    wrote_all (words s.work.now) most_entries s.i s.out.now one.new.out one.result
    (λ n A d. (cell_of d).bounded)
    one.ensures.says_wrote_at
