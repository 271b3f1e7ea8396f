-- `check_types::box_type` meets its contract: the circuit type of the parts that were found. Assumes nothing.
use Rattle.words.specs.Words.{words}
use Rattle.check_types.proofs.Laws.Rules.{box_fails, box_makes}
use Rattle.check_types.proofs.box_type.Goals as goal

pub returns-in_err-first-clause-meets_two : goal.returns-in_err-first-clause-meets_two
returns-in_err-first-clause-meets_two c =
    let s = c.args in
    let failed = c.from_residual.ensures in
    rw failed (box_fails (words s.work.now) s.n s.t s.a c.in_err-first.ensures.says_box)

pub returns-clause-meets_two : goal.returns-clause-meets_two
returns-clause-meets_two c =
    let s = c.args in
    let p = c.in_ok-first in
    let two = c.two_parts in
    box_makes (words s.work.now) (words two.new.work) s.n s.t s.a p.first p.second two.result p.ensures.says_box two.ensures.makes_two
