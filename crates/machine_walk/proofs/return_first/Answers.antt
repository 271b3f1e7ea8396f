-- `machine_walk::return_first` meets its contract. Assumes nothing.
use Rattle.words.specs.Quadwords.{quadwords_in}
use Rattle.words.proofs.Laws.Quadwords.{quadword_put}
use Rattle.machine_walk.proofs.Laws.Functions.{let_moves, first_moves}
use Rattle.machine_walk.proofs.return_first.Goals as goal

pub returns-then-kind-eq-LET-clause-moves_stack : goal.returns-then-kind-eq-LET-clause-moves_stack
returns-then-kind-eq-LET-clause-moves_stack c =
    let a = c.args in
    let_moves (quadwords_in a.stack.now) a.place a.at a.kind c.requires c.if-kind-eq-LET.true

pub returns-clause-moves_stack : goal.returns-clause-moves_stack
returns-clause-moves_stack c =
    let a = c.args in
    first_moves (quadwords_in a.stack.now) a.place a.at a.kind (quadwords_in c.put_quadword.new.buffer) c.requires c.if-kind-eq-LET.false
    (quadword_put _ _ _ _ _ _ _ c.put_quadword.ensures)
