-- `machine_walk::return_second` meets its contract. Assumes nothing.
use Rattle.machine_walk.proofs.Laws.Functions.{pair_moves, second_moves}
use Rattle.machine_walk.proofs.return_second.Goals as goal

pub returns-then-kind-ne-PAIR-clause-moves_stack : goal.returns-then-kind-ne-PAIR-clause-moves_stack
returns-then-kind-ne-PAIR-clause-moves_stack c =
    let a = c.args in
    λ rs at e. second_moves rs a.place at a.kind c.stop_two.result e c.if-kind-ne-PAIR.true c.stop_two.ensures

pub returns-clause-moves_stack : goal.returns-clause-moves_stack
returns-clause-moves_stack c = λ rs at e. pair_moves rs c.args.place at c.args.kind e c.if-kind-ne-PAIR.false
