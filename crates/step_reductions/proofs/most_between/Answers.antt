-- `step_reductions::most_between` meets its contract. Assumes nothing.
use native.Mathlib.Omega.{arith}
use Rattle.machine_nodes.proofs.Laws.Nodes.{length_nodes_in}
use Rattle.step_reductions.proofs.most_between.Goals as goal

pub returns : goal.returns
returns c = omega (arith, length_nodes_in c.args.nodes.now)
