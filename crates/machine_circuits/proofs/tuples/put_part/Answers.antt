-- `machine_circuits::tuples::put_part` meets its contract. Assumes nothing.
use Rattle.std.proofs.Common.{arith}
use Rattle.std.proofs.lemmas.Bool.Decides.{nat_tests}
use Rattle.machine_nodes.proofs.Laws.Nodes.{node_put}
use Rattle.machine_circuits.proofs.tuples.put_part.Goals as goal

pub returns-then-word-pair : goal.returns-then-word-pair
returns-then-word-pair c = let e = node_put _ _ _ _ _ c.put_node.ensures in grind (arith, nat_tests)

pub returns-then-word-unit : goal.returns-then-word-unit
returns-then-word-unit c = let e = node_put _ _ _ _ _ c.put_node-then-word-unit.ensures in grind (arith, nat_tests)

pub returns-else-word-unit : goal.returns-else-word-unit
returns-else-word-unit c = let e = node_put _ _ _ _ _ c.put_node-else-word-unit.ensures in grind (arith, nat_tests)
