use Rattle.std.specs.Prelude.{◌≡◌}
use Rattle.machine_nodes.specs.Nodes.{nodes_in}
use Rattle.words.specs.Regions.{over}
use Rattle.machine_load.specs.Trees.{values_from, node_from}
use Rattle.machine_load.proofs.load_terms.Given as goal

abbrev pub invariant-loop-i : goal.invariant-loop-i
invariant-loop-i l = nodes_in l.nodes ≡ over (nodes_in l.initial.nodes) l.to (values_from (node_from l.file) l.first l.i)
