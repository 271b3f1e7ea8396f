-- `step_box_exit::put_constant` meets its contract. Assumes nothing.
use Prim.Native.Nat.{◌%◌}
use mathlib.Core.Path.{◌∙◌, ap}
use lib.ListN.{set}
use Rattle.rules.specs.Kinds.{constant_kind}
use Rattle.machine_terms.specs.Trees.{node}
use Rattle.machine_nodes.specs.Nodes.{nodes_in}
use Rattle.machine_nodes.proofs.Laws.Nodes.{node_put}
use Rattle.step_box_exit.proofs.put_constant.Goals as goal

pub returns-clause-constant_put : goal.returns-clause-constant_put
returns-clause-constant_put c =
    let a = c.args in
    node_put _ _ _ _ _ c.put_node.ensures
    ∙ ap (λ i. set (nodes_in a.nodes.now) i (node constant_kind (a.numbers.counts.boxes % 65536))) c.saturating_sub-right.ensures
