use Rattle.std.specs.Prelude.{◌+◌, ◌*◌, ◌-◌, ◌≤◌, ◌≡◌, drop}
use Rattle.machine_nodes.specs.Nodes.{nodes_in}
use Rattle.machine_nodes.specs.Spans.{span}
use Rattle.machine_nodes.proofs.subtree_end.Given as goal

abbrev pub invariant-loop-i : goal.invariant-loop-i
invariant-loop-i l =
    (l.i + span (drop l.i (nodes_in l.nodes)) l.waiting ≡ l.at + span (drop l.at (nodes_in l.nodes)) 1)
    × (l.waiting ≤ 1 + 2 * (l.i - l.at))
