use Prim.Native.Nat.{◌+◌, ◌≤◌}
use mathlib.Core.Path.{◌≡◌}
use lib.ListN.{take, drop}
use Rattle.machine_nodes.specs.Nodes.{nodes_in}
use Rattle.words.specs.Regions.{over}
use Rattle.machine_circuits.specs.Tuples.{codes_of}
use Rattle.machine_circuits.proofs.Laws.Tuples.{label_behind, nodes_of_codes}
use Rattle.machine_circuits.proofs.tuples.write_type.Given as goal

abbrev pub invariant-loop-i : goal.invariant-loop-i
invariant-loop-i l =
    (l.first ≤ l.label)
    × (l.label ≤ l.first + l.i)
    × (l.label ≡ label_behind l.first (take l.i (drop l.position (codes_of l.source))))
    × (nodes_in l.nodes
    ≡ over (nodes_in l.initial.nodes) l.to (nodes_of_codes l.first (take l.i (drop l.position (codes_of l.source)))))
