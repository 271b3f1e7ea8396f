use Prim.Native.Nat.{◌≤◌}
use mathlib.Core.Path.{◌≡◌}
use lib.ListN.{length, take}
use Rattle.words.specs.Words.{words}
use Rattle.machine_nodes.specs.Nodes.{nodes_in}
use Rattle.machine_circuits.specs.Tuples.{labels_passed}
use Rattle.machine_circuits.proofs.tuples.collect_labels.Given as goal

abbrev pub invariant-loop-i : goal.invariant-loop-i
invariant-loop-i l =
    (l.found ≤ l.i)
    × (l.found ≡ length (labels_passed (nodes_in l.nodes) l.at l.i))
    × (l.count ≤ length (words l.initial.labels) → take l.found (words l.labels) ≡ labels_passed (nodes_in l.nodes) l.at l.i)
