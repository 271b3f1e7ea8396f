use mathlib.Core.Path.{◌≡◌}
use mathlib.Core.List.{map}
use lib.ListN.{take, drop}
use Rattle.words.specs.Words.{words}
use Rattle.machine_nodes.specs.Nodes.{nodes_in}
use Rattle.words.specs.Regions.{over}
use Rattle.machine_circuits.specs.Renamings.{labels_of, Usable}
use Rattle.machine_circuits.specs.Tuples.{loaded_node}
use Rattle.machine_circuits.proofs.tuples.load_result.Given as goal

abbrev pub invariant-loop-i : goal.invariant-loop-i
invariant-loop-i l =
    let r = l.renaming in Usable r
    → nodes_in l.nodes
    ≡ over (nodes_in l.initial.nodes) l.to (map (loaded_node (labels_of r) r.next) (take l.i (drop l.from (words l.res))))
