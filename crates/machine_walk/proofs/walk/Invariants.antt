use mathlib.Core.Path.{◌≡◌}
use lib.ListN.{length}
use Rattle.machine_nodes.specs.Nodes.{nodes_in}
use Rattle.words.specs.Quadwords.{quadwords_in}
use Rattle.machine_walk.specs.Moving.{moves_from}
use Rattle.machine_walk.proofs.Laws.Functions.{Reaches}
use Rattle.machine_walk.proofs.walk.Given as goal

abbrev pub invariant-loop-next : goal.invariant-loop-next
invariant-loop-next l =
    Reaches (nodes_in l.initial.nodes) (quadwords_in l.initial.stack) l.initial.now (nodes_in l.nodes) (quadwords_in l.stack) l.now
    × (length l.nodes ≡ length l.initial.nodes)
    × (length l.stack ≡ length l.initial.stack)

abbrev pub decreases-loop-next : goal.decreases-loop-next
decreases-loop-next l = moves_from (length (nodes_in l.initial.nodes)) l.now
