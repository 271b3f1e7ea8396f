use Prim.Native.Nat.{◌+◌, ◌≤◌}
use lib.ListN.{length}
use Rattle.words.specs.Words.{words}
use Rattle.machine_nodes.specs.Nodes.{nodes_in}
use Rattle.machine_substitution.specs.Reducts.{Ready}
use Rattle.machine_substitution.proofs.Laws.Reducts.{Writing}
use Rattle.machine_substitution.proofs.write_reduct.Given as goal

abbrev pub invariant-loop-i : goal.invariant-loop-i
invariant-loop-i l =
    (l.depth ≤ l.i + 1)
    × (l.size ≤ l.most)
    × (Ready (nodes_in l.initial.nodes) (length (words l.initial.waiting)) l.to l.most l.source l.values
    → Writing (nodes_in l.initial.nodes) (nodes_in l.nodes) (words l.waiting) l.source l.values l.to l.i l.depth l.size)
