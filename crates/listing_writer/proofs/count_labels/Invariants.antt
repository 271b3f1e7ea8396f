use Prim.Native.Nat.{◌≤◌}
use mathlib.Core.Path.{◌≡◌}
use lib.ListN.{length}
use Rattle.machine_nodes.specs.Nodes.{nodes_in}
use Rattle.listing_writer.specs.Parts.{outputs_read}
use Rattle.listing_writer.proofs.count_labels.Given as goal

abbrev pub invariant-loop-i : goal.invariant-loop-i
invariant-loop-i l = (l.found ≤ l.i) × (l.found ≡ length (outputs_read (nodes_in l.nodes) l.i))
