-- The measure: the number of entries left in the section.
use Prim.Native.Nat.{◌-◌}
use Rattle.program.proofs.traversal.+traverse.Given as goal

abbrev pub decreases-traverse : goal.decreases-traverse
decreases-traverse g l = l.end - l.e
