-- The measure: the number of entries.
use Rattle.check_types.proofs.+write_at.Given as goal

abbrev pub decreases-write_at : goal.decreases-write_at
decreases-write_at l = l.most
