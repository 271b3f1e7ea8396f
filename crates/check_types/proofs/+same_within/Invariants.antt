-- The measure: the number of entries.
use Rattle.check_types.proofs.+same_within.Given as goal

abbrev pub decreases-same_within : goal.decreases-same_within
decreases-same_within l = l.most
