-- The measure: the number of entries.
use Rattle.check_types.proofs.+wire_type_within.Given as goal

abbrev pub decreases-wire_type_within : goal.decreases-wire_type_within
decreases-wire_type_within l = l.most
