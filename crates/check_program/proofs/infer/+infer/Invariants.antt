-- The measure: the entries left.
use Rattle.std.proofs.Common.{◌-◌, length}
use Rattle.check_program.proofs.infer.+infer.Given as goal

abbrev pub decreases-infer : goal.decreases-infer
decreases-infer l = length l.file.now - l.at.entry
