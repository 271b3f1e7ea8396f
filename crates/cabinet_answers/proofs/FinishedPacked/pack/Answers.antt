use Rattle.std.proofs.Common.{refl}
use Rattle.cabinet_answers.specs.Packed.{packed_ran}
use Rattle.cabinet_answers.proofs.FinishedPacked.pack.Goals as goal

pub returns : goal.returns
unfolding packed_ran
returns c = refl
