use Rattle.std.proofs.Common.{refl}
use Rattle.cabinet_answers.specs.Packed.{packed_counts}
use Rattle.cabinet_answers.proofs.ListingSizesPacked.pack.Goals as goal

pub returns : goal.returns
unfolding packed_counts
returns c = refl
