use Rattle.std.proofs.Common.{refl}
use Rattle.cabinet_answers.specs.Packed.{packed_sizes}
use Rattle.cabinet_answers.proofs.SizesPacked.pack.Goals as goal

pub returns : goal.returns
unfolding packed_sizes
returns c = refl
