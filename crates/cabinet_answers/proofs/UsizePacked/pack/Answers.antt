use Rattle.std.proofs.Common.{refl}
use Rattle.cabinet_answers.specs.Packed.{packed_length}
use Rattle.cabinet_answers.proofs.UsizePacked.pack.Goals as goal

pub returns : goal.returns
unfolding packed_length
returns c = refl
