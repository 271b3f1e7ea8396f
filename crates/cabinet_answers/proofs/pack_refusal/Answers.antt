-- `cabinet_answers::pack_refusal` meets its contract. Assumes nothing.
use mathlib.Core.Path.{ap₂}
use Rattle.cabinet_answers.specs.Packed.{packed_refusal}
use Rattle.cabinet_answers.proofs.pack_refusal.Goals as goal

pub returns : goal.returns
unfolding packed_refusal
returns c = ap₂ packed_refusal c.number_of.ensures c.place_of.ensures
