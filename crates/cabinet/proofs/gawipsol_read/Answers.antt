-- `cabinet::gawipsol_read` meets its contract: the answer packed. Assumes nothing.
use mathlib.Core.Path.{◌∙◌, ap}
use Rattle.cabinet_answers.specs.Packed.{packed_read}
use Rattle.cabinet.proofs.gawipsol_read.Goals as goal

pub returns : goal.returns
returns c = c.pack_answer.ensures ∙ ap packed_read c.read.ensures
