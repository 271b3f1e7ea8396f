-- `cabinet::gawipsol_check` meets its contract: the answer packed, and the buffers as the operation leaves them. Assumes nothing.
use mathlib.Core.Path.{◌∙◌, ap}
use Rattle.cabinet_answers.specs.Packed.{packed_check}
use Rattle.cabinet.proofs.gawipsol_check.Goals as goal

pub returns : goal.returns
returns c = record { answer = c.pack_answer.ensures ∙ ap packed_check c.check.ensures.answer; bytes = c.check.ensures.bytes }
