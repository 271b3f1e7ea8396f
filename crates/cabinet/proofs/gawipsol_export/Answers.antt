-- `cabinet::gawipsol_export` meets its contract: the answer packed, and the buffers as the operation leaves them. Assumes nothing.
use mathlib.Core.Path.{◌∙◌, ap}
use Rattle.cabinet_answers.specs.Packed.{packed_conversion}
use Rattle.cabinet.proofs.gawipsol_export.Goals as goal

pub returns : goal.returns
returns c = record { answer = c.pack_answer.ensures ∙ ap packed_conversion c.export.ensures.answer; bytes = c.export.ensures.bytes }
