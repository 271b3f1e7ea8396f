-- `cabinet::gawipsol_import` meets its contract: the answer packed, and the buffers as the operation leaves them. Assumes nothing.
use mathlib.Core.Path.{◌∙◌, ap}
use Rattle.cabinet_answers.specs.Packed.{packed_conversion}
use Rattle.cabinet.proofs.gawipsol_import.Goals as goal

pub returns : goal.returns
returns c = record { answer = c.pack_answer.ensures ∙ ap packed_conversion c.import.ensures.answer; bytes = c.import.ensures.bytes }
