-- `cabinet::gawipsol_run` meets its contract: the answer packed, and the buffers as the operation leaves them. Assumes nothing.
use mathlib.Core.Path.{◌∙◌, ap}
use Rattle.cabinet_answers.specs.Packed.{packed_run}
use Rattle.cabinet.proofs.gawipsol_run.Goals as goal

pub returns : goal.returns
returns c = record { answer = c.pack_answer.ensures ∙ ap packed_run c.run.ensures.answer; bytes = c.run.ensures.bytes }
