-- `cabinet::gawipsol_check_listing` meets its contract: the answer packed, and the buffer as the operation leaves it. Assumes nothing.
use mathlib.Core.Path.{◌∙◌, ap}
use Rattle.cabinet_answers.specs.Packed.{packed_listing}
use Rattle.cabinet.proofs.gawipsol_check_listing.Goals as goal

pub returns : goal.returns
returns c = record { answer = c.pack_answer.ensures ∙ ap packed_listing c.check_listing.ensures.answer; bytes = c.check_listing.ensures.bytes }
