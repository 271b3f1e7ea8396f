-- `machine_circuits::renamings::Renaming::slot` meets its contract. Assumes nothing.
use native.Mathlib.Omega.{arith}
use mathlib.Core.Path.{sym, ◌∙◌, ap}
use Rattle.rules.specs.Circuits.{rename}
use Rattle.words.specs.Quadwords.{quadwords_in, quadword_at}
use Rattle.machine_circuits.specs.Renamings.{labels_of}
use Rattle.machine_circuits.proofs.Laws.Gates.{slot_renamed}
use Rattle.machine_circuits.proofs.renamings.Renaming.slot.Goals as goal

pub returns : goal.returns
returns c = λ e usable.
    let a = c.args in
    let r = quadword_at (quadwords_in a.gates.now) a.i in
    let ks = labels_of a.self in
    c.number_of.ensures usable
    ∙ ap (rename ks a.self.next) c.word_in.ensures.value
    ∙ sym (slot_renamed ks a.self.next r a.slot (omega (arith, c.if-taken-slot.false, e)))
