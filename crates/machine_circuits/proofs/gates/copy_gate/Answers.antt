-- `machine_circuits::gates::copy_gate` meets its contract. Assumes nothing.
use mathlib.Core.Path.{◌∙◌, ap}
use Rattle.rules.specs.Gates.{wires_in}
use Rattle.words.specs.Quadwords.{quadwords_in, quadword_at}
use Rattle.words.proofs.Laws.Quadwords.{quadword_put}
use Rattle.machine_circuits.specs.Renamings.{labels_of}
use Rattle.machine_circuits.proofs.Laws.Copies.{gate_copied}
use Rattle.machine_circuits.proofs.gates.copy_gate.Goals as goal

pub returns : goal.returns
returns c = λ usable.
    let a = c.args in
    let rs = quadwords_in a.gates.now in
    let number = c.word_in-number.ensures.value in
    let taken = c.wires_in-taken.ensures ∙ ap wires_in number in
    gate_copied rs (quadwords_in c.put_quadword.new.buffer) a.to a.renaming.next (labels_of a.renaming)
    (quadword_at rs a.from)
    c.word_in-number.result
    c.slot-first.result
    c.slot-second.result
    c.slot-third.result
    (quadword_put _ _ _ _ _ _ _ c.put_quadword.ensures)
    number
    (c.slot-first.ensures taken usable)
    (c.slot-second.ensures taken usable)
    (c.slot-third.ensures taken usable)
