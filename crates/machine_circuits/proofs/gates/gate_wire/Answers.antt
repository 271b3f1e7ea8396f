-- `machine_circuits::gates::gate_wire` meets its contract. Assumes nothing.
use native.Mathlib.Omega.{arith}
use mathlib.Core.Path.{◌≡◌, sym, ◌∙◌, ap}
use Rattle.rules.specs.Gates.{wires_in}
use Rattle.words.specs.Quadwords.{word_in, quadwords_in, quadword_at}
use Rattle.machine_circuits.proofs.Laws.Gates.{slot_used, slot_unused}
use Rattle.machine_circuits.proofs.gates.gate_wire.Goals as goal

pub returns-then-wires_in-slot : goal.returns-then-wires_in-slot
returns-then-wires_in-slot c =
    let a = c.args in
    let r = quadword_at (quadwords_in a.gates.now) a.i in
    let e : c.wires_in.result ≡ wires_in (word_in r 0) = c.wires_in.ensures ∙ ap wires_in c.word_in-number.ensures.value in
    sym (slot_unused r a.slot (omega (arith, c.if-wires_in-slot.true, e)))

pub returns : goal.returns
returns c =
    let a = c.args in
    let r = quadword_at (quadwords_in a.gates.now) a.i in
    let e : c.wires_in.result ≡ wires_in (word_in r 0) = c.wires_in.ensures ∙ ap wires_in c.word_in-number.ensures.value in
    c.word_in.ensures.value ∙ sym (slot_used r a.slot (omega (arith, c.if-wires_in-slot.false, e)))
