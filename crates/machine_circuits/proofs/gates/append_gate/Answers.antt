-- `machine_circuits::gates::append_gate` meets its contract. Assumes nothing.
use Rattle.rules.specs.Gates.{wires_in}
use Rattle.words.specs.Words.{words}
use Rattle.words.specs.Quadwords.{quadwords_in}
use Rattle.words.proofs.Laws.Quadwords.{quadword_put}
use Rattle.machine_circuits.proofs.Laws.Copies.{labels_put}
use Rattle.machine_circuits.proofs.gates.append_gate.Goals as goal

pub returns-clause-gate_put : goal.returns-clause-gate_put
returns-clause-gate_put c =
    let a = c.args in
    labels_put (quadwords_in a.gates.now) (quadwords_in c.put_quadword.new.buffer) a.i a.number c.wires_in-n.result
    (words a.labels.now)
    (wires_in a.number)
    c.label_at-first.result
    c.label_at-second.result
    c.label_at-third.result
    (quadword_put _ _ _ _ _ _ _ c.put_quadword.ensures)
    c.wires_in-n.ensures
    (c.label_at-first.ensures.value, c.label_at-first.ensures.upper_bound)
    (c.label_at-second.ensures.value, c.label_at-second.ensures.upper_bound)
    (c.label_at-third.ensures.value, c.label_at-third.ensures.upper_bound)
