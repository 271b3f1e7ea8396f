-- `machine_circuits::gates::label_at` meets its contract. Assumes nothing.
use native.Mathlib.Omega.{arith}
use mathlib.Core.Path.{sym, ◌∙◌}
use Rattle.words.specs.Words.{words}
use Rattle.words.proofs.Laws.Words.{length_words, word_below}
use Rattle.machine_circuits.proofs.Laws.Gates.{label_within, label_ended}
use Rattle.machine_circuits.proofs.gates.label_at.Goals as goal

pub returns-then-labels-k : goal.returns-then-labels-k
returns-then-labels-k c =
    let a = c.args in
    let m = a.labels.now in
    record { value = sym (label_ended (words m) a.n a.k (omega (arith, length_words m, c.if-labels-k.true))); upper_bound = omega arith }

pub returns : goal.returns
returns c =
    let a = c.args in
    let m = a.labels.now in
    let e = c.get.ensures in record { value = e ∙ sym (label_within (words m) a.n a.k c.if-n-k.false (omega (arith, length_words m, c.if-labels-k.false))); upper_bound = omega (arith, e, word_below m (λ j. (c.type_inv.labels j).fits) a.k) }
