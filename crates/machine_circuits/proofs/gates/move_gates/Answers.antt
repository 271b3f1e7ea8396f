-- `machine_circuits::gates::move_gates` meets its contract. Assumes nothing.
use Prim.Native.Nat.{◌+◌, ◌-◌, ◌*◌, ◌/◌}
use native.Mathlib.Omega.{arith}
use lib.ListN.{length}
use Rattle.words.proofs.Laws.Quadwords.{length_quadwords_in}
use Rattle.words.proofs.Laws.Ends.{past_end}
use Rattle.machine_circuits.proofs.Laws.Copies.{all_moved}
use Rattle.machine_circuits.proofs.gates.move_gates.Goals.{then-runs_past-via-then-runs_past, then-runs_past-via-else-runs_past+then-runs_past-2}
use Rattle.machine_circuits.proofs.gates.move_gates.Goals as goal

pub returns-then-runs_past : goal.returns-then-runs_past
returns-then-runs_past c = λ apart inside.
    let a = c.args in elim c.then-runs_past.branch [
      | then-runs_past-via-then-runs_past w ↦ absurd (omega (
        arith,
        past_end c.runs_past.result (length a.gates.now / 8) a.to a.count c.runs_past.ensures w.if-runs_past.true,
        length_quadwords_in a.gates.now,
      ))
      | then-runs_past-via-else-runs_past+then-runs_past-2 w ↦ absurd (omega (
        arith,
        past_end w.runs_past-else-runs_past.result a.to a.from a.count w.runs_past-else-runs_past.ensures w.if-runs_past-2.true,
      ))
    ]

pub returns : goal.returns
returns c = λ apart inside.
    let a = c.args in
    all_moved a.gates.now c.copy_within.new.self a.from a.count a.to (8 * (a.from + a.count) - 8 * a.from) c.copy_within.ensures.len
    (omega (arith, length_quadwords_in a.gates.now))
    (omega (arith, length_quadwords_in a.gates.now))
    (omega arith)
    c.copy_within.ensures.by_index.0
    c.copy_within.ensures.by_index.1
    c.copy_within.ensures.by_index.2
