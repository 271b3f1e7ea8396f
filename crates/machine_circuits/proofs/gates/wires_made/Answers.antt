-- `machine_circuits::gates::wires_made` meets its contract. The invariant: so many wires are made by the gates passed. Assumes nothing.
use Prim.Native.Nat.{◌+◌, ◌/◌}
use native.Mathlib.Omega.{arith}
use mathlib.Core.Path.{◌≡◌, ◌∙◌, ap}
use lib.ListN.{length}
use Rattle.rules.specs.Gates.{wires_out}
use Rattle.rules.specs.Circuits.{outputs}
use Rattle.words.specs.Quadwords.{word_in, quadwords_in, quadword_at}
use Rattle.machine_circuits.specs.Layout.{gates_in}
use Rattle.words.proofs.Laws.Quadwords.{length_quadwords_in}
use Rattle.words.proofs.Laws.Ends.{past_end, not_past}
use Rattle.machine_circuits.proofs.Laws.Gates.{few_out, gates_next, outputs_next}
use Rattle.machine_circuits.proofs.gates.wires_made.Goals as goal

pub returns-then-runs_past : goal.returns-then-runs_past
returns-then-runs_past c = λ inside.
    let a = c.args in
    absurd (omega (
      arith,
      past_end c.runs_past.result (length a.gates.now / 8) a.from a.count c.runs_past.ensures c.if-runs_past.true,
      length_quadwords_in a.gates.now,
    ))

pub overflow_add-made : goal.overflow_add-made
overflow_add-made c =
    let a = c.args in
    omega (
      arith,
      not_past c.runs_past.result (length a.gates.now / 8) a.from a.count c.runs_past.ensures c.if-runs_past.false,
      c.loop-i.invariant.0,
      c.loop-i-test.true,
      c.wires_out-made.ensures,
      few_out c.word_in.result,
    )

pub loop-i-preserved : goal.loop-i-preserved
loop-i-preserved c =
    let a = c.args in
    let s = c.loop-i in
    let rs = quadwords_in a.gates.now in
    let r = quadword_at rs (a.from + s.i) in
    let e : c.wires_out-made.result ≡ wires_out (word_in r 0) = c.wires_out-made.ensures ∙ ap wires_out c.word_in.ensures.value in
    let more : length (outputs (gates_in rs a.from (s.i + 1)))
    ≡ length (outputs (gates_in rs a.from s.i)) + wires_out (word_in r 0)
    = ap (λ gs. length (outputs gs)) (gates_next rs a.from s.i) ∙ outputs_next r (gates_in rs a.from s.i) in (
      omega (arith, s.invariant.0, e, few_out (word_in r 0)),
      omega (arith, s.invariant.1, e, more),
    )

pub returns : goal.returns
returns c = λ inside.
    let done : c.loop-i.i ≡ c.args.count = omega arith in rw done at c.loop-i.invariant.1
