-- `machine::advance` meets its contract. Assumes nothing.
use borrow.Author.Rules.{rules}
use native.Mathlib.Omega.{arith}
use mathlib.Core.Path.{sym, ◌∙◌, subst}
use Rattle.words.specs.Words.{words}
use Rattle.words.proofs.Laws.Words.{length_words}
use Rattle.machine_nodes.specs.Nodes.{nodes_in}
use Rattle.words.specs.Quadwords.{quadwords_in}
use Rattle.machine_circuits.specs.Layout.{four_results}
use Rattle.machine_state.specs.Buffers.{memory_in}
use Rattle.machine.proofs.Laws.Progress.{AllUnderway}
use Rattle.machine.proofs.Laws.Advancing.{more_underway, all_advanced, all_finished, all_running}
use Rattle.machine.proofs.advance.Goals.{then-is_end, else-is_end}
use Rattle.machine.proofs.advance.Goals as goal

pub returns-in-Break-clause-advances : goal.returns-in-Break-clause-advances
returns-in-Break-clause-advances c =
    let a = c.args in
    let l = c.loop-steps in
    let m₀ = memory_in a.buffers.now in
    let m = memory_in l.buffers in
    all_advanced a.allowance a.k _ m₀ m (memory_in c.walk_and_step.new.buffers)
    a.numbers l.now c.in-Break.numbers c.in-Break.ending (omega (arith, c.loop-steps-test.true))
    (subst (λ n. AllUnderway a.allowance a.k n m₀ a.numbers m l.now) (omega arith) l.invariant.1)
    (c.in-Break.ensures.advances_once (omega (arith, length_words l.waiting)) (omega (arith, length_words l.labels)))

pub loop-steps-preserved : goal.loop-steps-preserved
loop-steps-preserved c =
    let a = c.args in
    let l = c.loop-steps in (
      search rules,
      more_underway a.allowance a.k l.steps (memory_in a.buffers.now) (memory_in l.buffers) (memory_in c.walk_and_step.new.buffers)
          a.numbers l.now c.in-Continue.next (omega (arith, c.loop-steps-test.true)) l.invariant.1
          (c.in-Continue.ensures.advances_once (omega (arith, length_words l.waiting)) (omega (arith, length_words l.labels))),
    )

pub returns-clause-advances : goal.returns-clause-advances
returns-clause-advances c =
    let a = c.args in
    let l = c.loop-steps in
    let b = l.buffers in
    let m₀ = memory_in a.buffers.now in
    let m = memory_in b in
    let results = four_results (words b.results0.now) (words b.results1.now) (words b.results2.now) (words b.results3.now) in
    elim c.if-is_end.branch [
      | then-is_end w ↦
          rw w.ending-is
          (all_finished (nodes_in b.nodes.now) (nodes_in c.walk-stop.new.nodes) (quadwords_in b.stack.now) (quadwords_in c.walk-stop.new.stack)
          (quadwords_in b.gates.now) (quadwords_in b.circuits.now) (quadwords_in b.frames.now) (words b.types.now) results l.now c.walk-stop.result
          a.allowance c.walk-stop.ensures a.k _ m₀ a.numbers
          (subst (λ n. AllUnderway a.allowance a.k n m₀ a.numbers m l.now) (omega (arith, c.loop-steps-test.false, l.auto.steps-end)) l.invariant.1)
          (sym c.is_end.ensures ∙ w.if-is_end.true))
      | else-is_end w ↦
          rw w.ending-is
          (all_running (nodes_in b.nodes.now) (nodes_in c.walk-stop.new.nodes) (quadwords_in b.stack.now) (quadwords_in c.walk-stop.new.stack)
          (quadwords_in b.gates.now) (quadwords_in b.circuits.now) (quadwords_in b.frames.now) (words b.types.now) results l.now c.walk-stop.result
          a.allowance c.walk-stop.ensures a.k _ m₀ a.numbers
          (subst (λ n. AllUnderway a.allowance a.k n m₀ a.numbers m l.now) (omega (arith, c.loop-steps-test.false, l.auto.steps-end)) l.invariant.1)
          (sym c.is_end.ensures ∙ w.if-is_end.false)
          (omega arith))
    ]
