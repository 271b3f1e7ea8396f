-- `step_apply_circuit::load_constant` meets its contract. Assumes nothing.
use Prim.Native.Nat.{ℕ, ◌*◌, ◌/◌, ◌%◌}
use native.Mathlib.Omega.{arith}
use mathlib.Core.Path.{◌≡◌, sym, ◌∙◌, ap, subst}
use lib.ListN.{length, take}
use Rattle.words.specs.Words.{words}
use Rattle.machine_nodes.specs.Nodes.{nodes_in}
use Rattle.machine_circuits.specs.Layout.{four_results, most_result, results_each}
use Rattle.machine_circuits.specs.Results.{ResultFits, result_nodes}
use Rattle.words.specs.Regions.{over}
use Rattle.step_apply_circuit.proofs.Laws.Tests.{no_other_buffer}
use Rattle.step_apply_circuit.proofs.load_constant.Goals.{in-0, in-1, in-2, in-3}
use Rattle.step_apply_circuit.proofs.load_constant.Goals as goal

pub returns-in_default : goal.returns-in_default
returns-in_default c = λ k m fits.
    let a = c.args in
    let r = a.renaming in
    let e = c.result_buffer.ensures in
    absurd
    (no_other_buffer (words a.results0.now) (words a.results1.now) (words a.results2.now) (words a.results3.now) k m
    (a.i / results_each)
    (most_result * (a.i % results_each))
    a.count
    (length (nodes_in a.nodes.now))
    a.to
    (length (words r.labels.now))
    r.inputs
    r.next
    (λ z. omega (arith, c.in_default))
    (λ z. omega (arith, c.in_default))
    (λ z. omega (arith, c.in_default))
    (λ z. omega (arith, c.in_default))
    fits)

-- What follows from a fact on one number follows from it on an equal one.
by_equal : (F G : ℕ → Type 0) (n n' : ℕ) → n' ≡ n → (F n' → G n') → F n → G n
by_equal F G n n' e f x = subst G e (f (subst F (sym e) x))

pub returns : goal.returns
returns c = λ k m fits.
    let a = c.args in
    let r = a.renaming in
    let e = c.result_buffer.ensures in
    let results = four_results (words a.results0.now) (words a.results1.now) (words a.results2.now) (words a.results3.now) in
    let read : words c.match-result_buffer.results.now ≡ results (a.i / results_each)
    = elim c.match-result_buffer.branch [
      | in-0 w ↦ ap (λ x. words x.now) w.results-is ∙ ap results (sym w.in-0.is ∙ e)
      | in-1 w ↦ ap (λ x. words x.now) w.results-is ∙ ap results (sym w.in-1.is ∙ e)
      | in-2 w ↦ ap (λ x. words x.now) w.results-is ∙ ap results (sym w.in-2.is ∙ e)
      | in-3 w ↦ ap (λ x. words x.now) w.results-is ∙ ap results (sym w.in-3.is ∙ e)
    ] in
    by_equal
    (λ n. ResultFits k m (words c.match-result_buffer.results.now) c.result_start.result a.count (length (nodes_in a.nodes.now)) a.to
    (length (words r.labels.now)) n r.next)
    (λ n. nodes_in c.load_result.new.nodes ≡ over (nodes_in a.nodes.now) a.to (result_nodes k (take n (words r.labels.now)) r.next))
    r.inputs
    _
    (omega arith)
    (c.load_result.ensures k m)
    (rw (read, c.result_start.ensures) fits)
