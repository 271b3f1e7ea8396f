-- `machine::walk_and_step` meets its contract, from those of the walk and of the step. Assumes nothing.
use native.Mathlib.Omega.{arith}
use mathlib.Core.Path.{sym, ◌∙◌, subst}
use Rattle.words.specs.Words.{words}
use Rattle.machine_nodes.specs.Nodes.{nodes_in}
use Rattle.words.specs.Quadwords.{quadwords_in}
use Rattle.machine_circuits.specs.Layout.{four_results}
use Rattle.machine_walk.specs.Places.{stop_of}
use Rattle.machine_state.specs.Buffers.{memory_in}
use Rattle.machine_state.specs.Memory.{memory}
use Rattle.machine_state.specs.Outcomes.{Steps}
use Rattle.machine.proofs.Laws.Progress.{moved_to}
use Rattle.machine.proofs.Laws.Advancing.{once_finished, once_taken, once_exceeding}
use Rattle.machine.proofs.walk_and_step.Goals as goal

pub returns-then-is_end-clause-advances_once : goal.returns-then-is_end-clause-advances_once
returns-then-is_end-clause-advances_once c = λ scratch labels.
    let a = c.args in
    let b = a.buffers.now in
    once_finished (nodes_in b.nodes.now) (nodes_in c.walk-stop.new.nodes) (quadwords_in b.stack.now) (quadwords_in c.walk-stop.new.stack)
    (quadwords_in b.gates.now) (quadwords_in b.circuits.now) (quadwords_in b.frames.now) (words b.types.now)
    (four_results (words b.results0.now) (words b.results1.now) (words b.results2.now) (words b.results3.now))
    a.numbers c.walk-stop.result a.allowance c.walk-stop.ensures (sym c.is_end.ensures ∙ c.if-is_end.true)

pub returns-in-Some-clause-advances_once : goal.returns-in-Some-clause-advances_once
returns-in-Some-clause-advances_once c = λ scratch labels.
    let a = c.args in
    let b = a.buffers.now in
    let ns = nodes_in c.walk-stop.new.nodes in
    let rs = quadwords_in c.walk-stop.new.stack in
    let gs = quadwords_in b.gates.now in
    let cs = quadwords_in b.circuits.now in
    let fs = quadwords_in b.frames.now in
    let ws = words b.types.now in
    let results = four_results (words b.results0.now) (words b.results1.now) (words b.results2.now) (words b.results3.now) in
    let m = memory_in c.step.new.buffers in
    once_taken (nodes_in b.nodes.now) ns (quadwords_in b.stack.now) rs gs cs fs ws results a.numbers c.walk-stop.result a.allowance
    c.walk-stop.ensures m c.in-Some.next (sym c.is_end.ensures ∙ c.if-is_end.false)
    (subst (Steps (stop_of c.walk-stop.result.stop) a.allowance (memory ns rs gs cs fs ws results) m (moved_to a.numbers c.walk-stop.result))
    c.in-Some.is (c.step.ensures.steps (omega (arith, scratch)) (omega (arith, labels))))

pub returns-in-None-clause-advances_once : goal.returns-in-None-clause-advances_once
returns-in-None-clause-advances_once c = λ scratch labels.
    let a = c.args in
    let b = a.buffers.now in
    let ns = nodes_in c.walk-stop.new.nodes in
    let rs = quadwords_in c.walk-stop.new.stack in
    let gs = quadwords_in b.gates.now in
    let cs = quadwords_in b.circuits.now in
    let fs = quadwords_in b.frames.now in
    let ws = words b.types.now in
    let results = four_results (words b.results0.now) (words b.results1.now) (words b.results2.now) (words b.results3.now) in
    let m = memory_in c.step.new.buffers in
    once_exceeding (nodes_in b.nodes.now) ns (quadwords_in b.stack.now) rs gs cs fs ws results a.numbers c.walk-stop.result a.allowance
    c.walk-stop.ensures m (sym c.is_end.ensures ∙ c.if-is_end.false)
    (subst (Steps (stop_of c.walk-stop.result.stop) a.allowance (memory ns rs gs cs fs ws results) m (moved_to a.numbers c.walk-stop.result))
    c.in-None.is (c.step.ensures.steps (omega (arith, scratch)) (omega (arith, labels))))
