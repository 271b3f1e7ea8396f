-- `machine_steps::step` meets its contract: the contract of the step at each stop. Assumes nothing.
use mathlib.Core.Path.{sym, ap, subst}
use Rattle.words.specs.Words.{words}
use Rattle.words.specs.Quadwords.{quadwords_in}
use Rattle.machine_circuits.specs.Layout.{four_results}
use Rattle.machine_terms.specs.Walks.{at_apply, at_exit}
use Rattle.machine_state.specs.Buffers.{memory_in, memory_with}
use Rattle.machine_state.specs.Outcomes.{Steps}
use Rattle.machine_steps.proofs.Laws.Stops.{no_step}
use Rattle.machine_steps.proofs.step.Goals as goal

pub returns-in-AtForce-clause-steps : goal.returns-in-AtForce-clause-steps
returns-in-AtForce-clause-steps c = λ scratch labels.
    let b = c.args.buffers.now in
    rw c.in-AtForce.is
    (c.force.ensures (quadwords_in b.gates.now) (quadwords_in b.circuits.now) (quadwords_in b.frames.now) (words b.types.now)
    (four_results (words b.results0.now) (words b.results1.now) (words b.results2.now) (words b.results3.now)) c.args.allowance)

pub returns-in-AtApply-clause-steps : goal.returns-in-AtApply-clause-steps
returns-in-AtApply-clause-steps c = λ scratch labels.
    let b = c.args.buffers.now in
    let call = c.apply in
    rw c.in-AtApply.is
    (subst (λ ws. Steps at_apply c.args.allowance (memory_in b) (memory_with ws call.new.buffers) c.args.numbers call.result)
    (ap (λ t. words t.now) (sym call.ensures.same_buffers.2))
    (call.ensures.steps labels (words b.types.now)))

pub returns-in-AtExit-clause-steps : goal.returns-in-AtExit-clause-steps
returns-in-AtExit-clause-steps c = λ scratch labels.
    let b = c.args.buffers.now in
    let call = c.exit_box in
    rw c.in-AtExit.is
    (subst (λ ws. Steps at_exit c.args.allowance (memory_in b) (memory_with ws call.new.buffers) c.args.numbers call.result)
    (ap (λ t. words t.now) (sym call.ensures.same_buffers.2))
    (call.ensures.steps (words b.types.now) c.args.allowance))

pub returns-in-AtEnd-clause-steps : goal.returns-in-AtEnd-clause-steps
returns-in-AtEnd-clause-steps c = λ scratch labels types positions A s s' few stands sizes k.
    no_step types s s' c.args.stop c.in-AtEnd.is stands.stopped k
