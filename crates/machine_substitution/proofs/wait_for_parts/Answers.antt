-- `machine_substitution::wait_for_parts` meets its contract: the stack is that of the parts. Assumes nothing.
use native.Mathlib.Omega.{arith}
use mathlib.Core.Path.{sym, ◌∙◌, ap}
use Prim.Native.Nat.{◌+◌}
use Rattle.words.specs.Words.{words}
use Rattle.words.proofs.Laws.Words.{word_put}
use Rattle.machine_substitution.specs.Waiting.{stack_of}
use Rattle.machine_substitution.proofs.Laws.Waiting.{binders_few, one_pushed, two_pushed, waiting_none}
use Rattle.machine_substitution.proofs.wait_for_parts.Goals as goal

pub overflow_add-last : goal.overflow_add-last
overflow_add-last c = omega (arith, c.binders_of.ensures, binders_few c.args.kind)

pub returns-in-1-clause-result_after : goal.returns-in-1-clause-result_after
returns-in-1-clause-result_after c =
    let a = c.args in
    one_pushed (words a.waiting.now) (words c.put.new.memory) a.depth a.kind a.binders (a.binders + c.binders_of.result)
    (sym c.parts_of.ensures.value ∙ c.in-1.is)
    (ap (λ x. a.binders + x) c.binders_of.ensures)
    (word_put _ _ _ _ c.put.ensures)

pub returns-in-2-clause-result_after : goal.returns-in-2-clause-result_after
returns-in-2-clause-result_after c =
    let a = c.args in
    two_pushed (words a.waiting.now) (words c.put-in-2.new.memory) (words c.put-in-2-2.new.memory) a.depth a.kind a.binders
    (a.binders + c.binders_of.result)
    (sym c.parts_of.ensures.value ∙ c.in-2.is)
    (ap (λ x. a.binders + x) c.binders_of.ensures)
    (word_put _ _ _ _ c.put-in-2.ensures)
    (word_put _ _ _ _ c.put-in-2-2.ensures)

pub returns-in_default-clause-result_after : goal.returns-in_default-clause-result_after
returns-in_default-clause-result_after c =
    let a = c.args in
    λ h h'.
    sym (
    waiting_none a.kind a.binders (stack_of (words a.waiting.now) a.depth)
    (λ e. omega (arith, c.parts_of.ensures.value))
    (λ e. omega (arith, c.parts_of.ensures.value))
    )
