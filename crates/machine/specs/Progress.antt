-- What the walk to the next stop and the step there have to do.
use Rattle.std.specs.Prelude.{ℕ, ◌+◌, ◌-◌, ◌≤◌, ◌<◌, ◌≡◌, Bool, true, false}
use Rattle.std.specs.declared.ops.ControlFlow.{ControlFlow}
use Rattle.std.specs.declared.ops.ControlFlow.TheVariants.{Continue, Break}
use Rattle.rules.specs.Types.{Ty}
use Rattle.rules.specs.Sizes.{most_gates}
use Rattle.rules.specs.Runs.{advanced}
use Rattle.machine_terms.specs.Walks.{Stop, at_application, at_let, at_force, at_box, at_apply, at_exit, at_end, at_variable}
use Rattle.machine_terms.specs.States.{State, decode}
use Rattle.machine_state.specs.declared.StateNumbers.{StateNumbers}
use Rattle.machine_state.specs.Memory.{Memory}
use Rattle.machine.specs.declared.Ending.{Ending}
use Rattle.machine.specs.Advancing.{Ready, AdvancedTo}

-- What is known while steps are taken: n are done, and the rest comes to what the whole comes to.
pub record Underway (types : ℕ → Ty) (positions : ℕ) (A : Ty) (allowance k n : ℕ) (m : Memory) (r : StateNumbers) (s₀ : State)
    : Type 0 where
  pub state_now : State
  pub ready : Ready types positions A allowance m r state_now
  pub rest : advanced allowance (k - n) n (decode types state_now) ≡ advanced allowance k 0 (decode types s₀)

-- The stop at the end of the outermost frame.
abbrev pub is_end : Stop → Bool
is_end at_application = false
is_end at_let = false
is_end at_force = false
is_end at_box = false
is_end at_apply = false
is_end at_exit = false
is_end at_end = true
is_end at_variable = false

-- The answer of the walk and the step: the numbers after the step, or how it ended and the numbers at the stop.
abbrev pub Progress : Type 0
Progress = ControlFlow (Ending × StateNumbers) StateNumbers

-- What they lead to, by their answer: one step more is done, or it has ended after n steps.
abbrev pub ProgressTo : (ℕ → Ty) → ℕ → Ty → ℕ → ℕ → ℕ → Memory → State → Progress → Type 0
ProgressTo types positions A allowance k n m s₀ (Continue r) = Underway types positions A allowance k (n + 1) m r s₀
ProgressTo types positions A allowance k n m s₀ (Break (e, r)) =
    AdvancedTo types positions A allowance k m s₀ (record { ending = e; steps = n; numbers = r })

-- The contract of the walk and the step after n of at most k steps.
abbrev pub AdvancesOnce : ℕ → Memory → Memory → StateNumbers → Progress → Type 0
AdvancesOnce allowance m m' r answer =
    (types : ℕ → Ty) (positions : ℕ) (A : Ty) (s₀ : State) (k n : ℕ)
    → allowance ≤ most_gates
    → n < k
    → Underway types positions A allowance k n m r s₀
    → ProgressTo types positions A allowance k n m' s₀ answer
