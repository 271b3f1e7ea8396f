-- Laws of specs/Progress.antt.
use Rattle.std.specs.Prelude.{ℕ, ◌≤◌}
use Rattle.rules.specs.Types.{Ty}
use Rattle.rules.specs.Sizes.{most_gates}
use Rattle.machine_terms.specs.States.{State}
use Rattle.machine_walk.specs.declared.Stopped.{Stopped as StoppedPlace}
use Rattle.machine_state.specs.declared.StateNumbers.{StateNumbers}
use Rattle.machine_state.specs.Memory.{Memory}
use Rattle.machine.specs.Advancing.{Ready}
use Rattle.machine.specs.Progress.{Underway}

-- The numbers with the place at which the walk has stopped.
abbrev pub moved_to : StateNumbers → StoppedPlace → StateNumbers
moved_to r p = record { place = p.place; counts = r.counts }

-- Steps underway from the memory m₀ with the numbers r₀: n of at most k are done.
abbrev pub AllUnderway : ℕ → ℕ → ℕ → Memory → StateNumbers → Memory → StateNumbers → Type 0
AllUnderway allowance k n m₀ r₀ m r =
    (types : ℕ → Ty) (positions : ℕ) (A : Ty) (s₀ : State)
    → allowance ≤ most_gates
    → Ready types positions A allowance m₀ r₀ s₀
    → Underway types positions A allowance k n m r s₀
