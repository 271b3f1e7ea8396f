-- What taking steps on lent memory has to do.
use Rattle.std.specs.Prelude.{ℕ, ◌≤◌, ◌≡◌}
use Rattle.rules.specs.Types.{Ty}
use Rattle.rules.specs.Sizes.{most_gates}
use Rattle.rules.specs.Demand3.{ProgramHas}
use Rattle.rules.specs.Runs.{Ending as EndingOf, at_finish, still_running, does_not_fit, ended, advanced}
use Rattle.machine_terms.specs.Walks.{Stopped, at_end}
use Rattle.machine_terms.specs.States.{State, decode, StateFits}
use Rattle.machine_state.specs.declared.StateNumbers.{StateNumbers}
use Rattle.machine_state.specs.Memory.{Memory, HoldsState}
use Rattle.machine_state.specs.Outcomes.{SizesFit, walk_of}
use Rattle.machine.specs.declared.Ending.{Ending}
use Rattle.machine.specs.declared.Ending.TheVariants.{Finished, Running, TooLarge}
use Rattle.machine.specs.declared.Advanced.{Advanced}

-- The ending of the rules that the code's answer names.
abbrev pub ending_of : Ending → EndingOf
ending_of Finished = at_finish
ending_of Running = still_running
ending_of TooLarge = does_not_fit

-- The memory with the numbers holds a state that is well-formed, typed and within the sizes.
pub record Ready (types : ℕ → Ty) (positions : ℕ) (A : Ty) (allowance : ℕ) (m : Memory) (r : StateNumbers) (s : State)
    : Type 0 where
  pub held : HoldsState types positions m r s
  pub fits : StateFits positions s
  pub typed : ProgramHas A (decode types s)
  pub sizes : SizesFit allowance s

-- At the finish the walk has come to the end of the outermost frame, whose term is the value in hand.
abbrev pub AtTheEnd : Ending → State → Type 0
AtTheEnd Finished s = Stopped (walk_of s) at_end
AtTheEnd Running s = Unit {0}
AtTheEnd TooLarge s = Unit {0}

-- After at most k steps from the configuration that s stands for: the answer and the configuration held are those that the
-- rules give.
pub record AdvancedTo (types : ℕ → Ty) (positions : ℕ) (A : Ty) (allowance k : ℕ) (m : Memory) (s : State) (a : Advanced)
    : Type 0 where
  pub state_then : State
  pub ready : Ready types positions A allowance m a.numbers state_then
  pub as_the_rules : ended (ending_of a.ending) a.steps (decode types state_then)
      ≡ advanced allowance k 0 (decode types s)
  pub at_the_end : AtTheEnd a.ending state_then

-- The contract of taking at most k steps: for every typed state that the memory m holds.
abbrev pub Advances : ℕ → ℕ → Memory → Memory → StateNumbers → Advanced → Type 0
Advances allowance k m m' r a =
    (types : ℕ → Ty) (positions : ℕ) (A : Ty) (s : State)
    → allowance ≤ most_gates
    → Ready types positions A allowance m r s
    → AdvancedTo types positions A allowance k m' s a
