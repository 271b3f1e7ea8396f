-- What a step on lent memory has to do: the contract that all step functions have.
use Rattle.std.specs.Prelude.{ℕ, ◌+◌, ◌≤◌, List, ◌∷◌, ◌++◌, length, Option, Some, None}
use Rattle.rules.specs.Types.{Ty}
use Rattle.rules.specs.Terms.{Boxed}
use Rattle.rules.specs.Circuits.{Circuit}
use Rattle.rules.specs.Sizes.{closed_gates, most_nodes, most_gates, most_boxes}
use Rattle.rules.specs.Demand3.{ProgramHas}
use Rattle.machine_terms.specs.Walks.{Walk, left, right, Stop, Stopped}
use Rattle.machine_terms.specs.States.{State, state, decode, open_gates, StateFits}
use Rattle.machine_terms.specs.Forms.{Contracts}
use Rattle.machine_state.specs.declared.StateNumbers.{StateNumbers}
use Rattle.machine_state.specs.Memory.{Memory, HoldsState}

-- The nodes of all frames.
abbrev pub size : Walk → ℕ
size w = length (left w ++ right w)

-- The sizes of a state, with the number of gates that it is allowed (01: "Sizes of a configuration").
pub record PartsFit (allowance : ℕ) (w : Walk) (Cs : List Circuit) (K : List Boxed) : Type 0 where
  pub nodes_fit : size w ≤ most_nodes
  pub gates_fit : open_gates Cs + closed_gates K ≤ allowance
  pub boxes_fit : length K ≤ most_boxes

abbrev pub SizesFit : ℕ → State → Type 0
SizesFit allowance (state w C Cs K) = PartsFit allowance w (C ∷ Cs) K

abbrev pub walk_of : State → Walk
walk_of (state w C Cs K) = w

-- A state at which the walk has stopped, before a step.
pub record AtStop (types : ℕ → Ty) (positions : ℕ) (A : Ty) (m : Memory) (r : StateNumbers) (s : State) (stop : Stop)
    : Type 0 where
  pub held : HoldsState types positions m r s
  pub fits : StateFits positions s
  pub typed : ProgramHas A (decode types s)
  pub stopped : Stopped (walk_of s) stop

-- The step to s' is taken, it fits, and the memory holds s'; or it does not fit, and with the same numbers the memory
-- holds the state that it held before.
abbrev pub Outcome : (ℕ → Ty) → ℕ → ℕ → StateNumbers → Memory → Memory → State → Option StateNumbers → Type 0
Outcome types positions allowance r m m' s' (Some r') = SizesFit allowance s' × HoldsState types positions m' r' s'
Outcome types positions allowance r m m' s' None =
    (SizesFit allowance s' → ⊥) × ((s : State) → HoldsState types positions m r s → HoldsState types positions m' r s)

-- The contract of the step at a stop: from the memory m to the memory m', for every typed state that m holds.
abbrev pub Steps : Stop → ℕ → Memory → Memory → StateNumbers → Option StateNumbers → Type 0
Steps stop allowance m m' r answer =
    (types : ℕ → Ty) (positions : ℕ) (A : Ty) (s s' : State)
    → allowance ≤ most_gates
    → AtStop types positions A m r s stop
    → SizesFit allowance s
    → Contracts types s s'
    → Outcome types positions allowance r m m' s' answer
