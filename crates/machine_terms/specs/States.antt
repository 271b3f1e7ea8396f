-- The states of the machine, the configuration that each stands for, and the step at a stop of the walk.
use Rattle.std.specs.Prelude.{ℕ, ◌+◌, ◌≡◌, List, [], ◌∷◌, length}
use Rattle.rules.specs.Types.{Wire, Ty}
use Rattle.rules.specs.Terms.{Boxed}
use Rattle.rules.specs.Circuits.{Circuit, circuit}
use Rattle.rules.specs.Steps.{Frame, frame, Configuration, configuration}
use Rattle.machine_terms.specs.Trees.{Tree}
use Rattle.machine_terms.specs.Meaning.{Environment, environment, meaning}
use Rattle.machine_terms.specs.Holes.{frame_tree, trees_below, open_boxes}
use Rattle.machine_terms.specs.Walks.{Walk, evaluating, focus, holes, WalkFits}

-- The walk, the circuit of the innermost frame, those of the frames below, inward ones first, and the circuits closed
-- so far, the latest first.
pub data State : Type 0 where
  state : Walk → Circuit → List Circuit → List Boxed → State

-- The start: the whole term to evaluate, the labels as inputs, no gate.
abbrev pub start_state : List Wire → Tree → State
start_state L t = state (evaluating t []) (circuit L []) [] []

-- The frames below: their circuits and their trees' terms.
abbrev pub frames_below : Environment → List Tree → List Circuit → List Frame
frames_below e [] Cs = []
frames_below e (t ∷ ts) [] = []
frames_below e (t ∷ ts) (C ∷ Cs) = frame C (meaning e t) ∷ frames_below e ts Cs

-- The configuration that a state stands for, over the program's types.
abbrev pub decode : (ℕ → Ty) → State → Configuration
decode types (state w C Cs closed) =
    configuration
    (frame C (meaning (environment types closed) (frame_tree (holes w) (focus w))))
    (frames_below (environment types closed) (trees_below (holes w)) Cs)
    closed

-- The gates of the open circuits.
abbrev pub open_gates : List Circuit → ℕ
open_gates [] = 0
open_gates (circuit I gs ∷ Cs) = length gs + open_gates Cs

-- The walk is well-formed, and there is one more circuit than there are open boxes.
abbrev pub StateFits : ℕ → State → Type 0
StateFits positions (state w C Cs closed) =
    WalkFits positions (length closed) w × (length Cs ≡ open_boxes (holes w))
