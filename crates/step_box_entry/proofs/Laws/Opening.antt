-- Laws of specs/Opening.antt.
use Rattle.std.specs.Prelude.{ℕ, ◌≤◌, ◌<◌, ◌≡◌, List, [], ◌∷◌, T as Truth, length}
use Rattle.rules.specs.Types.{Ty, is_wire_type, wires, entries, most_entries}
use Rattle.rules.specs.Terms.{Boxed}
use Rattle.rules.specs.Circuits.{Circuit, circuit}
use Rattle.machine_terms.specs.Trees.{Node, argument, Tree, one}
use Rattle.machine_terms.specs.Holes.{Hole, only, opened, open_boxes}
use Rattle.machine_terms.specs.Walks.{evaluating, returning}
use Rattle.machine_terms.specs.States.{State, state}
use Rattle.machine_state.specs.Memory.{Memory, HoldsParts}
use Rattle.machine_state.specs.Outcomes.{PartsFit}
use Rattle.machine_state.specs.declared.StateNumbers.{StateNumbers}
use Rattle.step_box_entry.specs.Opening.{applied}

-- The box at which the walk has stopped, and what is known of it.
pub record StoppedAtBox (types : ℕ → Ty) (positions allowance : ℕ) (m : Memory) (r : StateNumbers) (n k : Node) (t : Tree)
    (hs : List Hole) (C : Circuit) (Cs : List Circuit) (K : List Boxed) : Type 0 where
  pub held : HoldsParts types positions m r (returning (one k t) (only n ∷ hs)) (C ∷ Cs) K
  pub position : argument n < positions
  pub wire_type : Truth (is_wire_type (types (argument n)))
  pub small : entries (types (argument n)) ≤ most_entries
  pub boxes : length Cs ≡ open_boxes hs
  pub sizes : PartsFit allowance (returning (one k t) (only n ∷ hs)) (C ∷ Cs) K

-- The configuration after box entry.
abbrev pub after_entry : (ℕ → Ty) → Node → Node → Tree → List Hole → Circuit → List Circuit → List Boxed → State
after_entry types n k t hs C Cs K =
    state
    (evaluating (applied (types (argument n)) t) (opened n (one k t) ∷ hs))
    (circuit (wires (types (argument n))) [])
    (C ∷ Cs)
    K
