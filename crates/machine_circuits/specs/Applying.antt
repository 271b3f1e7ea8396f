-- What the buffers hold after each step that changes them: apply of a closed circuit or of a gate, box entry, box exit.
use Rattle.std.specs.Prelude.{ℕ, ◌≤◌, List}
use Rattle.rules.specs.Types.{Ty}
use Rattle.rules.specs.Terms.{Boxed}
use Rattle.rules.specs.Circuits.{Circuit}
use Rattle.machine_terms.specs.States.{open_gates}
use Rattle.words.specs.Quadwords.{Quadword}
use Rattle.machine_circuits.specs.Layout.{HoldsOpen, closed_from, HoldsClosed}

-- The open circuits, the innermost first, and the closed ones, the latest first, stand in the buffers: quadwords of gates
-- and of closed circuits, results. The gates of the open circuits end before those of the closed ones.
pub record HoldsCircuits (types : ℕ → Ty) (positions : ℕ) (gs cs : List Quadword) (results : ℕ → List ℕ) (Cs : List Circuit) (K : List Boxed)
    : Type 0 where
  pub open_held : HoldsOpen gs Cs
  pub closed_held : HoldsClosed types positions gs cs results K
  pub fewer : open_gates Cs ≤ closed_from
