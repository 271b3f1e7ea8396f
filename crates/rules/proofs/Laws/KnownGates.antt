-- Laws of the gates of the table: how many wires they take and make at most, and gates that take as many as the table says.
use Rattle.std.specs.Prelude.{ℕ, ◌≤◌, ◌≡◌, refl, Bool, ◌&&◌, List, [], ◌∷◌, T as Truth, leb, length}
use Rattle.std.proofs.Common.{arith, leb→le}
use Rattle.std.proofs.Math.Option.{Option, none, some}
use Rattle.rules.specs.Types.{wires}
use Rattle.rules.specs.Gates.{GateType, ◌to◌, gate_table, gate_type, is_gate, output_wires, input_wires, wires_in, wires_out}
use Rattle.rules.specs.Terms.{Gate, ◌on◌}
use Rattle.rules.proofs.Laws.Booleans.{and_left, and_right}
use Rattle.rules.proofs.Laws.Wires.{every, every_nth}

-- A gate takes and makes at most so many wires.
abbrev pub few : ℕ → GateType → Bool
few most (T to U) = leb (length (wires T)) most && leb (length (wires U)) most

-- So does every number, if each gate of the table does: what is no gate takes and makes none.
pub few_wires : (most : ℕ) → Truth (every (few most) gate_table) → (n : ℕ) → (wires_in n ≤ most) × (wires_out n ≤ most)
unfolding wires_in wires_out
few_wires most all n = of (gate_type n) refl
  where
    of : (g : Option GateType) → gate_type n ≡ g → (length (input_wires g) ≤ most) × (length (output_wires g) ≤ most)
    of none e = (omega arith, omega arith)
    of (some (T to U)) e =
        let t : Truth (few most (T to U)) = every_nth (few most) gate_table n e all in (
          leb→le _ _ (and_left (leb (length (wires T)) most) (leb (length (wires U)) most) t),
          leb→le _ _ (and_right (leb (length (wires T)) most) (leb (length (wires U)) most) t),
        )

-- Gates of the table, each with as many wires as it takes.
abbrev pub KnownGates : List Gate → Type 0
KnownGates [] = Unit {0}
KnownGates ((n on ws) ∷ gs) = Truth (is_gate n) × (length ws ≡ wires_in n) × KnownGates gs
