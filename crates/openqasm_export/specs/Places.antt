-- The table of registers in lent memory: a byte for each wire, twice the number of its register, and one more for a Qubit.
use Rattle.std.specs.Prelude.{ℕ, ◌+◌, ◌*◌, ◌/◌, ◌≡◌, cond, List, [], ◌∷◌, ◌++◌, map, eqb, get_or}
use Rattle.rules.specs.Types.{Wire, wire_code}
use Rattle.rules.specs.Gates.{gate_outputs}
use Rattle.rules.specs.Terms.{Gate}
use Rattle.rules.specs.Circuits.{outputs}
use Rattle.openqasm.specs.Layout.{registers_of}

-- The bytes of wires in these registers, of these types.
abbrev pub place_bytes : List ℕ → List Wire → List ℕ
place_bytes [] αs = []
place_bytes (r ∷ rs) [] = []
place_bytes (r ∷ rs) (α ∷ αs) = (2 * r + wire_code α) ∷ place_bytes rs αs

-- The bytes of all wires of a circuit.
abbrev pub places_of : List Wire → List Gate → List ℕ
places_of I gs = place_bytes (registers_of I gs) (I ++ outputs gs)

-- Memory begins with these bytes, and zeros follow.
pub record Begins (m bytes : List ℕ) : Type 0 where
  pub at_each : (w : ℕ) → get_or m w 0 ≡ get_or bytes w 0

-- A byte for the same register, with the type of this code.
abbrev pub retyped : ℕ → ℕ → ℕ
retyped place code = 2 * (place / 2) + cond (eqb code 2) 1 0

-- The bytes of the wires that a gate makes, by the bytes of those that it takes.
abbrev pub kept_places : ℕ → List ℕ → List ℕ
kept_places gate places = place_bytes (map (λ p. p / 2) places) (gate_outputs gate)
