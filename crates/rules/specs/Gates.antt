-- The gates (01, "Gates"): one list of input and output types, from which the wires in and out follow.
use Rattle.std.specs.Prelude.{ℕ, zero, suc, Bool, true, false, List, [], ◌∷◌, length}
use Rattle.std.proofs.Math.Option.{Option, none, some}
use Rattle.rules.specs.Types.{Wire, Bit, Qubit, Ty, wire, unit, ◌⊗◌, wires}

-- The types of a gate: it is a constant of type Circ from input to output (01: "Gate types are Circ of these").
pub data GateType : Type 0 where
  ◌to◌ : Ty → Ty → GateType

infix 50 ◌to◌
-- 01: "0 H, 1 X, 2 Z, 3 S, 4 T: Qubit to Qubit. 5 CNOT: a pair of Qubits to the same. 6 Meas: Qubit to Bit.
-- 7 BX, 8 BZ: a pair of Bit and Qubit to the same." 02, ticket 5: "gates 9 Init, unit to Qubit, and 10 Discard, Bit to unit".
-- Ticket 6: "Gate 11, CCX, takes and gives a pair of a Qubit and a pair of Qubits."
abbrev pub gate_table : List GateType
gate_table =
    (wire Qubit to wire Qubit)
    ∷ (wire Qubit to wire Qubit)
    ∷ (wire Qubit to wire Qubit)
    ∷ (wire Qubit to wire Qubit)
    ∷ (wire Qubit to wire Qubit)
    ∷ (wire Qubit ⊗ wire Qubit to wire Qubit ⊗ wire Qubit)
    ∷ (wire Qubit to wire Bit)
    ∷ (wire Bit ⊗ wire Qubit to wire Bit ⊗ wire Qubit)
    ∷ (wire Bit ⊗ wire Qubit to wire Bit ⊗ wire Qubit)
    ∷ (unit to wire Qubit)
    ∷ (wire Bit to unit)
    ∷ (wire Qubit ⊗ (wire Qubit ⊗ wire Qubit) to wire Qubit ⊗ (wire Qubit ⊗ wire Qubit))
    ∷ []

-- The last three by name: "9 Init", "10 Discard", "Gate 11, CCX".
abbrev pub Init : ℕ
Init = 9

abbrev pub Discard : ℕ
Discard = 10

abbrev pub CCX : ℕ
CCX = 11

-- What stands at a place of a list, if anything.
abbrev pub nth : {A : Type 0} → List A → ℕ → Option A
nth [] n = none
nth (a ∷ l) zero = some a
nth (a ∷ l) (suc n) = nth l n

-- The types of the gate with this number; none for a number that is no gate.
abbrev pub gate_type : ℕ → Option GateType
gate_type n = nth gate_table n

-- Is there a gate?
abbrev pub is_some : Option GateType → Bool
is_some none = false
is_some (some g) = true

-- 01: "A label or gate has its number": is this number one of the gates?
unfoldable pub is_gate : ℕ → Bool
is_gate n = is_some (gate_type n)

-- The wires of a gate's output type, if there is a gate.
abbrev pub output_wires : Option GateType → List Wire
output_wires none = []
output_wires (some (T to U)) = wires U

-- The wires that a gate makes, left to right.
abbrev pub gate_outputs : ℕ → List Wire
gate_outputs n = output_wires (gate_type n)

-- The wires of a gate's input type, if there is a gate.
abbrev pub input_wires : Option GateType → List Wire
input_wires none = []
input_wires (some (T to U)) = wires T

-- How many wires a gate takes, and how many it makes; none where there is no such gate.
unfoldable pub wires_in : ℕ → ℕ
wires_in n = length (input_wires (gate_type n))

unfoldable pub wires_out : ℕ → ℕ
wires_out n = length (output_wires (gate_type n))
