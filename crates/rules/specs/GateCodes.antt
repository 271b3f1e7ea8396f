-- The gates in numbers, as the code has them (01, "Forms for specific places": "a constant table of arity and type codes,
-- looked up by reader, check and apply"). Everything is stated over `gate_table`.
use Rattle.std.specs.Prelude.{ℕ, zero, suc, ◌+◌, ◌*◌, List, [], ◌∷◌, length, get_or}
use Rattle.std.proofs.Math.Option.{Option, none, some}
use Rattle.rules.specs.Types.{Wire, Circ, wire_code, type_codes}
use Rattle.rules.specs.Gates.{GateType, ◌to◌, gate_type, output_wires, input_wires}
use Rattle.rules.specs.Terms.{Gate, ◌on◌}

-- What stands at a place of a list of codes; 255 behind its end.
abbrev pub code_at : List ℕ → ℕ → ℕ
code_at codes i = get_or codes i 255

-- 01: "Gate types are Circ of these."
abbrev pub circ_codes : Option GateType → List ℕ
circ_codes none = []
circ_codes (some (T to U)) = type_codes (Circ T U)

-- The types of wires in one number: digits of base 4, that of the first wire the lowest, one more than the code of its type.
abbrev pub wires_code : List Wire → ℕ
wires_code [] = 0
wires_code (α ∷ αs) = suc (wire_code α) + 4 * wires_code αs

-- Of the wires that a gate takes, and of those that it makes.
unfoldable pub taken_code : ℕ → ℕ
taken_code n = wires_code (input_wires (gate_type n))

unfoldable pub made_code : ℕ → ℕ
made_code n = wires_code (output_wires (gate_type n))

-- How many entries the type of a gate has. Here and below, a number that is no gate has none of anything.
unfoldable pub type_entries : ℕ → ℕ
type_entries n = length (circ_codes (gate_type n))

-- The entry of the type of a gate at a place, in preorder.
unfoldable pub type_code : ℕ → ℕ → ℕ
type_code n i = code_at (circ_codes (gate_type n)) i

-- Codes filled up with 255 to a number of places.
abbrev pub filled : ℕ → List ℕ → List ℕ
filled zero codes = []
filled (suc k) [] = 255 ∷ filled k []
filled (suc k) (c ∷ codes) = c ∷ filled k codes

-- The wires of a gate.
abbrev pub wires_of : Gate → List ℕ
wires_of (n on ws) = ws
