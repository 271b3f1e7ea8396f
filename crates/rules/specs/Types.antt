-- Types (000, section 2.3; 01, "Program file" and "Typing").
use Rattle.std.specs.Prelude.{ℕ, ◌+◌, Bool, true, false, ◌&&◌, List, [], ◌∷◌, ◌++◌}
use Rattle.rules.specs.Kinds.{bit_kind, qubit_kind, pair_type_kind, function_kind, reusable_kind, circuit_kind, unit_kind}

-- The type of one wire. 000, definition 2.4, calls these the wire types; 01 has two of them.
pub data Wire : Type 0 where
  Bit Qubit : Wire
  deriving Discrete as Wire_discrete

infixr 68 ◌⊗◌
infixr 66 ◌⊸◌
infixr 70 !◌
-- 000, 2.3: A, B ::= α | A ⊗ B | A ⊸ B | !A | Circ(T, U). In 01: Bit and Qubit, pair, function, reusable, circuit. 02, ticket 5:
-- "Add a unit type".
pub data Ty : Type 0 where
  wire : Wire → Ty
  unit : Ty
  ◌⊗◌ : Ty → Ty → Ty
  ◌⊸◌ : Ty → Ty → Ty
  !◌ : Ty → Ty
  Circ : Ty → Ty → Ty
  deriving Discrete as Ty_discrete

-- 01: "Wire types are Bit, Qubit and pairs of wire types" (000: the simple M-types T, U ::= α | T ⊗ U). 02, ticket 5: "Unit is
-- a wire type with no wires, and may be copied and dropped."
abbrev pub is_wire_type : Ty → Bool
is_wire_type (wire α) = true
is_wire_type unit = true
is_wire_type (A ⊗ B) = is_wire_type A && is_wire_type B
is_wire_type (A ⊸ B) = false
is_wire_type (! A) = false
is_wire_type (Circ T U) = false

-- 01: "The types that may be copied and dropped are the reusable kind and Circ". 02, ticket 2: "A pair may now be copied and
-- dropped when both halves may" (000, 2.3: the parameter types P, R ::= P ⊗ R | !A | Circ(T, U)). Ticket 5 adds unit.
abbrev pub copyable : Ty → Bool
copyable (wire α) = false
copyable unit = true
copyable (A ⊗ B) = copyable A && copyable B
copyable (A ⊸ B) = false
copyable (! A) = true
copyable (Circ T U) = true

-- The wires of a wire type, left to right (01: "one new label for each wire of T, left to right"). Other types have none.
abbrev pub wires : Ty → List Wire
wires (wire α) = α ∷ []
wires unit = []
wires (A ⊗ B) = wires A ++ wires B
wires (A ⊸ B) = []
wires (! A) = []
wires (Circ T U) = []

-- The entries of a type in preorder, as 01's type section writes it.
abbrev pub entries : Ty → ℕ
entries (wire α) = 1
entries unit = 1
entries (A ⊗ B) = 1 + (entries A + entries B)
entries (A ⊸ B) = 1 + (entries A + entries B)
entries (! A) = 1 + entries A
entries (Circ T U) = 1 + (entries T + entries U)

-- 01: "No type of a node may exceed 512 entries."
abbrev pub most_entries : ℕ
most_entries = 512

-- 01, type section: "0 Bit, 1 Qubit".
abbrev pub wire_code : Wire → ℕ
wire_code Bit = bit_kind
wire_code Qubit = qubit_kind

-- A type in preorder. 01, type section: "0 Bit, 1 Qubit (no parts); 2 pair, 3 function, 5 circuit (two parts); 4 reusable
-- (one)". 02, ticket 5: "type kind 6".
abbrev pub type_codes : Ty → List ℕ
type_codes (wire α) = wire_code α ∷ []
type_codes unit = unit_kind ∷ []
type_codes (A ⊗ B) = pair_type_kind ∷ type_codes A ++ type_codes B
type_codes (A ⊸ B) = function_kind ∷ type_codes A ++ type_codes B
type_codes (! A) = reusable_kind ∷ type_codes A
type_codes (Circ T U) = circuit_kind ∷ type_codes T ++ type_codes U
