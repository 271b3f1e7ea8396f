-- Laws of types in preorder.
use Rattle.std.specs.Prelude.{◌<◌, ◌≡◌, refl, length}
use Rattle.std.proofs.Common.{arith, length-append}
use Rattle.rules.specs.Types.{Wire, Bit, Qubit, Ty, wire, ◌⊗◌, ◌⊸◌, !◌, Circ, entries, wire_code, type_codes, unit}

-- The codes of a type are as many as its entries.
pub type_codes_entries : (A : Ty) → length (type_codes A) ≡ entries A
type_codes_entries (wire α) = refl
type_codes_entries unit = refl
type_codes_entries (A ⊗ B) = rw (length-append, type_codes_entries A, type_codes_entries B) (omega arith)
type_codes_entries (A ⊸ B) = rw (length-append, type_codes_entries A, type_codes_entries B) (omega arith)
type_codes_entries (! A) = rw (type_codes_entries A) (omega arith)
type_codes_entries (Circ T U) = rw (length-append, type_codes_entries T, type_codes_entries U) (omega arith)

-- A type has at least one entry.
pub entries_positive : (A : Ty) → 0 < entries A
entries_positive (wire α) = omega arith
entries_positive unit = omega arith
entries_positive (A ⊗ B) = omega arith
entries_positive (A ⊸ B) = omega arith
entries_positive (! A) = omega arith
entries_positive (Circ T U) = omega arith

-- The codes of wires are the two least, each of its own wire.
pub wire_kind : (α : Wire) → wire_code α < 2
wire_kind Bit = omega arith
wire_kind Qubit = omega arith

pub same_wire : (α β : Wire) → wire_code α ≡ wire_code β → α ≡ β
same_wire Bit Bit e = refl
same_wire Bit Qubit e = absurd (omega arith)
same_wire Qubit Bit e = absurd (omega arith)
same_wire Qubit Qubit e = refl
