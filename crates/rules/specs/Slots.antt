-- Slots for the wires of a gate: how many, and the number that stands in one where there is no wire (01, "Listing").
use Rattle.std.specs.Prelude.{ℕ}

-- 01: "slots for wires taken (65,535 where none)".
abbrev pub no_wire : ℕ
no_wire = 65535

-- 02, ticket 6: "Every listing entry now has three slots". No gate takes or makes more wires, and a gate in memory has as many slots.
abbrev pub gate_slot_count : ℕ
gate_slot_count = 3
