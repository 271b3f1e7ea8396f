-- The listing of a circuit with its outputs (01, "Listing").
use Rattle.std.specs.Prelude.{ℕ, zero, suc, ◌+◌, ◌*◌, ◌/◌, ◌%◌, length}
use mathlib.Core.List.{List, [], ◌∷◌, ◌++◌, map, flat_map, reverse}
use Rattle.rules.specs.Types.{Wire, Bit, Qubit}
use Rattle.rules.specs.Terms.{Tuple, labels, Gate, ◌on◌}
use Rattle.rules.specs.Circuits.{Circuit, circuit}
use Rattle.rules.specs.Slots.{no_wire, gate_slot_count}
use Rattle.rules.specs.Sizes.{most_labels, most_gates}

-- 16 bits, "low byte first".
abbrev pub bytes_of : ℕ → List ℕ
bytes_of n = n % 256 ∷ n / 256 ∷ []

-- "128 Bit input, 129 Qubit input".
abbrev pub input_kind : Wire → ℕ
input_kind Bit = 128
input_kind Qubit = 129

-- "else the gate".
abbrev pub gate_kind : Gate → ℕ
gate_kind (n on ws) = n

-- 02, ticket 6: "Every listing entry now has three slots".
abbrev pub entry_slots : ℕ
entry_slots = gate_slot_count

-- "slots for wires taken (65,535 where none)": so many slots, with wires in their order.
abbrev pub slots : ℕ → List ℕ → List ℕ
slots zero ws = []
slots (suc k) [] = no_wire ∷ slots k []
slots (suc k) (w ∷ ws) = w ∷ slots k ws

-- An input takes no wire.
abbrev pub input_slots : Wire → List ℕ
input_slots α = slots entry_slots []

-- A gate takes its wires.
abbrev pub gate_slots : Gate → List ℕ
gate_slots (n on ws) = slots entry_slots ws

-- The gates as they are listed, the oldest first. Circuits have the newest first.
abbrev pub oldest_first : List Gate → List Gate
oldest_first gs = reverse gs

-- "Sizes first, 16-bit: L, gates G, outputs O".
abbrev pub sizes : List Wire → List Gate → List ℕ → List ℕ
sizes I gs outs = length I ∷ length gs ∷ length outs ∷ []

-- "Then L+G kind bytes": the inputs, then the gates.
abbrev pub kinds : List Wire → List Gate → List ℕ
kinds I gs = map input_kind I ++ map gate_kind (oldest_first gs)

-- "L+G pairs of 16-bit slots", where 02's ticket 6 has three for a pair.
abbrev pub all_slots : List Wire → List Gate → List ℕ
all_slots I gs = flat_map input_slots I ++ flat_map gate_slots (oldest_first gs)

-- The whole listing of inputs, gates and output wires; at its end "the O output wires, left to right, 16 bits each". It is of wires
-- and not of a tuple: of a listing that was made elsewhere (02, ticket 3) no type says how its outputs are paired.
unfoldable pub listing_bytes : List Wire → List Gate → List ℕ → List ℕ
listing_bytes I gs outs =
    flat_map bytes_of (sizes I gs outs)
    ++ (kinds I gs ++ (flat_map bytes_of (all_slots I gs) ++ flat_map bytes_of outs))

-- The listing of a circuit with its result: the outputs are the labels of the tuple.
abbrev pub listing : Circuit → Tuple → List ℕ
listing (circuit I gs) r = listing_bytes I gs (labels r)

-- 02, ticket 6: "the length is 6 + 7(L+G) + 2O".
abbrev pub listing_length : ℕ → ℕ → ℕ → ℕ
listing_length L G O = 6 + (1 + 2 * entry_slots) * (L + G) + 2 * O

-- "outputs O (at most 256)".
abbrev pub most_outputs : ℕ
most_outputs = 256

-- "at most 15,302".
abbrev pub most_bytes : ℕ
most_bytes = listing_length most_labels most_gates most_outputs
