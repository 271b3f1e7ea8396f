-- What the bytes of a listing say, read at the places that its sizes give. Past the end of the bytes stands 0.
use Rattle.std.specs.Prelude.{ℕ, zero, suc, ◌+◌, ◌*◌, cond, List, [], ◌∷◌, eqb, get_or}
use Rattle.rules.specs.Types.{Wire, Bit, Qubit}
use Rattle.rules.specs.Gates.{wires_in}
use Rattle.rules.specs.Terms.{Gate, ◌on◌}
use Rattle.listing.specs.Listing.{input_kind, entry_slots}
use Rattle.words.specs.Numbers.{word_at, words_at}

-- "Sizes first, 16-bit: L, gates G, outputs O".
abbrev pub input_count : List ℕ → ℕ
input_count b = word_at b 0

abbrev pub gate_count : List ℕ → ℕ
gate_count b = word_at b 2

abbrev pub output_count : List ℕ → ℕ
output_count b = word_at b 4

abbrev pub entry_count : List ℕ → ℕ
entry_count b = input_count b + gate_count b

-- "Then L+G kind bytes".
unfoldable pub kind_at : List ℕ → ℕ → ℕ
kind_at b i = get_or b (6 + i) 0

-- Where the slots of entry i stand, and where the output wires.
abbrev pub slots_from : List ℕ → ℕ → ℕ
slots_from b i = 6 + entry_count b + 2 * entry_slots * i

abbrev pub outputs_from : List ℕ → ℕ
outputs_from b = 6 + (1 + 2 * entry_slots) * entry_count b

-- The wire in slot k of entry i.
abbrev pub slot_at : List ℕ → ℕ → ℕ → ℕ
slot_at b i k = word_at b (slots_from b i + 2 * k)

-- "128 Bit input, 129 Qubit input".
abbrev pub input_type : ℕ → Wire
input_type kind = cond (eqb kind (input_kind Bit)) Bit Qubit

-- So many inputs from entry i on; all of them.
abbrev pub inputs_from : List ℕ → ℕ → ℕ → List Wire
inputs_from b i zero = []
inputs_from b i (suc k) = input_type (kind_at b i) ∷ inputs_from b (suc i) k

abbrev pub inputs_of : List ℕ → List Wire
inputs_of b = inputs_from b 0 (input_count b)

-- The gate of entry i: its number, and the wires in as many slots as this gate takes wires.
abbrev pub gate_of_entry : List ℕ → ℕ → Gate
gate_of_entry b i = kind_at b i on words_at b (slots_from b i) (wires_in (kind_at b i))

-- The first gates, the newest first, as circuits have them; all of them.
abbrev pub first_gates : List ℕ → ℕ → List Gate
first_gates b zero = []
first_gates b (suc j) = gate_of_entry b (input_count b + j) ∷ first_gates b j

abbrev pub gates_of : List ℕ → List Gate
gates_of b = first_gates b (gate_count b)

-- "then the O output wires".
abbrev pub outputs_of : List ℕ → List ℕ
outputs_of b = words_at b (outputs_from b) (output_count b)
