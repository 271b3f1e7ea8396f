-- What the check of a listing answers and leaves in its working memory, as functions of the listing's bytes (02, ticket 3: "Checks, in
-- order, first wherever a listing is read").
use Rattle.std.specs.Prelude.{ℕ, zero, suc, ◌+◌, ◌-◌, ◌*◌, Bool, false, not, ◌||◌, cond, List, [], ◌∷◌, eqb, ltb, length, Result, Ok, Err}
use Rattle.std.proofs.Math.Option.{Option, none, some}
use Rattle.rules.specs.Types.{Bit, Qubit}
use Rattle.rules.specs.Gates.{is_gate, wires_in}
use Rattle.rules.specs.Slots.{no_wire}
use Rattle.rules.specs.Sizes.{most_labels, most_gates}
use Rattle.lent.specs.Lent.{too_short, memory_left}
use Rattle.refusals.specs.declared.Refusal.{Refusal}
use Rattle.refusals.specs.declared.Refusal.TheVariants.{Run}
use Rattle.words.specs.Numbers.{word_at}
use Rattle.listing.specs.Listing.{input_kind, entry_slots, listing_length, most_outputs}
use Rattle.listing.specs.Reading.{input_count, gate_count, output_count, entry_count, kind_at, slots_from, inputs_of, gates_of, outputs_of}
use Rattle.wire_table.specs.Wires.{first_where, broken_at}
use Rattle.listing_check.specs.declared.ListingSizes.{ListingSizes}

-- "24 sizes beyond 01's or a wrong length".
abbrev pub sizes_wrong : List ℕ → Bool
sizes_wrong b =
    ltb (length b) 6
    || (ltb most_labels (input_count b)
    || (ltb most_gates (gate_count b)
    || (ltb most_outputs (output_count b)
    || not (eqb (length b) (listing_length (input_count b) (gate_count b) (output_count b))))))

-- May entry i have its kind? 01: "128 Bit input, 129 Qubit input, else the gate".
abbrev pub kind_allowed : List ℕ → ℕ → Bool
kind_allowed b i =
    cond (ltb i (input_count b)) (eqb (kind_at b i) (input_kind Bit) || eqb (kind_at b i) (input_kind Qubit)) (is_gate (kind_at b i))

-- How many slots entry i uses: as many as its gate takes wires, and none for an input.
abbrev pub slots_used : List ℕ → ℕ → ℕ
slots_used b i = cond (ltb i (input_count b)) 0 (wires_in (kind_at b i))

-- Is there something else than 65,535 in one of n slots from slot k on, where an entry's slots stand from a place on?
abbrev pub any_wire : List ℕ → ℕ → ℕ → ℕ → Bool
any_wire b from k zero = false
any_wire b from k (suc n) = not (eqb (word_at b (from + 2 * k)) no_wire) || any_wire b from (suc k) n

-- "25 first entry whose kind is not allowed there or whose unused slot is not 65,535".
abbrev pub entry_wrong : List ℕ → ℕ → Bool
entry_wrong b i = not (kind_allowed b i) || any_wire b (slots_from b i) (slots_used b i) (entry_slots - slots_used b i)

-- "26 a wire rule broken", else accepted: inputs, gates and outputs.
abbrev pub wires_judged : List ℕ → Option ℕ → Result ListingSizes Refusal
wires_judged b none = Ok (record { inputs = input_count b; gates = gate_count b; outputs = output_count b })
wires_judged b (some place) = Err (Run 26 place)

abbrev pub entries_judged : List ℕ → Option ℕ → Result ListingSizes Refusal
entries_judged b none = wires_judged b (broken_at (inputs_of b) (gates_of b) (outputs_of b))
entries_judged b (some entry) = Err (Run 25 entry)

-- The check of a listing whose working memory is long enough.
unfoldable pub listing_check_of : List ℕ → Result ListingSizes Refusal
listing_check_of b =
    let later = entries_judged b (first_where (entry_wrong b) 0 (entry_count b)) in cond (sizes_wrong b) (Err (Run 24 0)) later

-- Working memory: one byte for each wire that a listing may make.
abbrev pub most_wires : ℕ
most_wires = most_labels + entry_slots * most_gates

abbrev pub listing_lengths : List ℕ
listing_lengths = most_wires ∷ []

-- The answer, with the working memory that was lent. 01: "19, before all else".
unfoldable pub listing_check_answer : List ℕ → List (List ℕ) → Result ListingSizes Refusal
listing_check_answer b buffers =
    let later = listing_check_of b in cond (too_short listing_lengths buffers) (Err (Run 19 0)) later

-- Its final bytes.
abbrev pub listing_check_bytes : List (List ℕ) → List (List ℕ)
listing_check_bytes buffers = memory_left listing_lengths buffers
