-- 02, ticket 3: listings and what a check of them answers, accepted ones and one or more for each way to be refused. 01, "Listing":
-- sizes, a kind for each entry, three slots for each entry (ticket 6), outputs.
use Rattle.std.specs.Prelude.{ℕ, ◌*◌, ◌≡◌, length, take, replicate, Result, Ok, Err}
use mathlib.Core.List.{List, [], ◌∷◌, ◌++◌, map, flat_map}
use Rattle.rules.specs.Circuits.{numbers}
use Rattle.refusals.specs.declared.Refusal.{Refusal}
use Rattle.refusals.specs.declared.Refusal.TheVariants.{Run}
use Rattle.listing.specs.Listing.{bytes_of, slots, entry_slots}
use Rattle.listing_check.specs.declared.ListingSizes.{ListingSizes}
use Rattle.listing_check.specs.Answers.{listing_check_of, listing_check_answer}
use Rattle.cases.specs.BaseCases.{c1_listing, c2_listing, c3_listing, c10_listing}

-- A case: the bytes of a listing, and the answer.
pub record ListingCase : Type 0 where
  pub bytes : List ℕ
  pub answer : Result ListingSizes Refusal

-- The same as a line of a table.
abbrev pub ◌gives◌ : List ℕ → Result ListingSizes Refusal → ListingCase
b gives a = record { bytes = b; answer = a }

infix 70 ◌gives◌
-- It is accepted: inputs, gates, outputs.
abbrev pub accepted_with : ℕ → ℕ → ℕ → Result ListingSizes Refusal
accepted_with L G O = Ok (record { inputs = L; gates = G; outputs = O })

-- The case of the same bytes with the answer computed.
abbrev pub judged : ListingCase → ListingCase
judged c = c.bytes gives listing_check_of c.bytes

-- Every case of a list holds: it says what is computed.
abbrev pub ListingsHold : List ListingCase → Type 0
ListingsHold cs = map judged cs ≡ cs

-- With this working memory the check answers so in every case of a list.
abbrev pub ListingsAnswer : List ℕ → List ListingCase → Type 0
ListingsAnswer work [] = Unit {0}
ListingsAnswer work (c ∷ more) = (listing_check_answer c.bytes (work ∷ []) ≡ c.answer) × ListingsAnswer work more

-- Numbers of 16 bits one behind the other, each "low byte first".
abbrev pub words : List ℕ → List ℕ
words ns = flat_map bytes_of ns

-- The bytes of sizes (inputs, gates, outputs), kinds, what stands in the first slots of each entry, and outputs. "65,535 where none"
-- fills the other slots.
abbrev pub listed : List ℕ → List ℕ → List (List ℕ) → List ℕ → List ℕ
listed sizes kinds entries outputs =
    words sizes ++ (kinds ++ (words (flat_map (slots entry_slots) entries) ++ words outputs))

-- ACCEPTED
-- Kinds: 128 Bit, 129 Qubit, 0 H, 1 X, 5 CNOT, 6 Meas, 7 BX. Wires: the inputs from 0 on, then what each gate makes.

-- No input, no gate and no output.
abbrev pub no_entry : List ℕ
no_entry = 0 ∷ 0 ∷ 0 ∷ 0 ∷ 0 ∷ 0 ∷ []

-- BX takes 0 and 1 and makes 2 and 3, Meas takes 3 and makes 4, a Bit.
abbrev pub bits : List ℕ
bits =
    listed (2 ∷ 2 ∷ 2 ∷ [])
    (128 ∷ 129 ∷ 7 ∷ 6 ∷ [])
    ([] ∷ [] ∷ (0 ∷ 1 ∷ []) ∷ (3 ∷ []) ∷ [])
    (2 ∷ 4 ∷ [])

-- Meas takes 1 and makes 2, a Bit, which BX takes with 0.
abbrev pub measured : List ℕ
measured =
    listed (2 ∷ 2 ∷ 2 ∷ [])
    (129 ∷ 129 ∷ 6 ∷ 7 ∷ [])
    ([] ∷ [] ∷ (1 ∷ []) ∷ (2 ∷ 0 ∷ []) ∷ [])
    (3 ∷ 4 ∷ [])

-- H takes 2 and makes 3; inputs 0 and 1 pass untouched, and the outputs are crossed.
abbrev pub passing : List ℕ
passing =
    listed (3 ∷ 1 ∷ 3 ∷ [])
    (129 ∷ 128 ∷ 129 ∷ 0 ∷ [])
    ([] ∷ [] ∷ [] ∷ (2 ∷ []) ∷ [])
    (3 ∷ 1 ∷ 0 ∷ [])

-- So many inputs, Qubits that all pass.
abbrev pub many_inputs : ℕ → List ℕ
many_inputs n = listed (n ∷ 0 ∷ n ∷ []) (replicate n 129) (replicate n []) (numbers 0 n)

-- Every wire goes once: inputs, gates and outputs are answered.
abbrev pub accepted_listings : List ListingCase
accepted_listings =
    c1_listing gives accepted_with 1 0 1
    ∷ c2_listing gives accepted_with 1 1 1
    ∷ c3_listing gives accepted_with 2 1 2
    ∷ c10_listing gives accepted_with 1 2 1
    ∷ no_entry gives accepted_with 0 0 0
    ∷ bits gives accepted_with 2 2 2
    ∷ measured gives accepted_with 2 2 2
    ∷ passing gives accepted_with 3 1 3
    ∷ many_inputs 64 gives accepted_with 64 0 64
    ∷ []

-- REFUSED WITH 24
-- "sizes beyond 01's or a wrong length".

-- Sizes, and so many zeros behind them.
abbrev pub zeros_behind : ℕ → ℕ → ℕ → ℕ → List ℕ
zeros_behind inputs gates outputs n = words (inputs ∷ gates ∷ outputs ∷ []) ++ replicate n 0

-- Each length under 6; each size one more than there may be, and 256 inputs, with the length that the sizes give; a byte less and
-- a byte more.
abbrev pub wrong_sizes : List ListingCase
wrong_sizes =
    [] gives Err (Run 24 0)
    ∷ take 1 no_entry gives Err (Run 24 0)
    ∷ take 2 no_entry gives Err (Run 24 0)
    ∷ take 3 no_entry gives Err (Run 24 0)
    ∷ take 4 no_entry gives Err (Run 24 0)
    ∷ take 5 no_entry gives Err (Run 24 0)
    ∷ many_inputs 65 gives Err (Run 24 0)
    ∷ zeros_behind 0 2049 0 (7 * 2049) gives Err (Run 24 0)
    ∷ zeros_behind 0 0 257 514 gives Err (Run 24 0)
    ∷ zeros_behind 256 0 0 (7 * 256) gives Err (Run 24 0)
    ∷ take 21 c2_listing gives Err (Run 24 0)
    ∷ (c2_listing ++ (0 ∷ [])) gives Err (Run 24 0)
    ∷ (no_entry ++ (0 ∷ [])) gives Err (Run 24 0)
    ∷ zeros_behind 1 0 0 0 gives Err (Run 24 0)
    ∷ []

-- As many gates and outputs as there may be are not refused with 24: the first gate, H, has 0 in its second slot, and output 0 is
-- never made.
abbrev pub most_sizes : List ListingCase
most_sizes =
    zeros_behind 0 2048 0 (7 * 2048) gives Err (Run 25 0)
    ∷ zeros_behind 0 0 256 512 gives Err (Run 26 0)
    ∷ []

-- REFUSED WITH 25
-- "first entry whose kind is not allowed there or whose unused slot is not 65,535".

-- c2's listing with these kinds.
abbrev pub with_kinds : ℕ → ℕ → List ℕ
with_kinds input gate =
    listed (1 ∷ 1 ∷ 1 ∷ [])
    (input ∷ gate ∷ [])
    ([] ∷ (0 ∷ []) ∷ [])
    (1 ∷ [])

-- c2's listing with these slots.
abbrev pub with_slots : List ℕ → List ℕ → List ℕ
with_slots of_input of_gate =
    listed (1 ∷ 1 ∷ 1 ∷ [])
    (129 ∷ 0 ∷ [])
    (of_input ∷ of_gate ∷ [])
    (1 ∷ [])

-- Both entries wrong: a slot of the input, and the kind of the gate.
abbrev pub slot_then_kind : List ℕ
slot_then_kind =
    listed (1 ∷ 1 ∷ 1 ∷ [])
    (129 ∷ 12 ∷ [])
    ((65535 ∷ 0 ∷ []) ∷ (0 ∷ []) ∷ [])
    (1 ∷ [])

-- Both entries wrong: the kind of the input, and a slot of the gate.
abbrev pub kind_then_slot : List ℕ
kind_then_slot =
    listed (1 ∷ 1 ∷ 1 ∷ [])
    (130 ∷ 0 ∷ [])
    ([] ∷ (0 ∷ 0 ∷ []) ∷ [])
    (1 ∷ [])

-- Kinds that are not those of inputs, and not those of gates; slots that are not used; of two wrong entries the first.
abbrev pub wrong_entries : List ListingCase
wrong_entries =
    with_kinds 0 0 gives Err (Run 25 0)
    ∷ with_kinds 9 0 gives Err (Run 25 0)
    ∷ with_kinds 127 0 gives Err (Run 25 0)
    ∷ with_kinds 130 0 gives Err (Run 25 0)
    ∷ with_kinds 255 0 gives Err (Run 25 0)
    ∷ with_kinds 129 12 gives Err (Run 25 1)
    ∷ with_kinds 129 127 gives Err (Run 25 1)
    ∷ with_kinds 129 128 gives Err (Run 25 1)
    ∷ with_kinds 129 129 gives Err (Run 25 1)
    ∷ with_kinds 129 130 gives Err (Run 25 1)
    ∷ with_kinds 129 255 gives Err (Run 25 1)
    ∷ with_slots (0 ∷ []) (0 ∷ []) gives Err (Run 25 0)
    ∷ with_slots (65535 ∷ 0 ∷ []) (0 ∷ []) gives Err (Run 25 0)
    ∷ with_slots [] (0 ∷ 0 ∷ []) gives Err (Run 25 1)
    ∷ with_slots [] (0 ∷ 65534 ∷ []) gives Err (Run 25 1)
    ∷ with_slots [] (0 ∷ 255 ∷ []) gives Err (Run 25 1)
    ∷ with_slots [] (0 ∷ 65280 ∷ []) gives Err (Run 25 1)
    ∷ with_kinds 12 12 gives Err (Run 25 0)
    ∷ slot_then_kind gives Err (Run 25 0)
    ∷ kind_then_slot gives Err (Run 25 0)
    ∷ []

-- REFUSED WITH 26 AT A GATE
-- "the first gate entry that takes a wire wrongly (not made before, of another type, or gone already)".

-- CNOT takes 0 twice.
abbrev pub one_wire_twice : List ℕ
one_wire_twice =
    listed (1 ∷ 1 ∷ 2 ∷ [])
    (129 ∷ 5 ∷ [])
    ([] ∷ (0 ∷ 0 ∷ []) ∷ [])
    (1 ∷ 2 ∷ [])

-- H takes 1, the Bit that Meas makes.
abbrev pub H_on_measured : List ℕ
H_on_measured =
    listed (1 ∷ 2 ∷ 1 ∷ [])
    (129 ∷ 6 ∷ 0 ∷ [])
    ([] ∷ (0 ∷ []) ∷ (1 ∷ []) ∷ [])
    (2 ∷ [])

-- BX takes the Qubit and then the Bit.
abbrev pub exchanged : List ℕ
exchanged =
    listed (2 ∷ 1 ∷ 2 ∷ [])
    (128 ∷ 129 ∷ 7 ∷ [])
    ([] ∷ [] ∷ (1 ∷ 0 ∷ []) ∷ [])
    (2 ∷ 3 ∷ [])

-- H and X take 0.
abbrev pub taken_by_two : List ℕ
taken_by_two =
    listed (2 ∷ 2 ∷ 3 ∷ [])
    (129 ∷ 129 ∷ 0 ∷ 1 ∷ [])
    ([] ∷ [] ∷ (0 ∷ []) ∷ (0 ∷ []) ∷ [])
    (1 ∷ 2 ∷ 3 ∷ [])

-- H takes 1, which it makes itself.
abbrev pub own_output : List ℕ
own_output =
    listed (1 ∷ 1 ∷ 1 ∷ [])
    (129 ∷ 0 ∷ [])
    ([] ∷ (1 ∷ []) ∷ [])
    (0 ∷ [])

-- H takes 3, which X makes behind it.
abbrev pub later_output : List ℕ
later_output =
    listed (2 ∷ 2 ∷ 2 ∷ [])
    (129 ∷ 129 ∷ 0 ∷ 1 ∷ [])
    ([] ∷ [] ∷ (3 ∷ []) ∷ (0 ∷ []) ∷ [])
    (1 ∷ 2 ∷ [])

-- H takes this wire; 0 and 1 are the outputs.
abbrev pub H_takes : ℕ → List ℕ
H_takes w =
    listed (1 ∷ 1 ∷ 2 ∷ [])
    (129 ∷ 0 ∷ [])
    ([] ∷ (w ∷ []) ∷ [])
    (0 ∷ 1 ∷ [])

-- CNOT takes 0 and no wire.
abbrev pub half_taken : List ℕ
half_taken =
    listed (2 ∷ 1 ∷ 3 ∷ [])
    (129 ∷ 129 ∷ 5 ∷ [])
    ([] ∷ [] ∷ (0 ∷ []) ∷ [])
    (1 ∷ 2 ∷ 3 ∷ [])

-- H and X take 7, which is never made.
abbrev pub two_wrong : List ℕ
two_wrong =
    listed (1 ∷ 2 ∷ 3 ∷ [])
    (129 ∷ 0 ∷ 1 ∷ [])
    ([] ∷ (7 ∷ []) ∷ (7 ∷ []) ∷ [])
    (0 ∷ 1 ∷ 2 ∷ [])

-- But for the last, each listing has no other fault. In the second the input that H takes is a Bit; 65,535 is no wire, and 256 has
-- the low byte of 0.
abbrev pub wrong_gates : List ListingCase
wrong_gates =
    one_wire_twice gives Err (Run 26 1)
    ∷ with_kinds 128 0 gives Err (Run 26 1)
    ∷ H_on_measured gives Err (Run 26 2)
    ∷ exchanged gives Err (Run 26 2)
    ∷ taken_by_two gives Err (Run 26 3)
    ∷ own_output gives Err (Run 26 1)
    ∷ later_output gives Err (Run 26 2)
    ∷ H_takes 65535 gives Err (Run 26 1)
    ∷ H_takes 256 gives Err (Run 26 1)
    ∷ half_taken gives Err (Run 26 2)
    ∷ two_wrong gives Err (Run 26 1)
    ∷ []

-- REFUSED WITH 26 AT AN OUTPUT OR A WIRE LEFT OVER
-- "else L+G plus the number of the first wrong output, else the entry that made the lowest wire left over".

-- H takes 0 and makes 1; there are so many outputs, these.
abbrev pub H_outputs : ℕ → List ℕ → List ℕ
H_outputs n outs =
    listed (1 ∷ 1 ∷ n ∷ [])
    (129 ∷ 0 ∷ [])
    ([] ∷ (0 ∷ []) ∷ [])
    outs

-- No input, and output 0.
abbrev pub no_input : List ℕ
no_input = listed (0 ∷ 0 ∷ 1 ∷ []) [] [] (0 ∷ [])

-- One input, and no output.
abbrev pub no_output : List ℕ
no_output = listed (1 ∷ 0 ∷ 0 ∷ []) (129 ∷ []) ([] ∷ []) []

-- CNOT takes 0 and 1 and makes 2 and 3, of which one is an output.
abbrev pub CNOT_output : ℕ → List ℕ
CNOT_output w =
    listed (2 ∷ 1 ∷ 1 ∷ [])
    (129 ∷ 129 ∷ 5 ∷ [])
    ([] ∷ [] ∷ (0 ∷ 1 ∷ []) ∷ [])
    (w ∷ [])

-- CNOT takes 0 and 1 and makes 2 and 3, a second CNOT takes 3 and 2 and makes 4 and 5, of which 4 is an output.
abbrev pub second_of_second : List ℕ
second_of_second =
    listed (2 ∷ 2 ∷ 1 ∷ [])
    (129 ∷ 129 ∷ 5 ∷ 5 ∷ [])
    ([] ∷ [] ∷ (0 ∷ 1 ∷ []) ∷ (3 ∷ 2 ∷ []) ∷ [])
    (4 ∷ [])

-- H takes 0 and makes 2; 1 and 2 are left over.
abbrev pub two_left : List ℕ
two_left =
    listed (2 ∷ 1 ∷ 0 ∷ [])
    (129 ∷ 129 ∷ 0 ∷ [])
    ([] ∷ [] ∷ (0 ∷ []) ∷ [])
    []

-- CNOT takes 2 and 0 and makes 3 and 4, H takes 3 and makes 5; 1, 4 and 5 are left over.
abbrev pub three_left : List ℕ
three_left =
    listed (3 ∷ 2 ∷ 0 ∷ [])
    (129 ∷ 129 ∷ 129 ∷ 5 ∷ 0 ∷ [])
    ([] ∷ [] ∷ [] ∷ (2 ∷ 0 ∷ []) ∷ (3 ∷ []) ∷ [])
    []

-- An output twice; never made; gone to a gate; of two wrong ones the first; without any wire. Then an input left over; wires of a
-- gate, its only one, its first and its second; of several wires the lowest.
abbrev pub wrong_ends : List ListingCase
wrong_ends =
    H_outputs 2 (1 ∷ 1 ∷ []) gives Err (Run 26 3)
    ∷ H_outputs 2 (2 ∷ 1 ∷ []) gives Err (Run 26 2)
    ∷ H_outputs 2 (1 ∷ 2 ∷ []) gives Err (Run 26 3)
    ∷ H_outputs 2 (1 ∷ 65535 ∷ []) gives Err (Run 26 3)
    ∷ H_outputs 2 (0 ∷ 1 ∷ []) gives Err (Run 26 2)
    ∷ H_outputs 2 (1 ∷ 0 ∷ []) gives Err (Run 26 3)
    ∷ H_outputs 3 (1 ∷ 0 ∷ 2 ∷ []) gives Err (Run 26 3)
    ∷ no_input gives Err (Run 26 0)
    ∷ no_output gives Err (Run 26 0)
    ∷ H_outputs 0 [] gives Err (Run 26 1)
    ∷ CNOT_output 3 gives Err (Run 26 2)
    ∷ CNOT_output 2 gives Err (Run 26 2)
    ∷ second_of_second gives Err (Run 26 3)
    ∷ two_left gives Err (Run 26 1)
    ∷ three_left gives Err (Run 26 1)
    ∷ []

-- IN ORDER
-- Faults of two numbers give the lower, wherever they stand; of 26 the gate's comes first, then the output's, then the wire left
-- over.

-- H takes 7, which is never made; the kind behind it is no gate.
abbrev pub wire_then_kind : List ℕ
wire_then_kind =
    listed (1 ∷ 2 ∷ 1 ∷ [])
    (129 ∷ 0 ∷ 12 ∷ [])
    ([] ∷ (7 ∷ []) ∷ (1 ∷ []) ∷ [])
    (2 ∷ [])

-- H takes 0 and makes 2, X takes w and makes 3; v is the output, and 1 is left over.
abbrev pub one_left : ℕ → ℕ → List ℕ
one_left w v =
    listed (2 ∷ 2 ∷ 1 ∷ [])
    (129 ∷ 129 ∷ 0 ∷ 1 ∷ [])
    ([] ∷ [] ∷ (0 ∷ []) ∷ (w ∷ []) ∷ [])
    (v ∷ [])

-- 24 before 25 and before 26; 25 before 26. X takes 0, which has gone, and the output is never made; only the output is wrong; both
-- are right.
abbrev pub two_fault_listings : List ListingCase
two_fault_listings =
    (with_kinds 9 0 ++ (0 ∷ [])) gives Err (Run 24 0)
    ∷ (one_wire_twice ++ (0 ∷ [])) gives Err (Run 24 0)
    ∷ wire_then_kind gives Err (Run 25 2)
    ∷ one_left 0 9 gives Err (Run 26 3)
    ∷ one_left 2 9 gives Err (Run 26 4)
    ∷ one_left 2 3 gives Err (Run 26 1)
    ∷ []

-- INIT AND DISCARD
-- 02, ticket 5: kinds 9 and 10. Init takes no wire, Discard makes none; "A discarded wire counts as gone to a gate."

-- Init, with these slots and outputs.
abbrev pub init_with : List ℕ → List ℕ → List ℕ
init_with slots outs = listed (0 ∷ 1 ∷ length outs ∷ []) (9 ∷ []) (slots ∷ []) outs

-- An input of this kind and Discard, with these slots and outputs.
abbrev pub discard_with : ℕ → List ℕ → List ℕ → List ℕ
discard_with kind slots outs = listed (1 ∷ 1 ∷ length outs ∷ []) (kind ∷ 10 ∷ []) ([] ∷ slots ∷ []) outs

-- A helper qubit: Init makes 1, CNOT takes 0 and 1 and makes 2 and 3, Meas takes 3 and makes 4, Discard takes 4.
abbrev pub helper : List ℕ
helper =
    listed (1 ∷ 4 ∷ 1 ∷ [])
    (129 ∷ 9 ∷ 5 ∷ 6 ∷ 10 ∷ [])
    ([] ∷ [] ∷ (0 ∷ 1 ∷ []) ∷ (3 ∷ []) ∷ (4 ∷ []) ∷ [])
    (2 ∷ [])

-- Two Discards of one wire, the input.
abbrev pub discarded_twice : List ℕ
discarded_twice =
    listed (1 ∷ 2 ∷ 0 ∷ [])
    (128 ∷ 10 ∷ 10 ∷ [])
    ([] ∷ (0 ∷ []) ∷ (0 ∷ []) ∷ [])
    []

-- Accepted; a slot that is not used; a Qubit discarded; a wire discarded and put out, or discarded twice; what Init makes left
-- over.
abbrev pub init_and_discard : List ListingCase
init_and_discard =
    init_with [] (0 ∷ []) gives accepted_with 0 1 1
    ∷ discard_with 128 (0 ∷ []) [] gives accepted_with 1 1 0
    ∷ helper gives accepted_with 1 4 1
    ∷ init_with (0 ∷ []) (0 ∷ []) gives Err (Run 25 0)
    ∷ init_with (65535 ∷ 0 ∷ []) (0 ∷ []) gives Err (Run 25 0)
    ∷ discard_with 128 (0 ∷ 0 ∷ []) [] gives Err (Run 25 1)
    ∷ discard_with 129 (0 ∷ []) [] gives Err (Run 26 1)
    ∷ discard_with 128 (0 ∷ []) (0 ∷ []) gives Err (Run 26 2)
    ∷ discarded_twice gives Err (Run 26 2)
    ∷ init_with [] [] gives Err (Run 26 0)
    ∷ []

-- THREE WIRES
-- 02, ticket 6: kind 11, CCX, takes three Qubits and makes three; every entry has three slots.

-- CCX behind three inputs of these kinds, with these slots and outputs.
abbrev pub ccx_with : List ℕ → List ℕ → List ℕ → List ℕ
ccx_with inputs slots outs = listed (3 ∷ 1 ∷ length outs ∷ []) (inputs ++ (11 ∷ [])) ([] ∷ [] ∷ [] ∷ slots ∷ []) outs

abbrev pub three_qubits : List ℕ
three_qubits = 129 ∷ 129 ∷ 129 ∷ []

-- The same of Qubits, with all outputs.
abbrev pub ccx_takes : ℕ → ℕ → ℕ → List ℕ
ccx_takes first second third = ccx_with three_qubits (first ∷ second ∷ third ∷ []) (3 ∷ 4 ∷ 5 ∷ [])

-- CNOT takes 0 and 1, and 2 stands in its third slot.
abbrev pub cnot_of_three : List ℕ
cnot_of_three =
    listed (3 ∷ 1 ∷ 3 ∷ [])
    (129 ∷ 129 ∷ 129 ∷ 5 ∷ [])
    ([] ∷ [] ∷ [] ∷ (0 ∷ 1 ∷ 2 ∷ []) ∷ [])
    (3 ∷ 4 ∷ 2 ∷ [])

-- The kind behind the last gate's.
abbrev pub no_gate : List ℕ
no_gate =
    listed (3 ∷ 1 ∷ 3 ∷ [])
    (129 ∷ 129 ∷ 129 ∷ 12 ∷ [])
    ([] ∷ [] ∷ [] ∷ (0 ∷ 1 ∷ 2 ∷ []) ∷ [])
    (3 ∷ 4 ∷ 5 ∷ [])

-- Accepted; no wire in each slot; one wire in two slots; its own output; a Bit in each slot; of what it makes the last left over, and
-- an output that has gone to it; a third slot that is not used, of H, of CNOT, of an input, of Discard and of Init; no gate.
abbrev pub three_wires : List ListingCase
three_wires =
    ccx_takes 0 1 2 gives accepted_with 3 1 3
    ∷ ccx_takes 2 0 1 gives accepted_with 3 1 3
    ∷ ccx_takes 65535 1 2 gives Err (Run 26 3)
    ∷ ccx_takes 0 65535 2 gives Err (Run 26 3)
    ∷ ccx_takes 0 1 65535 gives Err (Run 26 3)
    ∷ ccx_takes 0 1 1 gives Err (Run 26 3)
    ∷ ccx_takes 0 1 0 gives Err (Run 26 3)
    ∷ ccx_takes 0 0 2 gives Err (Run 26 3)
    ∷ ccx_takes 0 1 3 gives Err (Run 26 3)
    ∷ ccx_with (128 ∷ 129 ∷ 129 ∷ []) (0 ∷ 1 ∷ 2 ∷ []) (3 ∷ 4 ∷ 5 ∷ []) gives Err (Run 26 3)
    ∷ ccx_with (129 ∷ 128 ∷ 129 ∷ []) (0 ∷ 1 ∷ 2 ∷ []) (3 ∷ 4 ∷ 5 ∷ []) gives Err (Run 26 3)
    ∷ ccx_with (129 ∷ 129 ∷ 128 ∷ []) (0 ∷ 1 ∷ 2 ∷ []) (3 ∷ 4 ∷ 5 ∷ []) gives Err (Run 26 3)
    ∷ ccx_with three_qubits (0 ∷ 1 ∷ 2 ∷ []) (3 ∷ 4 ∷ []) gives Err (Run 26 3)
    ∷ ccx_with three_qubits (0 ∷ 1 ∷ 2 ∷ []) (3 ∷ 4 ∷ 2 ∷ []) gives Err (Run 26 6)
    ∷ with_slots [] (0 ∷ 65535 ∷ 0 ∷ []) gives Err (Run 25 1)
    ∷ cnot_of_three gives Err (Run 25 3)
    ∷ with_slots (65535 ∷ 65535 ∷ 0 ∷ []) (0 ∷ []) gives Err (Run 25 0)
    ∷ discard_with 128 (0 ∷ 65535 ∷ 0 ∷ []) [] gives Err (Run 25 1)
    ∷ init_with (65535 ∷ 65535 ∷ 0 ∷ []) (0 ∷ []) gives Err (Run 25 0)
    ∷ no_gate gives Err (Run 25 3)
    ∷ []

-- All of them.
abbrev pub listing_cases : List ListingCase
listing_cases =
    accepted_listings
    ++ (wrong_sizes
    ++ (most_sizes ++ (wrong_entries ++ (wrong_gates ++ (wrong_ends ++ (two_fault_listings ++ (init_and_discard ++ three_wires)))))))
