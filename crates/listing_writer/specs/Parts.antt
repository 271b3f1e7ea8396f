-- The parts of a listing as they stand in memory, and are written from there piece by piece.
use Rattle.std.specs.Prelude.{ℕ, ◌+◌, ◌*◌, ◌%◌, cond, List, [], ◌∷◌, ◌++◌, eqb, get_or}
use Rattle.machine_terms.specs.Trees.{Node}
use Rattle.words.specs.Quadwords.{Quadword, quadword_at, word_in}
use Rattle.machine_circuits.specs.Layout.{gate_of, slot_of, labels_start}
use Rattle.rules.specs.Slots.{no_wire}
use Rattle.machine_circuits.specs.Tuples.{labels_passed}
use Rattle.listing.specs.Listing.{bytes_of, entry_slots}
use Rattle.listing.specs.Pieces.{pieces}

-- The kind of an input by the code of its type.
abbrev pub input_byte : ℕ → ℕ
input_byte code = cond (eqb code 0) 128 129

-- What is written for input i: its kind.
abbrev pub input_piece : List ℕ → ℕ → List ℕ
input_piece ws i = input_byte (get_or ws (labels_start + i) 0) ∷ []

-- For the gate in quadword i: its kind.
abbrev pub gate_piece : List Quadword → ℕ → List ℕ
gate_piece rs i = word_in (quadword_at rs i) 0 % 256 ∷ []

-- For a slot of the gate in a quadword.
abbrev pub slot_piece : Quadword → ℕ → List ℕ
slot_piece r slot = bytes_of (slot_of (gate_of r) slot)

-- For the gate in quadword i: its slots.
abbrev pub slots_piece : List Quadword → ℕ → List ℕ
slots_piece rs i = pieces (slot_piece (quadword_at rs i)) entry_slots

-- For a slot of an input.
abbrev pub unused_piece : ℕ → List ℕ
unused_piece i = bytes_of no_wire

-- The kinds of L inputs and of the gates in G quadwords.
abbrev pub kinds_read : List ℕ → ℕ → List Quadword → ℕ → List ℕ
kinds_read ws L rs G = pieces (input_piece ws) L ++ pieces (gate_piece rs) G

-- Their slots.
abbrev pub slots_read : ℕ → List Quadword → ℕ → List ℕ
slots_read L rs G = pieces unused_piece (L * entry_slots) ++ pieces (slots_piece rs) G

-- The labels among the first nodes.
abbrev pub outputs_read : List Node → ℕ → List ℕ
outputs_read ns size = labels_passed ns 0 size
