-- The parts of a circuit are read back from the bytes of its listing, whatever stands behind them.
use Rattle.std.specs.Prelude.{ℕ, suc, ◌+◌, ◌*◌, ◌≤◌, ◌<◌, ◌≡◌, refl}
use Rattle.std.proofs.Common.{arith, sym, ◌∙◌, ap, subst, length-append}
use Rattle.std.proofs.Math.Decide.{dec_lt}
use Rattle.std.proofs.Math.Path.{ap₂}
use mathlib.Core.List.{List, [], ◌∷◌, ◌++◌, map, flat_map, append_assoc, reverse-cons}
use Rattle.std.proofs.Math.Option.{some}
use Rattle.std.proofs.Math.ListN.{length, get_or, get_or-append}
use Rattle.std.proofs.lemmas.List.{length-map, get_or_at}
use Rattle.std.proofs.Math.Seq.{get_or-append-add}
use Rattle.rules.specs.Types.{Wire, Bit, Qubit, Ty, wires}
use Rattle.rules.specs.Gates.{◌to◌, gate_type, input_wires, wires_in, wires_out}
use Rattle.rules.specs.GateCodes.{wires_of}
use Rattle.rules.specs.Terms.{Gate, ◌on◌}
use Rattle.rules.specs.Slots.{no_wire}
use Rattle.rules.specs.Circuits.{OfTypes, wires_end, next_wire, TakesEarlier, no_gate, next_gate}
use Rattle.rules.proofs.Laws.KnownGates.{few_wires}
use Rattle.listing.specs.Listing.{bytes_of, input_kind, gate_kind, entry_slots, input_slots, gate_slots, oldest_first, sizes}
use Rattle.listing.specs.Listing.{kinds, all_slots, listing_bytes}
use Rattle.listing.proofs.Laws.Lengths.{length_flat, length_bytes, length_slots, length_gate_slots, length_kinds}
use Rattle.listing.proofs.Laws.Lengths.{length_all_slots, length_oldest}
use Rattle.words.specs.Numbers.{word_at}
use Rattle.words.specs.Numbers.{words_at}
use Rattle.listing.specs.Reading.{input_count, gate_count, output_count, entry_count, kind_at, slots_from, slot_at}
use Rattle.listing.specs.Reading.{outputs_from, input_type}
use Rattle.listing.proofs.Laws.Bytes.{word_behind, words_are, mapped_at, part_at, slot_at_lem, unused_at}

-- What stands for a gate where there is none.
abbrev pub no_gate_at : Gate
no_gate_at = 0 on []

-- Gate j of a circuit, counted from the oldest.
abbrev pub gate_at : List Gate → ℕ → Gate
gate_at gs j = get_or (oldest_first gs) j no_gate_at

-- The newest gate is the last one; the others stand where they stood without it.
pub newest_at : (g : Gate) (gs : List Gate) → gate_at (g ∷ gs) (length gs) ≡ g
newest_at g gs =
    ap (λ hs. get_or hs (length gs) no_gate_at) (reverse-cons g gs)
    ∙ get_or_at (oldest_first gs) g [] no_gate_at (length gs) (length_oldest gs)

pub older_at : (g : Gate) (gs : List Gate) (j : ℕ) → j < length gs → gate_at (g ∷ gs) j ≡ gate_at gs j
older_at g gs j below =
    ap (λ hs. get_or hs j no_gate_at) (reverse-cons g gs)
    ∙ get_or-append (oldest_first gs) (g ∷ []) no_gate_at j (omega (arith, length_oldest gs))

-- What holds of the newest gate and of the others holds of each.
pub with_newest : (P : Gate → Type 0) (g : Gate) (gs : List Gate)
    → P g
    → ((j : ℕ) → j < length gs → P (gate_at gs j))
    → (j : ℕ)
    → j < suc (length gs)
    → P (gate_at (g ∷ gs) j)
with_newest P g gs p earlier j below = of (dec_lt j (length gs))
  where
    of : Dec (j < length gs) → P (gate_at (g ∷ gs) j)
    of (yes older) = subst P (sym (older_at g gs j older)) (earlier j older)
    of (no newest) =
        let last : length gs ≡ j = omega arith in
        subst P (sym (newest_at g gs) ∙ ap (gate_at (g ∷ gs)) last) p

-- A gate that takes as many wires as its number says, and no more than an entry has slots.
abbrev pub Counted : Gate → Type 0
Counted (n on ws) = (length ws ≡ wires_in n) × (length ws ≤ entry_slots)

-- No gate of the table takes more wires than an entry has slots.
pub wires_fit : (n : ℕ) → wires_in n ≤ entry_slots
wires_fit n = (few_wires entry_slots tt n).0

pub made_fit : (n : ℕ) → wires_out n ≤ entry_slots
made_fit n = (few_wires entry_slots tt n).1

types_counted : {types : List Wire} {ws : List ℕ} {αs : List Wire} → OfTypes types ws αs → length ws ≡ length αs
types_counted wires_end = refl
types_counted (next_wire e o) = ap suc (types_counted o)

-- So does a gate that takes wires of its types, and each gate of a sound circuit.
pub one_counted : {types : List Wire} (n : ℕ) (ws : List ℕ) (T U : Ty)
    → gate_type n ≡ some (T to U)
    → OfTypes types ws (wires T)
    → Counted (n on ws)
unfolding wires_in
one_counted n ws T U e o =
    let many : length ws ≡ wires_in n = types_counted o ∙ ap (λ g. length (input_wires g)) (sym e) in
    (many, subst (λ k. k ≤ entry_slots) (sym many) (wires_fit n))

pub counted_at : {I : List Wire} (gs : List Gate) → TakesEarlier I gs → (j : ℕ) → j < length gs → Counted (gate_at gs j)
counted_at [] no_gate j below = absurd (omega arith)
counted_at ((n on ws) ∷ gs) (next_gate {T = T} {U = U} e o t) j below =
    with_newest Counted (n on ws) gs (one_counted n ws T U e o) (counted_at gs t) j below

-- The parts of a listing, and how long they are.
abbrev size_bytes : List Wire → List Gate → List ℕ → List ℕ
size_bytes I gs outs = flat_map bytes_of (sizes I gs outs)

abbrev slot_bytes : List Wire → List Gate → List ℕ
slot_bytes I gs = flat_map bytes_of (all_slots I gs)

abbrev output_bytes : List ℕ → List ℕ
output_bytes outs = flat_map bytes_of outs

size_bytes_lem : (I : List Wire) (gs : List Gate) (outs : List ℕ) → length (size_bytes I gs outs) ≡ 6
size_bytes_lem I gs outs = length_bytes (sizes I gs outs)

slot_bytes_lem : (I : List Wire) (gs : List Gate) → length (slot_bytes I gs) ≡ 2 * entry_slots * (length I + length gs)
slot_bytes_lem I gs = omega (arith, length_bytes (all_slots I gs), length_all_slots I gs)

-- The wires that a gate takes stand in its first slots.
taken_from : (g : Gate) (b : List ℕ) (from : ℕ)
    → Counted g
    → ((k : ℕ) → k < entry_slots → word_at b (from + 2 * k) ≡ get_or (gate_slots g) k 0)
    → words_at b from (wires_in (gate_kind g)) ≡ wires_of g
taken_from (n on ws) b from counted each =
    ap (words_at b from) (sym counted.0)
    ∙ words_are b from ws λ k below.
    let inside : k < entry_slots = omega (arith, counted.1) in
    each k inside ∙ slot_at_lem entry_slots ws k inside below

-- The type of an input by its kind.
type_of_kind : (α : Wire) → input_type (input_kind α) ≡ α
type_of_kind Bit = refl
type_of_kind Qubit = refl

module _ (I : List Wire) (gs : List Gate) (outs : List ℕ) (rest b : List ℕ) (same : b ≡ listing_bytes I gs outs ++ rest)
  where
    parts : b ≡ size_bytes I gs outs ++ (kinds I gs ++ (slot_bytes I gs ++ (output_bytes outs ++ rest)))
    unfolding listing_bytes
    parts = same ∙ simp append_assoc

    -- The sizes.
    size_at : (at m : ℕ) → at ≡ 2 * m → m < 3 → word_at b at ≡ get_or (sizes I gs outs) m 0
    size_at at m here below =
        ap (λ c. word_at c at) parts
        ∙ word_behind [] (sizes I gs outs) (kinds I gs ++ (slot_bytes I gs ++ (output_bytes outs ++ rest))) at m (omega arith) below

    pub inputs_are : input_count b ≡ length I
    inputs_are = size_at 0 0 refl (omega arith)

    pub gates_are : gate_count b ≡ length gs
    gates_are = size_at 2 1 refl (omega arith)

    pub outputs_are : output_count b ≡ length outs
    outputs_are = size_at 4 2 refl (omega arith)

    pub entries_are : entry_count b ≡ length I + length gs
    entries_are = ap₂ ◌+◌ inputs_are gates_are

    -- The kinds.
    kind_is : (i : ℕ) → i < length I + length gs → kind_at b i ≡ get_or (kinds I gs) i 0
    unfolding kind_at
    kind_is i below =
        let more = kinds I gs ++ (slot_bytes I gs ++ (output_bytes outs ++ rest)) in
        let here : 6 + i ≡ length (size_bytes I gs outs) + i = omega (arith, size_bytes_lem I gs outs) in
        ap₂ (λ c k. get_or c k 0) parts here
        ∙ get_or-append-add (size_bytes I gs outs) more i 0
        ∙ get_or-append (kinds I gs) (slot_bytes I gs ++ (output_bytes outs ++ rest)) 0 i (omega (arith, length_kinds I gs))

    pub input_kind_is : (i : ℕ) → i < length I → kind_at b i ≡ input_kind (get_or I i Bit)
    input_kind_is i below =
        kind_is i (omega arith)
        ∙ get_or-append (map input_kind I) (map gate_kind (oldest_first gs)) 0 i (omega (arith, length-map I input_kind))
        ∙ mapped_at input_kind Bit I i below

    pub input_is : (i : ℕ) → i < length I → input_type (kind_at b i) ≡ get_or I i Bit
    input_is i below = ap input_type (input_kind_is i below) ∙ type_of_kind (get_or I i Bit)

    pub gate_is : (j : ℕ) → j < length gs → kind_at b (input_count b + j) ≡ gate_kind (gate_at gs j)
    gate_is j below =
        let here : length I + j ≡ length (map input_kind I) + j = omega (arith, length-map I input_kind) in
        ap (λ n. kind_at b (n + j)) inputs_are
        ∙ kind_is (length I + j) (omega arith)
        ∙ ap (λ k. get_or (kinds I gs) k 0) here
        ∙ get_or-append-add (map input_kind I) (map gate_kind (oldest_first gs)) j 0
        ∙ mapped_at gate_kind no_gate_at (oldest_first gs) j (omega (arith, length_oldest gs))

    -- The slots.
    entry_slot_is : (i k : ℕ)
        → i < length I + length gs
        → k < entry_slots
        → slot_at b i k ≡ get_or (all_slots I gs) (entry_slots * i + k) 0
    entry_slot_is i k below inside =
        let before = size_bytes I gs outs ++ kinds I gs in
        let m = entry_slots * i + k in
        let long : length before ≡ 6 + (length I + length gs)
        = length-append (size_bytes I gs outs) (kinds I gs) ∙ omega (arith, size_bytes_lem I gs outs, length_kinds I gs) in
        let here : slots_from b i + 2 * k ≡ length before + 2 * m = omega (arith, long, entries_are) in
        ap (λ c. word_at c (slots_from b i + 2 * k)) (
        parts ∙ sym (append_assoc (size_bytes I gs outs) (kinds I gs) (slot_bytes I gs ++ (output_bytes outs ++ rest)))
        )
        ∙ word_behind before (all_slots I gs) (output_bytes outs ++ rest) (slots_from b i + 2 * k) m here
        (omega (arith, length_all_slots I gs))

    unused : length (flat_map input_slots I) ≡ length I * entry_slots
    unused = length_flat input_slots entry_slots I (λ α. length_slots entry_slots [])

    pub input_slot_is : (i k : ℕ) → i < length I → k < entry_slots → slot_at b i k ≡ no_wire
    input_slot_is i k below inside =
        entry_slot_is i k (omega arith) inside
        ∙ get_or-append (flat_map input_slots I) (flat_map gate_slots (oldest_first gs)) 0 (entry_slots * i + k)
        (omega (arith, unused))
        ∙ part_at input_slots entry_slots Bit I i k (λ α. length_slots entry_slots []) below inside
        ∙ unused_at entry_slots [] k (omega arith) inside

    pub slot_is : (j k : ℕ)
        → j < length gs
        → k < entry_slots
        → slot_at b (input_count b + j) k ≡ get_or (gate_slots (gate_at gs j)) k 0
    slot_is j k below inside =
        let there : entry_slots * (length I + j) + k ≡ length (flat_map input_slots I) + (entry_slots * j + k)
        = omega (arith, unused) in
        ap (λ n. slot_at b (n + j) k) inputs_are
        ∙ entry_slot_is (length I + j) k (omega arith) inside
        ∙ ap (λ n. get_or (all_slots I gs) n 0) there
        ∙ get_or-append-add (flat_map input_slots I) (flat_map gate_slots (oldest_first gs)) (entry_slots * j + k) 0
        ∙ part_at gate_slots entry_slots no_gate_at (oldest_first gs) j k length_gate_slots (omega (arith, length_oldest gs))
        inside

    -- The wires that a gate takes.
    pub taken_is : (j : ℕ)
        → j < length gs
        → Counted (gate_at gs j)
        → words_at b (slots_from b (input_count b + j)) (wires_in (kind_at b (input_count b + j))) ≡ wires_of (gate_at gs j)
    taken_is j below counted =
        ap (λ n. words_at b (slots_from b (input_count b + j)) (wires_in n)) (gate_is j below)
        ∙ taken_from (gate_at gs j) b (slots_from b (input_count b + j)) counted (λ k inside. slot_is j k below inside)

    -- The output wires.
    pub listed_are : words_at b (outputs_from b) (output_count b) ≡ outs
    listed_are =
        let before = (size_bytes I gs outs ++ kinds I gs) ++ slot_bytes I gs in
        let all : b ≡ before ++ (output_bytes outs ++ rest)
        = parts
        ∙ sym (append_assoc (size_bytes I gs outs) (kinds I gs) (slot_bytes I gs ++ (output_bytes outs ++ rest)))
        ∙ sym (append_assoc (size_bytes I gs outs ++ kinds I gs) (slot_bytes I gs) (output_bytes outs ++ rest)) in
        let long : length before ≡ 6 + (1 + 2 * entry_slots) * (length I + length gs)
        = length-append (size_bytes I gs outs ++ kinds I gs) (slot_bytes I gs)
        ∙ omega (
          arith,
          length-append (size_bytes I gs outs) (kinds I gs),
          size_bytes_lem I gs outs,
          length_kinds I gs,
          slot_bytes_lem I gs,
        ) in
        ap (words_at b (outputs_from b)) outputs_are
        ∙ words_are b (outputs_from b) outs λ m below.
        ap (λ c. word_at c (outputs_from b + 2 * m)) all
        ∙ word_behind before outs rest (outputs_from b + 2 * m) m (omega (arith, long, entries_are)) below
