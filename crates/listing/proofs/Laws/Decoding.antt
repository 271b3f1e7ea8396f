-- Bytes in the form of a listing are the listing of what is read from them, and a listing is read back as its parts.
use Prim.Native.Nat.{ℕ, zero, suc, ◌+◌, ◌*◌, ◌/◌, ◌%◌, ◌≤◌, ◌<◌}
use native.Mathlib.Omega.{arith}
use Rattle.std.specs.Prelude.{◌≡◌, refl, ◌⊎◌, T as Truth, length, get_or}
use Rattle.std.proofs.Common.{sym, ◌∙◌, ap₂, inl, inr, drop-cons}
use Rattle.std.proofs.Math.Path.{ap, subst}
use mathlib.Core.List.{List, [], ◌∷◌, ◌++◌, map, flat_map, append_assoc, append-nil, reverse-cons}
use Rattle.std.proofs.Math.ListN.{drop}
use Rattle.std.proofs.Math.Seq.{drop-length}
use Rattle.rules.specs.Types.{Wire, Bit, Qubit}
use Rattle.rules.specs.Gates.{is_gate, wires_in}
use Rattle.rules.specs.GateCodes.{wires_of}
use Rattle.rules.specs.Terms.{Gate, ◌on◌}
use Rattle.rules.specs.Slots.{no_wire}
use Rattle.rules.proofs.Laws.KnownGates.{KnownGates}
use Rattle.words.specs.Numbers.{word_at, words_at}
use Rattle.listing.specs.Listing.{bytes_of, input_kind, gate_kind, entry_slots, slots, input_slots, gate_slots, oldest_first}
use Rattle.listing.specs.Listing.{sizes, kinds, all_slots, listing_bytes, listing_length}
use Rattle.listing.specs.Reading.{input_count, gate_count, output_count, entry_count, kind_at, slots_from, outputs_from}
use Rattle.listing.specs.Reading.{slot_at, input_type, inputs_from, inputs_of, gate_of_entry, first_gates, gates_of, outputs_of}
use Rattle.listing.proofs.Laws.Lengths.{length_listing}
use Rattle.listing.proofs.Laws.Pieces.{flat_append}
use Rattle.listing.proofs.Laws.Bytes.{unused_at}
use Rattle.listing.proofs.Laws.ReadBack.{gate_at, newest_at, older_at, with_newest, Counted, wires_fit}
use Rattle.listing.proofs.Laws.ReadBack.{inputs_are, gates_are, outputs_are}
use Rattle.listing.proofs.Laws.ReadBack.{input_kind_is, input_is, gate_is, input_slot_is, slot_is, taken_is, listed_are}

-- The bytes have the form of a listing: as many as the sizes say, each kind that of an input or a gate, and no wire in the slots
-- of an input and in those that a gate does not take.
pub record InForm (b : List ℕ) : Type 0 where
  pub whole : length b ≡ listing_length (input_count b) (gate_count b) (output_count b)
  pub input_kinds : (i : ℕ) → i < input_count b → (kind_at b i ≡ input_kind Bit) ⊎ (kind_at b i ≡ input_kind Qubit)
  pub input_slots_lem : (i k : ℕ) → i < input_count b → k < entry_slots → slot_at b i k ≡ no_wire
  pub gate_kinds : (j : ℕ) → j < gate_count b → Truth (is_gate (kind_at b (input_count b + j)))
  pub unused_slots : (j k : ℕ)
      → j < gate_count b
      → wires_in (kind_at b (input_count b + j)) ≤ k
      → k < entry_slots
      → slot_at b (input_count b + j) k ≡ no_wire

-- As many are read as were asked for.
pub length_words : (b : List ℕ) (from k : ℕ) → length (words_at b from k) ≡ k
length_words b from zero = refl
length_words b from (suc k) = ap suc (length_words b (from + 2) k)

pub length_inputs : (b : List ℕ) (i k : ℕ) → length (inputs_from b i k) ≡ k
length_inputs b i zero = refl
length_inputs b i (suc k) = ap suc (length_inputs b (suc i) k)

pub length_first : (b : List ℕ) (j : ℕ) → length (first_gates b j) ≡ j
length_first b zero = refl
length_first b (suc j) = ap suc (length_first b j)

-- The gates that are read from bytes in form are known.
pub first_known : (b : List ℕ) → InForm b → (j : ℕ) → j ≤ gate_count b → KnownGates (first_gates b j)
first_known b form zero few = tt
first_known b form (suc j) few =
    let i = input_count b + j in (
      form.gate_kinds j (omega arith),
      length_words b (slots_from b i) (wires_in (kind_at b i)),
      first_known b form j (omega arith),
    )

pub gates_are_known : (b : List ℕ) → InForm b → KnownGates (gates_of b)
gates_are_known b form = first_known b form (gate_count b) (omega arith)

-- These bytes stand between two places.
abbrev Between : List ℕ → ℕ → ℕ → List ℕ → Type 0
Between b from to xs = drop from b ≡ xs ++ drop to b

none_between : (b : List ℕ) (from to : ℕ) → from ≡ to → Between b from to []
none_between b from to e = ap (λ k. drop k b) e

one_between : (b : List ℕ) (from to : ℕ) → to ≡ suc from → from < length b → Between b from to (get_or b from 0 ∷ [])
one_between b from to e below = drop-cons b from 0 below ∙ ap (λ k. get_or b from 0 ∷ drop k b) (sym e)

joined : (b : List ℕ) (from to end : ℕ) (xs ys : List ℕ)
    → Between b from to xs
    → Between b to end ys
    → Between b from end (xs ++ ys)
joined b from to end xs ys e e' = e ∙ ap (λ l. xs ++ l) e' ∙ sym (append_assoc xs ys (drop end b))

-- The bytes of a number that is read from two bytes are these.
bytes_of_word : (x y : ℕ) → x < 256 → bytes_of (x + 256 * y) ≡ x ∷ y ∷ []
bytes_of_word x y below =
    let low : (x + 256 * y) % 256 ≡ x = omega arith in
    let high : (x + 256 * y) / 256 ≡ y = omega arith in
    ap₂ (λ l h. l ∷ h ∷ []) low high

-- Words are read from their bytes.
words_between : (b : List ℕ)
    → ((i : ℕ) → get_or b i 0 < 256)
    → (k from to : ℕ)
    → to ≡ from + 2 * k
    → to ≤ length b
    → Between b from to (flat_map bytes_of (words_at b from k))
unfolding flat_map word_at
words_between b small zero from to e inside = none_between b from to (omega arith)
words_between b small (suc k) from to e inside =
    let next : suc from ≡ from + 1 = omega arith in
    let both : Between b from (from + 2) (bytes_of (get_or b from 0 + 256 * get_or b (from + 1) 0))
    = subst
    (Between b from (from + 2))
    (sym (bytes_of_word (get_or b from 0) (get_or b (from + 1) 0) (small from)))
    (joined b from (suc from) (from + 2) (get_or b from 0 ∷ []) (get_or b (from + 1) 0 ∷ [])
    (one_between b from (suc from) refl (omega arith))
    (ap (λ n. drop n b) next ∙ one_between b (from + 1) (from + 2) (omega arith) (omega arith)))
    in
    joined b from (from + 2) to (bytes_of (get_or b from 0 + 256 * get_or b (from + 1) 0))
    (flat_map bytes_of (words_at b (from + 2) k))
    both
    (words_between b small k (from + 2) to (omega arith) inside)

-- The wires that are read fill the slots where the others have none.
slots_are : (k n : ℕ) (b : List ℕ) (from : ℕ)
    → n ≤ k
    → ((m : ℕ) → n ≤ m → m < k → word_at b (from + 2 * m) ≡ no_wire)
    → slots k (words_at b from n) ≡ words_at b from k
slots_are zero n b from few each = refl
slots_are (suc k) zero b from few each =
    let e : from ≡ from + 2 * 0 = omega arith in
    ap₂
    (λ x xs. x ∷ xs)
    (sym (each 0 (omega arith) (omega arith)) ∙ ap (word_at b) (sym e))
    (slots_are k zero b (from + 2) (omega arith) (λ m least below.
    let e' : from + 2 + 2 * m ≡ from + 2 * suc m = omega arith in
    ap (word_at b) e' ∙ each (suc m) (omega arith) (omega arith)))
slots_are (suc k) (suc n) b from few each =
    ap (λ xs. word_at b from ∷ xs) (slots_are k n b (from + 2) (omega arith) (λ m least below.
    let e' : from + 2 + 2 * m ≡ from + 2 * suc m = omega arith in
    ap (word_at b) e' ∙ each (suc m) (omega arith) (omega arith)))

-- Parts of equal length, one for each input that is read, and one for each gate.
module _ (b : List ℕ) (from n : ℕ) where
  inputs_between : (f : Wire → List ℕ) (all : ℕ)
      → ((i : ℕ) → i < all → Between b (from + n * i) (from + n * suc i) (f (input_type (kind_at b i))))
      → (k i : ℕ)
      → i + k ≤ all
      → Between b (from + n * i) (from + n * (i + k)) (flat_map f (inputs_from b i k))
  unfolding flat_map
  inputs_between f all each zero i few = none_between b (from + n * i) (from + n * (i + 0)) (omega arith)
  inputs_between f all each (suc k) i few =
      let e : suc i + k ≡ i + suc k = omega arith in
      joined b (from + n * i) (from + n * suc i) (from + n * (i + suc k)) (f (input_type (kind_at b i)))
      (flat_map f (inputs_from b (suc i) k))
      (each i (omega arith))
      (inputs_between f all each k (suc i) (omega arith)
      ∙ ap (λ m. flat_map f (inputs_from b (suc i) k) ++ drop (from + n * m) b) e)

  gates_between : (f : Gate → List ℕ) (all : ℕ)
      → ((j : ℕ) → j < all → Between b (from + n * j) (from + n * suc j) (f (gate_of_entry b (input_count b + j))))
      → (j : ℕ)
      → j ≤ all
      → Between b from (from + n * j) (flat_map f (oldest_first (first_gates b j)))
  unfolding flat_map
  gates_between f all each zero few = none_between b from (from + n * 0) (omega arith)
  gates_between f all each (suc j) few =
      let g = gate_of_entry b (input_count b + j) in
      let gs = first_gates b j in
      let last : flat_map f (oldest_first (g ∷ gs)) ≡ flat_map f (oldest_first gs) ++ f g
      = ap (flat_map f) (reverse-cons g gs)
      ∙ flat_append f (oldest_first gs) (g ∷ [])
      ∙ ap (λ l. flat_map f (oldest_first gs) ++ l) (append-nil (f g)) in
      subst
      (Between b from (from + n * suc j))
      (sym last)
      (joined b from (from + n * j) (from + n * suc j) (flat_map f (oldest_first gs)) (f g)
      (gates_between f all each j (omega arith))
      (each j (omega arith)))

-- A list of one number for each element, and parts that are made of parts.
map_flat : {A : Type 0} (f : A → ℕ) (xs : List A) → flat_map (λ x. f x ∷ []) xs ≡ map f xs
unfolding flat_map
map_flat f [] = refl
map_flat f (x ∷ xs) = ap (λ l. f x ∷ l) (map_flat f xs)

flat_flat : {A : Type 0} (g : ℕ → List ℕ) (f : A → List ℕ) (xs : List A)
    → flat_map (λ x. flat_map g (f x)) xs ≡ flat_map g (flat_map f xs)
unfolding flat_map
flat_flat g f [] = refl
flat_flat g f (x ∷ xs) = ap (λ l. flat_map g (f x) ++ l) (flat_flat g f xs) ∙ sym (flat_append g (f x) (flat_map f xs))

-- The kind of an input by its type.
kind_of_type : (kind : ℕ) → (kind ≡ input_kind Bit) ⊎ (kind ≡ input_kind Qubit) → input_kind (input_type kind) ≡ kind
kind_of_type kind (inl e) = ap (λ k. input_kind (input_type k)) e ∙ sym e
kind_of_type kind (inr e) = ap (λ k. input_kind (input_type k)) e ∙ sym e

-- The sizes, the kinds and the slots of bytes in form are those of what is read from them.
module _ (b : List ℕ) (small : (i : ℕ) → get_or b i 0 < 256) (form : InForm b) where
  sizes_between : Between b 0 6 (flat_map bytes_of (sizes (inputs_of b) (gates_of b) (outputs_of b)))
  sizes_between =
      let e : words_at b 0 3 ≡ sizes (inputs_of b) (gates_of b) (outputs_of b)
      = sym (
      ap₂
      (λ l m. l ∷ m ∷ length (outputs_of b) ∷ [])
      (length_inputs b 0 (input_count b))
      (length_first b (gate_count b))
      ∙ ap (λ m. input_count b ∷ gate_count b ∷ m ∷ []) (length_words b (outputs_from b) (output_count b))
      ) in
      subst (λ l. Between b 0 6 (flat_map bytes_of l)) e
      (words_between b small 3 0 6 (omega arith) (omega (arith, form.whole)))

  kind_between : (i to : ℕ) → to ≡ 6 + suc i → i < entry_count b → Between b (6 + i) to (kind_at b i ∷ [])
  unfolding kind_at
  kind_between i to e below = one_between b (6 + i) to (omega arith) (omega (arith, form.whole))

  kinds_between : Between b 6 (6 + entry_count b) (kinds (inputs_of b) (gates_of b))
  kinds_between =
      let L = input_count b in
      let G = gate_count b in
      let inputs : Between b (6 + 1 * 0) (6 + 1 * (0 + L)) (flat_map (λ α. input_kind α ∷ []) (inputs_of b))
      = inputs_between b 6 1 (λ α. input_kind α ∷ []) L (λ i below.
      let here : 6 + i ≡ 6 + 1 * i = omega arith in
      subst
      (λ k. Between b (6 + 1 * i) (6 + 1 * suc i) (k ∷ []))
      (sym (kind_of_type (kind_at b i) (form.input_kinds i below)))
      (subst
      (λ m. Between b m (6 + 1 * suc i) (kind_at b i ∷ []))
      here
      (kind_between i (6 + 1 * suc i) (omega arith) (omega arith)))) L 0 (omega arith) in
      let gates : Between b (6 + L) (6 + L + 1 * G) (flat_map (λ g. gate_kind g ∷ []) (oldest_first (gates_of b)))
      = gates_between b (6 + L) 1 (λ g. gate_kind g ∷ []) G (λ j below.
      let here : 6 + (L + j) ≡ 6 + L + 1 * j = omega arith in
      subst
      (λ m. Between b m (6 + L + 1 * suc j) (kind_at b (L + j) ∷ []))
      here
      (kind_between (L + j) (6 + L + 1 * suc j) (omega arith) (omega arith))) G (omega arith) in
      let middle : 6 + 1 * (0 + L) ≡ 6 + L = omega arith in
      let end : 6 + L + 1 * G ≡ 6 + (L + G) = omega arith in
      joined b 6 (6 + L) (6 + (L + G)) (map input_kind (inputs_of b)) (map gate_kind (oldest_first (gates_of b)))
      (inputs ∙ ap₂ (λ xs m. xs ++ drop m b) (map_flat input_kind (inputs_of b)) middle)
      (gates ∙ ap₂ (λ xs m. xs ++ drop m b) (map_flat gate_kind (oldest_first (gates_of b))) end)

  -- The slots of an entry.
  entry_between : (i to : ℕ) (ws : List ℕ)
      → to ≡ slots_from b i + 2 * entry_slots
      → i < entry_count b
      → ws ≡ words_at b (slots_from b i) entry_slots
      → Between b (slots_from b i) to (flat_map bytes_of ws)
  entry_between i to ws e below same =
      subst (λ l. Between b (slots_from b i) to (flat_map bytes_of l)) (sym same)
      (words_between b small entry_slots (slots_from b i) to e (omega (arith, form.whole)))

  slots_between : Between b (6 + entry_count b) (outputs_from b) (flat_map bytes_of (all_slots (inputs_of b) (gates_of b)))
  slots_between =
      let L = input_count b in
      let G = gate_count b in
      let E = 6 + entry_count b in
      let w = 2 * entry_slots in
      let inputs : Between b (E + w * 0) (E + w * (0 + L)) (flat_map (λ α. flat_map bytes_of (input_slots α)) (inputs_of b))
      = inputs_between b E w (λ α. flat_map bytes_of (input_slots α)) L (λ i below.
      entry_between i (E + w * suc i) (slots entry_slots []) (omega arith) (omega arith)
      (slots_are entry_slots 0 b (slots_from b i) (omega arith) (λ k least inside. form.input_slots_lem i k below inside))) L 0
      (omega arith) in
      let taken : Gate → List ℕ = λ g. flat_map bytes_of (gate_slots g) in
      let gates : Between b (E + w * L) (E + w * L + w * G) (flat_map taken (oldest_first (gates_of b)))
      = gates_between b (E + w * L) w taken G (λ j below.
      let here : slots_from b (L + j) ≡ E + w * L + w * j = omega arith in
      let n = wires_in (kind_at b (L + j)) in
      subst
      (λ m. Between b m (E + w * L + w * suc j) (flat_map bytes_of (gate_slots (gate_of_entry b (L + j)))))
      here
      (entry_between (L + j) (E + w * L + w * suc j) (gate_slots (gate_of_entry b (L + j))) (omega arith) (omega arith)
      (slots_are entry_slots n b (slots_from b (L + j)) (wires_fit (kind_at b (L + j)))
      (λ k least inside. form.unused_slots j k below least inside)))) G (omega arith) in
      let middle : E + w * (0 + L) ≡ E + w * L = omega arith in
      let start : 6 + entry_count b ≡ E + w * 0 = omega arith in
      let end : E + w * L + w * G ≡ outputs_from b = omega arith in
      let xs = flat_map input_slots (inputs_of b) in
      let ys = flat_map gate_slots (oldest_first (gates_of b)) in
      subst (Between b E (outputs_from b)) (sym (flat_append bytes_of xs ys))
      (joined b E (E + w * L) (outputs_from b) (flat_map bytes_of xs) (flat_map bytes_of ys)
      (ap (λ m. drop m b) start ∙ inputs ∙ ap₂ (λ l m. l ++ drop m b) (flat_flat bytes_of input_slots (inputs_of b)) middle)
      (gates ∙ ap₂ (λ l m. l ++ drop m b) (flat_flat bytes_of gate_slots (oldest_first (gates_of b))) end))

  -- Bytes in the form of a listing are the listing of what is read from them.
  pub decoded : b ≡ listing_bytes (inputs_of b) (gates_of b) (outputs_of b)
  unfolding listing_bytes
  decoded =
      let I = inputs_of b in
      let gs = gates_of b in
      let outs = outputs_of b in
      let S = flat_map bytes_of (sizes I gs outs) in
      let K = kinds I gs in
      let E = flat_map bytes_of (all_slots I gs) in
      let O = flat_map bytes_of outs in
      let outputs : Between b (outputs_from b) (length b) O
      = words_between b small (output_count b) (outputs_from b) (length b) (omega (arith, form.whole)) (omega arith) in
      let all : Between b 0 (length b) (S ++ (K ++ (E ++ O)))
      = joined b 0 6 (length b) S (K ++ (E ++ O)) sizes_between
      (joined b 6 (6 + entry_count b) (length b) K (E ++ O) kinds_between
      (joined b (6 + entry_count b) (outputs_from b) (length b) E O slots_between outputs)) in
      all ∙ ap (λ l. (S ++ (K ++ (E ++ O))) ++ l) (drop-length b) ∙ append-nil (S ++ (K ++ (E ++ O)))

-- A known gate.
abbrev pub Known : Gate → Type 0
Known (n on ws) = Truth (is_gate n) × (length ws ≡ wires_in n)

-- Each of known gates is known.
pub known_at : (gs : List Gate) → KnownGates gs → (j : ℕ) → j < length gs → Known (gate_at gs j)
known_at [] known j below = absurd (omega arith)
known_at ((n on ws) ∷ gs) known j below =
    with_newest Known (n on ws) gs (known.0, known.1) (known_at gs known.2) j below

-- A known gate takes no more wires than an entry has slots, and the slots behind its wires have none.
known_counted : (g : Gate) → Known g → Counted g
known_counted (n on ws) known = (known.1, subst (λ k. k ≤ entry_slots) (sym known.1) (wires_fit n))

known_kind : (g : Gate) → Known g → Truth (is_gate (gate_kind g))
known_kind (n on ws) known = known.0

known_unused : (g : Gate) (k : ℕ) → Known g → wires_in (gate_kind g) ≤ k → k < entry_slots → get_or (gate_slots g) k 0 ≡ no_wire
known_unused (n on ws) k known least inside = unused_at entry_slots ws k (omega (arith, known.1)) inside

-- A gate is its number on its wires.
gate_of_parts : (g : Gate) → (gate_kind g on wires_of g) ≡ g
gate_of_parts (n on ws) = refl

-- The kind of an input is one of the two.
input_kind_known : (α : Wire) → (input_kind α ≡ input_kind Bit) ⊎ (input_kind α ≡ input_kind Qubit)
input_kind_known Bit = inl refl
input_kind_known Qubit = inr refl

-- Inputs and gates that are read one by one.
inputs_read : (b : List ℕ) (I : List Wire) (i : ℕ)
    → ((m : ℕ) → m < length I → input_type (kind_at b (i + m)) ≡ get_or I m Bit)
    → inputs_from b i (length I) ≡ I
inputs_read b [] i each = refl
inputs_read b (α ∷ I) i each =
    let e : i ≡ i + 0 = omega arith in
    ap₂
    (λ β J. β ∷ J)
    (ap (λ m. input_type (kind_at b m)) e ∙ each 0 (omega arith))
    (inputs_read b I (suc i) λ m below.
    let e' : suc i + m ≡ i + suc m = omega arith in
    ap (λ j. input_type (kind_at b j)) e' ∙ each (suc m) (omega arith))

gates_read : (b : List ℕ) (gs : List Gate)
    → ((j : ℕ) → j < length gs → gate_of_entry b (input_count b + j) ≡ gate_at gs j)
    → first_gates b (length gs) ≡ gs
gates_read b [] each = refl
gates_read b (g ∷ gs) each =
    ap₂
    (λ h hs. h ∷ hs)
    (each (length gs) (omega arith) ∙ newest_at g gs)
    (gates_read b gs (λ j below. each j (omega arith) ∙ older_at g gs j below))

-- Nothing stands behind the listing.
module _ (I : List Wire) (gs : List Gate) (outs b : List ℕ) (same : b ≡ listing_bytes I gs outs) where
  nothing_behind : b ≡ listing_bytes I gs outs ++ []
  nothing_behind = same ∙ sym (append-nil (listing_bytes I gs outs))

  inputs : input_count b ≡ length I
  inputs = inputs_are I gs outs [] b nothing_behind

  gates : gate_count b ≡ length gs
  gates = gates_are I gs outs [] b nothing_behind

  outputs : output_count b ≡ length outs
  outputs = outputs_are I gs outs [] b nothing_behind

  kind_of_gate : (j : ℕ) → j < length gs → kind_at b (input_count b + j) ≡ gate_kind (gate_at gs j)
  kind_of_gate = gate_is I gs outs [] b nothing_behind

  -- The listing of known gates is in form.
  pub in_form : KnownGates gs → InForm b
  in_form known =
      record {
        whole = ap length same
            ∙ length_listing I gs outs
            ∙ ap₂ (λ l m. listing_length l m (length outs)) (sym inputs) (sym gates)
            ∙ ap (listing_length (input_count b) (gate_count b)) (sym outputs);
        input_kinds = λ i below.
            subst (λ k. (k ≡ input_kind Bit) ⊎ (k ≡ input_kind Qubit)) (sym (input_kind_is I gs outs [] b nothing_behind i (omega (arith, inputs))))
            (input_kind_known (get_or I i Bit));
        input_slots_lem = λ i k below inside. input_slot_is I gs outs [] b nothing_behind i k (omega (arith, inputs)) inside;
        gate_kinds = λ j below.
            let there : j < length gs = omega (arith, gates) in
            subst (λ n. Truth (is_gate n)) (sym (kind_of_gate j there))
            (known_kind (gate_at gs j) (known_at gs known j there));
        unused_slots = λ j k below least inside.
            let there : j < length gs = omega (arith, gates) in
            slot_is I gs outs [] b nothing_behind j k there inside
            ∙ known_unused (gate_at gs j) k (known_at gs known j there)
            (subst (λ n. wires_in n ≤ k) (kind_of_gate j there) least)
            inside;
      }

  -- The inputs, known gates and outputs of a listing are read back.
  pub inputs_back : inputs_of b ≡ I
  inputs_back =
      ap (inputs_from b 0) inputs
      ∙ inputs_read b I 0 λ m below.
      let e : 0 + m ≡ m = omega arith in
      ap (λ i. input_type (kind_at b i)) e ∙ input_is I gs outs [] b nothing_behind m below

  pub gates_back : KnownGates gs → gates_of b ≡ gs
  gates_back known =
      ap (first_gates b) gates
      ∙ gates_read b gs λ j below.
      ap₂ (λ n ws. n on ws) (kind_of_gate j below) (
      taken_is I gs outs [] b nothing_behind j below (known_counted (gate_at gs j) (known_at gs known j below))
      )
      ∙ gate_of_parts (gate_at gs j)

  pub outputs_back : outputs_of b ≡ outs
  outputs_back = listed_are I gs outs [] b nothing_behind
