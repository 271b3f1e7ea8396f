-- The parts of a listing that stand in memory are those of the circuit that it holds.
use Rattle.std.specs.Prelude.{ℕ, zero, suc, ◌+◌, ◌*◌, ◌%◌, ◌<◌, ◌≡◌, refl, length, get_or, take}
use Rattle.std.proofs.Common.{arith, zero-add, sym, ◌∙◌, ap, ap₂}
use Rattle.std.proofs.Math.Decide.{dec_lt}
use mathlib.Core.List.{List, [], ◌∷◌, ◌++◌, map, flat_map, reverse, reverse-cons, append-nil}
use Rattle.std.proofs.Math.Option.{some}
use Rattle.std.proofs.lemmas.List.{length-map}
use Rattle.std.proofs.Math.ListN.{get_or-map}
use Rattle.rules.specs.Types.{Wire, Bit, Qubit, wire_code}
use Rattle.rules.specs.Gates.{wires_in}
use Rattle.rules.specs.Terms.{Tuple, labels, Gate}
use Rattle.rules.specs.Circuits.{circuit}
use Rattle.machine_terms.specs.Trees.{Node, Tree, preorder, tuple_of_tree}
use Rattle.machine_terms.proofs.Laws.Tuples.{is_tuple}
use Rattle.words.specs.Regions.{Stands}
use Rattle.words.proofs.Laws.Regions.{stands_at}
use Rattle.words.specs.Quadwords.{Quadword, quadword, quadword_at, word_in}
use Rattle.machine_circuits.specs.Layout.{gate_of, slot_of, gates_in}
use Rattle.rules.specs.Slots.{no_wire}
use Rattle.machine_circuits.proofs.Laws.Prefixes.{prefix_whole}
use Rattle.machine_circuits.proofs.Laws.Gates.{length_gates, slot_used, slot_unused}
use Rattle.machine_circuits.specs.Tuples.{label_numbers}
use Rattle.machine_circuits.proofs.Laws.Tuples.{labels_tree}
use Rattle.listing.specs.Listing.{bytes_of, input_kind, gate_kind, entry_slots, slots, input_slots, gate_slots, oldest_first}
use Rattle.listing.specs.Listing.{sizes, all_slots, listing, listing_bytes}
use Rattle.listing.specs.Lengths.{KindsFit}
use Rattle.listing.proofs.Laws.Lengths.{length_slots}
use Rattle.listing.specs.Pieces.{pieces}
use Rattle.listing_writer.specs.Parts.{input_byte, input_piece, gate_piece, slot_piece, slots_piece}
use Rattle.machine_circuits.specs.Layout.{labels_start}
use Rattle.listing_writer.specs.Parts.{unused_piece, kinds_read, slots_read, outputs_read}
use Rattle.listing_writer.proofs.Laws.Parts.{listing_read}
use Rattle.listing.proofs.Laws.Pieces.{pieces_list, pieces_more, flat_append, length_pieces}

-- The kinds of the inputs.
input_byte_lem : (α : Wire) → input_byte (wire_code α) ≡ input_kind α
input_byte_lem Bit = refl
input_byte_lem Qubit = refl

single_flat : {A : Type 0} (f : A → ℕ) (xs : List A) → flat_map (λ x. f x ∷ []) xs ≡ map f xs
unfolding flat_map
single_flat f [] = refl
single_flat f (x ∷ xs) = ap (λ l. f x ∷ l) (single_flat f xs)

inputs_read : (I : List Wire) (ws : List ℕ)
    → Stands ws labels_start (map wire_code I)
    → pieces (input_piece ws) (length I) ≡ map input_kind I
inputs_read I ws stands =
    pieces_list (λ α. input_kind α ∷ []) Bit I (input_piece ws) each ∙ single_flat input_kind I
  where
    each : (i : ℕ) → i < length I → input_piece ws i ≡ input_kind (get_or I i Bit) ∷ []
    each i below =
        ap (λ c. input_byte c ∷ []) (
        stands_at ws labels_start (map wire_code I) i 0 stands (omega (arith, length-map I wire_code))
        ∙ get_or-map wire_code I i Bit
        )
        ∙ ap (λ b. b ∷ []) (input_byte_lem (get_or I i Bit))

-- A piece for each gate, the oldest first.
gates_read : (g : Gate → List ℕ) (f : ℕ → List ℕ) (rs : List Quadword) (k : ℕ)
    → ((i : ℕ) → i < k → g (gate_of (quadword_at rs i)) ≡ f i)
    → flat_map g (oldest_first (gates_in rs 0 k)) ≡ pieces f k
unfolding flat_map pieces
gates_read g f rs zero each = refl
gates_read g f rs (suc k) each =
    let h = gate_of (quadword_at rs (0 + k)) in
    let e : 0 + k ≡ k = zero-add k in
    ap (flat_map g) (reverse-cons h (gates_in rs 0 k))
    ∙ flat_append g (reverse (gates_in rs 0 k)) (h ∷ [])
    ∙ ap₂
    ◌++◌
    (gates_read g f rs k (λ i below. each i (omega arith)))
    (append-nil (g h) ∙ ap (λ j. g (gate_of (quadword_at rs j))) e ∙ each k (omega arith))

-- The kinds of the gates.
first_kind : (r : Quadword) (gs : List Gate) → KindsFit (gate_of r ∷ gs) → (word_in r 0 < 256) × KindsFit gs
first_kind (quadword n u v w) gs fits = fits

kind_below : (rs : List Quadword) (k : ℕ) → KindsFit (gates_in rs 0 k) → (i : ℕ) → i < k → word_in (quadword_at rs i) 0 < 256
kind_below rs zero fits i below = absurd (omega arith)
kind_below rs (suc k) fits i below = of (kind_below rs k both.1) (dec_lt i k)
  where
    both : (word_in (quadword_at rs (0 + k)) 0 < 256) × KindsFit (gates_in rs 0 k)
    both = first_kind (quadword_at rs (0 + k)) (gates_in rs 0 k) fits

    of : ((j : ℕ) → j < k → word_in (quadword_at rs j) 0 < 256) → Dec (i < k) → word_in (quadword_at rs i) 0 < 256
    of earlier (yes p) = earlier i p
    of earlier (no p) =
        let e : 0 + k ≡ i = omega arith in
        omega (arith, both.0, ap (λ j. word_in (quadword_at rs j) 0) e)

gate_byte : (r : Quadword) → word_in r 0 < 256 → gate_kind (gate_of r) ∷ [] ≡ word_in r 0 % 256 ∷ []
gate_byte (quadword n u v w) below = let e : n ≡ n % 256 = omega arith in ap (λ b. b ∷ []) e

kinds_read_lem : (rs : List Quadword) (k : ℕ)
    → KindsFit (gates_in rs 0 k)
    → pieces (gate_piece rs) k ≡ map gate_kind (oldest_first (gates_in rs 0 k))
kinds_read_lem rs k fits =
    sym (
    gates_read (λ h. gate_kind h ∷ []) (gate_piece rs) rs k
    (λ i below. gate_byte (quadword_at rs i) (kind_below rs k fits i below))
    )
    ∙ single_flat gate_kind (oldest_first (gates_in rs 0 k))

-- The slots of an entry.
slot_at_lem : (k : ℕ) (ws : List ℕ) (i : ℕ) → i < k → get_or (slots k ws) i no_wire ≡ get_or ws i no_wire
slot_at_lem zero ws i below = absurd (omega arith)
slot_at_lem (suc k) [] zero below = refl
slot_at_lem (suc k) [] (suc i) below = slot_at_lem k [] i (omega arith)
slot_at_lem (suc k) (w ∷ ws) zero below = refl
slot_at_lem (suc k) (w ∷ ws) (suc i) below = slot_at_lem k ws i (omega arith)

slots_read_lem : (k : ℕ) (ws : List ℕ) → flat_map bytes_of (slots k ws) ≡ pieces (λ i. bytes_of (get_or ws i no_wire)) k
slots_read_lem k ws =
    sym (
    pieces_list bytes_of no_wire (slots k ws) (λ i. bytes_of (get_or ws i no_wire))
    (λ i below. ap bytes_of (sym (slot_at_lem k ws i (omega (arith, length_slots k ws)))))
    )
    ∙ ap (pieces (λ i. bytes_of (get_or ws i no_wire))) (length_slots k ws)

gate_slots_read : (r : Quadword) → flat_map bytes_of (gate_slots (gate_of r)) ≡ pieces (slot_piece r) entry_slots
gate_slots_read (quadword n u v w) = slots_read_lem entry_slots (take (wires_in n) (u ∷ v ∷ w ∷ []))

flat_flat : {A : Type 0} (f : ℕ → List ℕ) (g : A → List ℕ) (xs : List A)
    → flat_map f (flat_map g xs) ≡ flat_map (λ x. flat_map f (g x)) xs
unfolding flat_map
flat_flat f g [] = refl
flat_flat f g (x ∷ xs) =
    flat_append f (g x) (flat_map g xs) ∙ ap (λ l. flat_map f (g x) ++ l) (flat_flat f g xs)

unused_read : (I : List Wire) → flat_map bytes_of (flat_map input_slots I) ≡ pieces unused_piece (length I * entry_slots)
unfolding flat_map pieces
unused_read [] = refl
unused_read (α ∷ I) =
    let e : suc (length I) * entry_slots ≡ entry_slots + length I * entry_slots = omega arith in
    flat_append bytes_of (input_slots α) (flat_map input_slots I)
    ∙ ap₂ ◌++◌ (slots_read_lem entry_slots []) (unused_read I)
    ∙ sym (pieces_more unused_piece entry_slots (length I * entry_slots))
    ∙ ap (pieces unused_piece) (sym e)

all_slots_read : (I : List Wire) (rs : List Quadword) (k : ℕ)
    → pieces unused_piece (length I * entry_slots) ++ pieces (slots_piece rs) k
    ≡ flat_map bytes_of (all_slots I (gates_in rs 0 k))
all_slots_read I rs k =
    let gs = oldest_first (gates_in rs 0 k) in
    ap₂
    ◌++◌
    (sym (unused_read I))
    (sym (
    flat_flat bytes_of gate_slots gs
    ∙ gates_read (λ h. flat_map bytes_of (gate_slots h)) (slots_piece rs) rs k (λ i below. gate_slots_read (quadword_at rs i))
    ))
    ∙ sym (flat_append bytes_of (flat_map input_slots I) (flat_map gate_slots gs))

-- The wire in a slot is a 16-bit number, if the words of the quadword are.
pub slot_below : (r : Quadword) (slot : ℕ) → ((k : ℕ) → word_in r k < 65536) → slot_of (gate_of r) slot < 65536
slot_below r slot low = of (dec_lt slot (wires_in (word_in r 0)))
  where
    of : Dec (slot < wires_in (word_in r 0)) → slot_of (gate_of r) slot < 65536
    of (yes p) = omega (arith, slot_used r slot p, low (1 + slot))
    of (no p) = omega (arith, slot_unused r slot (omega arith))

-- How long the pieces are.
pub length_slots_piece : (rs : List Quadword) (i : ℕ) → length (slots_piece rs i) ≡ entry_slots * 2
length_slots_piece rs i = length_pieces (slot_piece (quadword_at rs i)) 2 entry_slots (λ j. refl)

-- The labels of the outputs' tuple.
pub outputs_read_lem : (v : Tree) (k : Tuple) (ns : List Node) (size : ℕ)
    → tuple_of_tree v ≡ some k
    → Stands ns 0 (preorder v)
    → size ≡ length (preorder v)
    → outputs_read ns size ≡ labels k
outputs_read_lem v k ns size e stands whole =
    ap label_numbers (prefix_whole ns 0 size (preorder v) stands whole) ∙ labels_tree (is_tuple v k e)

-- What stands in memory is the listing of the circuit that it holds.
pub listing_read_lem : (I : List Wire) (v : Tree) (k : Tuple) (ws : List ℕ) (rs : List Quadword) (G : ℕ) (ns : List Node)
    (size : ℕ)
    → Stands ws labels_start (map wire_code I)
    → KindsFit (gates_in rs 0 G)
    → tuple_of_tree v ≡ some k
    → Stands ns 0 (preorder v)
    → size ≡ length (preorder v)
    → listing_read ws (length I) rs G ns size ≡ listing (circuit I (gates_in rs 0 G)) k
unfolding listing_bytes
listing_read_lem I v k ws rs G ns size inputs fits e stands whole =
    let out : outputs_read ns size ≡ labels k = outputs_read_lem v k ns size e stands whole in
    ap₂
    (λ g ℓs.
    flat_map bytes_of (length I ∷ g ∷ length ℓs ∷ [])
    ++ (kinds_read ws (length I) rs G ++ (slots_read (length I) rs G ++ flat_map bytes_of ℓs)))
    (sym (length_gates rs 0 G))
    out
    ∙ ap₂
    (λ a b. flat_map bytes_of (sizes I (gates_in rs 0 G) (labels k)) ++ (a ++ (b ++ flat_map bytes_of (labels k))))
    (ap₂ ◌++◌ (inputs_read I ws inputs) (kinds_read_lem rs G fits))
    (all_slots_read I rs G)
