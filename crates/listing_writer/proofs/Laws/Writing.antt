-- Laws of one pass of the loop that writes the outputs, and of the parts of a listing written one behind the other.
use Rattle.std.specs.Prelude.{ℕ, ◌+◌, ◌-◌, ◌*◌, ◌≤◌, ◌<◌, ◌≡◌, refl, length, take, drop}
use Rattle.std.proofs.Common.{arith, zero-add, sym, ◌∙◌, ap, ap₂, subst, length-append, take-add}
use mathlib.Core.List.{List, [], ◌∷◌, ◌++◌, map, flat_map, append_assoc}
use Rattle.std.proofs.Math.Option.{some}
use Rattle.rules.specs.Kinds.{label_kind}
use Rattle.rules.specs.Types.{Wire, wire_code}
use Rattle.rules.specs.Terms.{Tuple, labels, Gate}
use Rattle.rules.specs.Circuits.{circuit}
use Rattle.machine_terms.specs.Trees.{Node, kind, argument, Tree, preorder, tuple_of_tree}
use Rattle.machine_nodes.specs.Nodes.{node_at}
use Rattle.words.specs.Regions.{over, Stands}
use Rattle.words.proofs.Laws.Regions.{over_nil}
use Rattle.words.specs.Quadwords.{Quadword}
use Rattle.machine_circuits.specs.Layout.{gates_in}
use Rattle.machine_circuits.proofs.Laws.Gates.{length_gates}
use Rattle.machine_circuits.specs.Tuples.{label_numbers}
use Rattle.machine_circuits.proofs.Laws.Tuples.{labels_append, label_passed, other_passed}
use Rattle.listing.specs.Listing.{bytes_of, entry_slots, listing, listing_length}
use Rattle.listing.specs.Lengths.{KindsFit}
use Rattle.listing.proofs.Laws.Lengths.{length_bytes, length_listing}
use Rattle.listing.specs.Pieces.{pieces}
use Rattle.listing_writer.specs.Parts.{input_piece, gate_piece, slots_piece, unused_piece, kinds_read}
use Rattle.machine_circuits.specs.Layout.{labels_start}
use Rattle.listing_writer.specs.Parts.{slots_read, outputs_read}
use Rattle.listing_writer.proofs.Laws.Parts.{listing_read}
use Rattle.listing.proofs.Laws.Pieces.{length_pieces, written_behind, over_start, flat_append}
use Rattle.listing_writer.proofs.Laws.Reading.{length_slots_piece, outputs_read_lem, listing_read_lem}

-- One more node is passed, a label or another.
pub label_read : (ns : List Node) (i : ℕ)
    → i < length ns
    → kind (node_at ns i) ≡ label_kind
    → outputs_read ns (i + 1) ≡ outputs_read ns i ++ (argument (node_at ns i) ∷ [])
label_read ns i h e =
    let z : 0 + i ≡ i = zero-add i in
    label_passed ns 0 i (omega arith) (ap (λ j. kind (node_at ns j)) z ∙ e)
    ∙ ap (λ j. outputs_read ns i ++ (argument (node_at ns j) ∷ [])) z

pub other_read : (ns : List Node) (i : ℕ)
    → i < length ns
    → (kind (node_at ns i) ≡ label_kind → ⊥)
    → outputs_read ns (i + 1) ≡ outputs_read ns i
other_read ns i h e =
    let z : 0 + i ≡ i = zero-add i in
    other_passed ns 0 i (omega arith) (λ p. e (sym (ap (λ j. kind (node_at ns j)) z) ∙ p))

pub one_label_more : (ns : List Node) (i found : ℕ)
    → i < length ns
    → kind (node_at ns i) ≡ label_kind
    → found ≡ length (outputs_read ns i)
    → found + 1 ≡ length (outputs_read ns (i + 1))
one_label_more ns i found h e many =
    omega (
      arith,
      ap length (label_read ns i h e),
      length-append (outputs_read ns i) (argument (node_at ns i) ∷ []),
    )

-- Fewer nodes have no more labels.
pub fewer_labels : (ns : List Node) (i j : ℕ) → i ≤ j → length (outputs_read ns i) ≤ length (outputs_read ns j)
fewer_labels ns i j h =
    let e : j ≡ i + (j - i) = omega arith in
    let rest = take (j - i) (drop i ns) in
    omega (
      arith,
      ap (λ m. length (outputs_read ns m)) e,
      ap (λ l. length (label_numbers l)) (take-add i (j - i) ns),
      ap length (labels_append (take i ns) rest),
      length-append (outputs_read ns i) (label_numbers rest),
    )

-- There is room for a label that is among them.
pub label_room : (ns : List Node) (i size found : ℕ)
    → i < length ns
    → i < size
    → kind (node_at ns i) ≡ label_kind
    → found ≡ length (outputs_read ns i)
    → found + 1 ≤ length (outputs_read ns size)
label_room ns i size found h below e many =
    omega (arith, one_label_more ns i found h e many, fewer_labels ns (i + 1) size (omega arith))

-- One more output is written.
pub output_written : (ns : List Node) (l l₁ l₂ : List ℕ) (at i found a : ℕ)
    → i < length ns
    → kind (node_at ns i) ≡ label_kind
    → a ≡ argument (node_at ns i)
    → found ≡ length (outputs_read ns i)
    → at + found * 2 + 2 ≤ length l
    → l₁ ≡ over l at (flat_map bytes_of (outputs_read ns i))
    → l₂ ≡ over l₁ (at + 2 * found) (bytes_of a)
    → l₂ ≡ over l at (flat_map bytes_of (outputs_read ns (i + 1)))
unfolding flat_map
output_written ns l l₁ l₂ at i found a h e same many room e₁ e₂ =
    let xs = outputs_read ns i in
    let long : length (flat_map bytes_of xs) ≡ length xs * 2 = length_bytes xs in
    written_behind l l₁ l₂ at (at + 2 * found) (flat_map bytes_of xs) (bytes_of a) (omega arith) (omega arith) e₁ e₂
    ∙ ap (over l at) (
    sym (flat_append bytes_of xs (a ∷ []))
    ∙ ap (flat_map bytes_of) (ap (λ x. xs ++ (x ∷ [])) same ∙ sym (label_read ns i h e))
    )

pub no_output : (ns : List Node) (l : List ℕ) (at : ℕ) → l ≡ over l at (flat_map bytes_of (outputs_read ns 0))
unfolding flat_map
no_output ns l at = sym (over_nil l at)

-- The three sizes are written.
pub sizes_written : (l l₁ l₂ l₃ : List ℕ) (a b c : ℕ)
    → 6 ≤ length l
    → l₁ ≡ over l 0 (bytes_of a)
    → l₂ ≡ over l₁ 2 (bytes_of b)
    → l₃ ≡ over l₂ 4 (bytes_of c)
    → l₃ ≡ over l 0 (flat_map bytes_of (a ∷ b ∷ c ∷ []))
unfolding flat_map
sizes_written l l₁ l₂ l₃ a b c h e₁ e₂ e₃ =
    written_behind l l₂ l₃ 0 4 (bytes_of a ++ bytes_of b) (bytes_of c) refl (omega arith)
    (written_behind l l₁ l₂ 0 2 (bytes_of a) (bytes_of b) refl (omega arith) e₁ e₂)
    e₃

-- The slots of the inputs and of the gates are written.
module _ (L : ℕ) (rs : List Quadword) (G : ℕ) where
  unused_bytes : length (pieces unused_piece (L * entry_slots)) ≡ L * (entry_slots * 2)
  unused_bytes = length_pieces unused_piece 2 (L * entry_slots) (λ i. refl) ∙ omega arith

  gate_slot_bytes : length (pieces (slots_piece rs) G) ≡ G * (entry_slots * 2)
  gate_slot_bytes = length_pieces (slots_piece rs) (entry_slots * 2) G (length_slots_piece rs)

  slot_bytes_lem : length (slots_read L rs G) ≡ (L + G) * (entry_slots * 2)
  slot_bytes_lem =
      length-append (pieces unused_piece (L * entry_slots)) (pieces (slots_piece rs) G)
      ∙ omega (arith, unused_bytes, gate_slot_bytes)

  pub slots_written : (l l₁ l₂ : List ℕ) (at here : ℕ)
      → here ≡ at + L * (entry_slots * 2)
      → at + (L + G) * (entry_slots * 2) ≤ length l
      → l₁ ≡ over l at (pieces unused_piece (L * entry_slots))
      → l₂ ≡ over l₁ here (pieces (slots_piece rs) G)
      → l₂ ≡ over l at (slots_read L rs G)
  slots_written l l₁ l₂ at here e h e₁ e₂ =
      written_behind l l₁ l₂ at here (pieces unused_piece (L * entry_slots)) (pieces (slots_piece rs) G)
      (omega (arith, unused_bytes))
      (omega (arith, gate_slot_bytes))
      e₁
      e₂

-- The kinds of the inputs and of the gates are written.
module _ (ws : List ℕ) (L : ℕ) (rs : List Quadword) (G : ℕ) where
  input_bytes : length (pieces (input_piece ws) L) ≡ L
  input_bytes = length_pieces (input_piece ws) 1 L (λ i. refl) ∙ omega arith

  gate_bytes : length (pieces (gate_piece rs) G) ≡ G
  gate_bytes = length_pieces (gate_piece rs) 1 G (λ i. refl) ∙ omega arith

  kind_bytes : length (kinds_read ws L rs G) ≡ L + G
  kind_bytes =
      length-append (pieces (input_piece ws) L) (pieces (gate_piece rs) G) ∙ ap₂ ◌+◌ input_bytes gate_bytes

  pub kinds_written : (l l₁ l₂ : List ℕ)
      → 6 + L + G ≤ length l
      → l₁ ≡ over l 6 (pieces (input_piece ws) L)
      → l₂ ≡ over l₁ (6 + L) (pieces (gate_piece rs) G)
      → l₂ ≡ over l 6 (kinds_read ws L rs G)
  kinds_written l l₁ l₂ h e₁ e₂ =
      written_behind l l₁ l₂ 6 (6 + L) (pieces (input_piece ws) L) (pieces (gate_piece rs) G) (omega (arith, input_bytes))
      (omega (arith, gate_bytes))
      e₁
      e₂

  -- All parts are written.
  pub parts_written : (ns : List Node) (size found : ℕ) (l l₁ l₂ l₃ l₄ : List ℕ)
      → found ≡ length (outputs_read ns size)
      → listing_length L G found ≤ length l
      → l₁ ≡ over l 0 (flat_map bytes_of (L ∷ G ∷ found ∷ []))
      → l₂ ≡ over l₁ 6 (kinds_read ws L rs G)
      → l₃ ≡ over l₂ (6 + (L + G)) (slots_read L rs G)
      → l₄ ≡ over l₃ (6 + (1 + 2 * entry_slots) * (L + G)) (flat_map bytes_of (outputs_read ns size))
      → l₄ ≡ over l 0 (listing_read ws L rs G ns size)
  parts_written ns size found l l₁ l₂ l₃ l₄ many h e₁ e₂ e₃ e₄ =
      let S = flat_map bytes_of (L ∷ G ∷ found ∷ []) in
      let K = kinds_read ws L rs G in
      let E = slots_read L rs G in
      let O = flat_map bytes_of (outputs_read ns size) in
      let first : length S ≡ 6 = length_bytes (L ∷ G ∷ found ∷ []) in
      let last : length O ≡ found * 2 = length_bytes (outputs_read ns size) ∙ omega arith in
      let two : length (S ++ K) ≡ 6 + (L + G) = length-append S K ∙ ap₂ ◌+◌ first kind_bytes in
      let three : length ((S ++ K) ++ E) ≡ 6 + (1 + 2 * entry_slots) * (L + G)
      = length-append (S ++ K) E ∙ omega (arith, slot_bytes_lem L rs G) in
      written_behind l l₃ l₄ 0 (6 + (1 + 2 * entry_slots) * (L + G)) ((S ++ K) ++ E) O (omega arith) (omega arith)
      (written_behind l l₂ l₃ 0 (6 + (L + G)) (S ++ K) E (omega arith) (omega (arith, slot_bytes_lem L rs G))
      (written_behind l l₁ l₂ 0 6 S K (omega arith) (omega (arith, kind_bytes)) e₁ e₂)
      e₃)
      e₄
      ∙ ap (over l 0) (
      append_assoc (S ++ K) E O
      ∙ append_assoc S K (E ++ O)
      ∙ ap (λ n. flat_map bytes_of (L ∷ G ∷ n ∷ []) ++ (K ++ (E ++ O))) many
      )

-- As many outputs as the tuple has labels, and the length of the listing.
pub sizes_read : (I : List Wire) (gs : List Gate) (v : Tree) (k : Tuple) (rs : List Quadword) (L G : ℕ) (ns : List Node)
    (size found : ℕ)
    → L ≡ length I
    → gates_in rs 0 G ≡ gs
    → tuple_of_tree v ≡ some k
    → Stands ns 0 (preorder v)
    → size ≡ length (preorder v)
    → found ≡ length (outputs_read ns size)
    → (found ≡ length (labels k)) × (listing_length L G found ≡ length (listing (circuit I gs) k))
sizes_read I gs v k rs L G ns size found many held e stands whole outputs =
    let labelled : found ≡ length (labels k) = outputs ∙ ap length (outputs_read_lem v k ns size e stands whole) in
    let counted : G ≡ length gs = sym (length_gates rs 0 G) ∙ ap length held in
    (labelled, omega (arith, length_listing I gs (labels k)))

-- The whole listing is written.
pub listing_written : (I : List Wire) (gs : List Gate) (v : Tree) (k : Tuple) (ws : List ℕ) (rs : List Quadword) (L G : ℕ)
    (ns : List Node) (size : ℕ) (l l' : List ℕ)
    → Stands ws labels_start (map wire_code I)
    → L ≡ length I
    → gates_in rs 0 G ≡ gs
    → KindsFit gs
    → tuple_of_tree v ≡ some k
    → Stands ns 0 (preorder v)
    → size ≡ length (preorder v)
    → l' ≡ over l 0 (listing_read ws L rs G ns size)
    → l' ≡ listing (circuit I gs) k ++ drop (length (listing (circuit I gs) k)) l
listing_written I gs v k ws rs L G ns size l l' inputs many held fits e stands whole written =
    let read : listing_read ws L rs G ns size ≡ listing (circuit I gs) k
    = ap (λ n. listing_read ws n rs G ns size) many
    ∙ listing_read_lem I v k ws rs G ns size inputs (subst KindsFit (sym held) fits) e stands whole
    ∙ ap (λ hs. listing (circuit I hs) k) held in
    written ∙ ap (over l 0) read ∙ over_start l (listing (circuit I gs) k)
