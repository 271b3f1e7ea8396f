-- The quadwords of the frames: which writes keep them, what they are where the innermost circuit becomes another, as apply of a
-- gate or of a closed circuit leaves it, and how many there are.
use Rattle.std.specs.Prelude.{ℕ, ◌+◌, ◌*◌, ◌≤◌, ◌<◌, ◌≡◌, List, [], ◌∷◌, length, set}
use Rattle.std.proofs.Common.{arith, ◌∙◌, ap, ap₂, length-append, get_or-set_same, get_or-set_other}
use Rattle.rules.specs.Types.{Wire}
use Rattle.rules.specs.Terms.{Gate}
use Rattle.rules.specs.Circuits.{Circuit, circuit, wire_count}
use Rattle.rules.specs.Sizes.{most_nodes, most_gates}
use Rattle.machine_terms.specs.Trees.{Node, Tree, preorder}
use Rattle.machine_terms.specs.Holes.{Hole, only, first, second, opened, before, open_boxes}
use Rattle.machine_terms.specs.Walks.{returning}
use Rattle.machine_terms.specs.States.{open_gates}
use Rattle.machine_walk.specs.Places.{Holds}
use Rattle.machine_walk.proofs.Laws.Places.{holes_few}
use Rattle.machine_walk.specs.declared.Place.{Place}
use Rattle.words.specs.Quadwords.{Quadword, quadword, quadword_at, word_in}
use Rattle.rules.specs.Slots.{gate_slot_count}
use Rattle.machine_circuits.proofs.Laws.Held.{SameBelow}
use Rattle.machine_circuits.proofs.Laws.Typed.{few_wires}
use Rattle.machine_state.specs.Memory.{frame_words, inputs, most_inputs, HoldsFrames}

-- Frames stay where the quadwords below their number do.
pub frames_kept : (fs fs' : List Quadword) (Cs : List Circuit)
    → SameBelow fs fs' (length Cs)
    → HoldsFrames fs Cs
    → HoldsFrames fs' Cs
frames_kept fs fs' [] same held = tt
frames_kept fs fs' (C ∷ Cs) same held = (
  same (length Cs) (omega arith) ∙ held.0,
  held.1,
  frames_kept fs fs' Cs (λ i h. same i (omega arith)) held.2,
)

-- Any circuit may take the innermost one's place, its quadword being put; the frames below have lower quadwords.
pub frames_top_set : (fs fs' : List Quadword) (C C' : Circuit) (Cs : List Circuit)
    → HoldsFrames fs (C ∷ Cs)
    → length Cs < length fs
    → fs' ≡ set fs (length Cs) (frame_words C' Cs)
    → inputs C' ≤ most_inputs
    → HoldsFrames fs' (C' ∷ Cs)
frames_top_set fs fs' C C' Cs held inside put few = (
  ap (λ l. quadword_at l (length Cs)) put
      ∙ get_or-set_same fs (length Cs) (frame_words C' Cs) (quadword 0 0 0 0) inside,
  few,
  frames_kept fs fs' Cs
      (λ i h.
      ap (λ l. quadword_at l i) put
      ∙ get_or-set_other fs (length Cs) i (frame_words C' Cs) (quadword 0 0 0 0) (λ e. omega arith))
      held.2,
)

-- The innermost circuit has grown: of its quadword only the number of wires changes.
pub frames_grown : (fs fs' : List Quadword) (I : List Wire) (hs hs' : List Gate) (Cs : List Circuit) (next : ℕ)
    → HoldsFrames fs (circuit I hs ∷ Cs)
    → length Cs < length fs
    → next ≡ wire_count (circuit I hs')
    → fs'
    ≡ set fs (length Cs) (quadword (word_in (quadword_at fs (length Cs)) 0) next (word_in (quadword_at fs (length Cs)) 2) 0)
    → HoldsFrames fs' (circuit I hs' ∷ Cs)
frames_grown fs fs' I hs hs' Cs next held inside e put =
    frames_top_set fs fs' (circuit I hs) (circuit I hs') Cs held inside
    (put
    ∙ ap₂ (λ r j. set fs (length Cs) (quadword (word_in r 0) j (word_in r 2) 0)) held.0 e)
    held.1

-- The quadword of the innermost frame has the number of the next wire.
pub next_held : (fs : List Quadword) (I : List Wire) (hs : List Gate) (Cs : List Circuit)
    → HoldsFrames fs (circuit I hs ∷ Cs)
    → word_in (quadword_at fs (length Cs)) 1 ≡ wire_count (circuit I hs)
next_held fs I hs Cs held = ap (λ r. word_in r 1) held.0

-- A circuit that is held has few wires.
pub wires_few : (fs : List Quadword) (I : List Wire) (hs : List Gate) (Cs : List Circuit)
    → HoldsFrames fs (circuit I hs ∷ Cs)
    → open_gates (circuit I hs ∷ Cs) ≤ most_gates
    → wire_count (circuit I hs) ≤ most_inputs + gate_slot_count * most_gates
wires_few fs I hs Cs held few = omega (arith, few_wires I hs, held.1)

-- There are no more open boxes than holes.
pub boxes_few : (hs : List Hole) → open_boxes hs ≤ length hs
boxes_few [] = omega arith
boxes_few (only n ∷ hs) = omega (arith, boxes_few hs)
boxes_few (first n u ∷ hs) = omega (arith, boxes_few hs)
boxes_few (second n v ∷ hs) = omega (arith, boxes_few hs)
boxes_few (opened n b ∷ hs) = omega (arith, boxes_few hs)

-- There are no more frames below the innermost than there are nodes, since each was opened by a box.
pub frames_few : (ns : List Node) (rs : List Quadword) (p : Place) (v : Tree) (hs : List Hole) (Cs : List Circuit)
    → Holds ns rs p (returning v hs)
    → length Cs ≡ open_boxes hs
    → length Cs ≤ most_nodes
frames_few ns rs p v hs Cs m e =
    omega (arith, e, boxes_few hs, holes_few hs, length-append (before hs) (preorder v), m.few)
