-- The sizes of the configuration that a state stands for.
use Rattle.std.specs.Prelude.{ℕ, suc, ◌+◌, ◌≡◌, refl, List, [], ◌∷◌, ◌++◌, length}
use Rattle.std.proofs.Common.{arith, sym, ◌∙◌, ap, length-append}
use Rattle.rules.specs.Types.{Ty}
use Rattle.rules.specs.Terms.{Boxed}
use Rattle.rules.specs.Circuits.{Circuit, circuit}
use Rattle.rules.specs.Sizes.{frame_nodes, frame_gates, closed_gates, total_nodes, total_gates, boxes_closed}
use Rattle.machine_terms.specs.Trees.{Tree, one, two, preorder}
use Rattle.machine_terms.specs.Meaning.{Environment, environment}
use Rattle.machine_terms.specs.Holes.{Hole, only, first, second, opened, before, after, frame_tree, trees_below}
use Rattle.machine_terms.specs.Holes.{open_boxes}
use Rattle.machine_terms.specs.Walks.{Walk, evaluating, returning, focus, holes, left, right}
use Rattle.machine_terms.specs.States.{state, frames_below, decode, open_gates, StateFits}
use Rattle.machine_terms.proofs.Laws.Meanings.{nodes_meaning}

-- The nodes of the frames below.
abbrev all_nodes : List Tree → ℕ
all_nodes [] = 0
all_nodes (t ∷ ts) = length (preorder t) + all_nodes ts

trees_below_lem : (hs : List Hole) → length (trees_below hs) ≡ open_boxes hs
trees_below_lem [] = refl
trees_below_lem (only n ∷ hs) = trees_below_lem hs
trees_below_lem (first n u ∷ hs) = trees_below_lem hs
trees_below_lem (second n v ∷ hs) = trees_below_lem hs
trees_below_lem (opened n b ∷ hs) = ap suc (trees_below_lem hs)

below_nodes : (e : Environment) (ts : List Tree) (Cs : List Circuit)
    → length Cs ≡ length ts
    → frame_nodes (frames_below e ts Cs) ≡ all_nodes ts
below_nodes e [] Cs h = refl
below_nodes e (t ∷ ts) [] h = absurd (omega arith)
below_nodes e (t ∷ ts) (C ∷ Cs) h =
    let more = below_nodes e ts Cs (omega arith) in
    let this = nodes_meaning e t in
    omega (arith, more, this)

below_gates : (e : Environment) (ts : List Tree) (Cs : List Circuit)
    → length Cs ≡ length ts
    → frame_gates (frames_below e ts Cs) ≡ open_gates Cs
below_gates e [] [] h = refl
below_gates e [] (C ∷ Cs) h = absurd (omega arith)
below_gates e (t ∷ ts) [] h = absurd (omega arith)
below_gates e (t ∷ ts) (circuit I gs ∷ Cs) h =
    let more = below_gates e ts Cs (omega arith) in
    omega (arith, more)

-- All frames' nodes stand before, in and after the tree in hand.
all_frames : (hs : List Hole) (t : Tree)
    → length (preorder (frame_tree hs t)) + all_nodes (trees_below hs)
    ≡ length (before hs) + (length (preorder t) + length (after hs))
all_frames [] t = omega arith
all_frames (only n ∷ hs) t =
    let more = all_frames hs (one n t) in
    omega (arith, more, length-append (before hs) (n ∷ []))
all_frames (first n u ∷ hs) t =
    let more = all_frames hs (two n t u) in
    omega (
      arith,
      more,
      length-append (before hs) (n ∷ []),
      length-append (preorder t) (preorder u),
      length-append (preorder u) (after hs),
    )
all_frames (second n v ∷ hs) t =
    let more = all_frames hs (two n v t) in
    omega (arith, more, length-append (before hs) (n ∷ preorder v), length-append (preorder v) (preorder t))
all_frames (opened n b ∷ hs) t =
    let more = all_frames hs (one n b) in
    omega (arith, more, length-append (before hs) (n ∷ preorder b))

walk_nodes : (w : Walk)
    → length (preorder (frame_tree (holes w) (focus w))) + all_nodes (trees_below (holes w))
    ≡ length (left w ++ right w)
walk_nodes (evaluating t hs) =
    let all = all_frames hs t in
    omega
    (arith, all, length-append (before hs) (preorder t ++ after hs), length-append (preorder t) (after hs))
walk_nodes (returning v hs) =
    let all = all_frames hs v in
    omega
    (arith, all, length-append (before hs ++ preorder v) (after hs), length-append (before hs) (preorder v))

-- 01: "term nodes over all open boxes": what is walked and what is still to be walked.
pub total_nodes_lem : (types : ℕ → Ty) (positions : ℕ) (w : Walk) (C : Circuit) (Cs : List Circuit) (closed : List Boxed)
    → StateFits positions (state w C Cs closed)
    → total_nodes (decode types (state w C Cs closed)) ≡ length (left w ++ right w)
total_nodes_lem types positions w C Cs closed h =
    let top = nodes_meaning (environment types closed) (frame_tree (holes w) (focus w)) in
    let rest =
    below_nodes (environment types closed) (trees_below (holes w)) Cs (h.1 ∙ sym (trees_below_lem (holes w))) in
    omega (arith, top, rest, walk_nodes w)

-- 01: "gates over all circuits open or closed in this run".
pub total_gates_lem : (types : ℕ → Ty) (positions : ℕ) (w : Walk) (C : Circuit) (Cs : List Circuit) (closed : List Boxed)
    → StateFits positions (state w C Cs closed)
    → total_gates (decode types (state w C Cs closed)) ≡ open_gates (C ∷ Cs) + closed_gates closed
total_gates_lem types positions w (circuit I gs) Cs closed h =
    let rest =
    below_gates (environment types closed) (trees_below (holes w)) Cs (h.1 ∙ sym (trees_below_lem (holes w))) in
    omega (arith, rest)

-- 01: "boxes closed".
pub boxes_closed_lem : (types : ℕ → Ty) (w : Walk) (C : Circuit) (Cs : List Circuit) (closed : List Boxed)
    → boxes_closed (decode types (state w C Cs closed)) ≡ length closed
boxes_closed_lem types w C Cs closed = refl
