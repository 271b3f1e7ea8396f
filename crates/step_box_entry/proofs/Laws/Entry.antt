-- What box entry measures and writes, and that the memory then holds the next configuration.
use Rattle.std.specs.Prelude.{ℕ, ◌+◌, ◌-◌, ◌%◌, ◌≤◌, ◌<◌, ◌≡◌, refl, true, false, List, [], ◌∷◌, ◌++◌, T as Truth, length, set, take, drop}
use Rattle.std.proofs.Common.{arith, sym, ◌∙◌, ap, ap₂, subst, inr, length-append}
use Rattle.rules.specs.Kinds.{application_kind}
use Rattle.rules.specs.Types.{Ty, is_wire_type, wires, entries, most_entries, type_codes}
use Rattle.rules.specs.Terms.{tuple_from, Boxed}
use Rattle.rules.specs.Circuits.{Circuit}
use Rattle.rules.specs.Sizes.{most_nodes}
use Rattle.machine_terms.specs.Trees.{Node, node, argument, Tree, one, preorder, tuple_tree}
use Rattle.machine_terms.specs.Holes.{Hole, only, opened, before, after, open_boxes}
use Rattle.machine_terms.specs.Walks.{evaluating, returning}
use Rattle.machine_nodes.specs.Nodes.{node_at}
use Rattle.words.specs.Regions.{over, Stands}
use Rattle.words.proofs.Laws.Regions.{over_one, over_in_front, length_over, take_over, written, stands_right, stands_before}
use Rattle.machine_nodes.proofs.Laws.Copies.{Clear}
use Rattle.words.specs.Quadwords.{quadword_at, Quadword}
use Rattle.machine_walk.specs.Stack.{stack_entry, stack_node}
use Rattle.machine_walk.specs.Places.{Holds}
use Rattle.machine_walk.proofs.Laws.Places.{front_length, back_length, holes_few}
use Rattle.machine_walk.proofs.Laws.Redexes.{OnlyRedex, only_redex, entered as entered_held}
use Rattle.machine_walk.specs.declared.Place.{Place}
use Rattle.machine_circuits.specs.Tuples.{code_span}
use Rattle.machine_circuits.proofs.Laws.Tuples.{tuple_entries}
use Rattle.machine_circuits.proofs.Laws.Writing.{span_whole}
use Rattle.machine_circuits.specs.Results.{TupleWritten}
use Rattle.machine_state.specs.Memory.{memory, HoldsParts}
use Rattle.machine_state.proofs.Laws.Frames.{boxes_few}
use Rattle.machine_state.specs.Outcomes.{size, PartsFit}
use Rattle.machine_state.specs.declared.StateNumbers.{StateNumbers}
use Rattle.step_box_entry.specs.declared.Entry.{Entry}
use Rattle.step_box_entry.specs.Opening.{applied, RoomFor, new_nodes, EntryFits, EntryExceeds, Writes}
use Rattle.step_box_entry.specs.Opening.{entered}

-- What is measured, by the answer whether there is room.
module _ (ns : List Node) (rs : List Quadword) (ws : List ℕ) (p : Place) (n at position span count : ℕ)
    (n_is : n ≡ length ns)
    (deep : 0 < p.depth)
    (at_is : at ≡ stack_node (quadword_at rs (p.depth - 1)))
    (position_is : position ≡ argument (node_at ns at))
    (span_is : span ≡ code_span (drop position ws) 1)
    (behind : at + 2 ≤ p.left)
    (count_is : count ≡ p.left - (at + 2)) where
  pub measured_fits : RoomFor n p.left p.right (1 + count + span) true
      → EntryFits ns rs ws p
      (record { at = at; position = position; size = span; count = count; to = p.right - (1 + count + span) })
  measured_fits h =
      record {
        deep = deep;
        at_is = at_is;
        position_is = position_is;
        size_is = span_is;
        body_ends = omega arith;
        new_end = omega (arith, h.0);
        apart = omega (arith, h.0);
        inside = omega (arith, h.1);
        few = omega (arith, h.0, h.1, h.2);
      }

  pub measured_exceeds : RoomFor n p.left p.right (1 + count + span) false → EntryExceeds ns rs ws p
  measured_exceeds h = λ _ _ wide inside.
      let i = stack_node (quadword_at rs (p.depth - 1)) in
      let there : position ≡ argument (node_at ns i) = position_is ∙ ap (λ j. argument (node_at ns j)) at_is in
      let counted : span ≡ code_span (drop (argument (node_at ns i)) ws) 1
      = span_is ∙ ap (λ j. code_span (drop j ws) 1) there in
      let more : most_nodes < p.left + (1 + count + span) + (n - p.right) = h (omega arith) (omega arith) in
      omega arith

-- The nodes of the application.
pub applied_nodes : (T : Ty) (t : Tree)
    → Truth (is_wire_type T)
    → length (preorder (applied T t)) ≡ 1 + length (preorder t) + entries T
applied_nodes T t w =
    omega (arith, length-append (preorder t) (preorder (tuple_tree (tuple_from 0 T))), tuple_entries 0 T w)

-- The application is written: its tuple, then in front of it the lift's body, then its node.
pub application_written : (T : Ty) (t : Tree) (ns ns₁ ns₂ ns₃ : List Node) (from count to wide size : ℕ)
    → from + count ≤ to
    → Stands ns from (preorder t)
    → count ≡ length (preorder t)
    → Truth (is_wire_type T)
    → to + (1 + count + entries T) ≤ length ns
    → TupleWritten T 0 ns ns₁ (to + 1 + count) size wide
    → (Clear from (to + 1) count → from + count ≤ length ns₁ → to + 1 + count ≤ length ns₁
    → ns₂ ≡ over ns₁ (to + 1) (take count (drop from ns₁)))
    → ns₃ ≡ set ns₂ to (node application_kind 0)
    → (ns₃ ≡ over ns to (preorder (applied T t))) × (wide ≡ length (wires T))
application_written T t ns ns₁ ns₂ ns₃ from count to wide size apart stands counted w inside tuple copied put =
    let xs = preorder t in
    let ys = preorder (tuple_tree (tuple_from 0 T)) in
    let many : length ys ≡ entries T = tuple_entries 0 T w in
    let long₁ : length ns₁ ≡ length ns
    = ap length tuple.nodes ∙ length_over ns (to + 1 + count) ys (omega arith) in
    let still : Stands ns₁ from xs
    = subst (λ l. Stands l from xs) (sym tuple.nodes)
    (stands_before ns (to + 1 + count) ys from xs (omega arith) (omega arith) stands) in
    let body : take count (drop from ns₁) ≡ xs = ap (λ k. take k (drop from ns₁)) counted ∙ still in
    let place : to + 1 + count ≡ to + 1 + length xs = ap (λ k. to + 1 + k) counted in
    let both : ns₂ ≡ over ns (to + 1) (xs ++ ys)
    = copied (inr (omega arith)) (omega arith) (omega arith)
    ∙ ap₂ (λ l z. over l (to + 1) z) (tuple.nodes ∙ ap (λ j. over ns j ys) place) body
    ∙ over_in_front ns (to + 1) xs ys (omega arith) in
    let sum : length (xs ++ ys) ≡ length xs + length ys = length-append xs ys in
    let long₂ : length ns₂ ≡ length ns
    = ap length both ∙ length_over ns (to + 1) (xs ++ ys) (omega arith) in (
      put
          ∙ over_one ns₂ to (node application_kind 0) (omega arith)
          ∙ ap (λ l. over l to (node application_kind 0 ∷ [])) both
          ∙ over_in_front ns to (node application_kind 0 ∷ []) (xs ++ ys) (omega arith),
      tuple.labels_written,
    )

-- A box with a lift as its part, at which the walk has stopped.
module _ (types : ℕ → Ty) (positions : ℕ) (ns : List Node) (rs : List Quadword) (gs cs fs : List Quadword) (ws : List ℕ)
    (results : ℕ → List ℕ) (r : StateNumbers) (n m : Node) (t : Tree) (hs : List Hole) (C : Circuit) (Cs : List Circuit)
    (K : List Boxed)
    (held : HoldsParts types positions (memory ns rs gs cs fs ws results) r (returning (one m t) (only n ∷ hs)) (C ∷ Cs) K)
    (below : argument n < positions)
    (wire_type : Truth (is_wire_type (types (argument n)))) where
  -- Its node, its lift and the quadwords below stand in memory.
  redex : (at : ℕ)
      → at ≡ stack_node (quadword_at rs (r.place.depth - 1))
      → OnlyRedex ns rs r.place n (one m t) hs at
  redex at e = only_redex ns rs r.place hs n (one m t) at held.walk_held e

  -- The codes of its type stand at the position that its node names.
  type_stands : Stands ws (argument n) (type_codes (types (argument n)))
  type_stands = held.types_held (argument n) below

  type_entries_lem : code_span (drop (argument n) ws) 1 ≡ entries (types (argument n))
  type_entries_lem = span_whole (types (argument n)) ws (argument n) type_stands

  -- Its lift's body stands behind the nodes of the box and the lift, up to the end of the walked nodes.
  body_stands : (at : ℕ)
      → at ≡ stack_node (quadword_at rs (r.place.depth - 1))
      → Stands ns (at + 2) (preorder t)
  body_stands at e =
      let next : at + 1 + 1 ≡ at + 2 = omega arith in
      subst (λ j. Stands ns j (preorder t)) next (stands_right ns (at + 1) (m ∷ []) (preorder t) (redex at e).value_at_lem)

  body_ends : (at : ℕ)
      → at ≡ stack_node (quadword_at rs (r.place.depth - 1))
      → at + 2 + length (preorder t) ≡ r.place.left
  body_ends at e = omega (arith, (redex at e).ends)

  -- The nodes of all frames after box entry.
  next_size : size (evaluating (applied (types (argument n)) t) (opened n (one m t) ∷ hs))
      ≡ r.place.left + (1 + length (preorder t) + entries (types (argument n))) + (length ns - r.place.right)
  next_size =
      let xs = before hs ++ (n ∷ preorder (one m t)) in
      let ys = preorder (applied (types (argument n)) t) in
      let w = held.walk_held in
      omega (
        arith,
        length-append xs (ys ++ after hs),
        length-append ys (after hs),
        length-append (before hs) (n ∷ preorder (one m t)),
        applied_nodes (types (argument n)) t wire_type,
        front_length w.buffer,
        back_length w.buffer,
        length-append (before hs ++ (n ∷ [])) (preorder (one m t)),
        length-append (before hs) (n ∷ []),
      )

  -- There are too many nodes for the next configuration.
  pub exceeding : (allowance : ℕ) (Ds : List Circuit)
      → EntryExceeds ns rs ws r.place
      → PartsFit allowance (evaluating (applied (types (argument n)) t) (opened n (one m t) ∷ hs)) Ds K
      → ⊥
  exceeding allowance Ds exceeds fits =
      let at = stack_node (quadword_at rs (r.place.depth - 1)) in
      let h = redex at refl in
      let w = held.walk_held in
      let there : argument (node_at ns at) ≡ argument n = ap argument h.hole.node_is in
      let span : code_span (drop (argument (node_at ns at)) ws) 1 ≡ entries (types (argument n))
      = ap (λ j. code_span (drop j ws) 1) there ∙ type_entries_lem in
      let ends = body_ends at refl in
      let more : most_nodes < r.place.left + new_nodes ns ws at r.place.left + (length ns - r.place.right)
      = exceeds (omega (arith, h.hole.deep)) (omega arith) w.wide w.buffer.inside in
      omega (arith, next_size, fits.nodes_fit)

  -- There is a quadword for the new frame.
  pub frame_there : length Cs ≡ open_boxes hs → r.counts.frames < length fs
  frame_there boxes =
      let w = held.walk_held in
      omega (
        arith,
        held.built.counted.frames_are,
        held.built.roomy.frames_room,
        boxes_few hs,
        holes_few (only n ∷ hs),
        length-append (before (only n ∷ hs)) (preorder (one m t)),
        w.few,
      )

  -- What is to be written is known.
  module _ (e : Entry) (fits : EntryFits ns rs ws r.place e) where
    position_known : e.position ≡ argument n
    position_known = fits.position_is ∙ ap argument (redex e.at fits.at_is).hole.node_is

    size_known : e.size ≡ entries (types (argument n))
    size_known = fits.size_is ∙ ap (λ j. code_span (drop j ws) 1) position_known ∙ type_entries_lem

    new_known : e.to + (1 + length (preorder t) + entries (types (argument n))) ≡ r.place.right
    new_known =
        omega (arith, fits.new_end, size_known, fits.body_ends, body_ends e.at fits.at_is)

    count_known : e.count ≡ length (preorder t)
    count_known = omega (arith, fits.body_ends, body_ends e.at fits.at_is)

    -- What `write_application` leaves.
    pub entry_written : (ns' : List Node) (wide : ℕ)
        → entries (types (argument n)) ≤ most_entries
        → Writes ns ns' ws e wide
        → (ns' ≡ over ns e.to (preorder (applied (types (argument n)) t)))
        × (wide ≡ length (wires (types (argument n))))
    entry_written ns' wide small writes =
        writes (types (argument n)) t wire_type
        (subst (λ j. Stands ws j (type_codes (types (argument n)))) (sym position_known) type_stands)
        size_known
        (body_stands e.at fits.at_is)
        count_known
        (omega (arith, new_known, count_known, fits.inside))
        small

    -- The walk that is held after box entry.
    pub walk_entered : (ns' : List Node) (rs' : List Quadword)
        → ns' ≡ over ns e.to (preorder (applied (types (argument n)) t))
        → rs' ≡ set rs (r.place.depth - 1) (stack_entry 3 (e.at % 65536) (r.place.left % 65536))
        → Holds ns' rs' (entered r.place r.counts e).place
        (evaluating (applied (types (argument n)) t) (opened n (one m t) ∷ hs))
    walk_entered ns' rs' done put =
        let xs = preorder (applied (types (argument n)) t) in
        let many : length xs ≡ 1 + length (preorder t) + entries (types (argument n))
        = applied_nodes (types (argument n)) t wire_type in
        let inside : e.to + length xs ≡ r.place.right = omega (arith, new_known) in
        let within : r.place.right ≤ length ns = fits.inside in
        let apart : r.place.left ≤ e.to = fits.apart in
        entered_held ns ns' rs rs' r.place n (one m t) (applied (types (argument n)) t) hs e.at e.to
        held.walk_held
        fits.at_is
        put
        (ap length done ∙ length_over ns e.to xs (omega arith))
        (ap (take r.place.left) done ∙ take_over ns e.to xs r.place.left (omega arith) apart)
        (ap (drop e.to) done
        ∙ written ns e.to xs (omega arith)
        ∙ ap (λ l. xs ++ l) (ap (λ j. drop j ns) inside ∙ (redex e.at fits.at_is).behind))
        apart
        (omega arith)
        fits.few
