-- Apply of a closed circuit: what is known of it at the stop, its sizes, and what the memory holds after it.
use Rattle.std.specs.Prelude.{ℕ, ◌+◌, ◌-◌, ◌*◌, ◌/◌, ◌%◌, ◌≤◌, ◌<◌, ◌≡◌, refl, List, ◌∷◌, ◌++◌, map, length, set, take, drop}
use Rattle.std.proofs.Common.{arith, sym, ◌∙◌, ap, ap₂, subst, length-append, length-set}
use Rattle.std.proofs.Math.Option.{some}
use Rattle.std.proofs.lemmas.List.{length-map}
use Rattle.rules.specs.Types.{Wire, Ty, wires, most_entries}
use Rattle.rules.specs.Terms.{Tuple, single, both, labels, Gate, Boxed, boxed, empty}
use Rattle.rules.specs.Circuits.{Circuit, circuit, wire_count, outputs, rename_gate, rename_tuple, appended, returned}
use Rattle.rules.specs.Sizes.{closed_gates, most_gates, most_boxes}
use Rattle.machine_terms.specs.Trees.{Node, argument, Tree, leaf, preorder, tuple_of_tree, tuple_tree}
use Rattle.machine_terms.specs.Holes.{Hole, second, open_boxes, before, after}
use Rattle.machine_terms.specs.Walks.{evaluating, returning}
use Rattle.machine_terms.specs.States.{open_gates}
use Rattle.machine_terms.specs.Meaning.{circuit_at}
use Rattle.words.specs.Regions.{over}
use Rattle.machine_walk.proofs.Laws.Places.{back_length}
use Rattle.machine_walk.specs.Places.{Holds}
use Rattle.machine_walk.proofs.Laws.Redexes.{SecondRedex, second_redex, first_leaf, gap_wide, reduct_written}
use Rattle.words.specs.Quadwords.{Quadword, quadword, quadword_at, word_in}
use Rattle.machine_circuits.specs.Layout.{gates_in, tuple_words, closed_from, most_result, results_each, HoldsBoxed}
use Rattle.rules.specs.Slots.{no_wire, gate_slot_count}
use Rattle.machine_circuits.specs.Copies.{CopyFits, GatesCopied}
use Rattle.machine_circuits.specs.Results.{LabelsCollected, ResultFits, result_nodes}
use Rattle.machine_circuits.proofs.Laws.Tuples.{wires_few}
use Rattle.machine_circuits.proofs.Laws.Typed.{few_outputs, few_wires}
use Rattle.machine_circuits.proofs.Laws.Held.{ClosedAt, closed_at_lem, closed_copy_fits, closed_result_fits}
use Rattle.machine_circuits.specs.Applying.{HoldsCircuits}
use Rattle.machine_circuits.proofs.Laws.Applying.{constant_applied, result_returned, next_number_lem, next_appended}
use Rattle.machine_state.specs.declared.StateNumbers.{StateNumbers}
use Rattle.machine_state.specs.Memory.{Memory, memory, HoldsFrames, HoldsParts}
use Rattle.machine_state.specs.Outcomes.{PartsFit}
use Rattle.step_apply_circuit.specs.declared.Redex.{Redex}
use Rattle.step_apply_circuit.specs.Redexes.{RedexRead, Room, numbers_after}
use Rattle.step_apply_circuit.proofs.Laws.Redexes.{ConstantTyped, ConstantKnown, ConstantWritten}
use Rattle.machine_state.proofs.Laws.Frames.{frames_top_set, frames_few}

-- A renamed result has as many nodes as the result has words.
renamed_size : (ks : List ℕ) (next : ℕ) (y : Tuple)
    → length (preorder (tuple_tree (rename_tuple ks next y))) ≡ length (tuple_words y)
renamed_size ks next (single ℓ) = refl
renamed_size ks next empty = refl
renamed_size ks next (both k l) =
    omega (
      arith,
      length-append (preorder (tuple_tree (rename_tuple ks next k))) (preorder (tuple_tree (rename_tuple ks next l))),
      length-append (tuple_words k) (tuple_words l),
      renamed_size ks next k,
      renamed_size ks next l,
    )

module _ (types : ℕ → Ty) (positions : ℕ) (m : Memory) (x : Redex) (r : StateNumbers) (n l : Node) (v : Tree) (hs : List Hole)
    (I : List Wire) (gs : List Gate) (Cs : List Circuit) (K : List Boxed) (T : Ty) (copied : List Gate) (y : Tuple)
    (h : HoldsParts types positions m r (returning v (second n (leaf l) ∷ hs)) (circuit I gs ∷ Cs) K) where
  -- What was read is of the closed circuit with the constant's number and of the innermost frame.
  pub constant_known : argument l < length K
      → length Cs ≡ open_boxes hs
      → circuit_at K (argument l) ≡ boxed T copied y
      → RedexRead m.nodes m.stack m.gates m.circuits m.frames (r.place.depth - 1) (r.counts.frames - 1) x
      → (earlier : ℕ) × ConstantKnown types positions m x r n l v hs I gs Cs K T copied y earlier
  constant_known below boxes e read =
      let b = h.built in
      let redex : SecondRedex m.nodes m.stack r.place (second n (leaf l)) (leaf l) v hs x.at x.start
      = second_redex m.nodes m.stack r.place hs n (leaf l) v x.at x.start h.walk_held read.at_is
      read.start_is in
      let index : x.index ≡ argument l
      = read.index_is ∙ ap argument (first_leaf m.nodes m.stack r.place hs n l v x.at h.walk_held read.at_is) in
      let found : ClosedAt types positions m.gates m.circuits m.results (closed_gates K) x.index (boxed T copied y)
      = subst
      (λ i. ClosedAt types positions m.gates m.circuits m.results (closed_gates K) i (boxed T copied y))
      (sym index)
      (subst
      (ClosedAt types positions m.gates m.circuits m.results (closed_gates K) (argument l))
      e
      (closed_at_lem types positions m.gates m.circuits m.results K (argument l) b.circuits_held.closed_held below)) in
      let held : HoldsBoxed types positions m.gates m.circuits m.results x.index found.0 T copied y = found.2 in
      let frame : r.counts.frames - 1 ≡ length Cs = omega (arith, b.counted.frames_are) in
      let top : quadword_at m.frames (r.counts.frames - 1) ≡ quadword (open_gates Cs) (wire_count (circuit I gs)) (length I) 0
      = ap (quadword_at m.frames) frame ∙ b.frames_held.0 in
      let first : x.first ≡ closed_from + found.0 = read.first_is ∙ held.first in
      let many : x.gates ≡ length copied = read.gates_are ∙ held.many in
      let few : open_gates (circuit I gs ∷ Cs) + closed_gates K ≤ most_gates = b.few_gates in
      let few_earlier : found.0 + length copied ≤ closed_gates K = found.1 in
      let inside : x.first + x.gates ≤ length m.gates
      = omega (arith, b.roomy.gates_room) in (
        found.0,
        record {
          redex = redex;
          few_earlier = few_earlier;
          held = held;
          next_is = read.next_is ∙ ap (λ q. word_in q 1) top;
          base_is = read.base_is ∙ ap (λ q. word_in q 0) top;
          inputs_are = read.inputs_are ∙ ap (λ q. word_in q 2) top;
          made_are =
              read.made_are inside
              ∙ ap₂ (λ i c. length (outputs (gates_in m.gates i c))) first many
              ∙ ap (λ c. length (outputs c)) held.gates;
          gates_are = many;
          nodes_are = read.nodes_are ∙ held.size;
          frame_is = frame;
          frame_inside =
              omega (
                arith,
                frames_few m.nodes m.stack r.place v (second n (leaf l) ∷ hs) Cs h.walk_held boxes,
                b.roomy.frames_room,
              );
          few_next = omega (arith, next_number_lem I gs, few_outputs gs, b.frames_held.1);
        },
      )

  module _ (k : Tuple) (earlier : ℕ) (d : ConstantKnown types positions m x r n l v hs I gs Cs K T copied y earlier) where
    -- The reduct has as many nodes as the result has words.
    reduct_size : length (preorder (tuple_tree (returned (circuit I gs) k (boxed T copied y)))) ≡ x.nodes
    reduct_size = renamed_size (labels k) (wire_count (circuit I gs)) y ∙ sym d.nodes_are

    -- The sizes after the step.
    nodes_after_lem : length (before hs ++ (preorder (tuple_tree (returned (circuit I gs) k (boxed T copied y))) ++ after hs))
        ≡ x.at + x.nodes + (length m.nodes - r.place.right)
    nodes_after_lem =
        let t = preorder (tuple_tree (returned (circuit I gs) k (boxed T copied y))) in
        omega (
          arith,
          length-append (before hs) (t ++ after hs),
          length-append t (after hs),
          reduct_size,
          d.redex.hole.at_is,
          back_length h.walk_held.buffer,
        )

    gates_after : open_gates (appended (circuit I gs) k (boxed T copied y) ∷ Cs) + closed_gates K
        ≡ r.counts.gates + r.counts.kept + x.gates
    gates_after =
        let next = wire_count (circuit I gs) in
        omega (
          arith,
          length-append (map (rename_gate (labels k) next) copied) gs,
          length-map copied (rename_gate (labels k) next),
          d.gates_are,
          h.built.counted.gates_are,
          h.built.counted.closed_are,
        )

    -- Where the state after the step fits, there is room.
    pub room_needed : (allowance : ℕ)
        → PartsFit
        allowance
        (evaluating (tuple_tree (returned (circuit I gs) k (boxed T copied y))) hs)
        (appended (circuit I gs) k (boxed T copied y) ∷ Cs)
        K
        → Room x r (length m.nodes) allowance
    room_needed allowance fit =
        record {
          argument_before = omega (arith, d.redex.ends);
          inside = h.walk_held.buffer.inside;
          gap =
              omega (
                arith,
                d.nodes_are,
                d.held.short,
                gap_wide m.nodes m.stack r.place (returning v (second n (leaf l) ∷ hs)) h.walk_held,
              );
          few_made = omega (arith, d.made_are, few_outputs copied, d.few_earlier, h.built.few_gates);
          nodes_fit = omega (arith, nodes_after_lem, fit.nodes_fit);
          gates_fit = omega (arith, gates_after, fit.gates_fit);
        }

    -- Where there is room, it fits.
    pub room_fits : (allowance : ℕ)
        → Room x r (length m.nodes) allowance
        → length K ≤ most_boxes
        → PartsFit
        allowance
        (evaluating (tuple_tree (returned (circuit I gs) k (boxed T copied y))) hs)
        (appended (circuit I gs) k (boxed T copied y) ∷ Cs)
        K
    room_fits allowance room few =
        record {
          nodes_fit = omega (arith, nodes_after_lem, room.nodes_fit);
          gates_fit = omega (arith, gates_after, room.gates_fit);
          boxes_fit = few;
        }

    module _ (allowance : ℕ) (room : Room x r (length m.nodes) allowance) (small : allowance ≤ most_gates)
        (read : RedexRead m.nodes m.stack m.gates m.circuits m.frames (r.place.depth - 1) (r.counts.frames - 1) x)
        (e : tuple_of_tree v ≡ some k) (typed : ConstantTyped v k T copied y) (wide : ℕ) (enough : most_entries ≤ wide)
        (ns' : List Node) (gs' fs' : List Quadword) (ls : List ℕ) (found : ℕ)
        (w : ConstantWritten m.nodes ns' wide m.gates gs' m.frames fs' m.results x r ls found) where
      -- The labels of the argument are collected.
      labels_found : LabelsCollected k ls found
      labels_found =
          let size : r.place.left - x.start ≡ length (preorder v) = omega (arith, d.redex.ends) in
          w.collected v k e d.redex.second_at size (omega (arith, typed.argument_nodes, typed.bounded))

      -- There is room for all of them.
      labels_enough : found ≤ length ls
      labels_enough =
          omega (
            arith,
            labels_found.number,
            typed.as_many,
            wires_few T,
            typed.bounded,
            w.labels_room,
          )

      -- The closed circuit has few wires.
      wires_low : length (wires T ++ outputs copied) ≤ most_entries + gate_slot_count * most_gates
      wires_low =
          omega (arith, few_wires (wires T) copied, wires_few T, typed.bounded, d.few_earlier, h.built.few_gates)

      -- The new numbers are 16-bit numbers.
      numbers_low : x.next + length (wires T ++ outputs copied) ≤ no_wire
      numbers_low = omega (arith, d.next_is, d.few_next, wires_low)

      -- The gates are copied behind those of the innermost circuit, which is then the appended one.
      gates_copied : GatesCopied m.gates gs' (word_in (quadword_at m.circuits x.index) 1)
          (word_in (quadword_at m.circuits x.index) 2)
          (open_gates (circuit I gs ∷ Cs))
          (take found ls)
          (wire_count (circuit I gs))
      gates_copied =
          let fits : CopyFits m.gates (word_in (quadword_at m.circuits x.index) 1) (word_in (quadword_at m.circuits x.index) 2)
          r.counts.gates (length ls) found x.next (length (wires T ++ outputs copied))
          = closed_copy_fits types positions m.gates m.circuits m.results x.index earlier T copied y r.counts.gates
          (length ls) found x.next d.held typed.takes
          (omega (arith, d.gates_are, room.gates_fit))
          (omega (arith, d.few_earlier, h.built.few_gates, h.built.roomy.gates_room))
          labels_enough
          numbers_low in
          let done : GatesCopied m.gates gs' x.first x.gates r.counts.gates (take found ls) x.next
          = w.copied (length (wires T ++ outputs copied)) (rw (read.first_is, read.gates_are) fits) in
          subst
          (λ i. GatesCopied m.gates gs' i (word_in (quadword_at m.circuits x.index) 2) (open_gates (circuit I gs ∷ Cs))
          (take found ls) (wire_count (circuit I gs)))
          read.first_is
          (subst
          (λ c. GatesCopied m.gates gs' x.first c (open_gates (circuit I gs ∷ Cs)) (take found ls) (wire_count (circuit I gs)))
          read.gates_are
          (subst
          (λ to. GatesCopied m.gates gs' x.first x.gates to (take found ls) (wire_count (circuit I gs)))
          h.built.counted.gates_are
          (subst (GatesCopied m.gates gs' x.first x.gates r.counts.gates (take found ls)) d.next_is done)))

      circuits_after : HoldsCircuits types positions gs' m.circuits m.results (appended (circuit I gs) k (boxed T copied y) ∷ Cs) K
      circuits_after =
          constant_applied types positions m.gates gs' m.circuits m.results I gs copied Cs K k y T x.index earlier ls found
          h.built.circuits_held
          d.held
          labels_found
          gates_copied
          (omega (arith, h.built.counted.gates_are, d.gates_are, room.gates_fit))

      -- The result stands before what is still to be walked.
      reduct_loaded : ns'
          ≡ over m.nodes (r.place.right - x.nodes) (preorder (tuple_tree (returned (circuit I gs) k (boxed T copied y))))
      reduct_loaded =
          let to = r.place.right - x.nodes in
          let fits : ResultFits y (length (wires T ++ outputs copied)) (m.results (x.index / results_each))
          (most_result * (x.index % results_each)) (word_in (quadword_at m.circuits x.index) 3) (length m.nodes) to (length ls) found x.next
          = closed_result_fits types positions m.gates m.circuits m.results x.index earlier T copied y
          (length (wires T ++ outputs copied)) (length m.nodes) to (length ls) found x.next d.held typed.below
          (omega (arith, d.nodes_are, room.gap, room.inside))
          labels_enough
          (omega (arith, wires_low))
          numbers_low in
          w.loaded y (length (wires T ++ outputs copied))
          (subst
          (λ c. ResultFits y (length (wires T ++ outputs copied)) (m.results (x.index / results_each))
          (most_result * (x.index % results_each)) c (length m.nodes) to (length ls) found x.next)
          (sym read.nodes_are)
          fits)
          ∙ ap (λ j. over m.nodes to (result_nodes y (take found ls) j)) d.next_is
          ∙ ap (over m.nodes to) (result_returned (circuit I gs) k y T copied ls found labels_found)

      -- The walk goes on with the result.
      walk_after : Holds ns' m.stack (numbers_after x r).place
          (evaluating (tuple_tree (returned (circuit I gs) k (boxed T copied y))) hs)
      walk_after =
          let t = tuple_tree (returned (circuit I gs) k (boxed T copied y)) in
          let to = r.place.right - x.nodes in
          let end : to + length (preorder t) ≡ r.place.right = omega (arith, reduct_size, room.gap) in
          subst
          (λ ns. Holds ns m.stack (numbers_after x r).place (evaluating t hs))
          (sym reduct_loaded)
          (reduct_written m.nodes m.stack r.place (second n (leaf l)) hs v t x.at to h.walk_held read.at_is
          (ap (λ j. drop j m.nodes) end ∙ d.redex.behind)
          (omega (
            arith,
            d.redex.hole.under_left,
            d.nodes_are,
            d.held.short,
            gap_wide m.nodes m.stack r.place (returning v (second n (leaf l) ∷ hs)) h.walk_held,
          ))
          (omega (arith, end, room.inside))
          (omega (arith, room.gap, room.inside, room.nodes_fit)))

      -- The frame's quadword has the next number.
      frames_after : HoldsFrames fs' (appended (circuit I gs) k (boxed T copied y) ∷ Cs)
      frames_after =
          let C = appended (circuit I gs) k (boxed T copied y) in
          let base : x.base % 65536 ≡ open_gates Cs = omega (arith, d.base_is, h.built.few_gates) in
          let next : (x.next + x.made) % 65536 ≡ wire_count C
          = omega (
            arith,
            d.next_is,
            d.few_next,
            d.made_are,
            few_outputs copied,
            d.few_earlier,
            h.built.few_gates,
            next_appended (circuit I gs) k y T copied,
          ) in
          let wide_enough : x.inputs % 65536 ≡ length I = omega (arith, d.inputs_are, h.built.frames_held.1) in
          frames_top_set m.frames fs' (circuit I gs) C Cs h.built.frames_held d.frame_inside
          (w.framed
          ∙ ap (λ i. set m.frames i (quadword (x.base % 65536) ((x.next + x.made) % 65536) (x.inputs % 65536) 0)) d.frame_is
          ∙ ap (λ a. set m.frames (length Cs) (quadword a ((x.next + x.made) % 65536) (x.inputs % 65536) 0)) base
          ∙ ap (λ a. set m.frames (length Cs) (quadword (open_gates Cs) a (x.inputs % 65536) 0)) next
          ∙ ap (λ a. set m.frames (length Cs) (quadword (open_gates Cs) (wire_count C) a 0)) wide_enough)
          h.built.frames_held.1

      -- The memory holds the state after the step.
      pub constant_held : HoldsParts types positions
          (memory ns' m.stack gs' m.circuits fs' m.types m.results)
          (numbers_after x r)
          (evaluating (tuple_tree (returned (circuit I gs) k (boxed T copied y))) hs)
          (appended (circuit I gs) k (boxed T copied y) ∷ Cs)
          K
      constant_held =
          let b = h.built in
          let next = wire_count (circuit I gs) in
          record {
            walk_held = walk_after;
            built =
                record {
                  circuits_held = circuits_after;
                  frames_held = frames_after;
                  counted =
                      record {
                        frames_are = b.counted.frames_are;
                        gates_are =
                            omega (
                              arith,
                              b.counted.gates_are,
                              d.gates_are,
                              length-append (map (rename_gate (labels k) next) copied) gs,
                              length-map copied (rename_gate (labels k) next),
                            );
                        boxes_are = b.counted.boxes_are;
                        closed_are = b.counted.closed_are;
                      };
                  roomy =
                      record {
                        gates_room = omega (arith, b.roomy.gates_room, w.quadwords_kept);
                        circuits_room = b.roomy.circuits_room;
                        frames_room = omega (arith, b.roomy.frames_room, simp length-set at (ap length w.framed));
                        result_words = b.roomy.result_words;
                      };
                  few_gates = omega (arith, gates_after, room.gates_fit);
                  few_boxes = b.few_boxes;
                };
            types_held = h.types_held;
          }
