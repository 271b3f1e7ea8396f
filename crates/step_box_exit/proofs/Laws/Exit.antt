-- After box exit the memory holds the next configuration, and the 257th box exit does not fit.
use Rattle.std.specs.Prelude.{ℕ, ◌+◌, ◌-◌, ◌*◌, ◌/◌, ◌%◌, ◌≤◌, ◌<◌, ◌≡◌, false, List, ◌∷◌, length, set, drop, Some, None}
use Rattle.std.proofs.Common.{arith, sym, ◌∙◌, ap, subst, length-set, length-append}
use Rattle.std.proofs.Math.Decide.{ℕ_discrete}
use Rattle.std.proofs.Math.Option.{some}
use Rattle.rules.specs.Kinds.{constant_kind}
use Rattle.rules.specs.Types.{Wire, Ty, most_entries}
use Rattle.rules.specs.Terms.{Tuple, Gate, Boxed, boxed}
use Rattle.rules.specs.Circuits.{Circuit, circuit}
use Rattle.rules.specs.Sizes.{closed_gates, most_nodes, most_gates, most_boxes}
use Rattle.machine_terms.specs.Trees.{Node, node, argument, PositionFits, Tree, leaf, preorder, tuple_of_tree}
use Rattle.machine_terms.specs.Holes.{Hole, opened, before, after}
use Rattle.machine_terms.specs.Walks.{evaluating, returning, at_exit, Stopped}
use Rattle.machine_terms.specs.States.{State, state, open_gates}
use Rattle.machine_terms.specs.Forms.{Contracts, contracts_application, contracts_let, contracts_force, contracts_gate}
use Rattle.machine_terms.specs.Forms.{contracts_constant, contracts_box, contracts_exit}
use Rattle.machine_terms.proofs.Laws.Tuples.{is_tuple, tuple_nodes}
use Rattle.machine_terms.proofs.Laws.Typed.{typed_exit}
use Rattle.machine_nodes.specs.Nodes.{node_at}
use Rattle.words.specs.Regions.{over, Stands}
use Rattle.words.proofs.Laws.Regions.{over_one, length_over}
use Rattle.machine_walk.specs.Stack.{stack_node}
use Rattle.machine_walk.specs.Places.{Holds}
use Rattle.machine_walk.proofs.Laws.Redexes.{SecondRedex, node_count, exit_redex, reduct_written}
use Rattle.machine_walk.specs.declared.Place.{Place}
use Rattle.words.specs.Quadwords.{Quadword, quadword, quadword_at, word_in}
use Rattle.machine_circuits.specs.Layout.{tuple_words, closed_from, most_result, results_each}
use Rattle.machine_circuits.specs.Copies.{GatesMoved}
use Rattle.machine_circuits.proofs.Laws.Tuples.{tuple_size}
use Rattle.machine_circuits.specs.Applying.{HoldsCircuits}
use Rattle.machine_circuits.proofs.Laws.Applying.{box_left}
use Rattle.machine_state.specs.Memory.{Memory, memory, Counted, HoldsBuilt}
use Rattle.machine_state.specs.Outcomes.{SizesFit, walk_of, AtStop, Outcome, Steps}
use Rattle.machine_state.specs.declared.Counts.{Counts}
use Rattle.machine_state.specs.declared.StateNumbers.{StateNumbers}
use Rattle.step_box_exit.specs.declared.Exit.{Exit}
use Rattle.step_box_exit.specs.Closing.{ExitAt, ResultSaved, Saves, CircuitPut, ConstantPut, after_exit}
use Rattle.step_box_exit.proofs.Laws.Closing.{Innermost, InResults}

-- Where buffer b is the one with the slot of closed circuit i and the result is written there, the result is saved.
pub saves_in : (ns : List Node) (e : Exit) (results results' : ℕ → List ℕ) (i b from : ℕ)
    → (i < most_boxes → b ≡ i / results_each)
    → from ≡ most_result * (i % results_each)
    → ((v : Tree) (k : Tuple)
    → tuple_of_tree v ≡ some k
    → Stands ns e.start (preorder v)
    → e.nodes ≡ length (preorder v)
    → from + e.nodes ≤ length (results b)
    → results' b ≡ over (results b) from (tuple_words k))
    → ((c : ℕ) → (c ≡ b → ⊥) → results' c ≡ results c)
    → Saves ns e i results results'
saves_in ns e results results' i b from buffer start writes kept v k tuple stands many few inside =
    let here : b ≡ i / results_each = buffer few in
    let long : length (results b) ≡ length (results (i / results_each)) = ap (λ c. length (results c)) here in
    record {
      result_saved =
          ap results' (sym here)
          ∙ writes v k tuple stands many (omega arith)
          ∙ ap (λ j. over (results b) j (tuple_words k)) start
          ∙ ap (λ c. over (results c) (most_result * (i % results_each)) (tuple_words k)) here;
      others_kept = λ c other. kept c (λ same. other (same ∙ here));
    }

-- The result buffers are as long as before.
saved_lengths : (results results' : ℕ → List ℕ) (i : ℕ) (k : Tuple)
    → ResultSaved results results' i k
    → most_result * (i % results_each) + length (tuple_words k) ≤ length (results (i / results_each))
    → (b : ℕ)
    → length (results' b) ≡ length (results b)
saved_lengths results results' i k saved inside b = of (ℕ_discrete b (i / results_each))
  where
    of : Dec (b ≡ i / results_each) → length (results' b) ≡ length (results b)
    of (no other) = ap length (saved.others_kept b other)
    of (yes same) =
        ap (λ c. length (results' c)) same
        ∙ ap length saved.result_saved
        ∙ length_over (results (i / results_each)) (most_result * (i % results_each)) (tuple_words k) inside
        ∙ ap (λ c. length (results c)) (sym same)

-- A label tuple has as many words as its tree has nodes.
words_many : (v : Tree) (k : Tuple) → tuple_of_tree v ≡ some k → length (tuple_words k) ≡ length (preorder v)
words_many v k e = sym (tuple_size k) ∙ sym (tuple_nodes (is_tuple v k e))

-- The nodes of box, lift and result become the constant's, which is evaluated next.
walk_after : (ns ns' : List Node) (rs : List Quadword) (p : Place) (n : Node) (b v : Tree) (hs : List Hole)
    (at start number : ℕ)
    → Holds ns rs p (returning v (opened n b ∷ hs))
    → SecondRedex ns rs p (opened n b) b v hs at start
    → at ≡ stack_node (quadword_at rs (p.depth - 1))
    → ns' ≡ set ns (p.right - 1) (node constant_kind number)
    → Holds
    ns'
    rs
    (record { left = at; right = p.right - 1; depth = p.depth - 1; returning = false })
    (evaluating (leaf (node constant_kind number)) hs)
walk_after ns ns' rs p n b v hs at start number held redex at_is put =
    let below : at < p.left = redex.hole.under_left in
    let apart : p.left ≤ p.right = held.buffer.apart in
    let inside : p.right ≤ length ns = held.buffer.inside in
    let front : p.right - 1 + 1 ≡ p.right = omega arith in
    let many = node_count ns rs p (returning v (opened n b ∷ hs)) held in
    let few : p.left + (length ns - p.right) ≤ most_nodes = omega (arith, held.few) in
    subst
    (λ l. Holds
    l
    rs
    (record { left = at; right = p.right - 1; depth = p.depth - 1; returning = false })
    (evaluating (leaf (node constant_kind number)) hs))
    (sym (put ∙ over_one ns (p.right - 1) (node constant_kind number) (omega arith)))
    (reduct_written ns rs p (opened n b) hs v (leaf (node constant_kind number)) at (p.right - 1) held at_is
    (ap (λ i. drop i ns) front ∙ redex.behind)
    (omega arith)
    (omega arith)
    (omega arith))

-- What the frame's quadword and the counts say of the innermost frame's circuit.
innermost : (types : ℕ → Ty) (positions : ℕ) (m : Memory) (r : StateNumbers) (e : Exit) (I : List Wire) (gs : List Gate) (C : Circuit)
    (Cs : List Circuit) (K : List Boxed)
    → HoldsBuilt types positions m r.counts (circuit I gs ∷ C ∷ Cs) K
    → ExitAt m.stack m.frames r e
    → Innermost e r.counts gs (C ∷ Cs) K
innermost types positions m r e I gs C Cs K held x =
    let n = held.counted in
    let top : r.counts.frames - 1 ≡ length (C ∷ Cs) = omega (arith, n.frames_are) in
    let base : e.base ≡ open_gates (C ∷ Cs)
    = x.base_is ∙ ap (λ i. word_in (quadword_at m.frames i) 0) top ∙ ap (λ f. word_in f 0) held.frames_held.0 in
    record {
      base_is = base;
      gates_are = omega (arith, n.gates_are, x.gates_are);
      boxes_are = n.boxes_are;
      closed_are = n.closed_are;
    }

-- The circuit is closed: its gates, its quadword and its result stand where they are to stand.
circuit_closed : (types : ℕ → Ty) (positions : ℕ) (gs gs' cs cs' : List Quadword) (results results' : ℕ → List ℕ) (e : Exit) (n : Counts)
    (I : List Wire) (hs : List Gate) (Cs : List Circuit) (K : List Boxed) (position : ℕ) (k : Tuple)
    → position < positions
    → HoldsCircuits types positions gs cs results (circuit I hs ∷ Cs) K
    → Innermost e n hs Cs K
    → CircuitPut gs gs' cs cs' e n position
    → InResults results results' (length K) k e.nodes
    → open_gates (circuit I hs ∷ Cs) + closed_gates K ≤ most_gates
    → closed_from + most_gates ≤ length gs
    → length K < length cs
    → HoldsCircuits types positions gs' cs' results' Cs (boxed (types position) hs k ∷ K)
circuit_closed types positions gs gs' cs cs' results results' e n I hs Cs K position k real held x put slot few rows room =
    let base : e.base ≡ open_gates Cs = x.base_is in
    let gates : e.gates ≡ length hs = x.gates_are in
    let to : closed_from + n.kept ≡ closed_from + closed_gates K = ap (λ i. closed_from + i) x.closed_are in
    let boxes : n.boxes ≡ length K = x.boxes_are in
    let nodes : e.nodes ≡ length (tuple_words k) = slot.many in
    let short : length (tuple_words k) ≤ most_result = slot.short in
    let moved : GatesMoved gs gs' e.base e.gates (closed_from + n.kept)
    = put.moved (omega arith) (omega arith) in
    let low : position % 65536 ≡ position = omega (arith, put.low_position) in
    let low_first : (closed_from + n.kept) % 65536 ≡ closed_from + closed_gates K = omega arith in
    let low_gates : e.gates % 65536 ≡ length hs = omega arith in
    let low_nodes : e.nodes % 65536 ≡ length (tuple_words k) = omega arith in
    let quadword_is : cs' ≡ set cs (length K) (quadword position (closed_from + closed_gates K) (length hs) (length (tuple_words k)))
    = cc put.circuit_put in
    box_left types positions gs gs' cs cs' results results' I hs Cs K position k real held
    (subst (λ i. GatesMoved gs gs' i (length hs) (closed_from + closed_gates K)) base
    (subst (λ i. GatesMoved gs gs' e.base i (closed_from + closed_gates K)) gates
    (subst (λ i. GatesMoved gs gs' e.base e.gates i) to moved)))
    short
    (record {
      circuit_put = quadword_is;
      room = room;
      result_saved = slot.saved.result_saved;
      slot_inside = omega (arith, slot.inside);
      others_kept = slot.saved.others_kept;
    })

-- The counts after box exit.
counts_after : (r : StateNumbers) (e : Exit) (I : List Wire) (gs : List Gate) (C : Circuit) (Cs : List Circuit)
    (K : List Boxed) (T : Ty) (k : Tuple)
    → Counted r.counts (circuit I gs ∷ C ∷ Cs) K
    → Innermost e r.counts gs (C ∷ Cs) K
    → Counted (after_exit r e).counts (C ∷ Cs) (boxed T gs k ∷ K)
counts_after r e I gs C Cs K T k n x =
    record {
      frames_are = omega (arith, n.frames_are);
      gates_are = x.base_is;
      boxes_are = omega (arith, x.boxes_are);
      closed_are = omega (arith, x.closed_are, x.gates_are);
    }

-- The slot of closed circuit i has room for a result of a type within the bound.
result_room : (results : ℕ → List ℕ) (i size : ℕ)
    → ((b : ℕ) → b < 4 → most_result * results_each ≤ length (results b))
    → i < most_boxes
    → size ≤ most_entries
    → most_result * (i % results_each) + size ≤ length (results (i / results_each))
result_room results i size long few small =
    let buffer : i / results_each < 4 = omega arith in
    let slot : i % results_each < results_each = omega arith in
    omega (arith, long (i / results_each) buffer)

-- The circuits and frames after box exit.
built_after : (types : ℕ → Ty) (positions : ℕ) (ns ns' : List Node) (rs : List Quadword) (gs gs' cs cs' fs : List Quadword) (ws : List ℕ)
    (results results' : ℕ → List ℕ) (r : StateNumbers) (e : Exit) (I : List Wire) (hs : List Gate) (C : Circuit)
    (Cs : List Circuit) (K : List Boxed) (position : ℕ) (k : Tuple)
    → position < positions
    → HoldsBuilt types positions (memory ns rs gs cs fs ws results) r.counts (circuit I hs ∷ C ∷ Cs) K
    → ExitAt rs fs r e
    → CircuitPut gs gs' cs cs' e r.counts position
    → InResults results results' (length K) k e.nodes
    → length K < most_boxes
    → HoldsBuilt types positions (memory ns' rs gs' cs' fs ws results') (after_exit r e).counts (C ∷ Cs)
    (boxed (types position) hs k ∷ K)
built_after types positions ns ns' rs gs gs' cs cs' fs ws results results' r e I hs C Cs K position k real held exit_at put slot few =
    let x = innermost types positions (memory ns rs gs cs fs ws results) r e I hs C Cs K held exit_at in
    let gates : open_gates (circuit I hs ∷ C ∷ Cs) + closed_gates K ≤ most_gates = held.few_gates in
    let gates_room : closed_from + most_gates ≤ length gs = held.roomy.gates_room in
    let circuits_room : most_boxes ≤ length cs = held.roomy.circuits_room in
    let as_many : length cs' ≡ length cs = ap length put.circuit_put ∙ simp length-set in
    let same = saved_lengths results results' (length K) k slot.saved slot.inside in
    record {
      circuits_held =
          circuit_closed types positions gs gs' cs cs' results results' e r.counts I hs (C ∷ Cs) K position k real
          held.circuits_held x put slot gates (omega arith) (omega arith);
      frames_held = held.frames_held.2;
      counted = counts_after r e I hs C Cs K (types position) k held.counted x;
      roomy =
          record {
            gates_room = omega (arith, put.as_many_quadwords);
            circuits_room = omega arith;
            frames_room = held.roomy.frames_room;
            result_words = λ b h. omega (arith, held.roomy.result_words b h, same b);
          };
      few_gates = omega arith;
      few_boxes = omega arith;
    }

module _ (ns ns' : List Node) (rs : List Quadword) (gs gs' cs cs' fs : List Quadword) (ws : List ℕ)
    (results results' : ℕ → List ℕ) (r : StateNumbers) (e : Exit)
    (few_boxes : r.counts.boxes < most_boxes)
    (exit_at : ExitAt rs fs r e)
    (saves : Saves ns e r.counts.boxes results results')
    (put : CircuitPut gs gs' cs cs' e r.counts (argument (node_at ns e.at)))
    (constant_put : ConstantPut ns ns' r) where
  -- The result of a typed box fits its slot.
  in_results : (types : ℕ → Ty) (positions : ℕ) (A : Ty) (n : Node) (b v : Tree) (hs : List Hole) (C : Circuit)
      (Cs : List Circuit) (K : List Boxed) (k : Tuple)
      → AtStop types positions A (memory ns rs gs cs fs ws results) r (state (returning v (opened n b ∷ hs)) C Cs K) at_exit
      → SecondRedex ns rs r.place (opened n b) b v hs e.at e.start
      → tuple_of_tree v ≡ some k
      → InResults results results' (length K) k e.nodes
  in_results types positions A n b v hs C Cs K k stop redex q =
      let short = typed_exit types positions n b v hs C Cs K k stop.fits stop.typed q in
      let boxes : r.counts.boxes ≡ length K = stop.held.built.counted.boxes_are in
      let size = words_many v k q in
      let nodes : e.nodes ≡ length (preorder v) = omega (arith, exit_at.nodes_are, redex.ends) in
      let long = stop.held.built.roomy.result_words in
      record {
        short = omega arith;
        many = omega arith;
        inside = result_room results (length K) (length (tuple_words k)) long (omega arith) (omega arith);
        saved =
            subst (λ i. ResultSaved results results' i k) boxes
            (saves v k q redex.second_at nodes few_boxes
            (result_room results r.counts.boxes e.nodes long few_boxes (omega arith)));
      }

  -- The configuration after box exit fits, and it is held.
  exit_taken : (types : ℕ → Ty) (positions allowance : ℕ) (A : Ty) (n : Node) (b v : Tree) (hs : List Hole)
      (I : List Wire) (gates : List Gate) (C : Circuit) (Cs : List Circuit) (K : List Boxed) (k : Tuple)
      → AtStop types positions A (memory ns rs gs cs fs ws results) r
      (state (returning v (opened n b ∷ hs)) (circuit I gates) (C ∷ Cs) K) at_exit
      → SizesFit allowance (state (returning v (opened n b ∷ hs)) (circuit I gates) (C ∷ Cs) K)
      → tuple_of_tree v ≡ some k
      → Outcome types positions allowance r (memory ns rs gs cs fs ws results) (memory ns' rs gs' cs' fs ws results')
      (state (evaluating (leaf (node constant_kind (length K))) hs) C Cs (boxed (types (argument n)) gates k ∷ K))
      (Some (after_exit r e))
  exit_taken types positions allowance A n b v hs I gates C Cs K k stop sizes q =
      let held = stop.held.walk_held in
      let redex = exit_redex ns rs r.place hs n b v e.at e.start held exit_at.at_is exit_at.start_is in
      let boxes : r.counts.boxes ≡ length K = stop.held.built.counted.boxes_are in
      let low : r.counts.boxes % 65536 ≡ length K = omega arith in
      let walk =
      walk_after ns ns' rs r.place n b v hs e.at e.start (length K) held redex exit_at.at_is
      (constant_put ∙ ap (λ i. set ns (r.place.right - 1) (node constant_kind i)) low) in
      let input : argument (node_at ns e.at) ≡ argument n = ap argument redex.hole.node_is in
      let box_fits = stop.fits.0.2.0 in
      let real : argument n < positions = subst (λ c. PositionFits c positions (argument n)) box_fits.1 box_fits.0.1 in
      let slot = in_results types positions A n b v hs (circuit I gates) (C ∷ Cs) K k stop redex q in (
        record {
          nodes_fit = omega (arith, walk.few, length-append (before hs) (node constant_kind (length K) ∷ after hs));
          gates_fit = omega (arith, sizes.gates_fit);
          boxes_fit = omega arith;
        },
        record {
          walk_held = walk;
          built =
              built_after types positions ns ns' rs gs gs' cs cs' fs ws results results' r e I gates C Cs K (argument n) k real
              stop.held.built exit_at (subst (CircuitPut gs gs' cs cs' e r.counts) input put) slot (omega arith);
          types_held = stop.held.types_held;
        },
      )

  -- The contract of box exit where one more circuit may be closed.
  pub exit_steps : (r' : StateNumbers) (allowance : ℕ)
      → r' ≡ after_exit r e
      → Steps at_exit allowance (memory ns rs gs cs fs ws results) (memory ns' rs gs' cs' fs ws results') r (Some r')
  exit_steps r' allowance after_is types positions A s s' most stop sizes contracts =
      subst
      (λ t. Outcome types positions allowance r (memory ns rs gs cs fs ws results) (memory ns' rs gs' cs' fs ws results') s'
      (Some t))
      (sym after_is)
      (of s s' contracts stop sizes stop.stopped)
    where
      of : (s s' : State)
          → Contracts types s s'
          → AtStop types positions A (memory ns rs gs cs fs ws results) r s at_exit
          → SizesFit allowance s
          → Stopped (walk_of s) at_exit
          → Outcome types positions allowance r (memory ns rs gs cs fs ws results) (memory ns' rs gs' cs' fs ws results') s'
          (Some (after_exit r e))
      of s s' (contracts_application p q) stop sizes w = elim w [ ]
      of s s' (contracts_let p q) stop sizes w = elim w [ ]
      of s s' (contracts_force p q) stop sizes w = elim w [ ]
      of s s' (contracts_gate T U k p q g t) stop sizes w = elim w [ ]
      of s s' (contracts_constant k p q t) stop sizes w = elim w [ ]
      of s s' (contracts_box p q) stop sizes w = elim w [ ]
      of s s' (contracts_exit {n} {b} {v} {hs} {I} {gs = gates} {C} {Cs} {closed} k q) stop sizes w =
          exit_taken types positions allowance A n b v hs I gates C Cs closed k stop sizes q

-- Where as many circuits are closed as may be, one more does not fit, and nothing is changed.
pub exit_refused : (m : Memory) (r : StateNumbers) (allowance : ℕ)
    → (r.counts.gates ≤ most_gates → r.counts.kept ≤ most_gates → most_boxes ≤ r.counts.boxes)
    → Steps at_exit allowance m m r None
exit_refused m r allowance full types positions A s s' most stop sizes contracts =
    (of s s' contracts stop stop.stopped, λ _ held. held)
  where
    of : (s s' : State)
        → Contracts types s s'
        → AtStop types positions A m r s at_exit
        → Stopped (walk_of s) at_exit
        → SizesFit allowance s'
        → ⊥
    of s s' (contracts_application p q) stop w fits = elim w [ ]
    of s s' (contracts_let p q) stop w fits = elim w [ ]
    of s s' (contracts_force p q) stop w fits = elim w [ ]
    of s s' (contracts_gate T U k p q g t) stop w fits = elim w [ ]
    of s s' (contracts_constant k p q t) stop w fits = elim w [ ]
    of s s' (contracts_box p q) stop w fits = elim w [ ]
    of s s' (contracts_exit {closed = K} k q) stop w fits =
        let built = stop.held.built in
        let few = built.few_gates in
        let n = built.counted in
        let boxes : most_boxes ≤ r.counts.boxes
        = full (omega (arith, n.gates_are)) (omega (arith, n.closed_are)) in
        omega (arith, n.boxes_are, fits.boxes_fit)
