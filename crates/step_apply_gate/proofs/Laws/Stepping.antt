-- The contract of a step, met by apply of a gate: at each of the three ends of the code.
use Rattle.std.specs.Prelude.{ℕ, ◌+◌, ◌-◌, ◌%◌, ◌≤◌, ◌<◌, refl, false, List, ◌∷◌, ◌++◌, set, take, drop, Option, Some, None}
use native.Mathlib.Omega.{arith}
use Rattle.std.proofs.Math.Path.{◌≡◌, sym, ap}
use Rattle.std.proofs.Common.{◌∙◌, subst, length-append, length-drop, length-set}
use Rattle.std.proofs.Math.Option.{some}
use Rattle.std.proofs.Math.ListN.{length}
use Rattle.rules.specs.Kinds.{gate_term_kind}
use Rattle.rules.specs.Types.{Wire, Ty, wires, entries, most_entries}
use Rattle.rules.specs.Gates.{◌to◌, gate_type, output_wires, wires_in, wires_out}
use Rattle.rules.specs.Terms.{Tuple, labels, tuple_from, Gate, ◌on◌, Boxed}
use Rattle.rules.specs.Circuits.{Circuit, circuit, wire_count, appended, returned, gate_boxed}
use Rattle.rules.specs.Sizes.{closed_gates, most_nodes, most_gates}
use Rattle.machine_terms.specs.Trees.{Node, kind, argument, Tree, leaf, preorder, tuple_tree, leaf_kind, a_gate, a_constant}
use Rattle.machine_terms.specs.Holes.{Hole, second, before, after}
use Rattle.machine_terms.specs.Walks.{evaluating, returning, at_apply}
use Rattle.machine_terms.specs.States.{State, open_gates}
use Rattle.machine_terms.proofs.Laws.Typed.{typed_gate}
use Rattle.machine_terms.specs.Forms.{Contracts, contracts_application, contracts_let, contracts_force, contracts_gate}
use Rattle.machine_terms.specs.Forms.{contracts_constant, contracts_box, contracts_exit}
use Rattle.machine_nodes.specs.Nodes.{node_at}
use Rattle.words.specs.Regions.{over, Stands}
use Rattle.machine_walk.specs.Stack.{stack_start}
use Rattle.machine_walk.specs.Places.{Holds}
use Rattle.machine_walk.proofs.Laws.Redexes.{kind_of_apply, SecondRedex, second_redex, first_leaf, reduct_written, gap_wide}
use Rattle.words.specs.Quadwords.{Quadword, quadword, quadword_at, word_in}
use Rattle.machine_circuits.specs.Layout.{gate_words}
use Rattle.rules.specs.Slots.{no_wire}
use Rattle.machine_circuits.proofs.Laws.Gates.{few_out}
use Rattle.machine_circuits.proofs.Laws.Tuples.{tuple_entries}
use Rattle.machine_circuits.specs.Results.{LabelsCollected, TupleWritten}
use Rattle.machine_circuits.proofs.Laws.Outputs.{output_wires_lem}
use Rattle.machine_circuits.specs.Applying.{HoldsCircuits}
use Rattle.machine_circuits.proofs.Laws.Applying.{gate_applied, gate_appended, gate_returned, next_after_gate}
use Rattle.machine_state.specs.declared.StateNumbers.{StateNumbers}
use Rattle.machine_state.specs.Memory.{Memory, memory, HoldsFrames, Roomy}
use Rattle.machine_state.specs.Outcomes.{size, SizesFit, AtStop, Outcome, Steps}
use Rattle.machine_state.proofs.Laws.Frames.{frames_grown, next_held, wires_few, frames_few}
use Rattle.step_apply_gate.proofs.Laws.Applying.{GateApplied, after_gate, redex_at, SizeOf, GateNumbers, numbers_after}
use Rattle.step_apply_gate.specs.Applying.{GatePut, OutputsWritten, OutputsPut}

-- The quadword of the frame is put from the words that were read.
pub outputs_written : (U : Ty) (ns ns' : List Node) (fs fs' : List Quadword) (from frame base next inputs nodes made : ℕ)
    → (base ≡ word_in (quadword_at fs frame) 0) × (base < 65536)
    → next ≡ word_in (quadword_at fs frame) 1
    → (inputs ≡ word_in (quadword_at fs frame) 2) × (inputs < 65536)
    → next + length (wires U) ≤ no_wire
    → TupleWritten U next ns ns' from nodes made
    → fs' ≡ set fs frame (quadword (base % 65536) ((next + made % 65536) % 65536) (inputs % 65536) (0 % 65536))
    → OutputsWritten U ns ns' fs fs' from frame
outputs_written U ns ns' fs fs' from frame base next inputs nodes made base_read next_read inputs_read few written put =
    let wide = length (wires U) in
    let same : base % 65536 ≡ word_in (quadword_at fs frame) 0 = omega (arith, base_read.0, base_read.1) in
    let counted : (next + made % 65536) % 65536 ≡ word_in (quadword_at fs frame) 1 + wide
    = omega (arith, next_read, written.labels_written) in
    let same' : inputs % 65536 ≡ word_in (quadword_at fs frame) 2 = omega (arith, inputs_read.0, inputs_read.1) in
    record {
      nodes_put = written.nodes ∙ ap (λ i. over ns from (preorder (tuple_tree (tuple_from i U)))) next_read;
      frame_put = put ∙ ap (set fs frame) (rw (same, counted, same'));
    }

-- The node behind that of an apply is its function part, where that is a leaf.
module _ (m : Memory) (r : StateNumbers) (n g : Node) (v : Tree) (hs : List Hole) where
  function_part : Holds m.nodes m.stack r.place (returning v (second n (leaf g) ∷ hs))
      → node_at m.nodes (redex_at m r + 1) ≡ g
  function_part h = first_leaf m.nodes m.stack r.place hs n g v (redex_at m r) h refl

-- Where that node is a gate, so is what is applied.
module _ (m m' : Memory) (r : StateNumbers) (allowance : ℕ) (answer : Option StateNumbers)
    (e : kind (node_at m.nodes (redex_at m r + 1)) ≡ gate_term_kind)
    (f : (types : ℕ → Ty) (positions : ℕ) (n g : Node) (v : Tree) (hs : List Hole) (I : List Wire) (gs : List Gate)
    (Cs : List Circuit) (K : List Boxed) (T U : Ty) (k : Tuple)
    → GateApplied types positions allowance m r n g v hs I gs Cs K T U k
    → Outcome types positions allowance r m m' (after_gate g hs (circuit I gs) Cs K T U k) answer) where
  -- Then no circuit constant is applied,
  never_constant : (n g : Node) (v : Tree) (hs : List Hole)
      → Holds m.nodes m.stack r.place (returning v (second n (leaf g) ∷ hs))
      → leaf_kind (kind g) ≡ a_constant
      → ⊥
  unfolding leaf_kind
  never_constant n g v hs h q =
      let there : kind g ≡ gate_term_kind = ap kind (sym (function_part m r n g v hs h)) ∙ e in
      let gate : leaf_kind (kind g) ≡ a_gate = ap leaf_kind there in
      let z : ◌≡◌ {A = ℕ} 0 1 = cc in
      omega arith

  -- and of the forms of a step only that of a gate is left.
  by_form : (types : ℕ → Ty) (positions : ℕ) (A : Ty) (s s' : State)
      → allowance ≤ most_gates
      → AtStop types positions A m r s at_apply
      → SizesFit allowance s
      → Contracts types s s'
      → Outcome types positions allowance r m m' s' answer
  by_form types positions A s s' few stop fits (contracts_application p q) =
      let p' = kind_of_apply stop.stopped in
      let z : ◌≡◌ {A = ℕ} 0 1 = cc in
      absurd (omega arith)
  by_form types positions A s s' few stop fits (contracts_let p q) = elim stop.stopped [ ]
  by_form types positions A s s' few stop fits (contracts_force p q) = elim stop.stopped [ ]
  by_form types positions A s s' few stop fits
      (contracts_gate {n = n} {m = g} {v = v} {hs = hs} {C = circuit I gs} {Cs = Cs} {closed = K} T U k p q t w) =
      let typed = typed_gate types positions n g v hs (circuit I gs) Cs K T U k stop.fits stop.typed p q t w in
      f types positions n g v hs I gs Cs K T U k
      record {
        held = stop.held;
        fitting = fits;
        allowed = few;
        boxes_open = stop.fits.1;
        gate_typed = t;
        tuple_is = w;
        labels_many = typed.0;
        short = omega (arith, typed.1, typed.2);
      }
  by_form types positions A s s' few stop fits (contracts_constant {n = n} {m = g} {v = v} {hs = hs} k p q w) =
      absurd (never_constant n g v hs stop.held.walk_held q)
  by_form types positions A s s' few stop fits (contracts_box p q) = elim stop.stopped [ ]
  by_form types positions A s s' few stop fits (contracts_exit k p) = elim stop.stopped [ ]

  -- The contract of the step is met where it is for each gate that may be applied.
  pub steps_of_gate : Steps at_apply allowance m m' r answer
  steps_of_gate = by_form

-- What there is at apply of a gate: the reduct and the circuit after it, with their sizes.
module _ {types : ℕ → Ty} {positions allowance : ℕ} {m : Memory} {r : StateNumbers} {n g : Node} {v : Tree} {hs : List Hole}
    {I : List Wire} {gs : List Gate} {Cs : List Circuit} {K : List Boxed} {T U : Ty} {k : Tuple}
    (a : GateApplied types positions allowance m r n g v hs I gs Cs K T U k) where
  abbrev reduct : Tree
  reduct = tuple_tree (returned (circuit I gs) k (gate_boxed (argument g) T U))

  abbrev grown : Circuit
  grown = appended (circuit I gs) k (gate_boxed (argument g) T U)

  -- The places of the redex.
  redex : SecondRedex m.nodes m.stack r.place (second n (leaf g)) (leaf g) v hs (redex_at m r)
      (stack_start (quadword_at m.stack (r.place.depth - 1)))
  redex =
      second_redex m.nodes m.stack r.place hs n (leaf g) v (redex_at m r)
      (stack_start (quadword_at m.stack (r.place.depth - 1)))
      a.held.walk_held
      refl
      refl

  -- The numbers of the outputs are 16-bit numbers.
  outputs_few : wire_count (circuit I gs) + length (wires U) ≤ no_wire
  unfolding wires_out
  outputs_few =
      let made : wires_out (argument g) ≡ length (wires U) = ap (λ t. length (output_wires t)) a.gate_typed in
      omega (
        arith,
        wires_few m.frames I gs Cs a.held.built.frames_held
            (omega (arith, a.held.built.few_gates)),
        few_out (argument g),
      )

  -- The reduct is the tuple of the outputs, numbered on, and has a node for each entry of their type.
  reduct_is : reduct ≡ tuple_tree (tuple_from (wire_count (circuit I gs)) U)
  reduct_is = ap tuple_tree (gate_returned I gs k (argument g) T U a.labels_many)

  reduct_size : length (preorder reduct) ≡ entries U
  reduct_size =
      ap (λ t. length (preorder t)) reduct_is
      ∙ tuple_entries (wire_count (circuit I gs)) U (output_wires_lem (argument g) T U a.gate_typed)

  -- The number that is read is the gate's.
  number_known : (at number : ℕ)
      → at ≡ redex_at m r
      → number ≡ argument (node_at m.nodes (at + 1))
      → number ≡ argument g
  number_known at number e e' =
      e'
      ∙ ap (λ i. argument (node_at m.nodes (i + 1))) e
      ∙ ap argument (function_part m r n g v hs a.held.walk_held)

  -- The nodes and the gates after the step.
  new_nodes_lem : size (evaluating reduct hs) ≡ redex_at m r + entries U + (length m.nodes - r.place.right)
  new_nodes_lem =
      omega (
        arith,
        length-append (before hs) (preorder reduct ++ after hs),
        length-append (preorder reduct) (after hs),
        reduct_size,
        redex.hole.at_is,
        ap length redex.behind,
        length-drop r.place.right m.nodes,
      )

  new_gates : open_gates (grown ∷ Cs) + closed_gates K ≡ r.counts.gates + r.counts.kept + 1
  new_gates = omega (arith, a.held.built.counted.gates_are, a.held.built.counted.closed_are)

  -- Too many nodes, or too many gates.
  nodes_exceed : (at number wide : ℕ)
      → at ≡ redex_at m r
      → number ≡ argument (node_at m.nodes (at + 1))
      → SizeOf number wide
      → most_nodes < at + wide + (length m.nodes - r.place.right)
      → SizesFit allowance (after_gate g hs (circuit I gs) Cs K T U k)
      → ⊥
  nodes_exceed at number wide e e' w h fit =
      let known : wide ≡ entries U = w T U (ap gate_type (number_known at number e e') ∙ a.gate_typed) in
      omega (arith, fit.nodes_fit, new_nodes_lem)

  gates_exceed : allowance < r.counts.gates + r.counts.kept + 1
      → SizesFit allowance (after_gate g hs (circuit I gs) Cs K T U k)
      → ⊥
  gates_exceed h fit = omega (arith, fit.gates_fit, new_gates)

  -- The gate stands behind the others and its outputs before what is still to be walked: the memory holds the next state.
  module _ (ns' : List Node) (gs' fs' : List Quadword) (ls : List ℕ) (at start number wide from count depth frame : ℕ)
      (read : GateNumbers m r at start number wide from count depth frame)
      (room : most_entries ≤ length ls)
      (few : at + wide + (length m.nodes - r.place.right) ≤ most_nodes)
      (below : r.counts.gates + r.counts.kept + 1 ≤ allowance)
      (gate_put : GatePut m.nodes ls m.gates gs' start count r.counts.gates number)
      (outputs_put : OutputsPut m.nodes ns' m.frames fs' from number frame) where
    -- The numbers are those of the gate and of the innermost frame.
    number_is_gate : number ≡ argument g
    number_is_gate = number_known at number read.at_is read.number_is

    number_typed : gate_type number ≡ some (T to U)
    number_typed = ap gate_type number_is_gate ∙ a.gate_typed

    wide_read : wide ≡ entries U
    wide_read = read.wide_is T U number_typed

    top_frame : frame ≡ length Cs
    top_frame = read.frame_is ∙ omega (arith, a.held.built.counted.frames_are)

    next_read : word_in (quadword_at m.frames frame) 1 ≡ wire_count (circuit I gs)
    next_read =
        ap (λ i. word_in (quadword_at m.frames i) 1) top_frame
        ∙ next_held m.frames I gs Cs a.held.built.frames_held

    -- The outputs are put behind the redex and end where what is still to be walked starts.
    far : at + most_nodes ≤ from
    far =
        omega (
          arith,
          read.from_is,
          read.at_is,
          redex.hole.under_left,
          gap_wide m.nodes m.stack r.place _ a.held.walk_held,
        )

    ends : from + entries U ≡ r.place.right
    ends = omega (arith, read.from_is, wide_read, far)

    -- So the tuple of the outputs is the reduct.
    written : OutputsWritten U m.nodes ns' m.frames fs' from frame
    written =
        outputs_put T U number_typed
        (omega (arith, ends, a.held.walk_held.buffer.inside))
        (omega (arith, next_read, outputs_few))

    nodes_after_lem : ns' ≡ over m.nodes from (preorder reduct)
    nodes_after_lem =
        written.nodes_put
        ∙ ap (λ i. over m.nodes from (preorder (tuple_tree (tuple_from i U)))) next_read
        ∙ ap (λ t. over m.nodes from (preorder t)) (sym reduct_is)

    -- Each frame has a quadword.
    frame_inside : length Cs < length m.frames
    frame_inside =
        omega (
          arith,
          frames_few m.nodes m.stack r.place v (second n (leaf g) ∷ hs) Cs a.held.walk_held a.boxes_open,
          a.held.built.roomy.frames_room,
        )

    -- The next walk, with the outputs before what is still to be walked.
    walk_after : Holds
        ns'
        m.stack
        (record { left = at; right = from; depth = depth; returning = false })
        (evaluating reduct hs)
    walk_after =
        let past : from + length (preorder reduct) ≡ r.place.right = omega (arith, ends, reduct_size) in
        rw (nodes_after_lem, read.depth_is)
        (reduct_written m.nodes m.stack r.place (second n (leaf g)) hs v reduct at from
        a.held.walk_held
        read.at_is
        (ap (λ i. drop i m.nodes) past ∙ redex.behind)
        (omega (arith, far))
        (omega (arith, past, a.held.walk_held.buffer.inside))
        (omega (arith, ends, wide_read, a.held.walk_held.buffer.inside)))

    -- The gate's quadword, on the labels of the argument.
    put : (ws : List ℕ) × (found : ℕ) × LabelsCollected k ws found
        × (gs' ≡ set m.gates r.counts.gates (gate_words ((number % 65536) on take (wires_in number) ws)))
    put =
        gate_put v k a.tuple_is
        (subst (λ i. Stands m.nodes i (preorder v)) (sym read.start_is) redex.second_at)
        (omega (arith, read.count_is, read.start_is, redex.ends))
        (omega (arith, read.count_is, read.start_is, redex.ends, a.short))

    circuit_put : gs'
        ≡ set m.gates (open_gates (circuit I gs ∷ Cs))
        (gate_words ((argument g % 65536) on take (wires_in (argument g)) put.0))
    circuit_put =
        put.3
        ∙ ap
        (λ i. set m.gates i (gate_words ((number % 65536) on take (wires_in number) put.0)))
        a.held.built.counted.gates_are
        ∙ ap
        (λ i. set m.gates (open_gates (circuit I gs ∷ Cs)) (gate_words ((i % 65536) on take (wires_in i) put.0)))
        number_is_gate

    -- The circuits, with the gate in the innermost.
    circuits_after : HoldsCircuits types positions gs' m.circuits m.results (grown ∷ Cs) K
    circuits_after =
        gate_applied types positions m.gates gs' m.circuits m.results I gs Cs K k (argument g) T U put.0 put.1
        a.held.built.circuits_held
        a.gate_typed
        a.labels_many
        put.2
        circuit_put
        (omega (arith, a.held.built.counted.gates_are, below, a.allowed))
        (omega (arith, a.held.built.roomy.gates_room))

    -- The frames, the innermost with the wires that the gate makes.
    raised : wire_count (circuit I gs) + length (wires U) ≡ wire_count (circuit I ((argument g on labels k) ∷ gs))
    unfolding wires_out
    raised =
        ap (λ t. wire_count (circuit I gs) + length (output_wires t)) (sym a.gate_typed)
        ∙ sym (next_after_gate (circuit I gs) k (argument g) T U)
        ∙ ap wire_count (gate_appended I gs k (argument g) T U a.labels_many)

    frames_after : HoldsFrames fs' (grown ∷ Cs)
    frames_after =
        subst (λ C. HoldsFrames fs' (C ∷ Cs)) (sym (gate_appended I gs k (argument g) T U a.labels_many))
        (frames_grown m.frames fs' I gs ((argument g on labels k) ∷ gs) Cs
        (word_in (quadword_at m.frames frame) 1 + length (wires U))
        a.held.built.frames_held
        frame_inside
        (ap (λ i. i + length (wires U)) next_read ∙ raised)
        (written.frame_put
        ∙ ap
        (λ i.
        set m.frames i
        (quadword
        (word_in (quadword_at m.frames i) 0)
        (word_in (quadword_at m.frames frame) 1 + length (wires U))
        (word_in (quadword_at m.frames i) 2)
        0))
        top_frame))

    abbrev afterwards : Memory
    afterwards = memory ns' m.stack gs' m.circuits fs' m.types m.results

    -- The buffers are as long as before.
    roomy_after : Roomy afterwards
    roomy_after =
        let old = a.held.built.roomy in
        let gates_long : length gs' ≡ length m.gates = ap length put.3 ∙ simp length-set in
        let frames_long : length fs' ≡ length m.frames = ap length written.frame_put ∙ simp length-set in
        record {
          gates_room = omega (arith, old.gates_room);
          circuits_room = old.circuits_room;
          frames_room = omega (arith, old.frames_room);
          result_words = old.result_words;
        }

    -- The sizes fit, and the memory holds the next state.
    gate_outcome : Outcome types positions allowance r m afterwards (after_gate g hs (circuit I gs) Cs K T U k)
        (Some (numbers_after r at from depth))
    gate_outcome =
        let built = a.held.built in (
          record {
            nodes_fit = omega (arith, new_nodes_lem, wide_read, read.at_is);
            gates_fit = omega (arith, new_gates);
            boxes_fit = a.fitting.boxes_fit;
          },
          record {
            walk_held = walk_after;
            built =
                record {
                  circuits_held = circuits_after;
                  frames_held = frames_after;
                  counted =
                      record {
                        frames_are = built.counted.frames_are;
                        gates_are = omega (arith, built.counted.gates_are);
                        boxes_are = built.counted.boxes_are;
                        closed_are = built.counted.closed_are;
                      };
                  roomy = roomy_after;
                  few_gates = omega (arith, new_gates, below, a.allowed);
                  few_boxes = built.few_boxes;
                };
            types_held = a.held.types_held;
          },
        )

-- The contract where nothing is done: there would be too many nodes, or too many gates.
pub nodes_refused : (m : Memory) (r : StateNumbers) (allowance at number wide : ℕ)
    → kind (node_at m.nodes (redex_at m r + 1)) ≡ gate_term_kind
    → at ≡ redex_at m r
    → number ≡ argument (node_at m.nodes (at + 1))
    → SizeOf number wide
    → most_nodes < at + wide + (length m.nodes - r.place.right)
    → Steps at_apply allowance m m r None
nodes_refused m r allowance at number wide e e' e'' w h =
    steps_of_gate m m r allowance None e
    (λ types positions n g v hs I gs Cs K T U k a. (nodes_exceed a at number wide e' e'' w h, λ _ held. held))

pub gates_refused : (m : Memory) (r : StateNumbers) (allowance : ℕ)
    → kind (node_at m.nodes (redex_at m r + 1)) ≡ gate_term_kind
    → allowance < r.counts.gates + r.counts.kept + 1
    → Steps at_apply allowance m m r None
gates_refused m r allowance e h =
    steps_of_gate m m r allowance None e
    (λ types positions n g v hs I gs Cs K T U k a. (gates_exceed a h, λ _ held. held))

-- The contract where the step is taken.
pub gate_taken : (m : Memory) (r : StateNumbers) (allowance : ℕ) (ns' : List Node) (gs' fs' : List Quadword) (ls : List ℕ)
    (at start number wide from count depth frame : ℕ)
    → kind (node_at m.nodes (redex_at m r + 1)) ≡ gate_term_kind
    → GateNumbers m r at start number wide from count depth frame
    → most_entries ≤ length ls
    → at + wide + (length m.nodes - r.place.right) ≤ most_nodes
    → r.counts.gates + r.counts.kept + 1 ≤ allowance
    → GatePut m.nodes ls m.gates gs' start count r.counts.gates number
    → OutputsPut m.nodes ns' m.frames fs' from number frame
    → Steps at_apply allowance m (memory ns' m.stack gs' m.circuits fs' m.types m.results) r
    (Some (numbers_after r at from depth))
gate_taken m r allowance ns' gs' fs' ls at start number wide from count depth frame e read room few below put written =
    steps_of_gate m (memory ns' m.stack gs' m.circuits fs' m.types m.results) r allowance
    (Some (numbers_after r at from depth))
    e
    (λ types positions n g v hs I gs Cs K T U k a.
    gate_outcome a ns' gs' fs' ls at start number wide from count depth frame read room few below put written)
