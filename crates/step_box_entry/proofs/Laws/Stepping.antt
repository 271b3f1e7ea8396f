-- The step at a box, by what the code has measured and written.
use Rattle.std.specs.Prelude.{ℕ, ◌-◌, ◌%◌, ◌≤◌, ◌<◌, ◌≡◌, List, [], ◌∷◌, ◌++◌, length, set, Option, Some, None}
use Rattle.std.proofs.Common.{arith, sym, ◌∙◌, ap, ap₂, subst, length-append, length-set, get_or-set_same, get_or-set_other}
use Rattle.rules.specs.Types.{Ty, wires, most_entries}
use Rattle.rules.specs.Terms.{Boxed}
use Rattle.rules.specs.Circuits.{Circuit, circuit, wire_count}
use Rattle.rules.specs.Sizes.{most_gates}
use Rattle.machine_terms.specs.Trees.{Node, kind, argument, Tree, one, preorder, OneKind, a_force, a_box, one_kind}
use Rattle.machine_terms.specs.Trees.{PositionFits}
use Rattle.machine_terms.specs.Holes.{Hole, only, opened, before, after}
use Rattle.machine_terms.specs.Walks.{returning, at_box, Stopped, stopped_box}
use Rattle.machine_terms.specs.States.{State, open_gates}
use Rattle.machine_terms.specs.Forms.{Contracts, contracts_application, contracts_let, contracts_force, contracts_gate}
use Rattle.machine_terms.specs.Forms.{contracts_constant, contracts_box, contracts_exit}
use Rattle.machine_terms.proofs.Laws.Typed.{typed_box}
use Rattle.machine_walk.specs.Stack.{stack_entry}
use Rattle.words.specs.Quadwords.{Quadword, quadword, quadword_at}
use Rattle.machine_circuits.proofs.Laws.Tuples.{wires_few}
use Rattle.machine_circuits.proofs.Laws.Applying.{box_entered, next_number_lem}
use Rattle.machine_state.specs.Memory.{Memory, memory, HoldsFrames, HoldsBuilt}
use Rattle.machine_state.proofs.Laws.Frames.{frames_kept}
use Rattle.machine_state.specs.Outcomes.{SizesFit, AtStop, Outcome, Steps}
use Rattle.machine_state.specs.declared.StateNumbers.{StateNumbers}
use Rattle.step_box_entry.specs.declared.Entry.{Entry}
use Rattle.step_box_entry.specs.Opening.{applied, EntryFits, EntryExceeds, Writes, entered}
use Rattle.step_box_entry.proofs.Laws.Opening.{StoppedAtBox, after_entry}
use Rattle.step_box_entry.proofs.Laws.Entry.{exceeding, frame_there, entry_written, walk_entered}

-- The argument of a box is a type position.
position_of_box : (positions : ℕ) (n : Node) (c : OneKind)
    → c ≡ a_box
    → PositionFits c positions (argument n)
    → argument n < positions
position_of_box positions n c e h = subst (λ x. PositionFits x positions (argument n)) e h

-- A box is no force.
no_force : {n : Node} {v : Tree} {hs : List Hole}
    → one_kind (kind n) ≡ a_force
    → Stopped (returning v (only n ∷ hs)) at_box
    → ⊥
no_force p (stopped_box q) = let z : ◌≡◌ {A = ℕ} 0 1 = cc in omega arith

-- A step at a box is box entry.
pub box_steps : (allowance : ℕ) (m m' : Memory) (r : StateNumbers) (answer : Option StateNumbers)
    → ((types : ℕ → Ty) (positions : ℕ) (n k : Node) (t : Tree) (hs : List Hole) (C : Circuit) (Cs : List Circuit)
    (K : List Boxed)
    → StoppedAtBox types positions allowance m r n k t hs C Cs K
    → Outcome types positions allowance r m m' (after_entry types n k t hs C Cs K) answer)
    → Steps at_box allowance m m' r answer
box_steps allowance m m' r answer f types positions A s s' few at sizes c = of c at sizes
  where
    of : {s s' : State}
        → Contracts types s s'
        → AtStop types positions A m r s at_box
        → SizesFit allowance s
        → Outcome types positions allowance r m m' s' answer
    of (contracts_application p q) at sizes = elim at.stopped [ ]
    of (contracts_let p q) at sizes = elim at.stopped [ ]
    of (contracts_force p q) at sizes = absurd (no_force p at.stopped)
    of (contracts_gate T U k p q g e) at sizes = elim at.stopped [ ]
    of (contracts_constant k p q e) at sizes = elim at.stopped [ ]
    of (contracts_box {n = n} {m = k} {t = t} {hs = hs} {C = C} {Cs = Cs} {closed = K} p q) at sizes =
        let typed = typed_box types positions n k t hs C Cs K at.fits at.typed p in
        f types positions n k t hs C Cs K
        record {
          held = at.held;
          position = position_of_box positions n (one_kind (kind n)) p at.fits.0.2.0.0.1;
          wire_type = typed.0;
          small = typed.1;
          boxes = at.fits.1;
          sizes = sizes;
        }
    of (contracts_exit k e) at sizes = elim at.stopped [ ]

-- No quadword for the new frame: there is no such box.
pub no_frame : (allowance : ℕ) (m : Memory) (r : StateNumbers) (answer : Option StateNumbers)
    → length m.frames ≤ r.counts.frames
    → Steps at_box allowance m m r answer
no_frame allowance m r answer past =
    box_steps allowance m m r answer
    (λ types positions n k t hs C Cs K b.
    absurd
    (omega (
      arith,
      frame_there types positions m.nodes m.stack m.gates m.circuits m.frames m.types m.results r n k t
          hs C Cs K b.held b.position b.wire_type b.boxes,
    )))

-- Nothing is written where there are too many nodes.
pub exceeded : (allowance : ℕ) (ns : List Node) (rs : List Quadword) (gs cs fs : List Quadword) (ws : List ℕ)
    (results : ℕ → List ℕ) (r : StateNumbers)
    → EntryExceeds ns rs ws r.place
    → Steps at_box allowance (memory ns rs gs cs fs ws results) (memory ns rs gs cs fs ws results) r None
exceeded allowance ns rs gs cs fs ws results r exceeds =
    let m = memory ns rs gs cs fs ws results in
    box_steps allowance m m r None
    (λ types positions n k t hs C Cs K b. (
      exceeding types positions ns rs gs cs fs ws results r n k t hs C Cs K b.held b.position b.wire_type allowance
          (circuit (wires (types (argument n))) [] ∷ C ∷ Cs)
          exceeds,
      λ _ held. held,
    ))

-- The quadword of the new frame.
frame_put : (fs fs' : List Quadword) (n : ℕ) (C : Circuit) (Cs : List Circuit) (T : Ty) (gates wide : ℕ)
    → fs' ≡ set fs n (quadword (gates % 65536) (wide % 65536) (wide % 65536) 0)
    → n ≡ length (C ∷ Cs)
    → n < length fs
    → gates ≡ open_gates (C ∷ Cs)
    → gates ≤ most_gates
    → wide ≡ length (wires T)
    → wide ≤ most_entries
    → HoldsFrames fs (C ∷ Cs)
    → HoldsFrames fs' (circuit (wires T) [] ∷ C ∷ Cs)
frame_put fs fs' n C Cs T gates wide put n_is room gates_are few wide_is small held =
    let g : gates % 65536 ≡ open_gates (C ∷ Cs) = omega arith in
    let w : wide % 65536 ≡ length (wires T) = omega arith in
    let made : length (wires T) ≡ wire_count (circuit (wires T) []) = sym (next_number_lem (wires T) [] ∙ omega arith) in
    let r = quadword (gates % 65536) (wide % 65536) (wide % 65536) 0 in
    let there : quadword_at fs' (length (C ∷ Cs)) ≡ r
    = ap₂ (λ l i. quadword_at l i) put (sym n_is) ∙ get_or-set_same fs n r (quadword 0 0 0 0) room in (
      there
          ∙ ap₂ (λ a b. quadword a b (wide % 65536) 0) g (w ∙ made)
          ∙ ap (λ c. quadword (open_gates (C ∷ Cs)) (wire_count (circuit (wires T) [])) c 0) w,
      omega arith,
      frames_kept fs fs' (C ∷ Cs)
          (λ i h. ap (λ l. quadword_at l i) put ∙ get_or-set_other fs n i r (quadword 0 0 0 0) (λ e. omega arith))
          held,
    )

-- The circuits that are held after box entry.
built_entered : (types : ℕ → Ty) (positions allowance : ℕ) (ns ns' : List Node) (rs rs' : List Quadword)
    (gs cs fs fs' : List Quadword) (ws : List ℕ) (results : ℕ → List ℕ) (r : StateNumbers) (n k : Node) (t : Tree) (hs : List Hole) (C : Circuit)
    (Cs : List Circuit) (K : List Boxed) (e : Entry) (wide : ℕ)
    → StoppedAtBox types positions allowance (memory ns rs gs cs fs ws results) r n k t hs C Cs K
    → wide ≡ length (wires (types (argument n)))
    → fs'
    ≡ set fs r.counts.frames (quadword (r.counts.gates % 65536) (wide % 65536) (wide % 65536) 0)
    → HoldsBuilt types positions (memory ns' rs' gs cs fs' ws results) (entered r.place r.counts e).counts
    (circuit (wires (types (argument n))) [] ∷ C ∷ Cs)
    K
built_entered types positions allowance ns ns' rs rs' gs cs fs fs' ws results r n k t hs C Cs K e wide b wide_is put =
    let old = b.held.built in
    let T = types (argument n) in
    let new = quadword (r.counts.gates % 65536) (wide % 65536) (wide % 65536) 0 in
    let room : r.counts.frames < length fs
    = frame_there types positions ns rs gs cs fs ws results r n k t hs C Cs K b.held b.position b.wire_type
    b.boxes in
    let gates_are : r.counts.gates ≡ open_gates (C ∷ Cs) = old.counted.gates_are in
    record {
      circuits_held = box_entered types positions gs cs results (wires T) (C ∷ Cs) K old.circuits_held;
      frames_held =
          frame_put fs fs' r.counts.frames C Cs T r.counts.gates wide put old.counted.frames_are room gates_are
          (omega (arith, old.few_gates))
          wide_is
          (omega (arith, wires_few T, b.small))
          old.frames_held;
      counted =
          record {
            frames_are = omega (arith, old.counted.frames_are);
            gates_are = omega arith;
            boxes_are = old.counted.boxes_are;
            closed_are = old.counted.closed_are;
          };
      roomy =
          record {
            gates_room = old.roomy.gates_room;
            circuits_room = old.roomy.circuits_room;
            frames_room =
                omega (arith, old.roomy.frames_room, ap length put, length-set fs r.counts.frames new);
            result_words = old.roomy.result_words;
          };
      few_gates = omega (arith, old.few_gates);
      few_boxes = old.few_boxes;
    }

-- Box entry is taken: its application and its quadwords are written.
pub taken : (allowance : ℕ) (ns ns' : List Node) (rs rs' : List Quadword) (gs cs fs fs' : List Quadword) (ws : List ℕ)
    (results : ℕ → List ℕ) (r : StateNumbers) (e : Entry) (wide : ℕ)
    → EntryFits ns rs ws r.place e
    → Writes ns ns' ws e wide
    → rs' ≡ set rs (r.place.depth - 1) (stack_entry 3 (e.at % 65536) (r.place.left % 65536))
    → fs'
    ≡ set fs r.counts.frames (quadword (r.counts.gates % 65536) (wide % 65536) (wide % 65536) 0)
    → Steps at_box allowance (memory ns rs gs cs fs ws results) (memory ns' rs' gs cs fs' ws results) r
    (Some (entered r.place r.counts e))
taken allowance ns ns' rs rs' gs cs fs fs' ws results r e wide fits writes stack_put frame_put_there =
    box_steps allowance (memory ns rs gs cs fs ws results) (memory ns' rs' gs cs fs' ws results) r
    (Some (entered r.place r.counts e))
    (λ types positions n k t hs C Cs K b.
    let T = types (argument n) in
    let done =
    entry_written types positions ns rs gs cs fs ws results r n k t hs C Cs K b.held b.position b.wire_type e fits ns'
    wide
    b.small
    writes in
    let walk =
    walk_entered types positions ns rs gs cs fs ws results r n k t hs C Cs K b.held b.position b.wire_type e fits ns'
    rs'
    done.0
    stack_put in
    let built =
    built_entered types positions allowance ns ns' rs rs' gs cs fs fs' ws results r n k t hs C Cs K e wide b done.1
    frame_put_there in (
      record {
        nodes_fit =
            omega (
              arith,
              walk.few,
              length-append (before (opened n (one k t) ∷ hs)) (preorder (applied T t) ++ after hs),
            );
        gates_fit = omega (arith, b.sizes.gates_fit);
        boxes_fit = b.sizes.boxes_fit;
      },
      record { walk_held = walk; built = built; types_held = b.held.types_held },
    ))
