-- Laws of specs/Taking.antt.
use Rattle.std.specs.Prelude.{ℕ, ◌+◌, ◌<◌, List, ◌∷◌, length, Some, None}
use Rattle.std.proofs.Common.{arith, length-append}
use Rattle.rules.specs.Types.{Ty}
use Rattle.rules.specs.Terms.{Boxed}
use Rattle.rules.specs.Circuits.{Circuit}
use Rattle.rules.specs.Sizes.{most_nodes}
use Rattle.machine_terms.specs.Trees.{Node}
use Rattle.machine_terms.specs.Walks.{Walk, left, right}
use Rattle.machine_terms.specs.States.{State, state}
use Rattle.machine_walk.specs.Places.{Holds}
use Rattle.words.specs.Quadwords.{Quadword}
use Rattle.machine_state.specs.Memory.{memory, HoldsBuilt, HoldsParts, HoldsState}
use Rattle.machine_state.specs.Outcomes.{PartsFit, Outcome}
use Rattle.machine_state.specs.declared.Counts.{Counts}
use Rattle.machine_state.specs.declared.StateNumbers.{StateNumbers}
use Rattle.step_reductions.specs.Taking.{place_after, taken_to}

module _ (ns ns' : List Node) (rs : List Quadword) (gs cs fs : List Quadword) (ws : List ℕ) (results : ℕ → List ℕ)
    (types : ℕ → Ty) (positions allowance : ℕ) where
  -- What was built does not lie in the nodes.
  built_kept : (n : Counts) (Cs : List Circuit) (K : List Boxed)
      → HoldsBuilt types positions (memory ns rs gs cs fs ws results) n Cs K
      → HoldsBuilt types positions (memory ns' rs gs cs fs ws results) n Cs K
  built_kept n Cs K b =
      record {
        circuits_held = b.circuits_held;
        frames_held = b.frames_held;
        counted = b.counted;
        roomy =
            record {
              gates_room = b.roomy.gates_room;
              circuits_room = b.roomy.circuits_room;
              frames_room = b.roomy.frames_room;
              result_words = b.roomy.result_words;
            };
        few_gates = b.few_gates;
        few_boxes = b.few_boxes;
      }

  -- A step to the walk w' is taken, where the nodes then hold w'.
  pub step_taken : (r : StateNumbers) (w w' : Walk) (C : Circuit) (Cs : List Circuit) (K : List Boxed) (at to : ℕ)
      → HoldsParts types positions (memory ns rs gs cs fs ws results) r w (C ∷ Cs) K
      → PartsFit allowance w (C ∷ Cs) K
      → Holds ns' rs (place_after r.place at to) w'
      → Outcome types positions allowance r (memory ns rs gs cs fs ws results) (memory ns' rs gs cs fs ws results)
      (state w' C Cs K)
      (Some (taken_to r at to))
  step_taken r w w' C Cs K at to h f held = (
    record {
      nodes_fit = omega (arith, held.few, length-append (left w') (right w'));
      gates_fit = f.gates_fit;
      boxes_fit = f.boxes_fit;
    },
    record {
      walk_held = held;
      built = built_kept r.counts (C ∷ Cs) K h.built;
      types_held = h.types_held;
    },
  )

  -- A step to the walk w' is refused, where w' has too many nodes and the nodes hold each walk that they held.
  pub step_refused : (r : StateNumbers) (w' : Walk) (C : Circuit) (Cs : List Circuit) (K : List Boxed)
      → most_nodes < length (left w') + length (right w')
      → ((w : Walk) → Holds ns rs r.place w → Holds ns' rs r.place w)
      → Outcome types positions allowance r (memory ns rs gs cs fs ws results) (memory ns' rs gs cs fs ws results)
      (state w' C Cs K)
      None
  step_refused r w' C Cs K many kept = (
    λ f. omega (arith, f.nodes_fit, length-append (left w') (right w')),
    λ s held. of s held,
  )
    where
      of : (s : State)
          → HoldsState types positions (memory ns rs gs cs fs ws results) r s
          → HoldsState types positions (memory ns' rs gs cs fs ws results) r s
      of (state w D Ds L) h =
          record {
            walk_held = kept w h.walk_held;
            built = built_kept r.counts (D ∷ Ds) L h.built;
            types_held = h.types_held;
          }
