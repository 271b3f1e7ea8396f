-- Laws of specs/Applying.antt.
use Rattle.std.specs.Prelude.{ℕ, ◌+◌, ◌-◌, ◌≤◌, ◌≡◌, false, List, ◌∷◌, length}
use Rattle.std.proofs.Math.Option.{some}
use Rattle.rules.specs.Types.{Wire, Ty, wires, entries, most_entries}
use Rattle.rules.specs.Gates.{◌to◌, gate_type}
use Rattle.rules.specs.Terms.{Tuple, labels, Gate, Boxed}
use Rattle.rules.specs.Circuits.{Circuit, circuit, appended, returned, gate_boxed}
use Rattle.rules.specs.Sizes.{most_gates}
use Rattle.machine_terms.specs.Trees.{Node, argument, Tree, leaf, preorder, tuple_of_tree, tuple_tree}
use Rattle.machine_terms.specs.Holes.{Hole, second, open_boxes}
use Rattle.machine_terms.specs.Walks.{evaluating, returning}
use Rattle.machine_terms.specs.States.{State, state}
use Rattle.machine_nodes.specs.Nodes.{node_at}
use Rattle.words.specs.Quadwords.{quadword_at}
use Rattle.machine_walk.specs.Stack.{stack_node, stack_start}
use Rattle.machine_state.specs.declared.StateNumbers.{StateNumbers}
use Rattle.machine_state.specs.Memory.{Memory, HoldsParts}
use Rattle.machine_state.specs.Outcomes.{PartsFit}

-- The walk has stopped at apply of the gate g, whose type is T to U, to the label tuple k.
pub record GateApplied (types : ℕ → Ty) (positions allowance : ℕ) (m : Memory) (r : StateNumbers) (n g : Node) (v : Tree)
    (hs : List Hole) (I : List Wire) (gs : List Gate) (Cs : List Circuit) (K : List Boxed) (T U : Ty) (k : Tuple)
    : Type 0 where
  pub held : HoldsParts types positions m r (returning v (second n (leaf g) ∷ hs)) (circuit I gs ∷ Cs) K
  pub fitting : PartsFit allowance (returning v (second n (leaf g) ∷ hs)) (circuit I gs ∷ Cs) K
  pub allowed : allowance ≤ most_gates
  pub boxes_open : length Cs ≡ open_boxes hs
  pub gate_typed : gate_type (argument g) ≡ some (T to U)
  pub tuple_is : tuple_of_tree v ≡ some k
  pub labels_many : length (labels k) ≡ length (wires T)
  pub short : length (preorder v) ≤ most_entries

-- The state after it.
abbrev pub after_gate : Node → List Hole → Circuit → List Circuit → List Boxed → Ty → Ty → Tuple → State
after_gate g hs C Cs K T U k =
    state
    (evaluating (tuple_tree (returned C k (gate_boxed (argument g) T U))) hs)
    (appended C k (gate_boxed (argument g) T U))
    Cs
    K

-- The place that the quadword of the innermost hole names.
abbrev pub redex_at : Memory → StateNumbers → ℕ
redex_at m r = stack_node (quadword_at m.stack (r.place.depth - 1))

-- So many nodes has the tuple of the outputs of the gate with this number.
abbrev pub SizeOf : ℕ → ℕ → Type 0
SizeOf number n = (T U : Ty) → gate_type number ≡ some (T to U) → n ≡ entries U

-- The numbers that the code reads and counts: the places of the redex and of the argument, the gate, how many nodes its
-- outputs take, where these are put, how many nodes the argument has, the quadwords of the stack below, and the innermost frame.
pub record GateNumbers (m : Memory) (r : StateNumbers) (at start number wide from count depth frame : ℕ) : Type 0 where
  pub at_is : at ≡ redex_at m r
  pub start_is : start ≡ stack_start (quadword_at m.stack (r.place.depth - 1))
  pub number_is : number ≡ argument (node_at m.nodes (at + 1))
  pub wide_is : SizeOf number wide
  pub from_is : from ≡ r.place.right - wide
  pub count_is : count ≡ r.place.left - start
  pub depth_is : depth ≡ r.place.depth - 1
  pub frame_is : frame ≡ r.counts.frames - 1

-- The numbers after apply of a gate.
abbrev pub numbers_after : StateNumbers → ℕ → ℕ → ℕ → StateNumbers
numbers_after r at from depth =
    record {
      place = record { left = at; right = from; depth = depth; returning = false };
      counts =
          record {
            frames = r.counts.frames;
            gates = r.counts.gates + 1;
            boxes = r.counts.boxes;
            kept = r.counts.kept;
          };
    }
