-- Box exit: what each of its parts does to the memory.
use Rattle.std.specs.Prelude.{ℕ, ◌+◌, ◌-◌, ◌*◌, ◌/◌, ◌%◌, ◌≤◌, ◌<◌, ◌≡◌, false, List, length, set}
use Rattle.std.proofs.Math.Option.{some}
use Rattle.rules.specs.Kinds.{constant_kind}
use Rattle.rules.specs.Terms.{Tuple}
use Rattle.rules.specs.Sizes.{most_boxes}
use Rattle.machine_terms.specs.Trees.{Node, node, Tree, preorder, tuple_of_tree}
use Rattle.words.specs.Regions.{over, Stands}
use Rattle.machine_walk.specs.Stack.{stack_node, stack_start}
use Rattle.words.specs.Quadwords.{Quadword, quadword, quadword_at, word_in}
use Rattle.machine_circuits.specs.Layout.{tuple_words, closed_from, most_result, results_each}
use Rattle.machine_circuits.specs.Copies.{GatesMoved}
use Rattle.machine_state.specs.declared.Counts.{Counts}
use Rattle.machine_state.specs.declared.StateNumbers.{StateNumbers}
use Rattle.step_box_exit.specs.declared.Exit.{Exit}

-- What the innermost quadword of the stack and the innermost frame's quadword say: the place of the box's node, the start of the
-- result and how many nodes it has, the quadword of the frame's first gate and how many gates it has.
pub record ExitAt (rs : List Quadword) (fs : List Quadword) (r : StateNumbers) (e : Exit) : Type 0 where
  pub at_is : e.at ≡ stack_node (quadword_at rs (r.place.depth - 1))
  pub start_is : e.start ≡ stack_start (quadword_at rs (r.place.depth - 1))
  pub nodes_are : e.nodes ≡ r.place.left - e.start
  pub base_is : e.base ≡ word_in (quadword_at fs (r.counts.frames - 1)) 0
  pub gates_are : e.gates ≡ r.counts.gates - e.base

-- The words of the result k stand in the slot of closed circuit i, and the other result buffers are as before.
pub record ResultSaved (results results' : ℕ → List ℕ) (i : ℕ) (k : Tuple) : Type 0 where
  pub result_saved : results' (i / results_each)
      ≡ over (results (i / results_each)) (most_result * (i % results_each)) (tuple_words k)
  pub others_kept : (b : ℕ) → (b ≡ i / results_each → ⊥) → results' b ≡ results b

-- Saving the result of closed circuit i, for every label tuple that stands there.
abbrev pub Saves : List Node → Exit → ℕ → (ℕ → List ℕ) → (ℕ → List ℕ) → Type 0
Saves ns e i results results' =
    (v : Tree) (k : Tuple)
    → tuple_of_tree v ≡ some k
    → Stands ns e.start (preorder v)
    → e.nodes ≡ length (preorder v)
    → i < most_boxes
    → most_result * (i % results_each) + e.nodes ≤ length (results (i / results_each))
    → ResultSaved results results' i k

-- The gates of the innermost frame stand behind those of the closed circuits, and the quadword of the circuit is put, with the
-- type position of its input.
pub record CircuitPut (gs gs' cs cs' : List Quadword) (e : Exit) (n : Counts) (position : ℕ) : Type 0 where
  pub moved : e.base + e.gates ≤ closed_from + n.kept
      → closed_from + n.kept + e.gates ≤ length gs
      → GatesMoved gs gs' e.base e.gates (closed_from + n.kept)
  pub as_many_quadwords : length gs' ≡ length gs
  pub circuit_put : cs'
      ≡ set cs n.boxes
      (quadword (position % 65536) ((closed_from + n.kept) % 65536) (e.gates % 65536) (e.nodes % 65536))
  pub low_position : position < 65536

-- The constant with the number of circuits closed before stands in front of what is still to be walked.
abbrev pub ConstantPut : List Node → List Node → StateNumbers → Type 0
ConstantPut ns ns' r = ns' ≡ set ns (r.place.right - 1) (node constant_kind (r.counts.boxes % 65536))

-- The numbers after box exit: the constant is evaluated in the frame below.
abbrev pub after_exit : StateNumbers → Exit → StateNumbers
after_exit r e =
    record {
      place =
          record { left = e.at; right = r.place.right - 1; depth = r.place.depth - 1; returning = false };
      counts =
          record {
            frames = r.counts.frames - 1;
            gates = e.base;
            boxes = r.counts.boxes + 1;
            kept = r.counts.kept + e.gates;
          };
    }
