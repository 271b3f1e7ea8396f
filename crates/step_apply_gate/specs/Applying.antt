-- Apply of a gate: what is known where the walk has stopped at one, what the code reads and writes, and the state after it.
use Rattle.std.specs.Prelude.{ℕ, ◌+◌, ◌%◌, ◌≤◌, ◌≡◌, List, length, set, take}
use Rattle.std.proofs.Math.Option.{some}
use Rattle.rules.specs.Types.{Ty, wires, entries}
use Rattle.rules.specs.Gates.{◌to◌, gate_type, wires_in}
use Rattle.rules.specs.Terms.{Tuple, tuple_from, ◌on◌}
use Rattle.machine_terms.specs.Trees.{Node, Tree, preorder, tuple_of_tree, tuple_tree}
use Rattle.words.specs.Regions.{over, Stands}
use Rattle.words.specs.Quadwords.{Quadword, quadword, quadword_at, word_in}
use Rattle.machine_circuits.specs.Layout.{gate_words}
use Rattle.rules.specs.Slots.{no_wire}
use Rattle.machine_circuits.specs.Results.{LabelsCollected}

-- The gate with a number, on the labels of the tuple that stands at place `start` and has `count` nodes, is put into a quadword.
abbrev pub GatePut : List Node → List ℕ → List Quadword → List Quadword → ℕ → ℕ → ℕ → ℕ → Type 0
GatePut ns ls gs gs' start count top number =
    (v : Tree) (k : Tuple)
    → tuple_of_tree v ≡ some k
    → Stands ns start (preorder v)
    → count ≡ length (preorder v)
    → count ≤ length ls
    → (ws : List ℕ) × (found : ℕ) × LabelsCollected k ws found
    × (gs' ≡ set gs top (gate_words ((number % 65536) on take (wires_in number) ws)))

-- The tuple of a gate's outputs is written from a place on, numbered on from the wires of the frame with a quadword, and that quadword
-- counts them.
pub record OutputsWritten (U : Ty) (ns ns' : List Node) (fs fs' : List Quadword) (from frame : ℕ) : Type 0 where
  pub nodes_put : ns' ≡ over ns from (preorder (tuple_tree (tuple_from (word_in (quadword_at fs frame) 1) U)))
  pub frame_put : fs'
      ≡ set fs frame
      (quadword
      (word_in (quadword_at fs frame) 0)
      (word_in (quadword_at fs frame) 1 + length (wires U))
      (word_in (quadword_at fs frame) 2)
      0)

-- The same for each gate with a number, where there is room.
abbrev pub OutputsPut : List Node → List Node → List Quadword → List Quadword → ℕ → ℕ → ℕ → Type 0
OutputsPut ns ns' fs fs' from number frame =
    (T U : Ty)
    → gate_type number ≡ some (T to U)
    → from + entries U ≤ length ns
    → word_in (quadword_at fs frame) 1 + length (wires U) ≤ no_wire
    → OutputsWritten U ns ns' fs fs' from frame
