-- Laws of specs/Redexes.antt.
use Rattle.std.specs.Prelude.{ℕ, ◌+◌, ◌-◌, ◌*◌, ◌/◌, ◌%◌, ◌≤◌, ◌<◌, ◌≡◌, List, ◌∷◌, ◌++◌, length, set, take, Option}
use Rattle.std.proofs.Math.Option.{some}
use Rattle.rules.specs.Types.{Wire, Ty, wires, entries, most_entries}
use Rattle.rules.specs.Terms.{Tuple, labels, Gate, Boxed, boxed}
use Rattle.rules.specs.Circuits.{Circuit, circuit, wire_count, outputs, TakesEarlier, appended, returned}
use Rattle.rules.specs.Sizes.{closed_gates, most_gates}
use Rattle.machine_terms.specs.Trees.{Node, argument, Tree, leaf, preorder, tuple_of_tree, tuple_tree}
use Rattle.machine_terms.specs.Holes.{Hole, second, open_boxes}
use Rattle.machine_terms.specs.Walks.{evaluating, returning}
use Rattle.machine_terms.specs.States.{state, open_gates}
use Rattle.machine_terms.specs.Meaning.{circuit_at}
use Rattle.words.specs.Regions.{over, Stands}
use Rattle.machine_walk.proofs.Laws.Redexes.{SecondRedex}
use Rattle.words.specs.Quadwords.{Quadword, quadword}
use Rattle.machine_circuits.specs.Layout.{tuple_words, most_result, results_each, HoldsBoxed}
use Rattle.rules.specs.Slots.{gate_slot_count}
use Rattle.machine_circuits.specs.Copies.{AllBelow, CopyFits, GatesCopied}
use Rattle.machine_circuits.specs.Results.{LabelsCollected, ResultFits, result_nodes}
use Rattle.machine_state.specs.declared.StateNumbers.{StateNumbers}
use Rattle.machine_state.specs.Memory.{Memory, most_inputs, HoldsParts}
use Rattle.machine_state.specs.Outcomes.{Outcome}
use Rattle.step_apply_circuit.specs.declared.Redex.{Redex}

-- What typing says of a closed circuit with the input type T, these gates and the result y, applied to the tree v of the label
-- tuple k.
pub record ConstantTyped (v : Tree) (k : Tuple) (T : Ty) (copied : List Gate) (y : Tuple) : Type 0 where
  pub as_many : length (labels k) ≡ length (wires T)
  pub argument_nodes : length (preorder v) ≡ entries T
  pub takes : TakesEarlier (wires T) copied
  pub below : AllBelow (length (wires T ++ outputs copied)) (labels y)
  pub bounded : entries T ≤ most_entries

-- What is known at the stop: the redex, the closed circuit with its number of earlier gates, the quadword of the frame, and bounds.
pub record ConstantKnown (types : ℕ → Ty) (positions : ℕ) (m : Memory) (x : Redex) (r : StateNumbers) (n l : Node) (v : Tree) (hs : List Hole)
    (I : List Wire) (gs : List Gate) (Cs : List Circuit) (K : List Boxed) (T : Ty) (copied : List Gate) (y : Tuple)
    (earlier : ℕ) : Type 0 where
  pub redex : SecondRedex m.nodes m.stack r.place (second n (leaf l)) (leaf l) v hs x.at x.start
  pub few_earlier : earlier + length copied ≤ closed_gates K
  pub held : HoldsBoxed types positions m.gates m.circuits m.results x.index earlier T copied y
  pub next_is : x.next ≡ wire_count (circuit I gs)
  pub base_is : x.base ≡ open_gates Cs
  pub inputs_are : x.inputs ≡ length I
  pub made_are : x.made ≡ length (outputs copied)
  pub gates_are : x.gates ≡ length copied
  pub nodes_are : x.nodes ≡ length (tuple_words y)
  pub frame_is : r.counts.frames - 1 ≡ length Cs
  pub frame_inside : length Cs < length m.frames
  pub few_next : wire_count (circuit I gs) ≤ most_inputs + gate_slot_count * most_gates

-- What is left by the writes, of nodes, gates and frames with room for so many labels: ls are the words of the labels after
-- they are collected, and `found` is their number.
pub record ConstantWritten (ns ns' : List Node) (wide : ℕ) (gs gs' fs fs' : List Quadword) (results : ℕ → List ℕ) (x : Redex)
    (r : StateNumbers) (ls : List ℕ) (found : ℕ) : Type 0 where
  pub labels_room : length ls ≡ wide
  pub collected : (v : Tree) (k : Tuple)
      → tuple_of_tree v ≡ some k
      → Stands ns x.start (preorder v)
      → r.place.left - x.start ≡ length (preorder v)
      → r.place.left - x.start ≤ wide
      → LabelsCollected k ls found
  pub copied : (j : ℕ)
      → CopyFits gs x.first x.gates r.counts.gates (length ls) found x.next j
      → GatesCopied gs gs' x.first x.gates r.counts.gates (take found ls) x.next
  pub loaded : (k : Tuple) (j : ℕ)
      → ResultFits k j (results (x.index / results_each)) (most_result * (x.index % results_each)) x.nodes (length ns)
      (r.place.right - x.nodes) (length ls) found x.next
      → ns' ≡ over ns (r.place.right - x.nodes) (result_nodes k (take found ls) x.next)
  pub framed : fs'
      ≡ set fs (r.counts.frames - 1) (quadword (x.base % 65536) ((x.next + x.made) % 65536) (x.inputs % 65536) (0 % 65536))
  pub quadwords_kept : length gs' ≡ length gs

-- What a step with this answer is to leave at every apply of a closed circuit.
abbrev pub Leaves : ℕ → Memory → Memory → StateNumbers → Option StateNumbers → Type 0
Leaves allowance m m' r answer =
    (types : ℕ → Ty) (positions : ℕ) (n l : Node) (v : Tree) (hs : List Hole) (I : List Wire) (gs : List Gate)
    (Cs : List Circuit) (K : List Boxed) (T : Ty) (copied : List Gate) (y k : Tuple)
    → allowance ≤ most_gates
    → HoldsParts types positions m r (returning v (second n (leaf l) ∷ hs)) (circuit I gs ∷ Cs) K
    → argument l < length K
    → length Cs ≡ open_boxes hs
    → circuit_at K (argument l) ≡ boxed T copied y
    → tuple_of_tree v ≡ some k
    → ConstantTyped v k T copied y
    → Outcome types positions allowance r m m'
    (state
    (evaluating (tuple_tree (returned (circuit I gs) k (boxed T copied y))) hs)
    (appended (circuit I gs) k (boxed T copied y))
    Cs
    K)
    answer
