-- What apply of a closed circuit reads before it writes, when there is room for it, and what it is to leave.
use Rattle.std.specs.Prelude.{ℕ, ◌+◌, ◌-◌, ◌≤◌, ◌<◌, ◌^◌, ◌≡◌, false, List, length, Some}
use Rattle.rules.specs.Kinds.{gate_term_kind}
use Rattle.rules.specs.Types.{most_entries}
use Rattle.rules.specs.Circuits.{outputs}
use Rattle.rules.specs.Sizes.{most_nodes}
use Rattle.machine_terms.specs.Trees.{Node, kind, argument}
use Rattle.machine_terms.specs.Walks.{at_apply}
use Rattle.machine_nodes.specs.Nodes.{node_at}
use Rattle.machine_walk.specs.Stack.{stack_node, stack_start}
use Rattle.words.specs.Quadwords.{Quadword, quadword_at, word_in}
use Rattle.machine_circuits.specs.Layout.{gates_in}
use Rattle.rules.specs.Slots.{no_wire}
use Rattle.machine_state.specs.declared.StateNumbers.{StateNumbers}
use Rattle.machine_state.specs.Memory.{memory}
use Rattle.machine_state.specs.Outcomes.{Steps}
use Rattle.step_apply_circuit.specs.declared.Redex.{Redex}

-- What is read of an apply whose quadword stands at `top` of the stack, and of the frame whose quadword stands at `innermost`.
pub record RedexRead (ns : List Node) (rs : List Quadword) (gs cs fs : List Quadword) (top innermost : ℕ) (x : Redex) : Type 0 where
  pub at_is : x.at ≡ stack_node (quadword_at rs top)
  pub start_is : x.start ≡ stack_start (quadword_at rs top)
  pub index_is : x.index ≡ argument (node_at ns (x.at + 1))
  pub first_is : x.first ≡ word_in (quadword_at cs x.index) 1
  pub gates_are : x.gates ≡ word_in (quadword_at cs x.index) 2
  pub nodes_are : x.nodes ≡ word_in (quadword_at cs x.index) 3
  pub base_is : x.base ≡ word_in (quadword_at fs innermost) 0
  pub next_is : x.next ≡ word_in (quadword_at fs innermost) 1
  pub inputs_are : x.inputs ≡ word_in (quadword_at fs innermost) 2
  pub made_are : (x.first + x.gates ≤ length gs → x.made ≡ length (outputs (gates_in gs x.first x.gates)))
  pub next_low : x.next < 65536

-- There is room for the step: what is read can be so, and the sizes after it fit (01: "Sizes of a configuration").
pub record Room (x : Redex) (r : StateNumbers) (size allowance : ℕ) : Type 0 where
  pub argument_before : x.start ≤ r.place.left
  pub inside : r.place.right ≤ size
  pub gap : x.nodes ≤ r.place.right
  pub few_made : x.made ≤ no_wire
  pub nodes_fit : x.at + x.nodes + (size - r.place.right) ≤ most_nodes
  pub gates_fit : r.counts.gates + r.counts.kept + x.gates ≤ allowance

-- The numbers that are written do not run over.
pub record Writable (x : Redex) (r : StateNumbers) : Type 0 where
  pub deep : 0 < r.place.depth
  pub framed : 0 < r.counts.frames
  pub argument_before : x.start ≤ r.place.left
  pub gap : x.nodes ≤ r.place.right
  pub wires_within : x.next + x.made < 2 ^ 64
  pub gates_within : r.counts.gates + x.gates < 2 ^ 64

-- The numbers after the step.
abbrev pub numbers_after : Redex → StateNumbers → StateNumbers
numbers_after x r =
    record {
      place = record { left = x.at; right = r.place.right - x.nodes; depth = r.place.depth - 1; returning = false };
      counts =
          record {
            frames = r.counts.frames;
            gates = r.counts.gates + x.gates;
            boxes = r.counts.boxes;
            kept = r.counts.kept;
          };
    }

-- The step is taken, where what was read is so and there is room: from nodes, gates and frames to those after it, with room for
-- so many labels.
abbrev pub Applied : List Node
    → List Node
    → ℕ
    → List Quadword
    → List Quadword
    → List Quadword
    → List Quadword
    → (ℕ → List ℕ)
    → Redex
    → StateNumbers
    → StateNumbers
    → Type 0
Applied ns ns' wide gs gs' fs fs' results x r r' =
    (rs : List Quadword) (cs : List Quadword) (ws : List ℕ) (allowance : ℕ)
    → RedexRead ns rs gs cs fs (r.place.depth - 1) (r.counts.frames - 1) x
    → Room x r (length ns) allowance
    → most_entries ≤ wide
    → (kind (node_at ns (stack_node (quadword_at rs (r.place.depth - 1)) + 1)) ≡ gate_term_kind → ⊥)
    → Steps at_apply allowance (memory ns rs gs cs fs ws results) (memory ns' rs gs' cs fs' ws results) r (Some r')
