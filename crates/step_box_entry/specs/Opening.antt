-- Box entry in lent memory: what is measured, and what is written.
use Rattle.std.specs.Prelude.{ℕ, ◌+◌, ◌-◌, ◌≤◌, ◌<◌, ◌≡◌, Bool, true, false, List, T as Truth, length, drop, Option, Some, None}
use Rattle.rules.specs.Kinds.{application_kind}
use Rattle.rules.specs.Types.{Ty, is_wire_type, wires, entries, most_entries, type_codes}
use Rattle.rules.specs.Terms.{tuple_from}
use Rattle.rules.specs.Sizes.{most_nodes}
use Rattle.machine_terms.specs.Trees.{Node, node, argument, Tree, two, preorder, tuple_tree}
use Rattle.machine_nodes.specs.Nodes.{node_at}
use Rattle.words.specs.Regions.{over, Stands}
use Rattle.words.specs.Quadwords.{Quadword, quadword_at}
use Rattle.machine_walk.specs.Stack.{stack_node}
use Rattle.machine_walk.specs.Places.{least_nodes}
use Rattle.machine_walk.specs.declared.Place.{Place}
use Rattle.machine_circuits.specs.Tuples.{code_span}
use Rattle.machine_state.specs.declared.Counts.{Counts}
use Rattle.machine_state.specs.declared.StateNumbers.{StateNumbers}
use Rattle.step_box_entry.specs.declared.Entry.{Entry}

-- The term of the new frame, the lift's body t applied to one label for each wire of T, left to right from 0 (01: "evaluates
-- M applied to that tuple"), with unit's value where T has unit (02, ticket 5).
abbrev pub applied : Ty → Tree → Tree
applied T t = two (node application_kind 0) t (tuple_tree (tuple_from 0 T))

-- Whether so many new nodes fit between the walked nodes and those still to be walked, in a buffer of n nodes.
abbrev pub RoomFor : ℕ → ℕ → ℕ → ℕ → Bool → Type 0
RoomFor n left right new true = (left + new ≤ right) × (right ≤ n) × (left + new + (n - right) ≤ most_nodes)
RoomFor n left right new false = least_nodes ≤ n → right ≤ n → most_nodes < left + new + (n - right)

-- The number of new nodes where the box's node stands at a place and the walked nodes end at l: the application's node, the
-- lift's body, and as many as the box's type has entries.
abbrev pub new_nodes : List Node → List ℕ → ℕ → ℕ → ℕ
new_nodes ns ws at l = 1 + (l - (at + 2)) + code_span (drop (argument (node_at ns at)) ws) 1

-- What is to be written, where it fits: the box's node is the one that the top quadword names, its lift's body ends where the
-- walked nodes do, and the new nodes end where those still to be walked start.
pub record EntryFits (ns : List Node) (rs : List Quadword) (ws : List ℕ) (p : Place) (e : Entry) : Type 0 where
  pub deep : 0 < p.depth
  pub at_is : e.at ≡ stack_node (quadword_at rs (p.depth - 1))
  pub position_is : e.position ≡ argument (node_at ns e.at)
  pub size_is : e.size ≡ code_span (drop e.position ws) 1
  pub body_ends : e.at + 2 + e.count ≡ p.left
  pub new_end : e.to + (1 + e.count + e.size) ≡ p.right
  pub apart : p.left ≤ e.to
  pub inside : p.right ≤ length ns
  pub few : p.left + (length ns - e.to) ≤ most_nodes

-- It does not fit: there would be more than 4,096 nodes.
abbrev pub EntryExceeds : List Node → List Quadword → List ℕ → Place → Type 0
EntryExceeds ns rs ws p =
    0 < p.depth
    → stack_node (quadword_at rs (p.depth - 1)) + 2 ≤ p.left
    → least_nodes ≤ length ns
    → p.right ≤ length ns
    → most_nodes < p.left + new_nodes ns ws (stack_node (quadword_at rs (p.depth - 1))) p.left + (length ns - p.right)

-- What is measured, by the answer.
abbrev pub Measures : List Node → List Quadword → List ℕ → Place → Option Entry → Type 0
Measures ns rs ws p (Some e) = EntryFits ns rs ws p e
Measures ns rs ws p None = EntryExceeds ns rs ws p

-- What is written, for every wire type T at the box's position and every lift's body t: the application, with as many
-- labels as the answer says.
abbrev pub Writes : List Node → List Node → List ℕ → Entry → ℕ → Type 0
Writes ns ns' ws e wide =
    (T : Ty) (t : Tree)
    → Truth (is_wire_type T)
    → Stands ws e.position (type_codes T)
    → e.size ≡ entries T
    → Stands ns (e.at + 2) (preorder t)
    → e.count ≡ length (preorder t)
    → e.to + (1 + e.count + entries T) ≤ length ns
    → entries T ≤ most_entries
    → (ns' ≡ over ns e.to (preorder (applied T t))) × (wide ≡ length (wires T))

-- The numbers after box entry.
abbrev pub entered : Place → Counts → Entry → StateNumbers
entered p n e =
    record {
      place = record { left = p.left; right = e.to; depth = p.depth; returning = false };
      counts =
          record { frames = n.frames + 1; gates = n.gates; boxes = n.boxes; kept = n.kept };
    }
