-- What the memory of the walk holds: the nodes of all frames in a gap buffer, and a stack_entry of the stack for each hole.
use Rattle.std.specs.Prelude.{ℕ, suc, ◌+◌, ◌≤◌, ◌*◌, ◌≡◌, Bool, true, false, List, [], ◌∷◌, ◌++◌, length, take, drop}
use Rattle.rules.specs.Sizes.{most_nodes}
use Rattle.machine_terms.specs.Trees.{Node, preorder}
use Rattle.machine_terms.specs.Holes.{Hole, only, first, second, opened, before}
use Rattle.machine_terms.specs.Walks.{Walk, evaluating, returning, holes, goes_on, stops, move, walk, WalkFits}
use Rattle.machine_terms.specs.Walks.{left as walked_nodes, right as nodes_to_walk, Stop as StopOf, at_application, at_let}
use Rattle.machine_terms.specs.Walks.{at_force, at_box, at_apply, at_exit, at_end, at_variable}
use Rattle.words.specs.Quadwords.{Quadword}
use Rattle.machine_walk.specs.Stack.{stack_entry}
use Rattle.machine_walk.specs.declared.Place.{Place}
use Rattle.machine_walk.specs.declared.Stop.{Stop}
use Rattle.machine_walk.specs.declared.Stop.TheVariants.{AtApplication, AtLet, AtForce, AtBox, AtApply, AtExit, AtEnd}
use Rattle.machine_walk.specs.declared.Stop.TheVariants.{AtVariable}
use Rattle.std.specs.declared.ops.ControlFlow.{ControlFlow}
use Rattle.std.specs.declared.ops.ControlFlow.TheVariants.{Continue, Break}
use Rattle.machine_walk.specs.declared.Stopped.{Stopped}

-- The stack_entry of a hole whose node stands at place p of the walked nodes. The second number is where the second part starts,
-- and for an open box where the frame above starts.
abbrev pub entry_for : Hole → ℕ → Quadword
entry_for (only n) p = stack_entry 0 p 0
entry_for (first n u) p = stack_entry 1 p 0
entry_for (second n v) p = stack_entry 2 p (p + suc (length (preorder v)))
entry_for (opened n b) p = stack_entry 3 p (p + suc (length (preorder b)))

-- The entries of all holes, the outermost first.
abbrev pub entries_for : List Hole → List Quadword
entries_for [] = []
entries_for (h ∷ hs) = entries_for hs ++ (entry_for h (length (before hs)) ∷ [])

-- A gap buffer: xs stands at the start and ends at place l, ys stands at the end and starts at place r. Nothing is said of
-- what stands between.
pub record GapBuffer (ns : List Node) (l r : ℕ) (xs ys : List Node) : Type 0 where
  pub front : take l ns ≡ xs
  pub back : drop r ns ≡ ys
  pub apart : l ≤ r
  pub inside : r ≤ length ns

-- The first entries are those of the holes.
pub record Stacked (rs : List Quadword) (depth : ℕ) (hs : List Hole) : Type 0 where
  pub deep : depth ≡ length hs
  pub rows : take depth rs ≡ entries_for hs

abbrev pub is_returning : Walk → Bool
is_returning (evaluating t hs) = false
is_returning (returning v hs) = true

-- The least number of nodes for which the buffer has room: four times as many as there may be, so that a step never lacks
-- room in the gap. Callers may lend more.
abbrev pub least_nodes : ℕ
least_nodes = 4 * most_nodes

-- The memory, with the nodes ns and the entries rs, holds the walk w at place p. The nodes of all frames are at most 4,096, and
-- there are as many entries.
pub record Holds (ns : List Node) (rs : List Quadword) (p : Place) (w : Walk) : Type 0 where
  pub buffer : GapBuffer ns p.left p.right (walked_nodes w) (nodes_to_walk w)
  pub stacked : Stacked rs p.depth (holes w)
  pub mode : p.returning ≡ is_returning w
  pub few : length (walked_nodes w) + length (nodes_to_walk w) ≤ most_nodes
  pub room : most_nodes ≤ length rs
  pub wide : least_nodes ≤ length ns

-- The stop of evaluation that the code's answer names.
abbrev pub stop_of : Stop → StopOf
stop_of AtApplication = at_application
stop_of AtLet = at_let
stop_of AtForce = at_force
stop_of AtBox = at_box
stop_of AtApply = at_apply
stop_of AtExit = at_exit
stop_of AtEnd = at_end
stop_of AtVariable = at_variable

-- What one move of the walk w leaves, by the code's answer: the memory holds the next walk at the place answered; or the
-- walk stops there, and the memory holds it as before.
abbrev pub MovedTo : List Node → List Quadword → Place → Walk → ControlFlow Stop Place → Type 0
MovedTo ns rs p w (Continue q) = (w' : Walk) × (move w ≡ goes_on w') × Holds ns rs q w'
MovedTo ns rs p w (Break s) = (move w ≡ stops (stop_of s)) × Holds ns rs p w

-- The contract of one move: from the nodes and entries before it to those after it, for every walk that the memory holds.
abbrev pub Moves : List Node → List Quadword → List Node → List Quadword → Place → ControlFlow Stop Place → Type 0
Moves ns rs ns' rs' p r =
    (positions closed : ℕ) (w : Walk) → WalkFits positions closed w → Holds ns rs p w → MovedTo ns' rs' p w r

-- The contract of the walk.
pub record Walked (ns : List Node) (rs : List Quadword) (w : Walk) (r : Stopped) : Type 0 where
  pub held : Holds ns rs r.place (walk w)
  pub stop_is : move (walk w) ≡ stops (stop_of r.stop)

abbrev pub Walks : List Node → List Quadword → List Node → List Quadword → Place → Stopped → Type 0
Walks ns rs ns' rs' p r =
    (positions closed : ℕ) (w : Walk) → WalkFits positions closed w → Holds ns rs p w → Walked ns' rs' w r
