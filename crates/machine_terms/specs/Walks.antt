-- The walk: from the tree in hand to the next redex, node by node (000, section 3.2, with the continuations laid out
-- as holes). 01: "left part first, then right; never under abstraction or lift, nor in let's second part".
use Rattle.std.specs.Prelude.{ℕ, zero, suc, ◌+◌, ◌*◌, List, [], ◌∷◌, ◌++◌, ◌≡◌, T as Truth, length}
use Rattle.machine_terms.specs.Trees.{Node, kind, Tree, leaf, one, two, preorder, LeafKind, a_variable, a_label}
use Rattle.machine_terms.specs.Trees.{a_gate, a_constant, leaf_kind, OneKind, an_abstraction, a_lift, a_force, a_box}
use Rattle.machine_terms.specs.Trees.{one_kind, TwoKind, an_application, a_pair, a_let, an_apply, two_kind, WellKinded}
use Rattle.machine_terms.specs.Trees.{value_tree, a_unit_value}
use Rattle.machine_terms.specs.Holes.{Hole, only, first, second, opened, before, after, HolesFit}

-- A state of the walk: a tree to evaluate, or a value that is complete, with the holes around it.
pub data Walk : Type 0 where
  evaluating : Tree → List Hole → Walk
  returning : Tree → List Hole → Walk

-- Where the walk stops: at one of the five redexes, at the end of an open box, at the end of the outermost frame, or
-- at a free variable, which no typed program has.
pub data Stop : Type 0 where
  at_application at_let at_force at_box at_apply at_exit at_end at_variable : Stop

-- What a move of the walk comes to.
pub data Move : Type 0 where
  goes_on : Walk → Move
  stops : Stop → Move

-- A node without parts is a value and is returned; a variable stops the walk.
abbrev pub move_leaf : LeafKind → Node → List Hole → Move
move_leaf a_variable n hs = stops at_variable
move_leaf a_label n hs = goes_on (returning (leaf n) hs)
move_leaf a_gate n hs = goes_on (returning (leaf n) hs)
move_leaf a_unit_value n hs = goes_on (returning (leaf n) hs)
move_leaf a_constant n hs = goes_on (returning (leaf n) hs)

-- An abstraction or a lift is a value and is returned whole; force and box wait for their part.
abbrev pub move_one : OneKind → Node → Tree → List Hole → Move
move_one an_abstraction n t hs = goes_on (returning (one n t) hs)
move_one a_lift n t hs = goes_on (returning (one n t) hs)
move_one a_force n t hs = goes_on (evaluating t (only n ∷ hs))
move_one a_box n t hs = goes_on (evaluating t (only n ∷ hs))

-- The redex of a node with one part, once that is a value.
abbrev pub stop_one : OneKind → Stop
stop_one an_abstraction = at_force
stop_one a_lift = at_force
stop_one a_force = at_force
stop_one a_box = at_box

-- Once its first part is the value v, a node goes on with its second part u; a let is a redex.
abbrev pub move_first : TwoKind → Node → Tree → Tree → List Hole → Move
move_first an_application n v u hs = goes_on (evaluating u (second n v ∷ hs))
move_first a_pair n v u hs = goes_on (evaluating u (second n v ∷ hs))
move_first a_let n v u hs = stops at_let
move_first an_apply n v u hs = goes_on (evaluating u (second n v ∷ hs))

-- Once its parts are the values v and w, a pair is a value; other nodes are redexes.
abbrev pub move_second : TwoKind → Node → Tree → Tree → List Hole → Move
move_second an_application n v w hs = stops at_application
move_second a_pair n v w hs = goes_on (returning (two n v w) hs)
move_second a_let n v w hs = stops at_let
move_second an_apply n v w hs = stops at_apply

-- One move of the walk.
abbrev pub move : Walk → Move
move (evaluating (leaf n) hs) = move_leaf (leaf_kind (kind n)) n hs
move (evaluating (one n t) hs) = move_one (one_kind (kind n)) n t hs
move (evaluating (two n t u) hs) = goes_on (evaluating t (first n u ∷ hs))
move (returning v []) = stops at_end
move (returning v (only n ∷ hs)) = stops (stop_one (one_kind (kind n)))
move (returning v (first n u ∷ hs)) = move_first (two_kind (kind n)) n v u hs
move (returning v (second n w ∷ hs)) = move_second (two_kind (kind n)) n w v hs
move (returning v (opened n b ∷ hs)) = stops at_exit

-- The tree in hand.
abbrev pub focus : Walk → Tree
focus (evaluating t hs) = t
focus (returning v hs) = v

-- The holes around it.
abbrev pub holes : Walk → List Hole
holes (evaluating t hs) = hs
holes (returning v hs) = hs

-- The walked part of all frames' nodes.
abbrev pub left : Walk → List Node
left (evaluating t hs) = before hs
left (returning v hs) = before hs ++ preorder v

-- The part of all frames' nodes still to be walked.
abbrev pub right : Walk → List Node
right (evaluating t hs) = preorder t ++ after hs
right (returning v hs) = after hs

-- 0 while evaluating, 1 while returning.
abbrev pub mode : Walk → ℕ
mode (evaluating t hs) = 0
mode (returning v hs) = 1

-- Each move makes this number smaller.
abbrev pub moves_left : Walk → ℕ
moves_left w = 2 * length (right w) + (length (holes w) + mode w)

-- More moves where the walk goes on; the same state where it stops.
abbrev pub move_on : Move → Walk → (Walk → Walk) → Walk
move_on (goes_on w') w more = more w'
move_on (stops s) w more = w

-- At most so many moves.
abbrev pub moves : ℕ → Walk → Walk
moves zero w = w
moves (suc n) w = move_on (move w) w (moves n)

-- The walk to its stop.
abbrev pub walk : Walk → Walk
walk w = moves (moves_left w) w

-- What holds of each state of the walk: the trees are well-kinded, what is returned is a value, the holes fit.
abbrev pub WalkFits : ℕ → ℕ → Walk → Type 0
WalkFits positions closed (evaluating t hs) = WellKinded positions closed t × HolesFit positions closed hs
WalkFits positions closed (returning v hs) =
    WellKinded positions closed v × Truth (value_tree v) × HolesFit positions closed hs

-- The states at which the walk stops.
pub data Stopped : Walk → Stop → Type 0 where
  stopped_application : {n : Node} {f v : Tree} {hs : List Hole}
      → two_kind (kind n) ≡ an_application
      → Stopped (returning v (second n f ∷ hs)) at_application
  stopped_let : {n : Node} {v u : Tree} {hs : List Hole}
      → two_kind (kind n) ≡ a_let
      → Stopped (returning v (first n u ∷ hs)) at_let
  stopped_force : {n : Node} {v : Tree} {hs : List Hole}
      → one_kind (kind n) ≡ a_force
      → Stopped (returning v (only n ∷ hs)) at_force
  stopped_box : {n : Node} {v : Tree} {hs : List Hole}
      → one_kind (kind n) ≡ a_box
      → Stopped (returning v (only n ∷ hs)) at_box
  stopped_apply : {n : Node} {f v : Tree} {hs : List Hole}
      → two_kind (kind n) ≡ an_apply
      → Stopped (returning v (second n f ∷ hs)) at_apply
  stopped_exit : {n : Node} {b v : Tree} {hs : List Hole} → Stopped (returning v (opened n b ∷ hs)) at_exit
  stopped_end : {v : Tree} → Stopped (returning v []) at_end
  stopped_variable : {n : Node} {hs : List Hole}
      → leaf_kind (kind n) ≡ a_variable
      → Stopped (evaluating (leaf n) hs) at_variable
