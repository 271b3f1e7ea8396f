-- Where evaluation stands: the nodes opened on the way to the tree in hand. All open boxes make one context.
use Rattle.std.specs.Prelude.{ℕ, zero, suc, ◌≡◌, Bool, true, false, List, [], ◌∷◌, ◌++◌, T as Truth}
use Rattle.machine_terms.specs.Trees.{Node, kind, Tree, leaf, one, two, preorder, OneKind, an_abstraction, a_lift}
use Rattle.machine_terms.specs.Trees.{a_force, a_box, one_kind, TwoKind, an_application, a_pair, a_let, an_apply}
use Rattle.machine_terms.specs.Trees.{two_kind, OneFits, TwoFits, WellKinded, value_tree}

-- An opened node, around the place of the tree in hand.
pub data Hole : Type 0 where
  -- Force or box, waiting for its part.
  only : Node → Hole
  -- The first part is evaluated; the second waits.
  first : Node → Tree → Hole
  -- The first part is this value; the second is evaluated.
  second : Node → Tree → Hole
  -- An open box: its node and its part, a lift. What stands inward is the frame above.
  opened : Node → Tree → Hole

-- The nodes of an opened node before the place of the tree in hand.
abbrev pub nodes_before : Hole → List Node
nodes_before (only n) = n ∷ []
nodes_before (first n u) = n ∷ []
nodes_before (second n v) = n ∷ preorder v
nodes_before (opened n t) = n ∷ preorder t

-- The nodes of an opened node after the place of the tree in hand.
abbrev pub nodes_after : Hole → List Node
nodes_after (only n) = []
nodes_after (first n u) = preorder u
nodes_after (second n v) = []
nodes_after (opened n t) = []

-- All nodes before the place of the tree in hand. The holes stand innermost first.
abbrev pub before : List Hole → List Node
before [] = []
before (h ∷ hs) = before hs ++ nodes_before h

-- All nodes after the place of the tree in hand.
abbrev pub after : List Hole → List Node
after [] = []
after (h ∷ hs) = nodes_after h ++ after hs

-- The innermost frame's whole tree, with t in its place.
abbrev pub frame_tree : List Hole → Tree → Tree
frame_tree [] t = t
frame_tree (only n ∷ hs) t = frame_tree hs (one n t)
frame_tree (first n u ∷ hs) t = frame_tree hs (two n t u)
frame_tree (second n v ∷ hs) t = frame_tree hs (two n v t)
frame_tree (opened n b ∷ hs) t = t

-- The trees of the frames below, inward ones first. 01: "the frame below keeps its term until box exit".
abbrev pub trees_below : List Hole → List Tree
trees_below [] = []
trees_below (only n ∷ hs) = trees_below hs
trees_below (first n u ∷ hs) = trees_below hs
trees_below (second n v ∷ hs) = trees_below hs
trees_below (opened n b ∷ hs) = frame_tree hs (one n b) ∷ trees_below hs

-- How many boxes are open.
abbrev pub open_boxes : List Hole → ℕ
open_boxes [] = zero
open_boxes (only n ∷ hs) = open_boxes hs
open_boxes (first n u ∷ hs) = open_boxes hs
open_boxes (second n v ∷ hs) = open_boxes hs
open_boxes (opened n b ∷ hs) = suc (open_boxes hs)

-- The nodes of one part whose part is evaluated.
abbrev pub waits : OneKind → Bool
waits an_abstraction = false
waits a_lift = false
waits a_force = true
waits a_box = true

-- The nodes of two parts whose second part is evaluated.
abbrev pub goes_right : TwoKind → Bool
goes_right an_application = true
goes_right a_pair = true
goes_right a_let = false
goes_right an_apply = true

-- Lift, among the kinds with one part.
abbrev pub is_lift_kind : OneKind → Bool
is_lift_kind an_abstraction = false
is_lift_kind a_lift = true
is_lift_kind a_force = false
is_lift_kind a_box = false

-- A tree that is a lift.
abbrev pub is_lift : Tree → Bool
is_lift (leaf n) = false
is_lift (one n t) = is_lift_kind (one_kind (kind n))
is_lift (two n t u) = false

-- The hole's node is one that evaluation opens so, its trees are well-kinded, and what stands before is a value.
abbrev pub HoleFits : ℕ → ℕ → Hole → Type 0
HoleFits positions closed (only n) = OneFits positions n × Truth (waits (one_kind (kind n)))
HoleFits positions closed (first n u) = TwoFits n × WellKinded positions closed u
HoleFits positions closed (second n v) =
    TwoFits n × Truth (goes_right (two_kind (kind n))) × WellKinded positions closed v × Truth (value_tree v)
HoleFits positions closed (opened n b) =
    OneFits positions n × (one_kind (kind n) ≡ a_box) × WellKinded positions closed b × Truth (is_lift b)

-- All holes fit.
abbrev pub HolesFit : ℕ → ℕ → List Hole → Type 0
HolesFit positions closed [] = Unit {0}
HolesFit positions closed (h ∷ hs) = HoleFits positions closed h × HolesFit positions closed hs
