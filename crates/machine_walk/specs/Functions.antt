-- The contracts of the functions that make one move, with a law for each way through them.
use Rattle.std.specs.Prelude.{ℕ, zero, suc, ◌-◌, ◌≤◌, ◌<◌, ◌≡◌, true, false, List, length}
use Rattle.machine_terms.specs.Trees.{Node, kind}
use Rattle.machine_nodes.specs.Nodes.{node_at}
use Rattle.words.specs.Quadwords.{Quadword, quadword_at}
use Rattle.machine_walk.specs.Stack.{stack_tag, stack_node}
use Rattle.machine_walk.specs.Places.{Moves}
use Rattle.machine_walk.specs.Heads.{head_of}
use Rattle.machine_walk.specs.declared.Place.{Place}
use Rattle.machine_walk.specs.declared.Stop.{Stop}
use Rattle.machine_walk.specs.declared.Head.{Head}
use Rattle.machine_walk.specs.declared.Head.TheVariants.{OnePart, TwoParts}
use Rattle.std.specs.declared.ops.ControlFlow.{ControlFlow}

-- A tree is evaluated, and this is what is to be done with it.
pub record Evaluates (ns : List Node) (p : Place) (h : Head) : Type 0 where
  pub apart : p.left ≤ p.right
  pub inside : p.right < length ns
  pub mode : p.returning ≡ false
  pub head : head_of (kind (node_at ns p.right)) ≡ h

-- The tag of a hole that is opened says how many parts its node has.
abbrev pub head_of_tag : ℕ → Head
head_of_tag zero = OnePart
head_of_tag (suc n) = TwoParts

-- A value is returned to the hole on top of the stack, which has this tag, and its node this place.
pub record ReturnsTo (rs : List Quadword) (p : Place) (tag at : ℕ) : Type 0 where
  pub mode : p.returning ≡ true
  pub deep : 0 < p.depth
  pub tag_is : stack_tag (quadword_at rs (p.depth - 1)) ≡ tag
  pub at_is : stack_node (quadword_at rs (p.depth - 1)) ≡ at

-- A move that changes the stack alone, by the kind of the node at place `at`.
abbrev pub MovesStack : List Quadword → List Quadword → Place → ℕ → ℕ → ControlFlow Stop Place → Type 0
MovesStack rs rs' p at k r = (ns : List Node) → k ≡ kind (node_at ns at) → Moves ns rs ns rs' p r
