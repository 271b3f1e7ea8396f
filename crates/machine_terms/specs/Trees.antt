-- Terms as trees of nodes: the form in which the machine keeps them.
use Rattle.std.specs.Prelude.{ℕ, zero, suc, ◌<◌, ◌≡◌, Bool, true, false, ◌&&◌, cond, List, [], ◌∷◌, ◌++◌, eqb, leb}
use Rattle.std.proofs.Math.Option.{Option, none, some}
use Rattle.rules.specs.Kinds.{variable_kind, label_kind, abstraction_kind, application_kind, pair_kind, let_kind}
use Rattle.rules.specs.Kinds.{lift_kind, force_kind, gate_term_kind, constant_kind, unit_value_kind}
use Rattle.rules.specs.Terms.{Tuple, single, both, empty}
use Rattle.rules.specs.Parts.{parts_of_kind}
use Rattle.rules.specs.Next.{joined}

-- A node: its kind and its argument (01, "Program file").
pub data Node : Type 0 where
  node : ℕ → ℕ → Node

-- Its kind.
abbrev pub kind : Node → ℕ
kind (node k a) = k

-- Its argument.
abbrev pub argument : Node → ℕ
argument (node k a) = a

-- A tree: a node with no part, one part or two.
pub data Tree : Type 0 where
  leaf : Node → Tree
  one : Node → Tree → Tree
  two : Node → Tree → Tree → Tree

-- The nodes of a tree, in the order of a program file: each node stands before its parts.
abbrev pub preorder : Tree → List Node
preorder (leaf n) = n ∷ []
preorder (one n t) = n ∷ preorder t
preorder (two n t u) = n ∷ (preorder t ++ preorder u)

-- The kinds without parts: 16 variable, 17 label, 26 gate; 02, ticket 5: unit's "value (term kind 27)". Kind 32 is the
-- machine's own, a circuit constant; its argument is the number of the closed circuit, counted from the first closed.
pub data LeafKind : Type 0 where
  a_variable a_label a_gate a_unit_value a_constant : LeafKind

-- The kind without parts that a number is; a number that is none is read as a circuit constant (WellKinded excludes
-- it).
unfoldable pub leaf_kind : ℕ → LeafKind
leaf_kind k =
    cond (eqb k variable_kind) a_variable
    (cond (eqb k label_kind) a_label
    (cond (eqb k gate_term_kind) a_gate (cond (eqb k unit_value_kind) a_unit_value a_constant)))

-- The kinds with one part: 18 abstraction, 22 lift, 23 force, 24 box.
pub data OneKind : Type 0 where
  an_abstraction a_lift a_force a_box : OneKind

-- The kind with one part that a number is; a number that is none is read as a box.
unfoldable pub one_kind : ℕ → OneKind
one_kind k = cond (eqb k abstraction_kind) an_abstraction (cond (eqb k lift_kind) a_lift (cond (eqb k force_kind) a_force a_box))

-- The kinds with two parts: 19 application, 20 pair, 21 let, 25 apply.
pub data TwoKind : Type 0 where
  an_application a_pair a_let an_apply : TwoKind

-- The kind with two parts that a number is; a number that is none is read as an apply.
unfoldable pub two_kind : ℕ → TwoKind
two_kind k = cond (eqb k application_kind) an_application (cond (eqb k pair_kind) a_pair (cond (eqb k let_kind) a_let an_apply))

-- How many parts follow a kind: as the table of parts says, and none behind a circuit constant; 3 for a number that is no kind.
unfoldable pub parts : ℕ → ℕ
parts k = cond (leb variable_kind k && leb k unit_value_kind) (parts_of_kind k) (cond (eqb k constant_kind) 0 3)

-- The argument of a circuit constant is the number of a circuit closed so far.
abbrev pub ConstantFits : LeafKind → ℕ → ℕ → Type 0
ConstantFits a_variable closed a = Unit {0}
ConstantFits a_label closed a = Unit {0}
ConstantFits a_gate closed a = Unit {0}
ConstantFits a_unit_value closed a = Unit {0}
ConstantFits a_constant closed a = a < closed

-- The argument of an abstraction or a box is a type position.
abbrev pub PositionFits : OneKind → ℕ → ℕ → Type 0
PositionFits an_abstraction positions a = a < positions
PositionFits a_lift positions a = Unit {0}
PositionFits a_force positions a = Unit {0}
PositionFits a_box positions a = a < positions

-- A node without parts, as its kind says.
abbrev pub LeafFits : ℕ → Node → Type 0
LeafFits closed n = (parts (kind n) ≡ 0) × ConstantFits (leaf_kind (kind n)) closed (argument n)

-- A node with one part, as its kind says.
abbrev pub OneFits : ℕ → Node → Type 0
OneFits positions n = (parts (kind n) ≡ 1) × PositionFits (one_kind (kind n)) positions (argument n)

-- A node with two parts, as its kind says.
abbrev pub TwoFits : Node → Type 0
TwoFits n = parts (kind n) ≡ 2

-- Each node has the parts that its kind asks for, type positions and circuit numbers are below the given ends.
abbrev pub WellKinded : ℕ → ℕ → Tree → Type 0
WellKinded positions closed (leaf n) = LeafFits closed n
WellKinded positions closed (one n t) = OneFits positions n × WellKinded positions closed t
WellKinded positions closed (two n t u) =
    TwoFits n × WellKinded positions closed t × WellKinded positions closed u

-- Nodes without parts that are values: all but a variable.
abbrev pub leaf_value : LeafKind → Bool
leaf_value a_variable = false
leaf_value a_label = true
leaf_value a_gate = true
leaf_value a_unit_value = true
leaf_value a_constant = true

-- Nodes with one part that are values: abstraction and lift.
abbrev pub one_value : OneKind → Bool
one_value an_abstraction = true
one_value a_lift = true
one_value a_force = false
one_value a_box = false

-- Nodes with two parts that are values: a pair, if both parts are.
abbrev pub two_value : TwoKind → Bool → Bool
two_value an_application both_are = false
two_value a_pair both_are = both_are
two_value a_let both_are = false
two_value an_apply both_are = false

-- The trees that are values (01: "abstraction, lift, label, gate, circuit constant, pair of values"; 02, ticket 5, adds unit's).
abbrev pub value_tree : Tree → Bool
value_tree (leaf n) = leaf_value (leaf_kind (kind n))
value_tree (one n t) = one_value (one_kind (kind n))
value_tree (two n t u) = two_value (two_kind (kind n)) (value_tree t && value_tree u)

-- A label is a label tuple. 02, ticket 5: unit's value "counts there as part of a label tuple".
abbrev pub leaf_tuple : LeafKind → ℕ → Option Tuple
leaf_tuple a_variable a = none
leaf_tuple a_label a = some (single a)
leaf_tuple a_gate a = none
leaf_tuple a_unit_value a = some empty
leaf_tuple a_constant a = none

-- A pair is the label tuple of both parts.
abbrev pub two_tuple : TwoKind → Option Tuple → Option Tuple
two_tuple an_application k = none
two_tuple a_pair k = k
two_tuple a_let k = none
two_tuple an_apply k = none

-- The label tuple that a tree is, if it is one.
abbrev pub tuple_of_tree : Tree → Option Tuple
tuple_of_tree (leaf n) = leaf_tuple (leaf_kind (kind n)) (argument n)
tuple_of_tree (one n t) = none
tuple_of_tree (two n t u) = two_tuple (two_kind (kind n)) (joined (tuple_of_tree t) (tuple_of_tree u))

-- A label tuple as a tree.
abbrev pub tuple_tree : Tuple → Tree
tuple_tree (single ℓ) = leaf (node label_kind ℓ)
tuple_tree empty = leaf (node unit_value_kind 0)
tuple_tree (both k l) = two (node pair_kind 0) (tuple_tree k) (tuple_tree l)

-- Tree a, counted from the first of the list; the given tree where the list ends before.
abbrev pub tree_at : List Tree → ℕ → Tree → Tree
tree_at [] a t = t
tree_at (v ∷ vs) zero t = v
tree_at (v ∷ vs) (suc a) t = tree_at vs a t

-- What becomes of variable a, t itself, under k binders.
abbrev pub variable_tree : ℕ → List Tree → ℕ → Tree → Tree
variable_tree zero vs a t = tree_at vs a t
variable_tree (suc k) vs zero t = t
variable_tree (suc k) vs (suc a) t = variable_tree k vs a t

-- What becomes of a node without parts, under k binders.
abbrev pub leaf_under : LeafKind → ℕ → List Tree → Node → Tree
leaf_under a_variable k vs n = variable_tree k vs (argument n) (leaf n)
leaf_under a_label k vs n = leaf n
leaf_under a_gate k vs n = leaf n
leaf_under a_unit_value k vs n = leaf n
leaf_under a_constant k vs n = leaf n

-- The binders over the part of a node that stands under k binders.
abbrev pub binders_one : OneKind → ℕ → ℕ
binders_one an_abstraction k = suc k
binders_one a_lift k = k
binders_one a_force k = k
binders_one a_box k = k

-- The binders over the second part of a node that stands under k binders.
abbrev pub binders_two : TwoKind → ℕ → ℕ
binders_two an_application k = k
binders_two a_pair k = k
binders_two a_let k = suc (suc k)
binders_two an_apply k = k

-- Under k binders, variable k becomes the first tree of the list, k + 1 the second.
abbrev pub under_tree : ℕ → List Tree → Tree → Tree
under_tree k vs (leaf n) = leaf_under (leaf_kind (kind n)) k vs n
under_tree k vs (one n t) = one n (under_tree (binders_one (one_kind (kind n)) k) vs t)
under_tree k vs (two n t u) = two n (under_tree k vs t) (under_tree (binders_two (two_kind (kind n)) k) vs u)

-- The tree with its outermost variables become the values of a list: one for an abstraction, two for let.
abbrev pub substitute_tree : List Tree → Tree → Tree
substitute_tree vs t = under_tree zero vs t
