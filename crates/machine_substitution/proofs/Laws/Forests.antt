-- Substitution on the nodes of a tree is substitution on the tree.
use Rattle.std.specs.Prelude.{ℕ, zero, suc, ◌≡◌, refl}
use Rattle.std.proofs.Common.{sym, ◌∙◌, subst}
use Rattle.std.proofs.Math.Path.{ap}
use mathlib.Core.List.{List, [], ◌∷◌, ◌++◌, append_assoc, append-nil}
use Rattle.rules.specs.Kinds.{variable_kind}
use Rattle.machine_terms.specs.Trees.{Node, node, kind, Tree, leaf, one, two, preorder, parts, leaf_kind, one_kind, two_kind}
use Rattle.machine_terms.specs.Trees.{binders_one, binders_two, tree_at, variable_tree, under_tree, substitute_tree, WellKinded}
use Rattle.machine_terms.proofs.Laws.Kinds.{KindIs, kind_variable, kind_label, kind_gate, kind_constant, kind_abstraction}
use Rattle.machine_terms.proofs.Laws.Kinds.{kind_lift, kind_force, kind_box, kind_application, kind_pair, kind_let}
use Rattle.machine_terms.proofs.Laws.Kinds.{kind_apply, kind_view, kind_unit_value}
use Rattle.machine_substitution.specs.Substituted.{value_at, variable_nodes, piece_for, parts_waiting, waiting_after}
use Rattle.machine_substitution.specs.Substituted.{substituted}

-- The nodes of each tree.
abbrev pub preorders : List Tree → List (List Node)
preorders [] = []
preorders (t ∷ ts) = preorder t ∷ preorders ts

value_nodes : (trees : List Tree) (a : ℕ) (t : Tree)
    → value_at (preorders trees) a (preorder t) ≡ preorder (tree_at trees a t)
value_nodes [] a t = refl
value_nodes (v ∷ vs) zero t = refl
value_nodes (v ∷ vs) (suc a) t = value_nodes vs a t

variable_nodes_lem : (b : ℕ) (trees : List Tree) (a : ℕ) (t : Tree)
    → variable_nodes b (preorders trees) a (preorder t) ≡ preorder (variable_tree b trees a t)
variable_nodes_lem zero trees a t = value_nodes trees a t
variable_nodes_lem (suc b) trees zero t = refl
variable_nodes_lem (suc b) trees (suc a) t = variable_nodes_lem b trees a t

leaf_piece : (trees : List Tree) (b : ℕ) {k : ℕ} (a : ℕ) → KindIs k 0
    → piece_for (preorders trees) b (node k a) ≡ preorder (under_tree b trees (leaf (node k a)))
unfolding piece_for leaf_kind
leaf_piece trees b a kind_variable = variable_nodes_lem b trees a (leaf (node variable_kind a))
leaf_piece trees b a kind_label = refl
leaf_piece trees b a kind_gate = refl
leaf_piece trees b a kind_unit_value = refl
leaf_piece trees b a kind_constant = refl

-- A node with parts stays.
one_piece : (vs : List (List Node)) (b : ℕ) {k : ℕ} (a : ℕ) → KindIs k 1 → piece_for vs b (node k a) ≡ node k a ∷ []
unfolding piece_for
one_piece vs b a kind_abstraction = refl
one_piece vs b a kind_lift = refl
one_piece vs b a kind_force = refl
one_piece vs b a kind_box = refl

two_piece : (vs : List (List Node)) (b : ℕ) {k : ℕ} (a : ℕ) → KindIs k 2 → piece_for vs b (node k a) ≡ node k a ∷ []
unfolding piece_for
two_piece vs b a kind_application = refl
two_piece vs b a kind_pair = refl
two_piece vs b a kind_let = refl
two_piece vs b a kind_apply = refl

waiting_parts : (k p b : ℕ) (waiting : List ℕ) → parts k ≡ p → waiting_after k b waiting ≡ parts_waiting p k b waiting
unfolding waiting_after
waiting_parts k p b waiting e = ap (λ q. parts_waiting q k b waiting) e

-- The first node is done, and the parts that it asks for are waited for.
next_node : (vs : List (List Node)) (b : ℕ) (waiting : List ℕ) (n : Node) (ns : List Node) (piece : List Node) (w : List ℕ)
    → piece_for vs b n ≡ piece
    → waiting_after (kind n) b waiting ≡ w
    → substituted vs (b ∷ waiting) (n ∷ ns) ≡ piece ++ substituted vs w ns
unfolding substituted
next_node vs b waiting n ns piece w p q = cc

-- The nodes of a tree, waited for under b binders, become those of the tree with the values put in.
module _ (positions closed : ℕ) (trees : List Tree) where
  abbrev vs : List (List Node)
  vs = preorders trees

  pub substituted_tree : (t : Tree) (b : ℕ) (waiting : List ℕ) (rest : List Node)
      → WellKinded positions closed t
      → substituted (preorders trees) (b ∷ waiting) (preorder t ++ rest)
      ≡ preorder (under_tree b trees t) ++ substituted (preorders trees) waiting rest
  substituted_tree (leaf (node k a)) b waiting rest h =
      next_node vs b waiting (node k a) rest (preorder (under_tree b trees (leaf (node k a)))) waiting
      (leaf_piece trees b a (subst (KindIs k) h.0 (kind_view k)))
      (waiting_parts k 0 b waiting h.0)
  substituted_tree (one (node k a) t) b waiting rest h =
      next_node vs b waiting (node k a) (preorder t ++ rest) (node k a ∷ []) (binders_one (one_kind k) b ∷ waiting)
      (one_piece vs b a (subst (KindIs k) h.0.0 (kind_view k)))
      (waiting_parts k 1 b waiting h.0.0)
      ∙ ap (λ t. node k a ∷ t) (substituted_tree t (binders_one (one_kind k) b) waiting rest h.1)
  substituted_tree (two (node k a) t u) b waiting rest h =
      ap (λ x. substituted vs (b ∷ waiting) (node k a ∷ x)) (append_assoc (preorder t) (preorder u) rest)
      ∙ next_node vs b waiting (node k a) (preorder t ++ (preorder u ++ rest)) (node k a ∷ [])
      (b ∷ binders_two (two_kind k) b ∷ waiting)
      (two_piece vs b a (subst (KindIs k) h.0 (kind_view k)))
      (waiting_parts k 2 b waiting h.0)
      ∙ ap (λ x. node k a ∷ x) (
      substituted_tree t b (binders_two (two_kind k) b ∷ waiting) (preorder u ++ rest) h.1
      ∙ ap (λ x. preorder (under_tree b trees t) ++ x)
      (substituted_tree u (binders_two (two_kind k) b) waiting rest h.2)
      ∙ sym (append_assoc (preorder (under_tree b trees t)) (preorder (under_tree (binders_two (two_kind k) b) trees u))
      (substituted vs waiting rest))
      )

  -- A whole tree.
  pub substituted_whole : (t : Tree)
      → WellKinded positions closed t
      → substituted (preorders trees) (0 ∷ []) (preorder t) ≡ preorder (substitute_tree trees t)
  unfolding substituted
  substituted_whole t h =
      ap (substituted vs (0 ∷ [])) (sym (append-nil (preorder t)))
      ∙ substituted_tree t 0 [] [] h
      ∙ append-nil (preorder (substitute_tree trees t))
