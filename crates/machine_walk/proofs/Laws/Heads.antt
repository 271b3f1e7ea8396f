-- Laws of specs/Heads.antt.
use Rattle.std.specs.Prelude.{ℕ, ◌≡◌, List, ◌∷◌}
use Rattle.std.proofs.Math.Path.{refl}
use Rattle.std.proofs.Common.{subst}
use Rattle.rules.specs.Parts.{parts_of_kind}
use Rattle.machine_terms.specs.Trees.{Node, node, kind, Tree, leaf, one, two, leaf_kind, one_kind, parts, WellKinded}
use Rattle.machine_terms.specs.Holes.{Hole, only}
use Rattle.machine_terms.specs.Walks.{evaluating, returning, goes_on, stops, at_variable, move}
use Rattle.machine_terms.proofs.Laws.Kinds.{KindIs, kind_variable, kind_label, kind_gate, kind_constant, kind_abstraction}
use Rattle.machine_terms.proofs.Laws.Kinds.{kind_lift, kind_force, kind_box, kind_application, kind_pair, kind_let}
use Rattle.machine_terms.proofs.Laws.Kinds.{kind_apply, kind_view, kind_unit_value}
use Rattle.machine_walk.specs.declared.Head.{Head}
use Rattle.machine_walk.specs.declared.Head.TheVariants.{Value, OnePart, TwoParts, Neither}
use Rattle.machine_walk.specs.Heads.{head_of}

-- The move at a tree, by what is to be done with it.
pub data Headed (positions closed : ℕ) (hs : List Hole) : Head → Tree → Type 0 where
  head_value : {t : Tree} → WellKinded positions closed t
      → move (evaluating t hs) ≡ goes_on (returning t hs) → Headed positions closed hs Value t
  head_one : {n : Node} {t : Tree}
      → move (evaluating (one n t) hs) ≡ goes_on (evaluating t (only n ∷ hs))
      → Headed positions closed hs OnePart (one n t)
  head_two : {n : Node} {t u : Tree} → Headed positions closed hs TwoParts (two n t u)
  head_neither_one : {t : Tree} → move (evaluating t hs) ≡ stops at_variable → Headed positions closed hs Neither t

-- The first node of a tree.
abbrev pub root_of : Tree → Node
root_of (leaf n) = n
root_of (one n t) = n
root_of (two n t u) = n

module _ (positions closed : ℕ) (hs : List Hole) where
  leaf_headed : {k : ℕ} (a : ℕ) → KindIs k 0 → WellKinded positions closed (leaf (node k a))
      → Headed positions closed hs (head_of k) (leaf (node k a))
  unfolding head_of leaf_kind parts parts_of_kind
  leaf_headed a kind_variable h = head_neither_one refl
  leaf_headed a kind_label h = head_value h refl
  leaf_headed a kind_gate h = head_value h refl
  leaf_headed a kind_unit_value h = head_value h refl
  leaf_headed a kind_constant h = head_value h refl

  one_headed : {k : ℕ} (a : ℕ) (t : Tree) → KindIs k 1 → WellKinded positions closed (one (node k a) t)
      → Headed positions closed hs (head_of k) (one (node k a) t)
  unfolding head_of one_kind parts parts_of_kind
  one_headed a t kind_abstraction h = head_value h refl
  one_headed a t kind_lift h = head_value h refl
  one_headed a t kind_force h = head_one refl
  one_headed a t kind_box h = head_one refl

  two_headed : {k : ℕ} (a : ℕ) (t u : Tree) → KindIs k 2 → Headed positions closed hs (head_of k) (two (node k a) t u)
  unfolding head_of parts parts_of_kind
  two_headed a t u kind_application = head_two
  two_headed a t u kind_pair = head_two
  two_headed a t u kind_let = head_two
  two_headed a t u kind_apply = head_two

  pub headed : (t : Tree)
      → WellKinded positions closed t
      → Headed positions closed hs (head_of (kind (root_of t))) t
  headed (leaf (node k a)) h = leaf_headed a (subst (KindIs k) h.0 (kind_view k)) h
  headed (one (node k a) t) h = one_headed a t (subst (KindIs k) h.0.0 (kind_view k)) h
  headed (two (node k a) t u) h = two_headed a t u (subst (KindIs k) h.0 (kind_view k))
