-- The trees that are label tuples: labels and unit's values joined by pairs.
use Rattle.std.specs.Prelude.{ℕ, ◌≡◌, refl, ◌⊎◌, Bool, true, false, cond, eqb, length}
use Rattle.std.proofs.Common.{arith, sym, ◌∙◌, ap, subst, inl, inr, length-append, eqb-true}
use Rattle.std.proofs.Math.Option.{Option, none, some, some-injective, none-ne-some}
use Rattle.rules.specs.Kinds.{variable_kind, label_kind, application_kind, pair_kind, let_kind, gate_term_kind, unit_value_kind}
use Rattle.rules.specs.Terms.{Tuple, single, both, empty}
use Rattle.rules.specs.Next.{joined}
use Rattle.machine_terms.specs.Trees.{Node, kind, argument, Tree, leaf, one, two, preorder, LeafKind, a_variable}
use Rattle.machine_terms.specs.Trees.{a_label, a_gate, a_constant, leaf_kind, TwoKind, an_application, a_pair, a_let}
use Rattle.machine_terms.specs.Trees.{an_apply, two_kind, leaf_tuple, two_tuple, tuple_of_tree, tuple_tree, a_unit_value}
use Rattle.machine_terms.proofs.Laws.Kinds.{leaf_number}

-- A tree that is the label tuple k.
pub data IsTuple : Tree → Tuple → Type 0 where
  is_label : {n : Node} → kind n ≡ label_kind → IsTuple (leaf n) (single (argument n))
  is_unit_value : {n : Node} → kind n ≡ unit_value_kind → IsTuple (leaf n) empty
  is_pair : {n : Node} {t u : Tree} {k l : Tuple}
      → kind n ≡ pair_kind
      → IsTuple t k
      → IsTuple u l
      → IsTuple (two n t u) (both k l)

-- A number that is not read as a circuit constant is that of the kind read.
leaf_read : (k : ℕ) → (leaf_kind k ≡ a_constant) ⊎ (k ≡ leaf_number (leaf_kind k))
unfolding leaf_kind
leaf_read k = of (eqb k variable_kind) (eqb k label_kind) (eqb k gate_term_kind) (eqb k unit_value_kind) refl refl refl refl
  where
    of : (a b c d : Bool)
        → eqb k variable_kind ≡ a
        → eqb k label_kind ≡ b
        → eqb k gate_term_kind ≡ c
        → eqb k unit_value_kind ≡ d
        → (cond a a_variable (cond b a_label (cond c a_gate (cond d a_unit_value a_constant))) ≡ a_constant)
        ⊎ (k ≡ leaf_number (cond a a_variable (cond b a_label (cond c a_gate (cond d a_unit_value a_constant)))))
    of true b c d p q r s = inr (eqb-true k variable_kind p)
    of false true c d p q r s = inr (eqb-true k label_kind q)
    of false false true d p q r s = inr (eqb-true k gate_term_kind r)
    of false false false true p q r s = inr (eqb-true k unit_value_kind s)
    of false false false false p q r s = inl refl

kind_of_leaf : (c : LeafKind) (k : ℕ) → (c ≡ a_constant → k ≡ leaf_number c) → leaf_kind k ≡ c → k ≡ leaf_number c
kind_of_leaf c k h e = of (leaf_read k)
  where
    of : (leaf_kind k ≡ a_constant) ⊎ (k ≡ leaf_number (leaf_kind k)) → k ≡ leaf_number c
    of (inl f) = h (sym e ∙ f)
    of (inr f) = f ∙ ap leaf_number e

kind_of_pair : (k : ℕ) → two_kind k ≡ a_pair → k ≡ pair_kind
unfolding two_kind
kind_of_pair k e = of (eqb k application_kind) (eqb k pair_kind) (eqb k let_kind) refl e
  where
    of : (a b c : Bool)
        → eqb k pair_kind ≡ b
        → cond a an_application (cond b a_pair (cond c a_let an_apply)) ≡ a_pair
        → k ≡ pair_kind
    of true b c p e = cc
    of false true c p e = eqb-true k 20 p
    of false false true p e = cc
    of false false false p e = cc

leaf_is : (n : Node) (k : Tuple) → leaf_tuple (leaf_kind (kind n)) (argument n) ≡ some k → IsTuple (leaf n) k
leaf_is n k e = of (leaf_kind (kind n)) refl e
  where
    of : (c : LeafKind) → leaf_kind (kind n) ≡ c → leaf_tuple c (argument n) ≡ some k → IsTuple (leaf n) k
    of a_variable p e = absurd (none-ne-some k e)
    of a_label p e =
        subst (IsTuple (leaf n)) (some-injective (single (argument n)) k e)
        (is_label (kind_of_leaf a_label (kind n) (λ q. cc) p))
    of a_gate p e = absurd (none-ne-some k e)
    of a_unit_value p e =
        subst (IsTuple (leaf n)) (some-injective empty k e)
        (is_unit_value (kind_of_leaf a_unit_value (kind n) (λ q. cc) p))
    of a_constant p e = absurd (none-ne-some k e)

both_is : (n : Node) (t u : Tree) (k : Tuple)
    → ((l : Tuple) → tuple_of_tree t ≡ some l → IsTuple t l)
    → ((l : Tuple) → tuple_of_tree u ≡ some l → IsTuple u l)
    → two_tuple (two_kind (kind n)) (joined (tuple_of_tree t) (tuple_of_tree u)) ≡ some k
    → IsTuple (two n t u) k
both_is n t u k ht hu e = of (two_kind (kind n)) refl e
  where
    halves : (a b : Option Tuple)
        → tuple_of_tree t ≡ a
        → tuple_of_tree u ≡ b
        → kind n ≡ pair_kind
        → joined a b ≡ some k
        → IsTuple (two n t u) k
    halves none b p q h e = absurd (none-ne-some k e)
    halves (some x) none p q h e = absurd (none-ne-some k e)
    halves (some x) (some y) p q h e =
        subst (IsTuple (two n t u)) (some-injective (both x y) k e) (is_pair h (ht x p) (hu y q))

    of : (c : TwoKind)
        → two_kind (kind n) ≡ c
        → two_tuple c (joined (tuple_of_tree t) (tuple_of_tree u)) ≡ some k
        → IsTuple (two n t u) k
    of an_application p e = absurd (none-ne-some k e)
    of a_pair p e = halves (tuple_of_tree t) (tuple_of_tree u) refl refl (kind_of_pair (kind n) p) e
    of a_let p e = absurd (none-ne-some k e)
    of an_apply p e = absurd (none-ne-some k e)

-- A tree that is read as a label tuple is one.
pub is_tuple : (v : Tree) (k : Tuple) → tuple_of_tree v ≡ some k → IsTuple v k
is_tuple (leaf n) k e = leaf_is n k e
is_tuple (one n t) k e = absurd (none-ne-some k e)
is_tuple (two n t u) k e = both_is n t u k (is_tuple t) (is_tuple u) e

-- It has as many nodes as the tree of the tuple.
pub tuple_nodes : {v : Tree} {k : Tuple} → IsTuple v k → length (preorder v) ≡ length (preorder (tuple_tree k))
tuple_nodes (is_label h) = refl
tuple_nodes (is_unit_value h) = refl
tuple_nodes (is_pair {t = t} {u = u} {k = k} {l = l} h i j) =
    omega (
      arith,
      length-append (preorder t) (preorder u),
      length-append (preorder (tuple_tree k)) (preorder (tuple_tree l)),
      tuple_nodes i,
      tuple_nodes j,
    )
