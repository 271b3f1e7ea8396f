-- A tree and the term that it means: substitution, size, values, label tuples, and closed circuits that grow.
use Rattle.std.specs.Prelude.{ℕ, zero, suc, ◌+◌, ◌<◌, ◌≡◌, refl, Bool, true, false, ◌&&◌, cond, List, [], ◌∷◌, map, T as Truth, eqb, length}
use Rattle.std.proofs.Common.{arith, sym, ◌∙◌, ap, ap₂, subst, eqb→eq, length-append}
use Rattle.std.proofs.Math.Option.{none}
use Rattle.std.proofs.Math.Dec.{eqb_refl}
use Rattle.rules.specs.Types.{Ty}
use Rattle.rules.specs.Terms.{Tuple, single, both, Boxed, Term, value, tuple, term_at, variable_at, under, substitute, pair}
use Rattle.rules.specs.Terms.{empty}
use Rattle.rules.specs.Parts.{parts_of_kind}
use Rattle.rules.specs.Next.{joined, tuple_of}
use Rattle.rules.specs.Sizes.{nodes}
use Rattle.machine_terms.specs.Trees.{Node, kind, argument, Tree, leaf, one, two, preorder, LeafKind, a_variable}
use Rattle.machine_terms.specs.Trees.{a_label, a_gate, a_constant, leaf_kind, OneKind, an_abstraction, a_lift, a_force}
use Rattle.machine_terms.specs.Trees.{a_box, one_kind, TwoKind, an_application, a_pair, a_let, an_apply, two_kind, parts}
use Rattle.machine_terms.specs.Trees.{ConstantFits, LeafFits, WellKinded, leaf_value, one_value, two_value, value_tree}
use Rattle.machine_terms.specs.Trees.{leaf_tuple, two_tuple, tuple_of_tree, tuple_tree, tree_at, variable_tree, leaf_under}
use Rattle.machine_terms.specs.Trees.{binders_one, binders_two, under_tree, substitute_tree, a_unit_value}
use Rattle.machine_terms.proofs.Laws.Trees.{AllWellKinded}
use Rattle.machine_terms.specs.Meaning.{Environment, circuit_at, environment, leaf_term, one_term, two_term, meaning}

leaf_value_lem : (c : LeafKind) (a : ℕ) (b : Boxed) → value (leaf_term c a b) ≡ leaf_value c
leaf_value_lem a_variable a b = refl
leaf_value_lem a_label a b = refl
leaf_value_lem a_gate a b = refl
leaf_value_lem a_unit_value a b = refl
leaf_value_lem a_constant a b = refl

one_value_lem : (c : OneKind) (A : Ty) (M : Term) → value (one_term c A M) ≡ one_value c
one_value_lem an_abstraction A M = refl
one_value_lem a_lift A M = refl
one_value_lem a_force A M = refl
one_value_lem a_box A M = refl

two_value_lem : (c : TwoKind) (M N : Term) → value (two_term c M N) ≡ two_value c (value M && value N)
two_value_lem an_application M N = refl
two_value_lem a_pair M N = refl
two_value_lem a_let M N = refl
two_value_lem an_apply M N = refl

-- A tree is a value exactly if its term is one.
pub value_meaning : (e : Environment) (t : Tree) → value (meaning e t) ≡ value_tree t
value_meaning e (leaf n) = leaf_value_lem (leaf_kind (kind n)) _ _
value_meaning e (one n t) = one_value_lem (one_kind (kind n)) _ _
value_meaning e (two n t u) =
    two_value_lem (two_kind (kind n)) (meaning e t) (meaning e u)
    ∙ ap₂ (λ a b. two_value (two_kind (kind n)) (a && b)) (value_meaning e t) (value_meaning e u)

-- A tree that is a value means a value.
pub value_of : (e : Environment) (t : Tree) → Truth (value_tree t) → Truth (value (meaning e t))
value_of e t v = subst Truth (sym (value_meaning e t)) v

leaf_nodes : (c : LeafKind) (a : ℕ) (b : Boxed) → nodes (leaf_term c a b) ≡ 1
leaf_nodes a_variable a b = refl
leaf_nodes a_label a b = refl
leaf_nodes a_gate a b = refl
leaf_nodes a_unit_value a b = refl
leaf_nodes a_constant a b = refl

one_nodes : (c : OneKind) (A : Ty) (M : Term) → nodes (one_term c A M) ≡ 1 + nodes M
one_nodes an_abstraction A M = refl
one_nodes a_lift A M = refl
one_nodes a_force A M = refl
one_nodes a_box A M = refl

two_nodes : (c : TwoKind) (M N : Term) → nodes (two_term c M N) ≡ 1 + (nodes M + nodes N)
two_nodes an_application M N = refl
two_nodes a_pair M N = refl
two_nodes a_let M N = refl
two_nodes an_apply M N = refl

-- A term has as many nodes as its tree.
pub nodes_meaning : (e : Environment) (t : Tree) → nodes (meaning e t) ≡ length (preorder t)
nodes_meaning e (leaf n) = leaf_nodes (leaf_kind (kind n)) _ _
nodes_meaning e (one n t) =
    let h = nodes_meaning e t in
    let s = one_nodes (one_kind (kind n)) (e.type_at (argument n)) (meaning e t) in
    omega (arith, h, s)
nodes_meaning e (two n t u) =
    let h = nodes_meaning e t in
    let h' = nodes_meaning e u in
    let s = two_nodes (two_kind (kind n)) (meaning e t) (meaning e u) in
    omega (arith, h, h', s, length-append (preorder t) (preorder u))

leaf_tuple_lem : (c : LeafKind) (a : ℕ) (b : Boxed) → tuple_of (leaf_term c a b) ≡ leaf_tuple c a
leaf_tuple_lem a_variable a b = refl
leaf_tuple_lem a_label a b = refl
leaf_tuple_lem a_gate a b = refl
leaf_tuple_lem a_unit_value a b = refl
leaf_tuple_lem a_constant a b = refl

one_tuple : (c : OneKind) (A : Ty) (M : Term) → tuple_of (one_term c A M) ≡ none
one_tuple an_abstraction A M = refl
one_tuple a_lift A M = refl
one_tuple a_force A M = refl
one_tuple a_box A M = refl

two_tuple_lem : (c : TwoKind) (M N : Term) → tuple_of (two_term c M N) ≡ two_tuple c (joined (tuple_of M) (tuple_of N))
two_tuple_lem an_application M N = refl
two_tuple_lem a_pair M N = refl
two_tuple_lem a_let M N = refl
two_tuple_lem an_apply M N = refl

-- A tree is a label tuple exactly if its term is that label tuple.
pub tuple_of_meaning : (e : Environment) (t : Tree) → tuple_of (meaning e t) ≡ tuple_of_tree t
tuple_of_meaning e (leaf n) = leaf_tuple_lem (leaf_kind (kind n)) _ _
tuple_of_meaning e (one n t) = one_tuple (one_kind (kind n)) _ _
tuple_of_meaning e (two n t u) =
    two_tuple_lem (two_kind (kind n)) (meaning e t) (meaning e u)
    ∙ ap₂ (λ k l. two_tuple (two_kind (kind n)) (joined k l)) (tuple_of_meaning e t) (tuple_of_meaning e u)

-- The tree of a label tuple means that label tuple.
pub meaning_tuple : (e : Environment) (k : Tuple) → meaning e (tuple_tree k) ≡ tuple k
unfolding leaf_kind two_kind
meaning_tuple e (single ℓ) = refl
meaning_tuple e empty = refl
meaning_tuple e (both k l) = ap₂ pair (meaning_tuple e k) (meaning_tuple e l)

-- The tree of a label tuple is well-kinded.
pub well_kinded_tuple : (positions closed : ℕ) (k : Tuple) → WellKinded positions closed (tuple_tree k)
unfolding leaf_kind parts parts_of_kind
well_kinded_tuple positions closed (single ℓ) = (refl, tt)
well_kinded_tuple positions closed empty = (refl, tt)
well_kinded_tuple positions closed (both k l) =
    (refl, well_kinded_tuple positions closed k, well_kinded_tuple positions closed l)

tree_at_lem : (e : Environment) (vs : List Tree) (a : ℕ) (t : Tree)
    → meaning e (tree_at vs a t) ≡ term_at (map (meaning e) vs) a (meaning e t)
tree_at_lem e [] a t = refl
tree_at_lem e (v ∷ vs) zero t = refl
tree_at_lem e (v ∷ vs) (suc a) t = tree_at_lem e vs a t

variable_tree_lem : (e : Environment) (k : ℕ) (vs : List Tree) (a : ℕ) (t : Tree)
    → meaning e (variable_tree k vs a t) ≡ variable_at k (map (meaning e) vs) a (meaning e t)
variable_tree_lem e zero vs a t = tree_at_lem e vs a t
variable_tree_lem e (suc k) vs zero t = refl
variable_tree_lem e (suc k) vs (suc a) t = variable_tree_lem e k vs a t

one_under : (c : OneKind) (k : ℕ) (Ws : List Term) (A : Ty) (M : Term)
    → one_term c A (under (binders_one c k) Ws M) ≡ under k Ws (one_term c A M)
one_under an_abstraction k Ws A M = refl
one_under a_lift k Ws A M = refl
one_under a_force k Ws A M = refl
one_under a_box k Ws A M = refl

two_under : (c : TwoKind) (k : ℕ) (Ws : List Term) (M N : Term)
    → two_term c (under k Ws M) (under (binders_two c k) Ws N) ≡ under k Ws (two_term c M N)
two_under an_application k Ws M N = refl
two_under a_pair k Ws M N = refl
two_under a_let k Ws M N = refl
two_under an_apply k Ws M N = refl

leaf_under_lem : (e : Environment) (k : ℕ) (vs : List Tree) (n : Node) (c : LeafKind)
    → leaf_kind (kind n) ≡ c
    → meaning e (leaf_under c k vs n) ≡ under k (map (meaning e) vs) (leaf_term c (argument n) (e.closed_at (argument n)))
leaf_under_lem e k vs n a_variable p =
    variable_tree_lem e k vs (argument n) (leaf n)
    ∙ ap
    (λ c. variable_at k (map (meaning e) vs) (argument n) (leaf_term c (argument n) (e.closed_at (argument n))))
    p
leaf_under_lem e k vs n a_label p = ap (λ c. leaf_term c (argument n) (e.closed_at (argument n))) p
leaf_under_lem e k vs n a_gate p = ap (λ c. leaf_term c (argument n) (e.closed_at (argument n))) p
leaf_under_lem e k vs n a_unit_value p = ap (λ c. leaf_term c (argument n) (e.closed_at (argument n))) p
leaf_under_lem e k vs n a_constant p = ap (λ c. leaf_term c (argument n) (e.closed_at (argument n))) p

under_meaning : (e : Environment) (k : ℕ) (vs : List Tree) (t : Tree)
    → meaning e (under_tree k vs t) ≡ under k (map (meaning e) vs) (meaning e t)
under_meaning e k vs (leaf n) = leaf_under_lem e k vs n (leaf_kind (kind n)) refl
under_meaning e k vs (one n t) =
    ap (one_term (one_kind (kind n)) (e.type_at (argument n)))
    (under_meaning e (binders_one (one_kind (kind n)) k) vs t)
    ∙ one_under (one_kind (kind n)) k (map (meaning e) vs) (e.type_at (argument n)) (meaning e t)
under_meaning e k vs (two n t u) =
    ap₂ (two_term (two_kind (kind n))) (under_meaning e k vs t)
    (under_meaning e (binders_two (two_kind (kind n)) k) vs u)
    ∙ two_under (two_kind (kind n)) k (map (meaning e) vs) (meaning e t) (meaning e u)

-- Substitution on trees means substitution.
pub substitute_meaning : (e : Environment) (vs : List Tree) (t : Tree)
    → meaning e (substitute_tree vs t) ≡ substitute (map (meaning e) vs) (meaning e t)
substitute_meaning e vs t = under_meaning e zero vs t

tree_at_kinded : (positions closed : ℕ) (vs : List Tree) (a : ℕ) (t : Tree)
    → AllWellKinded positions closed vs
    → WellKinded positions closed t
    → WellKinded positions closed (tree_at vs a t)
tree_at_kinded positions closed [] a t w h = h
tree_at_kinded positions closed (v ∷ vs) zero t w h = w.0
tree_at_kinded positions closed (v ∷ vs) (suc a) t w h = tree_at_kinded positions closed vs a t w.1 h

variable_kinded : (positions closed k : ℕ) (vs : List Tree) (a : ℕ) (t : Tree)
    → AllWellKinded positions closed vs
    → WellKinded positions closed t
    → WellKinded positions closed (variable_tree k vs a t)
variable_kinded positions closed zero vs a t w h = tree_at_kinded positions closed vs a t w h
variable_kinded positions closed (suc k) vs zero t w h = h
variable_kinded positions closed (suc k) vs (suc a) t w h = variable_kinded positions closed k vs a t w h

leaf_kinded : (positions closed k : ℕ) (vs : List Tree) (n : Node) (c : LeafKind)
    → AllWellKinded positions closed vs
    → LeafFits closed n
    → WellKinded positions closed (leaf_under c k vs n)
leaf_kinded positions closed k vs n a_variable w h = variable_kinded positions closed k vs (argument n) (leaf n) w h
leaf_kinded positions closed k vs n a_label w h = h
leaf_kinded positions closed k vs n a_gate w h = h
leaf_kinded positions closed k vs n a_unit_value w h = h
leaf_kinded positions closed k vs n a_constant w h = h

under_kinded : (positions closed k : ℕ) (vs : List Tree) (t : Tree)
    → AllWellKinded positions closed vs
    → WellKinded positions closed t
    → WellKinded positions closed (under_tree k vs t)
under_kinded positions closed k vs (leaf n) w h = leaf_kinded positions closed k vs n (leaf_kind (kind n)) w h
under_kinded positions closed k vs (one n t) w h =
    (h.0, under_kinded positions closed (binders_one (one_kind (kind n)) k) vs t w h.1)
under_kinded positions closed k vs (two n t u) w h = (
  h.0,
  under_kinded positions closed k vs t w h.1,
  under_kinded positions closed (binders_two (two_kind (kind n)) k) vs u w h.2,
)

-- Substitution of well-kinded trees in one gives one.
pub substitute_kinded : (positions closed : ℕ) (vs : List Tree) (t : Tree)
    → AllWellKinded positions closed vs
    → WellKinded positions closed t
    → WellKinded positions closed (substitute_tree vs t)
substitute_kinded positions closed vs t w h = under_kinded positions closed zero vs t w h

constant_more : (closed : ℕ) (c : LeafKind) (a : ℕ) → ConstantFits c closed a → ConstantFits c (suc closed) a
constant_more closed a_variable a h = tt
constant_more closed a_label a h = tt
constant_more closed a_gate a h = tt
constant_more closed a_unit_value a h = tt
constant_more closed a_constant a h = omega arith

-- When one more circuit is closed, well-kinded trees stay well-kinded.
pub well_kinded_more : (positions closed : ℕ) (t : Tree)
    → WellKinded positions closed t
    → WellKinded positions (suc closed) t
well_kinded_more positions closed (leaf n) h =
    (h.0, constant_more closed (leaf_kind (kind n)) (argument n) h.1)
well_kinded_more positions closed (one n t) h = (h.0, well_kinded_more positions closed t h.1)
well_kinded_more positions closed (two n t u) h =
    (h.0, well_kinded_more positions closed t h.1, well_kinded_more positions closed u h.2)

cond_below : (b c : Boxed) (i k : ℕ) (test : Bool) → eqb i k ≡ test → i < k → cond test b c ≡ c
cond_below b c i k true p h =
    let same : i ≡ k = eqb→eq i k (subst Truth (sym p) tt) in
    absurd (omega arith)
cond_below b c i k false p h = refl

-- A circuit closed before has the same number after.
pub circuit_at_more : (b : Boxed) (bs : List Boxed) (i : ℕ) → i < length bs → circuit_at (b ∷ bs) i ≡ circuit_at bs i
circuit_at_more b bs i h = cond_below b (circuit_at bs i) i (length bs) (eqb i (length bs)) refl h

-- The circuit closed last has the number of those before it.
pub circuit_at_last : (b : Boxed) (bs : List Boxed) → circuit_at (b ∷ bs) (length bs) ≡ b
circuit_at_last b bs = go (eqb (length bs) (length bs)) (eqb_refl (length bs))
  where
    go : (test : Bool) → Truth test → cond test b (circuit_at bs (length bs)) ≡ b
    go true h = refl
    go false h = absurd h

leaf_more : (b : Boxed) (bs : List Boxed) (c : LeafKind) (a : ℕ)
    → ConstantFits c (length bs) a
    → leaf_term c a (circuit_at (b ∷ bs) a) ≡ leaf_term c a (circuit_at bs a)
leaf_more b bs a_variable a h = refl
leaf_more b bs a_label a h = refl
leaf_more b bs a_gate a h = refl
leaf_more b bs a_unit_value a h = refl
leaf_more b bs a_constant a h = ap (leaf_term a_constant a) (circuit_at_more b bs a h)

-- When one more circuit is closed, well-kinded trees mean what they meant.
pub meaning_more : (types : ℕ → Ty) (b : Boxed) (bs : List Boxed) (positions : ℕ) (t : Tree)
    → WellKinded positions (length bs) t
    → meaning (environment types (b ∷ bs)) t ≡ meaning (environment types bs) t
meaning_more types b bs positions (leaf n) h = leaf_more b bs (leaf_kind (kind n)) (argument n) h.1
meaning_more types b bs positions (one n t) h =
    ap (one_term (one_kind (kind n)) (types (argument n))) (meaning_more types b bs positions t h.1)
meaning_more types b bs positions (two n t u) h =
    ap₂ (two_term (two_kind (kind n))) (meaning_more types b bs positions t h.1)
    (meaning_more types b bs positions u h.2)
