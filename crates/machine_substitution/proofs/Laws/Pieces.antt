-- Laws of specs/Pieces.antt.
use Rattle.std.specs.Prelude.{ℕ, zero, suc, ◌+◌, ◌-◌, ◌≤◌, ◌<◌, ◌≡◌, Bool, List, [], ◌∷◌, eqb, ltb, length, take, drop, Option, Some, None, IfSome, unwrap_or, option_map, option_to_list}
use Rattle.std.proofs.Common.{arith, sym, ◌∙◌, inl, inr, length-take, length-drop, drop-cons, ltb-true, ltb-false, eq-eqb, ne_eqb, lt-ltb, le-ltb}
use Rattle.std.proofs.Math.Path.{refl, ap}
use Rattle.std.proofs.Math.Bool.{true, false, cond}
use Rattle.rules.specs.Kinds.{variable_kind}
use Rattle.machine_terms.specs.Trees.{Node, node, kind, argument}
use Rattle.machine_nodes.specs.Nodes.{node_at, no_node}
use Rattle.words.specs.Regions.{over}
use Rattle.words.proofs.Laws.Regions.{get_d_under, get_d_over, region_below, drop_over}
use Rattle.machine_nodes.proofs.Laws.Copies.{Clear}
use Rattle.machine_substitution.specs.declared.Region.{Region}
use Rattle.machine_substitution.specs.declared.Values.{Values}
use Rattle.machine_substitution.specs.Substituted.{value_at, variable_nodes, piece_for, nodes_of_region, nodes_of_values}
use Rattle.machine_substitution.specs.Pieces.{node_region, value_region, variable_region, piece_region, Apart, Outside}

variable_bound : (b : ℕ) (vs : List (List Node)) (a : ℕ) (own : List Node) → a < b → variable_nodes b vs a own ≡ own
variable_bound zero vs a own h = absurd (omega arith)
variable_bound (suc b) vs zero own h = refl
variable_bound (suc b) vs (suc a) own h = variable_bound b vs a own (omega arith)

variable_free : (b : ℕ) (vs : List (List Node)) (a : ℕ) (own : List Node)
    → b ≤ a
    → variable_nodes b vs a own ≡ value_at vs (a - b) own
variable_free zero vs a own h = let e : a - 0 ≡ a = omega arith in rw e
variable_free (suc b) vs zero own h = absurd (omega arith)
variable_free (suc b) vs (suc a) own h =
    let e : suc a - suc b ≡ a - b = omega arith in
    variable_free b vs a own (omega arith) ∙ ap (λ j. value_at vs j own) (sym e)

module _ (ns : List Node) (place : ℕ) (inside : place < length ns) where
  node_alone : nodes_of_region ns (node_region place) ≡ node_at ns place ∷ []
  node_alone = ap (take 1) (drop-cons ns place no_node inside)

  second_nodes : (second : Option Region)
      → nodes_of_region ns (unwrap_or second (node_region place))
      ≡ value_at (option_to_list (option_map (nodes_of_region ns) second)) 0 (node_at ns place ∷ [])
  second_nodes (Some r) = refl
  second_nodes None = node_alone

  past_values : (second : Option Region) (a : ℕ) (own : List Node)
      → value_at (option_to_list (option_map (nodes_of_region ns) second)) (suc a) own ≡ own
  past_values (Some r) a own = refl
  past_values None a own = refl

  value_region_lem : (values : Values) (a : ℕ)
      → nodes_of_region ns (value_region values a place) ≡ value_at (nodes_of_values ns values) a (node_at ns place ∷ [])
  value_region_lem values zero = refl
  value_region_lem values (suc zero) = second_nodes values.second
  value_region_lem values (suc (suc a)) =
      node_alone ∙ sym (past_values values.second a (node_at ns place ∷ []))

  variable_region_lem : (values : Values) (b a : ℕ) (below : Bool)
      → ltb a b ≡ below
      → nodes_of_region ns (cond below (node_region place) (value_region values (a - b) place))
      ≡ variable_nodes b (nodes_of_values ns values) a (node_at ns place ∷ [])
  variable_region_lem values b a true e =
      node_alone ∙ sym (variable_bound b (nodes_of_values ns values) a (node_at ns place ∷ []) (ltb-true a b e))
  variable_region_lem values b a false e =
      value_region_lem values (a - b)
      ∙ sym (variable_free b (nodes_of_values ns values) a (node_at ns place ∷ []) (ltb-false a b e))

  piece_by : (values : Values) (b : ℕ) (variable : Bool)
      → nodes_of_region ns (cond variable (variable_region values b (argument (node_at ns place)) place) (node_region place))
      ≡ cond variable
      (variable_nodes b (nodes_of_values ns values) (argument (node_at ns place)) (node_at ns place ∷ []))
      (node_at ns place ∷ [])
  unfolding variable_region
  piece_by values b true =
      variable_region_lem values b (argument (node_at ns place)) (ltb (argument (node_at ns place)) b) refl
  piece_by values b false = node_alone

  -- Its nodes are those that the node becomes.
  pub piece_nodes : (values : Values) (b : ℕ)
      → nodes_of_region ns (piece_region values b (node_at ns place) place)
      ≡ piece_for (nodes_of_values ns values) b (node_at ns place)
  unfolding piece_for piece_region
  piece_nodes values b = piece_by values b (eqb (kind (node_at ns place)) variable_kind)

-- What holds of the values, and of the node alone, holds of what the node becomes.
module _ (P : Region → Type 0) (values : Values) (place : ℕ) where
  value_has : P values.first → IfSome values.second P → P (node_region place) → (a : ℕ) → P (value_region values a place)
  value_has h h' p zero = h
  value_has h h' p (suc zero) = second_has values.second h'
    where
      second_has : (second : Option Region) → IfSome second P → P (unwrap_or second (node_region place))
      second_has (Some r) q = q
      second_has None q = p
  value_has h h' p (suc (suc a)) = p

  pub piece_has : P values.first → IfSome values.second P → P (node_region place) → (b : ℕ) (n : Node)
      → P (piece_region values b n place)
  unfolding piece_region variable_region
  piece_has h h' p b n = by_kind (eqb (kind n) variable_kind) (ltb (argument n) b)
    where
      by_kind : (x y : Bool)
          → P (cond x (cond y (node_region place) (value_region values (argument n - b) place)) (node_region place))
      by_kind true true = p
      by_kind true false = value_has h h' p (argument n - b)
      by_kind false y = p

-- So is each node of it.
pub part_outside : (n to k : ℕ) (r : Region) (i : ℕ)
    → i < r.length
    → Outside n to k r
    → Outside n to k (node_region (r.start + i))
part_outside n to k r i h (inside, inl before) = (omega arith, inl (omega arith))
part_outside n to k r i h (inside, inr behind) = (omega arith, inr (omega arith))

-- What is written in these places changes nothing in it.
pub node_outside : (ns : List Node) (to k : ℕ) (xs : List Node) (place : ℕ)
    → to + k ≤ length ns
    → length xs ≤ k
    → Apart to k (node_region place)
    → node_at (over ns to xs) place ≡ node_at ns place
node_outside ns to k xs place h h' (inl before) = get_d_under ns to xs place no_node (omega arith) (omega arith)
node_outside ns to k xs place h h' (inr behind) = get_d_over ns to xs place no_node (omega arith) (omega arith)

pub region_outside : (ns : List Node) (to k : ℕ) (xs : List Node) (r : Region)
    → to + k ≤ length ns
    → length xs ≤ k
    → Outside (length ns) to k r
    → nodes_of_region (over ns to xs) r ≡ nodes_of_region ns r
region_outside ns to k xs r h h' (inside, inl before) =
    region_below ns to xs r.start r.length (omega arith) before
region_outside ns to k xs r h h' (inside, inr behind) =
    ap (take r.length) (drop_over ns to xs r.start (omega arith) (omega arith))

-- And it can be copied to them, behind the first of them.
pub clear_outside : (n to k i : ℕ) (r : Region)
    → i ≤ k
    → i + r.length ≤ k
    → Outside n to k r
    → Clear r.start (to + i) r.length
clear_outside n to k i r h h' (inside, inl before) = inr (omega arith)
clear_outside n to k i r h h' (inside, inr behind) = inl (omega arith)

-- A region inside the nodes has as many of them as it says.
pub length_region : (ns : List Node) (r : Region)
    → r.start + r.length ≤ length ns
    → length (nodes_of_region ns r) ≡ r.length
length_region ns r h = omega (arith, length-take r.length (drop r.start ns), length-drop r.start ns)

-- What each test of the code leads to: a node that is no variable stays.
module _ (values : Values) (k a b place : ℕ) where
  pub piece_other : (k ≡ variable_kind → ⊥) → node_region place ≡ piece_region values b (node k a) place
  unfolding piece_region
  piece_other h = ap (λ x. cond x (variable_region values b a place) (node_region place)) (sym (ne_eqb k variable_kind h))

  piece_variable : k ≡ variable_kind → variable_region values b a place ≡ piece_region values b (node k a) place
  unfolding piece_region
  piece_variable h = ap (λ x. cond x (variable_region values b a place) (node_region place)) (sym (eq-eqb k variable_kind h))

  -- A bound variable stays.
  pub piece_bound : k ≡ variable_kind → a < b → node_region place ≡ piece_region values b (node k a) place
  unfolding variable_region
  piece_bound h h' =
      ap (λ x. cond x (node_region place) (value_region values (a - b) place)) (sym (lt-ltb a b h')) ∙ piece_variable h

  -- A free variable, by its distance to the binders.
  pub piece_free : k ≡ variable_kind → b ≤ a → (index : ℕ) → index ≡ a - b
      → value_region values index place ≡ piece_region values b (node k a) place
  unfolding variable_region
  piece_free h h' index e =
      ap (λ j. value_region values j place) e
      ∙ ap (λ x. cond x (node_region place) (value_region values (a - b) place)) (sym (le-ltb a b h'))
      ∙ piece_variable h
