-- Laws of specs/Contractions.antt.
use Rattle.std.specs.Prelude.{ℕ, ◌+◌, ◌-◌, ◌≤◌, ◌<◌, ◌≡◌, false, List, [], ◌∷◌, ◌++◌, drop, Option, Some}
use Rattle.std.proofs.Common.{arith, sym, ◌∙◌, subst, inl, inr, length-append}
use Rattle.std.proofs.Math.Path.{refl, ap}
use Rattle.std.proofs.Math.ListN.{length, take}
use Rattle.rules.specs.Sizes.{most_nodes}
use Rattle.machine_terms.specs.Trees.{Node, Tree, one, two, preorder, substitute_tree, WellKinded}
use Rattle.machine_terms.specs.Holes.{Hole, first, second, after}
use Rattle.machine_terms.specs.Walks.{Walk, evaluating, returning}
use Rattle.words.specs.Regions.{over, Stands}
use Rattle.words.proofs.Laws.Regions.{length_over, drop_over, stands_right, stands_left, stands_written}
use Rattle.machine_nodes.specs.Spans.{span}
use Rattle.words.specs.Quadwords.{Quadword, quadword_at}
use Rattle.machine_walk.specs.Stack.{stack_node, stack_start}
use Rattle.machine_walk.specs.Places.{Holds}
use Rattle.machine_nodes.proofs.Laws.Copies.{Clear}
use Rattle.machine_walk.proofs.Laws.Redexes.{FirstRedex, SecondRedex, first_redex, second_redex, node_count, gap_wide}
use Rattle.machine_walk.proofs.Laws.Redexes.{gap_written, reduct_written, stands_span}
use Rattle.machine_walk.specs.declared.Place.{Place}
use Rattle.machine_substitution.specs.declared.Region.{Region}
use Rattle.machine_substitution.specs.declared.Values.{Values}
use Rattle.machine_substitution.specs.Substituted.{substituted, nodes_of_region, reduct}
use Rattle.machine_substitution.proofs.Laws.Forests.{substituted_whole}
use Rattle.machine_substitution.specs.Reducts.{Ready, Wrote}
use Rattle.machine_substitution.proofs.Laws.Reducts.{size_known}
use Rattle.machine_substitution.specs.Contractions.{application_value, let_values}

-- What `write_reduct` writes at the start of the gap, of a reduct that is too large or not, changes no walk.
pub wrote_kept : (ns ns₁ : List Node) (rs : List Quadword) (p : Place) (w : Walk) (source : Region) (values : Values) (most : ℕ)
    (answer : Option ℕ)
    → Holds ns rs p w
    → most ≤ most_nodes
    → Wrote ns ns₁ source values p.left most answer
    → Holds ns₁ rs p w
wrote_kept ns ns₁ rs p w source values most answer held few wrote =
    let room = gap_wide ns rs p w held in
    let short : length wrote.written ≤ most = wrote.within in
    subst (λ x. Holds x rs p w) (sym wrote.nodes_are)
    (gap_written ns rs p w p.left wrote.written held (omega arith) (omega arith))

-- A reduct that is not too large, written at the start of the gap and copied before place `next` by `copy_nodes`: the memory
-- holds the walk that goes on with the reduct.
pub reduct_moved : (ns ns₁ ns' : List Node) (rs : List Quadword) (p : Place) (h : Hole) (hs : List Hole) (v t : Tree)
    (source : Region) (values : Values) (at next size to most : ℕ)
    → Holds ns rs p (returning v (h ∷ hs))
    → at ≡ stack_node (quadword_at rs (p.depth - 1))
    → at < p.left
    → Wrote ns ns₁ source values p.left most (Some size)
    → reduct ns source values ≡ preorder t
    → most ≤ most_nodes
    → p.right ≤ next
    → next ≤ length ns
    → drop next ns ≡ after hs
    → at + (size + (length ns - next)) ≤ most_nodes
    → to ≡ next - size
    → (Clear p.left to size
    → p.left + size ≤ length ns₁
    → to + size ≤ length ns₁
    → ns' ≡ over ns₁ to (take size (drop p.left ns₁)))
    → Holds ns' rs (record { left = at; right = to; depth = p.depth - 1; returning = false }) (evaluating t hs)
reduct_moved ns ns₁ ns' rs p h hs v t source values at next size to most held at_is before wrote same few behind inside rest
    fits to_is copied =
    let walk = returning v (h ∷ hs) in
    let room = gap_wide ns rs p walk held in
    let known = size_known most (length (reduct ns source values)) size wrote.answer_is_size in
    let all : wrote.written ≡ preorder t = wrote.whole size refl ∙ same in
    let long : size ≡ length (preorder t) = known.0 ∙ ap length same in
    let short : size ≤ most = known.1 in
    let held₁ = wrote_kept ns ns₁ rs p walk source values most (Some size) held few wrote in
    let nodes₁ : ns₁ ≡ over ns p.left (preorder t) = wrote.nodes_are ∙ ap (over ns p.left) all in
    let same_long : length ns₁ ≡ length ns = ap length nodes₁ ∙ length_over ns p.left (preorder t) (omega arith) in
    let ends : to + length (preorder t) ≡ next = omega arith in
    let there : take size (drop p.left ns₁) ≡ preorder t
    = ap (λ k. take k (drop p.left ns₁)) long
    ∙ subst (λ x. Stands x p.left (preorder t)) (sym nodes₁) (stands_written ns p.left (preorder t) (omega arith)) in
    let last : drop (to + length (preorder t)) ns₁ ≡ after hs
    = ap (λ j. drop j ns₁) ends
    ∙ ap (drop next) nodes₁
    ∙ drop_over ns p.left (preorder t) next (omega arith) (omega arith)
    ∙ rest in
    subst
    (λ x. Holds x rs (record { left = at; right = to; depth = p.depth - 1; returning = false }) (evaluating t hs))
    (sym (copied (inr (omega arith)) (omega arith) (omega arith) ∙ ap (over ns₁ to) there))
    (reduct_written ns₁ rs p h hs v t at to held₁ at_is last (omega arith) (omega arith) (omega arith))

-- A region in which a list stands.
region_is : (ns : List Node) (start i count : ℕ) (xs : List Node)
    → Stands ns i xs
    → start ≡ i
    → count ≡ length xs
    → take count (drop start ns) ≡ xs
region_is ns start i count xs s e e' = ap (λ j. take count (drop j ns)) e ∙ ap (λ k. take k (drop i ns)) e' ∙ s

-- Of an application whose node stands at place `at` and whose second part at `start`: the body of the abstraction, which
-- stands behind both nodes.
abbrev pub application_body : ℕ → ℕ → Region
application_body at start = record { start = at + 2; length = start - (at + 2) }

module _ (ns : List Node) (rs : List Quadword) (p : Place) (n m : Node) (t v : Tree) (hs : List Hole)
    (held : Holds ns rs p (returning v (second n (one m t) ∷ hs)))
    (at start : ℕ)
    (at_is : at ≡ stack_node (quadword_at rs (p.depth - 1)))
    (start_is : start ≡ stack_start (quadword_at rs (p.depth - 1)))
    (positions closed words : ℕ)
    (kinded : WellKinded positions closed t)
    (enough : most_nodes < words) where
  application : SecondRedex ns rs p (second n (one m t)) (one m t) v hs at start
  application = second_redex ns rs p hs n (one m t) v at start held at_is start_is

  application_body_lem : nodes_of_region ns (application_body at start) ≡ preorder t
  application_body_lem =
      region_is ns (at + 2) (at + 1 + 1) (start - (at + 2)) (preorder t)
      (stands_right ns (at + 1) (m ∷ []) (preorder t) application.first_at)
      (omega arith)
      (omega (arith, application.start_is))

  application_value_lem : take (p.left - start) (drop start ns) ≡ preorder v
  application_value_lem =
      region_is ns start start (p.left - start) (preorder v) application.second_at refl
      (omega (arith, application.ends))

  -- The nodes of the reduct are those of the rules' reduct.
  pub application_reduct : reduct ns (application_body at start) (application_value start p.left)
      ≡ preorder (substitute_tree (v ∷ []) t)
  unfolding reduct
  application_reduct =
      ap (λ x. substituted (x ∷ []) (0 ∷ []) (nodes_of_region ns (application_body at start))) application_value_lem
      ∙ ap (substituted (preorder v ∷ []) (0 ∷ [])) application_body_lem
      ∙ substituted_whole positions closed (v ∷ []) t kinded

  -- The code may write the reduct at the start of the gap.
  pub application_ready : (most : ℕ)
      → most ≤ most_nodes
      → Ready ns words p.left most (application_body at start) (application_value start p.left)
  application_ready most h =
      let begin = application.start_is in
      let ends = application.ends in
      let walk = returning v (second n (one m t) ∷ hs) in
      let count = node_count ns rs p walk held in
      let room = gap_wide ns rs p walk held in
      let inside : p.right ≤ length ns = held.buffer.inside in
      let few : p.left ≤ most_nodes = omega (arith, held.few) in
      record {
        source_outside = (omega arith, inl (omega arith));
        first_outside = (omega arith, inl (omega arith));
        second_outside = tt;
        inside = omega arith;
        few = omega arith;
        words_enough = omega arith;
      }

-- Of a let: its body, of k nodes, from a place on.
abbrev pub let_body : ℕ → ℕ → Region
let_body start k = record { start = start; length = k }

module _ (ns : List Node) (rs : List Quadword) (p : Place) (n m : Node) (t t' u : Tree) (hs : List Hole)
    (held : Holds ns rs p (returning (two m t t') (first n u ∷ hs)))
    (at : ℕ)
    (at_is : at ≡ stack_node (quadword_at rs (p.depth - 1))) where
  the_let : FirstRedex ns rs p n (two m t t') u hs at
  the_let = first_redex ns rs p hs n (two m t t') u at held at_is

  halves : Stands ns (at + 2) (preorder t ++ preorder t')
  halves =
      let next : at + 1 + 1 ≡ at + 2 = omega arith in
      subst (λ i. Stands ns i (preorder t ++ preorder t')) next
      (stands_right ns (at + 1) (m ∷ []) (preorder t ++ preorder t') the_let.value_at_lem)

  -- What `subtree_end` answers at the first half of the pair.
  pub first_half_ends : (positions closed : ℕ)
      → WellKinded positions closed t
      → at + 2 + span (drop (at + 2) ns) 1 ≡ at + 2 + length (preorder t)
  first_half_ends positions closed w =
      ap (λ x. at + 2 + x)
      (stands_span positions closed ns (at + 2) t w (stands_left ns (at + 2) (preorder t) (preorder t') halves))

  -- And at the body.
  pub body_ends : (positions closed : ℕ)
      → WellKinded positions closed u
      → p.right + span (drop p.right ns) 1 ≡ p.right + length (preorder u)
  body_ends positions closed w =
      ap (λ x. p.right + x) (stands_span positions closed ns p.right u w the_let.body_at)

  module _ (middle k positions closed words : ℕ)
      (middle_is : middle ≡ at + 2 + length (preorder t))
      (k_is : k ≡ length (preorder u))
      (kinded : WellKinded positions closed u)
      (enough : most_nodes < words) where
    ends_at_left : p.left ≡ middle + length (preorder t')
    ends_at_left = omega (arith, the_let.ends, length-append (preorder t) (preorder t'))

    -- The nodes of the reduct are those of the rules' reduct.
    pub let_reduct : reduct ns (let_body p.right k) (let_values at middle p.left)
        ≡ preorder (substitute_tree (t' ∷ t ∷ []) u)
    unfolding reduct
    let_reduct =
        let body : take k (drop p.right ns) ≡ preorder u
        = region_is ns p.right p.right k (preorder u) the_let.body_at refl k_is in
        let one_half : take (middle - (at + 2)) (drop (at + 2) ns) ≡ preorder t
        = region_is ns (at + 2) (at + 2) (middle - (at + 2)) (preorder t)
        (stands_left ns (at + 2) (preorder t) (preorder t') halves) refl (omega arith) in
        let other_half : take (p.left - middle) (drop middle ns) ≡ preorder t'
        = region_is ns middle (at + 2 + length (preorder t)) (p.left - middle) (preorder t')
        (stands_right ns (at + 2) (preorder t) (preorder t') halves) middle_is (omega (arith, ends_at_left)) in
        ap (λ x. substituted (x ∷ take (middle - (at + 2)) (drop (at + 2) ns) ∷ []) (0 ∷ []) (take k (drop p.right ns)))
        other_half
        ∙ ap (λ x. substituted (preorder t' ∷ x ∷ []) (0 ∷ []) (take k (drop p.right ns))) one_half
        ∙ ap (substituted (preorder t' ∷ preorder t ∷ []) (0 ∷ [])) body
        ∙ substituted_whole positions closed (t' ∷ t ∷ []) u kinded

    -- The code may write the reduct at the start of the gap.
    pub let_ready : (most : ℕ)
        → most ≤ most_nodes
        → Ready ns words p.left most (let_body p.right k) (let_values at middle p.left)
    let_ready most h =
        let ends = ends_at_left in
        let body = the_let.body_inside in
        let walk = returning (two m t t') (first n u ∷ hs) in
        let count = node_count ns rs p walk held in
        let room = gap_wide ns rs p walk held in
        let few : p.left + k ≤ most_nodes = omega (arith, held.few) in
        record {
          source_outside = (omega arith, inr (omega arith));
          first_outside = (omega arith, inl (omega arith));
          second_outside = (omega arith, inl (omega arith));
          inside = omega arith;
          few = omega arith;
          words_enough = omega arith;
        }
