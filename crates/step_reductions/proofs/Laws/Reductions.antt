-- Laws of specs/Reductions.antt.
use Rattle.std.specs.Prelude.{ℕ, suc, ◌+◌, ◌-◌, ◌≤◌, ◌<◌, ◌≡◌, List, [], ◌∷◌, ◌++◌, length, take, drop, Option, Some, None}
use Rattle.std.proofs.Common.{arith, sym, ◌∙◌, ap, subst, inr, length-append, length-drop}
use Rattle.rules.specs.Types.{Ty}
use Rattle.rules.specs.Terms.{Boxed}
use Rattle.rules.specs.Circuits.{Circuit}
use Rattle.rules.specs.Sizes.{most_nodes}
use Rattle.machine_terms.specs.Trees.{Node, Tree, one, two, preorder, substitute_tree, WellKinded}
use Rattle.machine_terms.specs.Holes.{Hole, only, first, second, before, after}
use Rattle.machine_terms.specs.Walks.{evaluating, returning, Stop, at_force, at_application, at_let}
use Rattle.machine_terms.specs.States.{state}
use Rattle.words.specs.Regions.{over, Stands}
use Rattle.words.proofs.Laws.Regions.{stands_right}
use Rattle.machine_nodes.proofs.Laws.Copies.{Clear}
use Rattle.machine_nodes.specs.Spans.{span}
use Rattle.words.specs.Quadwords.{quadword_at, Quadword}
use Rattle.machine_walk.specs.Stack.{stack_node, stack_start}
use Rattle.machine_walk.specs.Places.{Holds}
use Rattle.machine_walk.specs.declared.Place.{Place}
use Rattle.machine_walk.proofs.Laws.Redexes.{only_redex, first_redex, second_redex, gap_wide, node_count, reduct_written}
use Rattle.machine_substitution.specs.Substituted.{reduct}
use Rattle.machine_substitution.specs.Reducts.{Ready, size_within, Wrote}
use Rattle.machine_substitution.proofs.Laws.Reducts.{size_known, size_refused}
use Rattle.machine_substitution.proofs.Laws.Contractions.{wrote_kept, reduct_moved, application_body, application_ready}
use Rattle.machine_substitution.proofs.Laws.Contractions.{application_reduct, let_body, first_half_ends, body_ends, let_ready}
use Rattle.machine_substitution.proofs.Laws.Contractions.{let_reduct}
use Rattle.machine_substitution.specs.Contractions.{application_value, let_values}
use Rattle.machine_substitution.specs.declared.Region.{Region}
use Rattle.machine_substitution.specs.declared.Values.{Values}
use Rattle.machine_state.specs.Memory.{memory, HoldsParts}
use Rattle.machine_state.specs.Outcomes.{PartsFit, Outcome, Steps}
use Rattle.machine_state.specs.declared.StateNumbers.{StateNumbers}
use Rattle.step_reductions.specs.Taking.{place_after, taken_to}
use Rattle.step_reductions.proofs.Laws.Taking.{step_taken, step_refused}
use Rattle.step_reductions.proofs.Laws.Forms.{force_form, application_form, let_form}
use Rattle.step_reductions.specs.Reductions.{most_between}

-- What a step at a stop has to do, where only the nodes change.
abbrev pub StepsNodes : Stop → List Node → List Node → List Quadword → StateNumbers → Option StateNumbers → Type 0
StepsNodes stop ns ns' rs r answer =
    (gs cs fs : List Quadword) (ws : List ℕ) (results : ℕ → List ℕ) (allowance : ℕ)
    → Steps stop allowance (memory ns rs gs cs fs ws results) (memory ns' rs gs cs fs ws results) r answer

-- What `copy_nodes` ensures, from the nodes ns to the nodes ns'.
abbrev pub Copies : List Node → List Node → ℕ → ℕ → ℕ → Type 0
Copies ns ns' from to count =
    Clear from to count
    → from + count ≤ length ns
    → to + count ≤ length ns
    → ns' ≡ over ns to (take count (drop from ns))

-- At a force: behind its node, at place `at`, stands the lift's, and behind that the body, which is copied to the end of the
-- gap.
module _ (ns ns' : List Node) (rs : List Quadword) (r : StateNumbers) (at count to : ℕ)
    (at_is : at ≡ stack_node (quadword_at rs (r.place.depth - 1)))
    (count_is : count ≡ r.place.left - (at + 2))
    (to_is : to ≡ r.place.right - count)
    (copied : Copies ns ns' (at + 2) to count) where
  -- The body is held as the tree to evaluate.
  force_held : (n m : Node) (t : Tree) (hs : List Hole)
      → Holds ns rs r.place (returning (one m t) (only n ∷ hs))
      → Holds ns' rs (place_after r.place at to) (evaluating t hs)
  force_held n m t hs held =
      let p = r.place in
      let w = returning (one m t) (only n ∷ hs) in
      let redex = only_redex ns rs p hs n (one m t) at held at_is in
      let ends : p.left ≡ at + 1 + suc (length (preorder t)) = redex.ends in
      let inside : p.right ≤ length ns = held.buffer.inside in
      let room = gap_wide ns rs p w held in
      let counted = node_count ns rs p w held in
      let few = held.few in
      let all : count ≡ length (preorder t) = omega arith in
      let there : at + 1 + 1 ≡ at + 2 = omega arith in
      let body : take count (drop (at + 2) ns) ≡ preorder t
      = ap (λ k. take k (drop (at + 2) ns)) all
      ∙ subst (λ i. Stands ns i (preorder t)) there (stands_right ns (at + 1) (m ∷ []) (preorder t) redex.value_at_lem) in
      let clear : Clear (at + 2) to count = inr (omega arith) in
      let end : to + length (preorder t) ≡ p.right = omega arith in
      subst
      (λ x. Holds x rs (place_after p at to) (evaluating t hs))
      (sym (copied clear (omega arith) (omega arith) ∙ ap (over ns to) body))
      (reduct_written ns rs p (only n) hs (one m t) t at to held at_is
      (ap (λ j. drop j ns) end ∙ redex.behind)
      (omega arith)
      (omega arith)
      (omega arith))

  -- The step is taken. It always fits, since there are fewer nodes than before.
  pub force_steps : StepsNodes at_force ns ns' rs r (Some (taken_to r at to))
  force_steps gs cs fs ws results allowance =
      force_form allowance (memory ns rs gs cs fs ws results) (memory ns' rs gs cs fs ws results) r (Some (taken_to r at to))
      λ types positions A n m t hs C Cs K stop fits.
      step_taken ns ns' rs gs cs fs ws results types positions allowance r (returning (one m t) (only n ∷ hs))
      (evaluating t hs) C Cs K at to stop.held fits (force_held n m t hs stop.held.walk_held)

-- What `write_reduct` ensures, from the nodes ns to the nodes ns₁.
abbrev pub WritesReduct : List Node → List Node → ℕ → Region → Values → ℕ → ℕ → Option ℕ → Type 0
WritesReduct ns ns₁ words source values to most answer =
    Ready ns words to most source values → Wrote ns ns₁ source values to most answer

-- What the steps at an application and at a let come to: the redex, in the hole h of its quadword, starts at place `at`, what is
-- behind it at place `next`, and the reduct's code has answered for the reduct of the tree t.
pub record Contracted (ns ns₁ : List Node) (rs : List Quadword) (p : Place) (at next most : ℕ) (answer : Option ℕ) (v : Tree)
    (h : Hole) (hs : List Hole) (t : Tree) : Type 0 where
  pub source : Region
  pub values : Values
  pub held : Holds ns rs p (returning v (h ∷ hs))
  pub before_is : at ≡ length (before hs)
  pub under_left : at < p.left
  pub ahead : p.right ≤ next
  pub inside : next ≤ length ns
  pub behind : drop next ns ≡ after hs
  pub wrote : Wrote ns ns₁ source values p.left most answer
  pub nodes_are : reduct ns source values ≡ preorder t

module _ (ns ns₁ : List Node) (rs : List Quadword) (r : StateNumbers) (at next most : ℕ)
    (at_is : at ≡ stack_node (quadword_at rs (r.place.depth - 1)))
    (most_is : most ≡ most_between ns at next)
    (gs cs fs : List Quadword) (ws : List ℕ) (results : ℕ → List ℕ) (types : ℕ → Ty) (positions allowance : ℕ)
    (v : Tree) (h : Hole) (hs : List Hole) (t : Tree) (C : Circuit) (Cs : List Circuit) (K : List Boxed) (answer : Option ℕ)
  where
    most_few : most ≤ most_nodes
    most_few = omega (arith, most_is)

    -- The step is refused where the reduct is too large: the next state would have too many nodes.
    contraction_refused : answer ≡ None
        → Contracted ns ns₁ rs r.place at next most answer v h hs t
        → Outcome types positions allowance r (memory ns rs gs cs fs ws results) (memory ns₁ rs gs cs fs ws results)
        (state (evaluating t hs) C Cs K)
        None
    contraction_refused e c =
        let many : most < length (preorder t)
        = size_refused most (length (preorder t))
        (sym e ∙ c.wrote.answer_is_size ∙ ap (λ x. size_within most (length x)) c.nodes_are) in
        let exceeding : most_nodes < length (before hs) + length (preorder t ++ after hs)
        = omega (
          arith,
          most_is,
          c.before_is,
          ap length c.behind,
          length-drop next ns,
          length-append (preorder t) (after hs),
        ) in
        step_refused ns ns₁ rs gs cs fs ws results types positions allowance r (evaluating t hs) C Cs K exceeding
        (λ w held. wrote_kept ns ns₁ rs r.place w c.source c.values most answer held most_few c.wrote)

    -- It is taken where the reduct is not: it is copied before place `next`, and is evaluated.
    contraction_taken : (ns' : List Node) (count to : ℕ)
        → answer ≡ Some count
        → Contracted ns ns₁ rs r.place at next most answer v h hs t
        → to ≡ next - count
        → Copies ns₁ ns' r.place.left to count
        → HoldsParts types positions (memory ns rs gs cs fs ws results) r (returning v (h ∷ hs)) (C ∷ Cs) K
        → PartsFit allowance (returning v (h ∷ hs)) (C ∷ Cs) K
        → Outcome types positions allowance r (memory ns rs gs cs fs ws results) (memory ns' rs gs cs fs ws results)
        (state (evaluating t hs) C Cs K)
        (Some (taken_to r at to))
    contraction_taken ns' count to e c to_is copied state_held fits =
        let few = c.held.few in
        let under = c.under_left in
        let ahead = c.ahead in
        let wrote = subst (Wrote ns ns₁ c.source c.values r.place.left most) e c.wrote in
        let small : count ≤ most = (size_known most _ count wrote.answer_is_size).1 in
        let room : at + (count + (length ns - next)) ≤ most_nodes
        = omega (arith, most_is, node_count ns rs r.place (returning v (h ∷ hs)) c.held) in
        step_taken ns ns' rs gs cs fs ws results types positions allowance r (returning v (h ∷ hs)) (evaluating t hs) C Cs K at to
        state_held
        fits
        (reduct_moved ns ns₁ ns' rs r.place h hs v t c.source c.values at next count to most c.held at_is under
        wrote c.nodes_are most_few ahead c.inside c.behind room to_is copied)

-- At an application: its node stands at place `at`, the body of the abstraction behind both nodes, and the value from place
-- `start` on.
module _ (ns ns₁ : List Node) (rs : List Quadword) (r : StateNumbers) (at start : ℕ) (source : Region) (values : Values)
    (most : ℕ)
    (at_is : at ≡ stack_node (quadword_at rs (r.place.depth - 1)))
    (start_is : start ≡ stack_start (quadword_at rs (r.place.depth - 1)))
    (source_is : source ≡ application_body at start)
    (values_is : values ≡ application_value start r.place.left)
    (most_is : most ≡ most_between ns at r.place.right)
    (words : ℕ)
    (enough : most_nodes < words)
    (answer : Option ℕ)
    (writes : WritesReduct ns ns₁ words source values r.place.left most answer) where
  application_contracted : (n m : Node) (t v : Tree) (hs : List Hole) (positions closed : ℕ)
      → Holds ns rs r.place (returning v (second n (one m t) ∷ hs))
      → WellKinded positions closed t
      → Contracted ns ns₁ rs r.place at r.place.right most answer v (second n (one m t)) hs (substitute_tree (v ∷ []) t)
  application_contracted n m t v hs positions closed held kinded =
      let redex = second_redex ns rs r.place hs n (one m t) v at start held at_is start_is in
      record {
        source = application_body at start;
        values = application_value start r.place.left;
        held = held;
        before_is = redex.hole.at_is;
        under_left = redex.hole.under_left;
        ahead = omega arith;
        inside = held.buffer.inside;
        behind = redex.behind;
        wrote =
            (rw (source_is, values_is) at writes)
            (application_ready ns rs r.place n m t v hs held at start at_is start_is positions closed words kinded enough
            most
            (omega (arith, most_is)));
        nodes_are =
            application_reduct ns rs r.place n m t v hs held at start at_is start_is positions closed words kinded enough;
      }

  pub application_refused : answer ≡ None → StepsNodes at_application ns ns₁ rs r None
  application_refused e gs cs fs ws results allowance =
      application_form allowance (memory ns rs gs cs fs ws results) (memory ns₁ rs gs cs fs ws results) r None
      λ types positions A n m t v hs C Cs K stop fits.
      contraction_refused ns ns₁ rs r at r.place.right most at_is most_is gs cs fs ws results types positions allowance v
      (second n (one m t)) hs (substitute_tree (v ∷ []) t) C Cs K answer e
      (application_contracted n m t v hs positions (length K) stop.held.walk_held stop.fits.0.2.0.2.1)

  pub application_taken : (ns' : List Node) (count to : ℕ)
      → answer ≡ Some count
      → to ≡ r.place.right - count
      → Copies ns₁ ns' r.place.left to count
      → StepsNodes at_application ns ns' rs r (Some (taken_to r at to))
  application_taken ns' count to e to_is copied gs cs fs ws results allowance =
      application_form allowance (memory ns rs gs cs fs ws results) (memory ns' rs gs cs fs ws results) r (Some (taken_to r at to))
      λ types positions A n m t v hs C Cs K stop fits.
      contraction_taken ns ns₁ rs r at r.place.right most at_is most_is gs cs fs ws results types positions allowance v
      (second n (one m t)) hs (substitute_tree (v ∷ []) t) C Cs K answer ns' count to e
      (application_contracted n m t v hs positions (length K) stop.held.walk_held stop.fits.0.2.0.2.1)
      to_is
      copied
      stop.held
      fits

-- At a let: its node stands at place `at`, the halves of the pair behind both nodes, the second from place `middle` on, and
-- the body, of k nodes, is next to be walked and ends at place `next`.
module _ (ns ns₁ : List Node) (rs : List Quadword) (r : StateNumbers) (at middle next k : ℕ) (source : Region) (values : Values)
    (most : ℕ)
    (at_is : at ≡ stack_node (quadword_at rs (r.place.depth - 1)))
    (middle_is : middle ≡ at + 2 + span (drop (at + 2) ns) 1)
    (next_is : next ≡ r.place.right + span (drop r.place.right ns) 1)
    (k_is : k ≡ next - r.place.right)
    (source_is : source ≡ let_body r.place.right k)
    (values_is : values ≡ let_values at middle r.place.left)
    (most_is : most ≡ most_between ns at next)
    (words : ℕ)
    (enough : most_nodes < words)
    (answer : Option ℕ)
    (writes : WritesReduct ns ns₁ words source values r.place.left most answer) where
  let_contracted : (n m : Node) (t t' u : Tree) (hs : List Hole) (positions closed : ℕ)
      → Holds ns rs r.place (returning (two m t t') (first n u ∷ hs))
      → WellKinded positions closed t
      → WellKinded positions closed u
      → Contracted ns ns₁ rs r.place at next most answer (two m t t') (first n u) hs (substitute_tree (t' ∷ t ∷ []) u)
  let_contracted n m t t' u hs positions closed held kinded_first kinded_body =
      let redex = first_redex ns rs r.place hs n (two m t t') u at held at_is in
      let middle_there : middle ≡ at + 2 + length (preorder t)
      = middle_is ∙ first_half_ends ns rs r.place n m t t' u hs held at at_is positions closed kinded_first in
      let next_there : next ≡ r.place.right + length (preorder u)
      = next_is ∙ body_ends ns rs r.place n m t t' u hs held at at_is positions closed kinded_body in
      let body_inside = redex.body_inside in
      let body_whole : k ≡ length (preorder u) = omega (arith, k_is) in
      record {
        source = let_body r.place.right k;
        values = let_values at middle r.place.left;
        held = held;
        before_is = redex.hole.at_is;
        under_left = redex.hole.under_left;
        ahead = omega arith;
        inside = omega arith;
        behind = ap (λ j. drop j ns) next_there ∙ redex.behind;
        wrote =
            (rw (source_is, values_is) at writes)
            (let_ready ns rs r.place n m t t' u hs held at at_is middle k positions closed words middle_there body_whole
            kinded_body enough most
            (omega (arith, most_is)));
        nodes_are =
            let_reduct ns rs r.place n m t t' u hs held at at_is middle k positions closed words middle_there body_whole
            kinded_body enough;
      }

  pub let_refused : answer ≡ None → StepsNodes at_let ns ns₁ rs r None
  let_refused e gs cs fs ws results allowance =
      let_form allowance (memory ns rs gs cs fs ws results) (memory ns₁ rs gs cs fs ws results) r None
      λ types positions A n m t t' u hs C Cs K stop fits.
      let w = stop.fits.0 in
      contraction_refused ns ns₁ rs r at next most at_is most_is gs cs fs ws results types positions allowance (two m t t')
      (first n u) hs (substitute_tree (t' ∷ t ∷ []) u) C Cs K answer e
      (let_contracted n m t t' u hs positions (length K) stop.held.walk_held w.0.1 w.2.0.1)

  pub let_taken : (ns' : List Node) (count to : ℕ)
      → answer ≡ Some count
      → to ≡ next - count
      → Copies ns₁ ns' r.place.left to count
      → StepsNodes at_let ns ns' rs r (Some (taken_to r at to))
  let_taken ns' count to e to_is copied gs cs fs ws results allowance =
      let_form allowance (memory ns rs gs cs fs ws results) (memory ns' rs gs cs fs ws results) r (Some (taken_to r at to))
      λ types positions A n m t t' u hs C Cs K stop fits.
      let w = stop.fits.0 in
      contraction_taken ns ns₁ rs r at next most at_is most_is gs cs fs ws results types positions allowance (two m t t')
      (first n u) hs (substitute_tree (t' ∷ t ∷ []) u) C Cs K answer ns' count to e
      (let_contracted n m t t' u hs positions (length K) stop.held.walk_held w.0.1 w.2.0.1)
      to_is
      copied
      stop.held
      fits
