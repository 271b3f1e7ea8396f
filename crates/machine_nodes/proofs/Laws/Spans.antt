-- Laws of specs/Spans.antt.
use Prim.Native.Nat.{ℕ, zero, suc, ◌+◌, ◌-◌, ◌≤◌, ◌<◌}
use native.Mathlib.Omega.{arith}
use Rattle.std.specs.Prelude.{◌≡◌, length, get_or, drop}
use Rattle.std.proofs.Math.Path.{refl}
use mathlib.Core.List.{List, [], ◌∷◌, ◌++◌, append_assoc}
use Rattle.std.proofs.Math.ListN.{length-append}
use Rattle.std.proofs.Common.{length-drop}
use Rattle.std.proofs.Math.Seq.{drop-cons}
use Rattle.machine_terms.specs.Trees.{Node, kind, Tree, leaf, one, two, preorder, parts, WellKinded}
use Rattle.machine_nodes.specs.Nodes.{no_node}
use Rattle.machine_nodes.specs.Spans.{span_by, asked, span}

module _ (X : Type 0) (asked : X → ℕ) where
  pub at_most_all : (xs : List X) (waiting : ℕ) → span_by X asked xs waiting ≤ length xs
  unfolding span_by
  at_most_all [] waiting = omega arith
  at_most_all (x ∷ xs) zero = omega arith
  at_most_all (x ∷ xs) (suc waiting) = omega (arith, at_most_all xs (waiting + asked x))

  pub none_waiting : (xs : List X) → span_by X asked xs 0 ≡ 0
  unfolding span_by
  none_waiting [] = refl
  none_waiting (x ∷ xs) = refl

  -- The first element counts, and the parts that it asks for are waited for.
  pub one_more : (default : X) (xs : List X) (i waiting : ℕ)
      → i < length xs
      → 0 < waiting
      → i + span_by X asked (drop i xs) waiting
      ≡ (i + 1) + span_by X asked (drop (i + 1) xs) (waiting + asked (get_or xs i default) - 1)
  unfolding span_by
  one_more default xs i zero h h' = absurd (omega arith)
  one_more default xs i (suc waiting) h h' =
      let p = asked (get_or xs i default) in
      let e : suc waiting + p - 1 ≡ waiting + p = omega arith in
      let f : i + 1 ≡ suc i = omega arith in
      rw (e, f, drop-cons xs i default h) (omega arith)

  -- Where elements have run out, nothing is left to take.
  pub run_out : (xs : List X) (i waiting : ℕ) → length xs ≤ i → span_by X asked (drop i xs) waiting ≡ 0
  run_out xs i waiting h = omega (arith, at_most_all (drop i xs) waiting, length-drop i xs)

-- A part takes at least one node, if there is one.
pub span_positive : (ns : List Node) (at : ℕ) → at < length ns → 0 < span (drop at ns) 1
unfolding span_by
span_positive ns at h = rw (drop-cons ns at no_node h) (omega arith)

-- One part is one tree.
module _ (positions closed : ℕ) where
  pub span_tree : (t : Tree) (ns : List Node) (waiting : ℕ)
      → WellKinded positions closed t
      → span (preorder t ++ ns) (suc waiting) ≡ length (preorder t) + span ns waiting
  unfolding span_by
  span_tree (leaf n) ns waiting h =
      let e : waiting + parts (kind n) ≡ waiting = omega (arith, h.0) in
      rw e (omega arith)
  span_tree (one n t) ns waiting h =
      let e : waiting + parts (kind n) ≡ suc waiting = omega (arith, h.0.0) in
      rw e (omega (arith, span_tree t ns waiting h.1))
  span_tree (two n t u) ns waiting h =
      let e : waiting + parts (kind n) ≡ suc (suc waiting) = omega (arith, h.0) in
      rw (e, append_assoc (preorder t) (preorder u) ns)
      (omega (
        arith,
        span_tree t (preorder u ++ ns) (suc waiting) h.1,
        span_tree u ns waiting h.2,
        length-append (preorder t) (preorder u),
      ))

  pub span_one_tree : (t : Tree) (ns : List Node)
      → WellKinded positions closed t
      → span (preorder t ++ ns) 1 ≡ length (preorder t)
  span_one_tree t ns h = omega (arith, span_tree t ns 0 h, none_waiting Node asked ns)
