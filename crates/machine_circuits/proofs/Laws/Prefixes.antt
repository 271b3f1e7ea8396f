-- Elements written, or passed, one after another from a place on.
use Rattle.std.specs.Prelude.{ℕ, suc, ◌+◌, ◌≤◌, ◌<◌, ◌≡◌, List, [], ◌∷◌, ◌++◌, length, get_or, set, take, drop}
use Rattle.std.proofs.Common.{arith, sym, ◌∙◌, ap, length-take, length-drop, get_or-drop, length-take-le, take-suc}
use Rattle.words.specs.Regions.{over, Stands}
use Rattle.words.proofs.Laws.Regions.{over_more}

module _ {A : Type 0} where
  -- One more element is written behind i others.
  pub over_next : (l : List A) (at : ℕ) (xs : List A) (x : A) (i : ℕ)
      → length xs ≡ i
      → at + i < length l
      → set (over l at xs) (at + i) x ≡ over l at (xs ++ (x ∷ []))
  over_next l at xs x i e h =
      ap (λ j. set (over l at xs) (at + j) x) (sym e) ∙ over_more l at xs x (omega arith)

  -- One more element is passed.
  pub prefix_next : (l : List A) (at i : ℕ) (d : A)
      → at + i < length l
      → take (i + 1) (drop at l) ≡ take i (drop at l) ++ (get_or l (at + i) d ∷ [])
  prefix_next l at i d h =
      let e : i + 1 ≡ suc i = omega arith in
      ap (λ j. take j (drop at l)) e
      ∙ take-suc (drop at l) i d (omega (arith, length-drop at l))
      ∙ ap (λ x. take i (drop at l) ++ (x ∷ [])) (get_or-drop at l i d)

  pub length_prefix : (l : List A) (at i : ℕ) → at + i ≤ length l → length (take i (drop at l)) ≡ i
  length_prefix l at i h = length-take-le i (drop at l) (omega (arith, length-drop at l))

  -- All elements have been passed.
  pub prefix_whole : (l : List A) (at count : ℕ) (xs : List A)
      → Stands l at xs
      → count ≡ length xs
      → take count (drop at l) ≡ xs
  prefix_whole l at count xs h e = ap (λ k. take k (drop at l)) e ∙ h

  -- What stands somewhere ends before the list does.
  pub stands_inside : (l : List A) (at : ℕ) (x : A) (xs : List A)
      → Stands l at (x ∷ xs)
      → at + length (x ∷ xs) ≤ length l
  stands_inside l at x xs h =
      omega (arith, ap length h, length-take (suc (length xs)) (drop at l), length-drop at l)
