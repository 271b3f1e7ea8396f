-- Laws of specs/Regions.antt.
use Prim.Native.Nat.{ℕ, zero, suc, ◌+◌, ◌-◌, ◌≤◌, ◌<◌}
use native.Mathlib.Omega.{arith}
use Rattle.std.proofs.Math.Nat.{add-zero}
use Rattle.std.specs.Prelude.{◌≡◌, refl, get_or}
use Rattle.std.proofs.Math.Path.{sym, ap, ap₂}
use Rattle.std.proofs.Common.{◌∙◌, take-append-drop, get_or-drop, drop-cons}
use mathlib.Core.List.{List, [], ◌∷◌, ◌++◌, append_assoc}
use Rattle.std.proofs.Math.ListN.{length, set, take, drop, length-append, length-take, length-drop, get_or-append}
use Rattle.std.proofs.Math.Seq.{take_at, drop_at, set_at, drop-drop, length-take-le, append_snoc, take-take, take-append-le, get_or-take, take-nil, set_split}
use Rattle.words.specs.Regions.{over, Stands}

module _ {A : Type 0} where
  pub over_nil : (l : List A) (at : ℕ) → over l at [] ≡ l
  unfolding over
  over_nil l at = rw add-zero (take-append-drop at l)

  pub length_over : (l : List A) (at : ℕ) (xs : List A) → at + length xs ≤ length l → length (over l at xs) ≡ length l
  unfolding over
  length_over l at xs h =
      omega (
        arith,
        length-append (take at l) (xs ++ drop (at + length xs) l),
        length-append xs (drop (at + length xs) l),
        length-take at l,
        length-drop (at + length xs) l,
      )

  -- Before the place nothing changes.
  pub take_over : (l : List A) (at : ℕ) (xs : List A) (k : ℕ) → at ≤ length l → k ≤ at → take k (over l at xs) ≡ take k l
  unfolding over
  take_over l at xs k h h' =
      let long : length (take at l) ≡ at = length-take-le at l h in
      take-append-le k (take at l) (xs ++ drop (at + length xs) l) (omega arith) ∙ take-take k at l h'

  -- Up to the end of what was written.
  pub take_over_end : (l : List A) (at : ℕ) (xs : List A)
      → at ≤ length l
      → take (at + length xs) (over l at xs) ≡ take at l ++ xs
  unfolding over
  take_over_end l at xs h =
      ap (take (at + length xs)) (sym (append_assoc (take at l) xs (drop (at + length xs) l)))
      ∙ take_at (take at l ++ xs) (drop (at + length xs) l) (at + length xs)
      (omega (arith, length-append (take at l) xs, length-take-le at l h))

  -- What was written.
  pub written : (l : List A) (at : ℕ) (xs : List A)
      → at ≤ length l
      → drop at (over l at xs) ≡ xs ++ drop (at + length xs) l
  unfolding over
  written l at xs h = drop_at (take at l) (xs ++ drop (at + length xs) l) at (length-take-le at l h)

  -- After what was written nothing changes.
  pub drop_over : (l : List A) (at : ℕ) (xs : List A) (k : ℕ)
      → at ≤ length l
      → at + length xs ≤ k
      → drop k (over l at xs) ≡ drop k l
  unfolding over
  drop_over l at xs k h h' =
      let e : k ≡ (at + length xs) + (k - (at + length xs)) = omega arith in
      ap (λ j. drop j (over l at xs)) e
      ∙ sym (drop-drop (k - (at + length xs)) (at + length xs) (over l at xs))
      ∙ ap (drop (k - (at + length xs))) (behind ∙ refl)
      ∙ drop-drop (k - (at + length xs)) (at + length xs) l
      ∙ ap (λ j. drop j l) (sym e)
    where
      behind : drop (at + length xs) (over l at xs) ≡ drop (at + length xs) l
      behind =
          ap (drop (at + length xs)) (sym (append_assoc (take at l) xs (drop (at + length xs) l)))
          ∙ drop_at (take at l ++ xs) (drop (at + length xs) l) (at + length xs)
          (omega (arith, length-append (take at l) xs, length-take-le at l h))

  pub get_d_over : (l : List A) (at : ℕ) (xs : List A) (k : ℕ) (d : A)
      → at ≤ length l
      → at + length xs ≤ k
      → get_or (over l at xs) k d ≡ get_or l k d
  get_d_over l at xs k d h h' =
      let e : k + 0 ≡ k = add-zero k in
      ap (λ j. get_or (over l at xs) j d) (sym e)
      ∙ sym (get_or-drop k (over l at xs) 0 d)
      ∙ ap (λ t. get_or t 0 d) (drop_over l at xs k h h')
      ∙ get_or-drop k l 0 d
      ∙ ap (λ j. get_or l j d) e

  pub get_d_under : (l : List A) (at : ℕ) (xs : List A) (k : ℕ) (d : A)
      → at ≤ length l
      → k < at
      → get_or (over l at xs) k d ≡ get_or l k d
  unfolding over
  get_d_under l at xs k d h h' =
      get_or-append (take at l) (xs ++ drop (at + length xs) l) d k (omega (arith, length-take-le at l h))
      ∙ get_or-take at l k d h'

  -- One more element is written behind the others.
  pub over_more : (l : List A) (at : ℕ) (xs : List A) (x : A)
      → at + length xs < length l
      → set (over l at xs) (at + length xs) x ≡ over l at (xs ++ (x ∷ []))
  unfolding over
  over_more l at xs x h =
      let k = at + length xs in
      let long : length (xs ++ (x ∷ [])) ≡ suc (length xs) = length-append xs (x ∷ []) ∙ omega arith in
      let front : length (take at l ++ xs) ≡ k
      = length-append (take at l) xs ∙ ap (λ j. j + length xs) (length-take-le at l (omega arith)) in
      let past : at + length (xs ++ (x ∷ [])) ≡ suc k = omega arith in
      ap (λ t. set t k x) (
      sym (append_assoc (take at l) xs (drop k l)) ∙ ap (λ t. (take at l ++ xs) ++ t) (drop-cons l k x h)
      )
      ∙ set_at (take at l ++ xs) (get_or l k x) (drop (suc k) l) x k front
      ∙ append_assoc (take at l) xs (x ∷ drop (suc k) l)
      ∙ ap (λ t. take at l ++ t) (sym (append_snoc xs x (drop (suc k) l)))
      ∙ ap (λ j. take at l ++ ((xs ++ (x ∷ [])) ++ drop j l)) (sym past)

  -- Taking from the part behind a place.
  take_drop : (l : List A) (j k : ℕ) → take k (drop j l) ≡ drop j (take (j + k) l)
  take_drop l zero k = let e : 0 + k ≡ k = omega arith in rw e
  take_drop [] (suc j) k = let e : suc j + k ≡ suc (j + k) = omega arith in rw e (take-nil k)
  take_drop (x ∷ l) (suc j) k = let e : suc j + k ≡ suc (j + k) = omega arith in rw e (take_drop l j k)

  -- A region below the place is as before.
  pub region_below : (l : List A) (at : ℕ) (xs : List A) (j k : ℕ)
      → at ≤ length l
      → j + k ≤ at
      → take k (drop j (over l at xs)) ≡ take k (drop j l)
  region_below l at xs j k h h' =
      take_drop (over l at xs) j k ∙ ap (drop j) (take_over l at xs (j + k) h h') ∙ sym (take_drop l j k)

  -- One element is a region.
  pub over_one : (l : List A) (at : ℕ) (x : A) → at < length l → set l at x ≡ over l at (x ∷ [])
  unfolding over
  over_one l at x h =
      let e : suc at ≡ at + 1 = omega arith in
      set_split l at x h ∙ ap (λ j. take at l ++ (x ∷ drop j l)) e

  -- One region written behind another is one region,
  pub over_behind : (l : List A) (at : ℕ) (xs ys : List A)
      → at + length xs ≤ length l
      → over (over l at xs) (at + length xs) ys ≡ over l at (xs ++ ys)
  unfolding over
  over_behind l at xs ys h =
      let k = at + length xs in
      let sum : k + length ys ≡ at + length (xs ++ ys) = omega (arith, length-append xs ys) in
      ap₂
      (λ s t. s ++ (ys ++ t))
      (take_over_end l at xs (omega arith))
      (drop_over l at xs (k + length ys) (omega arith) (omega arith))
      ∙ append_assoc (take at l) xs (ys ++ drop (k + length ys) l)
      ∙ ap (λ t. take at l ++ t) (sym (append_assoc xs ys (drop (k + length ys) l)))
      ∙ ap (λ j. take at l ++ ((xs ++ ys) ++ drop j l)) sum

  -- and so is one written in front of another.
  pub over_in_front : (l : List A) (at : ℕ) (xs ys : List A)
      → at + length xs ≤ length l
      → over (over l (at + length xs) ys) at xs ≡ over l at (xs ++ ys)
  unfolding over
  over_in_front l at xs ys h =
      let k = at + length xs in
      let front : take at (over l k ys) ≡ take at l = take_over l k ys at h (omega arith) in
      let behind : drop k (over l k ys) ≡ ys ++ drop (k + length ys) l = written l k ys h in
      let sum : k + length ys ≡ at + length (xs ++ ys) = omega (arith, length-append xs ys) in
      ap₂ (λ x y. x ++ (xs ++ y)) front (behind ∙ ap (λ j. ys ++ drop j l) sum)
      ∙ ap (λ x. take at l ++ x) (sym (append_assoc xs ys (drop (at + length (xs ++ ys)) l)))

  -- It stands where a list starts with it.
  pub stands_first : (l : List A) (i : ℕ) (xs ys : List A) → drop i l ≡ xs ++ ys → Stands l i xs
  stands_first l i xs ys e = ap (take (length xs)) e ∙ take_at xs ys (length xs) refl

  -- And it stands within the first elements, behind others.
  pub stands_within : (l : List A) (k : ℕ) (ws xs ys : List A) → take k l ≡ ws ++ (xs ++ ys) → Stands l (length ws) xs
  stands_within l k ws xs ys e =
      let whole : l ≡ ws ++ (xs ++ (ys ++ drop k l))
      = sym (take-append-drop k l)
      ∙ ap (λ t. t ++ drop k l) e
      ∙ append_assoc ws (xs ++ ys) (drop k l)
      ∙ ap (λ t. ws ++ t) (append_assoc xs ys (drop k l)) in
      stands_first l (length ws) xs (ys ++ drop k l)
      (ap (drop (length ws)) whole ∙ drop_at ws (xs ++ (ys ++ drop k l)) (length ws) refl)

  -- With what follows it, a list that stands is all there is from its place on.
  pub stands_rest : (l : List A) (i : ℕ) (xs : List A) → Stands l i xs → drop i l ≡ xs ++ drop (i + length xs) l
  stands_rest l i xs s =
      sym (take-append-drop (length xs) (drop i l))
      ∙ ap (λ t. t ++ drop (length xs) (drop i l)) s
      ∙ ap (λ t. xs ++ t) (drop-drop (length xs) i l)

  -- The parts of a list that stands.
  pub stands_left : (l : List A) (i : ℕ) (xs ys : List A) → Stands l i (xs ++ ys) → Stands l i xs
  stands_left l i xs ys s =
      stands_first l i xs (ys ++ drop (i + length (xs ++ ys)) l)
      (stands_rest l i (xs ++ ys) s ∙ append_assoc xs ys (drop (i + length (xs ++ ys)) l))

  pub stands_right : (l : List A) (i : ℕ) (xs ys : List A) → Stands l i (xs ++ ys) → Stands l (i + length xs) ys
  stands_right l i xs ys s =
      let rest = drop (i + length (xs ++ ys)) l in
      stands_first l (i + length xs) ys rest (
      sym (drop-drop (length xs) i l)
      ∙ ap (drop (length xs)) (stands_rest l i (xs ++ ys) s ∙ append_assoc xs ys rest)
      ∙ drop_at xs (ys ++ rest) (length xs) refl
      )

  -- Its elements.
  pub stands_at : (l : List A) (i : ℕ) (xs : List A) (j : ℕ) (d : A)
      → Stands l i xs
      → j < length xs
      → get_or l (i + j) d ≡ get_or xs j d
  stands_at l i xs j d s h =
      sym (get_or-drop i l j d) ∙ sym (get_or-take (length xs) (drop i l) j d h) ∙ ap (λ t. get_or t j d) s

  -- An element that stands alone is the one at its place.
  pub stands_alone : (l : List A) (i : ℕ) (x d : A) → Stands l i (x ∷ []) → get_or l i d ≡ x
  stands_alone l i x d s =
      let e : i + 0 ≡ i = add-zero i in
      ap (λ j. get_or l j d) (sym e) ∙ stands_at l i (x ∷ []) 0 d s (omega arith)

  -- What is written stands, and what stands before or after it still does.
  pub stands_written : (l : List A) (at : ℕ) (xs : List A) → at ≤ length l → Stands (over l at xs) at xs
  stands_written l at xs h = stands_first (over l at xs) at xs (drop (at + length xs) l) (written l at xs h)

  pub stands_after : (l : List A) (at : ℕ) (xs : List A) (i : ℕ) (ys : List A)
      → at ≤ length l
      → at + length xs ≤ i
      → Stands l i ys
      → Stands (over l at xs) i ys
  stands_after l at xs i ys h h' s = ap (take (length ys)) (drop_over l at xs i h h') ∙ s

  pub stands_before : (l : List A) (at : ℕ) (xs : List A) (i : ℕ) (ys : List A)
      → at ≤ length l
      → i + length ys ≤ at
      → Stands l i ys
      → Stands (over l at xs) i ys
  stands_before l at xs i ys h h' s = region_below l at xs i (length ys) h h' ∙ s
