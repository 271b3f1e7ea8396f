-- Elements of a list are copied to another place of it, one by one.
use Rattle.std.specs.Prelude.{ℕ, zero, suc, ◌+◌, ◌*◌, ◌-◌, ◌≤◌, ◌<◌, ◌/◌, ◌≡◌, refl, cond, ◌&&◌, ◌⊎◌, List, [], ◌∷◌, ◌++◌, length, get_or, set, take, drop}
use Rattle.std.proofs.Common.{arith, sym, ◌∙◌, ap, ap₂, inl, inr, length-drop, take-suc, get_or-drop, length-take-le, le-leb}
use Rattle.machine_nodes.specs.Copying.{copied, copy_nodes}
use Rattle.words.specs.Regions.{over}
use Rattle.words.proofs.Laws.Regions.{over_nil, over_more, get_d_over, get_d_under}

-- No element is overwritten before it is copied: the other place is below, or behind all of them.
abbrev pub Clear : ℕ → ℕ → ℕ → Type 0
Clear from to count = (to ≤ from) ⊎ (from + count ≤ to)

-- The first elements are copied.
pub copied_none : {A : Type 0} (l : List A) (from to : ℕ) → l ≡ over l to (take 0 (drop from l))
copied_none l from to = sym (over_nil l to)

module _ {A : Type 0} (d : A) (l : List A) (from to count : ℕ) (fits : from + count ≤ length l) (room : to + count ≤ length l) where
  first_elements : (i : ℕ) → i ≤ count → length (take i (drop from l)) ≡ i
  first_elements i h = length-take-le i (drop from l) (omega (arith, length-drop from l))

  -- One more.
  one_more : (i : ℕ)
      → i < count
      → set (over l to (take i (drop from l))) (to + i) (get_or l (from + i) d)
      ≡ over l to (take (i + 1) (drop from l))
  one_more i h =
      let long : length (take i (drop from l)) ≡ i = first_elements i (omega arith) in
      let rest : length (drop from l) ≡ length l - from = length-drop from l in
      let next : i + 1 ≡ suc i = omega arith in
      ap (λ j. set (over l to (take i (drop from l))) (to + j) (get_or l (from + i) d)) (sym long)
      ∙ over_more l to (take i (drop from l)) (get_or l (from + i) d) (omega arith)
      ∙ ap (λ x. over l to (take i (drop from l) ++ (x ∷ []))) (sym (get_or-drop from l i d))
      ∙ ap (over l to) (sym (take-suc (drop from l) i d (omega arith)))
      ∙ ap (λ j. over l to (take j (drop from l))) (sym next)

  -- What is still to be copied is as it was.
  still_there : (i : ℕ)
      → Clear from to count
      → i < count
      → get_or (over l to (take i (drop from l))) (from + i) d ≡ get_or l (from + i) d
  still_there i (inl below) h =
      get_d_over l to (take i (drop from l)) (from + i) d (omega arith)
      (omega (arith, first_elements i (omega arith)))
  still_there i (inr apart) h =
      get_d_under l to (take i (drop from l)) (from + i) d (omega arith) (omega arith)

  pub copied_more : (l₁ l₂ : List A) (i : ℕ)
      → Clear from to count
      → i < count
      → l₁ ≡ over l to (take i (drop from l))
      → l₂ ≡ set l₁ (to + i) (get_or l₁ (from + i) d)
      → l₂ ≡ over l to (take (i + 1) (drop from l))
  copied_more l₁ l₂ i clear h e e' =
      let there : get_or l₁ (from + i) d ≡ get_or l (from + i) d
      = ap (λ x. get_or x (from + i) d) e ∙ still_there i clear h in
      e' ∙ ap (λ x. set l₁ (to + i) x) there
      ∙ ap (λ x. set x (to + i) (get_or l (from + i) d)) e
      ∙ one_more i h

-- Bytes that are not overwritten before they are copied.
pub bytes_copied : (m : List ℕ) (from to count : ℕ)
    → from + count ≤ length m
    → to + count ≤ length m
    → Clear from to count
    → (i : ℕ)
    → i ≤ count
    → copied m from to i ≡ over m to (take i (drop from m))
bytes_copied m from to count fits room clear zero h = copied_none m from to
bytes_copied m from to count fits room clear (suc i) h =
    let next : i + 1 ≡ suc i = omega arith in
    copied_more 0 m from to count fits room (copied m from to i) (copied m from to (suc i)) i clear (omega arith)
    (bytes_copied m from to count fits room clear i (omega arith))
    refl
    ∙ ap (λ j. over m to (take j (drop from m))) next

-- Some bytes, and then more.
pub copied_on : (m : List ℕ) (from to k n : ℕ)
    → copied m from to (k + n) ≡ copied (copied m from to k) (from + k) (to + k) n
copied_on m from to k zero =
    let all : k + 0 ≡ k = omega arith in
    ap (copied m from to) all
copied_on m from to k (suc n) =
    let more : k + suc n ≡ suc (k + n) = omega arith in
    let source : from + (k + n) ≡ from + k + n = omega arith in
    let place : to + (k + n) ≡ to + k + n = omega arith in
    ap (copied m from to) more
    ∙ ap₂ (λ i j. set (copied m from to (k + n)) i (get_or (copied m from to (k + n)) j 0)) place source
    ∙ ap (λ l. set l (to + k + n) (get_or l (from + k + n) 0)) (copied_on m from to k n)

-- Where all of them can be copied.
pub copy_within : (m : List ℕ) (from to count : ℕ)
    → from + count ≤ length m / 4
    → to + count ≤ length m / 4
    → copy_nodes m from to count ≡ copied m (4 * from) (4 * to) (4 * count)
unfolding copy_nodes
copy_within m from to count fits room =
    ap₂ (λ s t. cond (s && t) (copied m (4 * from) (4 * to) (4 * count)) m)
    (le-leb (from + count) (length m / 4) fits)
    (le-leb (to + count) (length m / 4) room)
