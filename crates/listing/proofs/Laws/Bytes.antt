-- Laws of reading back what stands in a list of bytes.
use Rattle.std.specs.Prelude.{ℕ, zero, suc, ◌+◌, ◌*◌, ◌≤◌, ◌<◌, ◌≡◌, refl, length, get_or}
use Rattle.std.proofs.Common.{arith, ◌∙◌, ap, ap₂, get_or-append-add}
use mathlib.Core.List.{List, [], ◌∷◌, ◌++◌, map, flat_map}
use Rattle.std.proofs.Math.ListN.{get_or-append}
use Rattle.rules.specs.Slots.{no_wire}
use Rattle.listing.specs.Listing.{bytes_of, slots}
use Rattle.words.specs.Numbers.{word_at}
use Rattle.words.specs.Numbers.{words_at}

-- A number that stands as two bytes is read back.
first_word : (ws s : List ℕ) (m : ℕ) → m < length ws → word_at (flat_map bytes_of ws ++ s) (2 * m) ≡ get_or ws m 0
unfolding word_at flat_map
first_word [] s m below = absurd (omega arith)
first_word (w ∷ ws) s zero below = omega arith
first_word (w ∷ ws) s (suc m) below =
    let b = flat_map bytes_of (w ∷ ws) ++ s in
    let e : 2 * suc m ≡ suc (suc (2 * m)) = omega arith in
    let e' : 2 * suc m + 1 ≡ suc (suc (2 * m + 1)) = omega arith in
    ap₂ (λ x y. x + 256 * y) (ap (λ k. get_or b k 0) e) (ap (λ k. get_or b k 0) e') ∙ first_word ws s m (omega arith)

-- The same behind other bytes.
pub word_behind : (p ws s : List ℕ) (at m : ℕ)
    → at ≡ length p + 2 * m
    → m < length ws
    → word_at (p ++ (flat_map bytes_of ws ++ s)) at ≡ get_or ws m 0
unfolding word_at
word_behind p ws s at m here below =
    let t = flat_map bytes_of ws ++ s in
    let next : at + 1 ≡ length p + (2 * m + 1) = omega arith in
    ap₂
    (λ x y. x + 256 * y)
    (ap (λ k. get_or (p ++ t) k 0) here ∙ get_or-append-add p t (2 * m) 0)
    (ap (λ k. get_or (p ++ t) k 0) next ∙ get_or-append-add p t (2 * m + 1) 0)
    ∙ first_word ws s m below

-- Words that are read one by one.
pub words_are : (b : List ℕ) (from : ℕ) (ws : List ℕ)
    → ((m : ℕ) → m < length ws → word_at b (from + 2 * m) ≡ get_or ws m 0)
    → words_at b from (length ws) ≡ ws
words_are b from [] each = refl
words_are b from (w ∷ ws) each =
    let e : from ≡ from + 2 * 0 = omega arith in
    ap₂
    (λ x xs. x ∷ xs)
    (ap (word_at b) e ∙ each 0 (omega arith))
    (words_are b (from + 2) ws λ m below.
    let e' : from + 2 + 2 * m ≡ from + 2 * suc m = omega arith in
    ap (word_at b) e' ∙ each (suc m) (omega arith))

-- An element of a mapped list.
pub mapped_at : {A : Type 0} (f : A → ℕ) (d : A) (xs : List A) (i : ℕ)
    → i < length xs
    → get_or (map f xs) i 0 ≡ f (get_or xs i d)
mapped_at f d [] i below = absurd (omega arith)
mapped_at f d (x ∷ xs) zero below = refl
mapped_at f d (x ∷ xs) (suc i) below = mapped_at f d xs i (omega arith)

-- An element of parts that are all n long, one behind the other.
pub part_at : {A : Type 0} (f : A → List ℕ) (n : ℕ) (d : A) (xs : List A) (i k : ℕ)
    → ((x : A) → length (f x) ≡ n)
    → i < length xs
    → k < n
    → get_or (flat_map f xs) (n * i + k) 0 ≡ get_or (f (get_or xs i d)) k 0
unfolding flat_map
part_at f n d [] i k long below inside = absurd (omega arith)
part_at f n d (x ∷ xs) zero k long below inside =
    let e : n * 0 + k ≡ k = omega arith in
    ap (λ j. get_or (f x ++ flat_map f xs) j 0) e
    ∙ get_or-append (f x) (flat_map f xs) 0 k (omega (arith, long x))
part_at f n d (x ∷ xs) (suc i) k long below inside =
    let e : n * suc i + k ≡ length (f x) + (n * i + k) = omega (arith, long x) in
    ap (λ j. get_or (f x ++ flat_map f xs) j 0) e
    ∙ get_or-append-add (f x) (flat_map f xs) (n * i + k) 0
    ∙ part_at f n d xs i k long (omega arith) inside

-- A wire in its slot.
pub slot_at_lem : (n : ℕ) (ws : List ℕ) (k : ℕ) → k < n → k < length ws → get_or (slots n ws) k 0 ≡ get_or ws k 0
slot_at_lem zero ws k h h' = absurd (omega arith)
slot_at_lem (suc n) [] k h h' = absurd (omega arith)
slot_at_lem (suc n) (w ∷ ws) zero h h' = refl
slot_at_lem (suc n) (w ∷ ws) (suc k) h h' = slot_at_lem n ws k (omega arith) (omega arith)

-- A slot behind the wires has none.
pub unused_at : (n : ℕ) (ws : List ℕ) (k : ℕ) → length ws ≤ k → k < n → get_or (slots n ws) k 0 ≡ no_wire
unused_at zero ws k h h' = absurd (omega arith)
unused_at (suc n) [] zero h h' = refl
unused_at (suc n) [] (suc k) h h' = unused_at n [] k (omega arith) (omega arith)
unused_at (suc n) (w ∷ ws) zero h h' = absurd (omega arith)
unused_at (suc n) (w ∷ ws) (suc k) h h' = unused_at n ws k (omega arith) (omega arith)
