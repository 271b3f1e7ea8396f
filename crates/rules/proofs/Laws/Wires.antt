-- Laws of counting and of places in a list, which the theorems on circuits use.
use Rattle.std.specs.Prelude.{ℕ, zero, suc, ◌+◌, ◌≤◌, ◌<◌, ◌≡◌, refl, ◌≢◌, Bool, true, false, ◌&&◌, List, [], ◌∷◌, ◌++◌, map, T as Truth, eqb, length}
use Rattle.std.proofs.Common.{sym, ap, ap₂, ◌∙◌, subst, arith, zero-add, add-zero, suc-add, eqb→eq}
use Rattle.std.proofs.Math.Option.{none, some, some-injective}
use Rattle.std.proofs.Math.Dec.{eqb_refl}
use Rattle.rules.specs.Gates.{nth}
use Rattle.rules.specs.Circuits.{numbers, one_if, count}
use Rattle.rules.proofs.Laws.Booleans.{and_left, and_right}

-- What the test for equal numbers says.
pub data Compared (m n : ℕ) : Bool → Type 0 where
  equal : m ≡ n → Compared m n true
  unequal : m ≢ n → Compared m n false

pub compared : (m n : ℕ) → Compared m n (eqb m n)
compared m n = of_test (eqb m n) refl
  where
    of_test : (b : Bool) → eqb m n ≡ b → Compared m n b
    of_test true e = equal (eqb→eq m n (rw e tt))
    of_test false e =
        unequal λ p.
        let t : Truth (eqb m n) = subst (λ k. Truth (eqb m k)) p (eqb_refl m) in
        subst Truth e t

-- A number counts once where it is equal, and not where it is another.
pub one_if_equal : (m n : ℕ) → m ≡ n → one_if (eqb m n) ≡ 1
one_if_equal m n p = of_test (eqb m n) (compared m n)
  where
    of_test : (b : Bool) → Compared m n b → one_if b ≡ 1
    of_test _ (equal q) = refl
    of_test _ (unequal f) = absurd (f p)

pub one_if_unequal : (m n : ℕ) → m ≢ n → one_if (eqb m n) ≡ 0
one_if_unequal m n f = of_test (eqb m n) (compared m n)
  where
    of_test : (b : Bool) → Compared m n b → one_if b ≡ 0
    of_test _ (equal q) = absurd (f q)
    of_test _ (unequal g) = refl

-- A number stands in two lists joined as often as in both.
pub count_append : (w : ℕ) (xs ys : List ℕ) → count w (xs ++ ys) ≡ count w xs + count w ys
count_append w [] ys = sym (zero-add (count w ys))
count_append w (x ∷ xs) ys = omega (arith, count_append w xs ys)

-- Counting after a function that takes u, and nothing else, to v.
pub count_map : (f : ℕ → ℕ) (u v : ℕ) → f u ≡ v → ((x : ℕ) → f x ≡ v → x ≡ u)
    → (xs : List ℕ) → count v (map f xs) ≡ count u xs
count_map f u v p only [] = refl
count_map f u v p only (x ∷ xs) =
    ap₂ ◌+◌ (same_test (eqb v (f x)) (eqb u x) (compared v (f x)) (compared u x)) (count_map f u v p only xs)
  where
    same_test : (a b : Bool) → Compared v (f x) a → Compared u x b → one_if a ≡ one_if b
    same_test _ _ (equal q) (equal r) = refl
    same_test _ _ (equal q) (unequal g) = absurd (g (sym (only x (sym q))))
    same_test _ _ (unequal g) (equal r) = absurd (g (sym p ∙ ap f r))
    same_test _ _ (unequal g) (unequal h) = refl

-- Counting after a function that takes nothing to v.
pub count_map_none : (f : ℕ → ℕ) (v : ℕ) → ((x : ℕ) → f x ≢ v) → (xs : List ℕ) → count v (map f xs) ≡ 0
count_map_none f v never [] = refl
count_map_none f v never (x ∷ xs) =
    omega (arith, one_if_unequal v (f x) (λ p. never x (sym p)), count_map_none f v never xs)

-- Numbers in a row stand there once, and no others.
pub count_below : (w n k : ℕ) → w < n → count w (numbers n k) ≡ 0
count_below w n zero h = refl
count_below w n (suc k) h =
    omega (arith, one_if_unequal w n (omega arith), count_below w (suc n) k (omega arith))

pub count_above : (w n k : ℕ) → n + k ≤ w → count w (numbers n k) ≡ 0
count_above w n zero h = refl
count_above w n (suc k) h =
    omega (arith, one_if_unequal w n (omega arith), count_above w (suc n) k (omega arith))

pub count_between : (w n k : ℕ) → n ≤ w → w < n + k → count w (numbers n k) ≡ 1
count_between w n zero h l = absurd (omega arith)
count_between w n (suc k) h l = of_test (eqb w n) (compared w n) (λ h' l'. count_between w (suc n) k h' l')
  where
    of_test : (b : Bool) → Compared w n b
        → (suc n ≤ w → w < suc n + k → count w (numbers (suc n) k) ≡ 1)
        → one_if b + count w (numbers (suc n) k) ≡ 1
    of_test _ (equal p) rest = omega (arith, count_below w (suc n) k (omega arith))
    of_test _ (unequal f) rest = omega (arith, rest (omega arith) (omega arith))

pub count_at_most_once : (w n k : ℕ) → count w (numbers n k) ≤ 1
count_at_most_once w n zero = omega arith
count_at_most_once w n (suc k) = of_test (eqb w n) (compared w n) (count_at_most_once w (suc n) k)
  where
    of_test : (b : Bool) → Compared w n b → count w (numbers (suc n) k) ≤ 1
        → one_if b + count w (numbers (suc n) k) ≤ 1
    of_test _ (equal p) rest = omega (arith, count_below w (suc n) k (omega arith))
    of_test _ (unequal f) rest = omega arith

-- A row of j + k numbers is a row of j, then one of k.
pub numbers_append : (n j k : ℕ) → numbers n (j + k) ≡ numbers n j ++ numbers (n + j) k
numbers_append n zero k = ap₂ numbers (sym (add-zero n)) (zero-add k)
numbers_append n (suc j) k =
    ap (numbers n) (suc-add j k)
    ∙ ap (λ l. n ∷ l) (numbers_append (suc n) j k ∙ ap (λ m. numbers (suc n) j ++ numbers m k) (omega arith))

-- What stands at a place: in the first or the second of two lists, and before or after the end.
module _ {A : Type 0} where
  pub nth_append_right : (M X : List A) (w : ℕ) → nth (M ++ X) (length M + w) ≡ nth X w
  nth_append_right [] X w = ap (nth X) (zero-add w)
  nth_append_right (a ∷ M) X w = ap (nth (a ∷ (M ++ X))) (suc-add (length M) w) ∙ nth_append_right M X w

  pub nth_append_left : (M X : List A) (w : ℕ) → w < length M → nth (M ++ X) w ≡ nth M w
  nth_append_left [] X w h = absurd (omega arith)
  nth_append_left (a ∷ M) X zero h = refl
  nth_append_left (a ∷ M) X (suc w) h = nth_append_left M X w (omega arith)

  pub nth_beyond : (M : List A) (w : ℕ) → length M ≤ w → nth M w ≡ none
  nth_beyond [] w h = refl
  nth_beyond (a ∷ M) zero h = absurd (omega arith)
  nth_beyond (a ∷ M) (suc w) h = nth_beyond M w (omega arith)

  pub nth_within : (M : List A) (w : ℕ) → w < length M → (a : A) × (nth M w ≡ some a)
  nth_within [] w h = absurd (omega arith)
  nth_within (a ∷ M) zero h = (a, refl)
  nth_within (a ∷ M) (suc w) h = nth_within M w (omega arith)

  pub nth_some_within : (M : List A) (w : ℕ) {a : A} → nth M w ≡ some a → w < length M
  nth_some_within [] w p = let z : ◌≡◌ {A = ℕ} 0 1 = cc in absurd (omega arith)
  nth_some_within (a ∷ M) zero p = omega arith
  nth_some_within (a ∷ M) (suc w) p = let h = nth_some_within M w p in omega arith

-- A function on each entry of two lists joined.
pub map-append : (f : ℕ → ℕ) (xs ys : List ℕ) → map f (xs ++ ys) ≡ map f xs ++ map f ys
map-append f [] ys = refl
map-append f (x ∷ xs) ys = ap (λ l. f x ∷ l) (map-append f xs ys)

-- A test that passes at every entry of a list passes at the one that stands at a place.
module _ {A : Type 0} (test : A → Bool) where
  abbrev pub every : List A → Bool
  every [] = true
  every (a ∷ l) = test a && every l

  pub every_nth : (l : List A) (n : ℕ) {a : A} → nth l n ≡ some a → Truth (every l) → Truth (test a)
  every_nth [] n p t = let z : ◌≡◌ {A = ℕ} 0 1 = cc in absurd (omega arith)
  every_nth (b ∷ l) zero {a} p t =
      subst (λ x. Truth (test x)) (some-injective b a p) (and_left (test b) (every l) t)
  every_nth (b ∷ l) (suc n) p t = every_nth l n p (and_right (test b) (every l) t)
