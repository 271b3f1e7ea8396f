-- Laws of the least lengths, and of what is left in lent buffers.
use Rattle.std.specs.Prelude.{ℕ, ◌≤◌, ◌<◌, ◌≡◌, refl, Bool, true, false, ◌||◌, cond, List, [], ◌∷◌, map, ltb, length, replicate}
use Rattle.std.proofs.Common.{arith, sym, ◌∙◌, ap, lt-ltb, le-ltb, ltb-false}
use Rattle.lent.specs.Lent.{any_below, too_short, zeroed, answered, bytes_left, memory_left}

-- The first length is below its least.
pub below_here : (l n : ℕ) (ls ns : List ℕ) → n < l → any_below (l ∷ ls) (n ∷ ns) ≡ true
below_here l n ls ns h = ap (λ b. b || any_below ls ns) (lt-ltb n l h)

-- It is not: the others decide.
pub below_later : (l n : ℕ) (ls ns : List ℕ) → l ≤ n → any_below (l ∷ ls) (n ∷ ns) ≡ any_below ls ns
below_later l n ls ns h = ap (λ b. b || any_below ls ns) (le-ltb n l h)

-- Where none is below, the first is not, and none of the others is.
pub none_below : (l n : ℕ) (ls ns : List ℕ)
    → any_below (l ∷ ls) (n ∷ ns) ≡ false
    → (l ≤ n) × (any_below ls ns ≡ false)
none_below l n ls ns e = of (ltb n l) refl e
  where
    of : (b : Bool) → ltb n l ≡ b → b || any_below ls ns ≡ false → (l ≤ n) × (any_below ls ns ≡ false)
    of true p e = let z : ◌≡◌ {A = ℕ} 0 1 = cc in absurd (omega arith)
    of false p e = (ltb-false n l p, e)

-- Every length is at least the one at its place, as one fact for each place.
abbrev pub AtLeast : List ℕ → List ℕ → Type 0
AtLeast [] ns = Unit {0}
AtLeast (l ∷ ls) [] = Unit {0}
AtLeast (l ∷ ls) (n ∷ ns) = (l ≤ n) × AtLeast ls ns

pub all_least : (ls ns : List ℕ) → any_below ls ns ≡ false → AtLeast ls ns
all_least [] ns e = tt
all_least (l ∷ ls) [] e = tt
all_least (l ∷ ls) (n ∷ ns) e = let x = none_below l n ls ns e in (x.0, all_least ls ns x.1)

-- Too short: nothing is touched.
pub short_left : (least : List ℕ) (written : List ℕ → List ℕ) (buffers : List (List ℕ))
    → too_short least buffers ≡ true
    → buffers ≡ bytes_left least written buffers
unfolding bytes_left
short_left least written buffers e = sym (ap (λ b. cond b buffers (answered written buffers)) e)

-- Long enough: the buffers are as the answer has them.
pub long_left : (least : List ℕ) (written : List ℕ → List ℕ) (buffers last : List (List ℕ))
    → too_short least buffers ≡ false
    → last ≡ answered written buffers
    → last ≡ bytes_left least written buffers
unfolding bytes_left
long_left least written buffers last e same = same ∙ sym (ap (λ b. cond b buffers (answered written buffers)) e)

-- The same where only working memory is lent.
pub short_memory : (least : List ℕ) (buffers : List (List ℕ)) → too_short least buffers ≡ true → buffers ≡ memory_left least buffers
unfolding memory_left
short_memory least buffers e = sym (ap (λ b. cond b buffers (map zeroed buffers)) e)

pub long_memory : (least : List ℕ) (buffers last : List (List ℕ))
    → too_short least buffers ≡ false
    → last ≡ map zeroed buffers
    → last ≡ memory_left least buffers
unfolding memory_left
long_memory least buffers last e same = same ∙ sym (ap (λ b. cond b buffers (map zeroed buffers)) e)

-- Buffers of the same lengths are zeroed to the same bytes.
pub zeroed_same : (bs cs : List (List ℕ)) → map length bs ≡ map length cs → map zeroed bs ≡ map zeroed cs
zeroed_same bs cs e = zeros bs ∙ ap (map (λ n. replicate n 0)) e ∙ sym (zeros cs)
  where
    zeros : (bs : List (List ℕ)) → map zeroed bs ≡ map (λ n. replicate n 0) (map length bs)
    zeros [] = refl
    zeros (b ∷ bs) = ap (◌∷◌ (zeroed b)) (zeros bs)
