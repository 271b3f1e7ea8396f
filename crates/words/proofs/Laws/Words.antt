-- Laws of the words of a byte buffer.
use Rattle.std.specs.Prelude.{ℕ, zero, suc, ◌+◌, ◌*◌, ◌≤◌, ◌<◌, ◌/◌, ◌%◌, ◌≡◌, refl, Bool, true, false, cond, List, [], ◌∷◌, ◌++◌, map, ltb, length, get_or, set}
use Rattle.std.proofs.Common.{arith, le-div_iff_mul-le, mul_assoc, mul_comm, suc-mul, sym, ◌∙◌, ap, ap₂, length-set, lt-ltb, le-ltb}
use Rattle.std.proofs.Math.Decide.{dec_lt}
use Rattle.std.proofs.Math.Nat.{div-div-eq-div-mul, div-zero}
use Rattle.std.proofs.Math.ListN.{get_or-eq_default}
use Rattle.std.proofs.lemmas.List.Edits.{sets}
use Rattle.std.proofs.Math.Seq.{length-sets, set_out}
use Rattle.words.specs.Words.{words, bytes_of_words, put_words, set_words}

-- There are half as many words as bytes; a last single byte is no word.
pub length_words : (m : List ℕ) → length (words m) ≡ length m / 2
length_words [] = refl
length_words (a ∷ []) = refl
length_words (a ∷ b ∷ m) = omega (arith, length_words m)

-- Two buffers of one length have as many words.
pub same_words : (m m' : List ℕ) → length m' ≡ length m → length (words m') ≡ length (words m)
same_words m m' h = omega (arith, length_words m, length_words m')

-- Word i is made of the bytes 2 * i and 2 * i + 1.
pub word_at_lem : (m : List ℕ) (i : ℕ)
    → i < length m / 2
    → get_or (words m) i 0 ≡ get_or m (2 * i) 0 + 256 * get_or m (2 * i + 1) 0
word_at_lem [] i h = absurd (omega arith)
word_at_lem (a ∷ []) i h = absurd (omega arith)
word_at_lem (a ∷ b ∷ m) zero h = refl
word_at_lem (a ∷ b ∷ m) (suc i) h =
    let low : 2 * suc i ≡ suc (suc (2 * i)) = omega arith in
    let high : 2 * suc i + 1 ≡ suc (suc (2 * i + 1)) = omega arith in
    rw (high, low) (word_at_lem m i (omega arith))

-- Past the last word there is nothing.
pub word_past : (m : List ℕ) (i : ℕ) → length m / 2 ≤ i → get_or (words m) i 0 ≡ 0
word_past m i h = get_or-eq_default (words m) 0 (omega (arith, length_words m))

-- Setting both bytes of word i sets the word.
pub set_word : (m : List ℕ) (i a b : ℕ)
    → i < length m / 2
    → words (set (set m (2 * i) a) (2 * i + 1) b) ≡ set (words m) i (a + 256 * b)
set_word [] i a b h = absurd (omega arith)
set_word (x ∷ []) i a b h = absurd (omega arith)
set_word (x ∷ y ∷ m) zero a b h = refl
set_word (x ∷ y ∷ m) (suc i) a b h =
    let low : 2 * suc i ≡ suc (suc (2 * i)) = omega arith in
    let high : 2 * suc i + 1 ≡ suc (suc (2 * i + 1)) = omega arith in
    rw (high, low) (ap (λ t. (x + 256 * y) ∷ t) (set_word m i a b (omega arith)))

-- Every word is below 65536, if the bytes are below 256.
pub word_below : (m : List ℕ) → ((i : ℕ) → get_or m i 0 < 256) → (i : ℕ) → get_or (words m) i 0 < 65536
word_below [] h i = omega arith
word_below (a ∷ []) h i = omega arith
word_below (a ∷ b ∷ m) h zero = omega (arith, h 0, h 1)
word_below (a ∷ b ∷ m) h (suc i) = word_below m (λ j. h (suc (suc j))) i

-- The low 16 bits of a number as two bytes.
pub two_bytes : (n : ℕ) → n % 256 + 256 * (n / 256 % 256) ≡ n % 65536
two_bytes n = omega arith

-- What is put where element i is whole, and where it is not.
pub put_within : (wide : ℕ) (m : List ℕ) (i : ℕ) (vs : List ℕ)
    → i < length m / (2 * wide)
    → put_words wide m i vs ≡ sets m (2 * wide * i) (bytes_of_words vs)
unfolding put_words
put_within wide m i vs h =
    ap (λ t. cond t (sets m (2 * wide * i) (bytes_of_words vs)) m) (lt-ltb i (length m / (2 * wide)) h)

pub put_past : (wide : ℕ) (m : List ℕ) (i : ℕ) (vs : List ℕ)
    → length m / (2 * wide) ≤ i
    → put_words wide m i vs ≡ m
unfolding put_words
put_past wide m i vs h =
    ap (λ t. cond t (sets m (2 * wide * i) (bytes_of_words vs)) m) (le-ltb i (length m / (2 * wide)) h)

pub set_within : (wide : ℕ) (w : List ℕ) (i : ℕ) (vs : List ℕ)
    → i < length w / wide
    → set_words wide w i vs ≡ sets w (wide * i) (map (λ v. v % 65536) vs)
unfolding set_words
set_within wide w i vs h =
    ap (λ t. cond t (sets w (wide * i) (map (λ v. v % 65536) vs)) w) (lt-ltb i (length w / wide) h)

pub set_past : (wide : ℕ) (w : List ℕ) (i : ℕ) (vs : List ℕ) → length w / wide ≤ i → set_words wide w i vs ≡ w
unfolding set_words
set_past wide w i vs h = ap (λ t. cond t (sets w (wide * i) (map (λ v. v % 65536) vs)) w) (le-ltb i (length w / wide) h)

-- The buffer is as long as before.
pub length_put : (wide : ℕ) (m : List ℕ) (i : ℕ) (vs : List ℕ) → length (put_words wide m i vs) ≡ length m
unfolding put_words
length_put wide m i vs = of (ltb i (length m / (2 * wide)))
  where
    of : (t : Bool) → length (cond t (sets m (2 * wide * i) (bytes_of_words vs)) m) ≡ length m
    of true = length-sets m (2 * wide * i) (bytes_of_words vs)
    of false = refl

pub length_set_words : (wide : ℕ) (w : List ℕ) (i : ℕ) (vs : List ℕ) → length (set_words wide w i vs) ≡ length w
unfolding set_words
length_set_words wide w i vs = of (ltb i (length w / wide))
  where
    of : (t : Bool) → length (cond t (sets w (wide * i) (map (λ v. v % 65536) vs)) w) ≡ length w
    of true = length-sets w (wide * i) (map (λ v. v % 65536) vs)
    of false = refl

-- The words of bytes that are set.
words_set : (vs m : List ℕ) (at : ℕ)
    → at + length vs ≤ length m / 2
    → words (sets m (2 * at) (bytes_of_words vs)) ≡ sets (words m) at (map (λ v. v % 65536) vs)
words_set [] m at h = refl
words_set (v ∷ vs) m at h =
    let m' = set (set m (2 * at) (v % 256)) (2 * at + 1) (v / 256 % 256) in
    let long : length m' ≡ length m = simp length-set in
    let high : suc (2 * at) ≡ 2 * at + 1 = omega arith in
    let next : suc (suc (2 * at)) ≡ 2 * suc at = omega arith in
    ap₂ (λ j k. words (sets (set (set m (2 * at) (v % 256)) j (v / 256 % 256)) k (bytes_of_words vs))) high next
    ∙ words_set vs m' (suc at) (omega arith)
    ∙ ap (λ w. sets w (suc at) (map (λ x. x % 65536) vs))
    (set_word m at (v % 256) (v / 256 % 256) (omega arith) ∙ ap (λ x. set (words m) at x) (two_bytes v))

-- The end of element i.
element_inside : (wide size i : ℕ) → i < size / wide → wide * i + wide ≤ size
element_inside zero size i h = absurd (omega (arith, div-zero size))
element_inside (suc k) size i h =
    let whole : suc i * suc k ≤ size = (le-div_iff_mul-le {k = suc k} {x = suc i} {y = size} (omega arith)).0 h in
    omega (arith, whole, mul_comm (suc k) i, suc-mul i (suc k))

-- The view of a buffer as words follows its bytes, for elements of every width.
pub put_view : (wide : ℕ) (m : List ℕ) (i : ℕ) (vs : List ℕ)
    → length vs ≤ wide
    → words (put_words wide m i vs) ≡ set_words wide (words m) i vs
put_view wide m i vs short = of (dec_lt i (length m / (2 * wide)))
  where
    as_many : length (words m) / wide ≡ length m / (2 * wide)
    as_many = ap (λ n. n / wide) (length_words m) ∙ div-div-eq-div-mul (length m) 2 wide

    of : Dec (i < length m / (2 * wide)) → words (put_words wide m i vs) ≡ set_words wide (words m) i vs
    of (yes h) =
        let inside : i < length (words m) / wide = omega (arith, as_many) in
        let room : wide * i + wide ≤ length (words m) = element_inside wide (length (words m)) i inside in
        ap words (put_within wide m i vs h)
        ∙ ap (λ j. words (sets m j (bytes_of_words vs))) (mul_assoc 2 wide i)
        ∙ words_set vs m (wide * i) (omega (arith, length_words m))
        ∙ sym (set_within wide (words m) i vs inside)
    of (no h) =
        ap words (put_past wide m i vs (omega arith)) ∙ sym (set_past wide (words m) i vs (omega (arith, as_many)))

-- A word alone.
pub word_put : (m m' : List ℕ) (i v : ℕ)
    → m' ≡ put_words 1 m i (v ∷ [])
    → words m' ≡ set (words m) i (v % 65536)
word_put m m' i v e =
    ap words e ∙ put_view 1 m i (v ∷ []) (omega arith) ∙ of (dec_lt i (length (words m) / 1))
  where
    of : Dec (i < length (words m) / 1) → set_words 1 (words m) i (v ∷ []) ≡ set (words m) i (v % 65536)
    of (yes h) = set_within 1 (words m) i (v ∷ []) h ∙ ap (λ j. set (words m) j (v % 65536)) (omega arith)
    of (no h) = set_past 1 (words m) i (v ∷ []) (omega arith) ∙ sym (set_out (words m) i (v % 65536) (omega arith))

-- One more word behind those that were put into element i.
bytes_more : (vs : List ℕ) (m : List ℕ) (at v : ℕ)
    → sets (sets m (2 * at) (bytes_of_words vs)) (2 * (at + length vs)) (bytes_of_words (v ∷ [])) ≡ sets m (2 * at) (bytes_of_words (vs ++ (v ∷ [])))
bytes_more [] m at v =
    let here : 2 * (at + 0) ≡ 2 * at = omega arith in
    ap (λ j. sets m j (bytes_of_words (v ∷ []))) here
bytes_more (x ∷ vs) m at v =
    let next : suc (suc (2 * at)) ≡ 2 * suc at = omega arith in
    let further : 2 * (at + suc (length vs)) ≡ 2 * (suc at + length vs) = omega arith in
    let m' = set (set m (2 * at) (x % 256)) (suc (2 * at)) (x / 256 % 256) in
    ap₂ (λ j k. sets (sets m' j (bytes_of_words vs)) k (bytes_of_words (v ∷ []))) next further
    ∙ bytes_more vs m' (suc at) v
    ∙ ap (λ j. sets m' j (bytes_of_words (vs ++ (v ∷ [])))) (sym next)

pub put_more : (wide : ℕ) (m m₁ m₂ : List ℕ) (i : ℕ) (vs : List ℕ) (v : ℕ)
    → i < length m / (2 * wide)
    → length vs < wide
    → m₁ ≡ put_words wide m i vs
    → m₂ ≡ put_words 1 m₁ (wide * i + length vs) (v ∷ [])
    → m₂ ≡ put_words wide m i (vs ++ (v ∷ []))
put_more wide m m₁ m₂ i vs v h short e₁ e₂ =
    let put : m₁ ≡ sets m (2 * (wide * i)) (bytes_of_words vs)
    = e₁ ∙ put_within wide m i vs h ∙ ap (λ j. sets m j (bytes_of_words vs)) (mul_assoc 2 wide i) in
    let long : length m₁ ≡ length m = ap length e₁ ∙ length_put wide m i vs in
    let room : 2 * wide * i + 2 * wide ≤ length m = element_inside (2 * wide) (length m) i h in
    let inside : wide * i + length vs < length m₁ / 2 = omega (arith, mul_assoc 2 wide i) in
    e₂
    ∙ put_within 1 m₁ (wide * i + length vs) (v ∷ []) inside
    ∙ ap (λ l. sets l (2 * (wide * i + length vs)) (bytes_of_words (v ∷ []))) put
    ∙ bytes_more vs m (wide * i) v
    ∙ ap (λ j. sets m j (bytes_of_words (vs ++ (v ∷ [])))) (sym (mul_assoc 2 wide i))
    ∙ sym (put_within wide m i (vs ++ (v ∷ [])) h)

-- The first word of element i.
pub put_first : (wide : ℕ) (m m₁ : List ℕ) (i v : ℕ)
    → i < length m / (2 * wide)
    → 0 < wide
    → m₁ ≡ put_words 1 m (wide * i) (v ∷ [])
    → m₁ ≡ put_words wide m i (v ∷ [])
put_first wide m m₁ i v h some e =
    let start : wide * i + 0 ≡ wide * i = omega arith in
    put_more wide m m m₁ i [] v h some (sym (put_within wide m i [] h)) (e ∙ ap (λ j. put_words 1 m j (v ∷ [])) (sym start))
