-- Laws of the quadwords of a buffer: four words a quadword.
use Rattle.std.specs.Prelude.{ℕ, zero, suc, ◌+◌, ◌*◌, ◌≤◌, ◌<◌, ◌/◌, ◌%◌, ◌≡◌, refl, List, [], ◌∷◌, length, get_or, set}
use Rattle.std.proofs.Common.{arith, sym, ◌∙◌, ap}
use Rattle.std.proofs.Math.Decide.{dec_lt}
use Rattle.std.proofs.Math.ListN.{get_or-eq_default}
use Rattle.std.proofs.lemmas.List.Edits.{sets}
use Rattle.std.proofs.Math.Seq.{set_out}
use Rattle.words.specs.Words.{words, put_words, set_words}
use Rattle.words.proofs.Laws.Words.{length_words, word_below, put_view, set_within, set_past}
use Rattle.words.specs.Quadwords.{Quadword, quadword, word_in, quadwords_of, quadwords_in, quadword_at}

-- There are a quarter as many quadwords as words, and an eighth as many as bytes.
pub length_quadwords_of : (w : List ℕ) → length (quadwords_of w) ≡ length w / 4
unfolding quadwords_of
length_quadwords_of [] = refl
length_quadwords_of (a ∷ []) = refl
length_quadwords_of (a ∷ b ∷ []) = refl
length_quadwords_of (a ∷ b ∷ c ∷ []) = refl
length_quadwords_of (a ∷ b ∷ c ∷ d ∷ w) = omega (arith, length_quadwords_of w)

pub length_quadwords_in : (m : List ℕ) → length (quadwords_in m) ≡ length m / 8
length_quadwords_in m = omega (arith, length_quadwords_of (words m), length_words m)

-- Two buffers of one length have as many quadwords.
pub same_quadwords : (m m' : List ℕ) → length m' ≡ length m → length (quadwords_in m') ≡ length (quadwords_in m)
same_quadwords m m' h = omega (arith, length_quadwords_in m, length_quadwords_in m')

-- Quadword i is made of the words from 4 * i on.
pub quadword_of_words : (w : List ℕ) (i : ℕ)
    → i < length w / 4
    → quadword_at (quadwords_of w) i
    ≡ quadword (get_or w (4 * i) 0) (get_or w (4 * i + 1) 0) (get_or w (4 * i + 2) 0) (get_or w (4 * i + 3) 0)
unfolding quadwords_of
quadword_of_words [] i h = absurd (omega arith)
quadword_of_words (a ∷ []) i h = absurd (omega arith)
quadword_of_words (a ∷ b ∷ []) i h = absurd (omega arith)
quadword_of_words (a ∷ b ∷ c ∷ []) i h = absurd (omega arith)
quadword_of_words (a ∷ b ∷ c ∷ d ∷ w) zero h = refl
quadword_of_words (a ∷ b ∷ c ∷ d ∷ w) (suc i) h =
    let e0 : 4 * suc i ≡ suc (suc (suc (suc (4 * i)))) = omega arith in
    let e1 : 4 * suc i + 1 ≡ suc (suc (suc (suc (4 * i + 1)))) = omega arith in
    let e2 : 4 * suc i + 2 ≡ suc (suc (suc (suc (4 * i + 2)))) = omega arith in
    let e3 : 4 * suc i + 3 ≡ suc (suc (suc (suc (4 * i + 3)))) = omega arith in
    rw (e1, e2, e3, e0) (quadword_of_words w i (omega arith))

-- Word k of quadword i.
pub word_of_quadword : (w : List ℕ) (i k : ℕ)
    → i < length w / 4
    → k < 4
    → word_in (quadword_at (quadwords_of w) i) k ≡ get_or w (4 * i + k) 0
word_of_quadword w i zero h h' = ap (λ r. word_in r 0) (quadword_of_words w i h) ∙ ap (λ j. get_or w j 0) (omega arith)
word_of_quadword w i (suc zero) h h' = ap (λ r. word_in r 1) (quadword_of_words w i h)
word_of_quadword w i (suc (suc zero)) h h' = ap (λ r. word_in r 2) (quadword_of_words w i h)
word_of_quadword w i (suc (suc (suc zero))) h h' = ap (λ r. word_in r 3) (quadword_of_words w i h)
word_of_quadword w i (suc (suc (suc (suc k)))) h h' = absurd (omega arith)

-- Past the last quadword, and past the last word of a quadword, there is nothing.
pub quadword_past : (w : List ℕ) (i : ℕ) → length w / 4 ≤ i → quadword_at (quadwords_of w) i ≡ quadword 0 0 0 0
quadword_past w i h = get_or-eq_default (quadwords_of w) (quadword 0 0 0 0) (omega (arith, length_quadwords_of w))

pub no_word : (r : Quadword) (k : ℕ) → 4 ≤ k → word_in r k ≡ 0
no_word (quadword a b c d) k h = get_or-eq_default (a ∷ b ∷ c ∷ d ∷ []) 0 h

pub zero_quadword : (k : ℕ) → word_in (quadword 0 0 0 0) k ≡ 0
zero_quadword zero = refl
zero_quadword (suc zero) = refl
zero_quadword (suc (suc zero)) = refl
zero_quadword (suc (suc (suc zero))) = refl
zero_quadword (suc (suc (suc (suc k)))) = refl

-- Setting the four words of quadword i sets the quadword.
set_quadword : (w : List ℕ) (i a b c d : ℕ)
    → i < length w / 4
    → quadwords_of (sets w (4 * i) (a ∷ b ∷ c ∷ d ∷ [])) ≡ set (quadwords_of w) i (quadword a b c d)
unfolding quadwords_of
set_quadword [] i a b c d h = absurd (omega arith)
set_quadword (x ∷ []) i a b c d h = absurd (omega arith)
set_quadword (x ∷ y ∷ []) i a b c d h = absurd (omega arith)
set_quadword (x ∷ y ∷ z ∷ []) i a b c d h = absurd (omega arith)
set_quadword (x ∷ y ∷ z ∷ t ∷ w) zero a b c d h = refl
set_quadword (x ∷ y ∷ z ∷ t ∷ w) (suc i) a b c d h =
    let next : 4 * suc i ≡ suc (suc (suc (suc (4 * i)))) = omega arith in
    rw next (ap (λ r. quadword x y z t ∷ r) (set_quadword w i a b c d (omega arith)))

-- Where the four words of a quadword are put, that is the quadword; past the end nothing changes.
pub quadword_put : (m m' : List ℕ) (i a b c d : ℕ)
    → m' ≡ put_words 4 m i (a ∷ b ∷ c ∷ d ∷ [])
    → quadwords_in m' ≡ set (quadwords_in m) i (quadword (a % 65536) (b % 65536) (c % 65536) (d % 65536))
quadword_put m m' i a b c d e =
    ap quadwords_in e
    ∙ ap quadwords_of (put_view 4 m i (a ∷ b ∷ c ∷ d ∷ []) (omega arith))
    ∙ of (dec_lt i (length (words m) / 4))
  where
    low : Quadword
    low = quadword (a % 65536) (b % 65536) (c % 65536) (d % 65536)

    of : Dec (i < length (words m) / 4) → quadwords_of (set_words 4 (words m) i (a ∷ b ∷ c ∷ d ∷ [])) ≡ set (quadwords_in m) i low
    of (yes h) =
        ap quadwords_of (set_within 4 (words m) i (a ∷ b ∷ c ∷ d ∷ []) h)
        ∙ set_quadword (words m) i (a % 65536) (b % 65536) (c % 65536) (d % 65536) h
    of (no h) =
        ap quadwords_of (set_past 4 (words m) i (a ∷ b ∷ c ∷ d ∷ []) (omega arith))
        ∙ sym (set_out (quadwords_in m) i low (omega (arith, length_quadwords_of (words m))))

-- A quadword is its four words.
pub quadword_whole : (r : Quadword) → quadword (word_in r 0) (word_in r 1) (word_in r 2) (word_in r 3) ≡ r
quadword_whole (quadword a b c d) = refl

pub same_quadword : (a b c d : ℕ) (r : Quadword)
    → a ≡ word_in r 0
    → b ≡ word_in r 1
    → c ≡ word_in r 2
    → d ≡ word_in r 3
    → quadword a b c d ≡ r
same_quadword a b c d r ea eb ec ed = rw (ea, eb, ec, ed) (quadword_whole r)

-- The words of a quadword are 16-bit numbers, if the bytes are below 256.
pub quadword_words_below : (m : List ℕ) → ((i : ℕ) → get_or m i 0 < 256) → (j k : ℕ) → word_in (quadword_at (quadwords_in m) j) k < 65536
quadword_words_below m h j k = inside (dec_lt j (length (words m) / 4)) (dec_lt k 4)
  where
    inside : Dec (j < length (words m) / 4) → Dec (k < 4) → word_in (quadword_at (quadwords_in m) j) k < 65536
    inside (yes p) (yes q) = omega (arith, word_of_quadword (words m) j k p q, word_below m h (4 * j + k))
    inside (yes p) (no q) = omega (arith, no_word (quadword_at (quadwords_in m) j) k (omega arith))
    inside (no p) d = omega (arith, ap (λ r. word_in r k) (quadword_past (words m) j (omega arith)), zero_quadword k)
