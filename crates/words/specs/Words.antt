-- A byte buffer as a list of 16-bit words, low byte first, and as elements of so many words each: what it is after words
-- are put into it.
use Rattle.std.specs.Prelude.{ℕ, ◌+◌, ◌*◌, ◌/◌, ◌%◌, cond, List, [], ◌∷◌, map, ltb, length}
use Rattle.std.proofs.lemmas.List.Edits.{sets}

abbrev pub words : List ℕ → List ℕ
words [] = []
words (a ∷ []) = []
words (a ∷ b ∷ m) = (a + 256 * b) ∷ words m

-- The bytes of words. Of each value the low 16 bits count.
abbrev pub bytes_of_words : List ℕ → List ℕ
bytes_of_words [] = []
bytes_of_words (v ∷ vs) = v % 256 ∷ v / 256 % 256 ∷ bytes_of_words vs

-- The bytes of a buffer whose elements have so many words each, after these words are put at the start of element i: every
-- other byte is as it was, and all are where there is no whole element i.
unfoldable pub put_words : ℕ → List ℕ → ℕ → List ℕ → List ℕ
put_words wide m i vs = cond (ltb i (length m / (2 * wide))) (sets m (2 * wide * i) (bytes_of_words vs)) m

-- The same of the words: the law put_view says so.
unfoldable pub set_words : ℕ → List ℕ → ℕ → List ℕ → List ℕ
set_words wide w i vs = cond (ltb i (length w / wide)) (sets w (wide * i) (map (λ v. v % 65536) vs)) w
