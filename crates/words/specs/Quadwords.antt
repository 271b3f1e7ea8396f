-- Quadwords in lent memory: four 16-bit words each.
use Rattle.std.specs.Prelude.{ℕ, List, [], ◌∷◌, get_or}
use Rattle.words.specs.Words.{words}

-- Four words.
pub data Quadword : Type 0 where
  quadword : ℕ → ℕ → ℕ → ℕ → Quadword

-- The words of a quadword, in order.
abbrev pub four_words : Quadword → List ℕ
four_words (quadword a b c d) = a ∷ b ∷ c ∷ d ∷ []

-- Word k; 0 where there is none.
abbrev pub word_in : Quadword → ℕ → ℕ
word_in (quadword a b c d) k = get_or (a ∷ b ∷ c ∷ d ∷ []) k 0

-- The quadwords of a list of words, one after another; what is left over at the end is no quadword.
unfoldable pub quadwords_of : List ℕ → List Quadword
quadwords_of [] = []
quadwords_of (a ∷ []) = []
quadwords_of (a ∷ b ∷ []) = []
quadwords_of (a ∷ b ∷ c ∷ []) = []
quadwords_of (a ∷ b ∷ c ∷ d ∷ w) = quadword a b c d ∷ quadwords_of w

-- The quadwords of a buffer.
abbrev pub quadwords_in : List ℕ → List Quadword
quadwords_in m = quadwords_of (words m)

-- Quadword i; past the end a quadword of zeros.
abbrev pub quadword_at : List Quadword → ℕ → Quadword
quadword_at rs i = get_or rs i (quadword 0 0 0 0)
