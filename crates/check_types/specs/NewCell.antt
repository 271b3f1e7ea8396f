-- A cell that is written: quadword n.
use Rattle.std.specs.Prelude.{ℕ, List, [], ◌∷◌}
use Rattle.words.specs.Words.{set_words}

-- The words with quadword n written; a word has 16 bits.
unfoldable pub with_cell : List ℕ → ℕ → ℕ → ℕ → ℕ → ℕ → List ℕ
with_cell w n kind first second word = set_words 4 w n (kind ∷ first ∷ second ∷ word ∷ [])
