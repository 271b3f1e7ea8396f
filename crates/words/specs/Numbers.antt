-- 16-bit numbers among the bytes of a file or a listing.
use Rattle.std.specs.Prelude.{ℕ, zero, suc, ◌+◌, ◌*◌, List, [], ◌∷◌, get_or}

-- 16 bits, "low byte first"; past the end stands 0.
unfoldable pub word_at : List ℕ → ℕ → ℕ
word_at b at = get_or b at 0 + 256 * get_or b (at + 1) 0

-- So many of them, one behind the other.
abbrev pub words_at : List ℕ → ℕ → ℕ → List ℕ
words_at b at zero = []
words_at b at (suc k) = word_at b at ∷ words_at b (at + 2) k
