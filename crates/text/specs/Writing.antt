-- Laws of bytes written into a lent buffer from its start, as many as it holds.
use Rattle.std.specs.Prelude.{ℕ, List, ◌++◌}
use Rattle.text.specs.Written.{Written}

-- From one state of the buffer to another, the bytes ys were written behind all that were written before.
pub record Puts (text : List ℕ) (at : ℕ) (ys text' : List ℕ) (at' : ℕ) : Type 0 where
  pub behind : (l xs : List ℕ) → Written l xs text at → Written l (xs ++ ys) text' at'
