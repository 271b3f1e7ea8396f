-- What a writer has done between two of its states.
use Rattle.std.specs.Prelude.{◌≡◌, ℕ, List, length}
use Rattle.text.specs.Writing.{Puts}
use Rattle.text.specs.declared.Writer.{Writer}

-- The writer has the buffer that it had, which is as long as it was.
abbrev pub SameText : Writer → Writer → Type 0
SameText before after = (after.text.ghost_name ≡ before.text.ghost_name) × (length after.text.now ≡ length before.text.now)

-- The bytes were written behind all that the writer had written before, into the same buffer, which is as long as it was.
abbrev pub Writes : Writer → List ℕ → Writer → Type 0
Writes before bytes after =
    (after.text.ghost_name ≡ before.text.ghost_name)
    × Puts before.text.now before.at bytes after.text.now after.at
    × (length after.text.now ≡ length before.text.now)
