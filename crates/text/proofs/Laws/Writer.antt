-- Laws of what a writer has done.
use Rattle.std.specs.Prelude.{◌≡◌, List, ℕ}
use Rattle.std.proofs.Common.{subst}
use Rattle.text.specs.Writing.{Puts}

-- What a new writer has written, from the start of its buffer.
pub puts_at_start : {text before bytes text' : List ℕ} {at at' : ℕ}
    → before ≡ text
    → at ≡ 0
    → Puts before at bytes text' at'
    → Puts text 0 bytes text' at'
puts_at_start {before = before} {bytes = bytes} {text' = text'} {at' = at'} same start p =
    subst (λ t. Puts t 0 bytes text' at') same (subst (λ n. Puts before n bytes text' at') start p)
