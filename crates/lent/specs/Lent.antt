-- What an operation leaves in the buffers that it was lent: the output buffer first, then its working memory (01, "When each
-- operation says no").
use Rattle.std.specs.Prelude.{ℕ, Bool, false, ◌||◌, cond, List, [], ◌∷◌, map, ltb, length, replicate}
use Rattle.std.specs.Borrow.{MutBor}
use denote.Triple.Both.{Both}

-- A lent buffer as a contract sees it: at the call and after it.
abbrev pub Lent : Type 0
Lent = Both (MutBor (List ℕ)) (MutBor (List ℕ))

-- The bytes of lent buffers at the call, and after it.
abbrev pub first_bytes : List Lent → List (List ℕ)
first_bytes [] = []
first_bytes (b ∷ bs) = b.entry.now ∷ first_bytes bs

abbrev pub last_bytes : List Lent → List (List ℕ)
last_bytes [] = []
last_bytes (b ∷ bs) = b.exit.now ∷ last_bytes bs

-- Is one of the lengths below the least at its place?
abbrev pub any_below : List ℕ → List ℕ → Bool
any_below [] lengths = false
any_below (least ∷ ls) [] = false
any_below (least ∷ ls) (n ∷ ns) = ltb n least || any_below ls ns

-- 01, 19: "an output buffer or a working memory shorter than its least length".
abbrev pub too_short : List ℕ → List (List ℕ) → Bool
too_short least buffers = any_below least (map length buffers)

-- A buffer whose every byte is zero.
abbrev pub zeroed : List ℕ → List ℕ
zeroed b = replicate (length b) 0

-- After an answer that is not 19: the output buffer as the answer has it written, and "working memory is zero".
abbrev pub answered : (List ℕ → List ℕ) → List (List ℕ) → List (List ℕ)
answered written [] = []
answered written (out ∷ work) = written out ∷ map zeroed work

-- "19, before all else: ... no buffer is touched." "After any answer but 19, working memory is zero."
unfoldable pub bytes_left : List ℕ → (List ℕ → List ℕ) → List (List ℕ) → List (List ℕ)
bytes_left least written buffers = cond (too_short least buffers) buffers (answered written buffers)

-- The same of an operation that is lent working memory only.
unfoldable pub memory_left : List ℕ → List (List ℕ) → List (List ℕ)
memory_left least buffers = cond (too_short least buffers) buffers (map zeroed buffers)
