-- ASCII, decimal numbers and lines, for what `wirelist` prints (01, "Listing": words "parted by single spaces") and for OpenQASM
-- texts (02, ticket 4).
use Rattle.std.specs.Prelude.{ℕ, zero, suc, ◌+◌, ◌/◌, ◌%◌, cond, List, [], ◌∷◌, ◌++◌, ltb}
use Prim.Native.Char.{code}
use Prim.Native.String.{String, [] as empty, ◌∷◌ as character}

-- The bytes of a text: each character's ASCII code.
abbrev pub ascii : String → List ℕ
ascii empty = []
ascii (character c s) = code c ∷ ascii s

-- The digit of a number below 10.
abbrev pub digit : ℕ → ℕ
digit d = 48 + d

-- The decimal digits of a number, the first digit first, in at most k steps: a number below 10 is its own digit, any other is
-- a tenth of it, rounded down, followed by the digit that is left.
abbrev pub digits_within : ℕ → ℕ → List ℕ
digits_within zero n = digit n ∷ []
digits_within (suc k) n =
    let more = digits_within k (n / 10) ++ (digit (n % 10) ∷ []) in cond (ltb n 10) (digit n ∷ []) more

-- The number in decimal, without leading zeros. As many steps as the number are enough (`fewer_steps` in Laws/Decimals).
unfoldable pub decimal : ℕ → List ℕ
decimal n = digits_within n n

-- Words, each behind one space.
abbrev pub spaced : List (List ℕ) → List ℕ
spaced [] = []
spaced (w ∷ ws) = 32 ∷ (w ++ spaced ws)

-- A line: words "parted by single spaces", then the end of the line. Where there is no wire there is no word, so no line has
-- two spaces together or ends in a space.
abbrev pub line : List ℕ → List (List ℕ) → List ℕ
line first ws = first ++ (spaced ws ++ (10 ∷ []))

-- Lines one behind the other.
abbrev pub joined : List (List ℕ) → List ℕ
joined [] = []
joined (l ∷ ls) = l ++ joined ls
