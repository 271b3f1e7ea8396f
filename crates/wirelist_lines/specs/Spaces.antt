-- When a line ends in a space. Theorem `lines_solid` of Theorems/Spaces: no line that is printed does.
use Rattle.std.specs.Prelude.{ℕ, ◌≡◌, List, [], ◌∷◌, ◌++◌}

-- A line ends in a space: behind some bytes come a space and the end of the line.
abbrev pub EndsInSpace : List ℕ → Type 0
EndsInSpace l = (xs : List ℕ) × (l ≡ xs ++ (32 ∷ 10 ∷ []))

-- 02, ticket 5: "no line ends in a space": none of these.
abbrev pub NoneEndsInSpace : List (List ℕ) → Type 0
NoneEndsInSpace [] = Unit {0}
NoneEndsInSpace (l ∷ ls) = (EndsInSpace l → ⊥) × NoneEndsInSpace ls
