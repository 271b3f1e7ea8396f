-- The lines of the gates by their parts, as the code writes them.
use Rattle.std.specs.Prelude.{ℕ, List, [], ◌∷◌}
use Rattle.text.specs.Text.{ascii, decimal, joined}

-- A line with one register, and one with two: what stands before the number of each.
abbrev pub one_line : List ℕ → ℕ → List ℕ
one_line before r = joined (before ∷ decimal r ∷ ascii "[0];\n" ∷ [])

abbrev pub two_line : List ℕ → ℕ → List ℕ → ℕ → List ℕ
two_line before r between s = joined (before ∷ decimal r ∷ between ∷ decimal s ∷ ascii "[0];\n" ∷ [])
