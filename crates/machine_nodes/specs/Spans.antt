-- How many nodes some parts take that stand in preorder, one behind the other.
use Rattle.std.specs.Prelude.{ℕ, zero, suc, ◌+◌, List, [], ◌∷◌}
use Rattle.machine_terms.specs.Trees.{Node, kind, parts}

-- The elements of a list that so many parts take, where behind each stand as many parts as it asks for; all elements where they run
-- out before.
unfoldable pub span_by : (X : Type 0) → (X → ℕ) → List X → ℕ → ℕ
span_by X asked [] waiting = zero
span_by X asked (x ∷ xs) zero = zero
span_by X asked (x ∷ xs) (suc waiting) = suc (span_by X asked xs (waiting + asked x))

-- Each node asks for the parts of its kind.
abbrev pub asked : Node → ℕ
asked n = parts (kind n)

abbrev pub span : List Node → ℕ → ℕ
span ns waiting = span_by Node asked ns waiting
