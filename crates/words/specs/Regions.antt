-- What a writer leaves: a list with some elements, from a place on, replaced by others.
use Rattle.std.specs.Prelude.{ℕ, ◌+◌, ◌≡◌, List, ◌++◌, length, take, drop}

module _ {A : Type 0} where
  -- l with the elements from place `at` on replaced by xs.
  unfoldable pub over : List A → ℕ → List A → List A
  over l at xs = take at l ++ (xs ++ drop (at + length xs) l)

  -- What a reader needs: xs stands in l at place i.
  abbrev pub Stands : List A → ℕ → List A → Type 0
  Stands l i xs = take (length xs) (drop i l) ≡ xs
