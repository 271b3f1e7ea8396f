-- What a lent buffer holds after bytes were written from its start.
use Rattle.std.specs.Prelude.{ℕ, min, ◌≡◌, List, ◌++◌, length, take, drop}

-- The buffer held l, and the bytes xs were written from its start, as many as it holds; behind them stands what was there.
-- The next byte goes to the given place.
pub record Written (l xs text : List ℕ) (at : ℕ) : Type 0 where
  pub contents : text ≡ take (length l) xs ++ drop (length xs) l
  pub place : at ≡ min (length xs) (length l)
