-- A pair of values is a value.
use Rattle.std.specs.Prelude.{Bool, true, false, ◌&&◌, T as Truth}
use Rattle.rules.specs.Terms.{Term, pair, value}

abbrev pub both_values : (M N : Term) → Truth (value M) → Truth (value N) → Truth (value (pair M N))
both_values M N v w = and_so (value M) (value N) v w
  where
    and_so : (a b : Bool) → Truth a → Truth b → Truth (a && b)
    and_so true b v w = w
    and_so false b v w = absurd v
