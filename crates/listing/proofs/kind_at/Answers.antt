-- `listing::kind_at` meets its contract. Past the end `get_or` gives 0.
use Prim.Native.Nat.{◌+◌}
use native.Mathlib.Omega.{arith}
use mathlib.Core.Path.{sym}
use Rattle.words.proofs.Laws.Numbers.{byte_past}
use Rattle.listing.specs.Reading.{kind_at}
use Rattle.listing.proofs.kind_at.Goals as goal

pub returns-then-listing-i : goal.returns-then-listing-i
unfolding kind_at
returns-then-listing-i c =
    let a = c.args in
    record { value = sym (byte_past a.listing.now (6 + a.i) (omega (arith, c.if-listing-i.true))); upper_bound = omega arith }

pub returns : goal.returns
unfolding kind_at
returns c = record { value = c.byte_at.ensures; upper_bound = omega arith }
