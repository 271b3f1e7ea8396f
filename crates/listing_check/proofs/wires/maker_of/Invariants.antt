use Prim.Native.Nat.{◌≤◌}
use mathlib.Core.Path.{◌≡◌}
use mathlib.Core.List.{◌++◌}
use lib.ListN.{length}
use Rattle.rules.specs.Circuits.{outputs}
use Rattle.listing.specs.Reading.{inputs_of, first_gates}
use Rattle.listing_check.proofs.wires.maker_of.Given as goal

abbrev pub invariant-loop-i : goal.invariant-loop-i
invariant-loop-i l =
    (l.made ≡ length (inputs_of l.listing ++ outputs (first_gates l.listing l.i)))
    × (l.made ≤ l.w)
