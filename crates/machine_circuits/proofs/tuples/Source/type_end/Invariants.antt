use Prim.Native.Nat.{◌+◌, ◌≤◌}
use mathlib.Core.Path.{◌≡◌}
use lib.ListN.{drop}
use Rattle.machine_circuits.specs.Tuples.{code_span, codes_of}
use Rattle.machine_circuits.proofs.tuples.Source.type_end.Given as goal

abbrev pub invariant-loop-i : goal.invariant-loop-i
invariant-loop-i l =
    (l.waiting ≤ l.i)
    × (l.i + code_span (drop l.i (codes_of l.self)) (l.waiting + 1) ≡ l.position + code_span (drop l.position (codes_of l.self)) 1)
