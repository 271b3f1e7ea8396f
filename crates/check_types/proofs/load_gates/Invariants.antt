-- The types of the gates below g are loaded.
use Prim.Native.Nat.{ℕ}
use mathlib.Core.Path.{◌≡◌}
use mathlib.Core.List.{List}
use Rattle.words.specs.Words.{words}
use Rattle.check_types.specs.GateCells.{gate_start, load_gates}
use Rattle.check_types.proofs.load_gates.Given as goal

abbrev pub invariant-loop-g : goal.invariant-loop-g
invariant-loop-g l =
    (l.n ≡ gate_start l.g) × ((w : List ℕ) → words l.initial.work ≡ load_gates w 0 → words l.work ≡ load_gates w l.g)
