use mathlib.Core.Path.{◌≡◌}
use Rattle.check_types.specs.GateCells.{gate_start}
use Rattle.check_types.proofs.gate_cell.Given as goal

abbrev pub invariant-loop-k : goal.invariant-loop-k
invariant-loop-k l = l.n ≡ gate_start l.k
