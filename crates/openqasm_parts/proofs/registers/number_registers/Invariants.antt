use mathlib.Core.Path.{◌≡◌}
use mathlib.Core.List.{◌++◌}
use lib.ListN.{drop}
use Rattle.rules.specs.Circuits.{numbers}
use Rattle.openqasm_parts.proofs.registers.number_registers.Given as goal

abbrev pub invariant-loop-k : goal.invariant-loop-k
invariant-loop-k l =
    l.held ≡ numbers 0 l.k ++ drop l.k l.initial.held
