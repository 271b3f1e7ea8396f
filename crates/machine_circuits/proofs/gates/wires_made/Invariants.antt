use Prim.Native.Nat.{◌*◌, ◌≤◌}
use mathlib.Core.Path.{◌≡◌}
use lib.ListN.{length}
use Rattle.rules.specs.Circuits.{outputs}
use Rattle.words.specs.Quadwords.{quadwords_in}
use Rattle.machine_circuits.specs.Layout.{gates_in}
use Rattle.machine_circuits.proofs.gates.wires_made.Given as goal

abbrev pub invariant-loop-i : goal.invariant-loop-i
invariant-loop-i l =
    (l.made ≤ 3 * l.i) × (l.made ≡ length (outputs (gates_in (quadwords_in l.gates) l.from l.i)))
