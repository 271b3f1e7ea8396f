use Rattle.std.specs.Prelude.{◌*◌, ◌≡◌}
use Rattle.machine_nodes.specs.Copying.{copied}
use Rattle.machine_nodes.proofs.copy_few.Given as goal

abbrev pub invariant-loop-i : goal.invariant-loop-i
invariant-loop-i l = l.nodes ≡ copied l.initial.nodes (4 * l.from) (4 * l.to) (4 * l.i)
