use Rattle.std.specs.Prelude.{◌+◌, ◌≤◌, ◌≡◌, length}
use Rattle.program.specs.Format.{kind_at}
use Rattle.words.specs.Words.{words}
use Rattle.words.specs.Regions.{over}
use Rattle.machine_load.specs.Trees.{values_from}
use Rattle.machine_load.proofs.load_kinds.Given as goal

abbrev pub invariant-loop-i : goal.invariant-loop-i
invariant-loop-i l =
    l.to + l.count ≤ length (words l.initial.types)
    → words l.types ≡ over (words l.initial.types) l.to (values_from (kind_at l.file) l.from l.i)
