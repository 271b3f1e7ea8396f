use Prim.Native.Nat.{◌-◌}
use mathlib.Core.Path.{◌≡◌}
use Rattle.words.specs.Words.{words}
use Rattle.check_program.specs.Deciding.{wrong_use}
use Rattle.check_program.proofs.file.wrong_label.Given as goal

abbrev pub invariant-loop-i : goal.invariant-loop-i
invariant-loop-i l = wrong_use (words l.work) 0 l.labels ≡ wrong_use (words l.work) l.i (l.labels - l.i)
