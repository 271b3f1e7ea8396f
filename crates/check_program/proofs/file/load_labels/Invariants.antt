use mathlib.Core.Path.{◌≡◌}
use Rattle.words.specs.Words.{words}
use Rattle.check_program.specs.Loading.{bindings_loaded}
use Rattle.check_program.proofs.file.load_labels.Given as goal

abbrev pub invariant-loop-i : goal.invariant-loop-i
invariant-loop-i l = words l.work ≡ bindings_loaded l.file (words l.initial.work) l.i
