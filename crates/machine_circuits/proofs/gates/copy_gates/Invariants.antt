use Prim.Native.Nat.{ℕ}
use lib.ListN.{length}
use Rattle.words.specs.Words.{words}
use Rattle.words.specs.Quadwords.{quadwords_in}
use Rattle.machine_circuits.specs.Copies.{CopyFits, renamed_words}
use Rattle.machine_circuits.specs.Renamings.{labels_of}
use Rattle.machine_circuits.proofs.Laws.Copies.{GatesWritten}
use Rattle.machine_circuits.proofs.gates.copy_gates.Given as goal

abbrev pub invariant-loop-i : goal.invariant-loop-i
invariant-loop-i l =
    let r = l.renaming in (m : ℕ)
    → CopyFits (quadwords_in l.initial.gates) l.from l.count l.to (length (words r.labels.now)) r.inputs r.next m
    → GatesWritten (renamed_words (labels_of r) r.next) (quadwords_in l.initial.gates) (quadwords_in l.gates) l.from l.to l.i
