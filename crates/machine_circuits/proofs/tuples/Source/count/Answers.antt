-- `machine_circuits::tuples::Source::count` meets its contract. Assumes nothing.
use mathlib.Core.Path.{sym, ◌∙◌, ap}
use lib.ListN.{length}
use Rattle.words.proofs.Laws.Words.{length_words}
use Rattle.machine_circuits.specs.Tuples.{codes_of}
use Rattle.machine_circuits.proofs.Laws.Outputs.{entries_of_lem}
use Rattle.machine_circuits.proofs.tuples.Source.count.Goals as goal

pub returns-in-Section : goal.returns-in-Section
returns-in-Section c = sym (ap (λ s. length (codes_of s)) c.in-Section.is ∙ length_words c.in-Section.types.now)

pub returns-in-Gate : goal.returns-in-Gate
returns-in-Gate c =
    c.type_entries.ensures ∙ entries_of_lem c.in-Gate.number ∙ sym (ap (λ s. length (codes_of s)) c.in-Gate.is)
