-- `openqasm_export::places::place_at` meets its contract. Assumes nothing.
use mathlib.Core.Path.{sym, ◌∙◌, ap}
use lib.ListN.{get_or}
use Rattle.openqasm_export.proofs.Laws.Places.{word_mapped, none_mapped}
use Rattle.openqasm_export.proofs.places.place_at.Goals as goal

pub returns-then-slot-count-clause-value : goal.returns-then-slot-count-clause-value
returns-then-slot-count-clause-value c =
    let a = c.args in
    let m = a.table.now in
    c.byte_at.ensures ∙ ap (λ w. get_or m w 0) c.word_at.ensures.value
    ∙ sym (word_mapped (λ w. get_or m w 0) a.listing.now a.count a.slot a.from c.if-slot-count.true)

pub returns-clause-value : goal.returns-clause-value
returns-clause-value c =
    let a = c.args in sym (none_mapped (λ w. get_or a.table.now w 0) a.listing.now a.count a.slot a.from c.if-slot-count.false)
