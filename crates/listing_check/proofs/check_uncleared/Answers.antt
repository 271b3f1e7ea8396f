-- `listing_check::check_uncleared` meets its contract: the sizes, the entries, the wires. Assumes nothing.
use Rattle.std.proofs.Common.{sym, ◌∙◌}
use Rattle.listing_check.proofs.Laws.Answering.{short_answered, sizes_answered, entry_answered, wires_answered}
use Rattle.listing_check.proofs.check_uncleared.Goals as goal

pub returns-then-work-lt-LEAST_WORK : goal.returns-then-work-lt-LEAST_WORK
returns-then-work-lt-LEAST_WORK c = c.refused.ensures ∙ short_answered c.args.listing.now c.args.work.now c.if-work-lt-LEAST_WORK.true

pub returns-then-sizes_wrong : goal.returns-then-sizes_wrong
returns-then-sizes_wrong c = c.refused-then-sizes_wrong.ensures ∙ sizes_answered c.args.listing.now c.args.work.now c.if-work-lt-LEAST_WORK.false (sym c.sizes_wrong.ensures ∙ c.if-sizes_wrong.true)

pub returns-in-Some : goal.returns-in-Some
returns-in-Some c = c.refused-in-Some.ensures ∙ entry_answered c.args.listing.now c.args.work.now c.if-work-lt-LEAST_WORK.false (sym c.sizes_wrong.ensures ∙ c.if-sizes_wrong.false) c.wrong_entry.result c.wrong_entry.ensures c.in-Some.is

pub returns : goal.returns
returns c = wires_answered c.args.listing.now c.args.work.now c.if-work-lt-LEAST_WORK.false (sym c.sizes_wrong.ensures ∙ c.if-sizes_wrong.false) c.wrong_entry.result c.wrong_entry.ensures c.check_wires.result c.in_default.is c.check_wires.ensures
