-- `listing_check::check_listing` meets its contract: 19, or the core and then the clearing. Assumes nothing.
use mathlib.Core.Path.{◌∙◌}
use Rattle.listing_check.proofs.Laws.Answering.{short_answered, short_untouched, long_cleared}
use Rattle.listing_check.proofs.Theorems.Listings.{listing_means}
use Rattle.listing_check.proofs.check_listing.Goals as goal

pub returns-then-work-lt-LEAST_WORK : goal.returns-then-work-lt-LEAST_WORK
returns-then-work-lt-LEAST_WORK c =
    let a = c.args in
    let b = a.listing.now in
    record {
      answer = c.refused.ensures ∙ short_answered b a.work.now c.if-work-lt-LEAST_WORK.true;
      bytes = short_untouched b a.work.now c.if-work-lt-LEAST_WORK.true;
      meaning = listing_means b (λ j. (c.type_inv.listing j).fits);
    }

pub returns : goal.returns
returns c =
    let a = c.args in
    let b = a.listing.now in
    record {
      answer = c.check_uncleared-answer.ensures;
      bytes = long_cleared b a.work.now c.clear.new.memory _ c.if-work-lt-LEAST_WORK.false c.clear.ensures c.check_uncleared-answer.auto.work;
      meaning = listing_means b (λ j. (c.type_inv.listing j).fits);
    }
