-- `listing_check::entries::any_wire` meets its contract: one of the slots from k on is tested true.
use Rattle.std.specs.Prelude.{◌+◌, ◌-◌, ◌*◌, not, eqb}
use Rattle.std.proofs.Common.{refl, ◌∙◌, rules, tests}
use Rattle.std.proofs.lemmas.Iterator.{YieldsList-from_range}
use Rattle.std.proofs.lemmas.Iterator.Search.{any_from_yields_List}
use Rattle.rules.specs.Slots.{no_wire}
use Rattle.words.specs.Numbers.{word_at}
use Rattle.listing.specs.Listing.{entry_slots}
use Rattle.listing_check.proofs.Laws.Entries.{any_slot}
use Rattle.listing_check.proofs.entries.any_wire.Goals as goal

pub returns : goal.returns
returns c =
    let a = c.args in
    any_from_yields_List (λ s. not (eqb (word_at a.listing.now (a.from + 2 * s)) no_wire)) _ _ c.any.result c.any.ensures.ran
    (YieldsList-from_range a.k entry_slots _ refl refl) (λ x b q k. search (rules, tests))
    ∙ any_slot a.listing.now a.from a.k (entry_slots - a.k)
