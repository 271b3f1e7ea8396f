-- `listing_check::entries::wrong_entry` meets its contract.
use Rattle.std.proofs.Common.{refl, rules, tests}
use Rattle.listing.specs.Reading.{entry_count}
use Rattle.wire_table.proofs.Laws.Scans.{find_is_first}
use Rattle.listing_check.specs.Answers.{entry_wrong}
use Rattle.listing_check.proofs.entries.wrong_entry.Goals as goal

pub returns : goal.returns
returns c =
    let b = c.args.listing.now in
    find_is_first (entry_wrong b) (entry_count b) _ _ _ c.find.result c.find.ensures.ran refl (search rules)
    (λ x b q k. search (rules, tests))
