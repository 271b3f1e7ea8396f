-- `wire_table::lowest_there` meets its contract.
use Rattle.std.specs.Prelude.{ltb, get_or}
use Rattle.std.proofs.Common.{refl, rules, tests}
use Rattle.wire_table.proofs.Laws.Scans.{find_is_first}
use Rattle.wire_table.proofs.lowest_there.Goals as goal

pub returns : goal.returns
returns c =
    find_is_first (λ w. ltb 0 (get_or c.args.table.now w 0)) c.args.count _ _ _ c.find.result c.find.ensures.ran refl refl
    (λ x b q k. search (rules, tests))
