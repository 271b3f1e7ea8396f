-- `openqasm_export::unwritten_entry` meets its contract. Assumes nothing.
use Rattle.std.proofs.Common.{rules, tests}
use Rattle.listing.specs.Reading.{input_count, gate_count}
use Rattle.openqasm_export.specs.Answers.{is_unwritten, first_unwritten}
use Rattle.openqasm_export.proofs.Laws.Statements.{find_is_first}
use Rattle.openqasm_export.proofs.unwritten_entry.Goals as goal

pub returns : goal.returns
unfolding first_unwritten
returns c =
    let b = c.args.listing.now in
    find_is_first (is_unwritten b) (input_count b) (gate_count b) _ _ _ c.find.result c.find.ensures.ran (search rules) (search rules)
    (λ x b q k. search (rules, tests))
