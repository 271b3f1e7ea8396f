-- `wire_table::take_wires` meets its contract. The loop's invariant: the wires so far were there and are gone, and the others are left.
use native.Mathlib.Omega.{arith}
use mathlib.Core.Path.{◌≡◌, sym, ◌∙◌, ap}
use mathlib.Core.Bool.{true, cond}
use lib.ListN.{set}
use borrow.Author.Tests.{tests}
use Rattle.rules.specs.Gates.{gate_type, input_wires, wires_in}
use Rattle.rules.specs.Slots.{gate_slot_count}
use Rattle.rules.specs.GateCodes.{taken_code}
use Rattle.rules.proofs.Laws.KnownGates.{few_wires}
use Rattle.wire_table.proofs.Laws.Table.{all_left, taken_more, taken_wrong, taken_all}
use borrow.Author.Rules.{rules}
use Rattle.wire_table.proofs.take_wires.Goals as goal

pub loop-needed-init : goal.loop-needed-init
unfolding taken_code
loop-needed-init c = all_left c.args.source.now c.args.from (input_wires (gate_type c.args.gate)) c.args.table.now c.taken_code-needed.result c.taken_code-needed.ensures

pub returns-then-not-take_wire : goal.returns-then-not-take_wire
unfolding wires_in
returns-then-not-take_wire c = λ types gone h.
    taken_wrong c.loop-needed.invariant (omega (arith, c.loop-needed-test.true)) c.take_wire.new.table c.word_at.result c.word_at.ensures.value
    (sym c.take_wire.ensures.value ∙ search (rules, tests)) types gone h

pub overflow_add-at : goal.overflow_add-at
unfolding wires_in
overflow_add-at c =
    let few = (few_wires gate_slot_count tt c.args.gate).0 in
    search (rules, c.loop-needed.invariant.place, few, c.requires)

pub loop-needed-preserved : goal.loop-needed-preserved
loop-needed-preserved c =
    let right : c.take_wire.result ≡ true = search (rules, tests) in
    taken_more c.loop-needed.invariant (omega (arith, c.loop-needed-test.true)) c.take_wire.new.table c.word_at.result c.word_at.ensures.value
    (sym c.take_wire.ensures.value ∙ right)
    (c.take_wire.ensures.table_after ∙ ap (λ t. cond t (set c.loop-needed.table c.word_at.result 0) c.loop-needed.table) right)

pub returns : goal.returns
unfolding wires_in
returns c = λ types gone h. taken_all c.loop-needed.invariant (omega (arith, c.loop-needed-test.false)) types gone h
