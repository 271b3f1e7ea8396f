-- `wire_table::make_wires` meets its contract. The loop's invariant: the table has the wires made so far, and the others are left.
use Rattle.rules.specs.Gates.{gate_outputs, wires_out}
use Rattle.rules.specs.Slots.{gate_slot_count}
use Rattle.rules.specs.GateCodes.{made_code}
use Rattle.rules.proofs.Laws.KnownGates.{few_wires}
use Rattle.wire_table.proofs.Laws.Table.{none_made, made_more, all_made}
use borrow.Author.Rules.{rules}
use Rattle.wire_table.proofs.make_wires.Goals as goal

pub loop-codes-init : goal.loop-codes-init
unfolding made_code
loop-codes-init c = none_made (gate_outputs c.args.gate) c.args.table.now c.args.made c.made_code-codes.result c.made_code-codes.ensures

pub overflow_add-next : goal.overflow_add-next
unfolding wires_out
overflow_add-next c =
    let few = (few_wires gate_slot_count tt c.args.gate).1 in
    search (rules, c.loop-codes.invariant.place, few, c.requires)

pub loop-codes-preserved : goal.loop-codes-preserved
loop-codes-preserved c = made_more c.loop-codes.invariant c.make_wire.new.table c.loop-codes-test.true c.loop-codes.auto.table c.make_wire.ensures

pub returns : goal.returns
unfolding wires_out
returns c = λ types gone h e room. all_made c.loop-codes.invariant c.loop-codes-test.false types gone h e room
