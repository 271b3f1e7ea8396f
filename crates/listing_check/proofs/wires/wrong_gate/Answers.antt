-- `listing_check::wires::wrong_gate` meets its contract. The loop's invariant: the first gates took their wires rightly, and the table
-- has the wires that are there after them.
use Prim.Native.Nat.{◌+◌, ◌*◌, ◌≤◌, ◌<◌}
use native.Mathlib.Omega.{arith}
use mathlib.Core.Path.{◌≡◌, ap, subst}
use mathlib.Core.List.{◌++◌}
use lib.ListN.{length}
use borrow.Author.Tests.{tests}
use borrow.Author.Rules.{rules}
use Rattle.rules.specs.Gates.{gate_type, gate_outputs, input_wires, wires_in, wires_out}
use Rattle.rules.specs.Circuits.{outputs, taken}
use Rattle.words.specs.Numbers.{words_at}
use Rattle.listing.specs.Listing.{entry_slots}
use Rattle.listing.specs.Reading.{input_count, gate_count, slots_from, inputs_of, first_gates}
use Rattle.wire_table.specs.Table.{TakesAll, MakesAll}
use Rattle.listing_check.proofs.Laws.Wires.{GateTakes, gate_kind_is, gates_start, gate_right, gate_wrong, gates_end, few_made, one_more_gate}
use Rattle.listing_check.proofs.wires.wrong_gate.Goals as goal

pub loop-i-init : goal.loop-i-init
loop-i-init c =
    let b = c.args.listing.now in
    gates_start b c.args.table.now c.input_count-inputs.result c.input_count-inputs.ensures.value c.requires.0

pub returns-then-not-take_wires : goal.returns-then-not-take_wires
returns-then-not-take_wires c =
    let b = c.args.listing.now in
    let s = c.loop-i in
    let kind = gate_kind_is b s.i c.kind_at-gate.ensures.value c.input_count-inputs.ensures.value in
    let from = c.slots_from-from.result + 2 * entry_slots * s.i in
    let here : from ≡ slots_from b (input_count b + s.i) = omega (arith, c.slots_from-from.ensures.value (omega (arith, c.input_count-inputs.ensures)), c.input_count-inputs.ensures.value) in
    let takes : GateTakes b s.i from c.take_wires.new.table c.take_wires.result
    = subst (λ n. TakesAll (inputs_of b ++ outputs (first_gates b s.i)) (taken (first_gates b s.i)) (words_at b from (wires_in n)) (input_wires (gate_type n)) c.take_wires.new.table c.take_wires.result) kind
    (c.take_wires.ensures _ _ s.invariant.held) in
    gate_wrong b s.i s.made s.table _ from here s.invariant c.take_wires.result takes _
    (omega (arith, c.loop-i-test.true, c.gate_count-i-end.ensures.value)) (search (rules, tests))

pub make_wires-made-requires : goal.make_wires-made-requires
make_wires-made-requires c = omega (arith, c.loop-i.invariant.made_is, few_made c.args.listing.now c.loop-i.i, c.loop-i-test.true, c.input_count-inputs.ensures, c.gate_count-i-end.ensures)

pub loop-i-preserved : goal.loop-i-preserved
loop-i-preserved c =
    let b = c.args.listing.now in
    let s = c.loop-i in
    let kind = gate_kind_is b s.i c.kind_at-gate.ensures.value c.input_count-inputs.ensures.value in
    let from = c.slots_from-from.result + 2 * entry_slots * s.i in
    let here : from ≡ slots_from b (input_count b + s.i) = omega (arith, c.slots_from-from.ensures.value (omega (arith, c.input_count-inputs.ensures)), c.input_count-inputs.ensures.value) in
    let takes : GateTakes b s.i from c.take_wires.new.table c.take_wires.result
    = subst (λ n. TakesAll (inputs_of b ++ outputs (first_gates b s.i)) (taken (first_gates b s.i)) (words_at b from (wires_in n)) (input_wires (gate_type n)) c.take_wires.new.table c.take_wires.result) kind
    (c.take_wires.ensures _ _ s.invariant.held) in
    let p = c.requires.1 in
    let few = few_made b (s.i + 1) in
    let below : s.i < gate_count b = omega (arith, c.loop-i-test.true, c.gate_count-i-end.ensures.value) in
    let more = one_more_gate b s.i in
    let same = ap wires_out kind in
    let room : s.made + wires_out c.kind_at-gate.result ≤ length c.take_wires.new.table
    = omega (arith, few, more, same, s.invariant.made_is, c.take_wires.auto.table, s.auto.table, p.room, p.few_inputs, p.few_gates, below) in
    gate_right b s.i s.made s.table _ from here s.invariant c.take_wires.result takes _ _
    (search (rules, tests))
    (λ types gone h e. subst (λ n. MakesAll types gone (gate_outputs n) c.make_wires-made.new.table c.make_wires-made.result) kind (c.make_wires-made.ensures types gone h e room))

pub returns : goal.returns
returns c =
    let b = c.args.listing.now in
    let s = c.loop-i in
    gates_end b s.table s.i s.made (omega (arith, c.loop-i-test.false, c.gate_count-i-end.ensures.value)) s.invariant
