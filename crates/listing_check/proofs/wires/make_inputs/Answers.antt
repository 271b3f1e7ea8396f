-- `listing_check::wires::make_inputs` meets its contract. The loop's invariant: the first inputs are made, the others are left.
use Prim.Native.Nat.{◌-◌, ◌<◌}
use native.Mathlib.Omega.{arith}
use mathlib.Core.Path.{◌≡◌, refl, ◌∙◌, ap, subst}
use mathlib.Core.List.{[]}
use mathlib.Core.Option.{some}
use Rattle.listing.specs.Reading.{input_count, kind_at, input_type, inputs_from, inputs_of}
use Rattle.wire_table.specs.Table.{wire_byte}
use Rattle.wire_table.proofs.Laws.Table.{Making, making_start, making_next, making_end}
use Rattle.listing_check.proofs.Laws.Wires.{next_input}
use Rattle.listing_check.proofs.wires.make_inputs.Goals as goal

pub loop-i-init : goal.loop-i-init
loop-i-init c =
    let a = c.args in
    let e : input_count a.listing.now ≡ input_count a.listing.now - 0 = omega arith in
    subst (λ k. Making [] [] (inputs_of a.listing.now) a.table.now 0 (inputs_from a.listing.now 0 k)) e (making_start refl c.requires.0)

pub loop-i-preserved : goal.loop-i-preserved
loop-i-preserved c =
    let a = c.args in
    let b = a.listing.now in
    let s = c.loop-i in
    let L = input_count b in
    let below : s.i < L = omega (arith, c.loop-i-test.true, c.input_count-i-end.ensures.value) in
    let byte : c.input_byte.result ≡ wire_byte (some (input_type (kind_at b s.i))) = c.input_byte.ensures ∙ ap (λ k. wire_byte (some (input_type k))) c.kind_at.ensures.value in
    making_next c.make_wire.new.table c.input_byte.result byte (omega (arith, below, s.auto.table, c.requires.1.room, c.requires.1.few_inputs)) c.make_wire.ensures
    (subst (λ l. Making [] [] (inputs_of b) s.table s.i l) (next_input b L s.i below) s.invariant)

pub returns : goal.returns
returns c =
    let a = c.args in
    let b = a.listing.now in
    let s = c.loop-i in
    let done : input_count b - s.i ≡ 0 = omega (arith, c.loop-i-test.false, c.input_count-i-end.ensures.value) in
    (making_end (subst (λ k. Making [] [] (inputs_of b) s.table s.i (inputs_from b s.i k)) done s.invariant)).holds
