-- `listing_check::wires::maker_of` meets its contract. The loop's invariant: the inputs and the first gates did not make the wire.
use Prim.Native.Nat.{◌+◌}
use native.Mathlib.Omega.{arith}
use mathlib.Core.Path.{◌∙◌, ap}
use mathlib.Core.List.{[]}
use lib.ListN.{length-append}
use Rattle.rules.specs.Gates.{wires_out}
use Rattle.listing.specs.Reading.{input_count, inputs_of}
use Rattle.listing.proofs.Laws.Decoding.{length_inputs}
use Rattle.listing_check.proofs.Laws.Wires.{gate_kind_is, few_made, one_more_gate, input_made, gate_made}
use borrow.Author.Rules.{rules}
use Rattle.listing_check.proofs.wires.maker_of.Goals as goal

pub returns-then-w-inputs : goal.returns-then-w-inputs
returns-then-w-inputs c = input_made c.args.listing.now c.args.w (omega (arith, c.if-w-inputs.true, c.input_count-inputs.ensures.value))

pub loop-i-init : goal.loop-i-init
loop-i-init c =
    let b = c.args.listing.now in
    (omega (arith, c.input_count-inputs.ensures.value, length-append (inputs_of b) [], length_inputs b 0 (input_count b)), c.if-w-inputs.false)

pub returns-then-w-made : goal.returns-then-w-made
returns-then-w-made c =
    let b = c.args.listing.now in
    let s = c.loop-i in
    let kind = c.wires_out-made.ensures ∙ ap wires_out (gate_kind_is b s.i c.kind_at.ensures.value c.input_count-inputs.ensures.value) in
    omega (
      arith,
      c.input_count-inputs.ensures.value,
      gate_made b c.args.w s.i (omega (arith, c.loop-i-test.true, c.gate_count-i-end.ensures.value)) (omega (arith, s.invariant.0, s.invariant.1))
          (omega (arith, c.if-w-made.true, kind, s.invariant.0, one_more_gate b s.i)),
    )

pub loop-i-preserved : goal.loop-i-preserved
loop-i-preserved c =
    let b = c.args.listing.now in
    let s = c.loop-i in
    let kind = c.wires_out-made.ensures ∙ ap wires_out (gate_kind_is b s.i c.kind_at.ensures.value c.input_count-inputs.ensures.value) in
    (omega (arith, kind, s.invariant.0, one_more_gate b s.i), c.if-w-made.false)

pub overflow_add-made : goal.overflow_add-made
overflow_add-made c =
    let b = c.args.listing.now in
    let s = c.loop-i in
    let kind = c.wires_out-made.ensures ∙ ap wires_out (gate_kind_is b s.i c.kind_at.ensures.value c.input_count-inputs.ensures.value) in
    let few = few_made b (s.i + 1) in
    let more = one_more_gate b s.i in
    search (rules, kind, few, more, s.invariant.0, c.loop-i-test.true, c.input_count-inputs.ensures, c.gate_count-i-end.ensures)
