-- `openqasm_parts::read_outputs` meets its contract. Assumes nothing.
use borrow.Author.Rules.{rules}
use Prim.Native.Nat.{◌-◌}
use native.Mathlib.Omega.{arith}
use mathlib.Core.Path.{◌≡◌, ap, subst}
use lib.Dec.{eqb}
use borrow.Author.Tests.{ne_eqb}
use Rattle.rules.specs.Sizes.{most_labels, most_gates}
use Rattle.listing.specs.Listing.{most_outputs}
use Rattle.openqasm_parts.specs.Stored.{OutputsRead}
use Rattle.openqasm_parts.proofs.Laws.Stored.{puts_word, outputs_start, output_next, outputs_stop}
use Rattle.openqasm_parts.proofs.read_outputs.Goals as goal

pub loop-i-init : goal.loop-i-init
loop-i-init c = λ kinds made g. outputs_start most_outputs g

pub returns-then-item-ne-OUTPUT_ITEM : goal.returns-then-item-ne-OUTPUT_ITEM
returns-then-item-ne-OUTPUT_ITEM c =
    let s = c.loop-i in
    λ kinds made g. (
      s.here,
      outputs_stop c.read_item-item.result (s.invariant kinds made g)
          c.read_item-item.ensures.0 (ne_eqb c.read_item-item.result.kind 130 c.if-item-ne-OUTPUT_ITEM.true),
    )

pub overflow_add-here-in-loop-i : goal.overflow_add-here-in-loop-i
overflow_add-here-in-loop-i c =
    let g = c.requires.1 in
    let w = c.loop-i.invariant g.0 g.1 g.2 in
    search (rules, w.near, w.few_inputs, w.few_gates, c.read_item-item.ensures.1.length_small, c.loop-i-test.true)

pub put_slot-requires : goal.put_slot-requires
put_slot-requires c =
    let g = c.requires.1 in
    let w = c.loop-i.invariant g.0 g.1 g.2 in
    (c.wire_in.ensures.upper_bound, omega (arith, w.few_inputs, w.few_gates, c.loop-i-test.true, c.loop-i.auto.slots, c.requires.0))

pub loop-i-preserved : goal.loop-i-preserved
loop-i-preserved c =
    let s = c.loop-i in
    let r = c.read_item-item.ensures in
    let below = c.loop-i-test.true in
    λ kinds made g.
    let w = s.invariant kinds made g in
    output_next c.read_item-item.result w (omega (
      arith,
      below,
    )) r.0 (ap (λ k. eqb k 130) c.if-item-ne-OUTPUT_ITEM.false)
    r.1.length_small
    (omega (
      arith,
      below,
      w.few_inputs,
      w.few_gates,
      s.auto.slots,
      c.requires.0,
    ))
    c.wire_in.ensures.value
    (puts_word c.wire_in.result c.put_slot.ensures)

pub returns : goal.returns
returns c =
    let s = c.loop-i in
    let a = c.args in
    let all : s.i ≡ most_outputs = omega (arith, c.loop-i-test.false) in
    λ kinds made g. (
      s.here,
      subst (λ k. OutputsRead most_labels most_gates most_outputs (most_outputs - k) a.text.now s.here a.inputs
          a.gates k a.held.now kinds s.slots) all (s.invariant kinds made g),
    )
