-- `openqasm_parts::read_inputs` meets its contract. Assumes nothing.
use Prim.Native.Nat.{◌-◌}
use native.Mathlib.Omega.{arith}
use mathlib.Core.Path.{◌≡◌, sym, ◌∙◌, subst}
use Rattle.rules.specs.Sizes.{most_labels}
use Rattle.openqasm_parts.specs.Stored.{InputsRead}
use Rattle.openqasm_parts.proofs.Laws.Stored.{inputs_start, input_next, inputs_stop}
use Rattle.openqasm_parts.proofs.read_inputs.Goals as goal

pub loop-i-init : goal.loop-i-init
loop-i-init c =
    let a = c.args in inputs_start most_labels a.text.now a.kinds.now a.slots.now

pub returns-then-not-is_input : goal.returns-then-not-is_input
returns-then-not-is_input c =
    inputs_stop c.read_item-item.result c.loop-i.invariant
    c.read_item-item.ensures.0 (sym c.is_input.ensures ∙ c.if-not-is_input.true)

pub loop-i-preserved : goal.loop-i-preserved
loop-i-preserved c =
    let s = c.loop-i in
    let r = c.read_item-item.ensures in
    let below = c.loop-i-test.true in
    input_next c.read_item-item.result s.invariant
    (omega (arith, below)) r.0 (sym
    c.is_input.ensures ∙ c.if-not-is_input.false) r.1.length_small
    (omega (
      arith,
      below,
      s.auto.kinds,
      c.requires.0,
    ))
    (omega (
      arith,
      below,
      s.auto.slots,
      c.requires.1,
    ))
    c.put_entry.ensures.adds_kinds
    c.put_entry.ensures.adds_slots

pub returns : goal.returns
returns c =
    let s = c.loop-i in
    let all : s.i ≡ most_labels = omega (arith, c.loop-i-test.false) in
    subst (λ k. InputsRead most_labels (most_labels - k) c.args.text.now s.at k s.kinds s.slots) all s.invariant
