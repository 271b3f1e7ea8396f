-- `openqasm_parts::read_gates` meets its contract. Assumes nothing.
use Prim.Native.Nat.{◌-◌}
use native.Mathlib.Omega.{arith}
use mathlib.Core.Path.{◌≡◌, sym, ◌∙◌, subst}
use Rattle.rules.specs.Sizes.{most_labels, most_gates}
use Rattle.openqasm_parts.specs.Stored.{GatesRead}
use Rattle.openqasm_parts.proofs.Laws.Registers.{wires_taken_lem}
use Rattle.openqasm_parts.proofs.Laws.Stored.{gates_start, gate_next, gates_stop}
use Rattle.openqasm_parts.proofs.read_gates.Goals as goal

pub loop-i-init : goal.loop-i-init
loop-i-init c =
    let p = c.requires in gates_start most_gates p.3 p.2

pub returns-then-not-is_gate : goal.returns-then-not-is_gate
returns-then-not-is_gate c = (
  c.loop-i.made,
  gates_stop c.read_item-item.result
      c.loop-i.invariant c.read_item-item.ensures.0 (sym
      c.is_gate.ensures ∙ c.if-not-is_gate.true),
)

pub loop-i-preserved : goal.loop-i-preserved
loop-i-preserved c =
    let s = c.loop-i in
    let r = c.read_item-item.ensures in
    let below = c.loop-i-test.true in
    let known = sym c.is_gate.ensures ∙ c.if-not-is_gate.false in
    let few = s.invariant.few_inputs in
    let p = c.requires in
    let put = c.put_entry in
    let h = c.hold_wires-made in
    gate_next c.read_item-item.result s.invariant (omega (arith, below)) r.0 known r.1.length_small
    (omega (arith, below, few, s.auto.kinds, p.0))
    (omega (arith, below, few, s.auto.slots, p.1))
    c.wires_in-count.ensures
    c.slot_wire-first.ensures.value
    c.slot_wire-second.ensures.value
    c.slot_wire-third.ensures.value
    put.ensures.adds_kinds
    put.ensures.adds_slots
    h.ensures.value
    h.ensures.held_after

pub hold_wires-made-requires : goal.hold_wires-made-requires
hold_wires-made-requires c =
    let counted = c.wires_in-count.ensures in
    let s = c.loop-i.invariant in
    let known = sym c.is_gate.ensures ∙ c.if-not-is_gate.false in
    let takes = wires_taken_lem c.read_item-item.result _ c.read_item-item.ensures.0 known in (
      omega (arith, counted, takes.0),
      omega (arith, counted, takes.1),
      omega (arith, c.loop-i-test.true, s.few_inputs, s.few_made),
    )

pub returns : goal.returns
returns c =
    let s = c.loop-i in
    let a = c.args in
    let all : s.i ≡ most_gates = omega (arith, c.loop-i-test.false) in (
      s.made,
      subst (λ k. GatesRead most_labels most_gates (most_gates - k) a.text.now s.here a.inputs k s.made s.held
          s.kinds s.slots) all s.invariant,
    )
