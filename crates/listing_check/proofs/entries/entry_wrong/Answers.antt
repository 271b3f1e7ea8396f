-- `listing_check::entries::entry_wrong` meets its contract: by the kind, and by the slots that the entry does not use.
use Prim.Native.Nat.{◌-◌, ◌≤◌}
use native.Mathlib.Omega.{arith}
use mathlib.Core.Path.{sym, ◌∙◌, ap, ap₂, subst}
use mathlib.Core.Bool.{◌||◌}
use lib.Dec.{eqb}
use Rattle.rules.specs.Types.{Bit, Qubit}
use Rattle.rules.specs.Gates.{is_gate, wires_in}
use Rattle.listing.specs.Listing.{input_kind, entry_slots}
use Rattle.listing.proofs.Laws.ReadBack.{wires_fit}
use Rattle.listing_check.specs.Answers.{any_wire}
use Rattle.listing_check.proofs.Laws.Entries.{known_input, no_input, known_gate, no_gate_there}
use Rattle.listing_check.proofs.entries.entry_wrong.Goals as goal

pub returns-then-is_input : goal.returns-then-is_input
returns-then-is_input c =
    let a = c.args in
    let b = a.listing.now in
    c.any_wire.ensures ∙ ap (λ from. any_wire b from 0 (entry_slots - 0)) c.requires.1
    ∙ sym (known_input b a.i (omega (arith, c.if-i-inputs.true, c.requires.0)) (ap (λ k. eqb k (input_kind Bit) || eqb k (input_kind Qubit)) (sym c.kind_at-kind.ensures.value) ∙ sym c.is_input.ensures ∙ c.if-is_input.true))

pub returns-then-i-inputs : goal.returns-then-i-inputs
returns-then-i-inputs c =
    let a = c.args in
    let b = a.listing.now in
    sym (no_input b a.i (omega (arith, c.if-i-inputs.true, c.requires.0)) (ap (λ k. eqb k (input_kind Bit) || eqb k (input_kind Qubit)) (sym c.kind_at-kind.ensures.value) ∙ sym c.is_input.ensures ∙ c.if-is_input.false))

pub any_wire-requires-then-is_gate : goal.any_wire-requires-then-is_gate
any_wire-requires-then-is_gate c = (c.requires.2, subst (λ k. k ≤ entry_slots) (sym c.wires_in.ensures) (wires_fit _))

pub returns-then-is_gate : goal.returns-then-is_gate
returns-then-is_gate c =
    let a = c.args in
    let b = a.listing.now in
    let used = c.wires_in.ensures ∙ ap wires_in c.kind_at-kind.ensures.value in
    c.any_wire-then-is_gate.ensures ∙ ap₂ (λ from k. any_wire b from k (entry_slots - k)) c.requires.1 used
    ∙ sym (known_gate b a.i (omega (arith, c.if-i-inputs.false, c.requires.0)) (ap is_gate (sym c.kind_at-kind.ensures.value) ∙ sym c.is_gate.ensures ∙ c.if-is_gate.true))

pub returns : goal.returns
returns c =
    let a = c.args in
    let b = a.listing.now in
    sym (no_gate_there b a.i (omega (arith, c.if-i-inputs.false, c.requires.0)) (ap is_gate (sym c.kind_at-kind.ensures.value) ∙ sym c.is_gate.ensures ∙ c.if-is_gate.false))
