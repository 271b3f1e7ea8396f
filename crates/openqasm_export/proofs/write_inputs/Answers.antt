-- `openqasm_export::write_inputs` meets its contract. Assumes nothing.
use borrow.Author.Rules.{rules}
use Prim.Native.Nat.{◌+◌, ◌*◌, ◌<◌}
use native.Mathlib.Omega.{arith}
use mathlib.Core.Path.{◌≡◌, refl, sym, ◌∙◌, ap, subst}
use mathlib.Core.List.{[], ◌∷◌, ◌++◌}
use lib.ListN.{set}
use Rattle.rules.specs.Types.{wire_code}
use Rattle.text.specs.Writing.{Puts}
use Rattle.listing.specs.Reading.{input_count, kind_at, input_type}
use Rattle.openqasm.specs.Layout.{declaration}
use Rattle.openqasm_export.specs.Places.{Begins}
use Rattle.openqasm_export.proofs.Laws.Places.{begins_more}
use Rattle.openqasm_export.proofs.Laws.Writing.{inputs_start, inputs_next, inputs_end}
use Rattle.openqasm_export.proofs.write_inputs.Goals as goal

pub loop-i-init : goal.loop-i-init
loop-i-init c = let a = c.args in ((refl, refl), inputs_start a.listing.now a.out.now.text.now a.out.now.at c.requires.0)

pub loop-i-preserved : goal.loop-i-preserved
loop-i-preserved c =
    let a = c.args in
    let b = a.listing.now in
    let s = c.loop-i in
    let below : s.i < input_count b = omega (arith, c.loop-i-test.true, c.input_count-i-end.ensures.value) in
    let kind = c.kind_at-kind.ensures.value in
    let byte : c.input_place.result ≡ 2 * s.i + wire_code (input_type (kind_at b s.i))
    = c.input_place.ensures ∙ ap (λ k. 2 * s.i + wire_code (input_type k)) kind in (
      (c.write_declaration.ensures.0 ∙ s.invariant.0.0, c.write_declaration.ensures.2 ∙ s.invariant.0.1),
      inputs_next b a.out.now.text.now a.out.now.at c.make_wire.new.table s.invariant.1 below
          (subst (λ k. Puts s.out.text.now s.out.at (declaration s.i (input_type k)) c.write_declaration.new.out.text.now c.write_declaration.new.out.at) kind c.write_declaration.ensures.1)
          (λ bytes here begun.
          subst (λ m. Begins m (bytes ++ ((2 * s.i + wire_code (input_type (kind_at b s.i))) ∷ [])))
          (sym (c.make_wire.ensures ∙ ap (set s.table s.i) byte))
          (begins_more s.i _ here (omega (arith, below, s.auto.table, c.requires.1.room, c.requires.1.few_inputs)) begun)),
    )

pub returns : goal.returns
returns c =
    let a = c.args in
    let r = inputs_end a.listing.now a.out.now.text.now a.out.now.at c.loop-i.invariant.1 (omega (arith, c.loop-i-test.false, c.input_count-i-end.ensures.value)) in
    record { puts = (c.loop-i.invariant.0.0, r.0, c.loop-i.invariant.0.1); begins = r.1 }
