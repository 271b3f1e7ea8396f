-- `openqasm_export::write_names` meets its contract. Assumes nothing.
use borrow.Author.Rules.{rules}
use Prim.Native.Nat.{◌+◌, ◌*◌, ◌<◌}
use native.Mathlib.Omega.{arith}
use mathlib.Core.Path.{refl, ◌∙◌, ap}
use lib.ListN.{get_or}
use Rattle.words.specs.Numbers.{word_at}
use Rattle.listing.specs.Reading.{output_count}
use Rattle.openqasm_export.proofs.Laws.Writing.{outputs_start, outputs_next, outputs_end}
use Rattle.openqasm_export.proofs.write_names.Goals as goal

pub loop-j-init : goal.loop-j-init
loop-j-init c = let a = c.args in ((refl, refl), λ written begun. outputs_start a.listing.now a.out.now.text.now a.out.now.at)

pub loop-j-preserved : goal.loop-j-preserved
loop-j-preserved c =
    let a = c.args in
    let b = a.listing.now in
    let s = c.loop-j in
    let below : s.j < output_count b = omega (arith, c.loop-j-test.true, c.output_count-j-end.ensures.value) in (
      (c.write_output.ensures.0 ∙ s.invariant.0.0, c.write_output.ensures.2 ∙ s.invariant.0.1),
      λ written begun. outputs_next b a.out.now.text.now a.out.now.at c.byte_at-place.result (s.invariant.1 written begun) written begun below
          (c.byte_at-place.ensures ∙ ap (λ w. get_or a.table.now w 0) (c.word_at.ensures.value ∙ ap (λ n. word_at b (n + 2 * s.j)) c.outputs_from-from.ensures.value))
          c.write_output.ensures.1,
    )

pub returns : goal.returns
returns c =
    let a = c.args in
    record {
      same_text = c.loop-j.invariant.0;
      puts = λ written begun. outputs_end a.listing.now a.out.now.text.now a.out.now.at (c.loop-j.invariant.1 written begun) (omega (arith, c.loop-j-test.false, c.output_count-j-end.ensures.value));
    }
