-- `listing_check::wires::wrong_output` meets its contract. The loop's invariant: the outputs so far were there and are gone, and the
-- others are left.
use Prim.Native.Nat.{◌+◌, ◌-◌, ◌*◌, ◌<◌}
use native.Mathlib.Omega.{arith}
use mathlib.Core.Path.{◌≡◌, sym, ◌∙◌, ap, ap₂, subst}
use mathlib.Core.Bool.{true, false, cond}
use lib.Dec.{ltb}
use lib.ListN.{get_or, set}
use borrow.Author.Tests.{tests}
use borrow.Author.Rules.{rules}
use Rattle.words.specs.Numbers.{word_at, words_at}
use Rattle.listing.specs.Reading.{output_count, outputs_from, outputs_of}
use Rattle.listing.proofs.Laws.Decoding.{length_words}
use Rattle.wire_table.proofs.Laws.Table.{next_word}
use Rattle.listing_check.proofs.Laws.Wires.{Leaving, leaving_start, leaving_next, leaving_wrong, leaving_end}
use Rattle.listing_check.proofs.wires.wrong_output.Goals as goal

pub loop-j-init : goal.loop-j-init
loop-j-init c =
    let b = c.args.listing.now in
    let e : outputs_from b ≡ outputs_from b + 2 * 0 = omega arith in
    let f : output_count b ≡ output_count b - 0 = omega arith in
    λ types gone h. subst (λ l. Leaving types gone (outputs_of b) c.args.table.now 0 l) (ap₂ (words_at b) e f) (leaving_start h)

pub returns-then-not-take_any : goal.returns-then-not-take_any
returns-then-not-take_any c = λ types gone h.
    let b = c.args.listing.now in
    let s = c.loop-j in
    let below : s.j < output_count b = omega (arith, c.loop-j-test.true, c.output_count-j-end.ensures.value) in
    let wrong : c.take_any.result ≡ false = search (rules, tests) in
    let w : c.word_at.result ≡ word_at b (outputs_from b + 2 * s.j) = c.word_at.ensures.value ∙ ap (λ k. word_at b (k + 2 * s.j)) c.outputs_from-from.ensures.value in
    leaving_wrong (subst (λ l. Leaving types gone (outputs_of b) s.table s.j l) (next_word b (outputs_from b) (output_count b) s.j below) (s.invariant types gone h)) _
    (ap (λ v. ltb 0 (get_or s.table v 0)) (sym w) ∙ sym c.take_any.ensures.value ∙ wrong) (omega (arith, below, length_words b (outputs_from b) (output_count b)))

pub loop-j-preserved : goal.loop-j-preserved
loop-j-preserved c =
    let b = c.args.listing.now in
    let s = c.loop-j in
    let below : s.j < output_count b = omega (arith, c.loop-j-test.true, c.output_count-j-end.ensures.value) in
    let right : c.take_any.result ≡ true = search (rules, tests) in
    let w : c.word_at.result ≡ word_at b (outputs_from b + 2 * s.j) = c.word_at.ensures.value ∙ ap (λ k. word_at b (k + 2 * s.j)) c.outputs_from-from.ensures.value in
    λ types gone h.
    leaving_next (subst (λ l. Leaving types gone (outputs_of b) s.table s.j l) (next_word b (outputs_from b) (output_count b) s.j below) (s.invariant types gone h)) _
    (ap (λ v. ltb 0 (get_or s.table v 0)) (sym w) ∙ sym c.take_any.ensures.value ∙ right)
    (c.take_any.ensures.table_after ∙ ap₂ (λ t v. cond t (set s.table v 0) s.table) right w)

pub returns : goal.returns
returns c = λ types gone h.
    let b = c.args.listing.now in
    let s = c.loop-j in
    let done : output_count b - s.j ≡ 0 = omega (arith, c.loop-j-test.false, c.output_count-j-end.ensures.value) in
    leaving_end (subst (λ k. Leaving types gone (outputs_of b) s.table s.j (words_at b (outputs_from b + 2 * s.j) k)) done (s.invariant types gone h))
