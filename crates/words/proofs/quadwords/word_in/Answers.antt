-- `words::quadwords::word_in` meets its contract: word k of quadword i is word 4 * i + k. Assumes nothing.
use Prim.Native.Nat.{◌+◌, ◌*◌}
use native.Mathlib.Omega.{arith}
use mathlib.Core.Path.{sym, ◌∙◌, ap}
use Rattle.words.specs.Words.{words}
use Rattle.words.proofs.Laws.Words.{length_words, word_below}
use Rattle.words.specs.Quadwords.{word_in, quadwords_in, quadword_at}
use Rattle.words.proofs.Laws.Quadwords.{quadword_past, zero_quadword, no_word, word_of_quadword}
use Rattle.words.proofs.quadwords.word_in.Goals as goal

pub returns-then-n-i-clause-value : goal.returns-then-n-i-clause-value
returns-then-n-i-clause-value c =
    let a = c.args in
    let past = quadword_past (words a.buffer.now) a.i (omega (arith, length_words a.buffer.now, c.if-n-i.true)) in
    sym (ap (λ r. word_in r a.k) past ∙ zero_quadword a.k)

pub returns-then-k-ge-WORDS-clause-value : goal.returns-then-k-ge-WORDS-clause-value
returns-then-k-ge-WORDS-clause-value c =
    let a = c.args in
    sym (no_word (quadword_at (quadwords_in a.buffer.now) a.i) a.k c.if-k-ge-WORDS.true)

pub returns : goal.returns
returns c =
    let a = c.args in
    let m = a.buffer.now in
    let e = c.get.ensures in
    record {
      value = e ∙ sym (word_of_quadword (words m) a.i a.k (omega (arith, length_words m, c.if-n-i.false)) c.if-k-ge-WORDS.false);
      upper_bound = omega (arith, e, word_below m (λ j. (c.type_inv.buffer j).fits) (4 * a.i + a.k));
    }
