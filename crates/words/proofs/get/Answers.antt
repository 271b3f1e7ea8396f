-- `words::get` meets its contract: word i is the number at byte 2 * i. Assumes nothing.
use mathlib.Core.Path.{sym, ◌∙◌}
use Rattle.words.proofs.Laws.Words.{word_past}
use Rattle.words.proofs.Laws.Numbers.{number_word}
use Rattle.words.proofs.get.Goals as goal

pub returns-then-n-i : goal.returns-then-n-i
returns-then-n-i c = sym (word_past c.args.memory.now c.args.i c.if-n-i.true)

pub returns : goal.returns
returns c =
    let s = c.args in
    c.word_at.ensures.value ∙ number_word s.memory.now s.i c.if-n-i.false
