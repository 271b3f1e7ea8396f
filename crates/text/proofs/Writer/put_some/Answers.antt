-- `text::Writer::put_some` meets its contract. Assumes nothing.
use borrow.Author.Rules.{rules}
use mathlib.Core.Path.{◌∙◌}
use Rattle.text.proofs.Laws.Words.{puts_next}
use Rattle.text.proofs.Writer.put_some.Goals as goal

pub loop-byte-preserved : goal.loop-byte-preserved
loop-byte-preserved c =
    let s = c.loop-byte in
    (c.put_byte.ensures.0 ∙ s.invariant.0, puts_next c.args.bytes.now s.byte-index c.loop-byte-test.true s.invariant.1 c.put_byte.ensures.1, search rules)
