-- `text::Writer::put_digits` meets its contract. Assumes nothing.
use borrow.Author.Rules.{rules}
use mathlib.Core.Path.{◌∙◌}
use Rattle.text.proofs.Laws.Words.{puts_digit, puts_digits}
use Rattle.text.proofs.Writer.+put_digits.Goals as goal

pub returns-then-n-lt10 : goal.returns-then-n-lt10
returns-then-n-lt10 t c = (c.put_byte.ensures.0, puts_digit c.args.n c.if-n-lt10.true c.put_byte.ensures.1, search rules)

pub returns : goal.returns
returns t c =
    (c.put_byte-2.ensures.0 ∙ c.put_digits.ensures.0, puts_digits c.args.n c.if-n-lt10.false c.put_digits.ensures.1 c.put_byte-2.ensures.1, search rules)
