-- `text::Writer::put_decimal` meets its contract. Assumes nothing.
use borrow.Author.Rules.{rules}
use native.Mathlib.Omega.{arith}
use Prim.Native.Nat.{◌/◌}
use mathlib.Core.Path.{◌∙◌}
use Rattle.text.proofs.Laws.Words.{puts_digit, puts_digits}
use Rattle.text.proofs.Writer.put_decimal.Goals as goal

pub returns-then-n-lt10 : goal.returns-then-n-lt10
returns-then-n-lt10 c = (c.put_byte.ensures.0, puts_digit c.args.n c.if-n-lt10.true c.put_byte.ensures.1, search rules)

pub returns : goal.returns
returns c =
    let n = c.args.n in (
      c.put_byte-3.ensures.0 ∙ c.put_byte-2.ensures.0,
      puts_digits n (omega (arith, c.if-n-lt10.false)) (puts_digit (n / 10) (omega arith) c.put_byte-2.ensures.1) c.put_byte-3.ensures.1,
      search rules,
    )
