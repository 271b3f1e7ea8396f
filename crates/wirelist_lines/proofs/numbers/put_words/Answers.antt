-- `wirelist_lines::numbers::put_words` meets its contract. Assumes nothing.
use borrow.Author.Rules.{rules}
use mathlib.Core.Path.{◌∙◌, ap}
use mathlib.Core.List.{[], ◌∷◌}
use Rattle.text.specs.Text.{decimal, spaced}
use Rattle.text.proofs.Laws.Writing.{puts_same}
use Rattle.wirelist_lines.proofs.Laws.Read.{puts_read}
use Rattle.wirelist_lines.proofs.numbers.put_words.Goals as goal

pub loop-i-preserved : goal.loop-i-preserved
loop-i-preserved c =
    let s = c.loop-i in (
      c.put_number.ensures.0 ∙ s.invariant.0,
      puts_read c.args.listing.now c.args.from s.i s.invariant.1
          (puts_same (ap (λ w. spaced (decimal w ∷ [])) c.word_at.ensures.value) c.put_number.ensures.1),
      search rules,
    )
