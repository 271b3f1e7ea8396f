-- `wirelist_lines::write_outputs` meets its contract. Assumes nothing.
use borrow.Author.Rules.{rules}
use mathlib.Core.Path.{ap₂}
use mathlib.Core.List.{map}
use Rattle.text.specs.Text.{ascii, decimal, spaced}
use Rattle.words.specs.Numbers.{words_at}
use Rattle.listing.specs.Reading.{outputs_from, output_count}
use Rattle.wirelist_lines.specs.LinesAt.{out_line_at}
use Rattle.text.proofs.Laws.Writing.{puts_same}
use Rattle.wirelist_lines.proofs.Laws.Lines.{puts_line}
use Rattle.wirelist_lines.proofs.write_outputs.Goals as goal

pub returns : goal.returns
unfolding out_line_at
returns c =
    let b = c.args.listing.now in (
      search rules,
      puts_line (ascii "out") (map decimal (words_at b (outputs_from b) (output_count b))) c.put_bytes.ensures.1
          (puts_same
          (ap₂ (λ from k. spaced (map decimal (words_at b from k))) c.outputs_from.ensures.value c.output_count.ensures.value)
          c.put_words.ensures.1)
          c.put_byte.ensures.1,
      search rules,
    )
