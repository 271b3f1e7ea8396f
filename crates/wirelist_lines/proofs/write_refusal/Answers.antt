-- `wirelist_lines::write_refusal` meets its contract. Assumes nothing.
use borrow.Author.Rules.{rules}
use mathlib.Core.List.{[], ◌∷◌}
use Rattle.text.specs.Text.{ascii, decimal}
use Rattle.text.proofs.Laws.Writer.{puts_at_start}
use Rattle.text.proofs.Laws.Writing.{puts_first}
use Rattle.wirelist_lines.proofs.Laws.Lines.{puts_line, puts_words}
use Rattle.wirelist_lines.proofs.Laws.Fitting.{refusal_fits}
use Rattle.wirelist_lines.proofs.write_refusal.Goals as goal

pub returns : goal.returns
returns c =
    let a = c.args in
    let n = decimal a.number in
    let p = decimal a.place in
    let begun = puts_at_start c.new-out.ensures.contents c.new-out.ensures.start c.put_bytes.ensures.1 in
    let numbers = puts_words (n ∷ []) (p ∷ []) c.put_number.ensures.1 c.put_number-2.ensures.1 in
    let all = puts_first (puts_line (ascii "refused") (n ∷ p ∷ []) begun numbers c.put_byte.ensures.1) in
    record {
      written = search (rules, all);
      place_len_bound = refusal_fits a.number a.place c.ranges.number.fits c.ranges.place.fits;
    }
