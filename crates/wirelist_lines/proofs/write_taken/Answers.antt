-- `wirelist_lines::write_taken` meets its contract. Assumes nothing.
use native.Mathlib.Omega.{arith}
use borrow.Author.Rules.{rules}
use mathlib.Core.Path.{ap₂}
use mathlib.Core.List.{map}
use Rattle.rules.specs.Gates.{wires_in}
use Rattle.machine_circuits.proofs.Laws.Gates.{few_in}
use Rattle.text.specs.Text.{decimal, spaced}
use Rattle.words.specs.Numbers.{words_at}
use Rattle.listing.specs.Reading.{slots_from}
use Rattle.text.proofs.Laws.Writing.{puts_same}
use Rattle.wirelist_lines.proofs.Laws.Lines.{puts_taken}
use Rattle.wirelist_lines.proofs.write_taken.Goals as goal

pub put_words-requires : goal.put_words-requires
put_words-requires c = record { from_bound = c.slots_from.ensures.upper_bound; count_bound = omega (arith, c.wires_in.ensures, few_in c.args.number) }

pub returns : goal.returns
returns c =
    let a = c.args in
    let b = a.listing.now in (
      search rules,
      puts_taken a.number (words_at b (slots_from b a.i) (wires_in a.number)) c.put_bytes.ensures.1 (puts_same c.name_of.ensures c.put_bytes-2.ensures.1)
          (puts_same
          (ap₂ (λ from k. spaced (map decimal (words_at b from k))) (c.slots_from.ensures.value (omega arith)) c.wires_in.ensures)
          c.put_words.ensures.1),
      search rules,
    )
