-- `wirelist_lines::write_gate` meets its contract. Assumes nothing.
use native.Mathlib.Omega.{arith}
use borrow.Author.Rules.{rules}
use mathlib.Core.Path.{ap}
use mathlib.Core.List.{map}
use Rattle.rules.specs.Gates.{wires_in, wires_out}
use Rattle.rules.specs.Circuits.{numbers}
use Rattle.machine_circuits.proofs.Laws.Gates.{few_out}
use Rattle.text.specs.Text.{decimal, spaced}
use Rattle.words.specs.Numbers.{words_at}
use Rattle.listing.specs.Reading.{slots_from}
use Rattle.text.proofs.Laws.Writing.{puts_same}
use Rattle.wirelist_lines.proofs.Laws.Lines.{puts_gate}
use Rattle.wirelist_lines.proofs.write_gate.Goals as goal

pub put_numbers-requires : goal.put_numbers-requires
put_numbers-requires c = omega (arith, c.wires_out.ensures, few_out c.args.number)

pub returns : goal.returns
returns c =
    let a = c.args in
    let b = a.listing.now in
    let n = a.number in (
      search rules,
      puts_gate n (words_at b (slots_from b a.i) (wires_in n)) (numbers a.made (wires_out n))
          c.write_taken.ensures.1
          c.put_bytes.ensures.1
          (puts_same (ap (λ k. spaced (map decimal (numbers a.made k))) c.wires_out.ensures) c.put_numbers.ensures.1)
          c.put_byte.ensures.1,
      search rules,
    )
