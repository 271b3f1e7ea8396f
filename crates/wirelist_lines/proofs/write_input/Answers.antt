-- `wirelist_lines::write_input` meets its contract. Assumes nothing.
use borrow.Author.Rules.{rules}
use mathlib.Core.Path.{sym, ◌∙◌}
use Rattle.rules.specs.Types.{Bit, Qubit}
use Rattle.text.proofs.Laws.Writing.{puts_same}
use Rattle.wirelist_lines.proofs.Laws.Lines.{puts_input, bit_line, qubit_line}
use Rattle.wirelist_lines.proofs.write_input.Goals as goal

pub returns-then-kind_at-eq-BIT_INPUT : goal.returns-then-kind_at-eq-BIT_INPUT
returns-then-kind_at-eq-BIT_INPUT c =
    let a = c.args in (
      search rules,
      puts_same
          (bit_line a.listing.now a.i (sym c.kind_at.ensures.value ∙ c.if-kind_at-eq-BIT_INPUT.true))
          (puts_input a.i Bit c.put_bytes.ensures.1 c.put_number.ensures.1 c.put_bytes-then-kind_at-eq-BIT_INPUT.ensures.1),
      search rules,
    )

pub returns-else-kind_at-eq-BIT_INPUT : goal.returns-else-kind_at-eq-BIT_INPUT
returns-else-kind_at-eq-BIT_INPUT c =
    let a = c.args in (
      search rules,
      puts_same
          (qubit_line a.listing.now a.i (λ e. c.if-kind_at-eq-BIT_INPUT.false (c.kind_at.ensures.value ∙ e)))
          (puts_input a.i Qubit c.put_bytes.ensures.1 c.put_number.ensures.1 c.put_bytes-else-kind_at-eq-BIT_INPUT.ensures.1),
      search rules,
    )
