-- `wirelist_lines::write_steps` meets its contract. Assumes nothing.
use borrow.Author.Rules.{rules}
use mathlib.Core.List.{[], ◌∷◌}
use Rattle.text.specs.Text.{ascii, decimal}
use Rattle.wirelist_lines.proofs.Laws.Lines.{puts_line}
use Rattle.wirelist_lines.proofs.write_steps.Goals as goal

pub returns : goal.returns
returns c =
    (search rules, puts_line (ascii "steps") (decimal c.args.steps ∷ []) c.put_bytes.ensures.1 c.put_number.ensures.1 c.put_byte.ensures.1, search rules)
