-- `openqasm::write_header` meets its contract. Assumes nothing.
use borrow.Author.Rules.{rules}
use mathlib.Core.Path.{◌∙◌}
use Rattle.text.proofs.Laws.Writing.{puts_both}
use Rattle.openqasm.proofs.write_header.Goals as goal

pub returns : goal.returns
returns c = (c.put_bytes-2.ensures.0 ∙ c.put_bytes.ensures.0, puts_both c.put_bytes.ensures.1 c.put_bytes-2.ensures.1, search rules)
