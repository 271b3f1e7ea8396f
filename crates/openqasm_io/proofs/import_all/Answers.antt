-- `openqasm_io::import_all` meets its contract: what is printed for the bytes that are read is what is printed for all. Assumes nothing.
use Rattle.std.specs.Prelude.{◌+◌}
use Rattle.std.proofs.Common.{arith}
use borrow.Author.Rules.{rules}
use Rattle.streams.specs.Streamed.{NeedsFirst}
use Rattle.streams.proofs.Laws.Answered.{needs_more, answered_and, answered_part}
use Rattle.openqasm_io.specs.Printing.{most_text_read, imported_bytes}
use Rattle.openqasm_io.proofs.Theorems.Longest.{same_import}
use Rattle.openqasm_io.proofs.import_all.Goals as goal

-- To read one byte more would lose nothing either: that no more is read is held by `taken` alone.
same_longer : NeedsFirst imported_bytes (most_text_read + 1)
same_longer = needs_more imported_bytes most_text_read (most_text_read + 1) same_import (omega arith)

-- The last call of each serves a body that reads, answers and writes by itself, as those of must-fail do.
pub returns-clause-whole : goal.returns-clause-whole
returns-clause-whole g c =
    first_of (search (rules, same_import), search (rules, same_longer), search (arith, answered_and imported_bytes most_text_read same_import))

pub returns-clause-part : goal.returns-clause-part
returns-clause-part g c = first_of (search rules, search (rules, answered_part))
