-- `listcheck_io::print_check` meets its contract: the line for the bytes that are read is that for all. Assumes nothing.
use Rattle.std.specs.Prelude.{◌+◌}
use Rattle.std.proofs.Common.{arith}
use borrow.Author.Rules.{rules}
use Rattle.streams.specs.Streamed.{NeedsFirst}
use Rattle.streams.proofs.Laws.Answered.{needs_more, answered_and, answered_part}
use Rattle.listcheck_io.specs.Printing.{most_read, checked_line}
use Rattle.listcheck_io.proofs.Theorems.Longest.{same_line}
use Rattle.listcheck_io.proofs.print_check.Goals as goal

-- To read one byte more would lose nothing either: that no more is read is held by `taken` alone.
same_longer : NeedsFirst checked_line (most_read + 1)
same_longer = needs_more checked_line most_read (most_read + 1) same_line (omega arith)

-- The last call of each serves a body that reads, answers and writes by itself, as that of must-fail does.
pub returns-clause-whole : goal.returns-clause-whole
returns-clause-whole g c =
    first_of (search (rules, same_line), search (rules, same_longer), search (arith, answered_and checked_line most_read same_line))

pub returns-clause-part : goal.returns-clause-part
returns-clause-part g c = first_of (search rules, search (rules, answered_part))
