-- `wirelist_io::print_run` meets its contract: what is printed for the bytes that are read is what is printed for all. Assumes nothing.
use Rattle.std.specs.Prelude.{◌+◌}
use Rattle.std.proofs.Common.{arith}
use borrow.Author.Rules.{rules}
use Rattle.streams.specs.Streamed.{NeedsFirst}
use Rattle.streams.proofs.Laws.Answered.{needs_more}
use Rattle.wirelist_io.specs.Printing.{most_read, printed}
use Rattle.wirelist_io.proofs.Theorems.Longest.{same_text}
use Rattle.wirelist_io.proofs.print_run.Goals as goal

-- To read one byte more would lose nothing either: that no more is read is held by `taken` alone.
same_longer : NeedsFirst printed (most_read + 1)
same_longer = needs_more printed most_read (most_read + 1) same_text (omega arith)

pub returns-clause-whole : goal.returns-clause-whole
returns-clause-whole g c = first_of (search (rules, same_text), search (rules, same_longer))
