-- For proofs by computation from the bytes of a file.
use Rattle.std.specs.Prelude.{ℕ, List}
use Rattle.program.proofs.Theorems.Examples.{opened as reader_opened}
use Rattle.check_program.specs.Answers.{Judged, type_from, term_from, check_of}

-- `check_of` with every definition of the reader and of the check open: a line `unfolding opened` opens them all.
unfoldable pub opened : List ℕ → Judged
unfolding reader_opened type_from term_from check_of
opened f = check_of f
