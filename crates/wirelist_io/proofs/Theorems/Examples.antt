-- What is printed, by computation.
use Rattle.std.specs.Prelude.{ℕ, ◌≡◌, refl}
use mathlib.Core.List.{List, [], flat_map}
use Rattle.program.specs.CaseFiles.{c3_file, c7_file}
use Rattle.check_program.proofs.Laws.Opened.{opened as check_opened}
use Rattle.listing.specs.Listing.{listing_bytes}
use Rattle.text.specs.Text.{ascii, decimal}
use Rattle.wirelist_lines.specs.Lines.{gate_name}
use Rattle.run_answers.specs.Answers.{run_of}
use Rattle.wirelist_io.specs.Printing.{printed}

-- `printed` with every definition that it rests on open: a line `unfolding opened` below opens them all.
opened : List ℕ → List ℕ
unfolding check_opened listing_bytes flat_map run_of decimal gate_name printed
opened f = printed f

-- 01: "For case c3, whole".
pub c3_printed : printed c3_file ≡ ascii "in 0 Qubit\nin 1 Qubit\ngate CNOT 0 1 : 2 3\nout 3 2\nsteps 2\n"
unfolding opened
c3_printed = refl

-- "On refusal it prints one line": c7, and the empty file.
pub c7_printed : printed c7_file ≡ ascii "refused 18 2\n"
unfolding opened
c7_printed = refl

pub empty_printed : printed [] ≡ ascii "refused 1 0\n"
unfolding opened
empty_printed = refl
