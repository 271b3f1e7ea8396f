-- `program::file::File::type_wrong` meets its contract.
use borrow.Author.Rules.{rules}
use mathlib.Core.Path.{◌∙◌}
use Rattle.program.specs.Traversal.{End}
use Rattle.program.proofs.Laws.Reading.{type_test}
use Rattle.program.proofs.file.File.type_wrong.Goals as goal

pub returns : goal.returns
returns c =
    c.runs_out.ensures
    ∙ type_test (rw c.first_term.ensures at (c.traverse.ensures.reads End c.args.self.now.bytes.now (λ x b r k. search rules)))
