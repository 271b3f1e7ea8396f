-- `program::file::File::wire_type_end` meets its contract.
use borrow.Author.Rules.{rules}
use Rattle.program.specs.Traversal.{WireType}
use Rattle.program.proofs.file.File.wire_type_end.Goals as goal

pub returns : goal.returns
returns c =
    rw c.first_term.ensures at (c.traverse.ensures.reads WireType c.args.self.now.bytes.now (λ x b r k. search rules))
