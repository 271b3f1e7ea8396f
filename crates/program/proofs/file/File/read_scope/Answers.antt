-- `program::file::File::read_scope` meets its contract.
use mathlib.Core.Path.{ap, ◌∙◌}
use Rattle.std.specs.Prelude.{Err}
use borrow.Author.Rules.{rules}
use Rattle.program.specs.Traversal.{Scope}
use Rattle.program.proofs.Laws.Reading.{accepted_sizes, scope_test}
use Rattle.program.proofs.file.File.read_scope.Goals as goal

pub returns-in-Ok : goal.returns-in-Ok
returns-in-Ok c =
    let test = scope_test c.args.self.now.bytes.now (rw (c.entry_count.ensures, c.first_term.ensures) at (c.traverse.ensures.reads Scope c.args.self.now.bytes.now (λ x b r k. search rules))) in
    accepted_sizes c.args.self.now.sized ∙ rw c.in-Ok.is at test

pub returns-in-Err-Stopped : goal.returns-in-Err-Stopped
returns-in-Err-Stopped c =
    let test = scope_test c.args.self.now.bytes.now (rw (c.entry_count.ensures, c.first_term.ensures) at (c.traverse.ensures.reads Scope c.args.self.now.bytes.now (λ x b r k. search rules))) in
    ap Err c.form.ensures ∙ rw (c.in-Err-Stopped.is, c.in-Err-Stopped.field-0-is) at test

pub returns-in-Err-Out : goal.returns-in-Err-Out
returns-in-Err-Out c =
    let test = scope_test c.args.self.now.bytes.now (rw (c.entry_count.ensures, c.first_term.ensures) at (c.traverse.ensures.reads Scope c.args.self.now.bytes.now (λ x b r k. search rules))) in
    accepted_sizes c.args.self.now.sized ∙ rw (c.in-Err-Out.is, c.in-Err-Out.field-0-is) at test
