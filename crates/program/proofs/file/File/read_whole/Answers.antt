-- `program::file::File::read_whole` meets its contract.
use mathlib.Core.Path.{ap, ◌∙◌}
use Rattle.std.specs.Prelude.{Err}
use Rattle.program.specs.Reading.{refused}
use borrow.Author.Rules.{rules}
use Rattle.program.specs.Traversal.{End}
use Rattle.program.proofs.Laws.Reading.{whole_test, whole_term, left_over}
use Rattle.program.proofs.file.File.read_whole.Goals as goal

pub returns-in-Ok : goal.returns-in-Ok
returns-in-Ok c =
    let f = c.args.self.now.bytes.now in
    let test = whole_test f (rw (c.entry_count-end.ensures, c.first_term-start.ensures) at (c.traverse.ensures.reads End c.args.self.now.bytes.now (λ x b r k. search rules))) in
    c.read_scope.ensures ∙ whole_term f c.in-Ok.e (c.if-e-end.true ∙ c.entry_count-end.ensures) ∙ rw c.in-Ok.is at test

pub returns-in-Ok-2 : goal.returns-in-Ok-2
returns-in-Ok-2 c =
    let f = c.args.self.now.bytes.now in
    let test = whole_test f (rw (c.entry_count-end.ensures, c.first_term-start.ensures) at (c.traverse.ensures.reads End c.args.self.now.bytes.now (λ x b r k. search rules))) in
    ap Err c.form.ensures
    ∙ left_over f c.in-Ok.e (rw c.entry_count-end.ensures at c.if-e-end.false)
    ∙ rw (c.in-Ok-2.is, ← c.in-Ok-2.e-is) at test

pub returns-in-Err-Stopped : goal.returns-in-Err-Stopped
returns-in-Err-Stopped c =
    let f = c.args.self.now.bytes.now in
    let test = whole_test f (rw (c.entry_count-end.ensures, c.first_term-start.ensures) at (c.traverse.ensures.reads End c.args.self.now.bytes.now (λ x b r k. search rules))) in
    ap Err c.form-in-Err-Stopped.ensures
    ∙ ap (refused 8) c.in-Err-Stopped.e-is
    ∙ rw (c.in-Err-Stopped.is, c.in-Err-Stopped.field-0-is) at test

pub returns-in-Err-Out : goal.returns-in-Err-Out
returns-in-Err-Out c =
    let f = c.args.self.now.bytes.now in
    let test = whole_test f (rw (c.entry_count-end.ensures, c.first_term-start.ensures) at (c.traverse.ensures.reads End c.args.self.now.bytes.now (λ x b r k. search rules))) in
    ap Err c.form-in-Err-Out.ensures
    ∙ ap (refused 8) c.entry_count-end.ensures
    ∙ rw (c.in-Err-Out.is, c.in-Err-Out.field-0-is) at test
