-- `check_program::infer::infer` meets its contract: one law for each way through the code. The measure is the entries left.
-- Assumes nothing.
use Rattle.std.specs.Prelude.{ℕ, true, Err}
use Rattle.std.proofs.lemmas.Result.{err_from_is_err_and}
use mathlib.Core.Path.{◌≡◌, refl, sym, ◌∙◌, ap, subst}
use native.Mathlib.Omega.{arith}
use Rattle.words.specs.Words.{words}
use Rattle.program.specs.Format.{kind_at}
use Rattle.rules.specs.Parts.{parts_of_kind}
use Rattle.check_program.specs.Inferring.{Possible, Meets, binders_after}
use Rattle.check_program.proofs.Laws.Arms.{EndsFirst}
use Rattle.check_program.proofs.Laws.ArmsTwo.{EndsSecond}
use Rattle.check_program.proofs.Laws.Meeting.{small}
use Rattle.check_program.proofs.Laws.Meeting.{inside_possible, Looked, looked_at, one_left, two_left, part_at_fault, one_ends}
use Rattle.check_program.proofs.Laws.Meeting.{no_pair, second_later, second_possible, two_meets, possible_after, meets_after}
use Rattle.check_program.proofs.infer.+infer.Goals.{After-infer, After-between}
use Rattle.check_program.proofs.infer.+infer.Goals as goal

-- What is known once the first part has been looked at, and once it is known whether the second is to be.
looked : {t : ℕ} (c : After-infer t)
    → Looked c.args.file.now (words c.args.work.now) c.args.at.entry c.args.at.binders c.args.at.lifts c.args.cells
    (words c.infer.new.work) c.infer.result
looked c =
    let s = c.args in
    looked_at s.file.now (words s.work.now) (words c.enter.new.work) s.at.entry s.at.binders s.at.lifts s.cells c.kind_at-kind.result
    c.parts_of_kind-parts.result c.inside.result.entry c.inside.result.binders c.inside.result.lifts c.kind_at-kind.ensures.value
    c.parts_of_kind-parts.ensures c.if-parts-eq0.false c.inside.ensures.entry c.inside.ensures.binders c.inside.ensures.lifts
    c.enter.ensures (words c.infer.new.work) c.infer.result c.infer.ensures

has_two : {t : ℕ} (c : After-between t) → parts_of_kind (kind_at c.args.file.now c.args.at.entry) ≡ 2
has_two c =
    two_left c.args.file.now c.args.at.entry c.kind_at-kind.result c.parts_of_kind-parts.result c.kind_at-kind.ensures.value
    c.parts_of_kind-parts.ensures c.if-parts-eq0.false c.if-parts-eq1.false

behind : {t : ℕ} (c : After-between t)
    → Looked c.args.file.now (words c.args.work.now) c.args.at.entry c.args.at.binders c.args.at.lifts c.args.cells
    (words c.infer.new.work) c.infer.result
    → c.between.result ≡ true
    → Possible c.args.file.now (words c.between.new.work) c.in_ok-first.first.next
    (binders_after (kind_at c.args.file.now c.args.at.entry) c.args.at.binders) c.args.at.lifts c.in_ok-first.first.cells
behind c first goes =
    second_possible first (has_two c) c.in_ok-first.first c.in_ok-first.was (words c.between.new.work) c.between.result
    c.between.ensures goes c.requires

pub inside-requires-clause-entry_fits : goal.inside-requires-clause-entry_fits
inside-requires-clause-entry_fits t c =
    let s = c.args in
    let few = small s.file.now (words s.work.now) s.at.entry s.at.binders s.at.lifts s.cells c.requires in
    omega arith

pub inside-requires-clause-binders_fit : goal.inside-requires-clause-binders_fit
inside-requires-clause-binders_fit t c =
    let s = c.args in
    let few = small s.file.now (words s.work.now) s.at.entry s.at.binders s.at.lifts s.cells c.requires in
    omega arith

pub inside-requires-clause-lifts_fit : goal.inside-requires-clause-lifts_fit
inside-requires-clause-lifts_fit t c =
    let s = c.args in
    (small s.file.now (words s.work.now) s.at.entry s.at.binders s.at.lifts s.cells c.requires).lifts_few

pub infer-requires : goal.infer-requires
infer-requires t c =
    let s = c.args in
    let few = small s.file.now (words s.work.now) s.at.entry s.at.binders s.at.lifts s.cells c.requires in
    let here = c.decreases in
    let later = c.inside.ensures.entry in (
      omega arith,
      inside_possible s.file.now (words s.work.now) (words c.enter.new.work) s.at.entry s.at.binders s.at.lifts s.cells c.kind_at-kind.result c.parts_of_kind-parts.result
          c.inside.result.entry c.inside.result.binders c.inside.result.lifts c.kind_at-kind.ensures.value c.parts_of_kind-parts.ensures c.if-parts-eq0.false
          c.inside.ensures.entry c.inside.ensures.binders c.inside.ensures.lifts c.enter.ensures c.requires,
    )

pub returns-in_err-first : goal.returns-in_err-first
returns-in_err-first t c =
    let s = c.args in
    let p = err_from_is_err_and c.from_residual.result c.from_residual.ensures.1 in
    subst
    (λ r. Meets s.file.now (words s.work.now) (words c.infer.new.work) s.at.entry s.at.binders s.at.lifts s.cells r)
    (sym (p.1 ∙ ap Err p.2))
    (part_at_fault c.in_err-first.field-0.0 (looked (goal.at.returns-in_err-first t c).After-infer) c.in_err-first.was)

pub returns-then-parts-eq1 : goal.returns-then-parts-eq1
returns-then-parts-eq1 t c =
    let s = c.args in
    one_ends (looked (goal.at.returns-then-parts-eq1 t c).After-infer)
    (one_left s.file.now s.at.entry c.kind_at-kind.result c.parts_of_kind-parts.result c.kind_at-kind.ensures.value
    c.parts_of_kind-parts.ensures c.if-parts-eq1.true)
    (words c.finish_one.new.work) c.finish_one.result
    (subst (λ x. EndsFirst s.file.now (words c.infer.new.work) (words c.finish_one.new.work) s.at.entry s.at.binders x c.finish_one.result)
    (sym c.in_ok-first.was)
    c.finish_one.ensures)

pub returns-then-not-between : goal.returns-then-not-between
returns-then-not-between t c =
    let s = c.args in
    let start = goal.at.returns-then-not-between t c in
    subst
    (λ x. Meets s.file.now (words s.work.now) (words c.between.new.work) s.at.entry s.at.binders s.at.lifts s.cells (Err x))
    (sym c.no_rule.ensures)
    (no_pair (looked start.After-infer) (has_two start.After-between) c.in_ok-first.first c.in_ok-first.was (words c.between.new.work) c.between.result
    c.between.ensures c.if-not-between.true)

pub after-requires-clause-entry_fits : goal.after-requires-clause-entry_fits
after-requires-clause-entry_fits t c =
    let s = c.args in
    let first = c.in_ok-first.first in
    let start = goal.at.after-requires-clause-entry_fits t c in
    let later =
    small s.file.now (words c.between.new.work) first.next (binders_after (kind_at s.file.now s.at.entry) s.at.binders) s.at.lifts first.cells
    (behind start.After-between (looked start.After-infer) c.if-not-between.false) in
    omega arith

pub after-requires-clause-binders_fit : goal.after-requires-clause-binders_fit
after-requires-clause-binders_fit t c =
    let s = c.args in
    (small s.file.now (words s.work.now) s.at.entry s.at.binders s.at.lifts s.cells c.requires).binders_few

pub infer-requires-2 : goal.infer-requires-2
infer-requires-2 t c =
    let s = c.args in
    let first = c.in_ok-first.first in
    let few = small s.file.now (words s.work.now) s.at.entry s.at.binders s.at.lifts s.cells c.requires in
    let here = c.decreases in
    let start = goal.at.infer-requires-2 t c in
    let later =
    second_later (looked start.After-infer) (has_two start.After-between) first c.in_ok-first.was (words c.between.new.work) c.between.result
    c.between.ensures c.requires in
    let at = c.after.ensures.entry in (
      omega arith,
      possible_after s.file.now (words c.between.new.work) s.at.entry first.next s.at.binders s.at.lifts first.cells c.kind_at-kind.result
          c.after.result.entry c.after.result.binders c.after.result.lifts c.kind_at-kind.ensures.value c.after.ensures.entry
          c.after.ensures.binders c.after.ensures.lifts (behind start.After-between (looked start.After-infer) c.if-not-between.false),
    )

pub returns-in_err-second : goal.returns-in_err-second
returns-in_err-second t c =
    let s = c.args in
    let first = c.in_ok-first.first in
    let x = c.in_err-second.field-0.0 in
    let p = err_from_is_err_and c.from_residual-in_err-second.result c.from_residual-in_err-second.ensures.1 in
    let start = goal.at.returns-in_err-second t c in
    let w = words c.infer-2.new.work in
    subst (λ r. Meets s.file.now (words s.work.now) w s.at.entry s.at.binders s.at.lifts s.cells r) (sym (p.1 ∙ ap Err p.2))
    (two_meets (looked start.After-infer) (has_two start.After-between) first c.in_ok-first.was (words c.between.new.work) c.between.result
    c.between.ensures c.if-not-between.false w w c.infer-2.result (Err x)
    (meets_after s.file.now (words c.between.new.work) s.at.entry first.next s.at.binders s.at.lifts first.cells c.kind_at-kind.result
    c.after.result.entry c.after.result.binders c.after.result.lifts c.kind_at-kind.ensures.value c.after.ensures.entry
    c.after.ensures.binders c.after.ensures.lifts w c.infer-2.result c.infer-2.ensures)
    (subst (λ y. EndsSecond s.file.now w w s.at.entry s.at.binders first y (Err x)) (sym c.in_err-second.was) refl))

pub returns : goal.returns
returns t c =
    let s = c.args in
    let first = c.in_ok-first.first in
    let start = goal.at.returns t c in
    let w = words c.infer-2.new.work in
    two_meets (looked start.After-infer) (has_two start.After-between) first c.in_ok-first.was (words c.between.new.work) c.between.result
    c.between.ensures c.if-not-between.false w (words c.finish_two.new.work) c.infer-2.result c.finish_two.result
    (meets_after s.file.now (words c.between.new.work) s.at.entry first.next s.at.binders s.at.lifts first.cells c.kind_at-kind.result
    c.after.result.entry c.after.result.binders c.after.result.lifts c.kind_at-kind.ensures.value c.after.ensures.entry
    c.after.ensures.binders c.after.ensures.lifts w c.infer-2.result c.infer-2.ensures)
    (subst
    (λ y. EndsSecond s.file.now w (words c.finish_two.new.work) s.at.entry s.at.binders first y c.finish_two.result)
    (sym c.in_ok-second.was)
    c.finish_two.ensures)
