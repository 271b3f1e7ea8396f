-- `check_types::force_type` meets its contract: the part of a reusable type. Assumes nothing.
use mathlib.Core.Path.{sym, ◌∙◌, subst}
use Rattle.words.specs.Words.{words}
use Rattle.rules.specs.Inference.{as_reusable}
use Rattle.check_types.specs.Cells.{Given, gives}
use Rattle.check_types.proofs.Laws.Rules.{gives_part, no_part_given}
use Rattle.check_types.proofs.force_type.Goals as goal

pub returns-then-cell_kind-ne-REUSABLE : goal.returns-then-cell_kind-ne-REUSABLE
returns-then-cell_kind-ne-REUSABLE c =
    let s = c.args in
    no_part_given (words s.work.now) s.n s.a λ e. c.if-cell_kind-ne-REUSABLE.true (c.cell_kind.ensures ∙ e)

pub returns : goal.returns
returns c =
    let s = c.args in
    let w = words s.work.now in
    λ room A d.
    subst
    (λ x. Given w w s.n (as_reusable A) (gives x s.n))
    (sym c.cell_first.ensures)
    (gives_part w s.n s.a (sym c.cell_kind.ensures ∙ c.if-cell_kind-ne-REUSABLE.false) room A d)
