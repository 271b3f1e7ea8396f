-- `check_types::result_type` meets its contract: one law for each way through the code. Assumes nothing.
use mathlib.Core.Path.{sym, ◌∙◌, subst, subst₂}
use Rattle.words.specs.Words.{words}
use Rattle.check_types.specs.Cells.{MeetsTwo, gives}
use Rattle.check_types.specs.Rules.{SaysSameType, result_type}
use Rattle.check_types.proofs.Laws.Rules.{no_result, other_argument, gives_result}
use Rattle.check_types.proofs.result_type.Goals as goal

pub returns-then-cell_kind-kind : goal.returns-then-cell_kind-kind
returns-then-cell_kind-kind c =
    let s = c.args in
    let w = words s.work.now in
    let k = c.cell_kind.ensures in
    λ g r. no_result w s.n s.f s.a s.kind g r λ e. c.if-cell_kind-kind.true (k ∙ e)

pub returns-then-not-same_type : goal.returns-then-not-same_type
returns-then-not-same_type c =
    let s = c.args in
    let w = words s.work.now in
    let k = c.cell_kind.ensures in
    let other = subst₂ (λ x t. SaysSameType w x s.a t)
    c.cell_first.ensures c.if-not-same_type.true c.same_type.ensures in
    λ g r. other_argument w s.n s.f s.a s.kind g r (sym k ∙ c.if-cell_kind-kind.false) other

pub returns : goal.returns
returns c =
    let s = c.args in
    let w = words s.work.now in
    let k = c.cell_kind.ensures in
    let same = subst₂ (λ x t. SaysSameType w x s.a t)
    c.cell_first.ensures c.if-not-same_type.false c.same_type.ensures in
    λ g r.
    subst
    (λ x. MeetsTwo (result_type g) w w s.n s.f s.a (gives x s.n))
    (sym c.cell_second.ensures)
    (gives_result w s.n s.f s.a s.kind g r (sym k ∙ c.if-cell_kind-kind.false) same)
