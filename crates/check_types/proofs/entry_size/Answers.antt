-- `check_types::entry_size` meets its contract: by the number of parts. Assumes nothing.
use Prim.Native.Nat.{◌+◌, ◌-◌}
use mathlib.Core.Path.{sym, ◌∙◌, ap, ap₂}
use Rattle.words.specs.Words.{words}
use Rattle.check_types.specs.Cells.{cell_size}
use Rattle.check_types.proofs.Laws.Load.{size_of_leaf, size_of_one, size_of_two}
use Rattle.check_types.proofs.entry_size.Goals as goal

pub returns-then-parts-eq0-clause-value : goal.returns-then-parts-eq0-clause-value
returns-then-parts-eq0-clause-value c =
    let s = c.args in
    size_of_leaf (words s.work.now) s.n s.kind (sym c.parts_of_kind-parts.ensures ∙ c.if-parts-eq0.true)

pub returns-then-parts-eq1-clause-value : goal.returns-then-parts-eq1-clause-value
returns-then-parts-eq1-clause-value c =
    let s = c.args in
    let w = words s.work.now in
    let e = c.cell_size-size.ensures.value ∙ ap (cell_size w) c.saturating_sub-first.ensures in
    ap (λ x. 1 + x) e ∙ size_of_one w s.n s.kind (sym c.parts_of_kind-parts.ensures ∙ c.if-parts-eq1.true)

pub returns-clause-value : goal.returns-clause-value
returns-clause-value c =
    let s = c.args in
    let w = words s.work.now in
    let e = c.cell_size-size.ensures.value ∙ ap (cell_size w) c.saturating_sub-first.ensures in
    let behind = c.saturating_sub.ensures ∙ ap₂ (λ x y. x - y) c.saturating_sub-first.ensures e in
    let e2 = c.cell_size.ensures.value ∙ ap (cell_size w) behind in
    ap₂ (λ x y. 1 + x + y) e e2
    ∙ size_of_two w s.n s.kind (λ e. c.if-parts-eq0.false (c.parts_of_kind-parts.ensures ∙ e)) λ e. c.if-parts-eq1.false (c.parts_of_kind-parts.ensures ∙ e)
