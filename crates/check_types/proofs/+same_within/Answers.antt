-- `check_types::same_within` meets its contract: one law for each way through the code; the measure is the number of entries.
-- Assumes nothing.
use Prim.Native.Nat.{ℕ, ◌-◌}
use mathlib.Core.Path.{◌≡◌, sym, ◌∙◌, ap, subst, subst₂}
use mathlib.Core.Bool.{Bool}
use mathlib.Core.List.{List}
use Rattle.words.specs.Words.{words}
use Rattle.rules.specs.Parts.{parts_of_kind}
use Rattle.check_types.specs.Cells.{cell_first, cell_second}
use Rattle.check_types.specs.Compare.{share_of, SaysSame}
use Rattle.check_types.proofs.Laws.Compare.{same_cell, other_kind, both_leaves, first_differs, first_alone}
use Rattle.check_types.proofs.Laws.Compare.{then_second}
use Rattle.check_types.proofs.+same_within.Goals as goal

pub returns-then-i-j : goal.returns-then-i-j
returns-then-i-j t c =
    let s = c.args in
    same_cell (words s.work.now) s.most s.i s.j c.if-i-j.true

pub returns-then-kind-cell_kind : goal.returns-then-kind-cell_kind
returns-then-kind-cell_kind t c =
    let s = c.args in
    other_kind (words s.work.now) s.most s.i s.j λ e. c.if-kind-cell_kind.true (c.cell_kind-kind.ensures ∙ e ∙ sym c.cell_kind.ensures)

pub returns-then-parts-eq0 : goal.returns-then-parts-eq0
returns-then-parts-eq0 t c =
    let s = c.args in
    let k = c.cell_kind-kind.ensures in
    both_leaves (words s.work.now) s.most s.i s.j (sym k ∙ c.if-kind-cell_kind.false ∙ c.cell_kind.ensures)
    (sym (ap parts_of_kind k) ∙ sym c.parts_of_kind-parts.ensures ∙ c.if-parts-eq0.true)

-- What the call on the first parts says.
first_parts : (w : List ℕ) (i j most : ℕ) {first other size : ℕ} {r t : Bool} → first ≡ cell_first w i → other ≡ cell_first w j
    → size ≡ share_of w first (most - 1) → r ≡ t
    → SaysSame w size first other r
    → SaysSame w (share_of w (cell_first w i) (most - 1)) (cell_first w i) (cell_first w j) t
first_parts w i j most {first} {other} {size} {r} {t} f o e b h =
    subst₂ (λ x r. SaysSame w x (cell_first w i) (cell_first w j) r) (e ∙ ap (λ x. share_of w x (most - 1)) f) b
    (subst₂ (λ x y. SaysSame w size x y r) f o h)

pub returns-then-not-same_within : goal.returns-then-not-same_within
returns-then-not-same_within t c =
    let s = c.args in
    let w = words s.work.now in
    let k = c.cell_kind-kind.ensures in
    first_differs w s.most s.i s.j (sym k ∙ c.if-kind-cell_kind.false ∙ c.cell_kind.ensures)
    (λ e. c.if-parts-eq0.false (c.parts_of_kind-parts.ensures ∙ ap parts_of_kind k ∙ e))
    (first_parts w s.i s.j s.most c.cell_first-first.ensures c.cell_first.ensures c.share-size.ensures c.if-not-same_within.true c.same_within.ensures)

pub returns-then-parts-eq1 : goal.returns-then-parts-eq1
returns-then-parts-eq1 t c =
    let s = c.args in
    let w = words s.work.now in
    let k = c.cell_kind-kind.ensures in
    first_alone w s.most s.i s.j (sym k ∙ c.if-kind-cell_kind.false ∙ c.cell_kind.ensures)
    (sym (ap parts_of_kind k) ∙ sym c.parts_of_kind-parts.ensures ∙ c.if-parts-eq1.true)
    (first_parts w s.i s.j s.most c.cell_first-first.ensures c.cell_first.ensures c.share-size.ensures c.if-not-same_within.false c.same_within.ensures)

pub returns : goal.returns
returns t c =
    let s = c.args in
    let w = words s.work.now in
    let k = c.cell_kind-kind.ensures in
    let size = c.share-size.ensures ∙ ap (λ x. share_of w x (s.most - 1)) c.cell_first-first.ensures in
    let other = subst₂ (λ x y. SaysSame w (s.most - 1 - c.share-size.result) x y c.same_within-2.result)
    c.cell_second.ensures c.cell_second-2.ensures c.same_within-2.ensures in
    let second = subst (λ x. SaysSame w (s.most - 1 - x) (cell_second w s.i) (cell_second w s.j) c.same_within-2.result) size other in
    then_second w s.most s.i s.j c.same_within-2.result (sym k ∙ c.if-kind-cell_kind.false ∙ c.cell_kind.ensures)
    (λ e. c.if-parts-eq0.false (c.parts_of_kind-parts.ensures ∙ ap parts_of_kind k ∙ e))
    (λ e. c.if-parts-eq1.false (c.parts_of_kind-parts.ensures ∙ ap parts_of_kind k ∙ e))
    (first_parts w s.i s.j s.most c.cell_first-first.ensures c.cell_first.ensures c.share-size.ensures c.if-not-same_within.false c.same_within.ensures)
    second
