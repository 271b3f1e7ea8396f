-- `check_types::wire_type_within` meets its contract: one law for each way through the code; the measure is the number of entries.
-- Assumes nothing.
use Prim.Native.Nat.{ℕ, ◌-◌}
use mathlib.Core.Path.{◌≡◌, sym, ◌∙◌, ap, subst, subst₂}
use mathlib.Core.Bool.{Bool}
use mathlib.Core.List.{List}
use Rattle.words.specs.Words.{words}
use Rattle.rules.specs.Parts.{parts_of_kind}
use Rattle.check_types.specs.Cells.{cell_first, cell_second}
use Rattle.check_types.specs.Compare.{share_of, SaysWireType}
use Rattle.check_types.proofs.Laws.Compare.{is_leaf, no_wire, first_no_wire, then_second_wire}
use Rattle.check_types.proofs.+wire_type_within.Goals as goal

pub returns-then-parts_of_kind-eq0 : goal.returns-then-parts_of_kind-eq0
returns-then-parts_of_kind-eq0 t c =
    let s = c.args in
    is_leaf (words s.work.now) s.most s.i (sym (ap parts_of_kind c.cell_kind-kind.ensures) ∙ sym c.parts_of_kind.ensures ∙ c.if-parts_of_kind-eq0.true)

pub returns-then-kind-ne-PAIR_TYPE : goal.returns-then-kind-ne-PAIR_TYPE
returns-then-kind-ne-PAIR_TYPE t c =
    let s = c.args in
    let k = c.cell_kind-kind.ensures in
    no_wire (words s.work.now) s.most s.i (λ e. c.if-parts_of_kind-eq0.false (c.parts_of_kind.ensures ∙ ap parts_of_kind k ∙ e))
    λ e. c.if-kind-ne-PAIR_TYPE.true (k ∙ e)

-- What the call on the first part says.
first_part : (w : List ℕ) (i most : ℕ) {first size : ℕ} {r t : Bool} → first ≡ cell_first w i
    → size ≡ share_of w first (most - 1) → r ≡ t
    → SaysWireType w size first r
    → SaysWireType w (share_of w (cell_first w i) (most - 1)) (cell_first w i) t
first_part w i most {first} {size} {r} {t} f e b h =
    subst₂ (λ x r. SaysWireType w x (cell_first w i) r) (e ∙ ap (λ x. share_of w x (most - 1)) f) b (subst (λ x. SaysWireType w size x r) f h)

pub returns-then-not-wire_type_within : goal.returns-then-not-wire_type_within
returns-then-not-wire_type_within t c =
    let s = c.args in
    let w = words s.work.now in
    first_no_wire w s.most s.i (sym c.cell_kind-kind.ensures ∙ c.if-kind-ne-PAIR_TYPE.false)
    (first_part w s.i s.most c.cell_first-first.ensures c.share-size.ensures c.if-not-wire_type_within.true c.wire_type_within.ensures)

pub returns : goal.returns
returns t c =
    let s = c.args in
    let w = words s.work.now in
    let size = c.share-size.ensures ∙ ap (λ x. share_of w x (s.most - 1)) c.cell_first-first.ensures in
    let other = subst (λ x. SaysWireType w (s.most - 1 - c.share-size.result) x c.wire_type_within-2.result)
    c.cell_second.ensures c.wire_type_within-2.ensures in
    let second = subst (λ x. SaysWireType w (s.most - 1 - x) (cell_second w s.i) c.wire_type_within-2.result) size other in
    then_second_wire w s.most s.i c.wire_type_within-2.result (sym c.cell_kind-kind.ensures ∙ c.if-kind-ne-PAIR_TYPE.false)
    (first_part w s.i s.most c.cell_first-first.ensures c.share-size.ensures c.if-not-wire_type_within.false c.wire_type_within.ensures)
    second
