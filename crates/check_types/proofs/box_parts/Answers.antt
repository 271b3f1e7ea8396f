-- `check_types::box_parts` meets its contract: one law for each test. Assumes nothing.
use Rattle.rules.specs.Kinds.{function_kind}
use mathlib.Core.Path.{◌≡◌, sym, ◌∙◌, ap, subst, subst₂}
use Rattle.std.specs.Prelude.{Some}
use Rattle.words.specs.Words.{words}
use Rattle.check_types.specs.Cells.{cell_kind, cell_first, cell_second}
use Rattle.check_types.specs.Rules.{SaysSameType, SaysIsWireType, SaysBox}
use Rattle.check_types.proofs.Laws.Rules.{box_no_function, box_other_input, box_no_result_wires, box_gives}
use Rattle.check_types.proofs.box_parts.Goals as goal

pub returns-then-cell_kind-ne-FUNCTION-clause-says_box : goal.returns-then-cell_kind-ne-FUNCTION-clause-says_box
returns-then-cell_kind-ne-FUNCTION-clause-says_box c =
    let s = c.args in
    let w = words s.work.now in
    let h = sym c.cell_kind.ensures ∙ c.if-cell_kind-ne-REUSABLE.false in
    box_no_function w s.t s.a h λ e. c.if-cell_kind-ne-FUNCTION.true (c.cell_kind-2.ensures ∙ ap (cell_kind w) c.cell_first-f.ensures ∙ e)

pub returns-then-not-same_type-clause-says_box : goal.returns-then-not-same_type-clause-says_box
returns-then-not-same_type-clause-says_box c =
    let s = c.args in
    let w = words s.work.now in
    let h = sym c.cell_kind.ensures ∙ c.if-cell_kind-ne-REUSABLE.false in
    let f = c.cell_first-f.ensures in
    let h' : cell_kind w (cell_first w s.a) ≡ function_kind
    = ap (cell_kind w) (sym f) ∙ sym c.cell_kind-2.ensures ∙ c.if-cell_kind-ne-FUNCTION.false in
    let input = c.cell_first.ensures ∙ ap (cell_first w) f in
    box_other_input w s.t s.a h h' (subst₂ (λ x t. SaysSameType w s.t x t) input c.if-not-same_type.true c.same_type.ensures)

pub returns-then-not-is_wire_type-2-clause-says_box : goal.returns-then-not-is_wire_type-2-clause-says_box
returns-then-not-is_wire_type-2-clause-says_box c =
    let s = c.args in
    let w = words s.work.now in
    let h = sym c.cell_kind.ensures ∙ c.if-cell_kind-ne-REUSABLE.false in
    let f = c.cell_first-f.ensures in
    let h' : cell_kind w (cell_first w s.a) ≡ function_kind
    = ap (cell_kind w) (sym f) ∙ sym c.cell_kind-2.ensures ∙ c.if-cell_kind-ne-FUNCTION.false in
    let input = c.cell_first.ensures ∙ ap (cell_first w) f in
    let same = subst₂ (λ x t. SaysSameType w s.t x t) input c.if-not-same_type.false c.same_type.ensures in
    let wires = subst (λ t. SaysIsWireType w s.t t) c.if-not-is_wire_type.false c.is_wire_type.ensures in
    let output = c.cell_second-u.ensures ∙ ap (cell_second w) f in
    box_no_result_wires w s.t s.a h h' same wires (subst₂ (λ x t. SaysIsWireType w x t) output c.if-not-is_wire_type-2.true c.is_wire_type-2.ensures)

pub returns-clause-says_box : goal.returns-clause-says_box
returns-clause-says_box c =
    let s = c.args in
    let w = words s.work.now in
    let h = sym c.cell_kind.ensures ∙ c.if-cell_kind-ne-REUSABLE.false in
    let f = c.cell_first-f.ensures in
    let h' : cell_kind w (cell_first w s.a) ≡ function_kind
    = ap (cell_kind w) (sym f) ∙ sym c.cell_kind-2.ensures ∙ c.if-cell_kind-ne-FUNCTION.false in
    let input = c.cell_first.ensures ∙ ap (cell_first w) f in
    let same = subst₂ (λ x t. SaysSameType w s.t x t) input c.if-not-same_type.false c.same_type.ensures in
    let wires = subst (λ t. SaysIsWireType w s.t t) c.if-not-is_wire_type.false c.is_wire_type.ensures in
    let output = c.cell_second-u.ensures ∙ ap (cell_second w) f in
    subst
    (λ x. SaysBox w s.t s.a (Some (s.t, x)))
    (sym output)
    (box_gives w s.t s.a h h' same wires (subst₂ (λ x t. SaysIsWireType w x t) output c.if-not-is_wire_type-2.false c.is_wire_type-2.ensures))
