-- `check_program::infer::leaf` meets its contract: a gate and unit's value have their types, a variable or
-- a label that of its binding. Assumes nothing.
use mathlib.Core.Path.{sym, ◌∙◌, ap, subst}
use native.Mathlib.Omega.{arith}
use Rattle.std.proofs.Common.{rules}
use Rattle.std.specs.Prelude.{◌+◌, Ok, None}
use Rattle.words.specs.Words.{words}
use Rattle.check_types.specs.GateCells.{gate_cell}
use Rattle.check_program.specs.Layout.{binding_uses}
use Rattle.check_program.specs.Inferring.{typed_as, Meets, SaysUsed}
use Rattle.check_program.proofs.Laws.Meeting.{small}
use Rattle.check_program.proofs.Laws.Leaves.{gate_meets, unit_meets, binding_meets, binding_fits}
use Rattle.check_program.proofs.infer.leaf.Goals as goal

pub returns-in-26 : goal.returns-in-26
returns-in-26 c =
    let s = c.args in
    let w = words s.work.now in
    subst (λ x. Meets s.file.now w w s.at.entry s.at.binders s.at.lifts s.cells (Ok x)) (sym c.constant.ensures)
    (subst
    (λ x. Meets s.file.now w w s.at.entry s.at.binders s.at.lifts s.cells (Ok (typed_as x (s.at.entry + 1) s.cells None None)))
    (ap gate_cell (sym c.argument_at.ensures.value) ∙ sym c.gate_cell.ensures)
    (gate_meets s.file.now w s.at.entry s.at.binders s.at.lifts s.cells (sym c.kind_at.ensures.value ∙ c.in-26.is)))

pub returns-in-27 : goal.returns-in-27
returns-in-27 c =
    let s = c.args in
    let w = words s.work.now in
    subst (λ x. Meets s.file.now w w s.at.entry s.at.binders s.at.lifts s.cells (Ok x)) (sym c.constant-in-27.ensures)
    (unit_meets s.file.now w s.at.entry s.at.binders s.at.lifts s.cells (sym c.kind_at.ensures.value ∙ c.in-27.is))

pub use_binding-requires : goal.use_binding-requires
use_binding-requires c =
    let s = c.args in
    let few = small s.file.now (words s.work.now) s.at.entry s.at.binders s.at.lifts s.cells c.requires.0 in
    let fits =
    binding_fits s.file.now (words s.work.now) s.at.entry s.at.binders s.at.lifts s.cells c.requires.1 (search rules) (search rules) c.requires.0
    in
    let at = c.binding_at.ensures in
    let count = ap (binding_uses (words s.work.now)) at in
    (omega arith, omega arith)

pub returns-in_default : goal.returns-in_default
returns-in_default c =
    let s = c.args in
    let w = words s.work.now in
    binding_meets s.file.now w s.at.entry s.at.binders s.at.lifts s.cells c.requires.1 (search rules) (search rules)
    (words c.use_binding.new.work)
    c.use_binding.result
    (subst (λ i. SaysUsed w (words c.use_binding.new.work) i s.at.entry s.at.lifts s.cells c.use_binding.result)
    c.binding_at.ensures
    c.use_binding.ensures)
