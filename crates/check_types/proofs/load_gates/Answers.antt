-- `check_types::load_gates` meets its contract: the types of the gates below g are loaded. Assumes nothing.
use Rattle.rules.specs.Kinds.{qubit_kind, unit_kind}
use Prim.Native.Nat.{◌+◌}
use native.Mathlib.Omega.{arith}
use mathlib.Core.Path.{◌∙◌, ap, ap₂}
use Rattle.words.specs.Words.{words}
use Rattle.rules.specs.GateCodes.{type_entries, type_code}
use Rattle.check_types.specs.Load.{load_entry, load_codes}
use Rattle.check_types.specs.GateCells.{cell_of_unit, gate_start, gate_cells, load_gates}
use Rattle.check_types.proofs.Laws.GateCells.{gate_start_small, start_of_first, start_of_next, load_leaves}
use Rattle.check_types.proofs.Laws.GateCells.{load_next_gate}
use Rattle.check_types.proofs.load_gates.Goals as goal

pub loop-g-init : goal.loop-g-init
loop-g-init c = (start_of_first, λ w e. e)

pub load_gate-n-requires : goal.load_gate-n-requires
load_gate-n-requires c =
    let l = c.loop-g in
    omega (arith, gate_start_small l.g, l.invariant.0, c.loop-g-test.true)

pub loop-g-preserved : goal.loop-g-preserved
loop-g-preserved c =
    let l = c.loop-g in
    let r = c.load_gate-n.ensures in (
      r.value ∙ ap (λ x. x + type_entries l.g) l.invariant.0 ∙ start_of_next l.g,
      λ w e.
          r.work_after
          ∙ ap₂ (λ v x. load_codes v x (type_code l.g) 0 (type_entries l.g)) (l.invariant.1 w e) l.invariant.0
          ∙ load_next_gate w l.g,
    )

pub returns-clause-value : goal.returns-clause-value
unfolding gate_cells
returns-clause-value c =
    let l = c.loop-g in
    l.invariant.0 ∙ ap gate_start (omega (arith, c.loop-g-test.false))

pub returns-clause-work_after : goal.returns-clause-work_after
returns-clause-work_after c =
    let l = c.loop-g in
    let w = words c.args.work.now in
    let begun =
    c.load_entry-3.ensures.work_after
    ∙ ap (λ v. load_entry v cell_of_unit unit_kind) (c.load_entry-2.ensures.work_after ∙ ap (λ v. load_entry v 1 qubit_kind) c.load_entry.ensures.work_after)
    ∙ load_leaves w in
    l.invariant.1 w begun ∙ ap (λ i. load_gates w i) (omega (arith, c.loop-g-test.false))
