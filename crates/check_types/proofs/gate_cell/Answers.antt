-- `check_types::gate_cell` meets its contract: n cells come before those of gate k. Assumes nothing.
use Prim.Native.Nat.{◌+◌, ◌-◌}
use native.Mathlib.Omega.{arith}
use mathlib.Core.Path.{◌≡◌, sym, ◌∙◌, ap, ap₂}
use Rattle.check_types.specs.GateCells.{gate_start}
use Rattle.check_types.proofs.Laws.GateCells.{gate_start_small, gate_start_positive, few_entries, start_of_first}
use Rattle.check_types.proofs.Laws.GateCells.{start_of_next, gate_below, cell_of_gate, cell_of_no_gate}
use Rattle.check_types.proofs.gate_cell.Goals as goal

pub returns-then-not-is_gate : goal.returns-then-not-is_gate
returns-then-not-is_gate c = cell_of_no_gate c.args.g (sym c.is_gate.ensures ∙ c.if-not-is_gate.true)

pub overflow_add-n : goal.overflow_add-n
overflow_add-n c =
    let l = c.loop-k in
    let below = gate_below c.args.g (sym c.is_gate.ensures ∙ c.if-not-is_gate.false) in
    omega (arith, gate_start_small l.k, few_entries l.k, l.invariant, c.loop-k-test.true, c.type_entries-n.ensures)

pub loop-k-init : goal.loop-k-init
loop-k-init c = start_of_first

pub loop-k-preserved : goal.loop-k-preserved
loop-k-preserved c =
    let l = c.loop-k in
    ap₂ (λ x y. x + y) l.invariant c.type_entries-n.ensures ∙ start_of_next l.k

pub overflow_add-result : goal.overflow_add-result
overflow_add-result c =
    let l = c.loop-k in
    let g = c.args.g in
    let below = gate_below g (sym c.is_gate.ensures ∙ c.if-not-is_gate.false) in
    omega (arith, gate_start_small l.k, few_entries g, l.auto.k-end, l.invariant, c.type_entries.ensures)

pub overflow_sub-result : goal.overflow_sub-result
overflow_sub-result c = omega (arith, gate_start_positive c.loop-k.k, c.loop-k.invariant)

pub returns : goal.returns
returns c =
    let l = c.loop-k in
    let g = c.args.g in
    let gate = sym c.is_gate.ensures ∙ c.if-not-is_gate.false in
    let all : l.k ≡ g = omega (arith, l.auto.k-end, c.loop-k-test.false) in
    ap₂ (λ x y. x + y - 1) (l.invariant ∙ ap gate_start all) c.type_entries.ensures ∙ cell_of_gate g gate
