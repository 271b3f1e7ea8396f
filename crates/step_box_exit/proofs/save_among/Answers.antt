-- `step_box_exit::save_among` meets its contract. Assumes nothing.
use native.Mathlib.Omega.{arith}
use Rattle.words.specs.Words.{words}
use Rattle.machine_nodes.specs.Nodes.{nodes_in}
use Rattle.machine_circuits.specs.Layout.{four_results}
use Rattle.machine_circuits.proofs.Laws.Held.{others_kept₃}
use Rattle.step_box_exit.proofs.Laws.Exit.{saves_in}
use Rattle.step_box_exit.proofs.save_among.Goals as goal

pub returns-in_default : goal.returns-in_default
returns-in_default c =
    let a = c.args in
    let ns = nodes_in a.nodes.now in
    let r₀ = words a.results0.now in
    let r₁ = words a.results1.now in
    let r₂ = words a.results2.now in
    let r₃ = words a.results3.now in
    let x = words c.save_result-in_default.new.res in
    let buffer = c.result_buffer.ensures in
    saves_in ns a.exit (four_results r₀ r₁ r₂ r₃) (four_results r₀ r₁ r₂ x) a.i 3 c.result_start-from.result
    (λ few. omega (arith, buffer))
    c.result_start-from.ensures
    c.save_result-in_default.ensures
    (others_kept₃ r₀ r₁ r₂ r₃ x)
