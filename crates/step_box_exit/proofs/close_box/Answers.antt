-- `step_box_exit::close_box` meets its contract. Assumes nothing.
use native.Mathlib.Omega.{arith}
use Rattle.words.specs.Words.{words}
use Rattle.machine_nodes.specs.Nodes.{nodes_in}
use Rattle.words.specs.Quadwords.{quadwords_in}
use Rattle.machine_circuits.specs.Layout.{four_results}
use Rattle.machine_state.specs.Memory.{memory}
use Rattle.step_box_exit.proofs.Laws.Exit.{exit_refused}
use Rattle.step_box_exit.proofs.close_box.Goals as goal

pub returns-then-counts-ge-MOST_BOXES : goal.returns-then-counts-ge-MOST_BOXES
returns-then-counts-ge-MOST_BOXES c =
    let a = c.args in
    let results = four_results (words a.results0.now) (words a.results1.now) (words a.results2.now) (words a.results3.now) in
    λ ws allowance.
    exit_refused
    (memory (nodes_in a.nodes.now) (quadwords_in a.stack.now) (quadwords_in a.gates.now) (quadwords_in a.circuits.now)
    (quadwords_in a.frames.now) ws results)
    a.numbers
    allowance
    (omega (arith, c.then-counts-ge-MOST_BOXES.either))
