-- `step_box_exit::leave` meets its contract. Assumes nothing.
use native.Mathlib.Omega.{arith}
use Rattle.words.specs.Words.{words}
use Rattle.machine_nodes.specs.Nodes.{nodes_in}
use Rattle.words.specs.Quadwords.{quadwords_in}
use Rattle.machine_circuits.specs.Layout.{four_results}
use Rattle.step_box_exit.proofs.Laws.Exit.{exit_steps}
use Rattle.step_box_exit.proofs.leave.Goals as goal

pub put_constant-requires-clause-gates_le_most_gates : goal.put_constant-requires-clause-gates_le_most_gates
put_constant-requires-clause-gates_le_most_gates c = omega (arith, c.exit_at-exit.ensures.gates_are, c.requires)

pub returns : goal.returns
returns c =
    let a = c.args in
    let exit = c.exit_at-exit in
    let saved = c.save_among in
    let circuit = c.put_circuit in
    let constant = c.put_constant in
    λ ws allowance.
    exit_steps
    (nodes_in a.nodes.now)
    (nodes_in constant.new.nodes)
    (quadwords_in a.stack.now)
    (quadwords_in a.gates.now)
    (quadwords_in circuit.new.gates)
    (quadwords_in a.circuits.now)
    (quadwords_in circuit.new.circuits)
    (quadwords_in a.frames.now)
    ws
    (four_results (words a.results0.now) (words a.results1.now) (words a.results2.now) (words a.results3.now))
    (four_results
    (words saved.new.results0)
    (words saved.new.results1)
    (words saved.new.results2)
    (words saved.new.results3))
    a.numbers
    exit.result
    (omega (arith, c.requires))
    exit.ensures
    saved.ensures
    circuit.ensures
    constant.ensures.constant_put
    constant.result
    allowance
    constant.ensures.value
