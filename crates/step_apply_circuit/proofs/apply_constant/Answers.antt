-- `step_apply_circuit::apply_constant` meets its contract. Assumes nothing.
use native.Mathlib.Omega.{arith}
use mathlib.Core.Path.{refl}
use lib.ListN.{length}
use Rattle.words.specs.Words.{words}
use Rattle.machine_nodes.specs.Nodes.{nodes_in}
use Rattle.machine_nodes.proofs.Laws.Nodes.{length_nodes_in}
use Rattle.words.specs.Quadwords.{quadwords_in}
use Rattle.machine_circuits.specs.Layout.{four_results}
use Rattle.machine_circuits.proofs.Laws.Writing.{ne_zero}
use Rattle.step_apply_circuit.specs.Redexes.{Room}
use Rattle.step_apply_circuit.proofs.Laws.Outcomes.{constant_refused}
use Rattle.step_apply_circuit.proofs.apply_constant.Goals as goal

pub append_constant-requires : goal.append_constant-requires
append_constant-requires c =
    let a = c.args in
    let room = c.if-not-has_room.ensures.room refl in
    record {
      deep = ne_zero a.numbers.place.depth c.if-place-eq0.false;
      framed = ne_zero a.numbers.counts.frames c.if-counts-eq0.false;
      argument_before = room.argument_before;
      gap = room.gap;
      wires_within = omega (arith, c.read_redex-redex.ensures.next_low, room.few_made);
      gates_within = omega (arith, room.gates_fit, c.ranges.allowance);
    }

pub returns-then-not-has_room : goal.returns-then-not-has_room
returns-then-not-has_room c = λ wide ws other.
    let a = c.args in
    let x = c.read_redex-redex.result in
    let full : Room x a.numbers (length (nodes_in a.nodes.now)) a.allowance → ⊥
    = rw (length_nodes_in a.nodes.now) (c.if-not-has_room.ensures.no_room refl) in
    constant_refused (nodes_in a.nodes.now) (quadwords_in a.stack.now) (quadwords_in a.gates.now) (quadwords_in a.circuits.now)
    (quadwords_in a.frames.now)
    ws
    (four_results (words a.results0.now) (words a.results1.now) (words a.results2.now) (words a.results3.now))
    x
    a.numbers
    a.allowance
    c.read_redex-redex.ensures
    full
    other

pub returns : goal.returns
returns c = λ wide ws other.
    let a = c.args in
    let x = c.read_redex-redex.result in
    let room : Room x a.numbers (length (nodes_in a.nodes.now)) a.allowance
    = rw (length_nodes_in a.nodes.now) (c.if-not-has_room.ensures.room refl) in
    c.append_constant.ensures (quadwords_in a.stack.now) (quadwords_in a.circuits.now) ws a.allowance c.read_redex-redex.ensures
    room
    wide
    other
