-- `step_box_entry::write_application` meets its contract. Assumes nothing.
use Prim.Native.Nat.{◌+◌}
use native.Mathlib.Omega.{arith}
use Rattle.machine_nodes.specs.Nodes.{nodes_in}
use Rattle.machine_nodes.proofs.Laws.Nodes.{length_nodes_in, node_put}
use Rattle.machine_nodes.proofs.Laws.Bytes.{nodes_copied}
use Rattle.machine_circuits.proofs.Laws.Tuples.{wires_few}
use Rattle.step_box_entry.proofs.Laws.Entry.{application_written}
use Rattle.step_box_entry.proofs.write_application.Goals as goal

pub overflow_add-to : goal.overflow_add-to
overflow_add-to c =
    omega (arith, c.requires.1, length_nodes_in c.args.nodes.now)

pub overflow_add-to-2 : goal.overflow_add-to-2
overflow_add-to-2 c =
    omega (arith, c.requires.1, length_nodes_in c.args.nodes.now)

pub overflow_add-to-3 : goal.overflow_add-to-3
overflow_add-to-3 c =
    omega (arith, c.requires.1, length_nodes_in c.args.nodes.now)

pub returns : goal.returns
returns c = λ T t wire_type stands whole body counted room small.
    let a = c.args in
    let e = a.entry in
    let h = c.requires in
    let ns = nodes_in a.nodes.now in
    let tuple = c.write_tuple-tuple.ensures T wire_type stands whole (omega arith) (omega (arith, wires_few T)) in
    application_written T t ns (nodes_in c.write_tuple-tuple.new.nodes) (nodes_in c.copy_nodes.new.nodes) (nodes_in c.put_node.new.nodes)
    (e.at + 2)
    e.count
    e.to
    c.write_tuple-tuple.result.labels
    c.write_tuple-tuple.result.nodes
    h.0
    body
    counted
    wire_type
    room
    tuple
    (nodes_copied _ _ _ _ _ c.copy_nodes.ensures)
    (node_put _ _ _ _ _ c.put_node.ensures)
