-- `machine_load::load_terms` meets its contract. The invariant: the first i entries are written. Assumes nothing.
use native.Mathlib.Omega.{arith}
use Rattle.machine_nodes.specs.Nodes.{nodes_in}
use Rattle.machine_nodes.proofs.Laws.Nodes.{length_nodes_in, node_put}
use Rattle.machine_load.specs.Trees.{node_from}
use Rattle.machine_load.proofs.Laws.Writing.{none_written, node_written}
use Rattle.machine_load.proofs.load_terms.Goals as goal

pub loop-i-init : goal.loop-i-init
loop-i-init c =
    let s = c.args in
    none_written (node_from s.file.now) (nodes_in s.nodes.now) s.first s.to

pub overflow_add-to : goal.overflow_add-to
overflow_add-to c =
    let s = c.args in
    omega (arith, length_nodes_in s.nodes.now)

pub loop-i-preserved : goal.loop-i-preserved
loop-i-preserved c =
    let s = c.args in
    let l = c.loop-i in
    let kind = c.kind_at-kind in
    let a = c.argument_at-argument in
    let put = c.put_node in
    node_written s.file.now (nodes_in s.nodes.now) (nodes_in l.nodes) (nodes_in put.new.nodes)
    s.first s.to s.terms l.i kind.result a.result
    c.requires.3
    c.loop-i-test.true
    l.invariant
    kind.ensures.value
    (omega (arith, kind.ensures.upper_bound))
    a.ensures.value
    a.ensures.upper_bound
    (node_put _ _ _ _ _ put.ensures)
