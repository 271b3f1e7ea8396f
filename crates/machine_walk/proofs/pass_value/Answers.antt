-- `machine_walk::pass_value` meets its contract. Assumes nothing.
use native.Mathlib.Omega.{arith}
use mathlib.Core.Logic.{inl}
use lib.ListN.{drop, length-drop}
use Rattle.machine_terms.specs.Trees.{Node}
use Rattle.machine_nodes.specs.Nodes.{nodes_in}
use Rattle.machine_nodes.proofs.Laws.Bytes.{nodes_copied}
use Rattle.machine_nodes.specs.Spans.{asked}
use Rattle.machine_nodes.proofs.Laws.Spans.{at_most_all}
use Rattle.machine_walk.proofs.Laws.Functions.{value_moves, value_falls}
use Rattle.machine_walk.proofs.pass_value.Goals as goal

pub returns : goal.returns
returns c =
    let a = c.args in
    let p = a.place in
    let h = c.requires in
    let ns = nodes_in a.nodes.now in
    let ns' = nodes_in c.copy_nodes.new.nodes in
    let end = c.subtree_end-end.result in
    let q = c.subtree_end-end.ensures in
    let most = at_most_all Node asked (drop p.right ns) 1 in
    let rest = length-drop p.right ns in
    let inside = h.inside in
    let moved = nodes_copied _ _ _ _ _ c.copy_nodes.ensures (inl h.apart) (omega (arith, q)) (omega (arith, q, h.apart)) in
    record { moves = value_moves ns ns' p end h q moved; falls = value_falls ns ns' p end h q }
