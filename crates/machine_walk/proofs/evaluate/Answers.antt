-- `machine_walk::evaluate` meets its contract. Assumes nothing.
use native.Mathlib.Omega.{arith}
use Rattle.machine_nodes.specs.Nodes.{nodes_in}
use Rattle.machine_nodes.proofs.Laws.Nodes.{length_nodes_in}
use Rattle.words.specs.Quadwords.{quadwords_in}
use Rattle.machine_walk.specs.declared.Head.TheVariants.{Value, OnePart, TwoParts, Neither}
use Rattle.machine_walk.proofs.Laws.Functions.{evaluates_by, neither_moves, no_node_there, no_gap_there}
use Rattle.std.specs.declared.ops.ControlFlow.TheVariants.{Break}
use Rattle.machine_walk.specs.declared.Stop.TheVariants.{AtVariable}
use Rattle.machine_walk.proofs.evaluate.Goals.{then-nodes-right-via-then-nodes-right, then-nodes-right-via-else-nodes-right+then-right-place}
use Rattle.machine_walk.proofs.evaluate.Goals as goal

pub returns-then-nodes-right-clause-moves : goal.returns-then-nodes-right-clause-moves
returns-then-nodes-right-clause-moves c =
    let a = c.args in
    let m = a.nodes.now in
    let ns = nodes_in m in
    let rs = quadwords_in a.stack.now in
    elim c.then-nodes-right.branch [
      | then-nodes-right-via-then-nodes-right w ↦
          no_node_there ns rs a.place c.requires (omega (arith, length_nodes_in m, w.if-nodes-right.true)) (Break AtVariable)
      | then-nodes-right-via-else-nodes-right+then-right-place w ↦
          no_gap_there ns rs a.place c.requires w.if-right-place.true (Break AtVariable)
    ]

pub pass_value-requires : goal.pass_value-requires
pass_value-requires c =
    let a = c.args in
    evaluates_by a.nodes.now a.place c.kind_at.result c.head_of.result Value c.requires c.if-nodes-right.false c.if-right-place.false
    c.kind_at.ensures.value
    c.head_of.ensures
    c.in-Value.is

pub open_node-requires-clause-evaluates : goal.open_node-requires-clause-evaluates
open_node-requires-clause-evaluates c =
    let a = c.args in
    evaluates_by a.nodes.now a.place c.kind_at.result c.head_of.result OnePart c.requires c.if-nodes-right.false c.if-right-place.false
    c.kind_at.ensures.value
    c.head_of.ensures
    c.in-OnePart.is

pub open_node-requires-in-TwoParts-clause-evaluates : goal.open_node-requires-in-TwoParts-clause-evaluates
open_node-requires-in-TwoParts-clause-evaluates c =
    let a = c.args in
    evaluates_by a.nodes.now a.place c.kind_at.result c.head_of.result TwoParts c.requires c.if-nodes-right.false c.if-right-place.false
    c.kind_at.ensures.value
    c.head_of.ensures
    c.in-TwoParts.is

pub returns-in-Neither-clause-moves : goal.returns-in-Neither-clause-moves
returns-in-Neither-clause-moves c =
    let a = c.args in
    neither_moves (nodes_in a.nodes.now) (quadwords_in a.stack.now) a.place
    (evaluates_by a.nodes.now a.place c.kind_at.result c.head_of.result Neither c.requires c.if-nodes-right.false c.if-right-place.false
    c.kind_at.ensures.value
    c.head_of.ensures
    c.in-Neither.is)
