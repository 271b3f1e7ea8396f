-- `machine_walk::return_value` meets its contract: by the tag of the entry on top. Assumes nothing.
use Rattle.std.specs.Prelude.{length}
use Rattle.machine_nodes.specs.Nodes.{nodes_in}
use Rattle.words.specs.Quadwords.{quadwords_in}
use Rattle.machine_walk.proofs.Laws.Functions.{returns_to, only_moves}
use Rattle.machine_walk.proofs.return_value.Goals as goal

pub returns-in-0-clause-moves : goal.returns-in-0-clause-moves
returns-in-0-clause-moves c =
    let a = c.args in
    let rs = quadwords_in a.stack.now in
    let e = returns_to rs a.place c.stack_tag-tag.result 0 c.stack_node-at.result c.requires c.if-depth-eq0.false
    c.stack_tag-tag.ensures.value
    c.in-0.is
    c.stack_node-at.ensures.value in
    only_moves rs a.place c.stack_node-at.result c.kind_at-kind.result c.stop_one.result e c.stop_one.ensures (nodes_in a.nodes.now)
    c.kind_at-kind.ensures.value

pub returns-in-1-clause-falls : goal.returns-in-1-clause-falls
returns-in-1-clause-falls c = c.return_first.ensures.by_index (length (nodes_in c.args.nodes.now))

pub returns-in-2-clause-falls : goal.returns-in-2-clause-falls
returns-in-2-clause-falls c = c.return_second.ensures.by_index (length (nodes_in c.args.nodes.now))
