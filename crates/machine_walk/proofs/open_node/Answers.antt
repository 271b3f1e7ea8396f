-- `machine_walk::open_node` meets its contract. Assumes nothing.
use native.Mathlib.Omega.{arith}
use mathlib.Core.Logic.{inl}
use Rattle.machine_nodes.specs.Nodes.{nodes_in}
use Rattle.machine_nodes.proofs.Laws.Nodes.{length_nodes_in}
use Rattle.machine_nodes.proofs.Laws.Bytes.{nodes_copied}
use Rattle.words.specs.Quadwords.{quadwords_in}
use Rattle.words.proofs.Laws.Quadwords.{length_quadwords_in, quadword_put}
use Rattle.machine_walk.proofs.Laws.Functions.{open_moves, no_entry_there}
use Rattle.std.specs.declared.ops.ControlFlow.TheVariants.{Break}
use Rattle.machine_walk.specs.declared.Stop.TheVariants.{AtVariable}
use Rattle.machine_walk.proofs.open_node.Goals as goal

pub returns-then-stack-depth-clause-moves : goal.returns-then-stack-depth-clause-moves
returns-then-stack-depth-clause-moves c =
    let a = c.args in
    let m = a.stack.now in
    no_entry_there (nodes_in a.nodes.now) (quadwords_in m) a.place c.requires.evaluates.mode
    (omega (arith, length_quadwords_in m, c.if-stack-depth.true))
    (Break AtVariable)

pub overflow_add-result : goal.overflow_add-result
overflow_add-result c = omega (arith, c.requires.evaluates.apart, c.requires.evaluates.inside, length_nodes_in c.args.nodes.now)

pub overflow_add-result-2 : goal.overflow_add-result-2
overflow_add-result-2 c = omega (arith, c.requires.evaluates.inside, length_nodes_in c.args.nodes.now)

pub returns-clause-moves : goal.returns-clause-moves
returns-clause-moves c =
    let a = c.args in
    let p = a.place in
    let h = c.requires.evaluates in
    let ns = nodes_in a.nodes.now in
    let ns' = nodes_in c.copy_nodes.new.nodes in
    let inside = h.inside in
    let moved = nodes_copied _ _ _ _ _ c.copy_nodes.ensures (inl h.apart) (omega arith) (omega (arith, h.apart)) in
    open_moves ns ns' p a.tag (quadwords_in a.stack.now) (quadwords_in c.put_quadword.new.buffer) c.requires.tag_bound h moved
    (quadword_put _ _ _ _ _ _ _ c.put_quadword.ensures)
