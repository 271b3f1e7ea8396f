-- `machine_walk::walk` meets its contract. The invariant: the memory holds a walk that ends where the first one does. The measure
-- is the number of moves left. Assumes nothing.
use mathlib.Core.Path.{refl, ◌∙◌}
use lib.ListN.{length}
use Rattle.machine_nodes.specs.Nodes.{nodes_in}
use Rattle.machine_nodes.proofs.Laws.Nodes.{same_nodes}
use Rattle.words.specs.Quadwords.{quadwords_in}
use Rattle.machine_walk.proofs.Laws.Functions.{reaches_none, reaches_more, reaches_stop, falls_on}
use Rattle.machine_walk.proofs.walk.Goals as goal

pub loop-next-init : goal.loop-next-init
loop-next-init c =
    let a = c.args in
    (reaches_none (nodes_in a.nodes.now) (quadwords_in a.stack.now) a.place, refl, refl)

pub loop-next-smaller : goal.loop-next-smaller
loop-next-smaller c =
    let a = c.args in
    let l = c.loop-next in
    let n = length (nodes_in a.nodes.now) in
    falls_on (length (nodes_in l.nodes)) n l.now c.in-Continue.next c.move_once.result
    (same_nodes a.nodes.now l.nodes l.invariant.1)
    c.move_once.ensures.falls
    c.in-Continue.is

pub loop-next-preserved : goal.loop-next-preserved
loop-next-preserved c =
    let a = c.args in
    let l = c.loop-next in
    let t = c.move_once in (
      reaches_more (nodes_in a.nodes.now) (quadwords_in a.stack.now) a.place
          (nodes_in l.nodes)
          (nodes_in t.new.nodes)
          (quadwords_in l.stack)
          (quadwords_in t.new.stack)
          l.now
          t.result
          c.in-Continue.next
          l.invariant.0
          t.ensures.moves
          c.in-Continue.is,
      t.auto.nodes ∙ l.invariant.1,
      t.auto.stack ∙ l.invariant.2,
    )

pub shape_of-nodes-in-Break : goal.shape_of-nodes-in-Break
shape_of-nodes-in-Break c = c.move_once.auto.nodes ∙ c.loop-next.invariant.1

pub shape_of-stack-in-Break : goal.shape_of-stack-in-Break
shape_of-stack-in-Break c = c.move_once.auto.stack ∙ c.loop-next.invariant.2

pub returns-in-Break : goal.returns-in-Break
returns-in-Break c =
    let a = c.args in
    let l = c.loop-next in
    let t = c.move_once in
    reaches_stop (nodes_in a.nodes.now) (quadwords_in a.stack.now) a.place
    (nodes_in l.nodes)
    (nodes_in t.new.nodes)
    (quadwords_in l.stack)
    (quadwords_in t.new.stack)
    l.now
    t.result
    c.in-Break.stop
    l.invariant.0
    t.ensures.moves
    c.in-Break.is
