-- `step_reductions::force` meets its contract. Assumes nothing.
use mathlib.Core.Path.{◌∙◌, ap}
use Rattle.machine_nodes.specs.Nodes.{nodes_in}
use Rattle.machine_nodes.proofs.Laws.Bytes.{nodes_copied}
use Rattle.words.specs.Quadwords.{quadwords_in, quadword_at}
use Rattle.machine_walk.specs.Stack.{stack_node}
use Rattle.step_reductions.proofs.Laws.Reductions.{force_steps}
use Rattle.step_reductions.proofs.force.Goals as goal

pub returns : goal.returns
returns c =
    let a = c.args in
    let ns = nodes_in a.nodes.now in
    let rs = quadwords_in a.stack.now in
    let r = a.numbers in
    let ns' = nodes_in c.copy_nodes.new.nodes in
    let at = c.stack_node-at.result in
    let to = c.saturating_sub-to.result in
    rw c.taken.ensures
    (force_steps ns ns' rs r at c.saturating_sub-count.result to
    (c.stack_node-at.ensures.value ∙ ap (λ i. stack_node (quadword_at rs i)) c.saturating_sub.ensures)
    c.saturating_sub-count.ensures
    c.saturating_sub-to.ensures
    (nodes_copied _ _ _ _ _ c.copy_nodes.ensures))
