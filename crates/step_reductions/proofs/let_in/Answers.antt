-- `step_reductions::let_in` meets its contract. Assumes nothing.
use mathlib.Core.Path.{refl, ◌∙◌, ap}
use lib.ListN.{length}
use Rattle.words.specs.Words.{words}
use Rattle.machine_nodes.specs.Nodes.{nodes_in}
use Rattle.machine_nodes.proofs.Laws.Bytes.{nodes_copied}
use Rattle.words.specs.Quadwords.{quadwords_in, quadword_at}
use Rattle.machine_walk.specs.Stack.{stack_node}
use Rattle.machine_substitution.proofs.Laws.Contractions.{let_body}
use Rattle.step_reductions.proofs.Laws.Reductions.{let_refused, let_taken}
use Rattle.step_reductions.proofs.let_in.Goals as goal

pub returns-in_err-count : goal.returns-in_err-count
returns-in_err-count c =
    let a = c.args in
    let ns = nodes_in a.nodes.now in
    let ns₁ = nodes_in c.write_reduct.new.nodes in
    let rs = quadwords_in a.stack.now in
    let r = a.numbers in
    let at = c.stack_node-at.result in
    let k = c.saturating_sub-2.result in
    let source = let_body r.place.right k in
    let at_is = c.stack_node-at.ensures.value ∙ ap (λ i. stack_node (quadword_at rs i)) c.saturating_sub.ensures in
    λ enough.
    rw c.from_residual.ensures
    (let_refused ns ns₁ rs r at c.subtree_end-middle.result c.subtree_end-next.result k source c.halves-values.result
    c.most_between-most.result at_is c.subtree_end-middle.ensures c.subtree_end-next.ensures c.saturating_sub-2.ensures refl c.halves-values.ensures
    c.most_between-most.ensures (length (words a.waiting.now)) enough c.write_reduct.result c.write_reduct.ensures
    c.in_err-count.was)

pub returns : goal.returns
returns c =
    let a = c.args in
    let ns = nodes_in a.nodes.now in
    let ns₁ = nodes_in c.write_reduct.new.nodes in
    let rs = quadwords_in a.stack.now in
    let r = a.numbers in
    let at = c.stack_node-at.result in
    let k = c.saturating_sub-2.result in
    let source = let_body r.place.right k in
    let at_is = c.stack_node-at.ensures.value ∙ ap (λ i. stack_node (quadword_at rs i)) c.saturating_sub.ensures in
    let ns' = nodes_in c.copy_nodes.new.nodes in
    let to = c.saturating_sub-to.result in
    λ enough.
    rw c.taken.ensures
    (let_taken ns ns₁ rs r at c.subtree_end-middle.result c.subtree_end-next.result k source c.halves-values.result
    c.most_between-most.result at_is c.subtree_end-middle.ensures c.subtree_end-next.ensures c.saturating_sub-2.ensures refl c.halves-values.ensures
    c.most_between-most.ensures (length (words a.waiting.now)) enough c.write_reduct.result c.write_reduct.ensures ns'
    c.in_ok-count.count to c.in_ok-count.was c.saturating_sub-to.ensures (nodes_copied _ _ _ _ _ c.copy_nodes.ensures))
