-- `step_reductions::application` meets its contract. Assumes nothing.
use Prim.Native.Nat.{◌+◌}
use mathlib.Core.Path.{◌≡◌, ◌∙◌, ap}
use lib.ListN.{length}
use Rattle.words.specs.Words.{words}
use Rattle.machine_nodes.specs.Nodes.{nodes_in}
use Rattle.machine_nodes.proofs.Laws.Bytes.{nodes_copied}
use Rattle.words.specs.Quadwords.{quadwords_in, quadword_at}
use Rattle.machine_walk.specs.Stack.{stack_node, stack_start}
use Rattle.machine_substitution.proofs.Laws.Contractions.{application_body}
use Rattle.machine_substitution.specs.declared.Region.{Region}
use Rattle.step_reductions.proofs.Laws.Reductions.{application_refused, application_taken}
use Rattle.step_reductions.proofs.application.Goals as goal

pub returns-in_err-count : goal.returns-in_err-count
returns-in_err-count c =
    let a = c.args in
    let ns = nodes_in a.nodes.now in
    let ns₁ = nodes_in c.write_reduct.new.nodes in
    let rs = quadwords_in a.stack.now in
    let r = a.numbers in
    let top = c.saturating_sub-top.ensures in
    let at = c.stack_node-at.result in
    let second = c.stack_start-start.result in
    let source : Region = record { start = at + 2; length = c.saturating_sub.result } in
    let at_is = c.stack_node-at.ensures.value ∙ ap (λ i. stack_node (quadword_at rs i)) top in
    let second_is = c.stack_start-start.ensures.value ∙ ap (λ i. stack_start (quadword_at rs i)) top in
    let source_is : source ≡ application_body at second = cc c.saturating_sub.ensures in
    λ enough.
    rw c.from_residual.ensures
    (application_refused ns ns₁ rs r at second source c.applied_to-values.result c.most_between-most.result at_is second_is source_is
    c.applied_to-values.ensures c.most_between-most.ensures (length (words a.waiting.now)) enough c.write_reduct.result
    c.write_reduct.ensures c.in_err-count.was)

pub returns : goal.returns
returns c =
    let a = c.args in
    let ns = nodes_in a.nodes.now in
    let ns₁ = nodes_in c.write_reduct.new.nodes in
    let rs = quadwords_in a.stack.now in
    let r = a.numbers in
    let top = c.saturating_sub-top.ensures in
    let at = c.stack_node-at.result in
    let second = c.stack_start-start.result in
    let source : Region = record { start = at + 2; length = c.saturating_sub.result } in
    let at_is = c.stack_node-at.ensures.value ∙ ap (λ i. stack_node (quadword_at rs i)) top in
    let second_is = c.stack_start-start.ensures.value ∙ ap (λ i. stack_start (quadword_at rs i)) top in
    let source_is : source ≡ application_body at second = cc c.saturating_sub.ensures in
    let ns' = nodes_in c.copy_nodes.new.nodes in
    let to = c.saturating_sub-to.result in
    λ enough.
    rw c.taken.ensures
    (application_taken ns ns₁ rs r at second source c.applied_to-values.result c.most_between-most.result at_is second_is source_is
    c.applied_to-values.ensures c.most_between-most.ensures (length (words a.waiting.now)) enough c.write_reduct.result
    c.write_reduct.ensures ns' c.in_ok-count.count to c.in_ok-count.was c.saturating_sub-to.ensures (nodes_copied _ _ _ _ _ c.copy_nodes.ensures))
