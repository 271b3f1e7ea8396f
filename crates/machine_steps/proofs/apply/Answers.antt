-- `machine_steps::apply` meets its contract: that of the one of the two which the applied node says. Assumes nothing.
use Prim.Native.Nat.{◌+◌}
use mathlib.Core.Path.{◌∙◌, ap}
use Rattle.machine_terms.specs.Trees.{kind}
use Rattle.machine_nodes.specs.Nodes.{nodes_in, node_at}
use Rattle.words.specs.Quadwords.{quadwords_in, quadword_at}
use Rattle.machine_walk.specs.Stack.{stack_node}
use Rattle.machine_steps.proofs.apply.Goals as goal

pub returns-else-kind_at-eq-GATE-clause-steps : goal.returns-else-kind_at-eq-GATE-clause-steps
returns-else-kind_at-eq-GATE-clause-steps c = λ room ws.
    let b = c.args.buffers.now in
    let ns = nodes_in b.nodes.now in
    let rs = quadwords_in b.stack.now in
    c.apply_constant.ensures room ws
    (λ e.
    c.if-kind_at-eq-GATE.false
    (c.kind_at.ensures.value
    ∙ ap (λ x. kind (node_at ns (x + 1)))
    (c.stack_node-at.ensures.value ∙ ap (λ i. stack_node (quadword_at rs i)) c.in_ok-top.ensures.1)
    ∙ e))
