-- `step_apply_gate::apply_gate` meets its contract: each of its ends is one of the three of GateSteps. Assumes nothing.
use Prim.Native.Nat.{◌+◌, ◌≤◌, ◌<◌}
use native.Mathlib.Omega.{arith}
use mathlib.Core.Path.{sym, ◌∙◌, ap}
use borrow.Author.Tests.{ltb-true, ltb-false}
use Rattle.rules.specs.Sizes.{most_nodes}
use Rattle.words.specs.Words.{words}
use Rattle.machine_nodes.specs.Nodes.{nodes_in}
use Rattle.machine_nodes.proofs.Laws.Nodes.{length_nodes_in}
use Rattle.words.specs.Quadwords.{quadword_at, quadwords_in}
use Rattle.machine_walk.specs.Stack.{stack_node, stack_start}
use Rattle.machine_state.specs.Memory.{memory}
use Rattle.step_apply_gate.proofs.Laws.Stepping.{nodes_refused, gates_refused, gate_taken}
use Rattle.step_apply_gate.proofs.apply_gate.Goals.{then-exceed-via-then-exceed, then-exceed-via-else-exceed+then-exceed-2}
use Rattle.step_apply_gate.proofs.apply_gate.Goals as goal

pub returns-then-exceed : goal.returns-then-exceed
returns-then-exceed c = λ room cs ws results e.
    let a = c.args in
    let r = a.numbers in
    let ns = nodes_in a.nodes.now in
    let rs = quadwords_in a.stack.now in
    let m = memory ns rs (quadwords_in a.gates.now) cs (quadwords_in a.frames.now) ws results in
    let at = c.stack_node-at in
    let size = c.output_size-size in
    let rest = c.saturating_sub-rest in
    elim c.then-exceed.branch [
      | then-exceed-via-then-exceed w ↦
          let many : most_nodes < at.result + size.result + rest.result
          = ltb-true most_nodes (at.result + size.result + rest.result) (sym c.exceed.ensures ∙ w.if-exceed.true) in
          nodes_refused m r a.allowance at.result c.argument_at-number.result size.result e
          (at.ensures.value ∙ ap (λ d. stack_node (quadword_at rs d)) c.saturating_sub-depth.ensures)
          c.argument_at-number.ensures.value
          size.ensures
          (omega (arith, many, rest.ensures, length_nodes_in a.nodes.now))
      | then-exceed-via-else-exceed+then-exceed-2 w ↦
          gates_refused m r a.allowance e
          (omega (arith, ltb-true _ _ (sym w.exceed-else-exceed.ensures ∙ w.if-exceed-2.true)))
    ]

pub returns : goal.returns
returns c = λ room cs ws results e.
    let a = c.args in
    let r = a.numbers in
    let ns = nodes_in a.nodes.now in
    let rs = quadwords_in a.stack.now in
    let m = memory ns rs (quadwords_in a.gates.now) cs (quadwords_in a.frames.now) ws results in
    let at = c.stack_node-at in
    let start = c.stack_start-start in
    let number = c.argument_at-number in
    let size = c.output_size-size in
    let rest = c.saturating_sub-rest in
    let deep = c.saturating_sub-depth in
    let count = c.saturating_sub-count in
    let right = c.saturating_sub-right in
    let frame = c.saturating_sub-frame in
    let few : at.result + size.result + rest.result ≤ most_nodes
    = ltb-false most_nodes (at.result + size.result + rest.result)
    (sym c.exceed.ensures ∙ c.if-exceed.false) in
    let below : r.counts.gates + r.counts.kept + 1 ≤ a.allowance
    = omega (arith, ltb-false _ _ (sym c.exceed-else-exceed.ensures ∙ c.if-exceed-2.false)) in
    gate_taken m r a.allowance (nodes_in c.put_outputs.new.nodes) (quadwords_in c.put_gate.new.gates)
    (quadwords_in c.put_outputs.new.frames)
    (words a.labels.now)
    at.result
    start.result
    number.result
    size.result
    right.result
    count.result
    deep.result
    frame.result
    e
    record {
      at_is = at.ensures.value ∙ ap (λ d. stack_node (quadword_at rs d)) deep.ensures;
      start_is = start.ensures.value ∙ ap (λ d. stack_start (quadword_at rs d)) deep.ensures;
      number_is = number.ensures.value;
      wide_is = size.ensures;
      from_is = right.ensures;
      count_is = count.ensures;
      depth_is = deep.ensures;
      frame_is = frame.ensures;
    }
    room
    (omega (arith, few, rest.ensures, length_nodes_in a.nodes.now))
    below
    c.put_gate.ensures
    c.put_outputs.ensures
