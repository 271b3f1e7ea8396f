-- `step_box_entry::measure` meets its contract. Assumes nothing.
use Prim.Native.Nat.{ℕ, ◌/◌}
use native.Mathlib.Omega.{arith}
use mathlib.Core.Path.{sym, ◌∙◌, ap}
use lib.ListN.{length, drop, length-drop}
use Rattle.words.specs.Words.{words}
use Rattle.words.proofs.Laws.Words.{length_words}
use Rattle.machine_nodes.specs.Nodes.{nodes_in}
use Rattle.machine_nodes.proofs.Laws.Nodes.{length_nodes_in}
use Rattle.words.specs.Quadwords.{quadwords_in, quadword_at}
use Rattle.machine_walk.specs.Stack.{stack_node}
use Rattle.rules.specs.Parts.{parts_of_kind}
use Rattle.machine_nodes.proofs.Laws.Spans.{at_most_all}
use Rattle.step_box_entry.proofs.Laws.Entry.{measured_fits, measured_exceeds}
use Rattle.step_box_entry.proofs.measure.Goals as goal

pub overflow_add-new-2 : goal.overflow_add-new-2
overflow_add-new-2 c =
    let a = c.args in
    let ws = words a.types.now in
    omega (
      arith,
      c.type_size-size.ensures,
      at_most_all ℕ parts_of_kind (drop c.argument_at-position.result ws) 1,
      length-drop c.argument_at-position.result ws,
      length_words a.types.now,
      c.in_ok-count.ensures,
      c.if-left-gt-MOST_NODES.false,
    )

pub returns-then-not-has_room : goal.returns-then-not-has_room
returns-then-not-has_room c =
    let a = c.args in
    let rs = quadwords_in a.stack.now in
    let top = c.in_ok-checked_sub.ensures in
    let count = c.in_ok-count.ensures in
    measured_exceeds (nodes_in a.nodes.now) rs (words a.types.now) a.place (length a.nodes.now / 4) c.stack_node-at.result
    c.argument_at-position.result c.type_size-size.result c.in_ok-count.count
    (sym (length_nodes_in a.nodes.now))
    (omega (arith, top.0))
    (c.stack_node-at.ensures.value ∙ ap (λ i. stack_node (quadword_at rs i)) top.1)
    c.argument_at-position.ensures.value
    c.type_size-size.ensures
    count.0
    count.1
    c.if-not-has_room.ensures

pub returns : goal.returns
returns c =
    let a = c.args in
    let rs = quadwords_in a.stack.now in
    let top = c.in_ok-checked_sub.ensures in
    let count = c.in_ok-count.ensures in
    measured_fits (nodes_in a.nodes.now) rs (words a.types.now) a.place (length a.nodes.now / 4) c.stack_node-at.result
    c.argument_at-position.result c.type_size-size.result c.in_ok-count.count
    (sym (length_nodes_in a.nodes.now))
    (omega (arith, top.0))
    (c.stack_node-at.ensures.value ∙ ap (λ i. stack_node (quadword_at rs i)) top.1)
    c.argument_at-position.ensures.value
    c.type_size-size.ensures
    count.0
    count.1
    c.if-not-has_room.ensures
