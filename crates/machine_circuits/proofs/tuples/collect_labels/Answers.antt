-- `machine_circuits::tuples::collect_labels` meets its contract. The invariant: the first words are the labels of the nodes passed.
-- Assumes nothing.
use Prim.Native.Nat.{◌+◌, ◌/◌, ◌<◌}
use native.Mathlib.Omega.{arith}
use mathlib.Core.Path.{◌≡◌, sym, ◌∙◌, ap}
use mathlib.Core.List.{[], ◌∷◌, ◌++◌}
use lib.ListN.{length, length-append}
use Rattle.words.specs.Words.{words}
use Rattle.words.proofs.Laws.Words.{same_words, word_put}
use Rattle.machine_nodes.specs.Nodes.{nodes_in}
use Rattle.machine_nodes.proofs.Laws.Nodes.{length_nodes_in}
use Rattle.words.proofs.Laws.Ends.{past_end, not_past}
use Rattle.machine_circuits.specs.Tuples.{labels_passed}
use Rattle.machine_circuits.proofs.Laws.Tuples.{label_passed, other_passed}
use Rattle.machine_circuits.proofs.Laws.Writing.{collected_more, all_collected, tree_inside}
use Rattle.machine_circuits.proofs.tuples.collect_labels.Goals.{then-kind_at-eq-LABEL, else-kind_at-eq-LABEL}
use Rattle.machine_circuits.proofs.tuples.collect_labels.Goals as goal

pub returns-then-runs_past : goal.returns-then-runs_past
returns-then-runs_past c = λ v k e stands whole room.
    let a = c.args in
    absurd (omega (
      arith,
      past_end c.runs_past.result (length a.nodes.now / 4) a.at a.count c.runs_past.ensures c.if-runs_past.true,
      length_nodes_in a.nodes.now,
      tree_inside v (nodes_in a.nodes.now) a.at stands,
    ))

pub loop-i-preserved : goal.loop-i-preserved
loop-i-preserved c =
    let a = c.args in
    let s = c.loop-i in
    let ns = nodes_in a.nodes.now in
    let inside : a.at + s.i < length ns
    = omega (
      arith,
      not_past c.runs_past.result (length a.nodes.now / 4) a.at a.count c.runs_past.ensures c.if-runs_past.false,
      c.loop-i-test.true,
      length_nodes_in a.nodes.now,
    ) in elim c.if-kind_at-eq-LABEL.branch [
      | then-kind_at-eq-LABEL w ↦ (
          let passed : labels_passed ns a.at (s.i + 1) ≡ labels_passed ns a.at s.i ++ (w.argument_at.result ∷ [])
          = label_passed ns a.at s.i inside (sym c.kind_at.ensures.value ∙ w.if-kind_at-eq-LABEL.true)
          ∙ ap (λ x. labels_passed ns a.at s.i ++ (x ∷ [])) (sym w.argument_at.ensures.value) in rw (w.found-is, w.labels-is) (
            omega (arith, s.invariant.0),
            omega (
              arith,
              s.invariant.1,
              ap length passed,
              length-append (labels_passed ns a.at s.i) (w.argument_at.result ∷ []),
            ),
            λ room.
                collected_more (words s.labels) (words w.put.new.memory) (labels_passed ns a.at s.i) (labels_passed ns a.at (s.i + 1))
                s.found
                w.argument_at.result
                (s.invariant.2 room)
                (omega (arith, s.invariant.0, c.loop-i-test.true, room, same_words a.labels.now s.labels s.auto.labels))
                w.argument_at.ensures.upper_bound
                (word_put _ _ _ _ w.put.ensures)
                passed,
          )
          )
      | else-kind_at-eq-LABEL w ↦ (
          let passed : labels_passed ns a.at (s.i + 1) ≡ labels_passed ns a.at s.i
          = other_passed ns a.at s.i inside (λ e. w.if-kind_at-eq-LABEL.false (c.kind_at.ensures.value ∙ e)) in
          rw (w.found-is, w.labels-is, passed) (omega (arith, s.invariant.0), s.invariant.1, s.invariant.2)
          )
    ]

pub returns : goal.returns
returns c = λ v k e stands whole room.
    let a = c.args in
    let s = c.loop-i in
    let done : s.i ≡ a.count = omega arith in
    all_collected v k (nodes_in a.nodes.now) (words s.labels) a.at a.count s.found e stands whole
    (rw done at s.invariant.1)
    (rw done at s.invariant.2 room)
