-- `step_apply_circuit::append_constant` meets its contract. Assumes nothing.
use mathlib.Core.Path.{sym, subst}
use lib.ListN.{length}
use Rattle.words.specs.Words.{words}
use Rattle.words.proofs.Laws.Words.{same_words}
use Rattle.machine_nodes.specs.Nodes.{nodes_in}
use Rattle.words.specs.Quadwords.{quadwords_in}
use Rattle.machine_circuits.specs.Layout.{four_results}
use Rattle.words.proofs.Laws.Quadwords.{same_quadwords, quadword_put}
use Rattle.step_apply_circuit.specs.Redexes.{Applied}
use Rattle.step_apply_circuit.proofs.Laws.Outcomes.{constant_taken}
use Rattle.step_apply_circuit.proofs.append_constant.Goals as goal

pub returns : goal.returns
returns c =
    let a = c.args in
    let ns = nodes_in a.nodes.now in
    let ns' = nodes_in c.load_constant.new.nodes in
    let wide = length (words a.labels.now) in
    let ls = c.collect_labels-found.new.labels in
    let renaming = c.new-renaming.ensures in
    let gs = a.gates.now in
    let gs' = c.copy_gates.new.gates in
    let fs = quadwords_in a.frames.now in
    let fs' = quadwords_in c.put_quadword.new.buffer in
    let results = four_results (words a.results0.now) (words a.results1.now) (words a.results2.now) (words a.results3.now) in
    let x = a.redex in
    let r = a.numbers in
    subst
    (Applied ns ns' wide (quadwords_in gs) (quadwords_in gs') fs fs' results x r)
    (sym c.numbers_after.ensures)
    (constant_taken ns ns' wide (quadwords_in gs) (quadwords_in gs') fs fs' results x r (words ls) c.collect_labels-found.result
    record {
      labels_room = same_words a.labels.now ls c.collect_labels-found.auto.labels;
      collected = c.collect_labels-found.ensures;
      copied = simp (renaming.same_labels, renaming.same_inputs, renaming.same_next) at c.copy_gates.ensures;
      loaded = simp (renaming.same_labels, renaming.same_inputs, renaming.same_next) at c.load_constant.ensures;
      framed = quadword_put _ _ _ _ _ _ _ c.put_quadword.ensures;
      quadwords_kept = same_quadwords gs gs' c.copy_gates.auto.gates;
    })
