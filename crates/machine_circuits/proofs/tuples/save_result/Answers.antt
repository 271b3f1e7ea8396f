-- `machine_circuits::tuples::save_result` meets its contract. The invariant: the words of the nodes passed are written.
-- Assumes nothing.
use Prim.Native.Nat.{◌/◌, ◌%◌}
use native.Mathlib.Omega.{arith}
use mathlib.Core.Path.{◌≡◌, sym, ◌∙◌}
use lib.ListN.{length}
use Rattle.words.specs.Words.{words}
use Rattle.words.proofs.Laws.Words.{length_words, word_put}
use Rattle.machine_nodes.specs.Nodes.{nodes_in, no_node}
use Rattle.machine_nodes.proofs.Laws.Nodes.{length_nodes_in}
use Rattle.words.proofs.Laws.Ends.{past_end, not_past}
use Rattle.words.proofs.Laws.Regions.{over_nil}
use Rattle.machine_circuits.specs.Tuples.{word_of}
use Rattle.machine_circuits.proofs.Laws.Writing.{tree_inside, mapped_next, all_saved}
use Rattle.machine_circuits.proofs.tuples.save_result.Goals.{then-runs_past-via-then-runs_past, then-runs_past-via-else-runs_past+then-runs_past-2}
use Rattle.machine_circuits.proofs.tuples.save_result.Goals as goal

pub returns-then-runs_past : goal.returns-then-runs_past
returns-then-runs_past c = λ v k e stands whole room.
    let a = c.args in elim c.then-runs_past.branch [
      | then-runs_past-via-then-runs_past w ↦ absurd (omega (
        arith,
        past_end c.runs_past.result (length a.nodes.now / 4) a.at a.count c.runs_past.ensures w.if-runs_past.true,
        length_nodes_in a.nodes.now,
        tree_inside v (nodes_in a.nodes.now) a.at stands,
      ))
      | then-runs_past-via-else-runs_past+then-runs_past-2 w ↦ absurd (omega (
        arith,
        past_end w.runs_past-else-runs_past.result (length a.res.now / 2) a.from a.count w.runs_past-else-runs_past.ensures w.if-runs_past-2.true,
        length_words a.res.now,
      ))
    ]

pub loop-i-init : goal.loop-i-init
loop-i-init c = sym (over_nil (words c.args.res.now) c.args.from)

pub loop-i-preserved : goal.loop-i-preserved
loop-i-preserved c =
    let a = c.args in
    let s = c.loop-i in
    let low : c.result_word.result % 65536 ≡ c.result_word.result = omega (arith, c.result_word.ensures.upper_bound) in
    mapped_next word_of no_node (nodes_in a.nodes.now) a.at (words a.res.now) (words s.res) (words c.put.new.memory) a.from s.i
    (c.result_word.result % 65536)
    (omega (
      arith,
      not_past c.runs_past.result (length a.nodes.now / 4) a.at a.count c.runs_past.ensures c.if-runs_past.false,
      c.loop-i-test.true,
      length_nodes_in a.nodes.now,
    ))
    (omega (
      arith,
      not_past c.runs_past-else-runs_past.result (length a.res.now / 2) a.from a.count c.runs_past-else-runs_past.ensures c.if-runs_past-2.false,
      c.loop-i-test.true,
      length_words a.res.now,
    ))
    s.invariant
    (low ∙ c.result_word.ensures.value)
    (word_put _ _ _ _ c.put.ensures)

pub returns : goal.returns
returns c = λ v k e stands whole room.
    let a = c.args in
    let s = c.loop-i in
    let done : s.i ≡ a.count = omega arith in
    all_saved v k (nodes_in a.nodes.now) (words a.res.now) (words s.res) a.at a.count a.from e stands whole (rw done at s.invariant)
