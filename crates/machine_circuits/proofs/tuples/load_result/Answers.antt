-- `machine_circuits::tuples::load_result` meets its contract. The invariant: the nodes of the words passed are written. Assumes nothing.
use Prim.Native.Nat.{◌+◌, ◌/◌}
use native.Mathlib.Omega.{arith}
use mathlib.Core.Path.{◌≡◌, sym, ap}
use lib.ListN.{length}
use Rattle.words.specs.Words.{words}
use Rattle.words.proofs.Laws.Words.{length_words, word_below}
use Rattle.machine_nodes.specs.Nodes.{nodes_in}
use Rattle.machine_nodes.proofs.Laws.Nodes.{length_nodes_in}
use Rattle.words.proofs.Laws.Ends.{past_end, not_past}
use Rattle.words.proofs.Laws.Regions.{over_nil}
use Rattle.machine_circuits.proofs.Laws.Copies.{all_below_take, words_below}
use Rattle.machine_circuits.specs.Renamings.{labels_of}
use Rattle.machine_circuits.specs.Tuples.{loaded_node}
use Rattle.machine_circuits.proofs.Laws.Writing.{result_inside, mapped_next, all_loaded}
use Rattle.machine_circuits.proofs.tuples.load_result.Goals.{then-runs_past-via-then-runs_past, then-runs_past-via-else-runs_past+then-runs_past-2}
use Rattle.machine_circuits.proofs.tuples.load_result.Goals as goal

pub returns-then-runs_past : goal.returns-then-runs_past
returns-then-runs_past c = λ k m fits.
    let a = c.args in elim c.then-runs_past.branch [
      | then-runs_past-via-then-runs_past w ↦ absurd (omega (
        arith,
        past_end c.runs_past.result (length a.res.now / 2) a.from a.count c.runs_past.ensures w.if-runs_past.true,
        length_words a.res.now,
        result_inside k (words a.res.now) a.from fits.stands,
        fits.whole,
      ))
      | then-runs_past-via-else-runs_past+then-runs_past-2 w ↦ absurd (omega (
        arith,
        past_end w.runs_past-else-runs_past.result (length a.nodes.now / 4) a.to a.count w.runs_past-else-runs_past.ensures w.if-runs_past-2.true,
        length_nodes_in a.nodes.now,
        fits.inside,
      ))
    ]

pub loop-i-init : goal.loop-i-init
loop-i-init c = λ h. sym (over_nil (nodes_in c.args.nodes.now) c.args.to)

pub load_node-requires : goal.load_node-requires
load_node-requires c =
    let a = c.args in
    omega (arith, c.get.ensures, word_below a.res.now (λ j. (c.type_inv.res j).fits) (a.from + c.loop-i.i))

pub loop-i-preserved : goal.loop-i-preserved
loop-i-preserved c =
    let a = c.args in
    let s = c.loop-i in
    let r = a.renaming in
    let second = c.runs_past-else-runs_past in
    let ws = words a.res.now in
    let load = loaded_node (labels_of r) r.next in λ usable.
    mapped_next load 0 ws a.from (nodes_in a.nodes.now) (nodes_in s.nodes) (nodes_in c.load_node.new.nodes) a.to s.i (load c.get.result)
    (omega (
      arith,
      not_past c.runs_past.result (length a.res.now / 2) a.from a.count c.runs_past.ensures c.if-runs_past.false,
      c.loop-i-test.true,
      length_words a.res.now,
    ))
    (omega (
      arith,
      not_past second.result (length a.nodes.now / 4) a.to a.count second.ensures c.if-runs_past-2.false,
      c.loop-i-test.true,
      length_nodes_in a.nodes.now,
    ))
    (s.invariant usable)
    (ap load c.get.ensures)
    (c.load_node.ensures usable)

pub returns : goal.returns
returns c = λ k m fits.
    let a = c.args in
    let s = c.loop-i in
    let r = a.renaming in
    let done : s.i ≡ a.count = omega arith in
    all_loaded k m (words a.res.now) (nodes_in a.nodes.now) (nodes_in s.nodes) (labels_of r) a.from a.count
    (length (nodes_in a.nodes.now))
    a.to
    (length (words r.labels.now))
    r.inputs
    r.next
    fits
    (all_below_take 65536 r.inputs (words r.labels.now) (words_below r.labels.now r.bytes))
    (rw done at s.invariant record { enough = fits.enough; small = omega (arith, fits.room) })
