-- `machine_substitution::write_reduct` meets its contract. The invariant: what was written and what is still to be written make the
-- reduct, which is written only as long as it is not too large. Assumes nothing.
use Prim.Native.Nat.{◌+◌, ◌≤◌}
use native.Mathlib.Omega.{arith}
use lib.ListN.{length}
use Rattle.words.specs.Words.{words}
use Rattle.words.proofs.Laws.Words.{same_words, word_put}
use Rattle.machine_nodes.specs.Nodes.{nodes_in}
use Rattle.machine_nodes.proofs.Laws.Nodes.{length_nodes_in}
use Rattle.machine_nodes.proofs.Laws.Bytes.{nodes_copied}
use Rattle.machine_substitution.proofs.Laws.Reducts.{same_ready, writing_start, writing_next, writing_refused}
use Rattle.machine_substitution.proofs.Laws.Reducts.{writing_end, nothing_waiting, nothing_left}
use Rattle.machine_substitution.proofs.write_reduct.Goals.{then-branch-source-via-then-branch-source, then-branch-source-via-else-branch-source+in_ok-checked_sub-2+then-branch-most}
use Rattle.machine_substitution.proofs.write_reduct.Goals as goal

pub returns-in_err-checked_sub : goal.returns-in_err-checked_sub
returns-in_err-checked_sub c =
    λ ready.
    absurd (c.in_err-checked_sub.ensures (omega (arith, ready.source_outside.0, length_nodes_in c.args.nodes.now)))

pub returns-in_err-checked_sub-2 : goal.returns-in_err-checked_sub-2
returns-in_err-checked_sub-2 c =
    λ ready.
    absurd (c.in_err-checked_sub-2.ensures (omega (arith, ready.inside, length_nodes_in c.args.nodes.now)))

pub returns-then-branch-source : goal.returns-then-branch-source
returns-then-branch-source c =
    λ ready.
    absurd (elim c.then-branch-source.branch [
      | then-branch-source-via-then-branch-source w ↦
          omega (arith, w.if-branch-source.true, c.in_ok-checked_sub.ensures, ready.source_outside.0, length_nodes_in c.args.nodes.now)
      | then-branch-source-via-else-branch-source+in_ok-checked_sub-2+then-branch-most w ↦
          omega (arith, w.if-branch-most.true, w.in_ok-checked_sub-2.ensures, ready.inside, length_nodes_in c.args.nodes.now)
    ])

pub loop-i-init : goal.loop-i-init
loop-i-init c =
    let a = c.args in (
      omega arith,
      omega arith,
      λ ready.
          writing_start (nodes_in a.nodes.now) (words a.waiting.now) (words c.put.new.memory) a.source a.values a.to
          (word_put _ _ _ _ c.put.ensures)
          (omega (arith, ready.words_enough)),
    )

pub returns-then-depth-eq0 : goal.returns-then-depth-eq0
returns-then-depth-eq0 c =
    let a = c.args in
    let l = c.loop-i in
    let ns = nodes_in a.nodes.now in
    λ ready.
    writing_end ns (nodes_in l.nodes) (words l.waiting) a.source a.values a.to a.most l.i l.depth l.size
    (l.invariant.2
    (same_ready ns (length (words a.waiting.now)) (length (words c.put.new.memory)) a.to a.most a.source a.values
    (same_words a.waiting.now c.put.new.memory c.put.auto.memory) ready))
    (nothing_waiting ns (words l.waiting) a.source a.values l.i l.depth c.if-depth-eq0.true)
    l.invariant.1

pub returns-then-most-size : goal.returns-then-most-size
returns-then-most-size c =
    let a = c.args in
    let l = c.loop-i in
    let r = c.next_piece-next.result in
    let ns = nodes_in a.nodes.now in
    let words₀ = length (words c.put.new.memory) in
    λ ready₀.
    let ready = same_ready ns (length (words a.waiting.now)) words₀ a.to a.most a.source a.values
    (same_words a.waiting.now c.put.new.memory c.put.auto.memory) ready₀ in
    writing_refused ns words₀ a.source a.values a.to a.most ready
    (nodes_in l.nodes) (words l.waiting) (words c.next_piece-next.new.waiting) l.i l.depth l.size
    r.piece r.depth c.loop-i-test.true (omega (arith, c.if-depth-eq0.false)) l.invariant.0
    (same_words c.put.new.memory l.waiting l.auto.waiting) l.invariant.1 (l.invariant.2 ready) c.next_piece-next.ensures
    (omega (arith, c.if-most-size.true, l.invariant.1))

pub loop-i-preserved : goal.loop-i-preserved
loop-i-preserved c =
    let a = c.args in
    let l = c.loop-i in
    let r = c.next_piece-next.result in
    let ns = nodes_in a.nodes.now in
    let words₀ = length (words c.put.new.memory) in
    let deeper = c.next_piece-next.ensures.deeper in
    let room : l.size + r.piece.length ≤ a.most = omega (arith, c.if-most-size.false, l.invariant.1) in (
      omega (arith, l.invariant.0),
      room,
      λ ready.
          writing_next ns words₀ a.source a.values a.to a.most ready
          (nodes_in l.nodes) (words l.waiting) (words c.next_piece-next.new.waiting) l.i l.depth l.size
          r.piece r.depth c.loop-i-test.true (omega (arith, c.if-depth-eq0.false)) l.invariant.0
          (same_words c.put.new.memory l.waiting l.auto.waiting) l.invariant.1 (l.invariant.2 ready) c.next_piece-next.ensures
          (nodes_in c.copy_nodes.new.nodes)
          room
          (nodes_copied _ _ _ _ _ c.copy_nodes.ensures),
    )

pub returns-after-loop-i : goal.returns-after-loop-i
returns-after-loop-i c =
    let a = c.args in
    let l = c.loop-i in
    let ns = nodes_in a.nodes.now in
    λ ready.
    writing_end ns (nodes_in l.nodes) (words l.waiting) a.source a.values a.to a.most l.i l.depth l.size
    (l.invariant.2
    (same_ready ns (length (words a.waiting.now)) (length (words c.put.new.memory)) a.to a.most a.source a.values
    (same_words a.waiting.now c.put.new.memory c.put.auto.memory) ready))
    (nothing_left ns (length (words a.waiting.now)) a.to a.most a.source a.values ready (words l.waiting)
    l.i l.depth c.loop-i-test.false)
    l.invariant.1
