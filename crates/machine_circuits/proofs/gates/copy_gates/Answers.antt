-- `machine_circuits::gates::copy_gates` meets its contract. The invariant: the quadwords written so far are renamed copies of the
-- closed circuit's, oldest first, and no other quadword has changed. Assumes nothing.
use Prim.Native.Nat.{ℕ, ◌/◌, ◌<◌}
use native.Mathlib.Omega.{arith}
use mathlib.Core.Path.{◌≡◌}
use borrow.Author.Rules.{rules}
use lib.ListN.{length, get_or}
use Rattle.words.specs.Words.{words}
use Rattle.words.specs.Quadwords.{quadwords_in}
use Rattle.words.proofs.Laws.Quadwords.{length_quadwords_in, same_quadwords, quadword_words_below}
use Rattle.words.proofs.Laws.Ends.{past_end}
use Rattle.machine_circuits.proofs.Laws.Copies.{one_more_copied, all_copied, words_below}
use Rattle.machine_circuits.proofs.gates.copy_gates.Goals.{then-runs_past-via-then-runs_past, then-runs_past-via-else-runs_past+then-runs_past-2}
use Rattle.machine_circuits.proofs.gates.copy_gates.Goals as goal

pub returns-then-runs_past : goal.returns-then-runs_past
returns-then-runs_past c = λ m fits.
    let a = c.args in elim c.then-runs_past.branch [
      | then-runs_past-via-then-runs_past w ↦ absurd (omega (
        arith,
        past_end c.runs_past.result (length a.gates.now / 8) a.from a.count c.runs_past.ensures w.if-runs_past.true,
        length_quadwords_in a.gates.now,
        fits.inside,
      ))
      | then-runs_past-via-else-runs_past+then-runs_past-2 w ↦ absurd (omega (
        arith,
        past_end w.runs_past-else-runs_past.result a.from a.to a.count w.runs_past-else-runs_past.ensures w.if-runs_past-2.true,
        fits.apart,
      ))
    ]

pub loop-i-preserved : goal.loop-i-preserved
loop-i-preserved c = λ m fits.
    let a = c.args in
    let s = c.loop-i in
    let r = a.renaming in
    let gates₀ = a.gates.now in
    let bytes : (b : ℕ) → get_or gates₀ b 0 < 256 = search rules in
    let label_bytes : (b : ℕ) → get_or r.labels.now b 0 < 256 = r.bytes in
    one_more_copied (quadwords_in gates₀) (quadwords_in s.gates) (quadwords_in c.copy_gate.new.gates) (words r.labels.now) a.from
    a.count
    a.to
    r.inputs
    r.next
    m
    s.i
    (λ j. quadword_words_below gates₀ bytes j 0)
    (words_below r.labels.now label_bytes)
    fits
    (s.invariant m fits)
    (same_quadwords gates₀ s.gates s.auto.gates)
    c.loop-i-test.true
    (c.copy_gate.ensures record { enough = fits.enough; small = omega (arith, fits.room) })

pub returns : goal.returns
returns c = λ m fits.
    let done : c.loop-i.i ≡ c.args.count = omega arith in all_copied _ _ _ _ _ _ _ (rw done at c.loop-i.invariant m fits)
