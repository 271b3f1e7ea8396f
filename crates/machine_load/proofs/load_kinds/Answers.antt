-- `machine_load::load_kinds` meets its contract. The invariant: the first i kinds are written. Assumes nothing.
use native.Mathlib.Omega.{arith}
use Rattle.program.specs.Format.{kind_at}
use Rattle.words.specs.Words.{words}
use Rattle.words.proofs.Laws.Words.{word_put}
use Rattle.machine_load.proofs.Laws.Writing.{none_written, kind_written}
use Rattle.machine_load.proofs.load_kinds.Goals as goal

pub loop-i-init : goal.loop-i-init
loop-i-init c =
    let s = c.args in
    λ room. none_written (kind_at s.file.now) (words s.types.now) s.from s.to

pub loop-i-preserved : goal.loop-i-preserved
loop-i-preserved c =
    let s = c.args in
    let l = c.loop-i in
    let kind = c.kind_at in
    let put = c.put in
    λ room.
    kind_written s.file.now (words s.types.now) (words l.types) (words put.new.memory)
    s.from s.to s.count l.i kind.result
    room
    c.loop-i-test.true
    (l.invariant room)
    kind.ensures.value
    (omega (arith, kind.ensures.upper_bound))
    (word_put _ _ _ _ put.ensures)
