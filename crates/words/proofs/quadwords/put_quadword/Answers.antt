-- `words::quadwords::put_quadword` meets its contract: the four words of a quadword are put one after another. Assumes nothing.
use native.Mathlib.Omega.{arith}
use mathlib.Core.Path.{sym}
use mathlib.Core.List.{[], ◌∷◌}
use Rattle.words.proofs.Laws.Words.{put_past, put_first, put_more}
use Rattle.words.proofs.quadwords.put_quadword.Goals as goal

pub returns-then-buffer-i : goal.returns-then-buffer-i
returns-then-buffer-i c =
    let a = c.args in
    sym (put_past 4 a.buffer.now a.i (a.a ∷ a.b ∷ a.c ∷ a.d ∷ []) c.if-buffer-i.true)

pub returns : goal.returns
returns c =
    let a = c.args in
    let m = a.buffer.now in
    let one = c.put in
    let two = c.put-2 in
    let three = c.put-3 in
    let four = c.put-4 in
    let inside = c.if-buffer-i.false in
    put_more 4 m three.new.memory four.new.memory a.i (a.a ∷ a.b ∷ a.c ∷ []) a.d inside (omega arith)
    (put_more 4 m two.new.memory three.new.memory a.i (a.a ∷ a.b ∷ []) a.c inside (omega arith)
    (put_more 4 m one.new.memory two.new.memory a.i (a.a ∷ []) a.b inside (omega arith)
    (put_first 4 m one.new.memory a.i a.a inside (omega arith) one.ensures)
    two.ensures)
    three.ensures)
    four.ensures
