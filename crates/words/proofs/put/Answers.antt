-- `words::put` meets its contract: the two bytes of word i are the low 16 bits. Assumes nothing.
use Prim.Native.Nat.{suc, ◌+◌, ◌*◌, ◌%◌, ◌/◌}
use native.Mathlib.Omega.{arith}
use mathlib.Core.Path.{◌≡◌, sym, ap, ◌∙◌}
use mathlib.Core.List.{[], ◌∷◌}
use lib.ListN.{set}
use Rattle.words.proofs.Laws.Words.{put_within, put_past}
use Rattle.words.proofs.put.Goals as goal

pub returns-then-i-n : goal.returns-then-i-n
returns-then-i-n c =
    let a = c.args in
    let m = a.memory.now in
    let v = a.value in
    let high : 2 * a.i + 1 ≡ suc (2 * a.i) = omega arith in
    ap (λ j. set (set m (2 * a.i) (v % 256)) j (v / 256 % 256)) high
    ∙ sym (put_within 1 m a.i (v ∷ []) c.if-i-n.true)

pub returns-else-i-n : goal.returns-else-i-n
returns-else-i-n c =
    let a = c.args in
    sym (put_past 1 a.memory.now a.i (a.value ∷ []) c.if-i-n.false)
