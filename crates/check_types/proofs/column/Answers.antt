-- `check_types::column` meets its contract: a word of a quadword, 0 past the end of the buffer; a word is below 65536.
-- Assumes nothing.
use Prim.Native.Nat.{◌+◌, ◌*◌, ◌<◌}
use native.Mathlib.Omega.{arith}
use mathlib.Core.Path.{sym, subst}
use Rattle.words.proofs.Laws.Words.{word_past, word_below}
use Rattle.check_types.proofs.column.Goals as goal

pub returns-then-work-i : goal.returns-then-work-i
returns-then-work-i c =
    let s = c.args in
    record { value = sym (word_past s.work.now (4 * s.i + s.k) (omega arith)); upper_bound = omega arith }

pub returns : goal.returns
returns c =
    let s = c.args in
    let below : c.get.result < 65536
    = subst (λ r. r < 65536) (sym c.get.ensures)
    (word_below s.work.now (λ j. omega (arith, c.type_inv.work j)) (4 * s.i + s.k)) in
    record { value = c.get.ensures; upper_bound = below }
