-- `text::Writer::put_bytes` meets its contract. Assumes nothing.
use native.Mathlib.Omega.{arith}
use Prim.Native.Nat.{◌+◌, ◌<◌}
use mathlib.Core.Path.{◌≡◌, subst}
use lib.ListN.{length, take, get_or, set}
use Rattle.text.specs.Writing.{Puts}
use Rattle.text.proofs.Laws.Writing.{puts_byte}
use Rattle.text.proofs.Laws.Words.{puts_next}
use Rattle.text.proofs.Writer.put_bytes.Goals as goal

pub loop-i-preserved : goal.loop-i-preserved
loop-i-preserved c =
    let a = c.args in
    let at = a.self.now.at in
    let s = c.loop-i in
    let below : s.i < length a.bytes.now = omega (arith, c.loop-i-test.true) in
    let room : at + s.i < length s.text = omega (arith, c.if-text-self.false, c.if-text-self-2.false, s.auto.text) in
    let next : at + s.i + 1 ≡ at + (s.i + 1) = omega arith in
    let byte = get_or a.bytes.now s.i 0 in
    subst (λ n. Puts a.self.now.text.now at (take (s.i + 1) a.bytes.now) (set s.text (at + s.i) byte) n) next
    (puts_next a.bytes.now s.i below s.invariant (puts_byte s.text (at + s.i) byte room))
