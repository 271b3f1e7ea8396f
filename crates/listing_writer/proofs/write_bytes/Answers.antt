-- `listing_writer::write_bytes` meets its contract. The invariant: the bytes passed are written. Assumes nothing.
use native.Mathlib.Omega.{arith}
use mathlib.Core.Path.{refl, ap}
use mathlib.Core.List.{[], ◌∷◌}
use Rattle.listing.proofs.Laws.Pieces.{byte_written, none_written}
use Rattle.listing_writer.proofs.write_bytes.Goals as goal

pub loop-i-init : goal.loop-i-init
loop-i-init g c = λ f is. none_written _ _ _

pub loop-i-preserved : goal.loop-i-preserved
loop-i-preserved g c = λ f is.
    let a = c.args in
    let s = c.loop-i in
    byte_written (λ i. f i ∷ []) a.out.now s.out a.at s.i c.byte.result (λ j. refl)
    (omega (arith, c.loop-i-test.true, c.requires.in_bounds))
    s.auto.out
    (s.invariant f is)
    (ap (λ b. b ∷ []) (is s.i c.byte.result c.loop-i-test.true c.byte.ensures))
