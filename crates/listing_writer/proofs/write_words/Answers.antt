-- `listing_writer::write_words` meets its contract. The invariant: the numbers passed are written. Assumes nothing.
use Prim.Native.Nat.{◌+◌, ◌*◌}
use native.Mathlib.Omega.{arith}
use mathlib.Core.Path.{refl, ◌∙◌, ap}
use Rattle.words.specs.Regions.{over}
use Rattle.listing.specs.Listing.{bytes_of}
use Rattle.listing.proofs.Laws.Pieces.{piece_written, none_written}
use Rattle.listing_writer.proofs.write_words.Goals as goal

pub loop-i-init : goal.loop-i-init
loop-i-init g c = λ f is. none_written _ _ _

pub loop-i-preserved : goal.loop-i-preserved
loop-i-preserved g c = λ f is.
    let a = c.args in
    let s = c.loop-i in
    piece_written (λ i. bytes_of (f i)) 2 a.out.now s.out c.put_bytes.new.out a.at (a.at + 2 * s.i) s.i (λ j. refl) (omega arith)
    (omega (arith, c.loop-i-test.true, c.requires.in_bounds))
    (s.invariant f is)
    (c.put_bytes.ensures ∙ ap (λ w. over s.out (a.at + 2 * s.i) (bytes_of w)) (is s.i c.word.result c.loop-i-test.true c.word.ensures))
