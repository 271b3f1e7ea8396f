use Prim.Native.Nat.{ℕ, ◌<◌}
use mathlib.Core.Path.{◌≡◌}
use Rattle.words.specs.Regions.{over}
use Rattle.listing.specs.Listing.{bytes_of}
use Rattle.listing.specs.Pieces.{pieces}
use Rattle.listing_writer.proofs.write_words.Given as goal

abbrev pub invariant-loop-i : goal.invariant-loop-i
invariant-loop-i g l =
    (f : ℕ → ℕ)
    → ((i w : ℕ) → i < l.count → goal.F-post g l.word i w → w ≡ f i)
    → l.out ≡ over l.initial.out l.at (pieces (λ i. bytes_of (f i)) l.i)
