use Prim.Native.Nat.{ℕ, ◌<◌}
use mathlib.Core.Path.{◌≡◌}
use mathlib.Core.List.{[], ◌∷◌}
use Rattle.words.specs.Regions.{over}
use Rattle.listing.specs.Pieces.{pieces}
use Rattle.listing_writer.proofs.write_bytes.Given as goal

abbrev pub invariant-loop-i : goal.invariant-loop-i
invariant-loop-i g l =
    (f : ℕ → ℕ)
    → ((i b : ℕ) → i < l.count → goal.F-post g l.byte i b → b ≡ f i)
    → l.out ≡ over l.initial.out l.at (pieces (λ i. f i ∷ []) l.i)
