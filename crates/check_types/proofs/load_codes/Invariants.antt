-- The last k codes are loaded, whichever f the closure gives the codes of.
use Prim.Native.Nat.{ℕ, ◌-◌, ◌<◌}
use mathlib.Core.Path.{◌≡◌}
use Rattle.words.specs.Words.{words}
use Rattle.check_types.specs.Load.{load_codes}
use Rattle.check_types.proofs.load_codes.Given as goal

abbrev pub invariant-loop-k : goal.invariant-loop-k
invariant-loop-k g l =
    (f : ℕ → ℕ)
    → ((p r : ℕ) → p < l.count → goal.F-post g l.code p r → r ≡ f p)
    → words l.work ≡ load_codes (words l.initial.work) l.n f (l.count - l.k) l.k
