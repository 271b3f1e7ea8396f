-- Places that may run past an end.
use Rattle.std.specs.Prelude.{ℕ, ◌+◌, ◌-◌, ◌≤◌, ◌<◌, ◌≡◌, Bool, true, false, ltb}
use Rattle.std.proofs.Common.{arith, sym, ◌∙◌, ltb-true, ltb-false, lt-ltb, le-ltb}
use Rattle.std.proofs.Math.Decide.{dec_lt}

-- What a test says of places that may run past an end.
pub past_end : (r : Bool) (end from count : ℕ) → r ≡ ltb end (from + count) → r ≡ true → end < from + count
past_end r end from count e t = ltb-true end (from + count) (sym e ∙ t)

pub not_past : (r : Bool) (end from count : ℕ) → r ≡ ltb end (from + count) → r ≡ false → from + count ≤ end
not_past r end from count e f = ltb-false end (from + count) (sym e ∙ f)

pub ltb_shift : (end from count : ℕ) → from ≤ end → ltb (end - from) count ≡ ltb end (from + count)
ltb_shift end from count h = shifted (dec_lt (end - from) count)
  where
    shifted : Dec (end - from < count) → ltb (end - from) count ≡ ltb end (from + count)
    shifted (yes p) = lt-ltb (end - from) count p ∙ sym (lt-ltb end (from + count) (omega arith))
    shifted (no p) = le-ltb (end - from) count (omega arith) ∙ sym (le-ltb end (from + count) (omega arith))
