-- Laws of specs/GateCodes.antt.
use Rattle.std.specs.Prelude.{ℕ}

-- The most entries of a gate's type.
abbrev pub most_type : ℕ
most_type = 11
