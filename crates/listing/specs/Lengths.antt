-- How long a listing is, and the kinds of the gates of a sound circuit.
use Rattle.std.specs.Prelude.{◌<◌, List, [], ◌∷◌}
use Rattle.rules.specs.Terms.{Gate, ◌on◌}

-- Each gate's number is a byte.
abbrev pub KindsFit : List Gate → Type 0
KindsFit [] = Unit {0}
KindsFit ((n on ws) ∷ gs) = (n < 256) × KindsFit gs
