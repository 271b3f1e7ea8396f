-- The typing judgement by plain inference and counting, which Theorems.Counting shows to agree with the typing rules. 01: "so
-- it is used exactly once; none bound outside a lift is used inside it".
use Rattle.std.specs.Prelude.{Bool, true, false, ◌&&◌}
use Rattle.rules.specs.Terms.{Term, variable, label, gate, constant, abstraction, application, pair, let_in, lift}
use Rattle.rules.specs.Terms.{force, box, apply, unit_value}

-- Is this a term of a program file? Those have no circuit constants.
abbrev pub source : Term → Bool
source (variable n) = true
source (label ℓ) = true
source (gate n) = true
source unit_value = true
source (constant b) = false
source (abstraction A M) = source M
source (application M N) = source M && source N
source (pair M N) = source M && source N
source (let_in M N) = source M && source N
source (lift M) = source M
source (force M) = source M
source (box T M) = source M
source (apply M N) = source M && source N
