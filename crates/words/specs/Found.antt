-- What is found: as a definition has it, and as the code answers it.
use Rattle.std.specs.Prelude.{Option as Answered, Some, None}
use Rattle.std.proofs.Math.Option.{Option, none, some}

-- What is found, or none.
abbrev pub option_of : {A : Type 0} → Option A → Answered A
option_of none = None
option_of (some x) = Some x
