-- The rule for an entry's argument, without the number of its parts.
use Rattle.std.specs.Prelude.{ℕ, Bool, false, Option, Some, None, option_map}
use Rattle.program.specs.Format.{argument_allowed}
use Rattle.program.specs.declared.format.Shape.{Shape}
use Rattle.program.specs.declared.format.Argument.{Argument}

-- The rule of a shape: a number that is no kind of its section has none.
abbrev pub rule_of : Option Shape → Option Argument
rule_of shape = option_map (λ s. s.argument) shape

-- Whether an argument is allowed, in a file with this many labels and type entries.
abbrev pub rule_allows : ℕ → ℕ → Option Argument → ℕ → Bool
rule_allows labels types (Some argument) a = argument_allowed labels types argument a
rule_allows labels types None a = false
