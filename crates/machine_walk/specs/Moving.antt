-- The moves of the walk in memory: a law for each way through the code.
use Rattle.std.specs.Prelude.{ℕ, ◌+◌, ◌-◌, ◌*◌, ◌<◌, Bool, true, false}
use Rattle.machine_terms.specs.Trees.{TwoKind, an_application, a_pair, a_let, an_apply}
use Rattle.machine_terms.specs.Walks.{Stop as StopOf, at_application, at_let, at_apply, at_end}
use Rattle.machine_walk.specs.declared.Place.{Place}
use Rattle.machine_walk.specs.declared.Stop.{Stop}
use Rattle.std.specs.declared.ops.ControlFlow.{ControlFlow}
use Rattle.std.specs.declared.ops.ControlFlow.TheVariants.{Continue, Break}

-- Each move makes this number smaller, whatever the memory holds; n is the number of nodes.
abbrev pub mode_number : Bool → ℕ
mode_number true = 1
mode_number false = 0

abbrev pub moves_from : ℕ → Place → ℕ
moves_from n p = 4 * (n - p.right) + (2 * p.depth + mode_number p.returning)

abbrev pub Falls : ℕ → Place → ControlFlow Stop Place → Type 0
Falls n p (Continue q) = moves_from n q < moves_from n p
Falls n p (Break s) = Unit {0}

-- The stop at a node of two values that is no pair.
abbrev pub stop_two : TwoKind → StopOf
stop_two an_application = at_application
stop_two a_pair = at_end
stop_two a_let = at_let
stop_two an_apply = at_apply
