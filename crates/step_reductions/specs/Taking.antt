-- What a step that builds no circuit leaves: only the nodes change, and with them the place of the walk.
use Rattle.std.specs.Prelude.{ℕ, ◌-◌, false}
use Rattle.machine_walk.specs.declared.Place.{Place}
use Rattle.machine_state.specs.declared.StateNumbers.{StateNumbers}

-- Where the walk stands after a step: the redex, whose node stood at place `at`, is out of the walked nodes, its quadword is off
-- the stack, and the reduct, which starts at place `to`, is evaluated.
abbrev pub place_after : Place → ℕ → ℕ → Place
place_after p at to = record { left = at; right = to; depth = p.depth - 1; returning = false }

-- The numbers after a step that builds no circuit: the counts are as before.
abbrev pub taken_to : StateNumbers → ℕ → ℕ → StateNumbers
taken_to r at to = record { place = place_after r.place at to; counts = r.counts }
