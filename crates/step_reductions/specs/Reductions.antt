-- The steps at a force, at an application and at a let, from what their code reads, counts and writes.
use Rattle.std.specs.Prelude.{ℕ, ◌+◌, ◌-◌, List, length}
use Rattle.rules.specs.Sizes.{most_nodes}
use Rattle.machine_terms.specs.Trees.{Node}

-- How many nodes a reduct may have that stands between the walked nodes, which end at place `at`, and those still to be
-- walked, which start at place `next`.
abbrev pub most_between : List Node → ℕ → ℕ → ℕ
most_between ns at next = most_nodes - (at + (length ns - next))
