-- Laws of specs/Trees.antt.
use Rattle.std.specs.Prelude.{ℕ, List, [], ◌∷◌}
use Rattle.machine_terms.specs.Trees.{Tree, WellKinded}

-- The same for each tree of a list.
abbrev pub AllWellKinded : ℕ → ℕ → List Tree → Type 0
AllWellKinded positions closed [] = Unit {0}
AllWellKinded positions closed (t ∷ ts) = WellKinded positions closed t × AllWellKinded positions closed ts
