-- Where the nodes stand that a node becomes.
use Rattle.std.specs.Prelude.{ℕ, zero, suc, ◌+◌, ◌-◌, ◌≤◌, cond, ◌⊎◌, eqb, ltb, unwrap_or}
use Rattle.rules.specs.Kinds.{variable_kind}
use Rattle.machine_terms.specs.Trees.{Node, kind, argument}
use Rattle.machine_substitution.specs.declared.Region.{Region}
use Rattle.machine_substitution.specs.declared.Values.{Values}

-- The one node at a place.
abbrev pub node_region : ℕ → Region
node_region place = record { start = place; length = 1 }

-- The value of free variable a, counted from the first; where there is none, the variable stays, at its place.
abbrev pub value_region : Values → ℕ → ℕ → Region
value_region values zero place = values.first
value_region values (suc zero) place = unwrap_or values.second (node_region place)
value_region values (suc (suc a)) place = node_region place

-- What variable a becomes under b binders.
unfoldable pub variable_region : Values → ℕ → ℕ → ℕ → Region
variable_region values b a place = cond (ltb a b) (node_region place) (value_region values (a - b) place)

-- What a node n, which stands at a place under b binders, becomes: itself or a value.
unfoldable pub piece_region : Values → ℕ → Node → ℕ → Region
piece_region values b n place = cond (eqb (kind n) variable_kind) (variable_region values b (argument n) place) (node_region place)

-- A region of a buffer with so many nodes that does not meet the k places from `to` on: it ends before them, or starts
-- behind them.
abbrev pub Apart : ℕ → ℕ → Region → Type 0
Apart to k r = (r.start + r.length ≤ to) ⊎ (to + k ≤ r.start)

abbrev pub Outside : ℕ → ℕ → ℕ → Region → Type 0
Outside n to k r = (r.start + r.length ≤ n) × Apart to k r
