-- Laws of specs/Trees.antt.
use Rattle.std.specs.Prelude.{ℕ, List}
use Rattle.program.specs.Format.{label_count, type_count, term_count, first_term, kind_at}
use Rattle.machine_terms.specs.Trees.{Node}
use Rattle.machine_load.specs.Trees.{values_from, node_from}

-- The kinds of the label section.
abbrev pub label_kinds : List ℕ → List ℕ
label_kinds f = values_from (kind_at f) 0 (label_count f)

-- The kinds of the type section.
abbrev pub type_kinds : List ℕ → List ℕ
type_kinds f = values_from (kind_at f) (label_count f) (type_count f)

-- The nodes of the term section.
abbrev pub term_nodes : List ℕ → List Node
term_nodes f = values_from (node_from f) (first_term f) (term_count f)
