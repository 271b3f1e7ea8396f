-- The nodes of a byte buffer: two words a node, its kind and its argument.
use Rattle.std.specs.Prelude.{ℕ, List, [], ◌∷◌, get_or}
use Rattle.words.specs.Words.{words}
use Rattle.machine_terms.specs.Trees.{Node, node}

unfoldable pub nodes_of : List ℕ → List Node
nodes_of [] = []
nodes_of (k ∷ []) = []
nodes_of (k ∷ a ∷ w) = node k a ∷ nodes_of w

-- The nodes of a buffer.
abbrev pub nodes_in : List ℕ → List Node
nodes_in m = nodes_of (words m)

-- What stands past the end.
abbrev pub no_node : Node
no_node = node 0 0

abbrev pub node_at : List Node → ℕ → Node
node_at ns i = get_or ns i no_node
