-- The tree of nodes of a file's term, and the sections of a file as lists.
use Rattle.std.specs.Prelude.{ℕ, zero, suc, ◌+◌, List, [], ◌∷◌, length}
use Rattle.rules.specs.Types.{Ty}
use Rattle.program.specs.Format.{label_count, term_count, first_term, kind_at, argument_at}
use Rattle.machine_terms.specs.Trees.{Node, node, Tree, leaf, one, two, preorder, parts}
use Rattle.check_program.specs.Answers.{Node as Built, no_part, one_part, two_parts, built, type_from}
use Rattle.rules.specs.Sizes.{most_types}

-- The values of a function at so many numbers from one on.
unfoldable pub values_from : {A : Type 0} → (ℕ → A) → ℕ → ℕ → List A
values_from g e zero = []
values_from g e (suc n) = g e ∷ values_from g (suc e) n

-- The node at entry e: its kind and its argument.
abbrev pub node_from : List ℕ → ℕ → Node
node_from f e = node (kind_at f e) (argument_at f e)

-- A node with so many parts.
abbrev pub with_parts : ℕ → Node → Built Tree
with_parts zero n = no_part (leaf n)
with_parts (suc zero) n = one_part (one n)
with_parts (suc (suc zero)) n = two_parts (two n)
with_parts (suc (suc (suc k))) n = no_part (leaf n)

-- The tree whose preorder starts at entry e, of at most so many nodes: the recursion of `term_from`.
unfoldable pub tree_from : ℕ → List ℕ → ℕ → Tree
tree_from zero f e = leaf (node_from f e)
tree_from (suc most) f e =
    built (λ t. length (preorder t)) (λ i. tree_from most f i) e (with_parts (parts (kind_at f e)) (node_from f e))

-- The tree of the term section.
abbrev pub tree_of : List ℕ → Tree
tree_of f = tree_from (term_count f) f (first_term f)

-- The type at a position of the type section.
abbrev pub types_of : List ℕ → ℕ → Ty
types_of f p = type_from most_types f (label_count f + p)
