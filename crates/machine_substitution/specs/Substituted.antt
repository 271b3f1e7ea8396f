-- Substitution on the nodes of a forest in preorder, with the number of binders around each part that is waited for.
use Rattle.std.specs.Prelude.{ℕ, zero, suc, cond, List, [], ◌∷◌, ◌++◌, eqb, take, drop, option_map, option_to_list}
use Rattle.rules.specs.Kinds.{variable_kind}
use Rattle.machine_terms.specs.Trees.{Node, kind, argument, parts, one_kind, two_kind, binders_one, binders_two}
use Rattle.machine_substitution.specs.declared.Region.{Region}
use Rattle.machine_substitution.specs.declared.Values.{Values}

-- Value a, counted from the first of the list; the given nodes where the list ends before.
abbrev pub value_at : List (List Node) → ℕ → List Node → List Node
value_at [] a own = own
value_at (v ∷ vs) zero own = v
value_at (v ∷ vs) (suc a) own = value_at vs a own

-- What becomes of variable a under b binders; `own` is its own node.
abbrev pub variable_nodes : ℕ → List (List Node) → ℕ → List Node → List Node
variable_nodes zero vs a own = value_at vs a own
variable_nodes (suc b) vs zero own = own
variable_nodes (suc b) vs (suc a) own = variable_nodes b vs a own

-- What becomes of a node under b binders, without its parts. Kind 16 is a variable.
unfoldable pub piece_for : List (List Node) → ℕ → Node → List Node
piece_for vs b n = cond (eqb (kind n) variable_kind) (variable_nodes b vs (argument n) (n ∷ [])) (n ∷ [])

-- The binders around each part that is waited for after a node of kind k with so many parts, under b binders.
abbrev pub parts_waiting : ℕ → ℕ → ℕ → List ℕ → List ℕ
parts_waiting zero k b waiting = waiting
parts_waiting (suc zero) k b waiting = binders_one (one_kind k) b ∷ waiting
parts_waiting (suc (suc zero)) k b waiting = b ∷ binders_two (two_kind k) b ∷ waiting
parts_waiting (suc (suc (suc p))) k b waiting = waiting

-- The same with the parts that the kind asks for. A number that is no kind has no part.
unfoldable pub waiting_after : ℕ → ℕ → List ℕ → List ℕ
waiting_after k b waiting = parts_waiting (parts k) k b waiting

-- The nodes with the outermost variables become the values' nodes. Nodes behind the last part that is waited for are left
-- out.
unfoldable pub substituted : List (List Node) → List ℕ → List Node → List Node
substituted vs waiting [] = []
substituted vs [] (n ∷ ns) = []
substituted vs (b ∷ waiting) (n ∷ ns) = piece_for vs b n ++ substituted vs (waiting_after (kind n) b waiting) ns

-- The nodes of a region.
abbrev pub nodes_of_region : List Node → Region → List Node
nodes_of_region ns r = take r.length (drop r.start ns)

-- The nodes of the values: one for an abstraction, two for let.
abbrev pub nodes_of_values : List Node → Values → List (List Node)
nodes_of_values ns v = nodes_of_region ns v.first ∷ option_to_list (option_map (nodes_of_region ns) v.second)

-- The nodes of the reduct: those of the source, a body without binders around it, with the values put in.
unfoldable pub reduct : List Node → Region → Values → List Node
reduct ns source values = substituted (nodes_of_values ns values) (0 ∷ []) (nodes_of_region ns source)
