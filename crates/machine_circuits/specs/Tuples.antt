-- Label tuples as nodes, as the words of a result, and as the tuple of a type's wires.
use Rattle.std.specs.Prelude.{ℕ, ◌+◌, ◌%◌, cond, List, [], ◌∷◌, ◌++◌, eqb, take, drop}
use Rattle.rules.specs.Kinds.{pair_type_kind, label_kind, pair_kind, unit_kind, unit_value_kind}
use Rattle.rules.specs.Parts.{parts_of_kind}
use Rattle.rules.specs.Circuits.{rename}
use Rattle.rules.specs.Gates.{gate_type}
use Rattle.rules.specs.GateCodes.{circ_codes}
use Rattle.machine_terms.specs.Trees.{Node, node, kind, argument}
use Rattle.words.specs.Words.{words}
use Rattle.machine_nodes.specs.Spans.{span_by}
use Rattle.rules.specs.Slots.{no_wire}
use Rattle.machine_circuits.specs.declared.tuples.Source.{Source}
use Rattle.machine_circuits.specs.declared.tuples.Source.TheVariants.{Section, Gate}
use Rattle.machine_circuits.specs.Layout.{no_label}

-- The labels among nodes, in order.
abbrev pub label_of : Node → List ℕ
label_of n = cond (eqb (kind n) label_kind) (argument n ∷ []) []

abbrev pub label_numbers : List Node → List ℕ
label_numbers [] = []
label_numbers (n ∷ ns) = label_of n ++ label_numbers ns

-- The labels among the nodes passed, and with one node more.
abbrev pub labels_passed : List Node → ℕ → ℕ → List ℕ
labels_passed ns at i = label_numbers (take i (drop at ns))

-- The word of a node in a result.
abbrev pub word_of : Node → ℕ
word_of n = cond (eqb (kind n) pair_kind) no_wire (cond (eqb (kind n) unit_value_kind) no_label (argument n))

-- A node of a tuple by a word: a pair for the first of these, unit's value for the second, else this label.
abbrev pub part_node : ℕ → ℕ → ℕ → ℕ → Node
part_node w pair unit ℓ = cond (eqb w pair) (node pair_kind 0) (cond (eqb w unit) (node unit_value_kind 0) (node label_kind (ℓ % 65536)))

-- The node of a word of a result, its wire renamed.
abbrev pub loaded_node : List ℕ → ℕ → ℕ → Node
loaded_node ks next w = part_node w no_wire no_label (rename ks next w)

-- The nodes of a tuple from the codes of its type: a pair for a pair, unit's value for unit, else the next label. 02, ticket 5:
-- "Its value stands in a tuple wherever the type has unit".
abbrev pub node_of_code : ℕ → ℕ → Node
node_of_code ℓ c = part_node c pair_type_kind unit_kind ℓ

-- The label after that code: only a wire takes one. 02, ticket 5: "Unit is a wire type with no wires".
abbrev pub label_after : ℕ → ℕ → ℕ
label_after ℓ c = cond (eqb c pair_type_kind) ℓ (cond (eqb c unit_kind) ℓ (ℓ + 1))

-- The codes that a source has.
abbrev pub codes_of : Source → List ℕ
codes_of (Section types) = words types.now
codes_of (Gate n) = circ_codes (gate_type n)

-- How many codes so many types take that stand one behind the other; all codes where they run out before.
abbrev pub code_span : List ℕ → ℕ → ℕ
code_span cs waiting = span_by ℕ parts_of_kind cs waiting
