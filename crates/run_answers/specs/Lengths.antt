-- How long the buffers that are lent to a run must be at least (docs/FORMATS.md has their layout).
use Rattle.std.specs.Prelude.{ℕ, suc, ◌+◌, ◌*◌, ◌/◌, List, [], ◌∷◌}
use Rattle.rules.specs.Types.{most_entries}
use Rattle.rules.specs.Sizes.{most_labels, most_types, most_nodes, most_gates, most_boxes}
use Rattle.listing.specs.Listing.{most_bytes}

-- Nodes of four bytes: four times as many as there may be in a configuration.
abbrev pub nodes_length : ℕ
nodes_length = 4 * (4 * most_nodes)

-- Quadwords: one for each opened node; one for each frame, of which there may be one more; one for each gate of an open
-- circuit and of a closed one; one for each closed circuit.
abbrev pub stack_length : ℕ
stack_length = 8 * most_nodes

abbrev pub frames_length : ℕ
frames_length = 8 * suc most_nodes

abbrev pub gates_length : ℕ
gates_length = 8 * (most_gates + most_gates)

abbrev pub circuits_length : ℕ
circuits_length = 8 * most_boxes

-- Words: one for each entry of the type section and each label; one for each node of a result, a quarter of the results in
-- each of four buffers.
abbrev pub types_length : ℕ
types_length = 2 * (most_types + most_labels)

abbrev pub results_length : ℕ
results_length = 2 * (most_entries * (most_boxes / 4))

-- 02, ticket 6: "at most 15,302, which is also a run's least output buffer in refusal 19"; then nodes, stack, types, frames, gates,
-- circuits, results.
abbrev pub run_lengths : List ℕ
run_lengths =
    most_bytes
    ∷ nodes_length
    ∷ stack_length
    ∷ types_length
    ∷ frames_length
    ∷ gates_length
    ∷ circuits_length
    ∷ results_length
    ∷ results_length
    ∷ results_length
    ∷ results_length
    ∷ []
