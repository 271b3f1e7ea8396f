-- The lent buffers of a state: what stands in them, and that they are still the same ones.
use Rattle.std.specs.Prelude.{ℕ, ◌≡◌, List, length}
use Rattle.words.specs.Words.{words}
use Rattle.words.specs.Quadwords.{quadwords_in}
use Rattle.machine_nodes.specs.Nodes.{nodes_in}
use Rattle.machine_circuits.specs.Layout.{four_results}
use Rattle.machine_state.specs.declared.Buffers.{Buffers}
use Rattle.machine_state.specs.Memory.{Memory, memory}

-- The views of the bytes in the buffers, with any codes of types.
abbrev pub memory_with : List ℕ → Buffers → Memory
memory_with ws b =
    memory (nodes_in b.nodes.now) (quadwords_in b.stack.now) (quadwords_in b.gates.now) (quadwords_in b.circuits.now)
    (quadwords_in b.frames.now) ws
    (four_results (words b.results0.now) (words b.results1.now) (words b.results2.now) (words b.results3.now))

-- The views of the bytes in all of them.
abbrev pub memory_in : Buffers → Memory
memory_in b = memory_with (words b.types.now) b

-- Each is the buffer that was lent, and as long.
abbrev pub SameBuffers : Buffers → Buffers → Type 0
SameBuffers b b' =
    (b'.nodes.ghost_name ≡ b.nodes.ghost_name)
    × (b'.stack.ghost_name ≡ b.stack.ghost_name)
    × (b'.types ≡ b.types)
    × (b'.frames.ghost_name ≡ b.frames.ghost_name)
    × (b'.gates.ghost_name ≡ b.gates.ghost_name)
    × (b'.circuits.ghost_name ≡ b.circuits.ghost_name)
    × (b'.results0.ghost_name ≡ b.results0.ghost_name)
    × (b'.results1.ghost_name ≡ b.results1.ghost_name)
    × (b'.results2.ghost_name ≡ b.results2.ghost_name)
    × (b'.results3.ghost_name ≡ b.results3.ghost_name)
    × (length b'.nodes.now ≡ length b.nodes.now)
    × (length b'.stack.now ≡ length b.stack.now)
    × (length b'.frames.now ≡ length b.frames.now)
    × (length b'.gates.now ≡ length b.gates.now)
    × (length b'.circuits.now ≡ length b.circuits.now)
    × (length b'.results0.now ≡ length b.results0.now)
    × (length b'.results1.now ≡ length b.results1.now)
    × (length b'.results2.now ≡ length b.results2.now)
    × (length b'.results3.now ≡ length b.results3.now)
