-- What loading has to do: lent memory holds the start configuration of an accepted file.
use Rattle.std.specs.Prelude.{ℕ, ◌≤◌, ◌+◌, ◌≡◌, false, List, map, length}
use Rattle.rules.specs.Types.{wire_code}
use Rattle.rules.specs.Sizes.{most_nodes, most_labels, most_types}
use Rattle.rules.specs.Steps.{start}
use Rattle.program.specs.Reading.{read_of, accepted as read_accepted}
use Rattle.machine_terms.specs.Trees.{Node}
use Rattle.machine_terms.specs.States.{start_state, decode, StateFits}
use Rattle.check_program.specs.Answers.{labels_of, term_of}
use Rattle.words.specs.Regions.{Stands}
use Rattle.machine_walk.specs.Places.{least_nodes}
use Rattle.words.specs.Quadwords.{Quadword}
use Rattle.machine_state.specs.Memory.{Memory, memory, Roomy, HoldsState}
use Rattle.machine_state.specs.Outcomes.{SizesFit}
use Rattle.machine_state.specs.declared.StateNumbers.{StateNumbers}
use Rattle.machine_load.specs.Trees.{tree_of, types_of}
use Rattle.machine_circuits.specs.Layout.{labels_start}

-- The least number of words of the types' buffer.
abbrev pub least_types : ℕ
least_types = most_types + most_labels

-- The numbers at the start: all nodes from this place on are to be walked, one frame is open, and nothing is built.
abbrev pub numbers_at : ℕ → StateNumbers
numbers_at right =
    record {
      place = record { left = 0; right = right; depth = 0; returning = false };
      counts = record { frames = 1; gates = 0; boxes = 0; kept = 0 };
    }

-- The memory, with the numbers, holds the start of a file with so many type positions. 01: "At the start there is one
-- frame: the L labels as inputs, no gate, the file's term."
pub record Started (f : List ℕ) (positions : ℕ) (m : Memory) (r : StateNumbers) : Type 0 where
  pub held : HoldsState (types_of f) positions m r (start_state (labels_of f) (tree_of f))
  pub fits : StateFits positions (start_state (labels_of f) (tree_of f))
  pub means : decode (types_of f) (start_state (labels_of f) (tree_of f)) ≡ start (labels_of f) (term_of f)
  pub start_sizes_fit : (allowance : ℕ) → SizesFit allowance (start_state (labels_of f) (tree_of f))
  pub labels_held : Stands m.types labels_start (map wire_code (labels_of f))

-- The contract of loading, for every accepted file and every memory of the least lengths.
abbrev pub Loads : List ℕ → List Node → List ℕ → List Quadword → StateNumbers → Type 0
Loads f ns ws fs r =
    (L P N : ℕ) (rs : List Quadword) (gs cs : List Quadword) (results : ℕ → List ℕ)
    → read_of f ≡ read_accepted L P N
    → least_nodes ≤ length ns
    → most_nodes ≤ length rs
    → least_types ≤ length ws
    → Roomy (memory ns rs gs cs fs ws results)
    → Started f P (memory ns rs gs cs fs ws results) r
