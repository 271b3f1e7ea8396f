-- The configuration that lent memory holds (docs/FORMATS.md has the layout to the byte).
use Rattle.std.specs.Prelude.{ℕ, suc, ◌+◌, ◌*◌, ◌≤◌, ◌<◌, ◌≡◌, List, [], ◌∷◌, length}
use Rattle.rules.specs.Types.{Ty, type_codes, most_entries}
use Rattle.rules.specs.Terms.{Boxed}
use Rattle.rules.specs.Circuits.{Circuit, circuit, wire_count}
use Rattle.rules.specs.Sizes.{closed_gates, most_gates, most_boxes, most_nodes}
use Rattle.machine_terms.specs.Trees.{Node}
use Rattle.machine_terms.specs.Walks.{Walk}
use Rattle.machine_terms.specs.States.{State, state, open_gates}
use Rattle.words.specs.Regions.{Stands}
use Rattle.machine_walk.specs.Places.{Holds}
use Rattle.words.specs.Quadwords.{Quadword, quadword, quadword_at}
use Rattle.machine_circuits.specs.Layout.{closed_from, most_result, results_each}
use Rattle.machine_circuits.specs.Applying.{HoldsCircuits}
use Rattle.machine_state.specs.declared.Counts.{Counts}
use Rattle.machine_state.specs.declared.StateNumbers.{StateNumbers}

-- The views of the buffers: nodes, stack of opened nodes, gates, closed circuits, frames, codes of the types, results.
pub record Memory : Type 0 where
  pub nodes : List Node
  pub stack : List Quadword
  pub gates : List Quadword
  pub circuits : List Quadword
  pub frames : List Quadword
  pub types : List ℕ
  pub results : ℕ → List ℕ

abbrev pub memory : List Node
    → List Quadword
    → List Quadword
    → List Quadword
    → List Quadword
    → List ℕ
    → (ℕ → List ℕ)
    → Memory
memory ns rs gs cs fs ws results =
    record { nodes = ns; stack = rs; gates = gs; circuits = cs; frames = fs; types = ws; results = results }

-- The quadword of a frame, with the circuits of the frames below: the quadword of its first gate, how many wires its circuit has
-- made, and how many of these are inputs.
abbrev pub frame_words : Circuit → List Circuit → Quadword
frame_words (circuit I hs) Cs = quadword (open_gates Cs) (wire_count (circuit I hs)) (length I) 0

abbrev pub inputs : Circuit → ℕ
inputs (circuit I hs) = length I

-- No type has more entries, so no circuit has more inputs.
abbrev pub most_inputs : ℕ
most_inputs = most_entries

-- The quadwords of the frames, the outermost first. Circuits are listed as in a configuration, the innermost first.
abbrev pub HoldsFrames : List Quadword → List Circuit → Type 0
HoldsFrames fs [] = Unit {0}
HoldsFrames fs (C ∷ Cs) =
    (quadword_at fs (length Cs) ≡ frame_words C Cs) × (inputs C ≤ most_inputs) × HoldsFrames fs Cs

-- The counts are those of the open circuits Cs and the closed ones K.
pub record Counted (n : Counts) (Cs : List Circuit) (K : List Boxed) : Type 0 where
  pub frames_are : n.frames ≡ length Cs
  pub gates_are : n.gates ≡ open_gates Cs
  pub boxes_are : n.boxes ≡ length K
  pub closed_are : n.kept ≡ closed_gates K

-- How long the buffers are at least: quadwords of gates, of closed circuits, of frames, and words of each result buffer.
pub record Roomy (m : Memory) : Type 0 where
  pub gates_room : closed_from + most_gates ≤ length m.gates
  pub circuits_room : most_boxes ≤ length m.circuits
  pub frames_room : suc most_nodes ≤ length m.frames
  pub result_words : (b : ℕ) → b < 4 → most_result * results_each ≤ length (m.results b)

-- The circuits: the open ones Cs, the innermost first, and the closed ones K, the latest first.
pub record HoldsBuilt (types : ℕ → Ty) (positions : ℕ) (m : Memory) (n : Counts) (Cs : List Circuit) (K : List Boxed) : Type 0 where
  pub circuits_held : HoldsCircuits types positions m.gates m.circuits m.results Cs K
  pub frames_held : HoldsFrames m.frames Cs
  pub counted : Counted n Cs K
  pub roomy : Roomy m
  pub few_gates : open_gates Cs + closed_gates K ≤ most_gates
  pub few_boxes : length K ≤ most_boxes

-- The codes of the type at each position of the program's type section stand in the types' buffer from that position on.
abbrev pub HoldsTypes : (ℕ → Ty) → ℕ → Memory → Type 0
HoldsTypes types positions m = (p : ℕ) → p < positions → Stands m.types p (type_codes (types p))

pub record HoldsParts (types : ℕ → Ty) (positions : ℕ) (m : Memory) (r : StateNumbers) (w : Walk) (Cs : List Circuit)
    (K : List Boxed) : Type 0 where
  pub walk_held : Holds m.nodes m.stack r.place w
  pub built : HoldsBuilt types positions m r.counts Cs K
  pub types_held : HoldsTypes types positions m

-- The memory with the numbers holds a state, which stands for the configuration `decode types` of it.
abbrev pub HoldsState : (ℕ → Ty) → ℕ → Memory → StateNumbers → State → Type 0
HoldsState types positions m r (state w C Cs K) = HoldsParts types positions m r w (C ∷ Cs) K
