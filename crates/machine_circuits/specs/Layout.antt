-- How the circuits of a run stand in lent memory (docs/FORMATS.md).
use Rattle.std.specs.Prelude.{ℕ, zero, suc, ◌+◌, ◌*◌, ◌/◌, ◌%◌, ◌≤◌, ◌<◌, ◌≡◌, List, [], ◌∷◌, ◌++◌, length, get_or, take}
use Rattle.rules.specs.Types.{Ty, most_entries}
use Rattle.rules.specs.Gates.{wires_in}
use Rattle.rules.specs.Terms.{Tuple, single, both, Gate, ◌on◌, Boxed, boxed, empty}
use Rattle.rules.specs.Circuits.{Circuit, circuit}
use Rattle.rules.specs.Sizes.{closed_gates, most_types, most_gates, most_boxes}
pub use Rattle.rules.specs.Slots.{no_wire, gate_slot_count}
use Rattle.machine_terms.specs.States.{open_gates}
use Rattle.words.specs.Regions.{Stands}
use Rattle.words.specs.Quadwords.{Quadword, quadword, word_in, quadword_at}

-- The gate in a quadword, in its `gate_slot_count` slots: its number, then the wires that it takes, as many as a gate of that number takes.
abbrev pub gate_of : Quadword → Gate
gate_of (quadword n u v w) = n on take (wires_in n) (u ∷ v ∷ w ∷ [])

-- The wire in a slot of a gate; `no_wire` in one that is not used.
abbrev pub slot_of : Gate → ℕ → ℕ
slot_of (n on ws) slot = get_or ws slot no_wire

-- The quadword of a gate, unused slots filled.
abbrev pub gate_words : Gate → Quadword
gate_words (n on ws) = quadword n (slot_of (n on ws) 0) (slot_of (n on ws) 1) (slot_of (n on ws) 2)

-- The gates of so many quadwords from a quadword on, the newest first, as circuits of the rules have them.
abbrev pub gates_in : List Quadword → ℕ → ℕ → List Gate
gates_in rs from zero = []
gates_in rs from (suc k) = gate_of (quadword_at rs (from + k)) ∷ gates_in rs from k

-- What stands for unit's value in a result, where a label could stand: labels are far below.
abbrev pub no_label : ℕ
no_label = 65534

-- A result, one word a node of its tuple in preorder: `no_wire` for a pair, `no_label` for unit's value, else the label.
abbrev pub tuple_words : Tuple → List ℕ
tuple_words (single ℓ) = ℓ ∷ []
tuple_words empty = no_label ∷ []
tuple_words (both k l) = no_wire ∷ (tuple_words k ++ tuple_words l)

-- The gates of the open circuits stand in the quadwords from 0 on, one stack over all frames, the outermost frame's oldest gate
-- first. Circuits are listed as in a configuration, the innermost first.
abbrev pub HoldsOpen : List Quadword → List Circuit → Type 0
HoldsOpen gs [] = Unit {0}
HoldsOpen gs (circuit I hs ∷ Cs) = (gates_in gs (open_gates Cs) (length hs) ≡ hs) × HoldsOpen gs Cs

-- The codes of the type section stand in the words of the types' buffer from 0 on, those of the labels' types from here on.
abbrev pub labels_start : ℕ
labels_start = most_types

-- The gates of the closed circuits stand in the quadwords from here on, in the order in which the circuits were closed.
abbrev pub closed_from : ℕ
closed_from = most_gates

-- The result of closed circuit i stands in a slot of 512 words: slot i % 64 of result buffer i / 64.
abbrev pub most_result : ℕ
most_result = most_entries

abbrev pub results_each : ℕ
results_each = most_boxes / 4

-- A closed circuit's quadword: the type position of its input, one of the positions of the program's type section, its first
-- gate's quadword, the number of its gates, the number of nodes of its result. So many gates were closed before.
pub record HoldsBoxed (types : ℕ → Ty) (positions : ℕ) (gs cs : List Quadword) (results : ℕ → List ℕ) (i before : ℕ) (T : Ty) (hs : List Gate)
    (k : Tuple) : Type 0 where
  pub position : word_in (quadword_at cs i) 0 < positions
  pub typed : types (word_in (quadword_at cs i) 0) ≡ T
  pub first : word_in (quadword_at cs i) 1 ≡ closed_from + before
  pub many : word_in (quadword_at cs i) 2 ≡ length hs
  pub size : word_in (quadword_at cs i) 3 ≡ length (tuple_words k)
  pub gates : gates_in gs (closed_from + before) (length hs) ≡ hs
  pub result : Stands (results (i / results_each)) (most_result * (i % results_each)) (tuple_words k)
  pub short : length (tuple_words k) ≤ most_result

abbrev pub HoldsCircuit : (ℕ → Ty) → ℕ → List Quadword → List Quadword → (ℕ → List ℕ) → ℕ → ℕ → Boxed → Type 0
HoldsCircuit types positions gs cs results i before (boxed T hs k) = HoldsBoxed types positions gs cs results i before T hs k

-- The closed circuits, the latest first as in a configuration; circuit i is the one closed after i others.
abbrev pub HoldsClosed : (ℕ → Ty) → ℕ → List Quadword → List Quadword → (ℕ → List ℕ) → List Boxed → Type 0
HoldsClosed types positions gs cs results [] = Unit {0}
HoldsClosed types positions gs cs results (b ∷ K) =
    HoldsCircuit types positions gs cs results (length K) (closed_gates K) b × HoldsClosed types positions gs cs results K

-- The words of the four result buffers, by number; there is no other buffer.
abbrev pub four_results : List ℕ → List ℕ → List ℕ → List ℕ → ℕ → List ℕ
four_results r₀ r₁ r₂ r₃ zero = r₀
four_results r₀ r₁ r₂ r₃ (suc zero) = r₁
four_results r₀ r₁ r₂ r₃ (suc (suc zero)) = r₂
four_results r₀ r₁ r₂ r₃ (suc (suc (suc zero))) = r₃
four_results r₀ r₁ r₂ r₃ (suc (suc (suc (suc n)))) = []
