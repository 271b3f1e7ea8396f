-- Sizes of a configuration, when it fits, and rows of steps (01, "Steps" and "Agreed between us").
use Rattle.std.specs.Prelude.{ℕ, zero, suc, ◌+◌, ◌≤◌, List, [], ◌∷◌, length}
use Rattle.rules.specs.Terms.{Boxed, boxed, Term, variable, label, gate, constant, abstraction, application, pair}
use Rattle.rules.specs.Terms.{let_in, lift, force, box, apply, unit_value}
use Rattle.rules.specs.Circuits.{circuit}
use Rattle.rules.specs.Steps.{Frame, frame, Configuration, configuration, ◌⟶◌}

-- The nodes of a term, "a circuit constant counting 1". A type counts nothing.
abbrev pub nodes : Term → ℕ
nodes (variable n) = 1
nodes (label ℓ) = 1
nodes (gate n) = 1
nodes unit_value = 1
nodes (constant b) = 1
nodes (abstraction A M) = 1 + nodes M
nodes (application M N) = 1 + (nodes M + nodes N)
nodes (pair M N) = 1 + (nodes M + nodes N)
nodes (let_in M N) = 1 + (nodes M + nodes N)
nodes (lift M) = 1 + nodes M
nodes (force M) = 1 + nodes M
nodes (box T M) = 1 + nodes M
nodes (apply M N) = 1 + (nodes M + nodes N)

-- The nodes of "each frame's whole term".
abbrev pub frame_nodes : List Frame → ℕ
frame_nodes [] = 0
frame_nodes (frame C M ∷ X) = nodes M + frame_nodes X

-- The gates of the circuits of frames.
abbrev pub frame_gates : List Frame → ℕ
frame_gates [] = 0
frame_gates (frame (circuit I gs) M ∷ X) = length gs + frame_gates X

-- The gates of closed circuits.
abbrev pub closed_gates : List Boxed → ℕ
closed_gates [] = 0
closed_gates (boxed T gs r ∷ K) = length gs + closed_gates K

-- 01: "term nodes over all open boxes".
abbrev pub total_nodes : Configuration → ℕ
total_nodes (configuration F X K) = frame_nodes (F ∷ X)

-- 01: "gates over all circuits open or closed in this run, kept until it ends".
abbrev pub total_gates : Configuration → ℕ
total_gates (configuration F X K) = frame_gates (F ∷ X) + closed_gates K

-- 01: "boxes closed".
abbrev pub boxes_closed : Configuration → ℕ
boxes_closed (configuration F X K) = length K

-- 01, "Program file": "L labels (0 to 64), P type entries (0 to 512), N term entries (1 to 2,048)".
abbrev pub most_labels : ℕ
most_labels = 64

abbrev pub most_types : ℕ
most_types = 512

abbrev pub most_terms : ℕ
most_terms = 2048

-- 01: "at most 4,096 term nodes".
abbrev pub most_nodes : ℕ
most_nodes = 4096

-- 01: "at most 2,048 gates".
abbrev pub most_gates : ℕ
most_gates = 2048

-- 01: "at most 256 boxes closed".
abbrev pub most_boxes : ℕ
most_boxes = 256

-- A configuration fits, with the number of gates that it is allowed.
pub record Fits (allowance : ℕ) (c : Configuration) : Type 0 where
  pub nodes_fit : total_nodes c ≤ most_nodes
  pub gates_fit : total_gates c ≤ allowance
  pub boxes_fit : boxes_closed c ≤ most_boxes

-- A row of rule steps, each of which fits; the number is its length. 01: "Every step starts from what the last one left".
pub data Row (allowance : ℕ) (c : Configuration) : ℕ → Configuration → Type 0 where
  no_step : Row allowance c zero c
  one_more : {n : ℕ} {d e : Configuration}
      → Row allowance c n d
      → d ⟶ e
      → Fits allowance e
      → Row allowance c (suc n) e
