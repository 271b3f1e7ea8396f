-- Circuits (01, "Words of demand 3" and "Steps"; 000, definition 2.13).
use Rattle.std.specs.Prelude.{ℕ, zero, suc, ◌+◌, ◌≤◌, ◌<◌, ◌≡◌, Bool, true, false, List, [], ◌∷◌, ◌++◌, map, eqb, length}
use Rattle.std.proofs.Math.Option.{Option, none, some}
use Rattle.rules.specs.Types.{Wire, Ty, wires}
use Rattle.rules.specs.Gates.{◌to◌, nth, gate_type, gate_outputs}
use Rattle.rules.specs.Terms.{Tuple, single, both, labels, tuple_from, Gate, ◌on◌, Boxed, boxed, empty}

-- 01: "Each frame has a circuit (inputs with types, gates in order)". The gates stand newest first.
pub data Circuit : Type 0 where
  circuit : List Wire → List Gate → Circuit

-- The types of the wires that gates make, oldest first.
abbrev pub outputs : List Gate → List Wire
outputs [] = []
outputs ((n on ws) ∷ gs) = outputs gs ++ gate_outputs n

-- How many wires a circuit has made: the number of the next one. I ++ outputs gs has their types, by number. 01: "inputs
-- from 0, then each gate's outputs, next numbers in order".
abbrev pub wire_count : Circuit → ℕ
wire_count (circuit I gs) = length (I ++ outputs gs)

-- k numbers from n on.
abbrev pub numbers : ℕ → ℕ → List ℕ
numbers n zero = []
numbers n (suc k) = n ∷ numbers (suc n) k

-- The numbers of the wires made. 01: "A wire is made as an input or a gate's output".
abbrev pub made_by : List Wire → List Gate → List ℕ
made_by I [] = numbers 0 (length I)
made_by I ((n on ws) ∷ gs) = made_by I gs ++ numbers (length (I ++ outputs gs)) (length (gate_outputs n))

-- The wires taken, once for each slot. 01: "taken by a gate that has it among its inputs".
abbrev pub taken : List Gate → List ℕ
taken [] = []
taken ((n on ws) ∷ gs) = ws ++ taken gs

-- 1 where a test holds, else 0.
abbrev pub one_if : Bool → ℕ
one_if true = 1
one_if false = 0

-- How often w stands in a list.
abbrev pub count : ℕ → List ℕ → ℕ
count w [] = 0
count w (x ∷ xs) = one_if (eqb w x) + count w xs

-- The wires of a list have these types, among wires with the given types by number.
pub data OfTypes (types : List Wire) : List ℕ → List Wire → Type 0 where
  wires_end : OfTypes types [] []
  next_wire : {w : ℕ} {α : Wire} {ws : List ℕ} {αs : List Wire}
      → nth types w ≡ some α
      → OfTypes types ws αs
      → OfTypes types (w ∷ ws) (α ∷ αs)

-- Each gate is one of the table and takes wires made before it, of its types.
pub data TakesEarlier (I : List Wire) : List Gate → Type 0 where
  no_gate : TakesEarlier I []
  next_gate : {n : ℕ} {T U : Ty} {ws : List ℕ} {gs : List Gate}
      → gate_type n ≡ some (T to U)
      → OfTypes (I ++ outputs gs) ws (wires T)
      → TakesEarlier I gs
      → TakesEarlier I ((n on ws) ∷ gs)

-- 01: "A circuit is sound if each wire is made once and each gate takes wires made before it, of its types, which no
-- other slot takes."
pub record Sound (I : List Wire) (gs : List Gate) : Type 0 where
  pub made_once : (w : ℕ) → w < length (I ++ outputs gs) → count w (made_by I gs) ≡ 1
  pub takes_earlier : TakesEarlier I gs
  pub taken_once : (w : ℕ) → count w (taken gs) ≤ 1

-- What there is, where a number is 0.
abbrev pub if_none : ℕ → Option Wire → Option Wire
if_none zero α = α
if_none (suc n) α = none

-- 01: "Wires not taken are loose." The loose wires with their types, as a label context (000, definition 2.5).
abbrev pub loose : List Wire → List Gate → ℕ → Option Wire
loose I gs w = if_none (count w (taken gs)) (nth (I ++ outputs gs) w)

-- Demand 3: each wire has gone exactly once. It is counted once among the wires that the gates take and the given labels,
-- those of a result or of a finished term.
abbrev pub GoneOnce : List Wire → List Gate → List ℕ → Type 0
GoneOnce I gs ℓs = (w : ℕ) → w < length (I ++ outputs gs) → count w (taken gs ++ ℓs) ≡ 1

-- The number that a wire of a copied circuit gets: an input that of the argument's label at its place, the others
-- follow on from the next number. 01: "its inputs matched to the argument tuple left to right, new outputs numbered on".
abbrev pub rename : List ℕ → ℕ → ℕ → ℕ
rename [] next w = next + w
rename (ℓ ∷ ℓs) next zero = ℓ
rename (ℓ ∷ ℓs) next (suc w) = rename ℓs next w

-- A copied gate: the same gate on the renamed wires.
abbrev pub rename_gate : List ℕ → ℕ → Gate → Gate
rename_gate ℓs next (n on ws) = n on map (rename ℓs next) ws

-- A result tuple with its wires renamed likewise.
abbrev pub rename_tuple : List ℕ → ℕ → Tuple → Tuple
rename_tuple ℓs next (single w) = single (rename ℓs next w)
rename_tuple ℓs next empty = empty
rename_tuple ℓs next (both t u) = both (rename_tuple ℓs next t) (rename_tuple ℓs next u)

-- 000, definition 2.13: the circuit after append. 01: "Apply copies the constant's gates in order".
abbrev pub appended : Circuit → Tuple → Boxed → Circuit
appended (circuit I hs) k (boxed T gs r) = circuit I (map (rename_gate (labels k) (wire_count (circuit I hs))) gs ++ hs)

-- 000, definition 2.13: the tuple that append gives. 01: "The result tuple is renamed likewise; a wire of the argument
-- that none of the copied gates took keeps its number."
abbrev pub returned : Circuit → Tuple → Boxed → Tuple
returned (circuit I hs) k (boxed T gs r) = rename_tuple (labels k) (wire_count (circuit I hs)) r

-- A gate as a boxed circuit of one gate (000, 2.2: the gate H is written (ℓ, H, ℓ')).
abbrev pub gate_boxed : ℕ → Ty → Ty → Boxed
gate_boxed n T U =
    boxed T ((n on numbers 0 (length (wires T))) ∷ []) (tuple_from (length (wires T)) U)
