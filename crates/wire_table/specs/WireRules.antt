-- 02, ticket 3: the wire rules and the place where one is broken, in words. `wires_mean` of Theorems/Wires: broken_at gives these.
use Rattle.std.specs.Prelude.{ℕ, zero, suc, ◌+◌, ◌≤◌, ◌<◌, ◌≡◌, ◌⊎◌, List, [], ◌∷◌, ◌++◌, length}
use Rattle.std.proofs.Math.Option.{some}
use Rattle.rules.specs.Types.{Wire}
use Rattle.rules.specs.Gates.{nth, gate_type, input_wires}
use Rattle.rules.specs.Terms.{Gate, ◌on◌}
use Rattle.rules.specs.Circuits.{outputs, taken, count, Sound, GoneOnce}

-- "goes exactly once to a gate or an output": the circuit is sound, as 01 says, each output has been made, and each wire has gone
-- exactly once, to a gate or to an output. 02, ticket 5: "A discarded wire counts as gone to a gate."
pub record GoesOnce (I : List Wire) (gs : List Gate) (outs : List ℕ) : Type 0 where
  pub sound : Sound I gs
  pub outputs_made : (w : ℕ) → 1 ≤ count w outs → w < length (I ++ outputs gs)
  pub gone_once : GoneOnce I gs outs

-- "not made before, of another type, or gone already": what is wrong with wire w where a wire of type α is taken.
pub data WrongWire (types : List Wire) (gone : List ℕ) (w : ℕ) (α : Wire) : Type 0 where
  not_made : length types ≤ w → WrongWire types gone w α
  other_type : {β : Wire} → nth types w ≡ some β → (β ≡ α → ⊥) → WrongWire types gone w α
  gone_already : 1 ≤ count w gone → WrongWire types gone w α

-- One of the slots takes a wire wrongly. For the slots behind it a slot's wire is gone.
pub data TakesWrongly (types : List Wire) : List ℕ → List ℕ → List Wire → Type 0 where
  this_slot : {gone : List ℕ} {w : ℕ} {ws : List ℕ} {α : Wire} {αs : List Wire}
      → WrongWire types gone w α
      → TakesWrongly types gone (w ∷ ws) (α ∷ αs)
  later_slot : {gone : List ℕ} {w : ℕ} {ws : List ℕ} {α : Wire} {αs : List Wire}
      → TakesWrongly types (w ∷ gone) ws αs
      → TakesWrongly types gone (w ∷ ws) (α ∷ αs)

-- Gate i, counted from the oldest, takes a wire wrongly: among the wires that the inputs and the gates before it made, with those
-- gone that the gates before it took.
pub data WrongGate (I : List Wire) : List Gate → ℕ → Type 0 where
  the_newest : {n : ℕ} {ws : List ℕ} {gs : List Gate}
      → TakesWrongly (I ++ outputs gs) (taken gs) ws (input_wires (gate_type n))
      → WrongGate I ((n on ws) ∷ gs) (length gs)
  an_older : {g : Gate} {gs : List Gate} {i : ℕ} → WrongGate I gs i → WrongGate I (g ∷ gs) i

-- Output j was never made, or is gone, to a gate or to an output before it.
pub data WrongOutput (types : List Wire) : List ℕ → List ℕ → ℕ → Type 0 where
  this_output : {gone : List ℕ} {w : ℕ} {ws : List ℕ}
      → (length types ≤ w) ⊎ (1 ≤ count w gone)
      → WrongOutput types gone (w ∷ ws) zero
  later_output : {gone : List ℕ} {w : ℕ} {ws : List ℕ} {j : ℕ}
      → WrongOutput types (w ∷ gone) ws j
      → WrongOutput types gone (w ∷ ws) (suc j)

-- Wire w is left over: made, and gone to no gate and no output.
abbrev pub LeftOver : List Wire → List Gate → List ℕ → ℕ → Type 0
LeftOver I gs outs w = (w < length (I ++ outputs gs)) × (count w (taken gs ++ outs) ≡ 0)

-- Entry e makes wire w.
pub data Makes (I : List Wire) : List Gate → ℕ → ℕ → Type 0 where
  an_input : {w : ℕ} → w < length I → Makes I [] w w
  newest_makes : {g : Gate} {gs : List Gate} {w : ℕ}
      → length (I ++ outputs gs) ≤ w
      → w < length (I ++ outputs (g ∷ gs))
      → Makes I (g ∷ gs) w (length I + length gs)
  older_makes : {g : Gate} {gs : List Gate} {w e : ℕ} → Makes I gs w e → Makes I (g ∷ gs) w e

-- n is the first such number, and there is none.
pub record First (Such : ℕ → Type 0) (n : ℕ) : Type 0 where
  pub is_such : Such n
  pub none_before : (m : ℕ) → m < n → Such m → ⊥

abbrev pub NoSuch : (ℕ → Type 0) → Type 0
NoSuch Such = (n : ℕ) → Such n → ⊥

-- "Its place is the first gate entry that takes a wire wrongly, else L+G plus the number of the first wrong output, else the entry
-- that made the lowest wire left over."
pub data BrokenAt (I : List Wire) (gs : List Gate) (outs : List ℕ) : ℕ → Type 0 where
  at_gate : {i : ℕ} → First (WrongGate I gs) i → BrokenAt I gs outs (length I + i)
  at_output : {j : ℕ}
      → NoSuch (WrongGate I gs)
      → First (WrongOutput (I ++ outputs gs) (taken gs) outs) j
      → BrokenAt I gs outs (length I + length gs + j)
  at_maker : {w e : ℕ}
      → NoSuch (WrongGate I gs)
      → NoSuch (WrongOutput (I ++ outputs gs) (taken gs) outs)
      → First (LeftOver I gs outs) w
      → Makes I gs w e
      → BrokenAt I gs outs e
