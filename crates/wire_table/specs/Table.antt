-- The table of a circuit's wires in lent memory: one byte a wire.
use Rattle.std.specs.Prelude.{ℕ, suc, ◌≤◌, ◌<◌, ◌≡◌, Bool, true, List, ◌++◌, length, get_or}
use Rattle.std.proofs.Math.Option.{Option, none, some}
use Rattle.rules.specs.Types.{Wire, wire_code}
use Rattle.rules.specs.Circuits.{count}
use Rattle.wire_table.specs.Wires.{there, all_there}

-- The byte of a wire: 0 where it is not there, else one more than the code of its type.
abbrev pub wire_byte : Option Wire → ℕ
wire_byte none = 0
wire_byte (some α) = suc (wire_code α)

-- Memory has the table of the wires of these types, of which those in the list are gone. Only wires that were made are gone.
pub record Holds (m : List ℕ) (types : List Wire) (gone : List ℕ) : Type 0 where
  pub bytes : (w : ℕ) → get_or m w 0 ≡ wire_byte (there types gone w)
  pub gone_made : (w : ℕ) → 1 ≤ count w gone → w < length types

-- Wires are taken one after the other: whether all were there, and the table if they were.
pub record TakesAll (types : List Wire) (gone ws : List ℕ) (αs : List Wire) (m : List ℕ) (all : Bool) : Type 0 where
  pub answers : all ≡ all_there types gone ws αs
  pub holds : all ≡ true → Holds m types (ws ++ gone)

-- Wires of these types are made: they get the next numbers.
pub record MakesAll (types : List Wire) (gone : List ℕ) (αs : List Wire) (m : List ℕ) (made : ℕ) : Type 0 where
  pub count_is : made ≡ length (types ++ αs)
  pub holds : Holds m (types ++ αs) gone
