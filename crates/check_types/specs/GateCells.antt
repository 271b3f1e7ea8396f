-- The cells of the gates' types.
use Rattle.std.specs.Prelude.{ℕ, zero, suc, ◌+◌, ◌-◌, ◌≡◌, List, length}
use Rattle.std.proofs.Math.Option.{some}
use Rattle.rules.specs.Kinds.{bit_kind, qubit_kind, unit_kind}
use Rattle.rules.specs.Types.{Bit, Qubit, Ty, wire, unit, Circ}
use Rattle.rules.specs.Gates.{◌to◌, gate_table, gate_type, is_gate}
use Rattle.rules.specs.GateCodes.{type_entries, type_code}
use Rattle.check_types.specs.Cells.{Denotes}
use Rattle.check_types.specs.Load.{pick, load_entry, load_codes}

-- Cells 0 and 1 are Bit and Qubit, as their kinds; the next one is unit.
abbrev pub cell_of_unit : ℕ
cell_of_unit = 2

-- The gates' types follow, in the order of the gates. How many cells come before those of gate g, how many there are in all, and
-- the cell of a gate's type, which is the last of its cells.
unfoldable pub gate_start : ℕ → ℕ
gate_start zero = 3
gate_start (suc g) = gate_start g + type_entries g

unfoldable pub gate_cells : ℕ
gate_cells = gate_start (length gate_table)

unfoldable pub gate_cell : ℕ → ℕ
gate_cell g = pick (is_gate g) (gate_start g + type_entries g - 1) 0

unfoldable pub load_gates : List ℕ → ℕ → List ℕ
load_gates w zero = load_entry (load_entry (load_entry w 0 bit_kind) 1 qubit_kind) cell_of_unit unit_kind
load_gates w (suc g) = load_codes (load_gates w g) (gate_start g) (type_code g) 0 (type_entries g)

abbrev pub load_all_gates : List ℕ → List ℕ
load_all_gates w = load_gates w (length gate_table)

-- The types without parts and the gates' types are cells.
pub record GatesLoaded (w : List ℕ) (n : ℕ) : Type 0 where
  pub bit : Denotes w n 0 (wire Bit)
  pub qubit : Denotes w n 1 (wire Qubit)
  pub unit_type : Denotes w n cell_of_unit unit
  pub gate : (g : ℕ) (T U : Ty) → gate_type g ≡ some (T to U) → Denotes w n (gate_cell g) (Circ T U)
