-- Comparing two cells, and the tests on one: a law for each way through the code.
use Rattle.std.specs.Prelude.{ℕ, ◌-◌, ◌≤◌, ◌≡◌, Bool, List}
use Rattle.rules.specs.Types.{Ty, entries, is_wire_type}
use Rattle.rules.specs.Inference.{same}
use Rattle.check_types.specs.Cells.{cell_size, Denotes}

-- How many of the entries that are left a cell may have: as many as its quadword says, at most all.
abbrev pub share_of : List ℕ → ℕ → ℕ → ℕ
share_of w i left = cell_size w i - (cell_size w i - left)

-- The answer of comparing cells i and j, for types of at most so many entries.
abbrev pub SaysSame : List ℕ → ℕ → ℕ → ℕ → Bool → Type 0
SaysSame w most i j r =
    (n : ℕ) (A B : Ty) → Denotes w n i A → Denotes w n j B → entries A ≤ most → r ≡ same A B

-- The answer of asking whether cell i is a wire type.
abbrev pub SaysWireType : List ℕ → ℕ → ℕ → Bool → Type 0
SaysWireType w most i r = (n : ℕ) (A : Ty) → Denotes w n i A → entries A ≤ most → r ≡ is_wire_type A
