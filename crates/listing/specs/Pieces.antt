-- The parts of a listing as they stand in memory, and are written from there piece by piece.
use Rattle.std.specs.Prelude.{ℕ, zero, suc, List, [], ◌++◌}

-- The first k pieces, one behind the other.
unfoldable pub pieces : (ℕ → List ℕ) → ℕ → List ℕ
pieces f zero = []
pieces f (suc k) = pieces f k ++ f k
