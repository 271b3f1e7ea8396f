-- The memory as it is before the program's term is looked at: the types of the gates and of the file, and the labels.
use Rattle.std.specs.Prelude.{ℕ, zero, suc, ◌+◌, List}
use Rattle.program.specs.Format.{kind_at}
use Rattle.check_types.specs.NewCell.{with_cell}
use Rattle.check_program.specs.Layout.{most_cells}

-- The bindings of the labels: the cells 0 and 1 are Bit and Qubit. All 64 are written, those behind the last label too.
unfoldable pub bindings_loaded : List ℕ → List ℕ → ℕ → List ℕ
bindings_loaded f w zero = w
bindings_loaded f w (suc k) = with_cell (bindings_loaded f w k) (most_cells + k) (kind_at f k) 0 0 0
