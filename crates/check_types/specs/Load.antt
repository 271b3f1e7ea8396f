-- Types loaded from their preorder: the entries from the last to the first, so that the parts of a type are loaded before it.
use Rattle.std.specs.Prelude.{ℕ, zero, suc, ◌+◌, ◌-◌, ◌≡◌, Bool, true, false, List, length, get_or, eqb}
use Rattle.rules.specs.Parts.{parts_of_kind}
use Rattle.check_types.specs.Cells.{marked, cell_size, copyable_from}
use Rattle.check_types.specs.NewCell.{with_cell}

abbrev pub pick : Bool → ℕ → ℕ → ℕ
pick true a b = a
pick false a b = b

-- The cell of the entry behind the one that is loaded as cell n, which is its first part, and the cell of its second part.
abbrev pub first_behind : ℕ → ℕ
first_behind n = n - 1

abbrev pub second_behind : List ℕ → ℕ → ℕ
second_behind w n = first_behind n - cell_size w (first_behind n)

-- The entries of a type with so many parts, whose first and second have so many entries.
abbrev pub size_with : ℕ → ℕ → ℕ → ℕ
size_with parts first second = pick (eqb parts 0) 1 (pick (eqb parts 1) (1 + first) (1 + first + second))

-- The entries of the type of this kind whose parts are the cells behind.
unfoldable pub entry_size : List ℕ → ℕ → ℕ → ℕ
entry_size w n kind = size_with (parts_of_kind kind) (cell_size w (first_behind n)) (cell_size w (second_behind w n))

-- The fourth word of its cell.
abbrev pub entry_word : List ℕ → ℕ → ℕ → ℕ
entry_word w n kind = marked (copyable_from w kind (first_behind n) (second_behind w n)) (entry_size w n kind)

-- One entry is loaded as cell n.
unfoldable pub load_entry : List ℕ → ℕ → ℕ → List ℕ
load_entry w n kind = with_cell w n kind (first_behind n) (second_behind w n) (entry_word w n kind)

-- The k codes from position p on are loaded as the cells from n on. Position p is loaded last and gets cell n + k - 1.
unfoldable pub load_codes : List ℕ → ℕ → (ℕ → ℕ) → ℕ → ℕ → List ℕ
load_codes w n f p zero = w
load_codes w n f p (suc k) = load_entry (load_codes w n f (suc p) k) (n + k) (f p)

-- The codes of a byte string.
abbrev pub codes_of : List ℕ → ℕ → ℕ
codes_of codes p = get_or codes p 0

-- What loading a string of codes leaves: position p of P has cell n + (P - 1 - p).
pub record TypesLoaded (w w' : List ℕ) (n : ℕ) (codes : List ℕ) (r : ℕ) : Type 0 where
  pub cells : r ≡ n + length codes
  pub words_loaded : w' ≡ load_codes w n (codes_of codes) 0 (length codes)
