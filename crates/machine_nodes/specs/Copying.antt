-- What the bytes of a buffer are after nodes of it are copied to another place of it.
use Rattle.std.specs.Prelude.{ℕ, zero, suc, ◌+◌, ◌*◌, ◌/◌, cond, ◌&&◌, List, leb, length, get_or, set}

-- So many bytes are copied from one place to another, the first one first.
abbrev pub copied : List ℕ → ℕ → ℕ → ℕ → List ℕ
copied m from to zero = m
copied m from to (suc n) = set (copied m from to n) (to + n) (get_or (copied m from to n) (from + n) 0)

-- So many nodes, of four bytes each, are copied; nothing changes where they do not stand in the buffer or there is no room
-- for them.
unfoldable pub copy_nodes : List ℕ → ℕ → ℕ → ℕ → List ℕ
copy_nodes m from to count =
    cond (leb (from + count) (length m / 4) && leb (to + count) (length m / 4)) (copied m (4 * from) (4 * to) (4 * count)) m
