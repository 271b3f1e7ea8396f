-- How long the buffers that are lent to a check must be at least.
use Rattle.std.specs.Prelude.{ℕ, List, [], ◌∷◌}
use Rattle.rules.specs.Types.{most_entries}

-- 01: "The least output buffer is", for a check, 512 bytes.
abbrev pub least_out : ℕ
least_out = most_entries

-- 01: "docs/ names every other length, each at most 65,536". docs/FORMATS.md: the check's working memory.
abbrev pub least_work : ℕ
least_work = 54880

-- Both, in the order of the buffers: the output buffer, then the working memory.
abbrev pub check_lengths : List ℕ
check_lengths = least_out ∷ least_work ∷ []
