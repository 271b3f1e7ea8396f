-- The entries of the stack of opened nodes, a quadword each.
use Rattle.std.specs.Prelude.{ℕ}
use Rattle.words.specs.Quadwords.{Quadword, quadword, word_in}

-- An entry: its tag, the place of a node, the place where something starts, and a word that is not used.
abbrev pub stack_entry : ℕ → ℕ → ℕ → Quadword
stack_entry tag node start = quadword tag node start 0

abbrev pub stack_tag : Quadword → ℕ
stack_tag q = word_in q 0

abbrev pub stack_node : Quadword → ℕ
stack_node q = word_in q 1

abbrev pub stack_start : Quadword → ℕ
stack_start q = word_in q 2

-- What stands past the end.
abbrev pub no_entry : Quadword
no_entry = stack_entry 0 0 0
