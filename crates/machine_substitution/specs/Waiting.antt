-- The parts that are waited for, as a stack of words: for each the number of binders around it.
use Rattle.std.specs.Prelude.{ℕ, zero, suc, cond, List, [], ◌∷◌, eqb, get_or}
use Rattle.rules.specs.Kinds.{abstraction_kind, let_kind}

-- The first d words, the last of them on top.
abbrev pub stack_of : List ℕ → ℕ → List ℕ
stack_of ws zero = []
stack_of ws (suc d) = get_or ws d 0 ∷ stack_of ws d

-- How many binders a node of kind k puts around its last part.
unfoldable pub binders_of : ℕ → ℕ
binders_of k = cond (eqb k abstraction_kind) 1 (cond (eqb k let_kind) 2 0)
