-- `rules::type_code` meets its contract: the row that a gate has in the constant tables is the type of that gate of `gate_table` in
-- preorder, as antt computes it. Assumes nothing.
use borrow.Author.Rules.{rules}
use mathlib.Core.Logic.{⊎_elim}
use Rattle.rules.proofs.GateTable.{code_inside, no_such_gate, no_such_entry}
use Rattle.rules.proofs.type_code.Goals as goal

pub returns-then-i-lt-MOST_TYPE : goal.returns-then-i-lt-MOST_TYPE
returns-then-i-lt-MOST_TYPE c =
    let a = c.args in
    code_inside a.n a.i c.from.result c.from.ensures (search rules) (search rules)

pub returns-else-n-lt-GATES : goal.returns-else-n-lt-GATES
returns-else-n-lt-GATES c =
    let a = c.args in
    ⊎_elim
    (λ w. no_such_entry a.n a.i w.1)
    (λ w. no_such_gate a.n a.i w)
    c.else-n-lt-GATES.either
