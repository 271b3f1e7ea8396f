-- Demand 3 of a program that the check accepts (01, "Agreed between us": "As soon as the check and the run can be called,
-- the whole of demand 3 is owed of them").
use Rattle.std.specs.Prelude.{ℕ, ◌≡◌, List}
use Rattle.rules.specs.Types.{Ty}
use Rattle.rules.specs.Steps.{Configuration, start}
use Rattle.rules.specs.Sizes.{most_gates, Row}
use Rattle.rules.specs.Demand3.{Demand3}
use Rattle.check_program.specs.Answers.{labels_of, term_of, accepts, check_of}

-- For every row of rule steps that fit, from the file's labels and term.
unfoldable pub AcceptedIsSafe : List ℕ → Type 0
AcceptedIsSafe f =
    (A : Ty)
    → check_of f ≡ accepts A
    → (n : ℕ) (c : Configuration)
    → Row most_gates (start (labels_of f) (term_of f)) n c
    → Demand3 most_gates (start (labels_of f) (term_of f)) A n c
