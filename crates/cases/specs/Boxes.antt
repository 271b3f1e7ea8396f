-- 02, ticket 10, "Boxing must not change a circuit": a pair of programs, one with a box and one without, of each the file, the
-- program, and what the check and a run give.
use Rattle.std.specs.Prelude.{ℕ, List, [], ◌∷◌}
use Rattle.rules.specs.Types.{Ty, unit, ◌⊗◌, ◌⊸◌, !◌}
use Rattle.rules.specs.Gates.{Init, Discard, CCX}
use Rattle.rules.specs.Terms.{Term, variable, label, gate, unit_value, abstraction, application, pair, let_in, lift, force}
use Rattle.rules.specs.Terms.{box, apply}
use Rattle.rules.specs.CaseTerms.{two_labels, qubit, CNOT, Meas}
use Rattle.run_answers.specs.Answers.{ran}
use Rattle.cases.specs.Case.{LimitedRun, limit◌gives◌, Case, unfinished}
use Rattle.cases.specs.CopiedPairs.{with_variable}
use Rattle.cases.specs.UnitCases.{accepted_case}

abbrev pub two_qubits : Ty
two_qubits = qubit ⊗ qubit

-- F, an abstraction over two Qubits: a helper Qubit comes by Init, CCX takes all three, and the helper is measured and goes.
abbrev pub helped_body : Term
helped_body =
    let_in (variable 0)
    (let_in (apply (gate CCX) (pair (variable 1) (pair (variable 0) (apply (gate Init) unit_value))))
    (let_in (variable 0)
    (with_variable unit (pair (variable 4) (variable 2)) (apply (gate Discard) (apply (gate Meas) (variable 0))))))

abbrev pub helped : Term
helped = abstraction two_qubits helped_body

-- A function on two Qubits is lifted, and forced twice, on labels 0 and 1 and then on what that gives.
abbrev pub twice_on_labels : Term
twice_on_labels =
    abstraction (! (two_qubits ⊸ two_qubits))
    (application (force (variable 0)) (application (force (variable 0)) (pair (label 0) (label 1))))

abbrev pub forced_twice : Term → Term
forced_twice M = application twice_on_labels (lift (abstraction two_qubits M))

-- N: CNOT on the variable of that function.
abbrev pub crossed_first : Term
crossed_first = apply (gate CNOT) (variable 0)

-- The listing of both: CNOT, Init, CCX, Meas and Discard, twice.
abbrev pub helped_listing : List ℕ
helped_listing =
    0x02 ∷ 0x00 ∷ 0x0A ∷ 0x00 ∷ 0x02 ∷ 0x00
    ∷ 0x81 ∷ 0x81 ∷ 0x05 ∷ 0x09 ∷ 0x0B ∷ 0x06 ∷ 0x0A ∷ 0x05 ∷ 0x09 ∷ 0x0B ∷ 0x06 ∷ 0x0A
    ∷ 0xFF ∷ 0xFF ∷ 0xFF ∷ 0xFF ∷ 0xFF ∷ 0xFF ∷ 0xFF ∷ 0xFF ∷ 0xFF ∷ 0xFF ∷ 0xFF ∷ 0xFF
    ∷ 0x00 ∷ 0x00 ∷ 0x01 ∷ 0x00 ∷ 0xFF ∷ 0xFF
    ∷ 0xFF ∷ 0xFF ∷ 0xFF ∷ 0xFF ∷ 0xFF ∷ 0xFF
    ∷ 0x02 ∷ 0x00 ∷ 0x03 ∷ 0x00 ∷ 0x04 ∷ 0x00
    ∷ 0x07 ∷ 0x00 ∷ 0xFF ∷ 0xFF ∷ 0xFF ∷ 0xFF
    ∷ 0x08 ∷ 0x00 ∷ 0xFF ∷ 0xFF ∷ 0xFF ∷ 0xFF
    ∷ 0x05 ∷ 0x00 ∷ 0x06 ∷ 0x00 ∷ 0xFF ∷ 0xFF
    ∷ 0xFF ∷ 0xFF ∷ 0xFF ∷ 0xFF ∷ 0xFF ∷ 0xFF
    ∷ 0x09 ∷ 0x00 ∷ 0x0A ∷ 0x00 ∷ 0x0B ∷ 0x00
    ∷ 0x0E ∷ 0x00 ∷ 0xFF ∷ 0xFF ∷ 0xFF ∷ 0xFF
    ∷ 0x0F ∷ 0x00 ∷ 0xFF ∷ 0xFF ∷ 0xFF ∷ 0xFF
    ∷ 0x0C ∷ 0x00 ∷ 0x0D ∷ 0x00 ∷ []

abbrev pub on_two_qubits : Term → List LimitedRun → Case
on_two_qubits M runs = accepted_case two_labels M (2 ∷ 1 ∷ 1 ∷ []) runs

-- F is lifted and boxed, and the box applied to N.
abbrev pub with_box_case : Case
with_box_case =
    on_two_qubits (forced_twice (apply (box two_qubits (lift helped)) crossed_first))
    (limit 30 gives unfinished ∷ limit 31 gives ran 31 10 helped_listing ∷ [])

-- F itself is applied to N: three steps fewer each time, and no box.
abbrev pub without_box_case : Case
without_box_case =
    on_two_qubits (forced_twice (application helped crossed_first))
    (limit 24 gives unfinished ∷ limit 25 gives ran 25 10 helped_listing ∷ [])

abbrev pub box_cases : List Case
box_cases = with_box_case ∷ without_box_case ∷ []
