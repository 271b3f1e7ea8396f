-- 02, ticket 6, "A gate on three wires": programs with CCX, of each the file, the program, and what the check and a run give.
use Rattle.std.specs.Prelude.{ℕ, List, [], ◌∷◌, ◌++◌}
use Rattle.rules.specs.Types.{Wire, Bit, Qubit, Ty, ◌⊗◌, Circ}
use Rattle.rules.specs.Gates.{CCX}
use Rattle.rules.specs.Terms.{Term, variable, label, gate, abstraction, pair, let_in, lift, box, apply}
use Rattle.rules.specs.CaseTerms.{two_labels, qubit, H}
use Rattle.run_answers.specs.Answers.{ran}
use Rattle.cases.specs.Case.{LimitedRun, limit◌gives◌, Case, unfinished, wirelist_limit}
use Rattle.cases.specs.CopiedPairs.{with_variable}
use Rattle.cases.specs.UnitCases.{accepted_case, refused_program}

-- Three labels, and "a pair of a Qubit and a pair of Qubits".
abbrev pub three_labels : List Wire
three_labels = Qubit ∷ two_labels

abbrev pub three : Ty
three = qubit ⊗ (qubit ⊗ qubit)

-- The tuple of three parts, and CCX on it.
abbrev pub triple : Term → Term → Term → Term
triple M N P = pair M (pair N P)

abbrev pub ccx_on : Term → Term → Term → Term
ccx_on M N P = apply (gate CCX) (triple M N P)

-- FINISHED
-- Each gives the three wires that the last CCX makes.

abbrev pub gives_three : Term → List LimitedRun → Case
gives_three M runs = accepted_case three_labels M (2 ∷ 1 ∷ 2 ∷ 1 ∷ 1 ∷ []) runs

-- CCX takes 0, 1 and 2 and makes 3, 4 and 5.
abbrev pub applied_listing : List ℕ
applied_listing =
    0x03 ∷ 0x00 ∷ 0x01 ∷ 0x00 ∷ 0x03 ∷ 0x00
    ∷ 0x81 ∷ 0x81 ∷ 0x81 ∷ 0x0B
    ∷ 0xFF ∷ 0xFF ∷ 0xFF ∷ 0xFF ∷ 0xFF ∷ 0xFF ∷ 0xFF ∷ 0xFF ∷ 0xFF ∷ 0xFF ∷ 0xFF ∷ 0xFF ∷ 0xFF ∷ 0xFF ∷ 0xFF ∷ 0xFF ∷ 0xFF ∷ 0xFF
    ∷ 0x00 ∷ 0x00 ∷ 0x01 ∷ 0x00 ∷ 0x02 ∷ 0x00
    ∷ 0x03 ∷ 0x00 ∷ 0x04 ∷ 0x00 ∷ 0x05 ∷ 0x00 ∷ []

abbrev pub applied : Case
applied = gives_three (ccx_on (label 0) (label 1) (label 2)) (limit 0 gives unfinished ∷ limit 1 gives ran 1 1 applied_listing ∷ [])

-- CCX takes 2, 0 and 1: the slots are in the order of the argument.
abbrev pub crossed : Case
crossed =
    gives_three (ccx_on (label 2) (label 0) (label 1))
    (limit wirelist_limit gives ran 1 1 (
    0x03 ∷ 0x00 ∷ 0x01 ∷ 0x00 ∷ 0x03 ∷ 0x00
    ∷ 0x81 ∷ 0x81 ∷ 0x81 ∷ 0x0B
    ∷ 0xFF ∷ 0xFF ∷ 0xFF ∷ 0xFF ∷ 0xFF ∷ 0xFF ∷ 0xFF ∷ 0xFF ∷ 0xFF ∷ 0xFF ∷ 0xFF ∷ 0xFF ∷ 0xFF ∷ 0xFF ∷ 0xFF ∷ 0xFF ∷ 0xFF ∷ 0xFF
    ∷ 0x02 ∷ 0x00 ∷ 0x00 ∷ 0x00 ∷ 0x01 ∷ 0x00
    ∷ 0x03 ∷ 0x00 ∷ 0x04 ∷ 0x00 ∷ 0x05 ∷ 0x00 ∷ []
    ) ∷ [])

-- A box at three of a body with variable 0.
abbrev pub box_at_three : Term → Term
box_at_three M = box three (lift (abstraction three M))

-- CCX in a box, applied: as many steps as c4.
abbrev pub boxed_ccx : Term
boxed_ccx = box_at_three (apply (gate CCX) (variable 0))

abbrev pub in_a_box : Case
in_a_box =
    gives_three (apply boxed_ccx (triple (label 0) (label 1) (label 2)))
    (limit 4 gives unfinished ∷ limit 5 gives ran 5 1 applied_listing ∷ [])

-- That box in a box, applied twice: to 0, 1 and 2, which makes 3, 4 and 5, and then to 5, 3 and 4, which makes 6, 7 and 8.
abbrev pub applied_twice : Case
applied_twice =
    gives_three
    (with_variable (Circ three three)
    (let_in (apply (variable 0) (triple (label 0) (label 1) (label 2)))
    (let_in (variable 0) (apply (variable 4) (triple (variable 0) (variable 3) (variable 1)))))
    (box_at_three (apply boxed_ccx (variable 0))))
    (limit 12 gives unfinished ∷ limit 13 gives ran 13 2 (
    0x03 ∷ 0x00 ∷ 0x02 ∷ 0x00 ∷ 0x03 ∷ 0x00
    ∷ 0x81 ∷ 0x81 ∷ 0x81 ∷ 0x0B ∷ 0x0B
    ∷ 0xFF ∷ 0xFF ∷ 0xFF ∷ 0xFF ∷ 0xFF ∷ 0xFF ∷ 0xFF ∷ 0xFF ∷ 0xFF ∷ 0xFF ∷ 0xFF ∷ 0xFF ∷ 0xFF ∷ 0xFF ∷ 0xFF ∷ 0xFF ∷ 0xFF ∷ 0xFF
    ∷ 0x00 ∷ 0x00 ∷ 0x01 ∷ 0x00 ∷ 0x02 ∷ 0x00
    ∷ 0x05 ∷ 0x00 ∷ 0x03 ∷ 0x00 ∷ 0x04 ∷ 0x00
    ∷ 0x06 ∷ 0x00 ∷ 0x07 ∷ 0x00 ∷ 0x08 ∷ 0x00 ∷ []
    ) ∷ [])

abbrev pub finished_threes : List Case
finished_threes = applied ∷ crossed ∷ in_a_box ∷ applied_twice ∷ []

-- REFUSED

-- Three wires nested the other way; two wires; a Bit for each wire in turn; H on the pair that CCX gives behind its first wire; the
-- third wire that it gives dropped.
abbrev pub refused_threes : List Case
refused_threes =
    refused_program three_labels (apply (gate CCX) (pair (pair (label 0) (label 1)) (label 2))) 16 3
    ∷ refused_program two_labels (apply (gate CCX) (pair (label 0) (label 1))) 16 2
    ∷ refused_program (Bit ∷ Qubit ∷ Qubit ∷ []) (ccx_on (label 0) (label 1) (label 2)) 16 3
    ∷ refused_program (Qubit ∷ Bit ∷ Qubit ∷ []) (ccx_on (label 0) (label 1) (label 2)) 16 3
    ∷ refused_program (Qubit ∷ Qubit ∷ Bit ∷ []) (ccx_on (label 0) (label 1) (label 2)) 16 3
    ∷ refused_program three_labels
    (let_in (ccx_on (label 0) (label 1) (label 2)) (pair (variable 1) (apply (gate H) (variable 0)))) 16 13
    ∷ refused_program three_labels
    (let_in (ccx_on (label 0) (label 1) (label 2)) (let_in (variable 0) (pair (variable 3) (variable 1)))) 17 11
    ∷ []

abbrev pub three_wire_cases : List Case
three_wire_cases = finished_threes ++ refused_threes
