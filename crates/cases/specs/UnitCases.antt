-- 02, ticket 5, "Wires that come and go": programs with unit, its value and the gates Init and Discard, of each the file, the
-- program, and what the check and a run give.
use Rattle.std.specs.Prelude.{ℕ, List, [], ◌∷◌, ◌++◌}
use Rattle.std.proofs.Math.Option.{some}
use Rattle.rules.specs.Types.{Wire, Bit, unit, ◌⊗◌, Circ}
use Rattle.rules.specs.Gates.{Init, Discard}
use Rattle.rules.specs.Terms.{Term, variable, label, gate, unit_value, abstraction, pair, let_in, lift, force}
use Rattle.rules.specs.Terms.{box, apply}
use Rattle.rules.specs.CaseTerms.{one_label, two_labels, qubit, H, CNOT, Meas}
use Rattle.program.specs.Encoding.{encode}
use Rattle.refusals.specs.declared.Refusal.TheVariants.{Typing, Run}
use Rattle.run_answers.specs.Answers.{declines, ran}
use Rattle.cases.specs.Case.{accepted, LimitedRun, limit◌gives◌, Case, unfinished, wirelist_limit, refused_case}
use Rattle.cases.specs.BaseCases.{c1_listing}
use Rattle.cases.specs.CopiedPairs.{with_variable}

-- FINISHED

-- This program is accepted with a type of these kinds, and runs give this.
abbrev pub accepted_case : List Wire → Term → List ℕ → List LimitedRun → Case
accepted_case labels M codes runs =
    record { file = encode labels M; program = some (labels, M); check = accepted codes; runs = runs }

-- Unit's value alone, with no label: "L = 0 can run". The listing has no entry and no output.
abbrev pub nothing_listing : List ℕ
nothing_listing = 0 ∷ 0 ∷ 0 ∷ 0 ∷ 0 ∷ 0 ∷ []

abbrev pub unit_alone : Case
unit_alone = accepted_case [] unit_value (6 ∷ []) (limit 0 gives ran 0 0 nothing_listing ∷ [])

-- A Qubit made from nothing: inputs, gates and outputs; the gate; no wire taken; the output.
abbrev pub made_listing : List ℕ
made_listing =
    0x00 ∷ 0x00 ∷ 0x01 ∷ 0x00 ∷ 0x01 ∷ 0x00
    ∷ 0x09
    ∷ 0xFF ∷ 0xFF ∷ 0xFF ∷ 0xFF ∷ 0xFF ∷ 0xFF
    ∷ 0x00 ∷ 0x00 ∷ []

abbrev pub made : Case
made =
    accepted_case [] (apply (gate Init) unit_value) (1 ∷ [])
    (limit 0 gives unfinished ∷ limit 1 gives ran 1 1 made_listing ∷ [])

-- A Bit discarded: it is gone to the gate, and there is no output.
abbrev pub discarded_listing : List ℕ
discarded_listing =
    0x01 ∷ 0x00 ∷ 0x01 ∷ 0x00 ∷ 0x00 ∷ 0x00
    ∷ 0x80 ∷ 0x0A
    ∷ 0xFF ∷ 0xFF ∷ 0xFF ∷ 0xFF ∷ 0xFF ∷ 0xFF ∷ 0x00 ∷ 0x00 ∷ 0xFF ∷ 0xFF ∷ 0xFF ∷ 0xFF ∷ []

abbrev pub discarded : Case
discarded =
    accepted_case (Bit ∷ []) (apply (gate Discard) (label 0)) (6 ∷ []) (limit 1 gives ran 1 1 discarded_listing ∷ [])

-- A box at unit, applied to unit's value: as many steps as c4.
abbrev pub box_at_unit : Case
box_at_unit =
    accepted_case [] (apply (box unit (lift (abstraction unit (apply (gate Init) (variable 0))))) unit_value) (1 ∷ [])
    (limit 4 gives unfinished ∷ limit 5 gives ran 5 1 made_listing ∷ [])

-- A box whose result is a pair of unit and a wire, applied twice: H on 0 and on 1 makes 2 and 3.
abbrev pub unit_in_result : Case
unit_in_result =
    accepted_case two_labels
    (with_variable (Circ qubit (unit ⊗ qubit))
    (pair (apply (variable 0) (label 0)) (apply (variable 0) (label 1)))
    (box qubit (lift (abstraction qubit (pair unit_value (apply (gate H) (variable 0)))))))
    (2 ∷ 2 ∷ 6 ∷ 1 ∷ 2 ∷ 6 ∷ 1 ∷ [])
    (limit wirelist_limit gives ran 7 2 (
    0x02 ∷ 0x00 ∷ 0x02 ∷ 0x00 ∷ 0x02 ∷ 0x00
    ∷ 0x81 ∷ 0x81 ∷ 0x00 ∷ 0x00
    ∷ 0xFF ∷ 0xFF ∷ 0xFF ∷ 0xFF ∷ 0xFF ∷ 0xFF ∷ 0xFF ∷ 0xFF ∷ 0xFF ∷ 0xFF ∷ 0xFF ∷ 0xFF ∷ 0x00 ∷ 0x00 ∷ 0xFF ∷ 0xFF ∷ 0xFF ∷ 0xFF
    ∷ 0x01 ∷ 0x00 ∷ 0xFF ∷ 0xFF ∷ 0xFF ∷ 0xFF
    ∷ 0x02 ∷ 0x00 ∷ 0x03 ∷ 0x00 ∷ []
    ) ∷ [])

-- A box at a type with unit between its wires: the wires are 0 and 1, CNOT takes 0 and 1. It is applied to labels 1 and 0.
abbrev pub unit_in_argument : Case
unit_in_argument =
    accepted_case two_labels
    (apply
    (box (qubit ⊗ (unit ⊗ qubit)) (lift (abstraction (qubit ⊗ (unit ⊗ qubit))
    (let_in (variable 0) (let_in (variable 0) (pair (variable 1) (apply (gate CNOT) (pair (variable 3) (variable 0)))))))))
    (pair (label 1) (pair unit_value (label 0))))
    (2 ∷ 6 ∷ 2 ∷ 1 ∷ 1 ∷ [])
    (limit wirelist_limit gives ran 7 1 (
    0x02 ∷ 0x00 ∷ 0x01 ∷ 0x00 ∷ 0x02 ∷ 0x00
    ∷ 0x81 ∷ 0x81 ∷ 0x05
    ∷ 0xFF ∷ 0xFF ∷ 0xFF ∷ 0xFF ∷ 0xFF ∷ 0xFF ∷ 0xFF ∷ 0xFF ∷ 0xFF ∷ 0xFF ∷ 0xFF ∷ 0xFF ∷ 0x01 ∷ 0x00 ∷ 0x00 ∷ 0x00 ∷ 0xFF ∷ 0xFF
    ∷ 0x02 ∷ 0x00 ∷ 0x03 ∷ 0x00 ∷ []
    ) ∷ [])

-- A variable of type unit copied, dropped, and used inside a lift.
abbrev pub unit_copied : Case
unit_copied =
    accepted_case [] (with_variable unit (pair (variable 0) (variable 0)) unit_value) (2 ∷ 6 ∷ 6 ∷ [])
    (limit 1 gives ran 1 0 nothing_listing ∷ [])

abbrev pub unit_dropped : Case
unit_dropped =
    accepted_case one_label (with_variable unit (label 0) unit_value) (1 ∷ []) (limit 1 gives ran 1 0 c1_listing ∷ [])

abbrev pub unit_in_lift : Case
unit_in_lift =
    accepted_case [] (with_variable unit (force (lift (variable 0))) unit_value) (6 ∷ [])
    (limit 2 gives ran 2 0 nothing_listing ∷ [])

-- A helper qubit that comes and goes in a box, which is applied twice: Init makes 0, Meas takes 0 and makes 1, Discard takes 1;
-- then the same with 2 and 3.
abbrev pub helper_twice : Case
helper_twice =
    accepted_case []
    (with_variable (Circ unit unit)
    (pair (apply (variable 0) unit_value) (apply (variable 0) unit_value))
    (box unit (lift (abstraction unit (apply (gate Discard) (apply (gate Meas) (apply (gate Init) (variable 0))))))))
    (2 ∷ 6 ∷ 6 ∷ [])
    (limit wirelist_limit gives ran 9 6 (
    0x00 ∷ 0x00 ∷ 0x06 ∷ 0x00 ∷ 0x00 ∷ 0x00
    ∷ 0x09 ∷ 0x06 ∷ 0x0A ∷ 0x09 ∷ 0x06 ∷ 0x0A
    ∷ 0xFF ∷ 0xFF ∷ 0xFF ∷ 0xFF ∷ 0xFF ∷ 0xFF ∷ 0x00 ∷ 0x00 ∷ 0xFF ∷ 0xFF ∷ 0xFF ∷ 0xFF ∷ 0x01 ∷ 0x00 ∷ 0xFF ∷ 0xFF ∷ 0xFF ∷ 0xFF
    ∷ 0xFF ∷ 0xFF ∷ 0xFF ∷ 0xFF ∷ 0xFF ∷ 0xFF ∷ 0x02 ∷ 0x00 ∷ 0xFF ∷ 0xFF ∷ 0xFF ∷ 0xFF ∷ 0x03 ∷ 0x00 ∷ 0xFF ∷ 0xFF ∷ 0xFF ∷ 0xFF ∷ []
    ) ∷ [])

abbrev pub finished_units : List Case
finished_units =
    unit_alone
    ∷ made
    ∷ discarded
    ∷ box_at_unit
    ∷ unit_in_result
    ∷ unit_in_argument
    ∷ unit_copied
    ∷ unit_dropped
    ∷ unit_in_lift
    ∷ helper_twice
    ∷ []

-- REFUSED

-- A program that the check refuses with this number and place.
abbrev pub refused_program : List Wire → Term → ℕ → ℕ → Case
refused_program labels M number place = refused_case (encode labels M) (some (labels, M)) (Typing number place)

-- Discard takes no Qubit, Init no wire; label 0 is not used; a pair of unit and a wire may be neither copied nor dropped nor used
-- inside a lift. A function from unit to unit is of no wire type.
abbrev pub refused_units : List Case
refused_units =
    refused_program one_label (apply (gate Discard) (label 0)) 16 1
    ∷ refused_program one_label (apply (gate Init) (label 0)) 16 1
    ∷ refused_program one_label unit_value 17 0
    ∷ refused_program [] (abstraction (unit ⊗ qubit) (pair (variable 0) (variable 0))) 17 3
    ∷ refused_program [] (abstraction (unit ⊗ qubit) unit_value) 17 3
    ∷ refused_program [] (abstraction (unit ⊗ qubit) (lift (variable 0))) 18 5
    ∷ accepted_case [] (abstraction unit (variable 0)) (3 ∷ 6 ∷ 6 ∷ []) (limit 0 gives declines (Run 20 0) ∷ [])
    ∷ []

abbrev pub unit_cases : List Case
unit_cases = finished_units ++ refused_units
