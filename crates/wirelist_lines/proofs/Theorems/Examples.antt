-- Lines by computation.
use Rattle.std.specs.Prelude.{◌≡◌, refl, [], ◌∷◌}
use Rattle.rules.specs.Types.{Bit, Qubit}
use Rattle.rules.specs.Gates.{Init, Discard, CCX}
use Rattle.rules.specs.Terms.{single, empty, both, ◌on◌}
use Rattle.rules.specs.Circuits.{circuit}
use Rattle.rules.specs.CaseTerms.{one_label, two_labels, H, CNOT, Meas}
use Rattle.text.specs.Text.{ascii, decimal}
use Rattle.wirelist_lines.specs.Lines.{gate_name, refused_line, lines}

-- 01: "For case c3, whole". Its circuit and outputs are those of `c3-run` in crate rules.
pub c3_lines
    : lines (circuit two_labels ((CNOT on 0 ∷ 1 ∷ []) ∷ [])) (both (single 3) (single 2)) 2
    ≡ ascii "in 0 Qubit\nin 1 Qubit\ngate CNOT 0 1 : 2 3\nout 3 2\nsteps 2\n"
unfolding decimal gate_name
c3_lines = refl

-- Two gates, the older one first, each making the next wire; c10.
pub c10_lines
    : lines (circuit one_label ((H on 1 ∷ []) ∷ (H on 0 ∷ []) ∷ [])) (single 2) 3
    ≡ ascii "in 0 Qubit\ngate H 0 : 1\ngate H 1 : 2\nout 2\nsteps 3\n"
unfolding decimal gate_name
c10_lines = refl

-- Inputs Bit and Qubit: BX, gate 7, takes both, then Meas takes the Qubit that BX makes.
pub bit_lines
    : lines (circuit (Bit ∷ Qubit ∷ []) ((Meas on 3 ∷ []) ∷ (7 on 0 ∷ 1 ∷ []) ∷ [])) (both (single 2) (single 4)) 2
    ≡ ascii "in 0 Bit\nin 1 Qubit\ngate BX 0 1 : 2 3\ngate Meas 3 : 4\nout 2 4\nsteps 2\n"
unfolding decimal gate_name
bit_lines = refl

-- Numbers with more than one digit; the largest of 16 bits, and the limit.
pub sixteen_bits : decimal 65535 ≡ ascii "65535"
unfolding decimal
sixteen_bits = refl

pub million : decimal 1000000 ≡ ascii "1000000"
unfolding decimal
million = refl

-- 02, ticket 5: "Where there is no wire, `wirelist` prints none". Init, gate 9, takes no wire, Discard, gate 10, makes none, and
-- there is no output.
pub helper_lines
    : lines (circuit [] ((Discard on 1 ∷ []) ∷ (Meas on 0 ∷ []) ∷ (Init on []) ∷ [])) empty 3
    ≡ ascii "gate Init : 0\ngate Meas 0 : 1\ngate Discard 1 :\nout\nsteps 3\n"
unfolding decimal gate_name
helper_lines = refl

-- Ticket 6: CCX takes three wires and makes three.
pub ccx_lines
    : lines (circuit (Qubit ∷ two_labels) ((CCX on 2 ∷ 0 ∷ 1 ∷ []) ∷ [])) (both (single 3) (both (single 4) (single 5))) 1
    ≡ ascii "in 0 Qubit\nin 1 Qubit\nin 2 Qubit\ngate CCX 2 0 1 : 3 4 5\nout 3 4 5\nsteps 1\n"
unfolding decimal gate_name
ccx_lines = refl

-- The empty file: 1, place 0. c7: 18, place 2.
pub c7_line : refused_line 18 2 ≡ ascii "refused 18 2\n"
unfolding decimal
c7_line = refl
