-- The lines that `wirelist` prints (01, "Listing"): "one line per input (wire, type), per gate (name, wires taken, colon,
-- wires made), the outputs and the steps"; "On refusal it prints one line, `refused`, number, place, parted by single
-- spaces."
use Rattle.std.specs.Prelude.{ℕ, suc, List, [], ◌∷◌, ◌++◌, map, length, get_or}
use Rattle.rules.specs.Types.{Wire, Bit, Qubit}
use Rattle.rules.specs.Gates.{gate_outputs}
use Rattle.rules.specs.Terms.{Tuple, labels, Gate, ◌on◌}
use Rattle.rules.specs.Circuits.{Circuit, circuit, outputs, numbers}
use Rattle.text.specs.Text.{ascii, decimal, line, joined}

-- 01, "Gates": "0 H, 1 X, 2 Z, 3 S, 4 T", "5 CNOT", "6 Meas", "7 BX, 8 BZ". 02, ticket 5: "9 Init", "10 Discard";
-- ticket 6: "Gate 11, CCX".
abbrev pub gate_names : List (List ℕ)
gate_names =
    ascii "H"
    ∷ ascii "X"
    ∷ ascii "Z"
    ∷ ascii "S"
    ∷ ascii "T"
    ∷ ascii "CNOT"
    ∷ ascii "Meas"
    ∷ ascii "BX"
    ∷ ascii "BZ"
    ∷ ascii "Init"
    ∷ ascii "Discard"
    ∷ ascii "CCX"
    ∷ []

-- The most letters of a name.
abbrev pub longest_name : ℕ
longest_name = 7

-- The name of a gate; a number that is no gate has none.
unfoldable pub gate_name : ℕ → List ℕ
gate_name n = get_or gate_names n []

-- The name of a wire's type.
abbrev pub wire_name : Wire → List ℕ
wire_name Bit = ascii "Bit"
wire_name Qubit = ascii "Qubit"

-- `in`, wire, type.
abbrev pub input_line : ℕ → Wire → List ℕ
input_line w α = line (ascii "in") (decimal w ∷ wire_name α ∷ [])

-- `gate`, name, wires taken, colon, wires made. 02, ticket 5: "Where there is no wire, `wirelist` prints none".
abbrev pub gate_line : ℕ → List ℕ → List ℕ → List ℕ
gate_line n taken made = line (ascii "gate") (gate_name n ∷ (map decimal taken ++ (ascii ":" ∷ map decimal made)))

-- `out`, the output wires.
abbrev pub out_line : List ℕ → List ℕ
out_line ws = line (ascii "out") (map decimal ws)

-- `steps`, number.
abbrev pub steps_line : ℕ → List ℕ
steps_line steps = line (ascii "steps") (decimal steps ∷ [])

-- `refused`, number, place.
abbrev pub refused_line : ℕ → ℕ → List ℕ
refused_line number place = line (ascii "refused") (decimal number ∷ decimal place ∷ [])

-- A line for each input, numbered from w on.
abbrev pub input_lines : ℕ → List Wire → List (List ℕ)
input_lines w [] = []
input_lines w (α ∷ I) = input_line w α ∷ input_lines (suc w) I

-- A line for each gate, the oldest first; circuits have the newest first. 01, "Steps": "inputs from 0, then each gate's
-- outputs, next numbers in order".
abbrev pub gate_lines : List Wire → List Gate → List (List ℕ)
gate_lines I [] = []
gate_lines I ((n on ws) ∷ gs) =
    gate_lines I gs ++ (gate_line n ws (numbers (length (I ++ outputs gs)) (length (gate_outputs n))) ∷ [])

-- All lines of a finished run, in order.
abbrev pub lines_of : Circuit → Tuple → ℕ → List (List ℕ)
lines_of (circuit I gs) r steps = input_lines 0 I ++ (gate_lines I gs ++ (out_line (labels r) ∷ steps_line steps ∷ []))

-- All bytes that are printed for a finished run.
abbrev pub lines : Circuit → Tuple → ℕ → List ℕ
lines C r steps = joined (lines_of C r steps)
