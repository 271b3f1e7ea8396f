-- The text of a listing in OpenQASM 2.0 (02, ticket 4), to the byte.
use Rattle.std.specs.Prelude.{ℕ, suc, ◌+◌, ◌*◌, Bool, true, false, List, [], ◌∷◌, ◌++◌, map, T as Truth, length, get_or}
use Prim.Native.String.{String}
use Rattle.std.proofs.Math.Option.{Option, none, some}
use Rattle.rules.specs.Types.{Wire, Bit, Qubit}
use Rattle.rules.specs.Gates.{nth}
use Rattle.rules.specs.Terms.{Gate, ◌on◌}
use Rattle.rules.specs.Circuits.{numbers, outputs}
use Rattle.rules.specs.Sizes.{most_labels, most_gates}
use Rattle.listing.specs.Reading.{inputs_of, gates_of, outputs_of}
use Rattle.text.specs.Text.{ascii, decimal, line, joined}

-- The first two lines.
abbrev pub header : List ℕ
header = ascii "OPENQASM 2.0;\ninclude \"qelib1.inc\";\n"

-- "A Qubit input k is declared as a one-qubit register and a one-bit register for its measured value, a Bit input as a one-bit
-- register only".
abbrev pub bit_register : ℕ → List ℕ
bit_register k = joined (ascii "creg c" ∷ decimal k ∷ ascii "[1];\n" ∷ [])

abbrev pub declaration : ℕ → Wire → List ℕ
declaration k Bit = bit_register k
declaration k Qubit = joined (ascii "qreg q" ∷ decimal k ∷ ascii "[1];\n" ∷ bit_register k ∷ [])

-- How a gate is written: a gate of qelib1.inc on one qubit, such as `h q0[0];`, on two, `cx q0[0],q1[0];`, or on three,
-- `ccx q0[0],q1[0],q2[0];`; a measurement, `measure q0[0] -> c0[0];`; a gate on a qubit under a bit, `if(c0==1) x q1[0];`. Or it is a
-- gate for which the exchange format has no word.
pub data Statement : Type 0 where
  on_one : String → Statement
  on_two : String → Statement
  on_three : String → Statement
  measurement : Statement
  under_bit : String → Statement
  unwritten : Statement

-- "gates use the names of qelib1.inc, Meas `measure`, BX and BZ an `if` on that bit": H, X, Z, S, T, CNOT, Meas, BX, BZ. 02, ticket 5:
-- "The exchange format has no word for a dropped bit, so export refuses both gates": Init, Discard. Ticket 6: "Export writes ccx."
abbrev pub statements : List Statement
statements =
    on_one "h"
    ∷ on_one "x"
    ∷ on_one "z"
    ∷ on_one "s"
    ∷ on_one "t"
    ∷ on_two "cx"
    ∷ measurement
    ∷ under_bit "x"
    ∷ under_bit "z"
    ∷ unwritten
    ∷ unwritten
    ∷ on_three "ccx"
    ∷ []

-- Is it written, as far as it is a gate? What is no gate is refused before this is asked.
abbrev pub is_written : Option Statement → Bool
is_written none = true
is_written (some (on_one name)) = true
is_written (some (on_two name)) = true
is_written (some (on_three name)) = true
is_written (some measurement) = true
is_written (some (under_bit name)) = true
is_written (some unwritten) = false

-- Has the gate with this number a statement? Init and Discard have none.
unfoldable pub has_statement : ℕ → Bool
has_statement n = is_written (nth statements n)

-- Each of these gates has a statement.
abbrev pub AllWritten : List Gate → Type 0
AllWritten [] = Unit {0}
AllWritten ((n on ws) ∷ gs) = Truth (has_statement n) × AllWritten gs

-- The line of a gate whose wires are in register r and, as far as there are more, in registers s and t.
abbrev pub statement_line : Option Statement → ℕ → ℕ → ℕ → List ℕ
statement_line none r s t = []
statement_line (some (on_one name)) r s t = joined (ascii name ∷ ascii " q" ∷ decimal r ∷ ascii "[0];\n" ∷ [])
statement_line (some (on_two name)) r s t =
    joined (ascii name ∷ ascii " q" ∷ decimal r ∷ ascii "[0],q" ∷ decimal s ∷ ascii "[0];\n" ∷ [])
statement_line (some (on_three name)) r s t =
    joined (ascii name ∷ ascii " q" ∷ decimal r ∷ ascii "[0],q" ∷ decimal s ∷ ascii "[0],q" ∷ decimal t ∷ ascii "[0];\n" ∷ [])
statement_line (some measurement) r s t =
    joined (ascii "measure q" ∷ decimal r ∷ ascii "[0] -> c" ∷ decimal r ∷ ascii "[0];\n" ∷ [])
statement_line (some (under_bit name)) r s t =
    joined (ascii "if(c" ∷ decimal r ∷ ascii "==1) " ∷ ascii name ∷ ascii " q" ∷ decimal s ∷ ascii "[0];\n" ∷ [])
statement_line (some unwritten) r s t = []

-- A gate's line, by its number and the registers of the wires that it takes.
unfoldable pub gate_line : ℕ → List ℕ → List ℕ
gate_line n rs = statement_line (nth statements n) (get_or rs 0 0) (get_or rs 1 0) (get_or rs 2 0)

-- The number of the register that each wire is in, by the wire's number: input k is in register k, and what a gate makes stays in
-- the registers of what it takes, slot by slot. For a Qubit this is the qubit register of the number, for a Bit the bit register.
abbrev pub registers_of : List Wire → List Gate → List ℕ
registers_of I [] = numbers 0 (length I)
registers_of I ((n on ws) ∷ gs) = let rs = registers_of I gs in rs ++ map (λ w. get_or rs w 0) ws

-- The declarations, input by input, numbered from k on.
abbrev pub declarations : ℕ → List Wire → List ℕ
declarations k [] = []
declarations k (α ∷ I) = declaration k α ++ declarations (suc k) I

-- The gates, the oldest first; circuits have the newest first.
abbrev pub gate_lines : List Wire → List Gate → List ℕ
gate_lines I [] = []
gate_lines I ((n on ws) ∷ gs) = let rs = registers_of I gs in gate_lines I gs ++ gate_line n (map (λ w. get_or rs w 0) ws)

-- The name of a register that holds a wire of this type.
abbrev pub register_name : Wire → ℕ → List ℕ
register_name Bit r = ascii "c" ++ decimal r
register_name Qubit r = ascii "q" ++ decimal r

-- "A last comment names the output lines in order." A wire that was never made has no register; no accepted listing has one among
-- its outputs.
abbrev pub output_name : List Wire → List Gate → ℕ → List ℕ
output_name I gs w = register_name (get_or (I ++ outputs gs) w Bit) (get_or (registers_of I gs) w 0)

abbrev pub output_line : List Wire → List Gate → List ℕ → List ℕ
output_line I gs outs = line (ascii "// out") (map (output_name I gs) outs)

-- The text of inputs, gates and outputs.
unfoldable pub export_text : List Wire → List Gate → List ℕ → List ℕ
export_text I gs outs = header ++ (declarations 0 I ++ (gate_lines I gs ++ output_line I gs outs))

-- The text of a listing's bytes.
abbrev pub export_of : List ℕ → List ℕ
export_of b = export_text (inputs_of b) (gates_of b) (outputs_of b)

-- The most bytes of a line, in which registers have at most two digits: of a Qubit's two declarations, and of a measurement or ccx.
abbrev pub declaration_bytes : ℕ
declaration_bytes = 26

abbrev pub statement_bytes : ℕ
statement_bytes = 26

-- No text of an accepted listing whose gates all have statements is longer: 55,211 bytes. Every gate that is written makes as many
-- wires as it takes, so there are as many outputs as inputs.
abbrev pub most_text : ℕ
most_text = 36 + declaration_bytes * most_labels + statement_bytes * most_gates + (7 + 4 * most_labels)
