-- The kinds of a program file's entries by name (01, "Program file"); src/kinds.rt has the same names.
use Rattle.std.specs.Prelude.{ℕ}

-- 01, type section: "0 Bit, 1 Qubit (no parts); 2 pair, 3 function, 5 circuit (two parts); 4 reusable (one)."
abbrev pub bit_kind : ℕ
bit_kind = 0

abbrev pub qubit_kind : ℕ
qubit_kind = 1

abbrev pub pair_type_kind : ℕ
pair_type_kind = 2

abbrev pub function_kind : ℕ
function_kind = 3

abbrev pub reusable_kind : ℕ
reusable_kind = 4

abbrev pub circuit_kind : ℕ
circuit_kind = 5

-- 02, ticket 5: "a unit type (type kind 6), its value (term kind 27), both without parts".
abbrev pub unit_kind : ℕ
unit_kind = 6

-- 01, term section: "16 variable, 17 label, 26 gate (no parts); 18 abstraction, 22 lift, 23 force, 24 box (one);
-- 19 application, 20 pair, 21 let, 25 apply (two)."
abbrev pub variable_kind : ℕ
variable_kind = 16

abbrev pub label_kind : ℕ
label_kind = 17

abbrev pub abstraction_kind : ℕ
abstraction_kind = 18

abbrev pub application_kind : ℕ
application_kind = 19

abbrev pub pair_kind : ℕ
pair_kind = 20

abbrev pub let_kind : ℕ
let_kind = 21

abbrev pub lift_kind : ℕ
lift_kind = 22

abbrev pub force_kind : ℕ
force_kind = 23

abbrev pub box_kind : ℕ
box_kind = 24

abbrev pub apply_kind : ℕ
apply_kind = 25

abbrev pub gate_term_kind : ℕ
gate_term_kind = 26

abbrev pub unit_value_kind : ℕ
unit_value_kind = 27

-- A circuit constant, which no file has: the machine's own kind.
abbrev pub constant_kind : ℕ
constant_kind = 32
