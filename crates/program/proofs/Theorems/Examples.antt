-- Files with the answer of `read`, by computation: c1 of 01's cases, a file for each refusal, files with unit, and a long file.
use Rattle.std.specs.Prelude.{ℕ, ◌≡◌, refl, List, [], ◌∷◌, ◌++◌, replicate, Result}
use Rattle.rules.specs.Gates.{is_gate}
use Rattle.program.specs.Reading.{accepted}
use Rattle.program.specs.Format.{kind_at, argument_at, label_shape, type_shape, term_shape, shape_at}
use Rattle.words.specs.Numbers.{word_at}
use Rattle.program.specs.Reading.{refused, sizes_right, kind_wrong, argument_wrong, type_wrong, circ_wrong, box_wrong}
use Rattle.program.specs.Reading.{wires_wrong, read_scope, read_whole, read_wires, read_types, read_arguments, read_kinds}
use Rattle.program.specs.Reading.{read_of}
use Rattle.program.specs.Encoding.{file_of}
use Rattle.program.specs.CaseFiles.{c1_file, sizes_file}
use Rattle.refusals.specs.declared.Refusal.{Refusal}
use Rattle.program.specs.declared.format.Sizes.{Sizes}

-- `read_of` with every definition of the reader open: a line `unfolding opened` opens them all.
unfoldable pub opened : List ℕ → Result Sizes Refusal
unfolding is_gate
    word_at kind_at argument_at label_shape type_shape term_shape shape_at sizes_right kind_wrong argument_wrong type_wrong
    circ_wrong box_wrong wires_wrong read_scope read_whole read_wires read_types read_arguments read_kinds read_of
opened f = read_of f

-- c1: label 0 alone.
pub c1_accepted : read_of c1_file ≡ accepted 1 0 1
unfolding opened
c1_accepted = refl

-- "Empty file: 1. Sizes 1, 0, 0 alone: 2."
pub empty_file : read_of [] ≡ refused 1 0
unfolding opened
empty_file = refl

pub sizes_alone : read_of sizes_file ≡ refused 2 0
unfolding opened
sizes_alone = refl

-- c1 without its last byte, and with one byte more.
pub byte_short : read_of (1 ∷ 0 ∷ 0 ∷ 0 ∷ 1 ∷ 0 ∷ 1 ∷ 17 ∷ 0 ∷ 0 ∷ 0 ∷ []) ≡ refused 3 0
unfolding opened
byte_short = refl

pub byte_over : read_of (file_of 1 0 1 (1 ∷ 17 ∷ []) (0 ∷ 0 ∷ []) ++ (0 ∷ [])) ≡ refused 3 0
unfolding opened
byte_over = refl

-- A label of kind 2, a type of kind 7, a term of kind 0: the first of them.
pub wrong_label_kind : read_of (file_of 1 1 1 (2 ∷ 7 ∷ 0 ∷ []) (0 ∷ 0 ∷ 0 ∷ [])) ≡ refused 4 0
unfolding opened
wrong_label_kind = refl

pub wrong_type_kind : read_of (file_of 1 1 1 (1 ∷ 7 ∷ 0 ∷ []) (0 ∷ 0 ∷ 0 ∷ [])) ≡ refused 4 1
unfolding opened
wrong_type_kind = refl

pub wrong_term_kind : read_of (file_of 1 1 1 (1 ∷ 0 ∷ 0 ∷ []) (0 ∷ 0 ∷ 0 ∷ [])) ≡ refused 4 2
unfolding opened
wrong_term_kind = refl

-- Label 1 in a file with one label, gate 12, an abstraction at position 1 of a type section with one entry.
pub no_such_label : read_of (file_of 1 0 1 (1 ∷ 17 ∷ []) (0 ∷ 1 ∷ [])) ≡ refused 5 1
unfolding opened
no_such_label = refl

pub no_such_gate : read_of (file_of 1 0 1 (1 ∷ 26 ∷ []) (0 ∷ 12 ∷ [])) ≡ refused 5 1
unfolding opened
no_such_gate = refl

pub no_such_type : read_of (file_of 0 1 2 (1 ∷ 18 ∷ 16 ∷ []) (0 ∷ 1 ∷ 0 ∷ [])) ≡ refused 5 1
unfolding opened
no_such_type = refl

-- A pair of Qubit and nothing, behind a Bit: the type at position 1 runs out, used or not.
pub type_runs_out : read_of (file_of 1 3 1 (1 ∷ 0 ∷ 2 ∷ 1 ∷ 17 ∷ []) (0 ∷ 0 ∷ 0 ∷ 0 ∷ 0 ∷ [])) ≡ refused 6 2
unfolding opened
type_runs_out = refl

-- Circ from Bit to reusable Bit; a box at reusable Bit.
pub circ_of_reusable : read_of (file_of 1 4 1 (1 ∷ 5 ∷ 0 ∷ 4 ∷ 0 ∷ 17 ∷ []) (0 ∷ 0 ∷ 0 ∷ 0 ∷ 0 ∷ 0 ∷ [])) ≡ refused 7 1
unfolding opened
circ_of_reusable = refl

pub box_at_reusable : read_of (file_of 1 2 2 (1 ∷ 4 ∷ 0 ∷ 24 ∷ 17 ∷ []) (0 ∷ 0 ∷ 0 ∷ 0 ∷ 0 ∷ [])) ≡ refused 7 3
unfolding opened
box_at_reusable = refl

-- An application with one part: place E. A label behind a whole term: the first entry left over.
pub term_runs_out : read_of (file_of 1 0 2 (1 ∷ 19 ∷ 17 ∷ []) (0 ∷ 0 ∷ 0 ∷ [])) ≡ refused 8 3
unfolding opened
term_runs_out = refl

pub entry_left_over : read_of (file_of 1 0 3 (1 ∷ 17 ∷ 17 ∷ 17 ∷ []) (0 ∷ 0 ∷ 0 ∷ 0 ∷ [])) ≡ refused 8 2
unfolding opened
entry_left_over = refl

-- A variable under one abstraction, with argument 1. Let binds nothing in its first part, and two in its second.
pub no_binder : read_of (file_of 0 1 2 (1 ∷ 18 ∷ 16 ∷ []) (0 ∷ 0 ∷ 1 ∷ [])) ≡ refused 9 2
unfolding opened
no_binder = refl

pub let_first_part : read_of (file_of 0 0 3 (21 ∷ 16 ∷ 16 ∷ []) (0 ∷ 0 ∷ 1 ∷ [])) ≡ refused 9 1
unfolding opened
let_first_part = refl

pub let_second_part : read_of (file_of 1 0 3 (1 ∷ 21 ∷ 17 ∷ 16 ∷ []) (0 ∷ 0 ∷ 0 ∷ 1 ∷ [])) ≡ accepted 1 0 3
unfolding opened
let_second_part = refl

-- 02, ticket 5. Unit's value alone, in a file without labels and types; gates 9 and 10. Ticket 6: gate 11.
pub unit_alone : read_of (file_of 0 0 1 (27 ∷ []) (0 ∷ [])) ≡ accepted 0 0 1
unfolding opened
unit_alone = refl

pub init_alone : read_of (file_of 0 0 1 (26 ∷ []) (9 ∷ [])) ≡ accepted 0 0 1
unfolding opened
init_alone = refl

pub discard_alone : read_of (file_of 0 0 1 (26 ∷ []) (10 ∷ [])) ≡ accepted 0 0 1
unfolding opened
discard_alone = refl

pub ccx_alone : read_of (file_of 0 0 1 (26 ∷ []) (11 ∷ [])) ≡ accepted 0 0 1
unfolding opened
ccx_alone = refl

-- Unit is a wire type, alone and inside pairs: a box at unit; Circ from the pair of unit and Qubit to unit, and a box at that pair.
pub box_at_unit : read_of (file_of 0 1 4 (6 ∷ 24 ∷ 22 ∷ 18 ∷ 16 ∷ []) (0 ∷ 0 ∷ 0 ∷ 0 ∷ 0 ∷ [])) ≡ accepted 0 1 4
unfolding opened
box_at_unit = refl

pub circ_with_unit
    : read_of (file_of 0 5 2 (5 ∷ 2 ∷ 6 ∷ 1 ∷ 6 ∷ 24 ∷ 27 ∷ []) (0 ∷ 0 ∷ 0 ∷ 0 ∷ 0 ∷ 1 ∷ 0 ∷ [])) ≡ accepted 0 5 2
unfolding opened
circ_with_unit = refl

-- Kind 6 is no label's kind and no term's, kind 27 no type's; a term of kind 28.
pub unit_as_label : read_of (file_of 1 0 1 (6 ∷ 17 ∷ []) (0 ∷ 0 ∷ [])) ≡ refused 4 0
unfolding opened
unit_as_label = refl

pub unit_as_term : read_of (file_of 0 0 1 (6 ∷ []) (0 ∷ [])) ≡ refused 4 0
unfolding opened
unit_as_term = refl

pub unit_value_as_type : read_of (file_of 0 1 1 (27 ∷ 27 ∷ []) (0 ∷ 0 ∷ [])) ≡ refused 4 0
unfolding opened
unit_value_as_type = refl

pub kind_past_unit_value : read_of (file_of 0 0 1 (28 ∷ []) (0 ∷ [])) ≡ refused 4 0
unfolding opened
kind_past_unit_value = refl

-- Unit and its value with argument 1.
pub unit_argument : read_of (file_of 0 1 1 (6 ∷ 27 ∷ []) (1 ∷ 0 ∷ [])) ≡ refused 5 0
unfolding opened
unit_argument = refl

pub unit_value_argument : read_of (file_of 0 0 1 (27 ∷ []) (1 ∷ [])) ≡ refused 5 0
unfolding opened
unit_value_argument = refl

-- Unit and its value have no parts: a pair of unit and nothing runs out; a value behind a value is left over.
pub unit_runs_out : read_of (file_of 0 2 1 (2 ∷ 6 ∷ 27 ∷ []) (0 ∷ 0 ∷ 0 ∷ [])) ≡ refused 6 0
unfolding opened
unit_runs_out = refl

pub unit_value_left_over : read_of (file_of 0 0 2 (27 ∷ 27 ∷ []) (0 ∷ 0 ∷ [])) ≡ refused 8 1
unfolding opened
unit_value_left_over = refl

-- 400 term entries: 399 lifts around label 0.
abbrev long_file : List ℕ
long_file =
    (1 ∷ 0 ∷ 0 ∷ 0 ∷ 144 ∷ 1 ∷ []) ++ ((1 ∷ []) ++ (replicate 399 22 ++ ((17 ∷ []) ++ replicate 802 0)))

pub long_file_lem : read_of long_file ≡ accepted 1 0 400
unfolding opened
long_file_lem = refl
