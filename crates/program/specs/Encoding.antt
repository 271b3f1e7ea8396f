-- The file of a program (01, "Program file"): labels, types and terms in this order, types and terms in preorder. Each type that
-- the term names is written out at a position of its own. read_encode of Theorems.Encoding: the reader gives the program back.
use Rattle.std.specs.Prelude.{ℕ, ◌+◌, ◌/◌, ◌%◌, List, [], ◌∷◌, ◌++◌, map, length, replicate}
use Rattle.rules.specs.Kinds.{variable_kind, label_kind, abstraction_kind, application_kind, pair_kind, let_kind}
use Rattle.rules.specs.Kinds.{lift_kind, force_kind, box_kind, apply_kind, gate_term_kind, unit_value_kind}
use Rattle.rules.specs.Types.{Wire, Ty, entries, wire_code, type_codes}
use Rattle.rules.specs.Terms.{Term, variable, label, gate, constant, abstraction, application, pair, let_in, lift, force}
use Rattle.rules.specs.Terms.{unit_value, box, apply}
use Rattle.rules.specs.Sizes.{nodes}

-- The types that a term names, in order of occurrence: those of its abstractions and boxes.
abbrev pub types_in : Term → List Ty
types_in (variable x) = []
types_in (label ℓ) = []
types_in (gate x) = []
types_in unit_value = []
types_in (constant c) = []
types_in (abstraction A M) = A ∷ types_in M
types_in (application M N) = types_in M ++ types_in N
types_in (pair M N) = types_in M ++ types_in N
types_in (let_in M N) = types_in M ++ types_in N
types_in (lift M) = types_in M
types_in (force M) = types_in M
types_in (box T M) = T ∷ types_in M
types_in (apply M N) = types_in M ++ types_in N

-- The entries of all types of a list.
abbrev pub entries_of : List Ty → ℕ
entries_of [] = 0
entries_of (A ∷ As) = entries A + entries_of As

-- The preorder codes of all types of a list, one type behind the other.
abbrev pub codes_of : List Ty → List ℕ
codes_of [] = []
codes_of (A ∷ As) = type_codes A ++ codes_of As

-- The kinds of a term in preorder. A circuit constant has no kind: no file holds one.
abbrev pub term_kinds : Term → List ℕ
term_kinds (variable x) = variable_kind ∷ []
term_kinds (label ℓ) = label_kind ∷ []
term_kinds (gate x) = gate_term_kind ∷ []
term_kinds unit_value = unit_value_kind ∷ []
term_kinds (constant c) = []
term_kinds (abstraction A M) = abstraction_kind ∷ term_kinds M
term_kinds (application M N) = application_kind ∷ term_kinds M ++ term_kinds N
term_kinds (pair M N) = pair_kind ∷ term_kinds M ++ term_kinds N
term_kinds (let_in M N) = let_kind ∷ term_kinds M ++ term_kinds N
term_kinds (lift M) = lift_kind ∷ term_kinds M
term_kinds (force M) = force_kind ∷ term_kinds M
term_kinds (box T M) = box_kind ∷ term_kinds M
term_kinds (apply M N) = apply_kind ∷ term_kinds M ++ term_kinds N

-- The arguments of a term in preorder, if its types stand from this position of the type section on.
abbrev pub term_arguments : ℕ → Term → List ℕ
term_arguments p (variable x) = x ∷ []
term_arguments p (label ℓ) = ℓ ∷ []
term_arguments p (gate x) = x ∷ []
term_arguments p unit_value = 0 ∷ []
term_arguments p (constant c) = []
term_arguments p (abstraction A M) = p ∷ term_arguments (p + entries A) M
term_arguments p (application M N) = 0 ∷ term_arguments p M ++ term_arguments (p + entries_of (types_in M)) N
term_arguments p (pair M N) = 0 ∷ term_arguments p M ++ term_arguments (p + entries_of (types_in M)) N
term_arguments p (let_in M N) = 0 ∷ term_arguments p M ++ term_arguments (p + entries_of (types_in M)) N
term_arguments p (lift M) = 0 ∷ term_arguments p M
term_arguments p (force M) = 0 ∷ term_arguments p M
term_arguments p (box T M) = p ∷ term_arguments (p + entries T) M
term_arguments p (apply M N) = 0 ∷ term_arguments p M ++ term_arguments (p + entries_of (types_in M)) N

-- Numbers in two bytes each, low byte first.
abbrev pub words : List ℕ → List ℕ
words [] = []
words (x ∷ xs) = x % 256 ∷ x / 256 ∷ words xs

-- The kinds of all entries of the file for a program: labels, types, terms.
unfoldable pub program_kinds : List Wire → Term → List ℕ
program_kinds labels M = map wire_code labels ++ (codes_of (types_in M) ++ term_kinds M)

-- The arguments of all entries: 0 for labels and types.
unfoldable pub program_arguments : List Wire → Term → List ℕ
program_arguments labels M = replicate (length labels + entries_of (types_in M)) 0 ++ term_arguments 0 M

-- The file with these sizes, kinds and arguments (01: "Three 16-bit sizes", "E kind bytes, E 16-bit arguments").
abbrev pub file_of : ℕ → ℕ → ℕ → List ℕ → List ℕ → List ℕ
file_of labels types terms kinds arguments = words (labels ∷ types ∷ terms ∷ []) ++ (kinds ++ words arguments)

-- The file of a program.
unfoldable pub encode : List Wire → Term → List ℕ
encode labels M =
    file_of (length labels) (entries_of (types_in M)) (nodes M) (program_kinds labels M) (program_arguments labels M)
