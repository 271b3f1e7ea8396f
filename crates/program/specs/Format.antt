-- The program file (01, "Program file").
use Rattle.std.specs.Prelude.{ℕ, ◌+◌, ◌*◌, Bool, true, false, ◌&&◌, cond, Option, Some, None, List, eqb, leb, ltb, get_or}
use Rattle.words.specs.Numbers.{word_at}
use Rattle.rules.specs.Kinds.{qubit_kind, pair_type_kind, function_kind, reusable_kind, circuit_kind, unit_kind, variable_kind}
use Rattle.rules.specs.Kinds.{label_kind, abstraction_kind, application_kind, let_kind, lift_kind, force_kind, box_kind}
use Rattle.rules.specs.Kinds.{apply_kind, gate_term_kind, unit_value_kind}
use Rattle.rules.specs.Gates.{is_gate}
use Rattle.program.specs.declared.format.Argument.{Argument}
use Rattle.program.specs.declared.format.Argument.TheVariants.{Zero, LabelNumber, GateNumber, TypePosition}
use Rattle.program.specs.declared.format.Argument.TheVariants.{BinderCount}
use Rattle.program.specs.declared.format.Shape.{Shape}

-- 01: "Three 16-bit sizes, low byte first: L labels".
abbrev pub label_count : List ℕ → ℕ
label_count f = word_at f 0

-- 01: "P type entries".
abbrev pub type_count : List ℕ → ℕ
type_count f = word_at f 2

-- 01: "N term entries".
abbrev pub term_count : List ℕ → ℕ
term_count f = word_at f 4

-- 01: "Entries are numbered from 0: labels, types, terms." The first term entry.
abbrev pub first_term : List ℕ → ℕ
first_term f = label_count f + type_count f

-- 01: "Let E = L+P+N."
abbrev pub entry_count : List ℕ → ℕ
entry_count f = first_term f + term_count f

-- 01: "Then two parallel arrays: E kind bytes".
unfoldable pub kind_at : List ℕ → ℕ → ℕ
kind_at f e = get_or f (6 + e) 0

-- 01: "E 16-bit arguments, low byte first."
unfoldable pub argument_at : List ℕ → ℕ → ℕ
argument_at f e = word_at f (6 + entry_count f + 2 * e)

-- A kind in a range of numbers.
abbrev pub within : ℕ → ℕ → ℕ → Bool
within least greatest k = leb least k && leb k greatest

-- The shape of a kind with so many parts and this rule for the argument. A number that is no kind of its section has none.
abbrev pub known : ℕ → Argument → Option Shape
known parts argument = Some (record { parts = parts; argument = argument })

-- 01: "label section: 0 Bit, 1 Qubit."
unfoldable pub label_shape : ℕ → Option Shape
label_shape k = cond (leb k qubit_kind) (known 0 Zero) None

-- 01: "type section: 0 Bit, 1 Qubit (no parts); 2 pair, 3 function, 5 circuit (two parts); 4 reusable (one)." 02, ticket 5: "a
-- unit type (type kind 6)", without parts.
unfoldable pub type_shape : ℕ → Option Shape
type_shape k =
    cond (leb k qubit_kind) (known 0 Zero)
    (cond (within pair_type_kind function_kind k) (known 2 Zero)
    (cond (eqb k reusable_kind) (known 1 Zero)
    (cond (eqb k circuit_kind) (known 2 Zero) (cond (eqb k unit_kind) (known 0 Zero) None))))

-- 01: "term section: 16 variable, 17 label, 26 gate (no parts); 18 abstraction, 22 lift, 23 force, 24 box (one);
-- 19 application, 20 pair, 21 let, 25 apply (two)." "A label or gate has its number. Abstraction and box have a type
-- position, 0 to P−1. Every other argument is 0." 02, ticket 5: "its value (term kind 27)", without parts.
unfoldable pub term_shape : ℕ → Option Shape
term_shape k =
    cond (eqb k variable_kind) (known 0 BinderCount)
    (cond (eqb k label_kind) (known 0 LabelNumber)
    (cond (eqb k abstraction_kind) (known 1 TypePosition)
    (cond (within application_kind let_kind k) (known 2 Zero)
    (cond (within lift_kind force_kind k) (known 1 Zero)
    (cond (eqb k box_kind) (known 1 TypePosition)
    (cond (eqb k apply_kind) (known 2 Zero)
    (cond (eqb k gate_term_kind) (known 0 GateNumber) (cond (eqb k unit_value_kind) (known 0 Zero) None))))))))

-- The shape of an entry, by its section.
unfoldable pub shape_at : List ℕ → ℕ → Option Shape
shape_at f e =
    cond (ltb e (label_count f)) (label_shape (kind_at f e))
    (cond (ltb e (first_term f)) (type_shape (kind_at f e)) (term_shape (kind_at f e)))

-- Whether an argument is allowed, in a file with this many labels and type entries. Of a variable every argument is:
-- refusal 9 is about its binder.
abbrev pub argument_allowed : ℕ → ℕ → Argument → ℕ → Bool
argument_allowed labels types Zero a = eqb a 0
argument_allowed labels types LabelNumber a = ltb a labels
argument_allowed labels types GateNumber a = is_gate a
argument_allowed labels types TypePosition a = ltb a types
argument_allowed labels types BinderCount a = true

-- 5: whether an entry of this shape may have this argument.
abbrev pub shape_allows : ℕ → ℕ → Option Shape → ℕ → Bool
shape_allows labels types (Some shape) a = argument_allowed labels types shape.argument a
shape_allows labels types None a = false
