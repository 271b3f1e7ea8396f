-- The parts of types and terms, and the table of how many parts a kind has (02, ticket 7).
use Rattle.std.specs.Prelude.{ℕ, cond, List, [], ◌∷◌, eqb}
use Rattle.std.proofs.Math.Option.{Option, none, some}
use Rattle.rules.specs.Kinds.{bit_kind, qubit_kind, pair_type_kind, function_kind, reusable_kind, circuit_kind, unit_kind}
use Rattle.rules.specs.Kinds.{variable_kind, label_kind, abstraction_kind, application_kind, pair_kind, let_kind}
use Rattle.rules.specs.Kinds.{lift_kind, force_kind, box_kind, apply_kind, gate_term_kind, unit_value_kind}
use Rattle.rules.specs.Types.{Ty, wire, unit, ◌⊗◌, ◌⊸◌, !◌, Circ}
use Rattle.rules.specs.Terms.{Term, variable, label, gate, unit_value, constant, abstraction, application, pair}
use Rattle.rules.specs.Terms.{let_in, lift, force, box, apply}

-- The parts of a type (000, 2.3), not those of its parts.
abbrev pub type_parts : Ty → List Ty
type_parts (wire α) = []
type_parts unit = []
type_parts (A ⊗ B) = A ∷ B ∷ []
type_parts (A ⊸ B) = A ∷ B ∷ []
type_parts (! A) = A ∷ []
type_parts (Circ T U) = T ∷ U ∷ []

-- The parts of a term (000, 2.2), not those of its parts. The type of an abstraction or a box is no part: it stands elsewhere in
-- a file.
abbrev pub term_parts : Term → List Term
term_parts (variable n) = []
term_parts (label ℓ) = []
term_parts (gate n) = []
term_parts unit_value = []
term_parts (constant b) = []
term_parts (abstraction A M) = M ∷ []
term_parts (application M N) = M ∷ N ∷ []
term_parts (pair M N) = M ∷ N ∷ []
term_parts (let_in M N) = M ∷ N ∷ []
term_parts (lift M) = M ∷ []
term_parts (force M) = M ∷ []
term_parts (box T M) = M ∷ []
term_parts (apply M N) = M ∷ N ∷ []

-- 02, ticket 7: "one constant table of exactly 19 bytes, one for each type kind and term kind now known". Each kind with the number
-- of its parts. 01, type section: "0 Bit, 1 Qubit (no parts); 2 pair, 3 function, 5 circuit (two parts); 4 reusable (one)"; term
-- section: "16 variable, 17 label, 26 gate (no parts); 18 abstraction, 22 lift, 23 force, 24 box (one); 19 application, 20 pair,
-- 21 let, 25 apply (two)". 02, ticket 5: unit's kinds 6 and 27, "both without parts".
abbrev pub parts_table : List (ℕ × ℕ)
parts_table =
    (bit_kind, 0)
    ∷ (qubit_kind, 0)
    ∷ (pair_type_kind, 2)
    ∷ (function_kind, 2)
    ∷ (reusable_kind, 1)
    ∷ (circuit_kind, 2)
    ∷ (unit_kind, 0)
    ∷ (variable_kind, 0)
    ∷ (label_kind, 0)
    ∷ (abstraction_kind, 1)
    ∷ (application_kind, 2)
    ∷ (pair_kind, 2)
    ∷ (let_kind, 2)
    ∷ (lift_kind, 1)
    ∷ (force_kind, 1)
    ∷ (box_kind, 1)
    ∷ (apply_kind, 2)
    ∷ (gate_term_kind, 0)
    ∷ (unit_value_kind, 0)
    ∷ []

-- What such a table has for a kind, if it has the kind.
abbrev pub parts_in : List (ℕ × ℕ) → ℕ → Option ℕ
parts_in [] k = none
parts_in (row ∷ rows) k = cond (eqb k row.0) (some row.1) (parts_in rows k)

-- A number that may be missing; 0 where it is.
abbrev pub or_zero : Option ℕ → ℕ
or_zero none = 0
or_zero (some p) = p

-- How many parts a kind has; 0 where there is no such kind.
unfoldable pub parts_of_kind : ℕ → ℕ
parts_of_kind k = or_zero (parts_in parts_table k)
