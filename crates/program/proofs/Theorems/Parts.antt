-- 02, ticket 7: the table of parts has one entry for each kind of a type or a term, that kind's number of parts, and no other.
use Rattle.std.specs.Prelude.{ℕ, ◌≡◌, refl, Bool, true, false, cond, List, [], ◌∷◌, eqb, length, get_or}
use Rattle.std.proofs.Common.{arith, sym, ◌∙◌, ap, subst₂, eqb-true}
use Rattle.std.proofs.Math.Option.{some, some-injective, none-ne-some}
use Rattle.rules.specs.Types.{Bit, Qubit, wire, unit, ◌⊗◌, ◌⊸◌, !◌, Circ}
use Rattle.rules.specs.Terms.{Term, variable, label, gate, unit_value, constant, abstraction, application, pair, let_in}
use Rattle.rules.specs.Terms.{lift, force, box, apply}
use Rattle.rules.specs.Parts.{term_parts, parts_table, parts_in}
use Rattle.rules.proofs.Laws.Parts.{type_row}
use Rattle.program.specs.Encoding.{term_kinds}
use Rattle.program.specs.Parts.{KindWith, of_type, of_term}

-- The first of a list that is not empty.
first_is : {k : ℕ} {ks l : List ℕ} → l ≡ k ∷ ks → k ≡ get_or l 0 0
first_is e = sym (ap (λ l. get_or l 0 0) e)

term_row : (M : Term) {k : ℕ} {ks : List ℕ} → term_kinds M ≡ k ∷ ks
    → parts_in parts_table (get_or (term_kinds M) 0 0) ≡ some (length (term_parts M))
term_row (variable x) e = refl
term_row (label ℓ) e = refl
term_row (gate x) e = refl
term_row unit_value e = refl
term_row (constant b) e = let clash = ap length e in absurd (omega arith)
term_row (abstraction A M) e = refl
term_row (application M N) e = refl
term_row (pair M N) e = refl
term_row (let_in M N) e = refl
term_row (lift M) e = refl
term_row (force M) e = refl
term_row (box T M) e = refl
term_row (apply M N) e = refl

-- At the kind of each type and of each term stands the number of its parts.
pub parts_stand : {k p : ℕ} → KindWith k p → parts_in parts_table k ≡ some p
parts_stand (of_type A e) = ap (parts_in parts_table) (first_is e) ∙ type_row A
parts_stand (of_term M e) = ap (parts_in parts_table) (first_is e) ∙ term_row M e

-- What holds of each row of a table holds of what is found in it.
data Rows (P : ℕ → ℕ → Type 0) : List (ℕ × ℕ) → Type 0 where
  no_row : Rows P []
  ◌then◌ : {row : ℕ × ℕ} {rows : List (ℕ × ℕ)} → P row.0 row.1 → Rows P rows → Rows P (row ∷ rows)

infixr 40 ◌then◌
found : (P : ℕ → ℕ → Type 0) (rows : List (ℕ × ℕ)) → Rows P rows → (k p : ℕ) → parts_in rows k ≡ some p → P k p
found P [] no_row k p e = absurd (none-ne-some p e)
found P (row ∷ rows) (first then rest) k p e = go (eqb k row.0) refl e (found P rows rest k p)
  where
    go : (b : Bool)
        → eqb k row.0 ≡ b → cond b (some row.1) (parts_in rows k) ≡ some p → (parts_in rows k ≡ some p → P k p)
        → P k p
    go true here e later = subst₂ P (sym (eqb-true k row.0 here)) (some-injective row.1 p e) first
    go false here e later = later e

-- Nothing else stands there: each entry is that of a type or of a term.
pub only_parts_stand : (k p : ℕ) → parts_in parts_table k ≡ some p → KindWith k p
only_parts_stand =
    found KindWith parts_table
    (of_type (wire Bit) refl
    then of_type (wire Qubit) refl
    then of_type (unit ⊗ unit) refl
    then of_type (unit ⊸ unit) refl
    then of_type (! unit) refl
    then of_type (Circ unit unit) refl
    then of_type unit refl
    then of_term (variable 0) refl
    then of_term (label 0) refl
    then of_term (abstraction unit unit_value) refl
    then of_term (application unit_value unit_value) refl
    then of_term (pair unit_value unit_value) refl
    then of_term (let_in unit_value unit_value) refl
    then of_term (lift unit_value) refl
    then of_term (force unit_value) refl
    then of_term (box unit unit_value) refl
    then of_term (apply unit_value unit_value) refl
    then of_term (gate 0) refl
    then of_term unit_value refl
    then no_row)

-- "Exactly 19".
pub nineteen_kinds : length parts_table ≡ 19
nineteen_kinds = refl
