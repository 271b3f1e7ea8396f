-- Laws of specs/Parts.antt.
use Rattle.std.specs.Prelude.{ℕ, ◌-◌, ◌≤◌, ◌≡◌, refl, Bool, true, false, ◌&&◌, cond, List, [], ◌∷◌, T as Truth, eqb, leb, length, map, get_or}
use Rattle.std.proofs.Common.{arith, ap, leb→le}
use Rattle.std.proofs.Math.Option.{some}
use Rattle.rules.specs.Kinds.{unit_kind, variable_kind, unit_value_kind}
use Rattle.rules.specs.Types.{Bit, Qubit, Ty, wire, unit, ◌⊗◌, ◌⊸◌, !◌, Circ, type_codes}
use Rattle.rules.specs.Parts.{type_parts, parts_table, parts_in, or_zero, parts_of_kind}
use Rattle.rules.proofs.Laws.Booleans.{and_left, and_right}
use Rattle.rules.proofs.Laws.Ranges.{◌and◌, no_more, in_range}

-- The numbers of parts alone, without the kinds, as the code has them.
abbrev pub parts_column : List ℕ
parts_column = map (λ row. row.1) parts_table

-- The number of parts at a place of the table; 0 past its end.
unfoldable pub parts_at : ℕ → ℕ
parts_at place = get_or parts_column place 0

-- Where the kinds stand in the table, each of them: those of types at their own number, those of terms 9 places before.
pub type_place : (k : ℕ) → k ≤ unit_kind → parts_in parts_table k ≡ some (parts_at k)
unfolding parts_at
type_place k most =
    in_range (λ k. parts_in parts_table k ≡ some (parts_at k)) 0 7
    (refl and refl and refl and refl and refl and refl and refl and no_more)
    k
    (omega arith)
    (omega arith)

pub term_place : (k : ℕ) → variable_kind ≤ k → k ≤ unit_value_kind → parts_in parts_table k ≡ some (parts_at (k - 9))
unfolding parts_at
term_place k least most =
    in_range (λ k. parts_in parts_table k ≡ some (parts_at (k - 9))) variable_kind 12
    (refl and refl and refl and refl and refl and refl and refl and refl and refl and refl and refl and refl and no_more)
    k
    least
    (omega arith)

-- No kind has more than two parts.
abbrev at_most_two : List (ℕ × ℕ) → Bool
at_most_two [] = true
at_most_two (row ∷ rows) = leb row.1 2 && at_most_two rows

two_in : (rows : List (ℕ × ℕ)) → Truth (at_most_two rows) → (k : ℕ) → or_zero (parts_in rows k) ≤ 2
two_in [] t k = omega arith
two_in (row ∷ rows) t k = go (eqb k row.0) (two_in rows (and_right (leb row.1 2) (at_most_two rows) t) k)
  where
    go : (b : Bool) → or_zero (parts_in rows k) ≤ 2 → or_zero (cond b (some row.1) (parts_in rows k)) ≤ 2
    go true rest = leb→le row.1 2 (and_left (leb row.1 2) (at_most_two rows) t)
    go false rest = rest

pub at_most_two_lem : (k : ℕ) → parts_of_kind k ≤ 2
unfolding parts_of_kind
at_most_two_lem k = two_in parts_table tt k

-- The row of a type's kind, which is the first of its codes, and what the lookup gives for it.
pub type_row : (A : Ty) → parts_in parts_table (get_or (type_codes A) 0 0) ≡ some (length (type_parts A))
type_row (wire Bit) = refl
type_row (wire Qubit) = refl
type_row unit = refl
type_row (A ⊗ B) = refl
type_row (A ⊸ B) = refl
type_row (! A) = refl
type_row (Circ T U) = refl

pub parts_of_type : (A : Ty) → parts_of_kind (get_or (type_codes A) 0 0) ≡ length (type_parts A)
unfolding parts_of_kind
parts_of_type A = ap or_zero (type_row A)
