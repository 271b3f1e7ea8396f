-- The laws of the gate tables' lookups. A rule of the gates is a test that antt computes at each of them (`tests`), and
-- `at_each` turns the test into the rule for every number. Assumes nothing.
use Prim.Native.Nat.{ℕ, zero, suc, ◌≤◌, ◌<◌}
use native.Mathlib.Omega.{arith}
use mathlib.Core.Path.{◌≡◌, refl, sym, ◌∙◌, ap}
use mathlib.Core.Bool.{Bool, ◌&&◌}
use mathlib.Core.List.{List, [], ◌∷◌, map}
use mathlib.Core.Option.{Option, none, some}
use lib.Dec.{T as Truth, leb, ltb, leb→le, leb-zero, leb-suc-zero, leb-suc-suc}
use lib.ListN.{length, get_or, get_or-eq_default}
use Rattle.rules.specs.Gates.{GateType, nth, gate_table, gate_type, is_some}
use Rattle.rules.specs.GateCodes.{code_at, circ_codes, type_code, filled}
use Rattle.rules.proofs.Laws.GateCodes.{most_type}
use Rattle.rules.proofs.Laws.Booleans.{and_left, and_right}

-- A test holds where there is no gate and at each gate of a list.
abbrev pub tests : (Option GateType → Bool) → List GateType → Bool
tests f [] = f none
tests f (g ∷ l) = f (some g) && tests f l

pub at_each : (f : Option GateType → Bool) (l : List GateType) → Truth (tests f l) → (n : ℕ) → Truth (f (nth l n))
at_each f [] t n = t
at_each f (g ∷ l) t zero = and_left (f (some g)) (tests f l) t
at_each f (g ∷ l) t (suc n) = at_each f l (and_right (f (some g)) (tests f l) t) n

-- A number that is not below the table's length is no gate.
pub of_no_gate : (P : Option GateType → Type 0) (l : List GateType) → P none → (n : ℕ) → length l ≤ n → P (nth l n)
of_no_gate P [] p n h = p
of_no_gate P (g ∷ l) p zero h = absurd (omega arith)
of_no_gate P (g ∷ l) p (suc n) h = of_no_gate P l p n (omega arith)

-- A table with one entry a gate, looked up at any number: what there is where there is no gate stands past its end.
pub entry_at : {X : Type 0} (entry : Option GateType → X) (l : List GateType) (n : ℕ)
    → get_or (map (λ g. entry (some g)) l) n (entry none) ≡ entry (nth l n)
entry_at entry [] n = refl
entry_at entry (g ∷ l) zero = refl
entry_at entry (g ∷ l) (suc n) = entry_at entry l n

-- Codes filled up to a number of places, looked up at one of them.
filled_at : (k : ℕ) (codes : List ℕ) (i : ℕ) → i < k → get_or (filled k codes) i 0 ≡ code_at codes i
filled_at zero codes i h = absurd (omega arith)
filled_at (suc k) [] zero h = refl
filled_at (suc k) [] (suc i) h = filled_at k [] i (omega arith)
filled_at (suc k) (c ∷ codes) zero h = refl
filled_at (suc k) (c ∷ codes) (suc i) h = filled_at k codes i (omega arith)

-- The rows of the types in preorder.
abbrev row_of : Option GateType → List ℕ
row_of g = filled most_type (circ_codes g)

-- The code's rows, the types of these gates, and which of them each gate has.
abbrev pub rows : List (List ℕ)
rows = map (λ n. row_of (gate_type n)) (0 ∷ 5 ∷ 6 ∷ 7 ∷ 9 ∷ 10 ∷ 11 ∷ [])

abbrev pub type_of_gate : List ℕ
type_of_gate = 0 ∷ 0 ∷ 0 ∷ 0 ∷ 0 ∷ 1 ∷ 2 ∷ 3 ∷ 3 ∷ 4 ∷ 5 ∷ 6 ∷ []

-- Which row a gate has, looked up at a gate: one of the rows, and that of the gate.
row_at : (which : List ℕ) (n : ℕ) (default : List ℕ)
    → n < length which → get_or (map (λ k. get_or rows k []) which) n default ≡ get_or rows (get_or which n 0) []
row_at [] n default h = absurd (omega arith)
row_at (k ∷ which) zero default h = refl
row_at (k ∷ which) (suc n) default h = row_at which n default (omega arith)

-- The code's rows at a gate and a place, and what there is elsewhere.
pub code_inside : (n i k : ℕ)
    → k ≡ get_or type_of_gate n 0
    → n < length gate_table
    → i < most_type
    → get_or (get_or rows k []) i 0 ≡ type_code n i
unfolding type_code
code_inside n i k at below inside =
    ap (λ r. get_or r i 0)
    (ap (λ k. get_or rows k []) at ∙ sym (row_at type_of_gate n (row_of none) below) ∙ entry_at row_of gate_table n)
    ∙ filled_at most_type (circ_codes (gate_type n)) i inside

pub no_such_gate : (n i : ℕ) → length gate_table ≤ n → 255 ≡ type_code n i
unfolding type_code
no_such_gate n i h = of_no_gate (λ g. 255 ≡ code_at (circ_codes g) i) gate_table refl n h

pub no_such_entry : (n i : ℕ) → most_type ≤ i → 255 ≡ type_code n i
unfolding type_code
no_such_entry n i h =
    let short : length (circ_codes (gate_type n)) ≤ most_type
    = leb→le _ most_type (at_each (λ g. leb (length (circ_codes g)) most_type) gate_table tt n) in
    sym (get_or-eq_default (circ_codes (gate_type n)) 255 (omega arith))

-- The gates are the numbers below the table's length.
pub gate_below : (l : List GateType) (n : ℕ) → ltb n (length l) ≡ is_some (nth l n)
gate_below [] n = leb-suc-zero n
gate_below (g ∷ l) zero = leb-suc-suc 0 (length l) ∙ leb-zero (length l)
gate_below (g ∷ l) (suc n) = leb-suc-suc (suc n) (length l) ∙ gate_below l n
