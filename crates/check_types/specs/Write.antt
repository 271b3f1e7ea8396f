-- A type written out as its entries in preorder.
use Rattle.std.specs.Prelude.{ℕ, ◌+◌, ◌≤◌, ◌≡◌, List, ◌++◌, length, drop}
use Rattle.std.proofs.lemmas.List.Edits.{sets}
use Rattle.rules.specs.Types.{Ty, entries, type_codes}
use Rattle.check_types.specs.Cells.{Denotes}

-- The codes of A stand in front, what was behind them is as it was, and the answer is how many they are.
pub record Wrote (out out' : List ℕ) (A : Ty) (r : ℕ) : Type 0 where
  pub codes : out' ≡ type_codes A ++ drop (entries A) out
  pub count : r ≡ entries A

-- The same from a place on; the answer is the next place.
pub record WroteAt (out out' : List ℕ) (at : ℕ) (A : Ty) (r : ℕ) : Type 0 where
  pub codes : out' ≡ sets out at (type_codes A)
  pub next : r ≡ at + entries A

abbrev pub SaysWrote : List ℕ → ℕ → List ℕ → List ℕ → ℕ → Type 0
SaysWrote w i out out' r = (n : ℕ) (A : Ty) → Denotes w n i A → entries A ≤ length out → Wrote out out' A r

abbrev pub SaysWroteAt : List ℕ → ℕ → ℕ → ℕ → List ℕ → List ℕ → ℕ → Type 0
SaysWroteAt w most i at out out' r =
    (n : ℕ) (A : Ty) → Denotes w n i A → entries A ≤ most → at + entries A ≤ length out → WroteAt out out' at A r
