-- From what is found in the term to the answer: 16 before 17 before 18, labels before binders.
use Rattle.std.specs.Prelude.{ℕ, zero, suc, ◌≡◌, cond, List, eqb, Option, Some, None, Result, Ok, Err}
use Rattle.std.specs.Option.{option_or}
use Rattle.rules.specs.Types.{Ty}
use Rattle.refusals.specs.declared.Refusal.{Refusal}
use Rattle.refusals.specs.declared.Refusal.TheVariants.{Typing}
use Rattle.check_types.specs.Cells.{Denotes}
use Rattle.check_program.specs.declared.Typed.{Typed}
use Rattle.check_program.specs.Checking.{Verdict, has_type, refusal}
use Rattle.check_program.specs.Layout.{binding_uses}

-- The first label, from ℓ on, whose binding does not have exactly one use.
abbrev pub wrong_use : List ℕ → ℕ → ℕ → Option ℕ
wrong_use w ℓ zero = None
wrong_use w ℓ (suc k) = let later = wrong_use w (suc ℓ) k in cond (eqb (binding_uses w ℓ) 1) later (Some ℓ)

-- The answer, by the first 17 and the first 18.
abbrev pub settled : ℕ → Option ℕ → Option ℕ → Result ℕ Refusal
settled cell None None = Ok cell
settled cell None (Some p) = Err (Typing 18 p)
settled cell (Some p) crossing = Err (Typing 17 p)

-- The answer, by what is found in the term.
abbrev pub decided_as : List ℕ → ℕ → Typed → Result ℕ Refusal
decided_as w labels found = settled found.cell (option_or (wrong_use w 0 labels) found.unused) found.crossing

-- The cell that is answered denotes the type.
pub record CellOf (w : List ℕ) (A : Ty) (r : Result ℕ Refusal) : Type 0 where
  pub cell : ℕ
  pub cells : ℕ
  pub answer : r ≡ Ok cell
  pub denotes : Denotes w cells cell A

-- The answer is the verdict on the program.
abbrev pub SaysVerdict : List ℕ → Verdict → Result ℕ Refusal → Type 0
SaysVerdict w (has_type A) r = CellOf w A r
SaysVerdict w (refusal number place) r = r ≡ Err (Typing number place)
