-- Demand 2 of the check: what each of its answers means by the typing rules (01, "Typing": "The check must agree with 000's
-- derivation rules, context splitting included"; "Check, in number order"). Proved in Theorems.Checked.
use Rattle.std.specs.Prelude.{ℕ, ◌≡◌, ◌↔◌, ◌⊎◌, List, [], Err}
use Rattle.rules.specs.Types.{Ty}
use Rattle.rules.specs.Gates.{nth}
use Rattle.rules.specs.Typing.{◌∣◌⊢◌∶◌}
use Rattle.refusals.specs.declared.Refusal.{Refusal}
use Rattle.refusals.specs.declared.Refusal.TheVariants.{Typing}
use Rattle.program.specs.Format.{first_term}
use Rattle.program.specs.Reading.{read_of, accepted}
use Rattle.check_program.specs.Answers.{labels_of, term_of, accepts, refuses, check_of}
use Rattle.check_program.specs.Places.{FaultAt, NotOnceAt, UseInsideAt, Nowhere, First}

-- The reader accepts the file.
pub record IsRead (f : List ℕ) : Type 0 where
  pub L : ℕ
  pub P : ℕ
  pub N : ℕ
  pub read : read_of f ≡ accepted L P N

-- 16 concerns this entry of the file.
abbrev pub RuleFails : List ℕ → ℕ → Type 0
RuleFails f p = FaultAt (labels_of f) (first_term f) (term_of f) p

-- 17 concerns this entry: a label or a binder.
abbrev pub NotOnce : List ℕ → ℕ → Type 0
NotOnce f p = NotOnceAt (labels_of f) (first_term f) (term_of f) p

-- 18 concerns this entry.
abbrev pub InsideLift : List ℕ → ℕ → Type 0
InsideLift f p = UseInsideAt (labels_of f) (first_term f) (term_of f) p

-- 02, ticket 1: "For 16, 17 and 18 the place becomes the first such entry in file order, where 01 allowed some such entry. The
-- number is chosen as before." Said of the refusals that an operation gives for the file: each of the three, with a place, exactly
-- if that place is the first such entry and no entry is one of a lower number.
pub record FirstFaults (f : List ℕ) (Refuses : Refusal → Type 0) : Type 0 where
  pub sixteen : (p : ℕ) → Refuses (Typing 16 p) ↔ First (RuleFails f) p
  pub seventeen : (p : ℕ) → Refuses (Typing 17 p) ↔ (Nowhere (RuleFails f) × First (NotOnce f) p)
  pub eighteen : (p : ℕ) → Refuses (Typing 18 p) ↔ (Nowhere (RuleFails f) × Nowhere (NotOnce f) × First (InsideLift f) p)

-- Demand 2 of the check of a file.
pub record CheckMeans (f : List ℕ) : Type 0 where
  -- It accepts with the type A exactly if the reader accepts the file and the rules derive A for its term with exactly its labels.
  pub accepted : (A : Ty) → (check_of f ≡ accepts A) ↔ (IsRead f × ([] ∣ nth (labels_of f) ⊢ term_of f ∶ A))
  -- "a check first reads".
  pub not_read : (x : Refusal) → read_of f ≡ Err x → check_of f ≡ refuses x
  -- Of a file that is read: 16, 17 and 18, each at the first such entry, so that no place is left open; and no other refusal.
  pub first_faults : IsRead f → FirstFaults f (λ x. check_of f ≡ refuses x)
  pub no_other : IsRead f
      → (x : Refusal)
      → check_of f ≡ refuses x
      → (p : ℕ) × ((x ≡ Typing 16 p) ⊎ (x ≡ Typing 17 p) ⊎ (x ≡ Typing 18 p))
