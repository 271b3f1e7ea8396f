-- A law for each number of a range, from the cases one by one.
use Rattle.std.specs.Prelude.{ℕ, zero, suc, ◌+◌, ◌≤◌, ◌<◌, ◌≡◌, refl, Bool, true, false, eqb}
use Rattle.std.proofs.Common.{arith, sym, subst, eqb-true}
use Rattle.std.proofs.lemmas.Bool.{eqb-false}

-- What holds of a number holds of k, if k is that number; otherwise it is shown of k.
pub try : (P : ℕ → Type 0) (k m : ℕ) → P m → ((k ≡ m → ⊥) → P k) → P k
try P k m p f = go (eqb k m) refl
  where
    go : (b : Bool) → eqb k m ≡ b → P k
    go true e = subst P (sym (eqb-true k m e)) p
    go false e = f (eqb-false k m e)

infixr 40 ◌and◌
-- P of each of n numbers, from the first on.
pub data Each (P : ℕ → Type 0) : ℕ → ℕ → Type 0 where
  no_more : {first : ℕ} → Each P first zero
  ◌and◌ : {first n : ℕ} → P first → Each P (suc first) n → Each P first (suc n)

pub in_range : (P : ℕ → Type 0) (first n : ℕ) → Each P first n → (k : ℕ) → first ≤ k → k < first + n → P k
in_range P first zero no_more k least most = absurd (omega arith)
in_range P first (suc n) (p and each) k least most =
    try P k first p λ other. in_range P (suc first) n each k (omega (arith, other)) (omega arith)
