-- The wires of a copied circuit by their numbers.
use Rattle.std.specs.Prelude.{ℕ, zero, suc, ◌+◌, ◌-◌, ◌≤◌, ◌<◌, ◌≡◌, refl, List, [], ◌∷◌, length, get_or}
use Rattle.std.proofs.Common.{arith, sym, ◌∙◌, ap}
use Rattle.std.proofs.Math.Nat.{sub-zero, suc-sub-suc}
use Rattle.rules.specs.Circuits.{rename}

-- An input of a copied circuit becomes the argument's label at its place.
pub rename_input : (ℓs : List ℕ) (next w : ℕ) → w < length ℓs → rename ℓs next w ≡ get_or ℓs w 0
rename_input [] next w h = absurd (omega arith)
rename_input (ℓ ∷ ℓs) next zero h = refl
rename_input (ℓ ∷ ℓs) next (suc w) h = rename_input ℓs next w (omega arith)

-- Any other wire of a copied circuit is numbered on.
pub rename_later : (ℓs : List ℕ) (next w : ℕ) → length ℓs ≤ w → rename ℓs next w ≡ next + (w - length ℓs)
rename_later [] next w h = ap (λ j. next + j) (sym (sub-zero w))
rename_later (ℓ ∷ ℓs) next zero h = absurd (omega arith)
rename_later (ℓ ∷ ℓs) next (suc w) h =
    rename_later ℓs next w (omega arith) ∙ ap (λ j. next + j) (sym (suc-sub-suc w (length ℓs)))
