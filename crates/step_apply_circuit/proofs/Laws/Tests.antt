-- Which result buffer is read at apply of a closed circuit.
use Rattle.std.specs.Prelude.{ℕ, zero, suc, ◌<◌, ◌≡◌, refl, List, [], length}
use Rattle.std.proofs.Common.{arith}
use Rattle.rules.specs.Terms.{Tuple, single, both, empty}
use Rattle.machine_circuits.specs.Layout.{tuple_words, four_results}
use Rattle.machine_circuits.specs.Results.{ResultFits}
use Rattle.machine_circuits.proofs.Laws.Writing.{result_inside}

-- A result has at least one word.
some_word : (k : Tuple) → 0 < length (tuple_words k)
some_word (single ℓ) = omega arith
some_word empty = omega arith
some_word (both k l) = omega arith

-- There is no other buffer, so no result can be loaded from one.
pub no_other_buffer : (r₀ r₁ r₂ r₃ : List ℕ) (k : Tuple) (m b from count size to available n next : ℕ)
    → (b ≡ 0 → ⊥)
    → (b ≡ 1 → ⊥)
    → (b ≡ 2 → ⊥)
    → (b ≡ 3 → ⊥)
    → ResultFits k m (four_results r₀ r₁ r₂ r₃ b) from count size to available n next
    → ⊥
no_other_buffer r₀ r₁ r₂ r₃ k m zero from count size to available n next h₀ h₁ h₂ h₃ fits = h₀ refl
no_other_buffer r₀ r₁ r₂ r₃ k m (suc zero) from count size to available n next h₀ h₁ h₂ h₃ fits = h₁ refl
no_other_buffer r₀ r₁ r₂ r₃ k m (suc (suc zero)) from count size to available n next h₀ h₁ h₂ h₃ fits = h₂ refl
no_other_buffer r₀ r₁ r₂ r₃ k m (suc (suc (suc zero))) from count size to available n next h₀ h₁ h₂ h₃ fits = h₃ refl
no_other_buffer r₀ r₁ r₂ r₃ k m (suc (suc (suc (suc b)))) from count size to available n next h₀ h₁ h₂ h₃ fits =
    omega (arith, result_inside k [] from fits.stands, some_word k)
