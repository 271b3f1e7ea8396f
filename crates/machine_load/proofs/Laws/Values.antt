-- Laws of the values of a function at numbers one after another.
use Prim.Native.Nat.{ℕ, zero, suc, ◌+◌}
use native.Mathlib.Omega.{arith}
use Rattle.std.specs.Prelude.{◌≡◌, [], ◌∷◌, ◌++◌, length}
use Rattle.std.proofs.Math.Path.{refl, ap}
use Rattle.std.proofs.Common.{sym, ◌∙◌}
use Rattle.machine_load.specs.Trees.{values_from}

module _ {A : Type 0} (g : ℕ → A) where
  -- None, and the first before the others.
  pub no_values : (e : ℕ) → values_from g e 0 ≡ []
  unfolding values_from
  no_values e = refl

  pub next_value : (e n : ℕ) → values_from g e (suc n) ≡ g e ∷ values_from g (suc e) n
  unfolding values_from
  next_value e n = refl

  -- They are as many as asked for.
  pub length_values : (e n : ℕ) → length (values_from g e n) ≡ n
  unfolding values_from
  length_values e zero = refl
  length_values e (suc n) = ap suc (length_values (suc e) n)

  -- The values up to a number, then those from there on.
  pub values_append : (e m n : ℕ) → values_from g e (m + n) ≡ values_from g e m ++ values_from g (e + m) n
  unfolding values_from
  values_append e zero n =
      let none : 0 + n ≡ n = omega arith in
      let here : e + 0 ≡ e = omega arith in
      ap (values_from g e) none ∙ ap (λ i. values_from g i n) (sym here)
  values_append e (suc m) n =
      let more : suc m + n ≡ suc (m + n) = omega arith in
      let there : suc e + m ≡ e + suc m = omega arith in
      ap (values_from g e) more
      ∙ ap (λ l. g e ∷ l) (values_append (suc e) m n)
      ∙ ap (λ i. g e ∷ (values_from g (suc e) m ++ values_from g i n)) there

  -- One value more at the end.
  pub values_more : (e n : ℕ) → values_from g e (n + 1) ≡ values_from g e n ++ (g (e + n) ∷ [])
  unfolding values_from
  values_more e n = values_append e n 1
