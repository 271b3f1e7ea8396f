-- "somewhere" (02, ticket 10): what stands at a spot of any part of a term stands at a spot of the term.
use Rattle.std.specs.Prelude.{ℕ, zero, suc, ◌≡◌, refl, ◌⊎◌, [], ◌∷◌}
use Rattle.std.proofs.Common.{sym, ap, ◌∙◌, inl, inr}
use Rattle.std.proofs.Math.Option.{some, some-injective, none-ne-some}
use Rattle.rules.specs.Gates.{nth}
use Rattle.rules.specs.Terms.{Term, variable, label, gate, unit_value, constant, abstraction, application, pair, let_in, lift}
use Rattle.rules.specs.Terms.{force, box, apply}
use Rattle.rules.specs.Parts.{term_parts}
use Rattle.boxing.specs.Spots.{Spot, in_abstraction, in_application_left, in_application_right, in_pair_left}
use Rattle.boxing.specs.Spots.{in_pair_right, in_let_first, in_let_second, in_lift, in_force, in_box, in_apply_left}
use Rattle.boxing.specs.Spots.{in_apply_right, fill}

-- What stands in a list of one, and in a list of two.
the_only : (P Q : Term) (n : ℕ) → nth (P ∷ []) n ≡ some Q → Q ≡ P
the_only P Q zero e = sym (some-injective P Q e)
the_only P Q (suc n) e = absurd (none-ne-some Q e)

either : (P P' Q : Term) (n : ℕ) → nth (P ∷ P' ∷ []) n ≡ some Q → (Q ≡ P) ⊎ (Q ≡ P')
either P P' Q zero e = inl (sym (some-injective P Q e))
either P P' Q (suc n) e = inr (the_only P' Q n e)

-- A spot of X in a term of two parts, by the part.
in_either : (S : Spot) (X : Term) (c : Term → Term → Term) (M N : Term) (left right : Spot)
    → fill left X ≡ c (fill S X) N
    → fill right X ≡ c M (fill S X)
    → (fill S X ≡ M) ⊎ (fill S X ≡ N)
    → (S' : Spot) × (fill S' X ≡ c M N)
in_either S X c M N left right l r (inl e) = (left, l ∙ ap (λ P. c P N) e)
in_either S X c M N left right l r (inr e) = (right, r ∙ ap (c M) e)

-- THEOREM
pub every_part_at_a_spot : (S : Spot) (X M : Term) (n : ℕ) → nth (term_parts M) n ≡ some (fill S X) → (S' : Spot) × (fill S' X ≡ M)
every_part_at_a_spot S X (variable k) n e = absurd (none-ne-some (fill S X) e)
every_part_at_a_spot S X (label ℓ) n e = absurd (none-ne-some (fill S X) e)
every_part_at_a_spot S X (gate k) n e = absurd (none-ne-some (fill S X) e)
every_part_at_a_spot S X unit_value n e = absurd (none-ne-some (fill S X) e)
every_part_at_a_spot S X (constant b) n e = absurd (none-ne-some (fill S X) e)
every_part_at_a_spot S X (abstraction A M) n e = (in_abstraction A S, ap (abstraction A) (the_only M (fill S X) n e))
every_part_at_a_spot S X (application M N) n e =
    in_either S X application M N (in_application_left S N) (in_application_right M S) refl refl (either M N (fill S X) n e)
every_part_at_a_spot S X (pair M N) n e =
    in_either S X pair M N (in_pair_left S N) (in_pair_right M S) refl refl (either M N (fill S X) n e)
every_part_at_a_spot S X (let_in M N) n e =
    in_either S X let_in M N (in_let_first S N) (in_let_second M S) refl refl (either M N (fill S X) n e)
every_part_at_a_spot S X (lift M) n e = (in_lift S, ap lift (the_only M (fill S X) n e))
every_part_at_a_spot S X (force M) n e = (in_force S, ap force (the_only M (fill S X) n e))
every_part_at_a_spot S X (box T M) n e = (in_box T S, ap (box T) (the_only M (fill S X) n e))
every_part_at_a_spot S X (apply M N) n e =
    in_either S X apply M N (in_apply_left S N) (in_apply_right M S) refl refl (either M N (fill S X) n e)
