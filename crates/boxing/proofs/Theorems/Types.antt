-- A program without its boxes has the type that it had with them (02, ticket 10: "If both pass").
use Rattle.std.proofs.Common.{sym, subst}
use Rattle.rules.specs.Types.{Ty}
use Rattle.rules.specs.Terms.{Term, application, lift, box, apply}
use Rattle.rules.specs.Typing.{Context, LabelContext, ◌∣◌⊢◌∶◌, by_abs, by_app, by_tuple, by_let, by_lift, by_force, by_box}
use Rattle.rules.specs.Typing.{by_apply}
use Rattle.boxing.specs.Spots.{Spot, whole, in_abstraction, in_application_left, in_application_right, in_pair_left}
use Rattle.boxing.specs.Spots.{in_pair_right, in_let_first, in_let_second, in_lift, in_force, in_box, in_apply_left}
use Rattle.boxing.specs.Spots.{in_apply_right, fill, OneBoxLess, BoxesLess, no_less, one_less}

-- What keeps its type in a spot keeps the type of the whole.
fill_has : (S : Spot) {Γ : Context} {Q : LabelContext} {A : Ty} (M N : Term)
    → ((Δ : Context) (R : LabelContext) (B : Ty) → Δ ∣ R ⊢ M ∶ B → Δ ∣ R ⊢ N ∶ B)
    → Γ ∣ Q ⊢ fill S M ∶ A
    → Γ ∣ Q ⊢ fill S N ∶ A
fill_has whole M N f d = f _ _ _ d
fill_has (in_abstraction A S) M N f (by_abs b d) = by_abs b (fill_has S M N f d)
fill_has (in_application_left S P) M N f (by_app g s d e) = by_app g s (fill_has S M N f d) e
fill_has (in_application_right P S) M N f (by_app g s d e) = by_app g s d (fill_has S M N f e)
fill_has (in_pair_left S P) M N f (by_tuple b g s d e) = by_tuple b g s (fill_has S M N f d) e
fill_has (in_pair_right P S) M N f (by_tuple b g s d e) = by_tuple b g s d (fill_has S M N f e)
fill_has (in_let_first S P) M N f (by_let g s d e) = by_let g s (fill_has S M N f d) e
fill_has (in_let_second P S) M N f (by_let g s d e) = by_let g s d (fill_has S M N f e)
fill_has (in_lift S) M N f (by_lift b p n d) = by_lift b p n (fill_has S M N f d)
fill_has (in_force S) M N f (by_force d) = by_force (fill_has S M N f d)
fill_has (in_box T S) M N f (by_box w w' d) = by_box w w' (fill_has S M N f d)
fill_has (in_apply_left S P) M N f (by_apply g s d e) = by_apply g s (fill_has S M N f d) e
fill_has (in_apply_right P S) M N f (by_apply g s d e) = by_apply g s d (fill_has S M N f e)

-- What may be lifted and boxed and the box applied may itself be applied.
spot_has : {Γ : Context} {Q : LabelContext} {T A : Ty} {F N : Term}
    → Γ ∣ Q ⊢ apply (box T (lift F)) N ∶ A
    → Γ ∣ Q ⊢ application F N ∶ A
spot_has (by_apply g s (by_box w w' (by_lift b p n d)) e) = by_app g s d e

one_has : {Γ : Context} {Q : LabelContext} {A : Ty} {M N : Term} → OneBoxLess M N → Γ ∣ Q ⊢ M ∶ A → Γ ∣ Q ⊢ N ∶ A
one_has {Γ} {Q} {A} o d =
    subst (λ M. Γ ∣ Q ⊢ M ∶ A) (sym o.without_box_is)
    (fill_has o.spot _ _ (λ Δ R B. spot_has) (subst (λ M. Γ ∣ Q ⊢ M ∶ A) o.with_box_is d))

-- THEOREM
-- A term with boxes taken away has the type that it had with them.
pub unboxed_has_type : {Γ : Context} {Q : LabelContext} {A : Ty} {M N : Term} → BoxesLess M N → Γ ∣ Q ⊢ M ∶ A → Γ ∣ Q ⊢ N ∶ A
unboxed_has_type no_less d = d
unboxed_has_type (one_less o b) d = unboxed_has_type b (one_has o d)
