-- Boxes taken away in spots, one after another, and taken away part by part.
use Rattle.std.specs.Prelude.{◌≡◌, refl}
use Rattle.std.proofs.Common.{sym, ap, ◌∙◌, subst, subst₂}
use Rattle.rules.specs.Types.{Ty}
use Rattle.rules.specs.Terms.{Term, abstraction, application, pair, let_in, lift, force, box, apply}
use Rattle.boxing.specs.Spots.{Spot, whole, in_abstraction, in_application_left, in_application_right, in_pair_left}
use Rattle.boxing.specs.Spots.{in_pair_right, in_let_first, in_let_second, in_lift, in_force, in_box, in_apply_left}
use Rattle.boxing.specs.Spots.{in_apply_right, fill, OneBoxLess, BoxesLess, no_less, one_less}
use Rattle.boxing.proofs.Laws.Unboxing.{◌unboxes_to◌, variable_stays, label_stays, gate_stays, unit_stays}
use Rattle.boxing.proofs.Laws.Unboxing.{constant_stays, in_abstractions, in_applications, in_pairs, in_lets, in_lifts}
use Rattle.boxing.proofs.Laws.Unboxing.{in_forces, in_boxes, in_applies, box_gone, unboxes_to_itself}

-- FROM SPOTS TO PARTS

-- Boxes taken away in a spot are taken away from the whole.
fill_unboxes : (S : Spot) {M N : Term} → M unboxes_to N → fill S M unboxes_to fill S N
fill_unboxes whole u = u
fill_unboxes (in_abstraction A S) u = in_abstractions (fill_unboxes S u)
fill_unboxes (in_application_left S P) u = in_applications (fill_unboxes S u) (unboxes_to_itself P)
fill_unboxes (in_application_right P S) u = in_applications (unboxes_to_itself P) (fill_unboxes S u)
fill_unboxes (in_pair_left S P) u = in_pairs (fill_unboxes S u) (unboxes_to_itself P)
fill_unboxes (in_pair_right P S) u = in_pairs (unboxes_to_itself P) (fill_unboxes S u)
fill_unboxes (in_let_first S P) u = in_lets (fill_unboxes S u) (unboxes_to_itself P)
fill_unboxes (in_let_second P S) u = in_lets (unboxes_to_itself P) (fill_unboxes S u)
fill_unboxes (in_lift S) u = in_lifts (fill_unboxes S u)
fill_unboxes (in_force S) u = in_forces (fill_unboxes S u)
fill_unboxes (in_box T S) u = in_boxes (fill_unboxes S u)
fill_unboxes (in_apply_left S P) u = in_applies (fill_unboxes S u) (unboxes_to_itself P)
fill_unboxes (in_apply_right P S) u = in_applies (unboxes_to_itself P) (fill_unboxes S u)

-- The box of an abstraction goes.
abstraction_unboxes : {T : Ty} {F N : Term}
    → (A : Ty) × (M : Term) × (F ≡ abstraction A M)
    → apply (box T (lift F)) N unboxes_to application F N
abstraction_unboxes {T} {N = N} a =
    subst (λ F. apply (box T (lift F)) N unboxes_to application F N) (sym a.2)
    (box_gone (unboxes_to_itself a.1) (unboxes_to_itself N))

pub one_unboxes : {M N : Term} → OneBoxLess M N → M unboxes_to N
one_unboxes o =
    subst₂ (λ M N. M unboxes_to N) (sym o.with_box_is) (sym o.without_box_is)
    (fill_unboxes o.spot (abstraction_unboxes o.is_abstraction))

-- FROM PARTS TO SPOTS

-- Boxes taken away one after another, and then others.
pub and_then : {M N P : Term} → BoxesLess M N → BoxesLess N P → BoxesLess M P
and_then no_less c = c
and_then (one_less o b) c = one_less o (and_then b c)

-- A spot in a part is a spot in the whole.
module _ (around : Term → Term) (into : Spot → Spot) (fills : (S : Spot) (M : Term) → around (fill S M) ≡ fill (into S) M) where
  one_around : {M N : Term} → OneBoxLess M N → OneBoxLess (around M) (around N)
  one_around o =
      record {
        spot = into o.spot;
        T = o.T;
        F = o.F;
        N = o.N;
        is_abstraction = o.is_abstraction;
        with_box_is = ap around o.with_box_is ∙ fills o.spot _;
        without_box_is = ap around o.without_box_is ∙ fills o.spot _;
      }

  pub less_around : {M N : Term} → BoxesLess M N → BoxesLess (around M) (around N)
  less_around no_less = no_less
  less_around (one_less o b) = one_less (one_around o) (less_around b)

-- In both parts of a term: first in the one, then in the other.
two_less : (c : Term → Term → Term) (into_left : Spot → Term → Spot) (into_right : Term → Spot → Spot)
    → ((P : Term) (S : Spot) (M : Term) → c (fill S M) P ≡ fill (into_left S P) M)
    → ((P : Term) (S : Spot) (M : Term) → c P (fill S M) ≡ fill (into_right P S) M)
    → (M N : Term) {M' N' : Term}
    → BoxesLess M M'
    → BoxesLess N N'
    → BoxesLess (c M N) (c M' N')
two_less c into_left into_right fills_left fills_right M N {M'} b d =
    and_then (less_around (λ P. c P N) (λ S. into_left S N) (fills_left N) b)
    (less_around (c M') (into_right M') (fills_right M') d)

-- The box goes last, from a spot that is the whole.
box_less : {T A : Ty} {B N : Term} → OneBoxLess (apply (box T (lift (abstraction A B))) N) (application (abstraction A B) N)
box_less {T} {A} {B} {N} =
    record {
      spot = whole;
      T = T;
      F = abstraction A B;
      N = N;
      is_abstraction = (A, B, refl);
      with_box_is = refl;
      without_box_is = refl;
    }

pub unboxes_less : {M N : Term} → M unboxes_to N → BoxesLess M N
unboxes_less variable_stays = no_less
unboxes_less label_stays = no_less
unboxes_less gate_stays = no_less
unboxes_less unit_stays = no_less
unboxes_less constant_stays = no_less
unboxes_less (in_abstractions {A = A} u) =
    less_around (abstraction A) (in_abstraction A) (λ S M. refl) (unboxes_less u)
unboxes_less (in_applications {M = M} {N = N} u w) =
    two_less application in_application_left in_application_right (λ P S M. refl) (λ P S M. refl) M N
    (unboxes_less u)
    (unboxes_less w)
unboxes_less (in_pairs {M = M} {N = N} u w) =
    two_less pair in_pair_left in_pair_right (λ P S M. refl) (λ P S M. refl) M N (unboxes_less u) (unboxes_less w)
unboxes_less (in_lets {M = M} {N = N} u w) =
    two_less let_in in_let_first in_let_second (λ P S M. refl) (λ P S M. refl) M N (unboxes_less u) (unboxes_less w)
unboxes_less (in_lifts u) = less_around lift in_lift (λ S M. refl) (unboxes_less u)
unboxes_less (in_forces u) = less_around force in_force (λ S M. refl) (unboxes_less u)
unboxes_less (in_boxes {T = T} u) = less_around (box T) (in_box T) (λ S M. refl) (unboxes_less u)
unboxes_less (in_applies {M = M} {N = N} u w) =
    two_less apply in_apply_left in_apply_right (λ P S M. refl) (λ P S M. refl) M N (unboxes_less u) (unboxes_less w)
unboxes_less (box_gone {T = T} {A = A} {N = N} u w) =
    and_then
    (two_less (λ M N. apply (box T (lift (abstraction A M))) N)
    (λ S P. in_apply_left (in_box T (in_lift (in_abstraction A S))) P)
    (λ M S. in_apply_right (box T (lift (abstraction A M))) S)
    (λ P S M. refl) (λ P S M. refl) _ N (unboxes_less u) (unboxes_less w))
    (one_less box_less no_less)
