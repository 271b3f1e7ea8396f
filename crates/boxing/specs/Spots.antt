-- Boxing must not change a circuit (02, ticket 10): the spot, the two programs, and what a program builds.
use Rattle.std.specs.Prelude.{ℕ, ◌≡◌, List, [], T as Truth}
use Rattle.rules.specs.Types.{Wire, Ty, is_wire_type}
use Rattle.rules.specs.Gates.{nth}
use Rattle.rules.specs.Terms.{Boxed, Term, abstraction, application, pair, let_in, lift, force, box, apply, value}
use Rattle.rules.specs.Circuits.{Circuit}
use Rattle.rules.specs.Typing.{◌∣◌⊢◌∶◌}
use Rattle.rules.specs.Steps.{frame, configuration, start}
use Rattle.rules.specs.Sizes.{Row}

-- "somewhere", "in that spot": a place in a term, in any part of it, also under an abstraction or a lift and in let's second part.
pub data Spot : Type 0 where
  whole : Spot
  in_abstraction : Ty → Spot → Spot
  in_application_left : Spot → Term → Spot
  in_application_right : Term → Spot → Spot
  in_pair_left : Spot → Term → Spot
  in_pair_right : Term → Spot → Spot
  in_let_first : Spot → Term → Spot
  in_let_second : Term → Spot → Spot
  in_lift : Spot → Spot
  in_force : Spot → Spot
  in_box : Ty → Spot → Spot
  in_apply_left : Spot → Term → Spot
  in_apply_right : Term → Spot → Spot

-- The term with M in the spot. M may use the variables that are bound around the spot.
abbrev pub fill : Spot → Term → Term
fill whole M = M
fill (in_abstraction A S) M = abstraction A (fill S M)
fill (in_application_left S N) M = application (fill S M) N
fill (in_application_right N S) M = application N (fill S M)
fill (in_pair_left S N) M = pair (fill S M) N
fill (in_pair_right N S) M = pair N (fill S M)
fill (in_let_first S N) M = let_in (fill S M) N
fill (in_let_second N S) M = let_in N (fill S M)
fill (in_lift S) M = lift (fill S M)
fill (in_force S) M = force (fill S M)
fill (in_box T S) M = box T (fill S M)
fill (in_apply_left S N) M = apply (fill S M) N
fill (in_apply_right N S) M = apply N (fill S M)

-- "a program where somewhere an abstraction F is lifted, boxed at T and the box applied to a term N, and another with F itself
-- applied to N in that spot".
pub record OneBoxLess (with_box without_box : Term) : Type 0 where
  pub spot : Spot
  pub T : Ty
  pub F : Term
  pub N : Term
  pub is_abstraction : (A : Ty) × (M : Term) × (F ≡ abstraction A M)
  pub with_box_is : with_box ≡ fill spot (apply (box T (lift F)) N)
  pub without_box_is : without_box ≡ fill spot (application F N)

-- Any number of such boxes taken away, one after another. A spot may lie in what an earlier one left.
pub data BoxesLess : Term → Term → Type 0 where
  no_less : {M : Term} → BoxesLess M M
  one_less : {M N P : Term} → OneBoxLess M N → BoxesLess N P → BoxesLess M P

-- Two terms that differ in several spots at once: with such boxes taken away from each, they are one term.
pub record DifferInBoxes (M N : Term) : Type 0 where
  pub without : Term
  pub first_less : BoxesLess M without
  pub second_less : BoxesLess N without

-- "both pass and both finish": a program with the labels L and the term M, which has the type A, finishes with the circuit C and the
-- value W, by a row of rule steps of any length, with any number of gates allowed.
pub record Builds (L : List Wire) (M : Term) (A : Ty) (C : Circuit) (W : Term) : Type 0 where
  pub has_type : [] ∣ nth L ⊢ M ∶ A
  pub allowance : ℕ
  pub steps : ℕ
  pub closed : List Boxed
  pub row : Row allowance (start L M) steps (configuration (frame C W) [] closed)
  pub at_finish : Truth (value W)

-- What two programs share that differ in boxes: the type and the circuit. Their results differ in boxes at most; if the type is a
-- wire type, a result is a label tuple, and they share it too.
pub record SameBuilt (A A' : Ty) (C C' : Circuit) (W W' : Term) : Type 0 where
  pub same_type : A ≡ A'
  pub same_circuit : C ≡ C'
  pub results_differ : DifferInBoxes W W'
  pub same_result : Truth (is_wire_type A) → W ≡ W'
