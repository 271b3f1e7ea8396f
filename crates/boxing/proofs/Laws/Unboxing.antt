-- Boxes taken away in any number of spots: what evaluates with them evaluates without them, to the same circuit.
use Rattle.std.specs.Prelude.{ℕ, zero, suc, ◌≡◌, refl, List, [], ◌∷◌, ◌++◌}
use Rattle.std.proofs.Common.{sym, ap, ap₂, ◌∙◌}
use Rattle.rules.specs.Types.{Ty}
use Rattle.rules.specs.Terms.{Tuple, single, empty, both, tuple_from, Gate, Boxed, boxed, Term, variable, label, gate, unit_value}
use Rattle.rules.specs.Terms.{constant, abstraction, application, pair, let_in, lift, force, box, apply, tuple, term_labels}
use Rattle.rules.specs.Terms.{term_at, variable_at, under, substitute}
use Rattle.rules.specs.Circuits.{Circuit, appended, returned}
use Rattle.boxing.proofs.Laws.Evaluation.{OfForm, ◌∣◌⇓◌∣◌, label⇓, gate⇓, unit⇓, constant⇓, abstraction⇓, application⇓, let⇓}
use Rattle.boxing.proofs.Laws.Evaluation.{pair⇓, lift⇓, force⇓, box⇓, apply_constant⇓, apply_gate⇓}
use Rattle.boxing.proofs.Laws.Values.{tuple_evaluates, one_evaluation, evaluates_as, comes_to}
use Rattle.boxing.proofs.Laws.Renaming.{body_above}

infix 20 ◌unboxes_to◌
-- The second term is the first with such boxes taken away, part by part; a circuit constant stays.
pub data ◌unboxes_to◌ : Term → Term → Type 0 where
  variable_stays : {n : ℕ} → variable n unboxes_to variable n
  label_stays : {ℓ : ℕ} → label ℓ unboxes_to label ℓ
  gate_stays : {n : ℕ} → gate n unboxes_to gate n
  unit_stays : unit_value unboxes_to unit_value
  constant_stays : {b : Boxed} → constant b unboxes_to constant b
  in_abstractions : {A : Ty} {M N : Term} → M unboxes_to N → abstraction A M unboxes_to abstraction A N
  in_applications : {M N M' N' : Term}
      → M unboxes_to M' → N unboxes_to N' → application M N unboxes_to application M' N'
  in_pairs : {M N M' N' : Term} → M unboxes_to M' → N unboxes_to N' → pair M N unboxes_to pair M' N'
  in_lets : {M N M' N' : Term} → M unboxes_to M' → N unboxes_to N' → let_in M N unboxes_to let_in M' N'
  in_lifts : {M N : Term} → M unboxes_to N → lift M unboxes_to lift N
  in_forces : {M N : Term} → M unboxes_to N → force M unboxes_to force N
  in_boxes : {T : Ty} {M N : Term} → M unboxes_to N → box T M unboxes_to box T N
  in_applies : {M N M' N' : Term} → M unboxes_to M' → N unboxes_to N' → apply M N unboxes_to apply M' N'
  box_gone : {T A : Ty} {M N M' N' : Term}
      → M unboxes_to M'
      → N unboxes_to N'
      → apply (box T (lift (abstraction A M))) N unboxes_to application (abstraction A M') N'

-- No box need be taken away.
pub unboxes_to_itself : (M : Term) → M unboxes_to M
unboxes_to_itself (variable n) = variable_stays
unboxes_to_itself (label ℓ) = label_stays
unboxes_to_itself (gate n) = gate_stays
unboxes_to_itself unit_value = unit_stays
unboxes_to_itself (constant b) = constant_stays
unboxes_to_itself (abstraction A M) = in_abstractions (unboxes_to_itself M)
unboxes_to_itself (application M N) = in_applications (unboxes_to_itself M) (unboxes_to_itself N)
unboxes_to_itself (pair M N) = in_pairs (unboxes_to_itself M) (unboxes_to_itself N)
unboxes_to_itself (let_in M N) = in_lets (unboxes_to_itself M) (unboxes_to_itself N)
unboxes_to_itself (lift M) = in_lifts (unboxes_to_itself M)
unboxes_to_itself (force M) = in_forces (unboxes_to_itself M)
unboxes_to_itself (box T M) = in_boxes (unboxes_to_itself M)
unboxes_to_itself (apply M N) = in_applies (unboxes_to_itself M) (unboxes_to_itself N)

-- The labels of the term stay, in their order.
pub labels_stay : {M N : Term} → M unboxes_to N → term_labels M ≡ term_labels N
labels_stay variable_stays = refl
labels_stay label_stays = refl
labels_stay gate_stays = refl
labels_stay unit_stays = refl
labels_stay constant_stays = refl
labels_stay (in_abstractions u) = labels_stay u
labels_stay (in_applications u w) = ap₂ ◌++◌ (labels_stay u) (labels_stay w)
labels_stay (in_pairs u w) = ap₂ ◌++◌ (labels_stay u) (labels_stay w)
labels_stay (in_lets u w) = ap₂ ◌++◌ (labels_stay u) (labels_stay w)
labels_stay (in_lifts u) = labels_stay u
labels_stay (in_forces u) = labels_stay u
labels_stay (in_boxes u) = labels_stay u
labels_stay (in_applies u w) = ap₂ ◌++◌ (labels_stay u) (labels_stay w)
labels_stay (box_gone u w) = ap₂ ◌++◌ (labels_stay u) (labels_stay w)

-- A label tuple has no box.
pub tuple_stays : (k : Tuple) {M : Term} → tuple k unboxes_to M → M ≡ tuple k
tuple_stays (single ℓ) label_stays = refl
tuple_stays empty unit_stays = refl
tuple_stays (both t u) (in_pairs v w) = ap₂ pair (tuple_stays t v) (tuple_stays u w)

-- Values from which boxes are taken away, for those that are substituted.
pub data AllUnbox : List Term → List Term → Type 0 where
  none_unboxed : AllUnbox [] []
  also_unboxed : {W W' : Term} {Ws Ws' : List Term} → W unboxes_to W' → AllUnbox Ws Ws' → AllUnbox (W ∷ Ws) (W' ∷ Ws')

unboxed_at : {Ws Ws' : List Term} → AllUnbox Ws Ws' → (n : ℕ) (M : Term) → term_at Ws n M unboxes_to term_at Ws' n M
unboxed_at none_unboxed n M = unboxes_to_itself M
unboxed_at (also_unboxed u us) zero M = u
unboxed_at (also_unboxed u us) (suc n) M = unboxed_at us n M

variable_unboxed : (k : ℕ) {Ws Ws' : List Term} → AllUnbox Ws Ws' → (n : ℕ) (M : Term)
    → variable_at k Ws n M unboxes_to variable_at k Ws' n M
variable_unboxed zero us n M = unboxed_at us n M
variable_unboxed (suc k) us zero M = unboxes_to_itself M
variable_unboxed (suc k) us (suc n) M = variable_unboxed k us n M

-- Boxes may be taken away before or after values are substituted: a spot is copied with the value.
pub substitute_unboxed : (k : ℕ) {M M' : Term} {Ws Ws' : List Term}
    → M unboxes_to M'
    → AllUnbox Ws Ws'
    → under k Ws M unboxes_to under k Ws' M'
substitute_unboxed k (variable_stays {n = n}) us = variable_unboxed k us n (variable n)
substitute_unboxed k label_stays us = label_stays
substitute_unboxed k gate_stays us = gate_stays
substitute_unboxed k unit_stays us = unit_stays
substitute_unboxed k constant_stays us = constant_stays
substitute_unboxed k (in_abstractions u) us = in_abstractions (substitute_unboxed (suc k) u us)
substitute_unboxed k (in_applications u w) us = in_applications (substitute_unboxed k u us) (substitute_unboxed k w us)
substitute_unboxed k (in_pairs u w) us = in_pairs (substitute_unboxed k u us) (substitute_unboxed k w us)
substitute_unboxed k (in_lets u w) us = in_lets (substitute_unboxed k u us) (substitute_unboxed (suc (suc k)) w us)
substitute_unboxed k (in_lifts u) us = in_lifts (substitute_unboxed k u us)
substitute_unboxed k (in_forces u) us = in_forces (substitute_unboxed k u us)
substitute_unboxed k (in_boxes u) us = in_boxes (substitute_unboxed k u us)
substitute_unboxed k (in_applies u w) us = in_applies (substitute_unboxed k u us) (substitute_unboxed k w us)
substitute_unboxed k (box_gone u w) us = box_gone (substitute_unboxed (suc k) u us) (substitute_unboxed k w us)

-- THE SPOT

-- An abstraction applied to a label tuple evaluates as its body does.
body_evaluates : {C D : Circuit} {A : Ty} {M W : Term} (k : Tuple)
    → C ∣ application (abstraction A M) (tuple k) ⇓ D ∣ W
    → C ∣ substitute (tuple k ∷ []) M ⇓ D ∣ W
body_evaluates {M = M} k (application⇓ abstraction⇓ e f) =
    let s = one_evaluation (tuple_evaluates k) e in
    evaluates_as s.0 (ap (λ W. substitute (W ∷ []) M) s.1) f

-- The box of an abstraction, applied, builds what the abstraction itself does, applied.
spot_evaluates : {C C₁ C₂ : Circuit} {T U A : Ty} {M N : Term} {gs : List Gate} {r : Tuple} (k : Tuple)
    → C ∣ box T (lift (abstraction A M)) ⇓ C₁ ∣ constant (boxed U gs r)
    → C₁ ∣ N ⇓ C₂ ∣ tuple k
    → OfForm U k
    → C ∣ application (abstraction A M) N ⇓ appended C₂ k (boxed U gs r) ∣ tuple (returned C₂ k (boxed U gs r))
spot_evaluates {C₂ = C₂} k (box⇓ r lift⇓ n d) e h =
    application⇓ abstraction⇓ e (body_evaluates k (body_above r k C₂ n h d))

-- A box evaluates to no gate.
no_gate_from_box : {C D : Circuit} {T : Ty} {M : Term} {n : ℕ} → C ∣ box T M ⇓ D ∣ gate n → ⊥
no_gate_from_box d = elim d [ ]

-- What a term with boxes taken away evaluates to, where the term itself evaluates to W: the same circuit, and W with boxes taken away.
pub record Follows (C : Circuit) (M : Term) (D : Circuit) (W : Term) : Type 0 where
  pub result : Term
  pub result_unboxed : W unboxes_to result
  pub evaluation : C ∣ M ⇓ D ∣ result

-- A result that has no box is the same.
stays_tuple : {C D : Circuit} {M : Term} (k : Tuple) → Follows C M D (tuple k) → C ∣ M ⇓ D ∣ tuple k
stays_tuple k f = comes_to (tuple_stays k f.result_unboxed) f.evaluation

stays_gate : {C D : Circuit} {M : Term} {n : ℕ} → Follows C M D (gate n) → C ∣ M ⇓ D ∣ gate n
stays_gate f = comes_to (of f.result_unboxed) f.evaluation
  where
    of : {W : Term} {n : ℕ} → gate n unboxes_to W → W ≡ gate n
    of gate_stays = refl

stays_constant : {C D : Circuit} {M : Term} {b : Boxed} → Follows C M D (constant b) → C ∣ M ⇓ D ∣ constant b
stays_constant f = comes_to (of f.result_unboxed) f.evaluation
  where
    of : {W : Term} {b : Boxed} → constant b unboxes_to W → W ≡ constant b
    of constant_stays = refl

-- The parts of a result with boxes taken away.
record FollowsAbstraction (C : Circuit) (M : Term) (D : Circuit) (A : Ty) (P : Term) : Type 0 where
  body : Term
  body_unboxed : P unboxes_to body
  evaluation : C ∣ M ⇓ D ∣ abstraction A body

follows_abstraction : {C D : Circuit} {M P : Term} {A : Ty} → Follows C M D (abstraction A P) → FollowsAbstraction C M D A P
follows_abstraction {C} {D} {M} {P} {A} f = of f.result f.result_unboxed f.evaluation
  where
    of : (W : Term) → abstraction A P unboxes_to W → C ∣ M ⇓ D ∣ W → FollowsAbstraction C M D A P
    of _ (in_abstractions {N = N} u) d = record { body = N; body_unboxed = u; evaluation = d }

record FollowsPair (C : Circuit) (M : Term) (D : Circuit) (W W' : Term) : Type 0 where
  first : Term
  second : Term
  first_unboxed : W unboxes_to first
  second_unboxed : W' unboxes_to second
  evaluation : C ∣ M ⇓ D ∣ pair first second

follows_pair : {C D : Circuit} {M W W' : Term} → Follows C M D (pair W W') → FollowsPair C M D W W'
follows_pair {C} {D} {M} {W} {W'} f = of f.result f.result_unboxed f.evaluation
  where
    of : (X : Term) → pair W W' unboxes_to X → C ∣ M ⇓ D ∣ X → FollowsPair C M D W W'
    of _ (in_pairs {M' = M'} {N' = N'} u w) d =
        record { first = M'; second = N'; first_unboxed = u; second_unboxed = w; evaluation = d }

record FollowsLift (C : Circuit) (M : Term) (D : Circuit) (P : Term) : Type 0 where
  lifted : Term
  lifted_unboxed : P unboxes_to lifted
  evaluation : C ∣ M ⇓ D ∣ lift lifted

follows_lift : {C D : Circuit} {M P : Term} → Follows C M D (lift P) → FollowsLift C M D P
follows_lift {C} {D} {M} {P} f = of f.result f.result_unboxed f.evaluation
  where
    of : (X : Term) → lift P unboxes_to X → C ∣ M ⇓ D ∣ X → FollowsLift C M D P
    of _ (in_lifts {N = N} u) d = record { lifted = N; lifted_unboxed = u; evaluation = d }

-- An evaluation whose rest follows; and one whose result has no box.
followed_by : {C C₁ D : Circuit} {M N W : Term}
    → ((X : Term) → C₁ ∣ M ⇓ D ∣ X → C ∣ N ⇓ D ∣ X)
    → Follows C₁ M D W
    → Follows C N D W
followed_by go f = record { result = f.result; result_unboxed = f.result_unboxed; evaluation = go f.result f.evaluation }

unchanged : {C D : Circuit} {M : Term} {W : Term} → W unboxes_to W → C ∣ M ⇓ D ∣ W → Follows C M D W
unchanged {W = W} u d = record { result = W; result_unboxed = u; evaluation = d }

-- THEOREM: a term with boxes taken away builds the same circuit.
pub unboxing_follows : {C D : Circuit} {M M' W : Term} → C ∣ M ⇓ D ∣ W → M unboxes_to M' → Follows C M' D W
unboxing_follows label⇓ label_stays = unchanged label_stays label⇓
unboxing_follows gate⇓ gate_stays = unchanged gate_stays gate⇓
unboxing_follows unit⇓ unit_stays = unchanged unit_stays unit⇓
unboxing_follows constant⇓ constant_stays = unchanged constant_stays constant⇓
unboxing_follows abstraction⇓ (in_abstractions u) =
    record { result = _; result_unboxed = in_abstractions u; evaluation = abstraction⇓ }
unboxing_follows (application⇓ d e f) (in_applications u w) =
    let x = follows_abstraction (unboxing_follows d u) in
    let y = unboxing_follows e w in
    followed_by (λ X z. application⇓ x.evaluation y.evaluation z)
    (unboxing_follows f (substitute_unboxed zero x.body_unboxed (also_unboxed y.result_unboxed none_unboxed)))
unboxing_follows (let⇓ d e) (in_lets u w) =
    let x = follows_pair (unboxing_follows d u) in
    followed_by (λ X z. let⇓ x.evaluation z)
    (unboxing_follows e
    (substitute_unboxed zero w
    (also_unboxed x.second_unboxed (also_unboxed x.first_unboxed none_unboxed))))
unboxing_follows (pair⇓ d e) (in_pairs u w) =
    let x = unboxing_follows d u in
    let y = unboxing_follows e w in
    record {
      result = pair x.result y.result;
      result_unboxed = in_pairs x.result_unboxed y.result_unboxed;
      evaluation = pair⇓ x.evaluation y.evaluation;
    }
unboxing_follows lift⇓ (in_lifts u) = record { result = _; result_unboxed = in_lifts u; evaluation = lift⇓ }
unboxing_follows (force⇓ d e) (in_forces u) =
    let x = follows_lift (unboxing_follows d u) in
    followed_by (λ X z. force⇓ x.evaluation z) (unboxing_follows e x.lifted_unboxed)
unboxing_follows (box⇓ {T = T} r d n e) (in_boxes u) =
    let x = follows_lift (unboxing_follows d u) in
    let y = unboxing_follows e (in_applications x.lifted_unboxed (unboxes_to_itself (tuple (tuple_from 0 T)))) in
    unchanged constant_stays
    (box⇓ r x.evaluation (sym (labels_stay x.lifted_unboxed) ∙ n) (stays_tuple r y))
unboxing_follows (apply_constant⇓ k d e h) (in_applies u w) =
    let x = stays_constant (unboxing_follows d u) in
    let y = stays_tuple k (unboxing_follows e w) in
    unchanged (unboxes_to_itself _) (apply_constant⇓ k x y h)
unboxing_follows (apply_constant⇓ k d e h) (box_gone u w) =
    let x = stays_constant (unboxing_follows d (in_boxes (in_lifts (in_abstractions u)))) in
    let y = stays_tuple k (unboxing_follows e w) in
    unchanged (unboxes_to_itself _) (spot_evaluates k x y h)
unboxing_follows (apply_gate⇓ k d g e) (in_applies u w) =
    let x = stays_gate (unboxing_follows d u) in
    let y = stays_tuple k (unboxing_follows e w) in
    unchanged (unboxes_to_itself _) (apply_gate⇓ k x g y)
unboxing_follows (apply_gate⇓ k d g e) (box_gone u w) = absurd (no_gate_from_box d)
