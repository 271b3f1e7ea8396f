-- A typed row of steps to the finish is an evaluation: what the next configuration comes to, this one comes to.
use Rattle.std.specs.Prelude.{ℕ, ◌≡◌, refl, List, [], ◌∷◌, T as Truth}
use Rattle.std.proofs.Common.{arith, sym, subst₂}
use Rattle.std.proofs.Math.Option.{none}
use Rattle.rules.specs.Types.{Wire, Ty, wires}
use Rattle.rules.specs.Terms.{Tuple, single, empty, both, tuple_from, Gate, boxed, Term, constant, lift, box, value, tuple}
use Rattle.rules.specs.Terms.{application, apply, term_labels}
use Rattle.rules.specs.Circuits.{Circuit, circuit, returned, gate_boxed, count}
use Rattle.rules.specs.Typing.{LabelContext, split_end, ◌∣◌⊢◌∶◌, by_label, by_unit, by_tuple, by_circ, by_apply}
use Rattle.rules.specs.Contexts.{EvaluationContext, hole, application_left, application_right, pair_left, pair_right}
use Rattle.rules.specs.Contexts.{let_first, force_of, box_of, apply_left, apply_right, plug}
use Rattle.rules.specs.Steps.{Frame, frame, Configuration, configuration, ◌⟶◌, β_reduction, let_step, force_step}
use Rattle.rules.specs.Steps.{apply_gate, apply_constant, box_entry, box_exit}
use Rattle.rules.specs.Sizes.{Row, no_step, one_more}
use Rattle.rules.specs.Demand3.{FrameHas, frame_has, ProgramHas, program_has}
use Rattle.rules.proofs.Laws.Substitution.{plug_has}
use Rattle.rules.proofs.Laws.Appending.{labels_once}
use Rattle.rules.proofs.Laws.Wires.{one_if_equal}
use Rattle.rules.proofs.Theorems.Deterministic.{tuple_value, same_box}
use Rattle.rules.proofs.Theorems.Safety.{top_has, frame_boxing, row_keeps, start_has}
use Rattle.boxing.specs.Spots.{Builds}
use Rattle.boxing.proofs.Laws.Evaluation.{OfForm, wire_form, unit_form, pair_form, ◌∣◌⇓◌∣◌, gate⇓, constant⇓, abstraction⇓}
use Rattle.boxing.proofs.Laws.Evaluation.{application⇓, let⇓, pair⇓, lift⇓, force⇓, box⇓, apply_constant⇓, apply_gate⇓}
use Rattle.boxing.proofs.Laws.Values.{value_evaluates, tuple_evaluates, one_evaluation, evaluates_as, comes_to}

-- WHAT TYPING SUPPLIES

-- A list in which nothing stands is empty.
no_labels : (xs : List ℕ) → ((ℓ : ℕ) → count ℓ xs ≡ 0) → xs ≡ []
no_labels [] h = refl
no_labels (x ∷ xs) h = absurd (omega (arith, h x, one_if_equal x x refl))

-- A term that is typed without labels holds none.
holds_no_label : {N : Term} {A : Ty} → [] ∣ (λ ℓ. none) ⊢ N ∶ A → term_labels N ≡ []
holds_no_label {N} d = no_labels (term_labels N) (labels_once d)

-- A label tuple of type T has T's form.
typed_form : (k : Tuple) {Q : LabelContext} {T : Ty} → [] ∣ Q ⊢ tuple k ∶ T → OfForm T k
typed_form (single ℓ) (by_label p o) = wire_form
typed_form empty (by_unit p n) = unit_form
typed_form (both t u) (by_tuple b split_end s d e) = pair_form (typed_form t d) (typed_form u e)

-- So does the argument of an apply of a circuit constant, of the type in the constant.
constant_form : {Q : LabelContext} {T U : Ty} {gs : List Gate} {r : Tuple} (k : Tuple)
    → [] ∣ Q ⊢ apply (constant (boxed T gs r)) (tuple k) ∶ U
    → OfForm T k
constant_form k (by_apply split_end s (by_circ p n w b h t) d) = typed_form k d

-- A STEP BACKWARDS IN A TERM

-- What R' comes to from C', R comes to from C.
abbrev pub ComesFrom : Circuit → Term → Circuit → Term → Type 0
ComesFrom C R C' R' = (D : Circuit) (W : Term) → C' ∣ R' ⇓ D ∣ W → C ∣ R ⇓ D ∣ W

-- A value to the left of the place has evaluated.
left_value : {C D : Circuit} {M W : Term} (C' : Circuit) → Truth (value M) → C ∣ M ⇓ D ∣ W → (C ≡ D) × (C' ∣ M ⇓ C' ∣ W)
left_value {M = M} C' v d =
    let s = one_evaluation (value_evaluates M v) d in (s.0, comes_to s.1 (value_evaluates M v))

-- What holds of the part in an evaluation context holds of the whole.
pub plug_comes : (E : EvaluationContext) {C C' : Circuit} {R R' : Term}
    → ComesFrom C R C' R'
    → ComesFrom C (plug E R) C' (plug E R')
plug_comes hole f D W d = f D W d
plug_comes (application_left E N) f D W (application⇓ d e g) = application⇓ (plug_comes E f _ _ d) e g
plug_comes (application_right M v E) {C} f D W (application⇓ d e g) =
    let s = left_value C v d in application⇓ s.1 (plug_comes E f _ _ (evaluates_as s.0 refl e)) g
plug_comes (pair_left E N) f D _ (pair⇓ d e) = pair⇓ (plug_comes E f _ _ d) e
plug_comes (pair_right M v E) {C} f D _ (pair⇓ d e) =
    let s = left_value C v d in pair⇓ s.1 (plug_comes E f _ _ (evaluates_as s.0 refl e))
plug_comes (let_first E N) f D W (let⇓ d e) = let⇓ (plug_comes E f _ _ d) e
plug_comes (force_of E) f D W (force⇓ d e) = force⇓ (plug_comes E f _ _ d) e
plug_comes (box_of T E) f D _ (box⇓ r d n e) = box⇓ r (plug_comes E f _ _ d) n e
plug_comes (apply_left E N) f _ _ (apply_constant⇓ k d e h) = apply_constant⇓ k (plug_comes E f _ _ d) e h
plug_comes (apply_left E N) f _ _ (apply_gate⇓ k d g e) = apply_gate⇓ k (plug_comes E f _ _ d) g e
plug_comes (apply_right M v E) {C} f _ _ (apply_constant⇓ k d e h) =
    let s = left_value C v d in apply_constant⇓ k s.1 (plug_comes E f _ _ (evaluates_as s.0 refl e)) h
plug_comes (apply_right M v E) {C} f _ _ (apply_gate⇓ k d g e) =
    let s = left_value C v d in apply_gate⇓ k s.1 g (plug_comes E f _ _ (evaluates_as s.0 refl e))

-- From a value nothing else comes than that value.
value_comes : {C C' : Circuit} {M W : Term} → Truth (value W) → C ∣ M ⇓ C' ∣ W → ComesFrom C M C' W
value_comes {C} {M = M} {W} v e D X d =
    let s = one_evaluation (value_evaluates W v) d in subst₂ (λ D X. C ∣ M ⇓ D ∣ X) s.0 s.1 e

-- A label tuple is a value.
tuple_comes : {C C' : Circuit} {M : Term} (k : Tuple) → C ∣ M ⇓ C' ∣ tuple k → ComesFrom C M C' (tuple k)
tuple_comes k = value_comes (tuple_value k)

-- A STEP BACKWARDS IN A CONFIGURATION

-- What frames come to: the innermost one evaluates to a label tuple, the constant of its circuit takes the box's place in the frame
-- below, and so on; the outermost one comes to D and W.
data FramesCome (D : Circuit) (W : Term) : Frame → List Frame → Type 0 where
  outermost_comes : {C : Circuit} {M : Term} → C ∣ M ⇓ D ∣ W → FramesCome D W (frame C M) []
  box_comes : {C C₁ : Circuit} {I : List Wire} {gs : List Gate} {M P : Term} {X : List Frame}
      (r : Tuple) (E : EvaluationContext) (T : Ty) (N : Term)
      → C ∣ M ⇓ circuit I gs ∣ tuple r
      → P ≡ plug E (box T (lift N))
      → FramesCome D W (frame C₁ (plug E (constant (boxed T gs r)))) X
      → FramesCome D W (frame C M) (frame C₁ P ∷ X)

-- The innermost frame is replaced by one that comes to the same.
top_comes : {C C' D : Circuit} {M M' W : Term} {X : List Frame}
    → ComesFrom C M C' M'
    → FramesCome D W (frame C' M') X
    → FramesCome D W (frame C M) X
top_comes f (outermost_comes d) = outermost_comes (f _ _ d)
top_comes f (box_comes r E T N d p rest) = box_comes r E T N (f _ _ d) p rest

-- The argument of an apply in the innermost frame has the form of the constant's type.
frame_form : (E : EvaluationContext) {C : Circuit} {T A : Ty} (gs : List Gate) (r k : Tuple)
    → FrameHas (frame C (plug E (apply (constant (boxed T gs r)) (tuple k)))) A
    → OfForm T k
frame_form E gs r k (frame_has s d) = constant_form k (plug_has E d).has

-- Box entry: the frame that it opened comes to a label tuple, so the box evaluates to the constant.
entry_comes : {C D : Circuit} {W : Term} {X : List Frame} (E : EvaluationContext) (T : Ty) (M : Term)
    → term_labels M ≡ []
    → FramesCome D W (frame (circuit (wires T) []) (application M (tuple (tuple_from 0 T)))) (frame C (plug E (box T (lift M))) ∷ X)
    → FramesCome D W (frame C (plug E (box T (lift M)))) X
entry_comes {C} {D} {W} {X} E T M n (box_comes {I = I} {gs = gs} r E' T' N d p rest) =
    let s = same_box E E' T T' M N p in
    let rest' : FramesCome D W (frame C (plug E (constant (boxed T gs r)))) X
    = subst₂ (λ E T. FramesCome D W (frame C (plug E (constant (boxed T gs r)))) X) (sym s.0) (sym s.1) rest in
    top_comes (plug_comes E (value_comes tt (box⇓ r lift⇓ n d))) rest'

-- What configurations come to.
module _ (D : Circuit) (W : Term) where
  -- The frames of a configuration; the circuits closed so far have no part in it.
  abbrev Comes : Configuration → Type 0
  Comes (configuration F X K) = FramesCome D W F X

  -- A step backwards. Of a box entry the frame opened is no frame of the evaluation any more: the box is evaluated in its place.
  step_comes : {A : Ty} {c d : Configuration} → c ⟶ d → ProgramHas A c → Comes d → Comes c
  step_comes (β_reduction E A M W' v) h f =
      top_comes (plug_comes E λ D X d. application⇓ abstraction⇓ (value_evaluates W' v) d) f
  step_comes (let_step E M W₁ W₂ v v') h f =
      top_comes (plug_comes E λ D X d. let⇓ (pair⇓ (value_evaluates W₁ v) (value_evaluates W₂ v')) d) f
  step_comes (force_step E M) h f = top_comes (plug_comes E λ D X d. force⇓ lift⇓ d) f
  step_comes (apply_gate {C = C} E n T U k g) h f =
      top_comes (plug_comes E (tuple_comes (returned C k (gate_boxed n T U)) (apply_gate⇓ k gate⇓ g (tuple_evaluates k)))) f
  step_comes (apply_constant {C = C} E (boxed T gs r) k) (program_has h _) f =
      let form = frame_form E gs r k (top_has h).1 in
      top_comes
      (plug_comes E
      (tuple_comes (returned C k (boxed T gs r)) (apply_constant⇓ k constant⇓ (tuple_evaluates k) form)))
      f
  step_comes (box_entry E T M) (program_has h _) f =
      let no_label = holds_no_label (frame_boxing E T M (top_has h).1).2.body_has in entry_comes E T M no_label f
  step_comes (box_exit r E T M) h f = box_comes r E T M (tuple_evaluates r) refl f

  -- Steps backwards, along a row.
  row_comes : {allowance : ℕ} {A : Ty} {c : Configuration} {n : ℕ} {d : Configuration}
      → Row allowance c n d
      → ProgramHas A c
      → Comes d
      → Comes c
  row_comes no_step h f = f
  row_comes (one_more r s fits) h f = row_comes r h (step_comes s (row_keeps r h) f)

-- One frame comes to what it evaluates to.
one_frame : {C D : Circuit} {M W : Term} → FramesCome D W (frame C M) [] → C ∣ M ⇓ D ∣ W
one_frame (outermost_comes d) = d

-- What a program builds, its term evaluates to.
pub builds_evaluates : {L : List Wire} {M : Term} {A : Ty} {C : Circuit} {W : Term}
    → Builds L M A C W
    → circuit L [] ∣ M ⇓ C ∣ W
builds_evaluates {L} {C = C} {W = W} b =
    one_frame
    (row_comes C W b.row (start_has L b.has_type) (outermost_comes (value_evaluates W b.at_finish)))
