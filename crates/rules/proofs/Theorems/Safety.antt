-- Preservation (000, theorem 2.17), progress (000, theorem 2.18) and demand 3, for stacked configurations.
use Rattle.std.specs.Prelude.{ℕ, suc, ◌≡◌, refl, ◌⊎◌, List, [], ◌∷◌, T as Truth}
use Rattle.std.proofs.Common.{arith, sym, ◌∙◌, subst, inl, inr}
use Rattle.std.proofs.Math.Path.{fun_ext}
use Rattle.std.proofs.Math.Option.{none, some}
use Rattle.rules.specs.Types.{Wire, Ty, ◌⊗◌, ◌⊸◌, !◌, Circ, is_wire_type, wires}
use Rattle.rules.specs.Gates.{◌to◌, nth, gate_type}
use Rattle.rules.specs.Terms.{Tuple, tuple_from, Gate, Boxed, boxed, Term, gate, constant, abstraction, application}
use Rattle.rules.specs.Terms.{pair, let_in, lift, force, box, apply, value, tuple, substitute}
use Rattle.rules.specs.Circuits.{Circuit, circuit, Sound, loose, appended, returned, gate_boxed}
use Rattle.rules.specs.Typing.{LabelContext, split_end, NoLabel, Bounded, ◌∣◌⊢◌∶◌, by_var, by_label, by_gate, by_circ}
use Rattle.rules.specs.Typing.{by_abs, by_app, by_tuple, by_let, by_lift, by_force, by_box, by_apply, parameters_end}
use Rattle.rules.specs.Typing.{by_unit}
use Rattle.rules.specs.Contexts.{EvaluationContext, hole, application_left, application_right, pair_left, pair_right}
use Rattle.rules.specs.Contexts.{let_first, force_of, box_of, apply_left, apply_right, plug}
use Rattle.rules.specs.Steps.{Frame, frame, Configuration, configuration, start, ◌⟶◌, β_reduction, let_step}
use Rattle.rules.specs.Steps.{force_step, apply_gate, apply_constant, box_entry, box_exit}
use Rattle.rules.specs.Sizes.{Fits, Row, no_step, one_more}
use Rattle.rules.specs.Demand3.{FrameHas, frame_has, FramesHave, outermost, opened, ClosedHave, none_closed}
use Rattle.rules.specs.Demand3.{one_closed, ProgramHas, program_has, Finished, finished, OpenSound, none_open}
use Rattle.rules.specs.Demand3.{one_open, ClosedSound, none_left, one_left, CircuitsSound, circuits_sound, AllGone}
use Rattle.rules.specs.Demand3.{all_gone, GoneToTuple, gone_to_tuple, Demand3}
use Rattle.rules.specs.Values.{both_values}
use Rattle.rules.proofs.Laws.Labels.{splits_none_left, splits_left_none}
use Rattle.rules.proofs.Laws.Substitution.{copyable_no_label, substitute_one, substitute_two, canonical_function}
use Rattle.rules.proofs.Laws.Substitution.{canonical_pair, canonical_reusable, canonical_circ, canonical_wires}
use Rattle.rules.proofs.Laws.Substitution.{circ_wire_types, Plugged, plug_has}
use Rattle.rules.proofs.Laws.Appending.{empty_sound, empty_loose, tuple_from_has, gone_once, tuple_gone_once, append_has}
use Rattle.rules.proofs.Laws.Appending.{gate_has}
use Rattle.rules.proofs.Theorems.Counting.{unique_types}
use Rattle.rules.proofs.Theorems.Deterministic.{deterministic, same_box, value_no_step}

-- The parts of a term at which a step happens.
pub data Redex : Term → Type 0 where
  at_application : (A : Ty) (M W : Term) → Truth (value W) → Redex (application (abstraction A M) W)
  at_let : (M W W' : Term) → Truth (value W) → Truth (value W') → Redex (let_in (pair W W') M)
  at_force : (M : Term) → Redex (force (lift M))
  at_gate : (n : ℕ) (T U : Ty) (k : Tuple) → gate_type n ≡ some (T to U) → Redex (apply (gate n) (tuple k))
  at_constant : (b : Boxed) (k : Tuple) → Redex (apply (constant b) (tuple k))
  at_box : (T : Ty) (M : Term) → Redex (box T (lift M))

pub record Reduces (M : Term) : Type 0 where
  pub context : EvaluationContext
  pub part : Term
  pub redex : Redex part
  pub here : M ≡ plug context part

abbrev Progress : Term → Type 0
Progress M = Truth (value M) ⊎ Reduces M

-- A part that goes on makes the whole go on.
inside : (M N : Term) (into : EvaluationContext → EvaluationContext) (around : Term → Term)
    → ((E : EvaluationContext) (R : Term) → around (plug E R) ≡ plug (into E) R)
    → N ≡ around M
    → Reduces M
    → Reduces N
inside M N into around fits here r =
    record {
      context = into r.context;
      part = r.part;
      redex = r.redex;
      here = subst (λ P. N ≡ P) (fits r.context r.part) (subst (λ P. N ≡ around P) r.here here);
    }

at_root : {M : Term} → Redex M → Reduces M
at_root {M} r = record { context = hole; part = M; redex = r; here = refl }

-- The redexes, from the forms that the values in them have.
application_redex : {Q : LabelContext} {M N : Term} {A B : Ty}
    → [] ∣ Q ⊢ M ∶ A ⊸ B
    → Truth (value M)
    → Truth (value N)
    → Redex (application M N)
application_redex {N = N} {A = A} d v w =
    let (M, p) = canonical_function v d in
    subst (λ P. Redex (application P N)) (sym p) (at_application A M N w)

let_redex : {Q : LabelContext} {M N : Term} {A B : Ty} → [] ∣ Q ⊢ M ∶ A ⊗ B → Truth (value M) → Redex (let_in M N)
let_redex {N = N} d v =
    let (W, W', p, w, w') = canonical_pair v d in
    subst (λ P. Redex (let_in P N)) (sym p) (at_let N W W' w w')

force_redex : {Q : LabelContext} {M : Term} {A : Ty} → [] ∣ Q ⊢ M ∶ ! A → Truth (value M) → Redex (force M)
force_redex d v = let (M, p) = canonical_reusable v d in subst (λ P. Redex (force P)) (sym p) (at_force M)

box_redex : {Q : LabelContext} {M : Term} {A : Ty} (T : Ty) → [] ∣ Q ⊢ M ∶ ! A → Truth (value M) → Redex (box T M)
box_redex T d v = let (M, p) = canonical_reusable v d in subst (λ P. Redex (box T P)) (sym p) (at_box T M)

gate_redex : {Q : LabelContext} (n : ℕ) (k : Tuple) {A : Ty} → [] ∣ Q ⊢ gate n ∶ A → Redex (apply (gate n) (tuple k))
gate_redex n k (by_gate {T = T} {U = U} p q g) = at_gate n T U k g

apply_redex : {Q R : LabelContext} {M N : Term} {T U : Ty}
    → [] ∣ Q ⊢ M ∶ Circ T U
    → [] ∣ R ⊢ N ∶ T
    → Truth (value M)
    → Truth (value N)
    → Redex (apply M N)
apply_redex {Q} {M = M} {N = N} {T = T} {U = U} d e v w =
    let (k, p) = canonical_wires (circ_wire_types v d) w e in
    subst (λ P. Redex (apply M P)) (sym p) (of k (canonical_circ v d))
  where
    of : (k : Tuple) → ((n : ℕ) × (M ≡ gate n)) ⊎ ((b : Boxed) × (M ≡ constant b)) → Redex (apply M (tuple k))
    of k (inl c) =
        subst (λ P. Redex (apply P (tuple k))) (sym c.1)
        (gate_redex c.0 k (subst (λ P. [] ∣ Q ⊢ P ∶ Circ T U) c.1 d))
    of k (inr c) = subst (λ P. Redex (apply P (tuple k))) (sym c.1) (at_constant c.0 k)

-- Progress for a term: it is a value, or its next redex stands in an evaluation context.
pub term_progress : {Q : LabelContext} {M : Term} {A : Ty} → [] ∣ Q ⊢ M ∶ A → Progress M
term_progress (by_var h q) = elim h [ ]
term_progress (by_label p o) = inl tt
term_progress (by_gate p q g) = inl tt
term_progress (by_unit p q) = inl tt
term_progress (by_circ p q t b s d) = inl tt
term_progress (by_abs b d) = inl tt
term_progress (by_app {M = M} {N = N} split_end s d e) = two (term_progress d) (term_progress e)
  where
    two : Progress M → Progress N → Progress (application M N)
    two (inr r) x = inr (inside M _ (λ E. application_left E N) (λ P. application P N) (λ E R. refl) refl r)
    two (inl v) (inr r) = inr (inside N _ (application_right M v) (application M) (λ E R. refl) refl r)
    two (inl v) (inl w) = inr (at_root (application_redex d v w))
term_progress (by_tuple {M = M} {N = N} b split_end s d e) = two (term_progress d) (term_progress e)
  where
    two : Progress M → Progress N → Progress (pair M N)
    two (inr r) x = inr (inside M _ (λ E. pair_left E N) (λ P. pair P N) (λ E R. refl) refl r)
    two (inl v) (inr r) = inr (inside N _ (pair_right M v) (pair M) (λ E R. refl) refl r)
    two (inl v) (inl w) = inl (both_values M N v w)
term_progress (by_let {M = M} {N = N} split_end s d e) = one (term_progress d)
  where
    one : Progress M → Progress (let_in M N)
    one (inr r) = inr (inside M _ (λ E. let_first E N) (λ P. let_in P N) (λ E R. refl) refl r)
    one (inl v) = inr (at_root (let_redex d v))
term_progress (by_lift b p q d) = inl tt
term_progress (by_force {M = M} d) = one (term_progress d)
  where
    one : Progress M → Progress (force M)
    one (inr r) = inr (inside M _ force_of force (λ E R. refl) refl r)
    one (inl v) = inr (at_root (force_redex d v))
term_progress (by_box {T = T} {M = M} t u d) = one (term_progress d)
  where
    one : Progress M → Progress (box T M)
    one (inr r) = inr (inside M _ (box_of T) (box T) (λ E R. refl) refl r)
    one (inl v) = inr (at_root (box_redex T d v))
term_progress (by_apply {M = M} {N = N} split_end s d e) = two (term_progress d) (term_progress e)
  where
    two : Progress M → Progress N → Progress (apply M N)
    two (inr r) x = inr (inside M _ (λ E. apply_left E N) (λ P. apply P N) (λ E R. refl) refl r)
    two (inl v) (inr r) = inr (inside N _ (apply_right M v) (apply M) (λ E R. refl) refl r)
    two (inl v) (inl w) = inr (at_root (apply_redex d e v w))

-- PRESERVATION, each step kind at its redex.

-- A redex and what takes its place have the same type under the same labels: so do the two whole terms.
refilled : (E : EvaluationContext) {Q : LabelContext} {A : Ty} (M N : Term)
    → ((R : LabelContext) (B : Ty) → [] ∣ R ⊢ M ∶ B → [] ∣ R ⊢ N ∶ B)
    → [] ∣ Q ⊢ plug E M ∶ A
    → [] ∣ Q ⊢ plug E N ∶ A
refilled E {Q} M N f d = let p = plug_has E d in p.refill N Q p.Q₁ p.shared (f p.Q₁ p.B p.has)

pub application_keeps : {Q : LabelContext} {A B : Ty} {M W : Term}
    → Truth (value W)
    → [] ∣ Q ⊢ application (abstraction A M) W ∶ B
    → [] ∣ Q ⊢ substitute (W ∷ []) M ∶ B
application_keeps v (by_app split_end s (by_abs b d) e) = substitute_one v s d e

pub let_keeps : {Q : LabelContext} {C : Ty} {M W W' : Term}
    → Truth (value W)
    → Truth (value W')
    → [] ∣ Q ⊢ let_in (pair W W') M ∶ C
    → [] ∣ Q ⊢ substitute (W' ∷ W ∷ []) M ∶ C
let_keeps v w (by_let split_end s (by_tuple b split_end t d e) f) = substitute_two v w s t d e f

pub force_keeps : {Q : LabelContext} {A : Ty} {M : Term} → [] ∣ Q ⊢ force (lift M) ∶ A → [] ∣ Q ⊢ M ∶ A
force_keeps (by_force (by_lift b p q d)) = d

-- A circuit value holds no label, so all labels of an apply are its argument's.
pub record Applying (Q : LabelContext) (F N : Term) (U : Ty) : Type 0 where
  pub T : Ty
  pub circuit_has : [] ∣ (λ ℓ. none) ⊢ F ∶ Circ T U
  pub argument_has : [] ∣ Q ⊢ N ∶ T

applying : {Q : LabelContext} {F N : Term} {U : Ty} → Truth (value F) → [] ∣ Q ⊢ apply F N ∶ U → Applying Q F N U
applying {Q} {F} {N} {U} v (by_apply {Q₁ = Q₁} {T = T} split_end s d e) =
    let n : NoLabel Q₁ = copyable_no_label v tt d in
    record {
      T = T;
      circuit_has = subst (λ R. [] ∣ R ⊢ F ∶ Circ T U) (fun_ext n) d;
      argument_has = subst (λ R. [] ∣ R ⊢ N ∶ T) (sym (splits_left_none n s)) e;
    }

-- Append keeps the type of the frame.
appended_has : (I : List Wire) (hs : List Gate) (E : EvaluationContext) {F : Term} (b : Boxed) (k : Tuple) {T A : Ty}
    → Sound I hs
    → (p : Plugged E (loose I hs) F A)
    → [] ∣ (λ ℓ. none) ⊢ constant b ∶ Circ T p.B
    → [] ∣ p.Q₁ ⊢ tuple k ∶ T
    → FrameHas (frame (appended (circuit I hs) k b) (plug E (tuple (returned (circuit I hs) k b)))) A
appended_has I hs E b k s p (by_circ {T = T} {gs = gs} {r = r} _ _ t _ c d) e =
    let a = append_has k r s p.shared e c d in
    frame_has a.0 (p.refill _ _ a.1.0 a.1.1 a.1.2)

constant_keeps : (I : List Wire) (hs : List Gate) (E : EvaluationContext) (b : Boxed) (k : Tuple) {A : Ty}
    → FrameHas (frame (circuit I hs) (plug E (apply (constant b) (tuple k)))) A
    → FrameHas (frame (appended (circuit I hs) k b) (plug E (tuple (returned (circuit I hs) k b)))) A
constant_keeps I hs E b k (frame_has s d) =
    let p = plug_has E d in
    let a = applying tt p.has in
    appended_has I hs E b k s p a.circuit_has a.argument_has

gate_circuit : {n : ℕ} {T U T' U' : Ty}
    → gate_type n ≡ some (T to U)
    → [] ∣ (λ ℓ. none) ⊢ gate n ∶ Circ T' U'
    → [] ∣ (λ ℓ. none) ⊢ constant (gate_boxed n T U) ∶ Circ T' U'
gate_circuit {n} {T} {U} {T'} {U'} g (by_gate _ _ h) =
    let t : T ≡ T' = cc in
    let u : U ≡ U' = cc in
    subst (λ X. [] ∣ (λ ℓ. none) ⊢ constant (gate_boxed n T U) ∶ Circ X U') t
    (subst (λ Y. [] ∣ (λ ℓ. none) ⊢ constant (gate_boxed n T U) ∶ Circ T Y) u (gate_has g))

gate_keeps : (I : List Wire) (hs : List Gate) (E : EvaluationContext) (n : ℕ) (T U : Ty) (k : Tuple) {A : Ty}
    → gate_type n ≡ some (T to U)
    → FrameHas (frame (circuit I hs) (plug E (apply (gate n) (tuple k)))) A
    → FrameHas
    (frame
    (appended (circuit I hs) k (gate_boxed n T U))
    (plug E (tuple (returned (circuit I hs) k (gate_boxed n T U)))))
    A
gate_keeps I hs E n T U k g (frame_has s d) =
    let p = plug_has E d in
    let a = applying tt p.has in
    appended_has I hs E (gate_boxed n T U) k s p (gate_circuit g a.circuit_has) a.argument_has

-- The innermost frame changes to one with the same inputs and the same type.
new_top : {A : Ty} {C : Circuit} {M : Term} {X : List Frame} (N : Term)
    → FramesHave A (frame C M) X
    → ((B : Ty) → FrameHas (frame C M) B → FrameHas (frame C N) B)
    → FramesHave A (frame C N) X
new_top N (outermost h) f = outermost (f _ h)
new_top N (opened E T U M h b here rest) f = opened E T U M (f U h) b here rest

new_gates : {A : Ty} {I : List Wire} {gs : List Gate} {M : Term} {X : List Frame} (hs : List Gate) (N : Term)
    → FramesHave A (frame (circuit I gs) M) X
    → ((B : Ty) → FrameHas (frame (circuit I gs) M) B → FrameHas (frame (circuit I hs) N) B)
    → FramesHave A (frame (circuit I hs) N) X
new_gates hs N (outermost h) f = outermost (f _ h)
new_gates hs N (opened E T U M h b here rest) f = opened E T U M (f U h) b here rest

-- The same circuit, another term.
new_term : {C : Circuit} {M : Term} (N : Term)
    → ((Q : LabelContext) (A : Ty) → [] ∣ Q ⊢ M ∶ A → [] ∣ Q ⊢ N ∶ A)
    → (A : Ty)
    → FrameHas (frame C M) A
    → FrameHas (frame C N) A
new_term N f A (frame_has s d) = frame_has s (f _ A d)

-- Box entry: what the box and its body have.
pub record Boxing (Q : LabelContext) (T : Ty) (M : Term) (A : Ty) : Type 0 where
  pub U : Ty
  pub is_circ : A ≡ Circ T U
  pub no_label : NoLabel Q
  pub input_wires_lem : Truth (is_wire_type T)
  pub output_wires_lem : Truth (is_wire_type U)
  pub input_bounded : Bounded T
  pub box_bounded : Bounded (Circ T U)
  pub box_has : [] ∣ (λ ℓ. none) ⊢ box T (lift M) ∶ Circ T U
  pub body_has : [] ∣ (λ ℓ. none) ⊢ M ∶ T ⊸ U

boxing : {Q : LabelContext} {T A : Ty} {M : Term} → [] ∣ Q ⊢ box T (lift M) ∶ A → Boxing Q T M A
boxing {T = T} {M = M} (by_box {U = U} t u (by_lift b p n d)) =
    let e : [] ∣ (λ ℓ. none) ⊢ M ∶ T ⊸ U = subst (λ R. [] ∣ R ⊢ M ∶ T ⊸ U) (fun_ext n) d in
    record {
      U = U;
      is_circ = refl;
      no_label = n;
      input_wires_lem = t;
      output_wires_lem = u;
      input_bounded = omega arith;
      box_bounded = omega arith;
      box_has = by_box t u (by_lift b p (λ ℓ. refl) e);
      body_has = e;
    }

pub top_has : {A : Ty} {F : Frame} {X : List Frame} → FramesHave A F X → (B : Ty) × FrameHas F B
top_has (outermost {F = F} h) = (_, h)
top_has (opened E T U M h b here rest) = (U, h)

pub frame_boxing : {C : Circuit} (E : EvaluationContext) (T : Ty) (M : Term) {A : Ty}
    → FrameHas (frame C (plug E (box T (lift M)))) A
    → (Q : LabelContext) × (B : Ty) × Boxing Q T M B
frame_boxing E T M (frame_has s d) = let p = plug_has E d in (p.Q₁, p.B, boxing p.has)

entry_has : {Q : LabelContext} {T A : Ty} {M : Term}
    → (x : Boxing Q T M A)
    → FrameHas (frame (circuit (wires T) []) (application M (tuple (tuple_from 0 T)))) x.U
entry_has {T = T} {M = M} x =
    frame_has (empty_sound (wires T))
    (subst (λ R. [] ∣ R ⊢ application M (tuple (tuple_from 0 T)) ∶ x.U) (sym (empty_loose (wires T)))
    (by_app split_end (splits_none_left (nth (wires T)) (λ ℓ. refl)) x.body_has
    (tuple_from_has T x.input_wires_lem x.input_bounded)))

-- Box exit: the constant has the type of the box.
exit_has : {gs : List Gate} (r : Tuple) {Q : LabelContext} {T A U : Ty} {M : Term}
    → (x : Boxing Q T M A)
    → [] ∣ (λ ℓ. none) ⊢ box T (lift M) ∶ Circ T U
    → FrameHas (frame (circuit (wires T) gs) (tuple r)) U
    → ([] ∣ (λ ℓ. none) ⊢ constant (boxed T gs r) ∶ Circ T x.U)
exit_has r {T = T} {U = U} x d (frame_has {gs = gs} s e) =
    let same : Circ T U ≡ Circ T x.U = unique_types d x.box_has in
    let u : U ≡ x.U = cc in
    by_circ parameters_end (λ ℓ. refl) x.input_wires_lem x.box_bounded s
    (subst (λ B. [] ∣ loose (wires T) gs ⊢ tuple r ∶ B) u e)

-- The frame below, with the constant in the box's place.
below_has : {C : Circuit} (E : EvaluationContext) (T : Ty) (M N : Term)
    → ((Q : LabelContext) (B : Ty) (x : Boxing Q T M B) → [] ∣ (λ ℓ. none) ⊢ N ∶ Circ T x.U)
    → (A : Ty)
    → FrameHas (frame C (plug E (box T (lift M)))) A
    → FrameHas (frame C (plug E N)) A
below_has E T M N f =
    new_term (plug E N) λ Q A d.
    refilled E (box T (lift M)) N
    (λ R B e.
    let x = boxing e in
    subst (λ P. [] ∣ P ⊢ N ∶ B) (sym (fun_ext x.no_label))
    (subst (λ D. [] ∣ (λ ℓ. none) ⊢ N ∶ D) (sym x.is_circ) (f R B x)))
    d

frames_exit : {A : Ty} {I : List Wire} {gs : List Gate} (r : Tuple) {C : Circuit} {X : List Frame}
    (E : EvaluationContext) (T : Ty) (M : Term) {P : Term}
    → P ≡ plug E (box T (lift M))
    → FramesHave A (frame (circuit I gs) (tuple r)) (frame C P ∷ X)
    → FramesHave A (frame C (plug E (constant (boxed T gs r)))) X × ((U : Ty) × ([] ∣ (λ ℓ. none) ⊢ constant (boxed T gs r) ∶ Circ T U))
frames_exit {A} {gs = gs} r {C} {X} E T M same (opened E' T' U M' h b here rest) =
    let q = same_box E E' T T' M M' (sym same ∙ here) in
    let h' : FrameHas (frame (circuit (wires T) gs) (tuple r)) U =
    subst (λ Z. FrameHas (frame (circuit (wires Z) gs) (tuple r)) U) (sym q.1) h in
    let b' : [] ∣ (λ ℓ. none) ⊢ box T (lift M) ∶ Circ T U =
    subst (λ Z. [] ∣ (λ ℓ. none) ⊢ box T (lift Z) ∶ Circ T U) (sym q.2)
    (subst (λ Z. [] ∣ (λ ℓ. none) ⊢ box Z (lift M') ∶ Circ Z U) (sym q.1) b) in
    let rest' : FramesHave A (frame C (plug E (box T (lift M)))) X = subst (λ Z. FramesHave A (frame C Z) X) same rest in (
      new_top (plug E (constant (boxed T gs r))) rest'
          (below_has E T M (constant (boxed T gs r)) λ Q B x. exit_has r x b' h'),
      ((boxing b').U, exit_has r (boxing b') b' h'),
    )

-- 000, theorem 2.17, for stacked configurations: a step keeps the program's type, in each open box.
pub preservation : {A : Ty} {c d : Configuration} → c ⟶ d → ProgramHas A c → ProgramHas A d
preservation (β_reduction E B M W v) (program_has h k) =
    program_has
    (new_top _ h
    (new_term _ λ Q A d. refilled E _ (substitute (W ∷ []) M) (λ R C e. application_keeps v e) d))
    k
preservation (let_step E M W W' v w) (program_has h k) =
    program_has
    (new_top _ h
    (new_term _ λ Q A d. refilled E _ (substitute (W' ∷ W ∷ []) M) (λ R C e. let_keeps v w e) d))
    k
preservation (force_step E M) (program_has h k) =
    program_has (new_top _ h (new_term _ λ Q A d. refilled E _ M (λ R C e. force_keeps e) d)) k
preservation (apply_gate {C = circuit I hs} E n T U t g) (program_has h k) =
    program_has (new_gates _ _ h λ B f. gate_keeps I hs E n T U t g f) k
preservation (apply_constant {C = circuit I hs} E (boxed T gs r) t) (program_has h k) =
    program_has (new_gates _ _ h λ B f. constant_keeps I hs E (boxed T gs r) t f) k
preservation (box_entry E T M) (program_has h k) =
    let top = top_has h in
    let (Q, B, x) = frame_boxing E T M top.1 in
    program_has (opened E T x.U M (entry_has x) x.box_has refl h) k
preservation (box_exit r E T M) (program_has h k) =
    let e = frames_exit r E T M refl h in
    program_has e.0 (one_closed T e.1.0 e.1.1 k)

-- A redex in the innermost frame gives a step.
redex_step : {C : Circuit} {X : List Frame} {K : List Boxed} (E : EvaluationContext) {R : Term}
    → Redex R
    → (d : Configuration) × (configuration (frame C (plug E R)) X K ⟶ d)
redex_step E (at_application A M W v) = (_, β_reduction E A M W v)
redex_step E (at_let M W W' v w) = (_, let_step E M W W' v w)
redex_step E (at_force M) = (_, force_step E M)
redex_step E (at_gate n T U k g) = (_, apply_gate E n T U k g)
redex_step E (at_constant b k) = (_, apply_constant E b k)
redex_step E (at_box T M) = (_, box_entry E T M)

reduces_step : {C : Circuit} {M : Term} {X : List Frame} {K : List Boxed}
    → Reduces M
    → (d : Configuration) × (configuration (frame C M) X K ⟶ d)
reduces_step {C} {M} {X} {K} r =
    subst (λ P. (d : Configuration) × (configuration (frame C P) X K ⟶ d)) (sym r.here) (redex_step r.context r.redex)

-- A finished inner frame gives a box exit.
value_exit : {C D : Circuit} {M P : Term} {X : List Frame} {K : List Boxed} (E : EvaluationContext) (T : Ty) (N : Term)
    → P ≡ plug E (box T (lift N))
    → (r : Tuple) × (M ≡ tuple r)
    → (d : Configuration) × (configuration (frame D M) (frame C P ∷ X) K ⟶ d)
value_exit {C} {D = circuit I gs} {M} {P} {X} {K} E T N here r =
    subst (λ Z. (d : Configuration) × (configuration (frame (circuit I gs) Z) (frame C P ∷ X) K ⟶ d)) (sym r.1)
    (subst
    (λ Z. (d : Configuration) × (configuration (frame (circuit I gs) (tuple r.0)) (frame C Z ∷ X) K ⟶ d))
    (sym here)
    (_, box_exit r.0 E T N))

box_has : {Q : LabelContext} {S T U : Ty} {M : Term} → [] ∣ Q ⊢ box S M ∶ Circ T U → Truth (is_wire_type U)
box_has (by_box t u d) = u

box_output : {Q : LabelContext} {T U : Ty} {M : Term} → [] ∣ Q ⊢ box T M ∶ Circ T U → Truth (is_wire_type U)
box_output = box_has

-- 000, theorem 2.18, for stacked configurations: a typed program is finished or has a step.
pub progress : {A : Ty} {c : Configuration} → ProgramHas A c → Finished c ⊎ ((d : Configuration) × (c ⟶ d))
progress (program_has {K = K} (outermost (frame_has {I = I} {gs = gs} {M = M} s d)) k) = of (term_progress d)
  where
    of : Progress M
        → Finished (configuration (frame (circuit I gs) M) [] K)
        ⊎ ((d : Configuration) × (configuration (frame (circuit I gs) M) [] K ⟶ d))
    of (inl v) = inl (finished v)
    of (inr r) = inr (reduces_step r)
progress (program_has {K = K} (opened {gs = gs} {N = N} {P = P} {C = C} {X = X} E T U M (frame_has s d) b here rest) k) =
    inr (of (term_progress d))
  where
    of : Progress N → (d : Configuration) × (configuration (frame (circuit (wires T) gs) N) (frame C P ∷ X) K ⟶ d)
    of (inl v) = value_exit E T M here (canonical_wires (box_output b) v d)
    of (inr r) = reduces_step r

-- The program at the start has its type.
pub start_has : (L : List Wire) {M : Term} {A : Ty} → [] ∣ nth L ⊢ M ∶ A → ProgramHas A (start L M)
start_has L {M} {A} d =
    program_has
    (outermost (frame_has (empty_sound L) (subst (λ Q. [] ∣ Q ⊢ M ∶ A) (sym (empty_loose L)) d)))
    none_closed

-- The type is kept along a row of any length.
pub row_keeps : {allowance : ℕ} {A : Ty} {c : Configuration} {n : ℕ} {d : Configuration} → Row allowance c n d → ProgramHas A c → ProgramHas A d
row_keeps no_step h = h
row_keeps (one_more r s f) h = preservation s (row_keeps r h)

-- Rows of one length from one start end alike.
pub row_unique : {allowance : ℕ} {c : Configuration} {n : ℕ} {d e : Configuration} → Row allowance c n d → Row allowance c n e → d ≡ e
row_unique no_step no_step = refl
row_unique (one_more r s f) (one_more {e = e} r' s' f') =
    deterministic s (subst (λ x. x ⟶ e) (sym (row_unique r r')) s')

-- The circuits of a typed program are sound.
frame_sound : {F : Frame} {A : Ty} {X : List Frame} → FrameHas F A → OpenSound X → OpenSound (F ∷ X)
frame_sound (frame_has s d) o = one_open s o

frames_sound : {A : Ty} {F : Frame} {X : List Frame} → FramesHave A F X → OpenSound (F ∷ X)
frames_sound (outermost h) = frame_sound h none_open
frames_sound (opened E T U M h b here rest) = frame_sound h (frames_sound rest)

constant_sound : {b : Boxed} {T U : Ty} {Q : LabelContext} {K : List Boxed}
    → [] ∣ Q ⊢ constant b ∶ Circ T U
    → ClosedSound K
    → ClosedSound (b ∷ K)
constant_sound (by_circ {T = T} {gs = gs} {r = r} p q t b s d) k = one_left s (tuple_gone_once (wires T) gs r s.taken_once d) k

closed_sound : {K : List Boxed} → ClosedHave K → ClosedSound K
closed_sound none_closed = none_left
closed_sound (one_closed T U d k) = constant_sound d (closed_sound k)

program_sound : {A : Ty} {c : Configuration} → ProgramHas A c → CircuitsSound c
program_sound (program_has h k) = circuits_sound (frames_sound h) (closed_sound k)

-- At the finish each wire has gone exactly once.
program_gone : {A : Ty} {c : Configuration} → Finished c → ProgramHas A c → AllGone c
program_gone (finished v) (program_has (outermost (frame_has {I = I} {gs = gs} s d)) k) =
    all_gone (gone_once I gs s.taken_once d)

-- If the program has a wire type, to a gate or to the label tuple that it finished as.
program_gone_to_tuple : {A : Ty} {c : Configuration}
    → Truth (is_wire_type A)
    → Finished c
    → ProgramHas A c
    → GoneToTuple c
program_gone_to_tuple {A} t (finished v) (program_has (outermost (frame_has {I = I} {gs = gs} {M = M} s d)) k) =
    let (r, p) = canonical_wires t v d in
    gone_to_tuple r p (tuple_gone_once I gs r s.taken_once (subst (λ N. [] ∣ loose I gs ⊢ N ∶ A) p d))

-- Where the program is finished there is no step.
pub finished_stops : {c d : Configuration} → Finished c → c ⟶ d → ⊥
finished_stops (finished v) s = value_no_step v s

-- DEMAND 3, for every configuration that has a type and every row of steps that fit from there.
pub demand3_from : {allowance : ℕ} {c₀ : Configuration} {A : Ty} {n : ℕ} {c : Configuration}
    → ProgramHas A c₀
    → Row allowance c₀ n c
    → Demand3 allowance c₀ A n c
demand3_from {allowance} {c₀} {A} {n} {c} typed r =
    let has : ProgramHas A c = row_keeps r typed in
    record {
      type_kept = has;
      goes_on = onward (progress has);
      circuits = program_sound has;
      ends = λ e s misfit f r'. longer s misfit r';
      gone = λ f. program_gone f has;
      gone_to_outputs = λ t f. program_gone_to_tuple t f has;
    }
  where
    onward : Finished c ⊎ ((e : Configuration) × (c ⟶ e))
        → (Finished c × ((e : Configuration) → c ⟶ e → ⊥))
        ⊎ ((Finished c → ⊥) × ((e : Configuration) × (c ⟶ e) × ((f : Configuration) → c ⟶ f → f ≡ e)))
    onward (inl f) = inl (f, λ e s. finished_stops f s)
    onward (inr s) = inr (λ f. finished_stops f s.1, (s.0, s.1, λ f t. deterministic t s.1))

    longer : {e f : Configuration}
        → c ⟶ e
        → (Fits allowance e → ⊥)
        → Row allowance c₀ (suc n) f
        → ⊥
    longer {e} {f} s misfit (one_more r' t fits) =
        let u : c ⟶ f = subst (λ x. x ⟶ f) (row_unique r' r) t in
        misfit (subst (λ x. Fits allowance x) (deterministic u s) fits)

-- So for every program that the rules type with exactly its inputs as labels, from its start.
pub demand3 : {allowance : ℕ} {L : List Wire} {M : Term} {A : Ty} {n : ℕ} {c : Configuration}
    → [] ∣ nth L ⊢ M ∶ A
    → Row allowance (start L M) n c
    → Demand3 allowance (start L M) A n c
demand3 {L = L} d r = demand3_from (start_has L d) r
