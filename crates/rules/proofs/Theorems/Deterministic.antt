-- The step function gives exactly the steps of the rules; so a configuration has at most one step.
use Rattle.std.specs.Prelude.{ℕ, ◌≡◌, refl, ◌&&◌, List, [], ◌∷◌, T as Truth}
use Rattle.std.proofs.Common.{sym, ◌∙◌, ap, subst}
use Rattle.std.proofs.Math.Option.{Option, none, some, some-injective, none-ne-some}
use Rattle.std.proofs.Math.Dec.{T_prop}
use Rattle.rules.specs.Types.{Wire, Ty}
use Rattle.rules.specs.Gates.{GateType, ◌to◌, gate_type}
use Rattle.rules.specs.Terms.{Tuple, single, both, Gate, Boxed, Term, variable, label, gate, constant, abstraction}
use Rattle.rules.specs.Terms.{application, pair, let_in, lift, force, box, apply, value, tuple, unit_value, empty}
use Rattle.rules.specs.Circuits.{Circuit, circuit}
use Rattle.rules.specs.Contexts.{EvaluationContext, hole, application_left, application_right, pair_left, pair_right}
use Rattle.rules.specs.Contexts.{let_first, force_of, box_of, apply_left, apply_right, plug}
use Rattle.rules.specs.Steps.{Frame, frame, Configuration, configuration, ◌⟶◌, β_reduction, let_step, force_step}
use Rattle.rules.specs.Steps.{apply_gate, apply_constant, box_entry, box_exit}
use Rattle.rules.specs.Next.{Found, found_value, reducible, free, within, find, joined, tuple_of, View, abstraction_view}
use Rattle.rules.specs.Next.{pair_view, lift_view, gate_view, constant_view, other_view, view, step_application}
use Rattle.rules.specs.Next.{step_let, step_force, step_box, append, append_gate, step_apply, step_redex, close_box}
use Rattle.rules.specs.Next.{close_redex, close_found, exit, step_found, next}
use Rattle.rules.specs.Values.{both_values}
use Rattle.rules.proofs.Laws.Booleans.{and_left, and_right}

-- A proto-redex (000, definition 2.16): P ::= V W | let ⟨x, y⟩ = V in N | force V | box_T V | apply(V, W).
pub data Proto : Term → Type 0 where
  proto_application : {M N : Term} → Truth (value M) → Truth (value N) → Proto (application M N)
  proto_let : {M N : Term} → Truth (value M) → Proto (let_in M N)
  proto_force : {M : Term} → Truth (value M) → Proto (force M)
  proto_box : {T : Ty} {M : Term} → Truth (value M) → Proto (box T M)
  proto_apply : {M N : Term} → Truth (value M) → Truth (value N) → Proto (apply M N)

-- The parts of a pair that is a value are values.
pub first_value : (M N : Term) → Truth (value (pair M N)) → Truth (value M)
first_value M N v = and_left (value M) (value N) v

pub second_value : (M N : Term) → Truth (value (pair M N)) → Truth (value N)
second_value M N v = and_right (value M) (value N) v

-- In a value the step function finds nothing to reduce.
pub find_value : (W : Term) (v : Truth (value W)) → find W ≡ found_value v
find_value (variable n) v = absurd v
find_value (label ℓ) v = refl
find_value (gate n) v = refl
find_value unit_value v = refl
find_value (constant b) v = refl
find_value (abstraction A M) v = refl
find_value (application M N) v = absurd v
find_value (pair M N) v =
    rw (find_value M (first_value M N v), find_value N (second_value M N v))
    (ap found_value (T_prop (value M && value N) _ v))
find_value (let_in M N) v = absurd v
find_value (lift M) v = refl
find_value (force M) v = absurd v
find_value (box T M) v = absurd v
find_value (apply M N) v = absurd v

find_proto : (R : Term) → Proto R → find R ≡ reducible hole R
find_proto (application M N) (proto_application v w) = rw (find_value M v, find_value N w)
find_proto (let_in M N) (proto_let v) = rw (find_value M v)
find_proto (force M) (proto_force v) = rw (find_value M v)
find_proto (box T M) (proto_box v) = rw (find_value M v)
find_proto (apply M N) (proto_apply v w) = rw (find_value M v, find_value N w)
find_proto (variable _) p = elim p [ ]
find_proto (label _) p = elim p [ ]
find_proto (gate _) p = elim p [ ]
find_proto unit_value p = elim p [ ]
find_proto (constant _) p = elim p [ ]
find_proto (abstraction _ _) p = elim p [ ]
find_proto (pair _ _) p = elim p [ ]
find_proto (lift _) p = elim p [ ]

-- A proto-redex in an evaluation context is what the step function finds there.
pub find_plug : (E : EvaluationContext) (R : Term) → Proto R → find (plug E R) ≡ reducible E R
find_plug hole R p = find_proto R p
find_plug (application_left E N) R p = rw (find_plug E R p)
find_plug (application_right W v E) R p = rw (find_value W v, find_plug E R p)
find_plug (pair_left E N) R p = rw (find_plug E R p)
find_plug (pair_right W v E) R p = rw (find_value W v, find_plug E R p)
find_plug (let_first E N) R p = rw (find_plug E R p)
find_plug (force_of E) R p = rw (find_plug E R p)
find_plug (box_of T E) R p = rw (find_plug E R p)
find_plug (apply_left E N) R p = rw (find_plug E R p)
find_plug (apply_right W v E) R p = rw (find_value W v, find_plug E R p)

-- What the step function should find: a proto-redex in an evaluation context that makes up the term.
abbrev Finds : (M : Term) → Found M → Type 0
Finds M (found_value v) = Unit {0}
Finds M (reducible E R) = Proto R × (M ≡ plug E R)
Finds M free = Unit {0}

within_finds : {M N : Term} (inside : EvaluationContext → EvaluationContext) (f : Found M)
    (then : Truth (value M) → Found N)
    → ((E : EvaluationContext) (R : Term) → M ≡ plug E R → N ≡ plug (inside E) R)
    → Finds M f
    → ((v : Truth (value M)) → Finds N (then v))
    → Finds N (within inside f then)
within_finds inside (found_value v) then h m n = n v
within_finds inside (reducible E R) then h m n = (m.0, h E R m.1)
within_finds inside free then h m n = tt

find_finds : (M : Term) → Finds M (find M)
find_finds (variable n) = tt
find_finds (label ℓ) = tt
find_finds (gate n) = tt
find_finds unit_value = tt
find_finds (constant b) = tt
find_finds (abstraction A M) = tt
find_finds (application M N) =
    within_finds _ (find M) _ (λ E R. ap (λ L. application L N)) (find_finds M) λ v.
    within_finds _ (find N) _ (λ E R. ap (application M)) (find_finds N) λ w. (proto_application v w, refl)
find_finds (pair M N) =
    within_finds _ (find M) _ (λ E R. ap (λ L. pair L N)) (find_finds M) λ v.
    within_finds _ (find N) _ (λ E R. ap (pair M)) (find_finds N) λ w. tt
find_finds (let_in M N) =
    within_finds _ (find M) _ (λ E R. ap (λ L. let_in L N)) (find_finds M) λ v. (proto_let v, refl)
find_finds (lift M) = tt
find_finds (force M) = within_finds _ (find M) _ (λ E R. ap force) (find_finds M) λ v. (proto_force v, refl)
find_finds (box T M) = within_finds _ (find M) _ (λ E R. ap (box T)) (find_finds M) λ v. (proto_box v, refl)
find_finds (apply M N) =
    within_finds _ (find M) _ (λ E R. ap (λ L. apply L N)) (find_finds M) λ v.
    within_finds _ (find N) _ (λ E R. ap (apply M)) (find_finds N) λ w. (proto_apply v w, refl)

-- What the step function finds to reduce, in the evaluation context found, makes up the term.
pub find_sound : (M : Term) (E : EvaluationContext) (R : Term) → find M ≡ reducible E R → M ≡ plug E R
find_sound M E R e = (subst (Finds M) e (find_finds M)).1

-- What the step function finds to reduce is a proto-redex: its evaluated parts are values.
pub find_is_proto : (M : Term) (E : EvaluationContext) (R : Term) → find M ≡ reducible E R → Proto R
find_is_proto M E R e = (subst (Finds M) e (find_finds M)).0

-- A label tuple is a value.
pub tuple_value : (k : Tuple) → Truth (value (tuple k))
tuple_value (single ℓ) = tt
tuple_value empty = tt
tuple_value (both t u) = both_values (tuple t) (tuple u) (tuple_value t) (tuple_value u)

-- The step function reads a label tuple as itself.
pub tuple_of_tuple : (k : Tuple) → tuple_of (tuple k) ≡ some k
tuple_of_tuple (single ℓ) = refl
tuple_of_tuple empty = refl
tuple_of_tuple (both t u) = rw (tuple_of_tuple t, tuple_of_tuple u)

abbrev Reads : Term → Option Tuple → Type 0
Reads M none = Unit {0}
Reads M (some k) = M ≡ tuple k

joined_reads : (M N : Term) (t u : Option Tuple) → Reads M t → Reads N u → Reads (pair M N) (joined t u)
joined_reads M N (some t) (some u) p q = rw (p, q)
joined_reads M N (some t) none p q = tt
joined_reads M N none u p q = tt

tuple_of_reads : (M : Term) → Reads M (tuple_of M)
tuple_of_reads (variable n) = tt
tuple_of_reads (label ℓ) = refl
tuple_of_reads (gate n) = tt
tuple_of_reads unit_value = refl
tuple_of_reads (constant b) = tt
tuple_of_reads (abstraction A M) = tt
tuple_of_reads (application M N) = tt
tuple_of_reads (pair M N) = joined_reads M N (tuple_of M) (tuple_of N) (tuple_of_reads M) (tuple_of_reads N)
tuple_of_reads (let_in M N) = tt
tuple_of_reads (lift M) = tt
tuple_of_reads (force M) = tt
tuple_of_reads (box T M) = tt
tuple_of_reads (apply M N) = tt

-- What the step function reads as a label tuple is that label tuple.
pub tuple_of_sound : (M : Term) (k : Tuple) → tuple_of M ≡ some k → M ≡ tuple k
tuple_of_sound M k e = subst (Reads M) e (tuple_of_reads M)

-- Every step by the rules is the one that the step function gives.
pub step→next : {c d : Configuration} → c ⟶ d → next c ≡ some d
step→next (β_reduction E A M W w) = rw (find_plug E (application (abstraction A M) W) (proto_application tt w))
step→next (let_step E M W W' w w') =
    rw (find_plug E (let_in (pair W W') M) (proto_let (both_values W W' w w')))
step→next (force_step E M) = rw (find_plug E (force (lift M)) (proto_force tt))
step→next (apply_gate E n T U k g) =
    rw (find_plug E (apply (gate n) (tuple k)) (proto_apply tt (tuple_value k)), g, tuple_of_tuple k)
step→next (apply_constant E b k) =
    rw (find_plug E (apply (constant b) (tuple k)) (proto_apply tt (tuple_value k)), tuple_of_tuple k)
step→next (box_entry E T M) = rw (find_plug E (box T (lift M)) (proto_box tt))
step→next (box_exit r E T M) =
    rw (find_value (tuple r) (tuple_value r), tuple_of_tuple r, find_plug E (box T (lift M)) (proto_box tt))

no_step : {A : Type 0} (d : Configuration) → none ≡ some d → A
no_step d e = absurd (none-ne-some d e)

step_to_lem : {c : Configuration} (e d : Configuration) → c ⟶ e → some e ≡ some d → c ⟶ d
step_to_lem {c} e d s p = subst (λ x. c ⟶ x) (some-injective e d p) s

-- What the step function gives at a proto-redex of the innermost frame is a step by the rules, form by form.
module _ (C : Circuit) (E : EvaluationContext) (X : List Frame) (K : List Boxed) (d : Configuration) where
  abbrev StepAt : Term → Type 0
  StepAt R = configuration (frame C (plug E R)) X K ⟶ d

  application_step : {M : Term} (m : View M) (N : Term)
      → Truth (value N)
      → step_application C E X K m N ≡ some d
      → StepAt (application M N)
  application_step (abstraction_view A M) N w e = step_to_lem _ d (β_reduction E A M N w) e
  application_step (pair_view M M') N w e = no_step d e
  application_step (lift_view M) N w e = no_step d e
  application_step (gate_view n) N w e = no_step d e
  application_step (constant_view b) N w e = no_step d e
  application_step (other_view M) N w e = no_step d e

  let_in_step : {M : Term} (m : View M) (N : Term)
      → Truth (value M)
      → step_let C E X K m N ≡ some d
      → StepAt (let_in M N)
  let_in_step (abstraction_view A M) N v e = no_step d e
  let_in_step (pair_view M M') N v e =
      step_to_lem _ d (let_step E N M M' (first_value M M' v) (second_value M M' v)) e
  let_in_step (lift_view M) N v e = no_step d e
  let_in_step (gate_view n) N v e = no_step d e
  let_in_step (constant_view b) N v e = no_step d e
  let_in_step (other_view M) N v e = no_step d e

  forced_step : {M : Term} (m : View M) → step_force C E X K m ≡ some d → StepAt (force M)
  forced_step (abstraction_view A M) e = no_step d e
  forced_step (pair_view M M') e = no_step d e
  forced_step (lift_view M) e = step_to_lem _ d (force_step E M) e
  forced_step (gate_view n) e = no_step d e
  forced_step (constant_view b) e = no_step d e
  forced_step (other_view M) e = no_step d e

  box_step : (T : Ty) {M : Term} (m : View M) → step_box C E X K T m ≡ some d → StepAt (box T M)
  box_step T (abstraction_view A M) e = no_step d e
  box_step T (pair_view M M') e = no_step d e
  box_step T (lift_view M) e = step_to_lem _ d (box_entry E T M) e
  box_step T (gate_view n) e = no_step d e
  box_step T (constant_view b) e = no_step d e
  box_step T (other_view M) e = no_step d e

  gate_step : (n : ℕ) (N : Term) (g : Option GateType) (k : Option Tuple)
      → gate_type n ≡ g
      → Reads N k
      → append_gate C E X K n g k ≡ some d
      → StepAt (apply (gate n) N)
  gate_step n N none k t r e = no_step d e
  gate_step n N (some (T to U)) none t r e = no_step d e
  gate_step n N (some (T to U)) (some k) t r e = rw r (step_to_lem _ d (apply_gate E n T U k t) e)

  constant_step : (b : Boxed) (N : Term) (k : Option Tuple)
      → Reads N k
      → append C E X K b k ≡ some d
      → StepAt (apply (constant b) N)
  constant_step b N none r e = no_step d e
  constant_step b N (some k) r e = rw r (step_to_lem _ d (apply_constant E b k) e)

  apply_step : {M : Term} (m : View M) (N : Term) → step_apply C E X K m (tuple_of N) ≡ some d → StepAt (apply M N)
  apply_step (abstraction_view A M) N e = no_step d e
  apply_step (pair_view M M') N e = no_step d e
  apply_step (lift_view M) N e = no_step d e
  apply_step (gate_view n) N e = gate_step n N (gate_type n) (tuple_of N) refl (tuple_of_reads N) e
  apply_step (constant_view b) N e = constant_step b N (tuple_of N) (tuple_of_reads N) e
  apply_step (other_view M) N e = no_step d e

  proto_step : {R : Term} → Proto R → step_redex C E X K R ≡ some d → StepAt R
  proto_step (proto_application {M} {N} v w) e = application_step (view M) N w e
  proto_step (proto_let {M} {N} v) e = let_in_step (view M) N v e
  proto_step (proto_force {M} v) e = forced_step (view M) e
  proto_step (proto_box {T} {M} v) e = box_step T (view M) e
  proto_step (proto_apply {M} {N} v w) e = apply_step (view M) N e

-- The same for box exit: the proto-redex stands in the frame below.
module _ (I : List Wire) (gs : List Gate) (r : Tuple) (C : Circuit) (X : List Frame) (K : List Boxed)
    (d : Configuration) where
  abbrev ExitTo : Term → Type 0
  ExitTo N = configuration (frame (circuit I gs) (tuple r)) (frame C N ∷ X) K ⟶ d

  box_exits : (E : EvaluationContext) (T : Ty) {M : Term} (m : View M)
      → close_box gs r C X K E T m ≡ some d
      → ExitTo (plug E (box T M))
  box_exits E T (abstraction_view A M) e = no_step d e
  box_exits E T (pair_view M M') e = no_step d e
  box_exits E T (lift_view M) e = step_to_lem _ d (box_exit r E T M) e
  box_exits E T (gate_view n) e = no_step d e
  box_exits E T (constant_view b) e = no_step d e
  box_exits E T (other_view M) e = no_step d e

  proto_exits : (E : EvaluationContext) {R : Term} → Proto R → close_redex gs r C X K E R ≡ some d → ExitTo (plug E R)
  proto_exits E (proto_application v w) e = no_step d e
  proto_exits E (proto_let v) e = no_step d e
  proto_exits E (proto_force v) e = no_step d e
  proto_exits E (proto_box {T} {M} v) e = box_exits E T (view M) e
  proto_exits E (proto_apply v w) e = no_step d e

  found_exits : (N : Term) (f : Found N) → Finds N f → close_found gs r C X K f ≡ some d → ExitTo N
  found_exits N (found_value v) h e = no_step d e
  found_exits N (reducible E R) h e = rw h.1 (proto_exits E h.0 e)
  found_exits N free h e = no_step d e

exit_step : (C : Circuit) (M : Term) (k : Option Tuple) (X : List Frame) (K : List Boxed) (d : Configuration)
    → Reads M k
    → exit C k X K ≡ some d
    → configuration (frame C M) X K ⟶ d
exit_step C M none X K d p e = no_step d e
exit_step C M (some r) [] K d p e = no_step d e
exit_step (circuit I gs) M (some r) (frame C N ∷ X) K d p e =
    rw p (found_exits I gs r C X K d N (find N) (find_finds N) e)

found_step : (C : Circuit) (M : Term) (X : List Frame) (K : List Boxed) (d : Configuration) (f : Found M)
    → Finds M f
    → step_found C X K f ≡ some d
    → configuration (frame C M) X K ⟶ d
found_step C M X K d (found_value v) h e = exit_step C M (tuple_of M) X K d (tuple_of_reads M) e
found_step C M X K d (reducible E R) h e = rw h.1 (proto_step C E X K d h.0 e)
found_step C M X K d free h e = no_step d e

-- What the step function gives is a step by the rules.
pub next→step : (c d : Configuration) → next c ≡ some d → c ⟶ d
next→step (configuration (frame C M) X K) d e = found_step C M X K d (find M) (find_finds M) e

-- A configuration has at most one step (000, proposition 2.6, here for the stacked semantics).
pub deterministic : {c d e : Configuration} → c ⟶ d → c ⟶ e → d ≡ e
deterministic {d} {e} s t = some-injective d e (sym (step→next s) ∙ step→next t)

abbrev found_context : {M : Term} → Found M → EvaluationContext
found_context (found_value v) = hole
found_context (reducible E R) = E
found_context free = hole

abbrev found_term : {M : Term} → Found M → Term
found_term {M} (found_value v) = M
found_term (reducible E R) = R
found_term {M} free = M

-- 000, lemma 2.8 and proposition 2.10: a term is a proto-redex in an evaluation context in at most one way.
pub same_proto : (E E' : EvaluationContext) (R R' : Term)
    → Proto R
    → Proto R'
    → plug E R ≡ plug E' R'
    → (E ≡ E') × (R ≡ R')
same_proto E E' R R' p p' e = (
  sym (ap found_context (find_plug E R p)) ∙ ap (λ M. found_context (find M)) e ∙ ap found_context (find_plug E' R' p'),
  sym (ap found_term (find_plug E R p)) ∙ ap (λ M. found_term (find M)) e ∙ ap found_term (find_plug E' R' p'),
)

-- A term is a box of a lift in an evaluation context in at most one way.
pub same_box : (E E' : EvaluationContext) (T T' : Ty) (M M' : Term)
    → plug E (box T (lift M)) ≡ plug E' (box T' (lift M'))
    → (E ≡ E') × (T ≡ T') × (M ≡ M')
same_box E E' T T' M M' e =
    let s = same_proto E E' (box T (lift M)) (box T' (lift M')) (proto_box tt) (proto_box tt) e in
    (s.0, cc s.1, cc s.1)

pub no_exit : (C : Circuit) (k : Option Tuple) (K : List Boxed) → exit C k [] K ≡ none
no_exit C none K = refl
no_exit C (some r) K = refl

-- No rule applies where the program is finished. 01: "Finished: one frame, its term a value."
pub value_no_step : {C : Circuit} {M : Term} {K : List Boxed} {d : Configuration}
    → Truth (value M)
    → configuration (frame C M) [] K ⟶ d
    → ⊥
value_no_step {C} {M} {K} {d} v s =
    none-ne-some d
    (sym (ap (step_found C [] K) (find_value M v) ∙ no_exit C (tuple_of M) K) ∙ step→next s)
