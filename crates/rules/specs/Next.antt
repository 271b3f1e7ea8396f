-- The step function: the next configuration, if there is one. It finds the redex from the root.
use Rattle.std.specs.Prelude.{T as Truth, List, [], ◌∷◌, ℕ}
use Rattle.std.proofs.Math.Option.{Option, none, some}
use Rattle.rules.specs.Types.{Ty, wires}
use Rattle.rules.specs.Gates.{GateType, ◌to◌, gate_type}
use Rattle.rules.specs.Terms.{Tuple, single, both, tuple_from, Gate, Boxed, boxed, Term, variable, label, gate}
use Rattle.rules.specs.Terms.{constant, abstraction, application, pair, let_in, lift, force, box, apply, value, tuple}
use Rattle.rules.specs.Terms.{substitute, unit_value, empty}
use Rattle.rules.specs.Circuits.{Circuit, circuit, appended, returned, gate_boxed}
use Rattle.rules.specs.Contexts.{EvaluationContext, hole, application_left, application_right, pair_left, pair_right}
use Rattle.rules.specs.Contexts.{let_first, force_of, box_of, apply_left, apply_right, plug}
use Rattle.rules.specs.Steps.{Frame, frame, Configuration, configuration}
use Rattle.rules.specs.Values.{both_values}

-- What evaluation finds in a term: a value; a part to reduce (000, definition 2.16) in its evaluation context; or a free
-- variable, at which nothing goes on.
pub data Found (M : Term) : Type 0 where
  found_value : Truth (value M) → Found M
  reducible : EvaluationContext → Term → Found M
  free : Found M

-- One part: what is found in it, or the node itself once the part is a value.
abbrev pub within : {M N : Term}
    → (EvaluationContext → EvaluationContext)
    → Found M
    → (Truth (value M) → Found N)
    → Found N
within inside (found_value v) then = then v
within inside (reducible E R) then = reducible (inside E) R
within inside free then = free

-- 01: "Evaluation goes left part first, then right .. never under abstraction or lift, nor in let's second part."
abbrev pub find : (M : Term) → Found M
find (variable n) = free
find (label ℓ) = found_value tt
find (gate n) = found_value tt
find unit_value = found_value tt
find (constant b) = found_value tt
find (abstraction A M) = found_value tt
find (application M N) =
    within (λ E. application_left E N) (find M) λ v.
    within (application_right M v) (find N) λ w. reducible hole (application M N)
find (pair M N) =
    within (λ E. pair_left E N) (find M) λ v.
    within (pair_right M v) (find N) λ w. found_value (both_values M N v w)
find (let_in M N) = within (λ E. let_first E N) (find M) λ v. reducible hole (let_in M N)
find (lift M) = found_value tt
find (force M) = within force_of (find M) λ v. reducible hole (force M)
find (box T M) = within (box_of T) (find M) λ v. reducible hole (box T M)
find (apply M N) =
    within (λ E. apply_left E N) (find M) λ v.
    within (apply_right M v) (find N) λ w. reducible hole (apply M N)

-- The tuple of two tuples, if there are both.
abbrev pub joined : Option Tuple → Option Tuple → Option Tuple
joined (some t) (some u) = some (both t u)
joined (some t) none = none
joined none u = none

-- The label tuple that a term is, if it is one.
abbrev pub tuple_of : Term → Option Tuple
tuple_of (variable n) = none
tuple_of (label ℓ) = some (single ℓ)
tuple_of (gate n) = none
tuple_of unit_value = some empty
tuple_of (constant b) = none
tuple_of (abstraction A M) = none
tuple_of (application M N) = none
tuple_of (pair M N) = joined (tuple_of M) (tuple_of N)
tuple_of (let_in M N) = none
tuple_of (lift M) = none
tuple_of (force M) = none
tuple_of (box T M) = none
tuple_of (apply M N) = none

-- The forms of a term at which a redex goes on.
pub data View : Term → Type 0 where
  abstraction_view : (A : Ty) (M : Term) → View (abstraction A M)
  pair_view : (M N : Term) → View (pair M N)
  lift_view : (M : Term) → View (lift M)
  gate_view : (n : ℕ) → View (gate n)
  constant_view : (b : Boxed) → View (constant b)
  other_view : (M : Term) → View M

-- The form of a term.
abbrev pub view : (M : Term) → View M
view (variable n) = other_view (variable n)
view (label ℓ) = other_view (label ℓ)
view (gate n) = gate_view n
view unit_value = other_view unit_value
view (constant b) = constant_view b
view (abstraction A M) = abstraction_view A M
view (application M N) = other_view (application M N)
view (pair M N) = pair_view M N
view (let_in M N) = other_view (let_in M N)
view (lift M) = lift_view M
view (force M) = other_view (force M)
view (box T M) = other_view (box T M)
view (apply M N) = other_view (apply M N)

-- The step at a redex in context E of the innermost frame, with its circuit C, the frames below and the closed circuits.
module _ (C : Circuit) (E : EvaluationContext) (X : List Frame) (K : List Boxed) where
  -- The innermost frame goes on with a term in the redex's place.
  abbrev pub go_on : Term → Option Configuration
  go_on M = some (configuration (frame C (plug E M)) X K)

  -- 01: "an abstraction applied to a value": its "variable becomes the value".
  abbrev pub step_application : {M : Term} → View M → Term → Option Configuration
  step_application (abstraction_view A M) N = go_on (substitute (N ∷ []) M)
  step_application (pair_view M M') N = none
  step_application (lift_view M) N = none
  step_application (gate_view n) N = none
  step_application (constant_view b) N = none
  step_application (other_view M) N = none

  -- 01: let's "two variables the halves".
  abbrev pub step_let : {M : Term} → View M → Term → Option Configuration
  step_let (abstraction_view A M) N = none
  step_let (pair_view M M') N = go_on (substitute (M' ∷ M ∷ []) N)
  step_let (lift_view M) N = none
  step_let (gate_view n) N = none
  step_let (constant_view b) N = none
  step_let (other_view M) N = none

  -- 01: "a forced lift its body".
  abbrev pub step_force : {M : Term} → View M → Option Configuration
  step_force (abstraction_view A M) = none
  step_force (pair_view M M') = none
  step_force (lift_view M) = go_on M
  step_force (gate_view n) = none
  step_force (constant_view b) = none
  step_force (other_view M) = none

  -- 01: box entry "opens an empty circuit with one new label for each wire of T, left to right from 0".
  abbrev pub step_box : Ty → {M : Term} → View M → Option Configuration
  step_box T (abstraction_view A M) = none
  step_box T (pair_view M M') = none
  step_box T (lift_view M) =
      some
      (configuration
      (frame (circuit (wires T) []) (application M (tuple (tuple_from 0 T))))
      (frame C (plug E (box T (lift M))) ∷ X)
      K)
  step_box T (gate_view n) = none
  step_box T (constant_view b) = none
  step_box T (other_view M) = none

  -- 01: "Apply copies the constant's gates in order"; "The result tuple is renamed likewise".
  abbrev pub append : Boxed → Option Tuple → Option Configuration
  append b none = none
  append b (some k) = some (configuration (frame (appended C k b) (plug E (tuple (returned C k b)))) X K)

  -- A gate is a circuit of one gate.
  abbrev pub append_gate : ℕ → Option GateType → Option Tuple → Option Configuration
  append_gate n none k = none
  append_gate n (some (T to U)) k = append (gate_boxed n T U) k

  -- 01: apply, of a gate or of a circuit constant, to a label tuple.
  abbrev pub step_apply : {M : Term} → View M → Option Tuple → Option Configuration
  step_apply (abstraction_view A M) k = none
  step_apply (pair_view M M') k = none
  step_apply (lift_view M) k = none
  step_apply (gate_view n) k = append_gate n (gate_type n) k
  step_apply (constant_view b) k = append b k
  step_apply (other_view M) k = none

  -- 01: "One step is one of: an abstraction applied to a value, let, force, apply, box entry, box exit."
  abbrev pub step_redex : Term → Option Configuration
  step_redex (variable n) = none
  step_redex (label ℓ) = none
  step_redex (gate n) = none
  step_redex unit_value = none
  step_redex (constant b) = none
  step_redex (abstraction A M) = none
  step_redex (application M N) = step_application (view M) N
  step_redex (pair M N) = none
  step_redex (let_in M N) = step_let (view M) N
  step_redex (lift M) = none
  step_redex (force M) = step_force (view M)
  step_redex (box T M) = step_box T (view M)
  step_redex (apply M N) = step_apply (view M) (tuple_of N)

-- Box exit, with the gates and the result of the innermost frame, and what is below it.
module _ (gs : List Gate) (r : Tuple) (C : Circuit) (X : List Frame) (K : List Boxed) where
  -- 01: "box exit puts the constant in that box's place".
  abbrev pub close_box : EvaluationContext → Ty → {M : Term} → View M → Option Configuration
  close_box E T (abstraction_view A M) = none
  close_box E T (pair_view M M') = none
  close_box E T (lift_view M) =
      some (configuration (frame C (plug E (constant (boxed T gs r)))) X (boxed T gs r ∷ K))
  close_box E T (gate_view n) = none
  close_box E T (constant_view b) = none
  close_box E T (other_view M) = none

  -- The redex of the frame below is a box.
  abbrev pub close_redex : EvaluationContext → Term → Option Configuration
  close_redex E (variable n) = none
  close_redex E (label ℓ) = none
  close_redex E (gate n) = none
  close_redex E unit_value = none
  close_redex E (constant b) = none
  close_redex E (abstraction A M) = none
  close_redex E (application M N) = none
  close_redex E (pair M N) = none
  close_redex E (let_in M N) = none
  close_redex E (lift M) = none
  close_redex E (force M) = none
  close_redex E (box T M) = close_box E T (view M)
  close_redex E (apply M N) = none

  -- It is what evaluation finds there.
  abbrev pub close_found : {M : Term} → Found M → Option Configuration
  close_found (found_value v) = none
  close_found (reducible E R) = close_redex E R
  close_found free = none

-- 01: "Box exit happens when it is a label tuple", and there is a frame below.
abbrev pub exit : Circuit → Option Tuple → List Frame → List Boxed → Option Configuration
exit C none X K = none
exit C (some r) [] K = none
exit (circuit I gs) (some r) (frame C M ∷ X) K = close_found gs r C X K (find M)

-- The step at what is found in the innermost frame: box exit at a value, else the step at the redex.
abbrev pub step_found : Circuit → {M : Term} → List Frame → List Boxed → Found M → Option Configuration
step_found C {M} X K (found_value v) = exit C (tuple_of M) X K
step_found C X K (reducible E R) = step_redex C E X K R
step_found C X K free = none

-- 01: "Steps happen in the innermost frame."
abbrev pub next : Configuration → Option Configuration
next (configuration (frame C M) X K) = step_found C X K (find M)
