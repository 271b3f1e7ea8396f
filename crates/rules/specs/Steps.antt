-- The stacked semantics (000, section 3.1, with the reductions of 2.5; 01, "Steps").
use Rattle.std.specs.Prelude.{◌≡◌, T as Truth, List, [], ◌∷◌, ℕ}
use Rattle.std.proofs.Math.Option.{some}
use Rattle.rules.specs.Types.{Wire, Ty, wires}
use Rattle.rules.specs.Gates.{◌to◌, gate_type}
use Rattle.rules.specs.Terms.{Tuple, tuple_from, Gate, Boxed, boxed, Term, gate, constant, abstraction, application}
use Rattle.rules.specs.Terms.{pair, let_in, lift, force, box, apply, value, tuple, substitute}
use Rattle.rules.specs.Circuits.{Circuit, circuit, appended, returned, gate_boxed}
use Rattle.rules.specs.Contexts.{EvaluationContext, plug}

-- 01: "Each frame has a circuit and a term."
pub data Frame : Type 0 where
  frame : Circuit → Term → Frame

-- 000, definition 3.1, and 01: "A configuration is a stack of open boxes, the frames": the innermost frame, those below
-- it, inward ones first, and the circuits closed so far, the latest first. The label tuple with which 000 marks a frame
-- is that of the box in the frame below.
pub data Configuration : Type 0 where
  configuration : Frame → List Frame → List Boxed → Configuration

-- 01: "At the start there is one frame: the L labels as inputs, no gate, the file's term."
abbrev pub start : List Wire → Term → Configuration
start L M = configuration (frame (circuit L []) M) [] []

infix 20 ◌⟶◌
-- One step. The first five are 000's reductions in an evaluation context of the innermost frame (rule head), box_entry
-- is its rule step-in and box_exit its rule step-out. The frame below keeps its term until box_exit puts the constant in
-- the box's place.
pub data ◌⟶◌ : Configuration → Configuration → Type 0 where
  β_reduction : {C : Circuit} {X : List Frame} {K : List Boxed} (E : EvaluationContext) (A : Ty) (M W : Term)
      → Truth (value W)
      → configuration (frame C (plug E (application (abstraction A M) W))) X K
      ⟶ configuration (frame C (plug E (substitute (W ∷ []) M))) X K
  let_step : {C : Circuit} {X : List Frame} {K : List Boxed} (E : EvaluationContext) (M W W' : Term)
      → Truth (value W)
      → Truth (value W')
      → configuration (frame C (plug E (let_in (pair W W') M))) X K
      ⟶ configuration (frame C (plug E (substitute (W' ∷ W ∷ []) M))) X K
  force_step : {C : Circuit} {X : List Frame} {K : List Boxed} (E : EvaluationContext) (M : Term)
      → configuration (frame C (plug E (force (lift M)))) X K
      ⟶ configuration (frame C (plug E M)) X K
  apply_gate : {C : Circuit} {X : List Frame} {K : List Boxed} (E : EvaluationContext) (n : ℕ) (T U : Ty) (k : Tuple)
      → gate_type n ≡ some (T to U)
      → configuration (frame C (plug E (apply (gate n) (tuple k)))) X K
      ⟶ configuration (frame (appended C k (gate_boxed n T U)) (plug E (tuple (returned C k (gate_boxed n T U))))) X K
  apply_constant : {C : Circuit} {X : List Frame} {K : List Boxed} (E : EvaluationContext) (b : Boxed) (k : Tuple)
      → configuration (frame C (plug E (apply (constant b) (tuple k)))) X K
      ⟶ configuration (frame (appended C k b) (plug E (tuple (returned C k b)))) X K
  -- 01: "Box entry on box at T of lift M opens an empty circuit with one new label for each wire of T, left to right
  -- from 0, and evaluates M applied to that tuple."
  box_entry : {C : Circuit} {X : List Frame} {K : List Boxed} (E : EvaluationContext) (T : Ty) (M : Term)
      → configuration (frame C (plug E (box T (lift M)))) X K
      ⟶ configuration
      (frame (circuit (wires T) []) (application M (tuple (tuple_from 0 T))))
      (frame C (plug E (box T (lift M))) ∷ X)
      K
  -- 01: "Box exit happens when it is a label tuple; it closes the circuit into a constant."
  box_exit : {I : List Wire} {gs : List Gate} (r : Tuple)
      {C : Circuit} {X : List Frame} {K : List Boxed} (E : EvaluationContext) (T : Ty) (M : Term)
      → configuration (frame (circuit I gs) (tuple r)) (frame C (plug E (box T (lift M))) ∷ X) K
      ⟶ configuration (frame C (plug E (constant (boxed T gs r)))) X (boxed T gs r ∷ K)
