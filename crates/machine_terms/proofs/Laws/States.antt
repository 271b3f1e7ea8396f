-- Laws of specs/States.antt.
use Rattle.std.specs.Prelude.{ℕ, zero, suc, List, [], ◌∷◌, length}
use Rattle.std.proofs.Math.Option.{Option, none, some}
use Rattle.rules.specs.Kinds.{application_kind, constant_kind}
use Rattle.rules.specs.Types.{Ty, wires}
use Rattle.rules.specs.Gates.{GateType, ◌to◌, gate_type}
use Rattle.rules.specs.Terms.{Tuple, tuple_from, Boxed, boxed}
use Rattle.rules.specs.Circuits.{Circuit, circuit, appended, returned, gate_boxed}
use Rattle.machine_terms.specs.Trees.{Node, node, kind, argument, Tree, leaf, one, two, LeafKind, a_variable, a_label}
use Rattle.machine_terms.specs.Trees.{a_gate, a_constant, leaf_kind, OneKind, an_abstraction, a_lift, a_force, a_box}
use Rattle.machine_terms.specs.Trees.{one_kind, TwoKind, an_application, a_pair, a_let, an_apply, two_kind, tuple_of_tree}
use Rattle.machine_terms.specs.Trees.{tuple_tree, substitute_tree, a_unit_value}
use Rattle.machine_terms.specs.Meaning.{circuit_at}
use Rattle.machine_terms.specs.Holes.{Hole, only, first, second, opened}
use Rattle.machine_terms.specs.Walks.{evaluating, returning, walk}
use Rattle.machine_terms.specs.States.{State, state}

-- The machine walks to the stop.
abbrev pub walk_state : State → State
walk_state (state w C Cs closed) = state (walk w) C Cs closed

-- Where a step needs an abstraction: the state, if it is one.
abbrev pub if_abstraction : OneKind → Option State → Option State
if_abstraction an_abstraction s = s
if_abstraction a_lift s = none
if_abstraction a_force s = none
if_abstraction a_box s = none

-- Where a step needs a lift.
abbrev pub if_lift : OneKind → Option State → Option State
if_lift an_abstraction s = none
if_lift a_lift s = s
if_lift a_force s = none
if_lift a_box s = none

-- Where a step needs a pair.
abbrev pub if_pair : TwoKind → Option State → Option State
if_pair an_application s = none
if_pair a_pair s = s
if_pair a_let s = none
if_pair an_apply s = none

-- The step at a stop, with the circuits at hand.
module _ (types : ℕ → Ty) (C : Circuit) (Cs : List Circuit) (closed : List Boxed) where
  -- The reduct t is what is evaluated next, in the holes around the redex.
  abbrev pub go_on_with : Tree → List Hole → Option State
  go_on_with t hs = some (state (evaluating t hs) C Cs closed)

  -- f applied to the value v.
  abbrev pub contract_application : Tree → Tree → List Hole → Option State
  contract_application (leaf n) v hs = none
  contract_application (one n t) v hs = if_abstraction (one_kind (kind n)) (go_on_with (substitute_tree (v ∷ []) t) hs)
  contract_application (two n t u) v hs = none

  -- Let with the value v and the body u.
  abbrev pub contract_let : Tree → Tree → List Hole → Option State
  contract_let (leaf n) u hs = none
  contract_let (one n t) u hs = none
  contract_let (two n t t') u hs = if_pair (two_kind (kind n)) (go_on_with (substitute_tree (t' ∷ t ∷ []) u) hs)

  -- Force of the value v.
  abbrev pub contract_force : Tree → List Hole → Option State
  contract_force (leaf n) hs = none
  contract_force (one n t) hs = if_lift (one_kind (kind n)) (go_on_with t hs)
  contract_force (two n t u) hs = none

  -- Box entry: the box with node n and the value v, a lift of t. 01: "evaluates M applied to that tuple".
  abbrev pub enter : Node → Tree → Tree → List Hole → Option State
  enter n v t hs =
      some
      (state
      (evaluating (two (node application_kind 0) t (tuple_tree (tuple_from 0 (types (argument n))))) (opened n v ∷ hs))
      (circuit (wires (types (argument n))) [])
      (C ∷ Cs)
      closed)

  -- Box of the value v, with node n.
  abbrev pub contract_box : Node → Tree → List Hole → Option State
  contract_box n (leaf m) hs = none
  contract_box n (one m t) hs = if_lift (one_kind (kind m)) (enter n (one m t) t hs)
  contract_box n (two m t u) hs = none

  -- Apply: the circuit b on the label tuple k.
  abbrev pub append_circuit : Boxed → Option Tuple → List Hole → Option State
  append_circuit b none hs = none
  append_circuit b (some k) hs =
      some (state (evaluating (tuple_tree (returned C k b)) hs) (appended C k b) Cs closed)

  -- Apply: gate n on the label tuple k.
  abbrev pub append_one_gate : ℕ → Option GateType → Option Tuple → List Hole → Option State
  append_one_gate n none k hs = none
  append_one_gate n (some (T to U)) k hs = append_circuit (gate_boxed n T U) k hs

  -- Apply of a gate or a circuit constant with argument a.
  abbrev pub apply_leaf : LeafKind → ℕ → Option Tuple → List Hole → Option State
  apply_leaf a_variable a k hs = none
  apply_leaf a_label a k hs = none
  apply_leaf a_gate a k hs = append_one_gate a (gate_type a) k hs
  apply_leaf a_unit_value a k hs = none
  apply_leaf a_constant a k hs = append_circuit (circuit_at closed a) k hs

  -- Apply of f to the value v.
  abbrev pub contract_apply : Tree → Tree → List Hole → Option State
  contract_apply (leaf n) v hs = apply_leaf (leaf_kind (kind n)) (argument n) (tuple_of_tree v) hs
  contract_apply (one n t) v hs = none
  contract_apply (two n t u) v hs = none

  -- The redexes with one part, the value v.
  abbrev pub contract_only : OneKind → Node → Tree → List Hole → Option State
  contract_only an_abstraction n v hs = none
  contract_only a_lift n v hs = none
  contract_only a_force n v hs = contract_force v hs
  contract_only a_box n v hs = contract_box n v hs

  -- The redex with one value: let with the value v and the body u.
  abbrev pub contract_first : TwoKind → Tree → Tree → List Hole → Option State
  contract_first an_application v u hs = none
  contract_first a_pair v u hs = none
  contract_first a_let v u hs = contract_let v u hs
  contract_first an_apply v u hs = none

  -- The redexes with two values.
  abbrev pub contract_second : TwoKind → Tree → Tree → List Hole → Option State
  contract_second an_application f v hs = contract_application f v hs
  contract_second a_pair f v hs = none
  contract_second a_let f v hs = none
  contract_second an_apply f v hs = contract_apply f v hs

-- Box exit: the gates and the result of the innermost frame become the next closed circuit, and a constant with its
-- number stands in the place of the box with node n.
abbrev pub leave : (ℕ → Ty)
    → Circuit
    → List Circuit
    → List Boxed
    → Option Tuple
    → Node
    → List Hole
    → Option State
leave types C Cs closed none n hs = none
leave types C [] closed (some k) n hs = none
leave types (circuit I gs) (C ∷ Cs) closed (some k) n hs =
    some
    (state (evaluating (leaf (node constant_kind (length closed))) hs) C Cs (boxed (types (argument n)) gs k ∷ closed))

-- The step at a stop of the walk: none at the end, and none where the rules have no step.
abbrev pub contract : (ℕ → Ty) → State → Option State
contract types (state (evaluating t hs) C Cs closed) = none
contract types (state (returning v []) C Cs closed) = none
contract types (state (returning v (only n ∷ hs)) C Cs closed) =
    contract_only types C Cs closed (one_kind (kind n)) n v hs
contract types (state (returning v (first n u ∷ hs)) C Cs closed) =
    contract_first types C Cs closed (two_kind (kind n)) v u hs
contract types (state (returning v (second n f ∷ hs)) C Cs closed) =
    contract_second types C Cs closed (two_kind (kind n)) f v hs
contract types (state (returning v (opened n b ∷ hs)) C Cs closed) = leave types C Cs closed (tuple_of_tree v) n hs

-- One step of the machine: walk to the stop, then the step there.
abbrev pub step : (ℕ → Ty) → State → Option State
step types s = contract types (walk_state s)

-- One step after another, if there is the first.
abbrev pub and_then : {A : Type 0} → Option A → (A → Option A) → Option A
and_then none f = none
and_then (some a) f = f a

-- So many steps one after another, if there are so many.
abbrev pub repeated : {A : Type 0} → (A → Option A) → ℕ → A → Option A
repeated f zero a = some a
repeated f (suc n) a = and_then (f a) (repeated f n)
