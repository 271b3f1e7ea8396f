-- The forms of a step: where the machine has one, its redex has the form that the step needs.
use Rattle.std.specs.Prelude.{ℕ, ◌≡◌, List, [], ◌∷◌, length}
use Rattle.std.proofs.Math.Option.{some}
use Rattle.rules.specs.Kinds.{application_kind, constant_kind}
use Rattle.rules.specs.Types.{Wire, Ty, wires}
use Rattle.rules.specs.Gates.{◌to◌, gate_type}
use Rattle.rules.specs.Terms.{Tuple, tuple_from, Gate, Boxed, boxed}
use Rattle.rules.specs.Circuits.{Circuit, circuit, appended, returned, gate_boxed}
use Rattle.machine_terms.specs.Trees.{Node, node, kind, argument, Tree, leaf, one, two, a_gate, a_constant, leaf_kind}
use Rattle.machine_terms.specs.Trees.{an_abstraction, a_lift, a_force, a_box, one_kind, an_application, a_pair, a_let}
use Rattle.machine_terms.specs.Trees.{an_apply, two_kind, tuple_of_tree, tuple_tree, substitute_tree}
use Rattle.machine_terms.specs.Meaning.{circuit_at}
use Rattle.machine_terms.specs.Holes.{Hole, only, first, second, opened}
use Rattle.machine_terms.specs.Walks.{evaluating, returning}
use Rattle.machine_terms.specs.States.{State, state}

-- One step at a stop, form by form.
pub data Contracts (types : ℕ → Ty) : State → State → Type 0 where
  contracts_application : {n m : Node} {t v : Tree} {hs : List Hole} {C : Circuit} {Cs : List Circuit}
      {closed : List Boxed}
      → two_kind (kind n) ≡ an_application
      → one_kind (kind m) ≡ an_abstraction
      → Contracts types
      (state (returning v (second n (one m t) ∷ hs)) C Cs closed)
      (state (evaluating (substitute_tree (v ∷ []) t) hs) C Cs closed)
  contracts_let : {n m : Node} {t t' u : Tree} {hs : List Hole} {C : Circuit} {Cs : List Circuit}
      {closed : List Boxed}
      → two_kind (kind n) ≡ a_let
      → two_kind (kind m) ≡ a_pair
      → Contracts types
      (state (returning (two m t t') (first n u ∷ hs)) C Cs closed)
      (state (evaluating (substitute_tree (t' ∷ t ∷ []) u) hs) C Cs closed)
  contracts_force : {n m : Node} {t : Tree} {hs : List Hole} {C : Circuit} {Cs : List Circuit} {closed : List Boxed}
      → one_kind (kind n) ≡ a_force
      → one_kind (kind m) ≡ a_lift
      → Contracts types
      (state (returning (one m t) (only n ∷ hs)) C Cs closed)
      (state (evaluating t hs) C Cs closed)
  contracts_gate : {n m : Node} {v : Tree} {hs : List Hole} {C : Circuit} {Cs : List Circuit} {closed : List Boxed}
      (T U : Ty) (k : Tuple)
      → two_kind (kind n) ≡ an_apply
      → leaf_kind (kind m) ≡ a_gate
      → gate_type (argument m) ≡ some (T to U)
      → tuple_of_tree v ≡ some k
      → Contracts types
      (state (returning v (second n (leaf m) ∷ hs)) C Cs closed)
      (state
      (evaluating (tuple_tree (returned C k (gate_boxed (argument m) T U))) hs)
      (appended C k (gate_boxed (argument m) T U))
      Cs
      closed)
  contracts_constant : {n m : Node} {v : Tree} {hs : List Hole} {C : Circuit} {Cs : List Circuit}
      {closed : List Boxed} (k : Tuple)
      → two_kind (kind n) ≡ an_apply
      → leaf_kind (kind m) ≡ a_constant
      → tuple_of_tree v ≡ some k
      → Contracts types
      (state (returning v (second n (leaf m) ∷ hs)) C Cs closed)
      (state
      (evaluating (tuple_tree (returned C k (circuit_at closed (argument m)))) hs)
      (appended C k (circuit_at closed (argument m)))
      Cs
      closed)
  contracts_box : {n m : Node} {t : Tree} {hs : List Hole} {C : Circuit} {Cs : List Circuit} {closed : List Boxed}
      → one_kind (kind n) ≡ a_box
      → one_kind (kind m) ≡ a_lift
      → Contracts types
      (state (returning (one m t) (only n ∷ hs)) C Cs closed)
      (state
      (evaluating (two (node application_kind 0) t (tuple_tree (tuple_from 0 (types (argument n))))) (opened n (one m t) ∷ hs))
      (circuit (wires (types (argument n))) [])
      (C ∷ Cs)
      closed)
  contracts_exit : {n : Node} {b v : Tree} {hs : List Hole} {I : List Wire} {gs : List Gate} {C : Circuit}
      {Cs : List Circuit} {closed : List Boxed} (k : Tuple)
      → tuple_of_tree v ≡ some k
      → Contracts types
      (state (returning v (opened n b ∷ hs)) (circuit I gs) (C ∷ Cs) closed)
      (state (evaluating (leaf (node constant_kind (length closed))) hs) C Cs (boxed (types (argument n)) gs k ∷ closed))
