-- The step at a stop keeps the state well-formed.
use Prim.Native.Nat.{ℕ, suc}
use Rattle.std.proofs.Common.{arith, subst}
use Rattle.std.specs.Prelude.{◌≡◌, refl, List, [], ◌∷◌, T as Truth, length}
use Rattle.std.proofs.Math.Path.{ap}
use Rattle.std.proofs.Math.Option.{Option, none, some}
use Rattle.rules.specs.Types.{Ty}
use Rattle.rules.specs.Gates.{GateType, ◌to◌, gate_type}
use Rattle.rules.specs.Terms.{Tuple, tuple_from, Boxed}
use Rattle.rules.specs.Parts.{parts_of_kind}
use Rattle.rules.specs.Circuits.{Circuit, circuit, returned, gate_boxed}
use Rattle.machine_terms.specs.Trees.{Node, kind, argument, Tree, leaf, one, two, LeafKind, a_variable, a_label}
use Rattle.machine_terms.specs.Trees.{a_gate, a_constant, leaf_kind, OneKind, an_abstraction, a_lift, a_force, a_box}
use Rattle.machine_terms.specs.Trees.{one_kind, TwoKind, an_application, a_pair, a_let, an_apply, two_kind, parts}
use Rattle.machine_terms.specs.Trees.{OneFits, WellKinded, tuple_of_tree, substitute_tree, a_unit_value}
use Rattle.machine_terms.specs.Meaning.{circuit_at}
use Rattle.machine_terms.specs.Holes.{Hole, only, first, second, opened, open_boxes, is_lift, is_lift_kind, HolesFit}
use Rattle.machine_terms.specs.Walks.{evaluating, returning}
use Rattle.machine_terms.specs.States.{State, state, StateFits}
use Rattle.machine_terms.proofs.Laws.States.{if_abstraction, if_lift, if_pair, go_on_with, contract_application, contract_let}
use Rattle.machine_terms.proofs.Laws.States.{contract_force, enter, contract_box, append_circuit, append_one_gate, apply_leaf}
use Rattle.machine_terms.proofs.Laws.States.{contract_apply, contract_only, contract_first, contract_second, leave}
use Rattle.machine_terms.proofs.Laws.States.{contract}
use Rattle.machine_terms.proofs.Laws.Meanings.{well_kinded_tuple, substitute_kinded}
use Rattle.machine_terms.proofs.Laws.Filling.{holes_fit_more}

abbrev IfFits : ℕ → Option State → Type 0
IfFits positions none = Unit {0}
IfFits positions (some s) = StateFits positions s

if_abstraction_fits : (positions : ℕ) (c : OneKind) (s : Option State)
    → IfFits positions s
    → IfFits positions (if_abstraction c s)
if_abstraction_fits positions an_abstraction s h = h
if_abstraction_fits positions a_lift s h = tt
if_abstraction_fits positions a_force s h = tt
if_abstraction_fits positions a_box s h = tt

if_lift_fits : (positions : ℕ) (c : OneKind) (s : Option State)
    → (Truth (is_lift_kind c) → IfFits positions s)
    → IfFits positions (if_lift c s)
if_lift_fits positions an_abstraction s h = tt
if_lift_fits positions a_lift s h = h tt
if_lift_fits positions a_force s h = tt
if_lift_fits positions a_box s h = tt

if_pair_fits : (positions : ℕ) (c : TwoKind) (s : Option State) → IfFits positions s → IfFits positions (if_pair c s)
if_pair_fits positions an_application s h = tt
if_pair_fits positions a_pair s h = h
if_pair_fits positions a_let s h = tt
if_pair_fits positions an_apply s h = tt

module _ (types : ℕ → Ty) (positions : ℕ) (C : Circuit) (Cs : List Circuit) (closed : List Boxed) (hs : List Hole)
    (fit : HolesFit positions (length closed) hs) (boxes : length Cs ≡ open_boxes hs) where
  application_fits : (f v : Tree)
      → WellKinded positions (length closed) f
      → WellKinded positions (length closed) v
      → IfFits positions (contract_application types C Cs closed f v hs)
  application_fits (leaf n) v p q = tt
  application_fits (one n t) v p q =
      if_abstraction_fits positions (one_kind (kind n)) (go_on_with types C Cs closed (substitute_tree (v ∷ []) t) hs)
      ((substitute_kinded positions (length closed) (v ∷ []) t (q, tt) p.1, fit), boxes)
  application_fits (two n t u) v p q = tt

  let_fits : (v u : Tree)
      → WellKinded positions (length closed) v
      → WellKinded positions (length closed) u
      → IfFits positions (contract_let types C Cs closed v u hs)
  let_fits (leaf n) u p q = tt
  let_fits (one n t) u p q = tt
  let_fits (two n t t') u p q =
      if_pair_fits positions (two_kind (kind n)) (go_on_with types C Cs closed (substitute_tree (t' ∷ t ∷ []) u) hs)
      ((substitute_kinded positions (length closed) (t' ∷ t ∷ []) u (p.2, (p.1, tt)) q, fit), boxes)

  force_fits : (v : Tree)
      → WellKinded positions (length closed) v
      → IfFits positions (contract_force types C Cs closed v hs)
  force_fits (leaf n) p = tt
  force_fits (one n t) p =
      if_lift_fits positions (one_kind (kind n)) (go_on_with types C Cs closed t hs) λ l. ((p.1, fit), boxes)
  force_fits (two n t u) p = tt

  enter_fits : (n : Node) (v t : Tree)
      → OneFits positions n
      → one_kind (kind n) ≡ a_box
      → WellKinded positions (length closed) v
      → Truth (is_lift v)
      → WellKinded positions (length closed) t
      → IfFits positions (enter types C Cs closed n v t hs)
  unfolding parts parts_of_kind
  enter_fits n v t a b p l q = (
    ((refl, q, well_kinded_tuple positions (length closed) (tuple_from 0 (types (argument n)))), ((a, b, p, l), fit)),
    ap suc boxes,
  )

  box_fits : (n : Node) (v : Tree)
      → OneFits positions n
      → one_kind (kind n) ≡ a_box
      → WellKinded positions (length closed) v
      → IfFits positions (contract_box types C Cs closed n v hs)
  box_fits n (leaf m) a b p = tt
  box_fits n (one m t) a b p =
      if_lift_fits positions (one_kind (kind m)) (enter types C Cs closed n (one m t) t hs) λ l.
      enter_fits n (one m t) t a b p l p.1
  box_fits n (two m t u) a b p = tt

  append_fits : (b : Boxed) (k : Option Tuple) → IfFits positions (append_circuit types C Cs closed b k hs)
  append_fits b none = tt
  append_fits b (some k) = ((well_kinded_tuple positions (length closed) (returned C k b), fit), boxes)

  gate_fits : (n : ℕ) (g : Option GateType) (k : Option Tuple)
      → IfFits positions (append_one_gate types C Cs closed n g k hs)
  gate_fits n none k = tt
  gate_fits n (some (T to U)) k = append_fits (gate_boxed n T U) k

  leaf_apply_fits : (c : LeafKind) (a : ℕ) (k : Option Tuple)
      → IfFits positions (apply_leaf types C Cs closed c a k hs)
  leaf_apply_fits a_variable a k = tt
  leaf_apply_fits a_label a k = tt
  leaf_apply_fits a_gate a k = gate_fits a (gate_type a) k
  leaf_apply_fits a_unit_value a k = tt
  leaf_apply_fits a_constant a k = append_fits (circuit_at closed a) k

  apply_fits : (f v : Tree) → IfFits positions (contract_apply types C Cs closed f v hs)
  apply_fits (leaf n) v = leaf_apply_fits (leaf_kind (kind n)) (argument n) (tuple_of_tree v)
  apply_fits (one n t) v = tt
  apply_fits (two n t u) v = tt

  only_fits : (n : Node) (v : Tree) (c : OneKind)
      → one_kind (kind n) ≡ c
      → OneFits positions n
      → WellKinded positions (length closed) v
      → IfFits positions (contract_only types C Cs closed c n v hs)
  only_fits n v an_abstraction e a p = tt
  only_fits n v a_lift e a p = tt
  only_fits n v a_force e a p = force_fits v p
  only_fits n v a_box e a p = box_fits n v a e p

  first_fits : (c : TwoKind) (v u : Tree)
      → WellKinded positions (length closed) v
      → WellKinded positions (length closed) u
      → IfFits positions (contract_first types C Cs closed c v u hs)
  first_fits an_application v u p q = tt
  first_fits a_pair v u p q = tt
  first_fits a_let v u p q = let_fits v u p q
  first_fits an_apply v u p q = tt

  second_fits : (c : TwoKind) (f v : Tree)
      → WellKinded positions (length closed) f
      → WellKinded positions (length closed) v
      → IfFits positions (contract_second types C Cs closed c f v hs)
  second_fits an_application f v p q = application_fits f v p q
  second_fits a_pair f v p q = tt
  second_fits a_let f v p q = tt
  second_fits an_apply f v p q = apply_fits f v

leave_fits : (types : ℕ → Ty) (positions : ℕ) (D : Circuit) (Cs : List Circuit) (closed : List Boxed)
    (k : Option Tuple) (n : Node) (hs : List Hole)
    → HolesFit positions (length closed) hs
    → length Cs ≡ suc (open_boxes hs)
    → IfFits positions (leave types D Cs closed k n hs)
unfolding parts leaf_kind
leave_fits types positions D Cs closed none n hs fit boxes = tt
leave_fits types positions D [] closed (some k) n hs fit boxes = tt
leave_fits types positions (circuit I gs) (C ∷ Cs) closed (some k) n hs fit boxes =
    (((refl, omega arith), holes_fit_more positions (length closed) hs fit), omega arith)

contract_onward_fits : (types : ℕ → Ty) (positions : ℕ) (s : State)
    → StateFits positions s
    → IfFits positions (contract types s)
contract_onward_fits types positions (state (evaluating t hs) C Cs closed) h = tt
contract_onward_fits types positions (state (returning v []) C Cs closed) h = tt
contract_onward_fits types positions (state (returning v (only n ∷ hs)) C Cs closed) h =
    only_fits types positions C Cs closed hs h.0.2.1 h.1 n v (one_kind (kind n)) refl h.0.2.0.0 h.0.0
contract_onward_fits types positions (state (returning v (first n u ∷ hs)) C Cs closed) h =
    first_fits types positions C Cs closed hs h.0.2.1 h.1 (two_kind (kind n)) v u h.0.0 h.0.2.0.1
contract_onward_fits types positions (state (returning v (second n f ∷ hs)) C Cs closed) h =
    second_fits types positions C Cs closed hs h.0.2.1 h.1 (two_kind (kind n)) f v h.0.2.0.2 h.0.0
contract_onward_fits types positions (state (returning v (opened n b ∷ hs)) C Cs closed) h =
    leave_fits types positions C Cs closed (tuple_of_tree v) n hs h.0.2.1 h.1

-- The step at a stop keeps the state well-formed.
pub contract_fits : (types : ℕ → Ty) (positions : ℕ) (s s' : State)
    → StateFits positions s
    → contract types s ≡ some s'
    → StateFits positions s'
contract_fits types positions s s' h e = subst (IfFits positions) e (contract_onward_fits types positions s h)
