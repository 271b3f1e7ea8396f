-- The forms of a step: where the machine has one, its redex has the form that the step needs.
use Rattle.std.specs.Prelude.{ℕ, ◌≡◌, refl, List, [], ◌∷◌}
use Rattle.std.proofs.Common.{◌∙◌, ap, ap₂, subst}
use Rattle.std.proofs.Math.Option.{Option, none, some}
use Rattle.rules.specs.Types.{Ty}
use Rattle.rules.specs.Gates.{GateType, ◌to◌, gate_type}
use Rattle.rules.specs.Terms.{Tuple, Boxed}
use Rattle.rules.specs.Circuits.{Circuit, circuit}
use Rattle.machine_terms.specs.Trees.{Node, kind, argument, Tree, leaf, one, two, LeafKind, a_variable, a_label}
use Rattle.machine_terms.specs.Trees.{a_gate, a_constant, leaf_kind, OneKind, an_abstraction, a_lift, a_force, a_box}
use Rattle.machine_terms.specs.Trees.{one_kind, TwoKind, an_application, a_pair, a_let, an_apply, two_kind, tuple_of_tree}
use Rattle.machine_terms.specs.Trees.{substitute_tree, a_unit_value}
use Rattle.machine_terms.specs.Meaning.{circuit_at}
use Rattle.machine_terms.specs.Holes.{Hole, only, first, second, opened}
use Rattle.machine_terms.specs.Walks.{Walk, evaluating, returning}
use Rattle.machine_terms.specs.States.{State, state}
use Rattle.machine_terms.proofs.Laws.States.{if_abstraction, if_lift, if_pair, go_on_with, contract_application, contract_let}
use Rattle.machine_terms.proofs.Laws.States.{contract_force, enter, contract_box, append_circuit, append_one_gate, apply_leaf}
use Rattle.machine_terms.proofs.Laws.States.{contract_apply, contract_only, contract_first, contract_second, leave}
use Rattle.machine_terms.proofs.Laws.States.{contract}
use Rattle.machine_terms.specs.Forms.{Contracts, contracts_application, contracts_let, contracts_force, contracts_gate}
use Rattle.machine_terms.specs.Forms.{contracts_constant, contracts_box, contracts_exit}

abbrev IfContracts : (ℕ → Ty) → State → Option State → Type 0
IfContracts types s none = Unit {0}
IfContracts types s (some s') = Contracts types s s'

module _ (types : ℕ → Ty) (C : Circuit) (Cs : List Circuit) (closed : List Boxed) (hs : List Hole) where
  abbrev Gives : Walk → Option State → Type 0
  Gives w r = IfContracts types (state w C Cs closed) r

  application_form : (n : Node) (f v : Tree)
      → two_kind (kind n) ≡ an_application
      → Gives (returning v (second n f ∷ hs)) (contract_application types C Cs closed f v hs)
  application_form n (leaf m) v p = tt
  application_form n (one m t) v p = of (one_kind (kind m)) refl
    where
      of : (c : OneKind)
          → one_kind (kind m) ≡ c
          → Gives
          (returning v (second n (one m t) ∷ hs))
          (if_abstraction c (go_on_with types C Cs closed (substitute_tree (v ∷ []) t) hs))
      of an_abstraction q = contracts_application p q
      of a_lift q = tt
      of a_force q = tt
      of a_box q = tt
  application_form n (two m t u) v p = tt

  let_form : (n : Node) (v u : Tree)
      → two_kind (kind n) ≡ a_let
      → Gives (returning v (first n u ∷ hs)) (contract_let types C Cs closed v u hs)
  let_form n (leaf m) u p = tt
  let_form n (one m t) u p = tt
  let_form n (two m t t') u p = of (two_kind (kind m)) refl
    where
      of : (c : TwoKind)
          → two_kind (kind m) ≡ c
          → Gives
          (returning (two m t t') (first n u ∷ hs))
          (if_pair c (go_on_with types C Cs closed (substitute_tree (t' ∷ t ∷ []) u) hs))
      of an_application q = tt
      of a_pair q = contracts_let p q
      of a_let q = tt
      of an_apply q = tt

  force_form : (n : Node) (v : Tree)
      → one_kind (kind n) ≡ a_force
      → Gives (returning v (only n ∷ hs)) (contract_force types C Cs closed v hs)
  force_form n (leaf m) p = tt
  force_form n (one m t) p = of (one_kind (kind m)) refl
    where
      of : (c : OneKind)
          → one_kind (kind m) ≡ c
          → Gives (returning (one m t) (only n ∷ hs)) (if_lift c (go_on_with types C Cs closed t hs))
      of an_abstraction q = tt
      of a_lift q = contracts_force p q
      of a_force q = tt
      of a_box q = tt
  force_form n (two m t u) p = tt

  box_form : (n : Node) (v : Tree)
      → one_kind (kind n) ≡ a_box
      → Gives (returning v (only n ∷ hs)) (contract_box types C Cs closed n v hs)
  box_form n (leaf m) p = tt
  box_form n (one m t) p = of (one_kind (kind m)) refl
    where
      of : (c : OneKind)
          → one_kind (kind m) ≡ c
          → Gives (returning (one m t) (only n ∷ hs)) (if_lift c (enter types C Cs closed n (one m t) t hs))
      of an_abstraction q = tt
      of a_lift q = contracts_box p q
      of a_force q = tt
      of a_box q = tt
  box_form n (two m t u) p = tt

  gate_form : (n m : Node) (v : Tree) (g : Option GateType) (k : Option Tuple)
      → two_kind (kind n) ≡ an_apply
      → leaf_kind (kind m) ≡ a_gate
      → gate_type (argument m) ≡ g
      → tuple_of_tree v ≡ k
      → Gives (returning v (second n (leaf m) ∷ hs)) (append_one_gate types C Cs closed (argument m) g k hs)
  gate_form n m v none k p q r s = tt
  gate_form n m v (some (T to U)) none p q r s = tt
  gate_form n m v (some (T to U)) (some k) p q r s = contracts_gate T U k p q r s

  constant_form : (n m : Node) (v : Tree) (k : Option Tuple)
      → two_kind (kind n) ≡ an_apply
      → leaf_kind (kind m) ≡ a_constant
      → tuple_of_tree v ≡ k
      → Gives
      (returning v (second n (leaf m) ∷ hs))
      (append_circuit types C Cs closed (circuit_at closed (argument m)) k hs)
  constant_form n m v none p q s = tt
  constant_form n m v (some k) p q s = contracts_constant k p q s

  apply_form : (n : Node) (f v : Tree)
      → two_kind (kind n) ≡ an_apply
      → Gives (returning v (second n f ∷ hs)) (contract_apply types C Cs closed f v hs)
  apply_form n (leaf m) v p = of (leaf_kind (kind m)) refl
    where
      of : (c : LeafKind)
          → leaf_kind (kind m) ≡ c
          → Gives
          (returning v (second n (leaf m) ∷ hs))
          (apply_leaf types C Cs closed c (argument m) (tuple_of_tree v) hs)
      of a_variable q = tt
      of a_label q = tt
      of a_gate q = gate_form n m v (gate_type (argument m)) (tuple_of_tree v) p q refl refl
      of a_unit_value q = tt
      of a_constant q = constant_form n m v (tuple_of_tree v) p q refl
  apply_form n (one m t) v p = tt
  apply_form n (two m t u) v p = tt

  only_form : (n : Node) (v : Tree) (c : OneKind)
      → one_kind (kind n) ≡ c
      → Gives (returning v (only n ∷ hs)) (contract_only types C Cs closed c n v hs)
  only_form n v an_abstraction p = tt
  only_form n v a_lift p = tt
  only_form n v a_force p = force_form n v p
  only_form n v a_box p = box_form n v p

  first_form : (n : Node) (v u : Tree) (c : TwoKind)
      → two_kind (kind n) ≡ c
      → Gives (returning v (first n u ∷ hs)) (contract_first types C Cs closed c v u hs)
  first_form n v u an_application p = tt
  first_form n v u a_pair p = tt
  first_form n v u a_let p = let_form n v u p
  first_form n v u an_apply p = tt

  second_form : (n : Node) (f v : Tree) (c : TwoKind)
      → two_kind (kind n) ≡ c
      → Gives (returning v (second n f ∷ hs)) (contract_second types C Cs closed c f v hs)
  second_form n f v an_application p = application_form n f v p
  second_form n f v a_pair p = tt
  second_form n f v a_let p = tt
  second_form n f v an_apply p = apply_form n f v p

exit_form : (types : ℕ → Ty) (D : Circuit) (Cs : List Circuit) (closed : List Boxed) (n : Node) (b v : Tree)
    (hs : List Hole) (k : Option Tuple)
    → tuple_of_tree v ≡ k
    → IfContracts types (state (returning v (opened n b ∷ hs)) D Cs closed) (leave types D Cs closed k n hs)
exit_form types D Cs closed n b v hs none p = tt
exit_form types D [] closed n b v hs (some k) p = tt
exit_form types (circuit I gs) (C ∷ Cs) closed n b v hs (some k) p = contracts_exit k p

contract_forms : (types : ℕ → Ty) (s : State) → IfContracts types s (contract types s)
contract_forms types (state (evaluating t hs) C Cs closed) = tt
contract_forms types (state (returning v []) C Cs closed) = tt
contract_forms types (state (returning v (only n ∷ hs)) C Cs closed) =
    only_form types C Cs closed hs n v (one_kind (kind n)) refl
contract_forms types (state (returning v (first n u ∷ hs)) C Cs closed) =
    first_form types C Cs closed hs n v u (two_kind (kind n)) refl
contract_forms types (state (returning v (second n f ∷ hs)) C Cs closed) =
    second_form types C Cs closed hs n f v (two_kind (kind n)) refl
contract_forms types (state (returning v (opened n b ∷ hs)) C Cs closed) =
    exit_form types C Cs closed n b v hs (tuple_of_tree v) refl

-- Where there is a step, it has one of the forms.
pub contract_form : (types : ℕ → Ty) (s s' : State) → contract types s ≡ some s' → Contracts types s s'
contract_form types s s' e = subst (IfContracts types s) e (contract_forms types s)

-- Each form is a step.
pub form_contract : (types : ℕ → Ty) (s s' : State) → Contracts types s s' → contract types s ≡ some s'
form_contract types s s' (contracts_application {n} {m} {t} {v} {hs} {C} {Cs} {closed} p q) =
    ap (λ c. contract_second types C Cs closed c (one m t) v hs) p
    ∙ ap (λ c. if_abstraction c (go_on_with types C Cs closed (substitute_tree (v ∷ []) t) hs)) q
form_contract types s s' (contracts_let {n} {m} {t} {t'} {u} {hs} {C} {Cs} {closed} p q) =
    ap (λ c. contract_first types C Cs closed c (two m t t') u hs) p
    ∙ ap (λ c. if_pair c (go_on_with types C Cs closed (substitute_tree (t' ∷ t ∷ []) u) hs)) q
form_contract types s s' (contracts_force {n} {m} {t} {hs} {C} {Cs} {closed} p q) =
    ap (λ c. contract_only types C Cs closed c n (one m t) hs) p
    ∙ ap (λ c. if_lift c (go_on_with types C Cs closed t hs)) q
form_contract types s s' (contracts_gate {n} {m} {v} {hs} {C} {Cs} {closed} T U k p q r w) =
    ap (λ c. contract_second types C Cs closed c (leaf m) v hs) p
    ∙ ap (λ c. apply_leaf types C Cs closed c (argument m) (tuple_of_tree v) hs) q
    ∙ ap₂ (λ g l. append_one_gate types C Cs closed (argument m) g l hs) r w
form_contract types s s' (contracts_constant {n} {m} {v} {hs} {C} {Cs} {closed} k p q w) =
    ap (λ c. contract_second types C Cs closed c (leaf m) v hs) p
    ∙ ap (λ c. apply_leaf types C Cs closed c (argument m) (tuple_of_tree v) hs) q
    ∙ ap (λ l. append_circuit types C Cs closed (circuit_at closed (argument m)) l hs) w
form_contract types s s' (contracts_box {n} {m} {t} {hs} {C} {Cs} {closed} p q) =
    ap (λ c. contract_only types C Cs closed c n (one m t) hs) p
    ∙ ap (λ c. if_lift c (enter types C Cs closed n (one m t) t hs)) q
form_contract types s s' (contracts_exit {n} {b} {v} {hs} {I} {gs} {C} {Cs} {closed} k p) =
    ap (λ l. leave types (circuit I gs) (C ∷ Cs) closed l n hs) p
