-- At a stop of the walk the machine's step is the step of the rules.
use Rattle.std.specs.Prelude.{ℕ, ◌≡◌, refl, List, [], ◌∷◌, T as Truth, length}
use Rattle.std.proofs.Math.Path.{sym, ap, ap₂}
use Rattle.std.proofs.Common.{◌∙◌}
use Rattle.std.proofs.Math.Option.{Option, none, some, map}
use Rattle.rules.specs.Kinds.{constant_kind}
use Rattle.rules.specs.Types.{Wire, Ty, wires}
use Rattle.rules.specs.Gates.{GateType, ◌to◌, gate_type}
use Rattle.rules.specs.Terms.{Tuple, tuple_from, Gate, Boxed, boxed, Term, variable, constant, application, let_in, lift}
use Rattle.rules.specs.Terms.{force, box, apply}
use Rattle.rules.specs.Circuits.{Circuit, circuit, appended, returned, gate_boxed}
use Rattle.rules.specs.Contexts.{EvaluationContext, hole, application_left, application_right, pair_left, pair_right}
use Rattle.rules.specs.Contexts.{let_first, force_of, box_of, apply_left, apply_right, plug}
use Rattle.rules.specs.Steps.{Frame, frame, Configuration, configuration}
use Rattle.rules.specs.Next.{free, find, tuple_of, view, go_on, step_application, step_let, step_force, step_box, append}
use Rattle.rules.specs.Next.{append_gate, step_apply, step_redex, close_found, exit, step_found, next}
use Rattle.rules.proofs.Theorems.Deterministic.{Proto, proto_application, proto_let, proto_force, proto_box, proto_apply}
use Rattle.rules.proofs.Theorems.Deterministic.{find_value, find_plug, no_exit}
use Rattle.machine_terms.specs.Trees.{Node, node, kind, argument, Tree, leaf, one, two, LeafKind, a_variable, a_label}
use Rattle.machine_terms.specs.Trees.{a_gate, a_constant, leaf_kind, OneKind, an_abstraction, a_lift, a_force, a_box}
use Rattle.machine_terms.specs.Trees.{one_kind, TwoKind, an_application, a_pair, a_let, an_apply, two_kind, value_tree}
use Rattle.machine_terms.specs.Trees.{tuple_of_tree, tuple_tree, substitute_tree, a_unit_value}
use Rattle.machine_terms.specs.Meaning.{Environment, circuit_at, environment, leaf_term, one_term, two_term, meaning}
use Rattle.machine_terms.specs.Holes.{Hole, only, first, second, opened, frame_tree, trees_below, is_lift, is_lift_kind}
use Rattle.machine_terms.specs.Holes.{HolesFit}
use Rattle.machine_terms.specs.Walks.{Walk, evaluating, returning, Stop, Stopped, stopped_application, stopped_let}
use Rattle.machine_terms.specs.Walks.{stopped_force, stopped_box, stopped_apply, stopped_exit, stopped_end}
use Rattle.machine_terms.specs.Walks.{stopped_variable, WalkFits, stops, move}
use Rattle.machine_terms.specs.States.{State, state, frames_below, decode, StateFits}
use Rattle.machine_terms.proofs.Laws.States.{if_abstraction, if_lift, if_pair, go_on_with, contract_application, contract_let}
use Rattle.machine_terms.proofs.Laws.States.{contract_force, enter, contract_box, append_circuit, append_one_gate, apply_leaf}
use Rattle.machine_terms.proofs.Laws.States.{contract_apply, contract_only, contract_first, contract_second, leave}
use Rattle.machine_terms.proofs.Laws.States.{contract}
use Rattle.machine_terms.proofs.Laws.Meanings.{value_of, tuple_of_meaning, meaning_tuple, substitute_meaning}
use Rattle.machine_terms.proofs.Laws.Meanings.{circuit_at_last}
use Rattle.machine_terms.proofs.Laws.Walking.{move_stopped}
use Rattle.machine_terms.proofs.Laws.Filling.{around, meaning_frame, evaluation_context, around_context, frame_is_plug}
use Rattle.machine_terms.proofs.Laws.Filling.{around_more, frames_more}

-- In a term with a free variable as the next part to evaluate, the rules find nothing to reduce.
find_variable : (E : EvaluationContext) (a : ℕ) → find (plug E (variable a)) ≡ free
find_variable hole a = refl
find_variable (application_left E N) a = rw (find_variable E a)
find_variable (application_right W v E) a = rw (find_value W v, find_variable E a)
find_variable (pair_left E N) a = rw (find_variable E a)
find_variable (pair_right W v E) a = rw (find_value W v, find_variable E a)
find_variable (let_first E N) a = rw (find_variable E a)
find_variable (force_of E) a = rw (find_variable E a)
find_variable (box_of T E) a = rw (find_variable E a)
find_variable (apply_left E N) a = rw (find_variable E a)
find_variable (apply_right W v E) a = rw (find_value W v, find_variable E a)

-- In the holes around a redex, with the circuits at hand.
module _ (types : ℕ → Ty) (positions : ℕ) (C : Circuit) (Cs : List Circuit) (closed : List Boxed) (hs : List Hole)
    (fit : HolesFit positions (length closed) hs) where
  abbrev here : Environment
  here = environment types closed

  abbrev outer : EvaluationContext
  outer = evaluation_context here positions (length closed) hs fit

  abbrev below : List Frame
  below = frames_below here (trees_below hs) Cs

  abbrev decoded : Option State → Option Configuration
  decoded = map (decode types)

  -- The rules find the redex that the walk stopped at.
  redex_next : (t : Tree) (R : Term)
      → meaning here t ≡ R
      → Proto R
      → next (configuration (frame C (meaning here (frame_tree hs t))) below closed) ≡ step_redex C outer below closed R
  redex_next t R p proto =
      ap (λ M. next (configuration (frame C M) below closed))
      (frame_is_plug here positions (length closed) hs fit t ∙ ap (plug outer) p)
      ∙ ap (step_found C {M = plug outer R} below closed) (find_plug outer R proto)

  -- The reduct in the place of the redex.
  goes_to : (D : Circuit) (t : Tree) (M : Term)
      → meaning here t ≡ M
      → go_on D outer below closed M ≡ some (decode types (state (evaluating t hs) D Cs closed))
  goes_to D t M p =
      ap (λ N. some (configuration (frame D N) below closed))
      (sym (frame_is_plug here positions (length closed) hs fit t ∙ ap (plug outer) p))

  -- Application.
  leaf_application : (c : LeafKind) (a : ℕ) (b : Boxed) (N : Term)
      → step_application C outer below closed (view (leaf_term c a b)) N ≡ none
  leaf_application a_variable a b N = refl
  leaf_application a_label a b N = refl
  leaf_application a_gate a b N = refl
  leaf_application a_unit_value a b N = refl
  leaf_application a_constant a b N = refl

  one_application : (c : OneKind) (A : Ty) (t v : Tree)
      → step_application C outer below closed (view (one_term c A (meaning here t))) (meaning here v)
      ≡ decoded (if_abstraction c (go_on_with types C Cs closed (substitute_tree (v ∷ []) t) hs))
  one_application an_abstraction A t v =
      goes_to C (substitute_tree (v ∷ []) t) _ (substitute_meaning here (v ∷ []) t)
  one_application a_lift A t v = refl
  one_application a_force A t v = refl
  one_application a_box A t v = refl

  two_application : (c : TwoKind) (M M' N : Term)
      → step_application C outer below closed (view (two_term c M M')) N ≡ none
  two_application an_application M M' N = refl
  two_application a_pair M M' N = refl
  two_application a_let M M' N = refl
  two_application an_apply M M' N = refl

  application_contract : (f v : Tree)
      → step_application C outer below closed (view (meaning here f)) (meaning here v)
      ≡ decoded (contract_application types C Cs closed f v hs)
  application_contract (leaf n) v = leaf_application (leaf_kind (kind n)) _ _ _
  application_contract (one n t) v = one_application (one_kind (kind n)) _ t v
  application_contract (two n t u) v = two_application (two_kind (kind n)) _ _ _

  -- Let.
  leaf_let : (c : LeafKind) (a : ℕ) (b : Boxed) (N : Term)
      → step_let C outer below closed (view (leaf_term c a b)) N ≡ none
  leaf_let a_variable a b N = refl
  leaf_let a_label a b N = refl
  leaf_let a_gate a b N = refl
  leaf_let a_unit_value a b N = refl
  leaf_let a_constant a b N = refl

  one_let : (c : OneKind) (A : Ty) (M N : Term) → step_let C outer below closed (view (one_term c A M)) N ≡ none
  one_let an_abstraction A M N = refl
  one_let a_lift A M N = refl
  one_let a_force A M N = refl
  one_let a_box A M N = refl

  two_let : (c : TwoKind) (t t' u : Tree)
      → step_let C outer below closed (view (two_term c (meaning here t) (meaning here t'))) (meaning here u)
      ≡ decoded (if_pair c (go_on_with types C Cs closed (substitute_tree (t' ∷ t ∷ []) u) hs))
  two_let an_application t t' u = refl
  two_let a_pair t t' u = goes_to C (substitute_tree (t' ∷ t ∷ []) u) _ (substitute_meaning here (t' ∷ t ∷ []) u)
  two_let a_let t t' u = refl
  two_let an_apply t t' u = refl

  let_contract : (v u : Tree)
      → step_let C outer below closed (view (meaning here v)) (meaning here u)
      ≡ decoded (contract_let types C Cs closed v u hs)
  let_contract (leaf n) u = leaf_let (leaf_kind (kind n)) _ _ _
  let_contract (one n t) u = one_let (one_kind (kind n)) _ _ _
  let_contract (two n t t') u = two_let (two_kind (kind n)) t t' u

  -- Force.
  leaf_force : (c : LeafKind) (a : ℕ) (b : Boxed) → step_force C outer below closed (view (leaf_term c a b)) ≡ none
  leaf_force a_variable a b = refl
  leaf_force a_label a b = refl
  leaf_force a_gate a b = refl
  leaf_force a_unit_value a b = refl
  leaf_force a_constant a b = refl

  one_force : (c : OneKind) (A : Ty) (t : Tree)
      → step_force C outer below closed (view (one_term c A (meaning here t)))
      ≡ decoded (if_lift c (go_on_with types C Cs closed t hs))
  one_force an_abstraction A t = refl
  one_force a_lift A t = goes_to C t _ refl
  one_force a_force A t = refl
  one_force a_box A t = refl

  two_force : (c : TwoKind) (M M' : Term) → step_force C outer below closed (view (two_term c M M')) ≡ none
  two_force an_application M M' = refl
  two_force a_pair M M' = refl
  two_force a_let M M' = refl
  two_force an_apply M M' = refl

  force_contract : (v : Tree)
      → step_force C outer below closed (view (meaning here v)) ≡ decoded (contract_force types C Cs closed v hs)
  force_contract (leaf n) = leaf_force (leaf_kind (kind n)) _ _
  force_contract (one n t) = one_force (one_kind (kind n)) _ t
  force_contract (two n t u) = two_force (two_kind (kind n)) _ _

  -- Box entry.
  box_of_lift : (n m : Node) (t : Tree)
      → one_kind (kind n) ≡ a_box
      → one_kind (kind m) ≡ a_lift
      → meaning here (one n (one m t)) ≡ box (types (argument n)) (lift (meaning here t))
  box_of_lift n m t p q =
      ap₂
      (λ c d. one_term c (types (argument n)) (one_term d (types (argument m)) (meaning here t)))
      p
      q

  enters : (n m : Node) (t : Tree)
      → one_kind (kind n) ≡ a_box
      → one_kind (kind m) ≡ a_lift
      → step_box C outer below closed (types (argument n)) (view (lift (meaning here t)))
      ≡ decoded (enter types C Cs closed n (one m t) t hs)
  unfolding two_kind
  enters n m t p q =
      ap₂
      (λ N P.
      some
      (configuration
      (frame (circuit (wires (types (argument n))) []) (application (meaning here t) N))
      (frame C P ∷ below)
      closed))
      (sym (meaning_tuple here (tuple_from 0 (types (argument n)))))
      (sym
      (frame_is_plug here positions (length closed) hs fit (one n (one m t))
      ∙ ap (plug outer) (box_of_lift n m t p q)))

  leaf_box : (c : LeafKind) (a : ℕ) (b : Boxed) (T : Ty)
      → step_box C outer below closed T (view (leaf_term c a b)) ≡ none
  leaf_box a_variable a b T = refl
  leaf_box a_label a b T = refl
  leaf_box a_gate a b T = refl
  leaf_box a_unit_value a b T = refl
  leaf_box a_constant a b T = refl

  one_box : (n m : Node) (t : Tree) (c : OneKind)
      → one_kind (kind n) ≡ a_box
      → one_kind (kind m) ≡ c
      → step_box C outer below closed (types (argument n)) (view (one_term c (types (argument m)) (meaning here t)))
      ≡ decoded (if_lift c (enter types C Cs closed n (one m t) t hs))
  one_box n m t an_abstraction p q = refl
  one_box n m t a_lift p q = enters n m t p q
  one_box n m t a_force p q = refl
  one_box n m t a_box p q = refl

  two_box : (c : TwoKind) (M M' : Term) (T : Ty)
      → step_box C outer below closed T (view (two_term c M M')) ≡ none
  two_box an_application M M' T = refl
  two_box a_pair M M' T = refl
  two_box a_let M M' T = refl
  two_box an_apply M M' T = refl

  box_contract : (n : Node) (v : Tree)
      → one_kind (kind n) ≡ a_box
      → step_box C outer below closed (types (argument n)) (view (meaning here v))
      ≡ decoded (contract_box types C Cs closed n v hs)
  box_contract n (leaf m) p = leaf_box (leaf_kind (kind m)) (argument m) (here.closed_at (argument m)) (types (argument n))
  box_contract n (one m t) p = one_box n m t (one_kind (kind m)) p refl
  box_contract n (two m t u) p =
      two_box (two_kind (kind m)) (meaning here t) (meaning here u) (types (argument n))

  -- Apply.
  append_contract : (b : Boxed) (k : Option Tuple)
      → append C outer below closed b k ≡ decoded (append_circuit types C Cs closed b k hs)
  append_contract b none = refl
  append_contract b (some k) =
      goes_to (appended C k b) (tuple_tree (returned C k b)) _ (meaning_tuple here (returned C k b))

  gate_contract : (n : ℕ) (g : Option GateType) (k : Option Tuple)
      → append_gate C outer below closed n g k ≡ decoded (append_one_gate types C Cs closed n g k hs)
  gate_contract n none k = refl
  gate_contract n (some (T to U)) k = append_contract (gate_boxed n T U) k

  leaf_apply : (c : LeafKind) (a : ℕ) (k : Option Tuple)
      → step_apply C outer below closed (view (leaf_term c a (circuit_at closed a))) k
      ≡ decoded (apply_leaf types C Cs closed c a k hs)
  leaf_apply a_variable a k = refl
  leaf_apply a_label a k = refl
  leaf_apply a_gate a k = gate_contract a (gate_type a) k
  leaf_apply a_unit_value a k = refl
  leaf_apply a_constant a k = append_contract (circuit_at closed a) k

  one_apply : (c : OneKind) (A : Ty) (M : Term) (k : Option Tuple)
      → step_apply C outer below closed (view (one_term c A M)) k ≡ none
  one_apply an_abstraction A M k = refl
  one_apply a_lift A M k = refl
  one_apply a_force A M k = refl
  one_apply a_box A M k = refl

  two_apply : (c : TwoKind) (M M' : Term) (k : Option Tuple)
      → step_apply C outer below closed (view (two_term c M M')) k ≡ none
  two_apply an_application M M' k = refl
  two_apply a_pair M M' k = refl
  two_apply a_let M M' k = refl
  two_apply an_apply M M' k = refl

  applied_contract : (f v : Tree)
      → step_apply C outer below closed (view (meaning here f)) (tuple_of_tree v)
      ≡ decoded (contract_apply types C Cs closed f v hs)
  applied_contract (leaf n) v = leaf_apply (leaf_kind (kind n)) (argument n) (tuple_of_tree v)
  applied_contract (one n t) v = one_apply (one_kind (kind n)) _ _ (tuple_of_tree v)
  applied_contract (two n t u) v = two_apply (two_kind (kind n)) _ _ (tuple_of_tree v)

  apply_contract : (f v : Tree)
      → step_apply C outer below closed (view (meaning here f)) (tuple_of (meaning here v))
      ≡ decoded (contract_apply types C Cs closed f v hs)
  apply_contract f v =
      ap (step_apply C outer below closed (view (meaning here f))) (tuple_of_meaning here v) ∙ applied_contract f v

  -- The step at each redex.
  at_application_next : (n : Node) (f v : Tree)
      → two_kind (kind n) ≡ an_application
      → Truth (value_tree f)
      → Truth (value_tree v)
      → next (decode types (state (returning v (second n f ∷ hs)) C Cs closed))
      ≡ decoded (contract types (state (returning v (second n f ∷ hs)) C Cs closed))
  at_application_next n f v p a b =
      redex_next (two n f v) (application (meaning here f) (meaning here v))
      (ap (λ c. two_term c (meaning here f) (meaning here v)) p)
      (proto_application (value_of here f a) (value_of here v b))
      ∙ application_contract f v
      ∙ ap (λ c. decoded (contract_second types C Cs closed c f v hs)) (sym p)

  at_let_next : (n : Node) (v u : Tree)
      → two_kind (kind n) ≡ a_let
      → Truth (value_tree v)
      → next (decode types (state (returning v (first n u ∷ hs)) C Cs closed))
      ≡ decoded (contract types (state (returning v (first n u ∷ hs)) C Cs closed))
  at_let_next n v u p a =
      redex_next (two n v u) (let_in (meaning here v) (meaning here u))
      (ap (λ c. two_term c (meaning here v) (meaning here u)) p)
      (proto_let (value_of here v a))
      ∙ let_contract v u
      ∙ ap (λ c. decoded (contract_first types C Cs closed c v u hs)) (sym p)

  at_force_next : (n : Node) (v : Tree)
      → one_kind (kind n) ≡ a_force
      → Truth (value_tree v)
      → next (decode types (state (returning v (only n ∷ hs)) C Cs closed))
      ≡ decoded (contract types (state (returning v (only n ∷ hs)) C Cs closed))
  at_force_next n v p a =
      redex_next (one n v) (force (meaning here v))
      (ap (λ c. one_term c (types (argument n)) (meaning here v)) p)
      (proto_force (value_of here v a))
      ∙ force_contract v
      ∙ ap (λ c. decoded (contract_only types C Cs closed c n v hs)) (sym p)

  at_box_next : (n : Node) (v : Tree)
      → one_kind (kind n) ≡ a_box
      → Truth (value_tree v)
      → next (decode types (state (returning v (only n ∷ hs)) C Cs closed))
      ≡ decoded (contract types (state (returning v (only n ∷ hs)) C Cs closed))
  at_box_next n v p a =
      redex_next (one n v) (box (types (argument n)) (meaning here v))
      (ap (λ c. one_term c (types (argument n)) (meaning here v)) p)
      (proto_box (value_of here v a))
      ∙ box_contract n v p
      ∙ ap (λ c. decoded (contract_only types C Cs closed c n v hs)) (sym p)

  at_apply_next : (n : Node) (f v : Tree)
      → two_kind (kind n) ≡ an_apply
      → Truth (value_tree f)
      → Truth (value_tree v)
      → next (decode types (state (returning v (second n f ∷ hs)) C Cs closed))
      ≡ decoded (contract types (state (returning v (second n f ∷ hs)) C Cs closed))
  at_apply_next n f v p a b =
      redex_next (two n f v) (apply (meaning here f) (meaning here v))
      (ap (λ c. two_term c (meaning here f) (meaning here v)) p)
      (proto_apply (value_of here f a) (value_of here v b))
      ∙ apply_contract f v
      ∙ ap (λ c. decoded (contract_second types C Cs closed c f v hs)) (sym p)

  -- At a free variable the rules have no step either.
  at_variable_next : (n : Node)
      → leaf_kind (kind n) ≡ a_variable
      → next (decode types (state (evaluating (leaf n) hs) C Cs closed)) ≡ none
  at_variable_next n p =
      ap (λ M. next (configuration (frame C M) below closed))
      (frame_is_plug here positions (length closed) hs fit (leaf n)
      ∙ ap (λ c. plug outer (leaf_term c (argument n) (circuit_at closed (argument n)))) p)
      ∙ ap (step_found C {M = plug outer (variable (argument n))} below closed) (find_variable outer (argument n))

-- Box exit.
lift_part : (types : ℕ → Ty) (closed : List Boxed) (b : Tree)
    → Truth (is_lift b)
    → (M : Term) × (meaning (environment types closed) b ≡ lift M)
lift_part types closed (leaf m) h = absurd h
lift_part types closed (one m t) h = of (one_kind (kind m)) h
  where
    of : (c : OneKind)
        → Truth (is_lift_kind c)
        → (M : Term) × (one_term c (types (argument m)) (meaning (environment types closed) t) ≡ lift M)
    of an_abstraction h = absurd h
    of a_lift h = (_, refl)
    of a_force h = absurd h
    of a_box h = absurd h
lift_part types closed (two m t u) h = absurd h

module _ (types : ℕ → Ty) (positions : ℕ) (closed : List Boxed) (n : Node) (b : Tree) (hs : List Hole)
    (fit : HolesFit positions (length closed) (opened n b ∷ hs)) where
  abbrev there : Environment
  there = environment types closed

  abbrev around_box : EvaluationContext
  around_box = evaluation_context there positions (length closed) hs fit.1

  abbrev T : Ty
  T = types (argument n)

  -- The constant in the place of the box, once its circuit is closed.
  constant_there : (c : Boxed)
      → plug around_box (constant c)
      ≡ meaning (environment types (c ∷ closed)) (frame_tree hs (leaf (node constant_kind (length closed))))
  unfolding leaf_kind
  constant_there c =
      sym (around_context there positions (length closed) hs fit.1 (constant c))
      ∙ sym (around_more types c closed positions hs (constant c) fit.1)
      ∙ ap (λ d. around (environment types (c ∷ closed)) hs (constant d)) (sym (circuit_at_last c closed))
      ∙ sym (meaning_frame (environment types (c ∷ closed)) hs (leaf (node constant_kind (length closed))))

  -- The term of the frame below: the box in its evaluation context.
  box_below : (M : Term)
      → meaning there b ≡ lift M
      → meaning there (frame_tree hs (one n b)) ≡ plug around_box (box T (lift M))
  box_below M q =
      frame_is_plug there positions (length closed) hs fit.1 (one n b)
      ∙ ap₂ (λ c N. plug around_box (one_term c T N)) fit.0.1 q

  exits : (I : List Wire) (gs : List Gate) (C : Circuit) (Cs : List Circuit) (k : Tuple) (M : Term)
      → meaning there b ≡ lift M
      → close_found gs k C (frames_below there (trees_below hs) Cs) closed (find (meaning there (frame_tree hs (one n b))))
      ≡ map (decode types) (leave types (circuit I gs) (C ∷ Cs) closed (some k) n hs)
  exits I gs C Cs k M q =
      ap (λ N. close_found gs k C (frames_below there (trees_below hs) Cs) closed (find N)) (box_below M q)
      ∙ ap (close_found gs k C (frames_below there (trees_below hs) Cs) closed)
      (find_plug around_box (box T (lift M)) (proto_box tt))
      ∙ ap₂ (λ N X. some (configuration (frame C N) X (boxed T gs k ∷ closed))) (constant_there (boxed T gs k))
      (sym (frames_more types (boxed T gs k) closed positions hs Cs fit.1))

  leaves : (D : Circuit) (Cs : List Circuit) (k : Option Tuple)
      → exit D k (frames_below there (trees_below (opened n b ∷ hs)) Cs) closed
      ≡ map (decode types) (leave types D Cs closed k n hs)
  leaves D Cs none = refl
  leaves D [] (some k) = refl
  leaves (circuit I gs) (C ∷ Cs) (some k) =
      let l = lift_part types closed b fit.0.3 in
      exits I gs C Cs k l.0 l.1

  at_exit_next : (D : Circuit) (Cs : List Circuit) (v : Tree)
      → Truth (value_tree v)
      → next (decode types (state (returning v (opened n b ∷ hs)) D Cs closed))
      ≡ map (decode types) (contract types (state (returning v (opened n b ∷ hs)) D Cs closed))
  at_exit_next D Cs v a =
      ap (step_found D {M = meaning there v} (frames_below there (trees_below (opened n b ∷ hs)) Cs) closed)
      (find_value (meaning there v) (value_of there v a))
      ∙ ap (λ k. exit D k (frames_below there (trees_below (opened n b ∷ hs)) Cs) closed) (tuple_of_meaning there v)
      ∙ leaves D Cs (tuple_of_tree v)

-- The end: the outermost frame's term is a value.
at_end_next : (types : ℕ → Ty) (C : Circuit) (Cs : List Circuit) (closed : List Boxed) (v : Tree)
    → Truth (value_tree v)
    → next (decode types (state (returning v []) C Cs closed)) ≡ none
at_end_next types C Cs closed v a =
    ap (step_found C {M = meaning (environment types closed) v} [] closed)
    (find_value (meaning (environment types closed) v) (value_of (environment types closed) v a))
    ∙ no_exit C (tuple_of (meaning (environment types closed) v)) closed

stopped_next : (types : ℕ → Ty) (positions : ℕ) (w : Walk) (C : Circuit) (Cs : List Circuit)
    (closed : List Boxed) (s : Stop)
    → WalkFits positions (length closed) w
    → Stopped w s
    → next (decode types (state w C Cs closed)) ≡ map (decode types) (contract types (state w C Cs closed))
stopped_next types positions w C Cs closed s h (stopped_application {n} {f} {v} {hs} p) =
    at_application_next types positions C Cs closed hs h.2.1 n f v p h.2.0.3 h.1
stopped_next types positions w C Cs closed s h (stopped_let {n} {v} {u} {hs} p) =
    at_let_next types positions C Cs closed hs h.2.1 n v u p h.1
stopped_next types positions w C Cs closed s h (stopped_force {n} {v} {hs} p) =
    at_force_next types positions C Cs closed hs h.2.1 n v p h.1
stopped_next types positions w C Cs closed s h (stopped_box {n} {v} {hs} p) =
    at_box_next types positions C Cs closed hs h.2.1 n v p h.1
stopped_next types positions w C Cs closed s h (stopped_apply {n} {f} {v} {hs} p) =
    at_apply_next types positions C Cs closed hs h.2.1 n f v p h.2.0.3 h.1
stopped_next types positions w C Cs closed s h (stopped_exit {n} {b} {v} {hs}) =
    at_exit_next types positions closed n b hs h.2 C Cs v h.1
stopped_next types positions w C Cs closed s h (stopped_end {v}) = at_end_next types C Cs closed v h.1
stopped_next types positions w C Cs closed s h (stopped_variable {n} {hs} p) =
    at_variable_next types positions C Cs closed hs h.1 n p

-- At a stop of the walk the machine's step is the step of the rules: both have none, or the machine's new state
-- stands for the next configuration.
pub contract_is_next : (types : ℕ → Ty) (positions : ℕ) (w : Walk) (C : Circuit) (Cs : List Circuit)
    (closed : List Boxed) (s : Stop)
    → StateFits positions (state w C Cs closed)
    → move w ≡ stops s
    → next (decode types (state w C Cs closed)) ≡ map (decode types) (contract types (state w C Cs closed))
contract_is_next types positions w C Cs closed s h e =
    stopped_next types positions w C Cs closed s h.0 (move_stopped positions (length closed) w s h.0 e)
