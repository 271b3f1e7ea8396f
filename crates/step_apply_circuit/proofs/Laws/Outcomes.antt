-- Apply of a closed circuit meets the contract of a step at an apply whose first part is no gate. 01: "Apply copies the
-- constant's gates in order, its inputs matched to the argument tuple left to right, new outputs numbered on".
use Rattle.std.specs.Prelude.{ℕ, ◌+◌, ◌-◌, ◌≤◌, ◌<◌, ◌≡◌, refl, List, ◌∷◌, length, Option, Some, None}
use Rattle.std.proofs.Common.{arith, ◌∙◌, ap}
use Rattle.std.proofs.Math.Option.{some}
use Rattle.rules.specs.Kinds.{gate_term_kind}
use Rattle.rules.specs.Types.{Ty}
use Rattle.rules.specs.Terms.{Tuple, Gate, Boxed, boxed}
use Rattle.rules.specs.Circuits.{Circuit, circuit, appended, returned}
use Rattle.rules.specs.Sizes.{most_gates}
use Rattle.rules.specs.Demand3.{ProgramHas}
use Rattle.machine_terms.specs.Trees.{Node, kind, argument, Tree, leaf, tuple_of_tree, tuple_tree, LeafKind, a_variable}
use Rattle.machine_terms.specs.Trees.{a_label, a_gate, a_constant, leaf_kind, an_apply, two_kind, ConstantFits, a_unit_value}
use Rattle.machine_terms.specs.Holes.{Hole, second}
use Rattle.machine_terms.specs.Walks.{evaluating, returning, at_apply}
use Rattle.machine_terms.specs.States.{state, decode, StateFits}
use Rattle.machine_terms.specs.Meaning.{circuit_at}
use Rattle.machine_terms.proofs.Laws.Kinds.{leaf_number, leaf_number_lem}
use Rattle.machine_terms.specs.Forms.{contracts_application, contracts_let, contracts_force, contracts_gate}
use Rattle.machine_terms.specs.Forms.{contracts_constant, contracts_box, contracts_exit}
use Rattle.machine_terms.proofs.Laws.Typed.{typed_constant}
use Rattle.machine_nodes.specs.Nodes.{node_at}
use Rattle.words.specs.Quadwords.{quadword_at, Quadword}
use Rattle.machine_walk.specs.Stack.{stack_node}
use Rattle.machine_walk.proofs.Laws.Redexes.{kind_of_apply, first_leaf}
use Rattle.machine_circuits.proofs.Laws.Typed.{constant_below}
use Rattle.machine_state.specs.declared.StateNumbers.{StateNumbers}
use Rattle.machine_state.specs.Memory.{Memory, memory}
use Rattle.machine_state.specs.Outcomes.{AtStop, Outcome, Steps}
use Rattle.step_apply_circuit.specs.declared.Redex.{Redex}
use Rattle.step_apply_circuit.specs.Redexes.{RedexRead, Room, numbers_after, Applied}
use Rattle.step_apply_circuit.proofs.Laws.Redexes.{ConstantTyped, ConstantWritten, Leaves}
use Rattle.step_apply_circuit.proofs.Laws.Stepping.{constant_known, room_needed, room_fits, constant_held}

-- In a typed program the argument has the closed circuit's input type, and the closed circuit is sound.
constant_typed : {A : Ty} (types : ℕ → Ty) (positions : ℕ) (n l : Node) (v : Tree) (hs : List Hole) (C : Circuit)
    (Cs : List Circuit) (K : List Boxed) (T : Ty) (copied : List Gate) (y k : Tuple)
    → StateFits positions (state (returning v (second n (leaf l) ∷ hs)) C Cs K)
    → ProgramHas A (decode types (state (returning v (second n (leaf l) ∷ hs)) C Cs K))
    → two_kind (kind n) ≡ an_apply
    → leaf_kind (kind l) ≡ a_constant
    → circuit_at K (argument l) ≡ boxed T copied y
    → tuple_of_tree v ≡ some k
    → ConstantTyped v k T copied y
constant_typed types positions n l v hs C Cs K T copied y k fits typed p q e s =
    let t = typed_constant types positions n l v hs C Cs K T copied y k fits typed p q e s in
    let b = constant_below t.2.1 in
    record {
      as_many = t.0;
      argument_nodes = t.1;
      takes = b.takes;
      below = b.below;
      bounded = omega (arith, b.bounded);
    }

-- A constant's number is below the number of closed circuits.
number_below : (c : LeafKind) (closed a : ℕ) → ConstantFits c closed a → c ≡ a_constant → a < closed
number_below a_variable closed a f e = let z : ◌≡◌ {A = ℕ} 0 1 = cc in absurd (omega arith)
number_below a_label closed a f e = let z : ◌≡◌ {A = ℕ} 0 1 = cc in absurd (omega arith)
number_below a_gate closed a f e = let z : ◌≡◌ {A = ℕ} 0 1 = cc in absurd (omega arith)
number_below a_unit_value closed a f e = let z : ◌≡◌ {A = ℕ} 0 1 = cc in absurd (omega arith)
number_below a_constant closed a f e = f

module _ (allowance : ℕ) (m m' : Memory) (r : StateNumbers) (answer : Option StateNumbers) where
  -- The closed circuit by its parts.
  by_circuit : Leaves allowance m m' r answer
      → (types : ℕ → Ty) (positions : ℕ) (A : Ty) (n l : Node) (v : Tree) (hs : List Hole) (C : Circuit) (Cs : List Circuit)
      (K : List Boxed) (k : Tuple) (b : Boxed)
      → allowance ≤ most_gates
      → AtStop types positions A m r (state (returning v (second n (leaf l) ∷ hs)) C Cs K) at_apply
      → two_kind (kind n) ≡ an_apply
      → leaf_kind (kind l) ≡ a_constant
      → tuple_of_tree v ≡ some k
      → circuit_at K (argument l) ≡ b
      → Outcome types positions allowance r m m' (state (evaluating (tuple_tree (returned C k b)) hs) (appended C k b) Cs K) answer
  by_circuit leaves types positions A n l v hs (circuit I gs) Cs K k (boxed T copied y) small at_stop p q s e =
      let fits = at_stop.fits in
      leaves types positions n l v hs I gs Cs K T copied y k small at_stop.held
      (number_below (leaf_kind (kind l)) (length K) (argument l) fits.0.2.0.2.1 q)
      fits.1
      e
      s
      (constant_typed types positions n l v hs (circuit I gs) Cs K T copied y k fits at_stop.typed p q e s)

  -- The form of the step: an apply whose first part is no gate is one of a closed circuit.
  by_form : Leaves allowance m m' r answer
      → (kind (node_at m.nodes (stack_node (quadword_at m.stack (r.place.depth - 1)) + 1)) ≡ gate_term_kind → ⊥)
      → Steps at_apply allowance m m' r answer
  by_form leaves other types positions A s s' small at_stop sizes (contracts_application p q) =
      let is = kind_of_apply at_stop.stopped in
      let z : ◌≡◌ {A = ℕ} 0 1 = cc in
      absurd (omega arith)
  by_form leaves other types positions A s s' small at_stop sizes (contracts_let p q) = elim at_stop.stopped [ ]
  by_form leaves other types positions A s s' small at_stop sizes (contracts_force p q) = elim at_stop.stopped [ ]
  by_form leaves other types positions A s s' small at_stop sizes
      (contracts_gate {n = n} {m = l} {v = v} {hs = hs} {C = C} {Cs = Cs} {closed = K} T U k p q e t) =
      absurd
      (other
      (ap
      kind
      (first_leaf m.nodes m.stack r.place hs n l v (stack_node (quadword_at m.stack (r.place.depth - 1)))
      at_stop.held.walk_held
      refl)
      ∙ leaf_number_lem (kind l) at_stop.fits.0.2.0.2.0
      ∙ ap leaf_number q))
  by_form leaves other types positions A s s' small at_stop sizes
      (contracts_constant {n = n} {m = l} {v = v} {hs = hs} {C = C} {Cs = Cs} {closed = K} k p q e) =
      by_circuit leaves types positions A n l v hs C Cs K k (circuit_at K (argument l)) small at_stop p q e refl
  by_form leaves other types positions A s s' small at_stop sizes (contracts_box p q) = elim at_stop.stopped [ ]
  by_form leaves other types positions A s s' small at_stop sizes (contracts_exit k e) = elim at_stop.stopped [ ]

-- Where there is room, the step is taken.
pub constant_taken : (ns ns' : List Node) (wide : ℕ) (gs gs' fs fs' : List Quadword) (results : ℕ → List ℕ) (x : Redex)
    (r : StateNumbers) (ls : List ℕ) (found : ℕ)
    → ConstantWritten ns ns' wide gs gs' fs fs' results x r ls found
    → Applied ns ns' wide gs gs' fs fs' results x r (numbers_after x r)
constant_taken ns ns' wide gs gs' fs fs' results x r ls found w rs cs ws allowance read room enough other =
    by_form allowance m m' r (Some (numbers_after x r)) leaves other
  where
    m : Memory
    m = memory ns rs gs cs fs ws results

    m' : Memory
    m' = memory ns' rs gs' cs fs' ws results

    leaves : Leaves allowance m m' r (Some (numbers_after x r))
    leaves types positions n l v hs I hs' Cs K T copied y k small h below boxes e s typed =
        let d = constant_known types positions m x r n l v hs I hs' Cs K T copied y h below boxes e read in (
          room_fits types positions m x r n l v hs I hs' Cs K T copied y h k d.0 d.1 allowance room h.built.few_boxes,
          constant_held types positions m x r n l v hs I hs' Cs K T copied y h k d.0 d.1 allowance room small read s
              typed
              wide
              enough
              ns'
              gs'
              fs'
              ls
              found
              w,
        )

-- Where there is no room, the next configuration does not fit.
pub constant_refused : (ns : List Node) (rs : List Quadword) (gs cs fs : List Quadword) (ws : List ℕ) (results : ℕ → List ℕ)
    (x : Redex) (r : StateNumbers) (allowance : ℕ)
    → RedexRead ns rs gs cs fs (r.place.depth - 1) (r.counts.frames - 1) x
    → (Room x r (length ns) allowance → ⊥)
    → (kind (node_at ns (stack_node (quadword_at rs (r.place.depth - 1)) + 1)) ≡ gate_term_kind → ⊥)
    → Steps at_apply allowance (memory ns rs gs cs fs ws results) (memory ns rs gs cs fs ws results) r None
constant_refused ns rs gs cs fs ws results x r allowance read full other =
    by_form allowance m m r None leaves other
  where
    m : Memory
    m = memory ns rs gs cs fs ws results

    leaves : Leaves allowance m m r None
    leaves types positions n l v hs I hs' Cs K T copied y k small h below boxes e s typed =
        let d = constant_known types positions m x r n l v hs I hs' Cs K T copied y h below boxes e read in (
          λ fit. full (room_needed types positions m x r n l v hs I hs' Cs K T copied y h k d.0 d.1 allowance fit),
          λ _ held. held,
        )
