-- What the typing rules say of the redex at which the walk of a typed program stops.
use Rattle.std.specs.Prelude.{ℕ, ◌+◌, ◌≤◌, ◌≡◌, refl, List, [], ◌∷◌, T as Truth, length}
use Rattle.std.proofs.Common.{arith, sym, ◌∙◌, ap, ap₂, subst, length-append}
use Rattle.std.proofs.Math.Option.{none, some}
use Rattle.rules.specs.Types.{Ty, !◌, Circ, is_wire_type, wires, entries, most_entries}
use Rattle.rules.specs.Gates.{◌to◌, gate_type}
use Rattle.rules.specs.Terms.{Tuple, single, both, labels, Gate, Boxed, boxed, Term, gate, constant, box, apply, value}
use Rattle.rules.specs.Terms.{tuple, empty}
use Rattle.rules.specs.Circuits.{Circuit}
use Rattle.rules.specs.Typing.{LabelContext, split_end, parameters_end, Bounded, ◌∣◌⊢◌∶◌, by_var, by_label, by_gate, by_circ}
use Rattle.rules.specs.Typing.{by_app, by_tuple, by_let, by_lift, by_force, by_box, by_apply, by_unit}
use Rattle.rules.specs.Steps.{Frame, frame, configuration}
use Rattle.rules.specs.Demand3.{frame_has, outermost, opened as opened_box, ProgramHas, program_has}
use Rattle.rules.proofs.Theorems.Deterministic.{tuple_of_sound}
use Rattle.rules.proofs.Laws.Substitution.{plug_has}
use Rattle.machine_terms.specs.Trees.{Node, kind, argument, Tree, leaf, one, two, preorder, a_gate, a_constant}
use Rattle.machine_terms.specs.Trees.{leaf_kind, a_box, one_kind, an_apply, two_kind, tuple_of_tree, tuple_tree}
use Rattle.machine_terms.specs.Meaning.{Environment, circuit_at, environment, leaf_term, one_term, two_term, meaning}
use Rattle.machine_terms.specs.Holes.{Hole, only, second, opened, frame_tree, HolesFit}
use Rattle.machine_terms.specs.Walks.{returning}
use Rattle.machine_terms.specs.States.{state, decode, StateFits}
use Rattle.machine_terms.proofs.Laws.Tuples.{is_tuple, tuple_nodes}
use Rattle.machine_terms.proofs.Laws.Meanings.{value_of, tuple_of_meaning}
use Rattle.machine_terms.proofs.Laws.Filling.{evaluation_context, frame_is_plug}

-- A typed tuple has as many labels as its type has wires.
pub labels_typed : (k : Tuple) {Q : LabelContext} {T : Ty} → [] ∣ Q ⊢ tuple k ∶ T → length (labels k) ≡ length (wires T)
labels_typed (single ℓ) (by_label p o) = refl
labels_typed empty (by_unit p n) = refl
labels_typed (both k l) (by_tuple {A = A} {B = B} b split_end s d e) =
    length-append (labels k) (labels l)
    ∙ ap₂ ◌+◌ (labels_typed k d) (labels_typed l e)
    ∙ sym (length-append (wires A) (wires B))

-- It has as many nodes as its type has entries.
pub nodes_typed : (k : Tuple) {Q : LabelContext} {T : Ty}
    → [] ∣ Q ⊢ tuple k ∶ T
    → length (preorder (tuple_tree k)) ≡ entries T
nodes_typed (single ℓ) (by_label p o) = refl
nodes_typed empty (by_unit p n) = refl
nodes_typed (both k l) (by_tuple {A = A} {B = B} b split_end s d e) =
    omega (
      arith,
      length-append (preorder (tuple_tree k)) (preorder (tuple_tree l)),
      nodes_typed k d,
      nodes_typed l e,
    )

-- Its type is within the bound on types (01: "No type of a node may exceed 512 entries").
bounded_typed : (k : Tuple) {Q : LabelContext} {T : Ty} → [] ∣ Q ⊢ tuple k ∶ T → entries T ≤ most_entries
bounded_typed (single ℓ) (by_label p o) = omega arith
bounded_typed empty (by_unit p n) = omega arith
bounded_typed (both k l) (by_tuple b split_end s d e) = b

-- A tree that is a label tuple means that label tuple.
tuple_means : (e : Environment) (v : Tree) (k : Tuple) → tuple_of_tree v ≡ some k → meaning e v ≡ tuple k
tuple_means e v k r = tuple_of_sound (meaning e v) k (tuple_of_meaning e v ∙ r)

-- The term of the innermost frame has a type.
top_typed : {A : Ty} {C : Circuit} {M : Term} {X : List Frame} {K : List Boxed}
    → ProgramHas A (configuration (frame C M) X K)
    → (B : Ty) × (Q : LabelContext) × ([] ∣ Q ⊢ M ∶ B)
top_typed (program_has (outermost (frame_has s d)) k) = (_, _, d)
top_typed (program_has (opened_box E T U M (frame_has s d) b here rest) k) = (_, _, d)

-- So has the part of it that stands in the holes of the frame.
part_typed : {A : Ty} (types : ℕ → Ty) (positions : ℕ) (t : Tree) (hs : List Hole) (C : Circuit) (X : List Frame)
    (closed : List Boxed) (M : Term)
    → HolesFit positions (length closed) hs
    → meaning (environment types closed) t ≡ M
    → ProgramHas A (configuration (frame C (meaning (environment types closed) (frame_tree hs t))) X closed)
    → (B : Ty) × (Q : LabelContext) × ([] ∣ Q ⊢ M ∶ B)
part_typed types positions t hs C X closed M fit e typed =
    let (B, Q, d) = top_typed typed in
    let E = evaluation_context (environment types closed) positions (length closed) hs fit in
    let p =
    plug_has E
    (subst (λ N. [] ∣ Q ⊢ N ∶ B) (frame_is_plug (environment types closed) positions (length closed) hs fit t) d) in
    (p.B, p.Q₁, subst (λ N. [] ∣ p.Q₁ ⊢ N ∶ p.B) e p.has)

-- A value of a reusable type is a lift, whose type is within the bound.
reusable_bounded : {Q : LabelContext} {W : Term} {A : Ty} → Truth (value W) → [] ∣ Q ⊢ W ∶ ! A → Bounded (! A)
reusable_bounded v (by_var x n) = absurd v
reusable_bounded v (by_app g s t u) = absurd v
reusable_bounded v (by_let g s t u) = absurd v
reusable_bounded v (by_lift b p n t) = b
reusable_bounded v (by_force t) = absurd v
reusable_bounded v (by_apply g s t u) = absurd v

-- The input type of a box of a value is a wire type within the bound.
box_input : {Q : LabelContext} {T A : Ty} {W : Term}
    → Truth (value W)
    → [] ∣ Q ⊢ box T W ∶ A
    → Truth (is_wire_type T) × (entries T ≤ most_entries)
box_input v (by_box t u d) = let b = reusable_bounded v d in (t, omega (arith, b))

-- Box entry, in a typed program: the box's type is a wire type, within the bound.
pub typed_box : {A : Ty} (types : ℕ → Ty) (positions : ℕ) (n m : Node) (t : Tree) (hs : List Hole) (C : Circuit)
    (Cs : List Circuit) (closed : List Boxed)
    → StateFits positions (state (returning (one m t) (only n ∷ hs)) C Cs closed)
    → ProgramHas A (decode types (state (returning (one m t) (only n ∷ hs)) C Cs closed))
    → one_kind (kind n) ≡ a_box
    → Truth (is_wire_type (types (argument n))) × (entries (types (argument n)) ≤ most_entries)
typed_box types positions n m t hs C Cs closed h typed p =
    let e = environment types closed in
    let d =
    part_typed types positions (one n (one m t)) hs C _ closed (box (types (argument n)) (meaning e (one m t)))
    h.0.2.1 (ap (λ c. one_term c (types (argument n)) (meaning e (one m t))) p) typed in
    box_input (value_of e (one m t) h.0.1) d.2

-- The term of an apply of a node without parts to a label tuple.
apply_means : (e : Environment) (n m : Node) (v : Tree) (k : Tuple) (M : Term)
    → two_kind (kind n) ≡ an_apply
    → leaf_term (leaf_kind (kind m)) (argument m) (e.closed_at (argument m)) ≡ M
    → tuple_of_tree v ≡ some k
    → meaning e (two n (leaf m) v) ≡ apply M (tuple k)
apply_means e n m v k M p q r =
    ap (λ c. two_term c (meaning e (leaf m)) (meaning e v)) p ∙ ap₂ apply q (tuple_means e v k r)

-- A tree that is a typed tuple has as many nodes as its type has entries.
tree_entries : {Q : LabelContext} {T : Ty} (v : Tree) (k : Tuple)
    → tuple_of_tree v ≡ some k
    → [] ∣ Q ⊢ tuple k ∶ T
    → length (preorder v) ≡ entries T
tree_entries v k r d = tuple_nodes (is_tuple v k r) ∙ nodes_typed k d

-- A gate takes one type.
gate_input : {Q : LabelContext} {S U S' U' : Ty} (a : ℕ)
    → gate_type a ≡ some (S to U)
    → [] ∣ Q ⊢ gate a ∶ Circ S' U'
    → S' ≡ S
gate_input a g (by_gate p l g') = cc

-- The tuple that a gate is applied to has its input type.
gate_argument : {Q : LabelContext} {A T U : Ty} (a : ℕ) (k : Tuple)
    → gate_type a ≡ some (T to U)
    → [] ∣ Q ⊢ apply (gate a) (tuple k) ∶ A
    → (R : LabelContext) × ([] ∣ R ⊢ tuple k ∶ T)
gate_argument a k g (by_apply {Q₂ = R} split_end s d e) =
    (R, subst (λ S. [] ∣ R ⊢ tuple k ∶ S) (gate_input a g d) e)

-- Apply of a gate to a label tuple, in a typed program: the tuple has the gate's input type, within the bound.
pub typed_gate : {A : Ty} (types : ℕ → Ty) (positions : ℕ) (n m : Node) (v : Tree) (hs : List Hole) (C : Circuit)
    (Cs : List Circuit) (closed : List Boxed) (T U : Ty) (k : Tuple)
    → StateFits positions (state (returning v (second n (leaf m) ∷ hs)) C Cs closed)
    → ProgramHas A (decode types (state (returning v (second n (leaf m) ∷ hs)) C Cs closed))
    → two_kind (kind n) ≡ an_apply
    → leaf_kind (kind m) ≡ a_gate
    → gate_type (argument m) ≡ some (T to U)
    → tuple_of_tree v ≡ some k
    → (length (labels k) ≡ length (wires T)) × (length (preorder v) ≡ entries T) × (entries T ≤ most_entries)
typed_gate types positions n m v hs C Cs closed T U k h typed p q g r =
    let e = environment types closed in
    let d =
    part_typed types positions (two n (leaf m) v) hs C _ closed (apply (gate (argument m)) (tuple k)) h.0.2.1
    (apply_means e n m v k (gate (argument m)) p
    (ap (λ c. leaf_term c (argument m) (circuit_at closed (argument m))) q) r)
    typed in
    let (R, t) = gate_argument (argument m) k g d.2 in
    (labels_typed k t, tree_entries v k r t, bounded_typed k t)

-- The types of a circuit constant and of the tuple that it is applied to.
record ConstantApplied (T : Ty) (gs : List Gate) (r k : Tuple) : Type 0 where
  U : Ty
  R : LabelContext
  argument_has : [] ∣ R ⊢ tuple k ∶ T
  constant_has : [] ∣ (λ ℓ. none) ⊢ constant (boxed T gs r) ∶ Circ T U

-- They come from the typing of the apply.
constant_argument : {Q : LabelContext} {A T : Ty} {gs : List Gate} {r : Tuple} (k : Tuple)
    → [] ∣ Q ⊢ apply (constant (boxed T gs r)) (tuple k) ∶ A
    → ConstantApplied T gs r k
constant_argument k (by_apply {Q₂ = R} {U = U} split_end s (by_circ p l w b sound t) e) =
    record {
      U = U;
      R = R;
      argument_has = e;
      constant_has = by_circ parameters_end (λ ℓ. refl) w b sound t;
    }

-- Apply of a circuit constant to a label tuple, in a typed program: the tuple has the constant's input type, and
-- the constant has a type with no labels.
pub typed_constant : {A : Ty} (types : ℕ → Ty) (positions : ℕ) (n m : Node) (v : Tree) (hs : List Hole) (C : Circuit)
    (Cs : List Circuit) (closed : List Boxed) (T : Ty) (gs : List Gate) (r k : Tuple)
    → StateFits positions (state (returning v (second n (leaf m) ∷ hs)) C Cs closed)
    → ProgramHas A (decode types (state (returning v (second n (leaf m) ∷ hs)) C Cs closed))
    → two_kind (kind n) ≡ an_apply
    → leaf_kind (kind m) ≡ a_constant
    → circuit_at closed (argument m) ≡ boxed T gs r
    → tuple_of_tree v ≡ some k
    → (length (labels k) ≡ length (wires T))
    × (length (preorder v) ≡ entries T)
    × ((U : Ty) × ([] ∣ (λ ℓ. none) ⊢ constant (boxed T gs r) ∶ Circ T U))
typed_constant types positions n m v hs C Cs closed T gs r k h typed p q c s =
    let e = environment types closed in
    let d =
    part_typed types positions (two n (leaf m) v) hs C _ closed (apply (constant (boxed T gs r)) (tuple k))
    h.0.2.1
    (apply_means e n m v k (constant (boxed T gs r)) p
    (ap (λ x. leaf_term x (argument m) (circuit_at closed (argument m))) q ∙ ap constant c) s)
    typed in
    let a = constant_argument k d.2 in
    (labels_typed k a.argument_has, tree_entries v k s a.argument_has, (a.U, a.constant_has))

-- Box exit with a label tuple, in a typed program: as many nodes as a type within the bound has entries.
pub typed_exit : {A : Ty} (types : ℕ → Ty) (positions : ℕ) (n : Node) (b v : Tree) (hs : List Hole) (C : Circuit)
    (Cs : List Circuit) (closed : List Boxed) (k : Tuple)
    → StateFits positions (state (returning v (opened n b ∷ hs)) C Cs closed)
    → ProgramHas A (decode types (state (returning v (opened n b ∷ hs)) C Cs closed))
    → tuple_of_tree v ≡ some k
    → length (preorder v) ≤ most_entries
typed_exit types positions n b v hs C Cs closed k h typed r =
    let (B, Q, d) = top_typed typed in
    let t = subst (λ N. [] ∣ Q ⊢ N ∶ B) (tuple_means (environment types closed) v k r) d in
    omega (arith, tree_entries v k r t, bounded_typed k t)
