-- Laws of specs/Tuples.antt.
use Rattle.std.specs.Prelude.{ℕ, suc, ◌+◌, ◌≤◌, ◌<◌, ◌%◌, ◌≡◌, refl, cond, List, [], ◌∷◌, ◌++◌, map, T as Truth, eqb, length, take, drop}
use Rattle.std.proofs.Common.{arith, sym, ◌∙◌, ap, ap₂, append_assoc, append-nil, length-append, eq-eqb, ne_eqb}
use Rattle.rules.specs.Kinds.{pair_type_kind, function_kind, reusable_kind, circuit_kind, unit_kind, label_kind, pair_kind}
use Rattle.rules.specs.Kinds.{unit_value_kind}
use Rattle.rules.specs.Parts.{parts_of_kind}
use Rattle.rules.proofs.Laws.Parts.{parts_of_type}
use Rattle.rules.specs.Types.{Wire, Bit, Qubit, Ty, wire, ◌⊗◌, ◌⊸◌, !◌, Circ, is_wire_type, wires, entries, wire_code}
use Rattle.rules.specs.Types.{type_codes, unit}
use Rattle.rules.specs.Terms.{Tuple, single, both, labels, tuple_from, empty}
use Rattle.rules.specs.Circuits.{rename, rename_tuple}
use Rattle.machine_terms.specs.Trees.{Node, node, kind, argument, Tree, preorder, tuple_tree}
use Rattle.machine_terms.proofs.Laws.Tuples.{IsTuple, is_label, is_pair, is_unit_value}
use Rattle.rules.specs.Slots.{no_wire}
use Rattle.rules.proofs.Laws.Booleans.{and_left, and_right}
use Rattle.machine_circuits.specs.Layout.{tuple_words, no_label}
use Rattle.machine_nodes.specs.Nodes.{node_at, no_node}
use Rattle.machine_nodes.specs.Spans.{span_by}
use Rattle.machine_circuits.proofs.Laws.Prefixes.{prefix_next}
use Rattle.machine_circuits.specs.Copies.{AllBelow}
use Rattle.machine_circuits.proofs.Laws.Copies.{renamed_below}
use Rattle.machine_circuits.specs.Tuples.{label_of, label_numbers, labels_passed, word_of, loaded_node, node_of_code}
use Rattle.machine_circuits.specs.Tuples.{label_after, code_span}

-- Two tests of a number, one after the other.
module _ {A : Type 0} (k p q : ℕ) (a b c : A) where
  pub first_passes : k ≡ p → cond (eqb k p) a (cond (eqb k q) b c) ≡ a
  first_passes e = ap (λ t. cond t a (cond (eqb k q) b c)) (eq-eqb k p e)

  pub second_passes : (k ≡ p → ⊥) → k ≡ q → cond (eqb k p) a (cond (eqb k q) b c) ≡ b
  second_passes h e = ap₂ (λ t u. cond t a (cond u b c)) (ne_eqb k p h) (eq-eqb k q e)

  pub none_passes : (k ≡ p → ⊥) → (k ≡ q → ⊥) → cond (eqb k p) a (cond (eqb k q) b c) ≡ c
  none_passes h h' = ap₂ (λ t u. cond t a (cond u b c)) (ne_eqb k p h) (ne_eqb k q h')

-- A tuple has as many nodes as words, and at least one.
pub tuple_size : (k : Tuple) → length (preorder (tuple_tree k)) ≡ length (tuple_words k)
tuple_size (single ℓ) = refl
tuple_size empty = refl
tuple_size (both k l) =
    ap suc (
    length-append (preorder (tuple_tree k)) (preorder (tuple_tree l))
    ∙ ap₂ ◌+◌ (tuple_size k) (tuple_size l)
    ∙ sym (length-append (tuple_words k) (tuple_words l))
    )

-- The tuple of a wire type's wires has as many nodes as the type has entries.
pub tuple_entries : (ℓ : ℕ) (T : Ty) → Truth (is_wire_type T) → length (preorder (tuple_tree (tuple_from ℓ T))) ≡ entries T
tuple_entries ℓ (wire α) t = refl
tuple_entries ℓ unit t = refl
tuple_entries ℓ (A ⊗ B) t =
    let k = preorder (tuple_tree (tuple_from ℓ A)) in
    let l = preorder (tuple_tree (tuple_from (ℓ + length (wires A)) B)) in
    omega (
      arith,
      length-append k l,
      tuple_entries ℓ A (and_left (is_wire_type A) (is_wire_type B) t),
      tuple_entries (ℓ + length (wires A)) B (and_right (is_wire_type A) (is_wire_type B) t),
    )
tuple_entries ℓ (A ⊸ B) t = absurd t
tuple_entries ℓ (! A) t = absurd t
tuple_entries ℓ (Circ T U) t = absurd t

-- No type has more wires than entries.
pub wires_few : (T : Ty) → length (wires T) ≤ entries T
wires_few (wire α) = omega arith
wires_few unit = omega arith
wires_few (A ⊗ B) = omega (arith, length-append (wires A) (wires B), wires_few A, wires_few B)
wires_few (A ⊸ B) = omega arith
wires_few (! A) = omega arith
wires_few (Circ T U) = omega arith

pub labels_append : (ns ms : List Node) → label_numbers (ns ++ ms) ≡ label_numbers ns ++ label_numbers ms
labels_append [] ms = refl
labels_append (n ∷ ns) ms =
    ap (λ l. label_of n ++ l) (labels_append ns ms)
    ∙ sym (append_assoc (label_of n) (label_numbers ns) (label_numbers ms))

pub labels_tree : {v : Tree} {k : Tuple} → IsTuple v k → label_numbers (preorder v) ≡ labels k
labels_tree (is_label {n = n} e) = ap (λ b. cond b (argument n ∷ []) [] ++ []) (eq-eqb (kind n) label_kind e)
labels_tree (is_unit_value {n = n} e) =
    ap (λ b. cond b (argument n ∷ []) [] ++ []) (ne_eqb (kind n) label_kind (λ h. omega arith))
labels_tree (is_pair {n = n} {t = t} {u = u} {k = k} {l = l} e i j) =
    ap (λ b. cond b (argument n ∷ []) [] ++ label_numbers (preorder t ++ preorder u)) (ne_eqb (kind n) label_kind (λ h. omega arith))
    ∙ labels_append (preorder t) (preorder u)
    ∙ ap₂ ◌++◌ (labels_tree i) (labels_tree j)

labels_next : (ns : List Node) (at i : ℕ)
    → at + i < length ns
    → labels_passed ns at (i + 1) ≡ labels_passed ns at i ++ label_of (node_at ns (at + i))
labels_next ns at i h =
    ap label_numbers (prefix_next ns at i no_node h)
    ∙ labels_append (take i (drop at ns)) (node_at ns (at + i) ∷ [])
    ∙ ap (λ l. labels_passed ns at i ++ l) (append-nil (label_of (node_at ns (at + i))))

pub label_passed : (ns : List Node) (at i : ℕ)
    → at + i < length ns
    → kind (node_at ns (at + i)) ≡ label_kind
    → labels_passed ns at (i + 1) ≡ labels_passed ns at i ++ (argument (node_at ns (at + i)) ∷ [])
label_passed ns at i h e =
    labels_next ns at i h
    ∙ ap
    (λ b. labels_passed ns at i ++ cond b (argument (node_at ns (at + i)) ∷ []) [])
    (eq-eqb (kind (node_at ns (at + i))) label_kind e)

pub other_passed : (ns : List Node) (at i : ℕ)
    → at + i < length ns
    → (kind (node_at ns (at + i)) ≡ label_kind → ⊥)
    → labels_passed ns at (i + 1) ≡ labels_passed ns at i
other_passed ns at i h e =
    labels_next ns at i h
    ∙ ap
    (λ b. labels_passed ns at i ++ cond b (argument (node_at ns (at + i)) ∷ []) [])
    (ne_eqb (kind (node_at ns (at + i))) label_kind e)
    ∙ append-nil (labels_passed ns at i)

map-append : {A B : Type 0} (f : A → B) (xs ys : List A) → map f (xs ++ ys) ≡ map f xs ++ map f ys
map-append f [] ys = refl
map-append f (x ∷ xs) ys = ap (λ l. f x ∷ l) (map-append f xs ys)

pub words_tree : {v : Tree} {k : Tuple} → IsTuple v k → map word_of (preorder v) ≡ tuple_words k
words_tree (is_label {n = n} e) =
    ap (λ w. w ∷ [])
    (none_passes (kind n) pair_kind unit_value_kind no_wire no_label (argument n) (λ h. omega arith) (λ h. omega arith))
words_tree (is_unit_value {n = n} e) =
    ap (λ w. w ∷ [])
    (second_passes (kind n) pair_kind unit_value_kind no_wire no_label (argument n) (λ h. omega arith) e)
words_tree (is_pair {n = n} {t = t} {u = u} e i j) =
    ap₂ ◌∷◌
    (first_passes (kind n) pair_kind unit_value_kind no_wire no_label (argument n) e)
    (map-append word_of (preorder t) (preorder u) ∙ ap₂ ◌++◌ (words_tree i) (words_tree j))

all_below_left : (m : ℕ) (xs ys : List ℕ) → AllBelow m (xs ++ ys) → AllBelow m xs
all_below_left m [] ys h = tt
all_below_left m (x ∷ xs) ys h = (h.0, all_below_left m xs ys h.1)

all_below_right : (m : ℕ) (xs ys : List ℕ) → AllBelow m (xs ++ ys) → AllBelow m ys
all_below_right m [] ys h = h
all_below_right m (x ∷ xs) ys h = all_below_right m xs ys h.1

loaded_label : (ks : List ℕ) (next m ℓ : ℕ)
    → AllBelow 65536 ks
    → m ≤ no_label
    → next + m ≤ no_wire
    → ℓ < m
    → loaded_node ks next ℓ ≡ node label_kind (rename ks next ℓ)
loaded_label ks next m ℓ low apart room below =
    let small : rename ks next ℓ < 65536 = renamed_below ks next m ℓ low room below in
    let e : rename ks next ℓ % 65536 ≡ rename ks next ℓ = omega arith in
    none_passes ℓ no_wire no_label (node pair_kind 0) (node unit_value_kind 0) (node label_kind (rename ks next ℓ % 65536))
    (λ p. omega arith) (λ p. omega arith)
    ∙ ap (node label_kind) e

pub loaded_tuple : (ks : List ℕ) (next m : ℕ) (k : Tuple)
    → AllBelow 65536 ks
    → m ≤ no_label
    → next + m ≤ no_wire
    → AllBelow m (labels k)
    → map (loaded_node ks next) (tuple_words k) ≡ preorder (tuple_tree (rename_tuple ks next k))
loaded_tuple ks next m (single ℓ) low apart room below =
    ap (λ n. n ∷ []) (loaded_label ks next m ℓ low apart room below.0)
loaded_tuple ks next m empty low apart room below = refl
loaded_tuple ks next m (both k l) low apart room below =
    ap
    (λ t. node pair_kind 0 ∷ t)
    (map-append (loaded_node ks next) (tuple_words k) (tuple_words l)
    ∙ ap₂
    ◌++◌
    (loaded_tuple ks next m k low apart room (all_below_left m (labels k) (labels l) below))
    (loaded_tuple ks next m l low apart room (all_below_right m (labels k) (labels l) below)))

abbrev pub nodes_of_codes : ℕ → List ℕ → List Node
nodes_of_codes ℓ [] = []
nodes_of_codes ℓ (c ∷ cs) = node_of_code ℓ c ∷ nodes_of_codes (label_after ℓ c) cs

abbrev pub label_behind : ℕ → List ℕ → ℕ
label_behind ℓ [] = ℓ
label_behind ℓ (c ∷ cs) = label_behind (label_after ℓ c) cs

pub nodes_append : (ℓ : ℕ) (cs ds : List ℕ)
    → nodes_of_codes ℓ (cs ++ ds) ≡ nodes_of_codes ℓ cs ++ nodes_of_codes (label_behind ℓ cs) ds
nodes_append ℓ [] ds = refl
nodes_append ℓ (c ∷ cs) ds = ap (λ t. node_of_code ℓ c ∷ t) (nodes_append (label_after ℓ c) cs ds)

pub behind_append : (ℓ : ℕ) (cs ds : List ℕ) → label_behind ℓ (cs ++ ds) ≡ label_behind (label_behind ℓ cs) ds
behind_append ℓ [] ds = refl
behind_append ℓ (c ∷ cs) ds = behind_append (label_after ℓ c) cs ds

pub length_nodes_of_codes : (ℓ : ℕ) (cs : List ℕ) → length (nodes_of_codes ℓ cs) ≡ length cs
length_nodes_of_codes ℓ [] = refl
length_nodes_of_codes ℓ (c ∷ cs) = ap suc (length_nodes_of_codes (label_after ℓ c) cs)

-- The code of a wire is neither that of a pair nor that of unit.
wire_code_lem : (ℓ : ℕ) (α : Wire) → node_of_code ℓ (wire_code α) ≡ node label_kind (ℓ % 65536)
wire_code_lem ℓ Bit = refl
wire_code_lem ℓ Qubit = refl

wire_after : (ℓ : ℕ) (α : Wire) → label_after ℓ (wire_code α) ≡ ℓ + 1
wire_after ℓ Bit = refl
wire_after ℓ Qubit = refl

-- Behind the tuple of a wire type, as many labels are used as it has wires.
pub behind_type : (ℓ : ℕ) (T : Ty) → Truth (is_wire_type T) → label_behind ℓ (type_codes T) ≡ ℓ + length (wires T)
behind_type ℓ (wire α) t = wire_after ℓ α
behind_type ℓ unit t = omega arith
behind_type ℓ (A ⊗ B) t =
    behind_append ℓ (type_codes A) (type_codes B)
    ∙ ap (λ j. label_behind j (type_codes B)) (behind_type ℓ A (and_left (is_wire_type A) (is_wire_type B) t))
    ∙ behind_type (ℓ + length (wires A)) B (and_right (is_wire_type A) (is_wire_type B) t)
    ∙ omega (arith, length-append (wires A) (wires B))
behind_type ℓ (A ⊸ B) t = absurd t
behind_type ℓ (! A) t = absurd t
behind_type ℓ (Circ T U) t = absurd t

-- The nodes from a wire type's codes are those of the tuple of its wires.
pub nodes_type : (ℓ : ℕ) (T : Ty)
    → Truth (is_wire_type T)
    → ℓ + length (wires T) ≤ 65536
    → nodes_of_codes ℓ (type_codes T) ≡ preorder (tuple_tree (tuple_from ℓ T))
nodes_type ℓ (wire α) t room =
    let e : ℓ % 65536 ≡ ℓ = omega arith in
    ap (λ n. n ∷ []) (wire_code_lem ℓ α ∙ ap (node label_kind) e)
nodes_type ℓ unit t room = refl
nodes_type ℓ (A ⊗ B) t room =
    let long : length (wires A ++ wires B) ≡ length (wires A) + length (wires B) = length-append (wires A) (wires B) in
    ap
    (λ l. node pair_kind 0 ∷ l)
    (nodes_append ℓ (type_codes A) (type_codes B)
    ∙ ap₂
    ◌++◌
    (nodes_type ℓ A (and_left (is_wire_type A) (is_wire_type B) t) (omega arith))
    (ap (λ j. nodes_of_codes j (type_codes B)) (behind_type ℓ A (and_left (is_wire_type A) (is_wire_type B) t))
    ∙ nodes_type (ℓ + length (wires A)) B (and_right (is_wire_type A) (is_wire_type B) t) (omega arith)))
nodes_type ℓ (A ⊸ B) t room = absurd t
nodes_type ℓ (! A) t room = absurd t
nodes_type ℓ (Circ T U) t room = absurd t

-- A type takes as many codes as it has entries: of two parts, the codes of both.
of_two : (c : ℕ) (T U : Ty) (cs : List ℕ) (waiting : ℕ)
    → parts_of_kind c ≡ 2
    → code_span (type_codes T ++ (type_codes U ++ cs)) (suc (suc waiting)) ≡ entries T + code_span (type_codes U ++ cs) (suc waiting)
    → code_span (type_codes U ++ cs) (suc waiting) ≡ entries U + code_span cs waiting
    → code_span (c ∷ ((type_codes T ++ type_codes U) ++ cs)) (suc waiting) ≡ 1 + (entries T + entries U) + code_span cs waiting
unfolding span_by
of_two c T U cs waiting two first second =
    let e : waiting + parts_of_kind c ≡ suc (suc waiting) = omega (arith, two) in
    rw (e, append_assoc (type_codes T) (type_codes U) cs) (omega (arith, first, second))

pub span_type : (T : Ty) (cs : List ℕ) (waiting : ℕ) → code_span (type_codes T ++ cs) (suc waiting) ≡ entries T + code_span cs waiting
unfolding span_by
span_type (wire α) cs waiting =
    let none : parts_of_kind (wire_code α) ≡ 0 = parts_of_type (wire α) in
    let e : waiting + parts_of_kind (wire_code α) ≡ waiting = omega (arith, none) in
    rw e (omega arith)
span_type unit cs waiting =
    let none : parts_of_kind unit_kind ≡ 0 = parts_of_type unit in
    let e : waiting + parts_of_kind unit_kind ≡ waiting = omega (arith, none) in
    rw e (omega arith)
span_type (A ⊗ B) cs waiting =
    of_two pair_type_kind A B cs waiting (parts_of_type (A ⊗ B)) (span_type A (type_codes B ++ cs) (suc waiting)) (span_type B cs waiting)
span_type (A ⊸ B) cs waiting =
    of_two function_kind A B cs waiting (parts_of_type (A ⊸ B)) (span_type A (type_codes B ++ cs) (suc waiting)) (span_type B cs waiting)
span_type (! A) cs waiting =
    let one : parts_of_kind reusable_kind ≡ 1 = parts_of_type (! A) in
    let e : waiting + parts_of_kind reusable_kind ≡ suc waiting = omega (arith, one) in
    rw e (omega (arith, span_type A cs waiting))
span_type (Circ T U) cs waiting =
    of_two circuit_kind T U cs waiting (parts_of_type (Circ T U)) (span_type T (type_codes U ++ cs) (suc waiting)) (span_type U cs waiting)
