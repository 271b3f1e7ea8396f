-- What is known of the tree, the types and the sections of an accepted file.
use Rattle.std.specs.Prelude.{ℕ, zero, suc, ◌+◌, ◌-◌, ◌≤◌, ◌<◌, ◌≡◌, refl, List, [], ◌∷◌, ◌++◌, map, drop}
use Rattle.std.proofs.Common.{arith, sym, ◌∙◌, ap₂, subst, drop_at}
use Rattle.std.proofs.Math.Path.{ap}
use Rattle.std.proofs.Math.Option.{some}
use Rattle.std.proofs.Math.ListN.{length}
use Rattle.rules.specs.Types.{Wire, Bit, Ty, wire, entries, wire_code, type_codes, most_entries}
use Rattle.rules.specs.Gates.{nth}
use Rattle.rules.specs.Terms.{single, boxed, Term, variable, label, gate, abstraction, application, pair, let_in, lift}
use Rattle.rules.specs.Terms.{force, box, apply, unit_value}
use Rattle.rules.specs.Sizes.{nodes, most_types}
use Rattle.rules.specs.Steps.{start}
use Rattle.rules.proofs.Laws.TypeCodes.{entries_positive}
use Rattle.program.specs.Format.{label_count, type_count, term_count, first_term, kind_at, argument_at}
use Rattle.program.specs.Reading.{read_of, accepted as read_accepted}
use Rattle.program.specs.Trees.{TypeAt, bit_at, qubit_at, tensor_at, function_at, reusable_at, circ_at, TypeAtPosition}
use Rattle.program.specs.Trees.{at_position, TermAt, variable_term_at, label_at, abstraction_at, application_at, pair_at, let_at}
use Rattle.program.specs.Trees.{lift_at, force_at, box_term_at, apply_at, gate_term_at, AcceptedFile, unit_at, unit_value_at}
use Rattle.program.proofs.Theorems.Accepting.{read_sound}
use Rattle.program.proofs.Theorems.Programs.{accepted_nodes}
use Rattle.program.proofs.Laws.TreeTraversal.{term_end, type_end}
use Rattle.machine_terms.specs.Trees.{Tree, two, preorder, LeafKind, a_variable, a_label, a_gate, leaf_kind, OneKind}
use Rattle.machine_terms.specs.Trees.{an_abstraction, a_lift, a_force, a_box, one_kind, TwoKind, an_application, a_pair}
use Rattle.machine_terms.specs.Trees.{a_let, an_apply, two_kind, parts, ConstantFits, PositionFits, WellKinded, a_unit_value}
use Rattle.machine_terms.specs.Meaning.{environment, leaf_term, one_term, two_term, meaning}
use Rattle.machine_terms.specs.States.{start_state, decode}
use Rattle.machine_terms.proofs.Laws.Kinds.{leaf_number, one_number, two_number, leaf_number_read, one_number_read}
use Rattle.machine_terms.proofs.Laws.Kinds.{two_number_read}
use Rattle.words.specs.Regions.{Stands}
use Rattle.words.proofs.Laws.Regions.{stands_first}
use Rattle.check_program.specs.Answers.{labels_of, built, term_of}
use Rattle.check_program.proofs.Laws.Counting.{some_node}
use Rattle.check_program.proofs.Laws.ReadBack.{built_two, type_read, named_read, file_read}
use Rattle.machine_load.specs.Trees.{values_from, node_from, with_parts, tree_from, tree_of, types_of}
use Rattle.machine_load.proofs.Laws.Trees.{label_kinds, type_kinds, term_nodes}
use Rattle.machine_load.proofs.Laws.Values.{no_values, next_value, length_values, values_append}

-- A tree is that of the term M at entry e: it is well-kinded, it means M, and its nodes are those of the file.
pub record TreeAt (f : List ℕ) (e : ℕ) (M : Term) (t : Tree) : Type 0 where
  pub kinded : WellKinded (type_count f) 0 t
  pub means : meaning (environment (types_of f) []) t ≡ M
  pub nodes_are : preorder t ≡ values_from (node_from f) e (nodes M)

-- The tree at an entry, one law for each number of parts.
module _ (f : List ℕ) (e most : ℕ) where
  -- The tree is built with as many parts as the kind has.
  with_parts_lem : (k : ℕ)
      → parts (kind_at f e) ≡ k
      → tree_from (suc most) f e
      ≡ built (λ t. length (preorder t)) (λ i. tree_from most f i) e (with_parts k (node_from f e))
  unfolding tree_from
  with_parts_lem k q =
      ap (λ k. built (λ t. length (preorder t)) (λ i. tree_from most f i) e (with_parts k (node_from f e))) q

  -- No part: variable, label, gate, unit's value.
  leaf_at : (c : LeafKind) (M : Term)
      → kind_at f e ≡ leaf_number c
      → ConstantFits c 0 (argument_at f e)
      → leaf_term c (argument_at f e) (boxed (wire Bit) [] (single 0)) ≡ M
      → nodes M ≡ 1
      → TreeAt f e M (tree_from (suc most) f e)
  leaf_at c M k fits q one_node =
      let is_kind : leaf_kind (kind_at f e) ≡ c = ap leaf_kind k ∙ (leaf_number_read c).0 in
      let no_parts : parts (kind_at f e) ≡ 0 = ap parts k ∙ (leaf_number_read c).1 in
      subst (TreeAt f e M) (sym (with_parts_lem 0 no_parts)) (record {
        kinded = (no_parts, subst (λ c. ConstantFits c 0 (argument_at f e)) (sym is_kind) fits);
        means = ap (λ c. leaf_term c (argument_at f e) (boxed (wire Bit) [] (single 0))) is_kind ∙ q;
        nodes_are =
            ap (λ l. node_from f e ∷ l) (sym (no_values (node_from f) (suc e)))
            ∙ sym (next_value (node_from f) e 0)
            ∙ ap (values_from (node_from f) e) (sym one_node);
      })

  -- One part: abstraction, lift, force, box.
  one_at : (c : OneKind) (M M' : Term)
      → kind_at f e ≡ one_number c
      → PositionFits c (type_count f) (argument_at f e)
      → TreeAt f (suc e) M (tree_from most f (suc e))
      → one_term c (types_of f (argument_at f e)) M ≡ M'
      → nodes M' ≡ suc (nodes M)
      → TreeAt f e M' (tree_from (suc most) f e)
  one_at c M M' k fits part q more =
      let is_kind : one_kind (kind_at f e) ≡ c = ap one_kind k ∙ (one_number_read c).0 in
      let one_part : parts (kind_at f e) ≡ 1 = ap parts k ∙ (one_number_read c).1 in
      subst (TreeAt f e M') (sym (with_parts_lem 1 one_part)) (record {
        kinded =
            ((one_part, subst (λ c. PositionFits c (type_count f) (argument_at f e)) (sym is_kind) fits), part.kinded);
        means =
            ap₂ (λ c M. one_term c (types_of f (argument_at f e)) M) is_kind part.means ∙ q;
        nodes_are =
            ap (λ l. node_from f e ∷ l) part.nodes_are
            ∙ sym (next_value (node_from f) e (nodes M))
            ∙ ap (values_from (node_from f) e) (sym more);
      })

  -- Two parts: application, pair, let, apply.
  two_at : (c : TwoKind) (M N M' : Term) (m : ℕ)
      → kind_at f e ≡ two_number c
      → m ≡ suc e + nodes M
      → TreeAt f (suc e) M (tree_from most f (suc e))
      → TreeAt f m N (tree_from most f m)
      → two_term c M N ≡ M'
      → nodes M' ≡ suc (nodes M + nodes N)
      → TreeAt f e M' (tree_from (suc most) f e)
  two_at c M N M' m k at first second q more =
      let is_kind : two_kind (kind_at f e) ≡ c = ap two_kind k ∙ (two_number_read c).0 in
      let two_parts : parts (kind_at f e) ≡ 2 = ap parts k ∙ (two_number_read c).1 in
      let t = tree_from most f (suc e) in
      let u = tree_from most f m in
      let long : m ≡ suc e + length (preorder t)
      = at ∙ ap (λ n. suc e + n) (sym (ap length first.nodes_are ∙ length_values (node_from f) (suc e) (nodes M))) in
      let whole : tree_from (suc most) f e ≡ two (node_from f e) t u
      = with_parts_lem 2 two_parts
      ∙ built_two (λ t. length (preorder t)) (λ i. tree_from most f i) e (two (node_from f e)) t u m long refl refl in
      subst (TreeAt f e M') (sym whole) (record {
        kinded = (two_parts, first.kinded, second.kinded);
        means =
            ap (λ c. two_term c (meaning (environment (types_of f) []) t) (meaning (environment (types_of f) []) u)) is_kind
            ∙ ap₂ (two_term c) first.means second.means
            ∙ q;
        nodes_are =
            ap₂ (λ l l'. node_from f e ∷ (l ++ l')) first.nodes_are second.nodes_are
            ∙ ap (λ i. node_from f e ∷ (values_from (node_from f) (suc e) (nodes M) ++ values_from (node_from f) i (nodes N))) at
            ∙ ap (λ l. node_from f e ∷ l) (sym (values_append (node_from f) (suc e) (nodes M) (nodes N)))
            ∙ sym (next_value (node_from f) e (nodes M + nodes N))
            ∙ ap (values_from (node_from f) e) (sym more);
      })

-- A position at which a type stands is one of the type section.
position_inside : (f : List ℕ) (p : ℕ) (A : Ty) → TypeAtPosition f p A → p < type_count f
position_inside f p A (at_position d h) = omega (arith, type_end d, entries_positive A)

-- The tree of a term that stands at an entry.
tree_at_lem : {f : List ℕ} {e n : ℕ} {M : Term} (most : ℕ)
    → type_count f ≤ most_types → TermAt f e M n → nodes M ≤ most → TreeAt f e M (tree_from most f e)
tree_at_lem {M = M} zero t d h = absurd (omega (arith, some_node M))
tree_at_lem {f} (suc most) t (variable_term_at {e = e} {x = x} k a) h = leaf_at f e most a_variable (variable x) k tt (ap variable a) refl
tree_at_lem {f} (suc most) t (label_at {e = e} {x = x} k a) h = leaf_at f e most a_label (label x) k tt (ap label a) refl
tree_at_lem {f} (suc most) t (gate_term_at {e = e} {x = x} k a) h = leaf_at f e most a_gate (gate x) k tt (ap gate a) refl
tree_at_lem {f} (suc most) t (unit_value_at {e = e} k a) h = leaf_at f e most a_unit_value unit_value k tt refl refl
tree_at_lem {f} (suc most) t (abstraction_at {e = e} {A = A} {M = M} k p d) h =
    one_at f e most an_abstraction M (abstraction A M) k (position_inside f (argument_at f e) A p)
    (tree_at_lem most t d (omega arith)) (ap (λ A. abstraction A M) (named_read e t p)) (omega arith)
tree_at_lem {f} (suc most) t (box_term_at {e = e} {T = T} {M = M} k p d) h =
    one_at f e most a_box M (box T M) k (position_inside f (argument_at f e) T p)
    (tree_at_lem most t d (omega arith)) (ap (λ A. box A M) (named_read e t p)) (omega arith)
tree_at_lem {f} (suc most) t (lift_at {e = e} {M = M} k a d) h =
    one_at f e most a_lift M (lift M) k tt (tree_at_lem most t d (omega arith)) refl (omega arith)
tree_at_lem {f} (suc most) t (force_at {e = e} {M = M} k a d) h =
    one_at f e most a_force M (force M) k tt (tree_at_lem most t d (omega arith)) refl (omega arith)
tree_at_lem {f} (suc most) t (application_at {e = e} {m = m} {M = M} {N = N} k a d d') h =
    two_at f e most an_application M N (application M N) m k (term_end d)
    (tree_at_lem most t d (omega arith)) (tree_at_lem most t d' (omega arith)) refl (omega arith)
tree_at_lem {f} (suc most) t (pair_at {e = e} {m = m} {M = M} {N = N} k a d d') h =
    two_at f e most a_pair M N (pair M N) m k (term_end d)
    (tree_at_lem most t d (omega arith)) (tree_at_lem most t d' (omega arith)) refl (omega arith)
tree_at_lem {f} (suc most) t (let_at {e = e} {m = m} {M = M} {N = N} k a d d') h =
    two_at f e most a_let M N (let_in M N) m k (term_end d)
    (tree_at_lem most t d (omega arith)) (tree_at_lem most t d' (omega arith)) refl (omega arith)
tree_at_lem {f} (suc most) t (apply_at {e = e} {m = m} {M = M} {N = N} k a d d') h =
    two_at f e most an_apply M N (apply M N) m k (term_end d)
    (tree_at_lem most t d (omega arith)) (tree_at_lem most t d' (omega arith)) refl (omega arith)

-- One kind before others.
first_kind : (f : List ℕ) (e k n : ℕ) (l : List ℕ)
    → kind_at f e ≡ k
    → l ≡ values_from (kind_at f) (suc e) n
    → k ∷ l ≡ values_from (kind_at f) e (1 + n)
first_kind f e k n l q r =
    let more : suc n ≡ 1 + n = omega arith in
    ap₂ (λ x l. x ∷ l) (sym q) r ∙ sym (next_value (kind_at f) e n) ∙ ap (values_from (kind_at f) e) more

-- The kinds of two types one behind the other.
both_kinds : (f : List ℕ) (e m : ℕ) (A B : Ty)
    → m ≡ e + entries A
    → type_codes A ≡ values_from (kind_at f) e (entries A)
    → type_codes B ≡ values_from (kind_at f) m (entries B)
    → type_codes A ++ type_codes B ≡ values_from (kind_at f) e (entries A + entries B)
both_kinds f e m A B at a b =
    ap₂ (λ l l'. l ++ l') a (b ∙ ap (λ i. values_from (kind_at f) i (entries B)) at)
    ∙ sym (values_append (kind_at f) e (entries A) (entries B))

-- A type that stands at an entry: its codes are the kinds from there on.
type_kinds_lem : {f : List ℕ} {e n : ℕ} {A : Ty} → TypeAt f e A n → type_codes A ≡ values_from (kind_at f) e (entries A)
type_kinds_lem {f} (bit_at {e = e} k) = first_kind f e 0 0 [] k (sym (no_values (kind_at f) (suc e)))
type_kinds_lem {f} (qubit_at {e = e} k) = first_kind f e 1 0 [] k (sym (no_values (kind_at f) (suc e)))
type_kinds_lem {f} (unit_at {e = e} k) = first_kind f e 6 0 [] k (sym (no_values (kind_at f) (suc e)))
type_kinds_lem {f} (tensor_at {e = e} {m = m} {A = A} {B = B} k d d') =
    first_kind f e 2 (entries A + entries B) (type_codes A ++ type_codes B) k
    (both_kinds f (suc e) m A B (type_end d) (type_kinds_lem d) (type_kinds_lem d'))
type_kinds_lem {f} (function_at {e = e} {m = m} {A = A} {B = B} k d d') =
    first_kind f e 3 (entries A + entries B) (type_codes A ++ type_codes B) k
    (both_kinds f (suc e) m A B (type_end d) (type_kinds_lem d) (type_kinds_lem d'))
type_kinds_lem {f} (circ_at {e = e} {m = m} {A = A} {B = B} k d d') =
    first_kind f e 5 (entries A + entries B) (type_codes A ++ type_codes B) k
    (both_kinds f (suc e) m A B (type_end d) (type_kinds_lem d) (type_kinds_lem d'))
type_kinds_lem {f} (reusable_at {e = e} {A = A} k d) = first_kind f e 4 (entries A) (type_codes A) k (type_kinds_lem d)

-- The wires of labels are the kinds of their entries.
label_kinds_are : (f : List ℕ) (e : ℕ) (labels : List Wire)
    → ((i : ℕ) (α : Wire) → nth labels i ≡ some α → kind_at f (e + i) ≡ wire_code α)
    → map wire_code labels ≡ values_from (kind_at f) e (length labels)
label_kinds_are f e [] kinds = sym (no_values (kind_at f) e)
label_kinds_are f e (α ∷ labels) kinds =
    let here : e + 0 ≡ e = omega arith in
    first_kind f e (wire_code α) (length labels) (map wire_code labels) (ap (kind_at f) (sym here) ∙ kinds 0 α refl)
    (label_kinds_are f (suc e) labels (λ i β q.
    let next : suc e + i ≡ e + suc i = omega arith in
    ap (kind_at f) next ∙ kinds (suc i) β q))
    ∙ ap (values_from (kind_at f) e) (omega arith)

-- The part of the values at numbers from e on that starts behind p of them.
values_part : (g : ℕ → ℕ) (e p m n : ℕ) → p + m ≤ n → Stands (values_from g e n) p (values_from g (e + p) m)
values_part g e p m n h =
    let rest = n - (p + m) in
    let all : n ≡ p + (m + rest) = omega arith in
    let whole : values_from g e n ≡ values_from g e p ++ (values_from g (e + p) m ++ values_from g ((e + p) + m) rest)
    = ap (values_from g e) all
    ∙ values_append g e p (m + rest)
    ∙ ap (λ l. values_from g e p ++ l) (values_append g (e + p) m rest) in
    subst (λ i. Stands (values_from g e n) i (values_from g (e + p) m)) (length_values g e p)
    (stands_first (values_from g e n) (length (values_from g e p)) (values_from g (e + p) m)
    (values_from g ((e + p) + m) rest)
    (ap (drop (length (values_from g e p))) whole
    ∙ drop_at (values_from g e p) (values_from g (e + p) m ++ values_from g ((e + p) + m) rest)
    (length (values_from g e p)) refl))

-- What is known of a file that the reader accepts.
module _ (f : List ℕ) (L P N : ℕ) (read : read_of f ≡ read_accepted L P N) where
  -- Its labels and its term are those that are read from it.
  pub accepted : AcceptedFile f (labels_of f) (term_of f)
  accepted = file_read (read_sound f L P N read).2

  -- The answer of the reader has its sizes.
  pub sizes_are : (L ≡ label_count f) × (P ≡ type_count f) × (N ≡ term_count f)
  sizes_are = let r = read_sound f L P N read in (r.3, r.4, r.5)

  -- The tree of the whole term section.
  whole_tree : TreeAt f (first_term f) (term_of f) (tree_of f)
  whole_tree = tree_at_lem (term_count f) accepted.types_fit accepted.term_is_at (omega (arith, accepted_nodes accepted))

  -- Each node of the tree has the parts that its kind asks for, its type positions are those of the file, and it has no
  -- circuit constant.
  pub tree_kinded : WellKinded (type_count f) 0 (tree_of f)
  tree_kinded = whole_tree.kinded

  -- The tree means the file's term.
  pub tree_means : meaning (environment (types_of f) []) (tree_of f) ≡ term_of f
  tree_means = whole_tree.means

  -- Its nodes are those of the term section.
  pub tree_nodes : preorder (tree_of f) ≡ term_nodes f
  tree_nodes = whole_tree.nodes_are ∙ ap (values_from (node_from f) (first_term f)) (accepted_nodes accepted)

  -- They are as many as the file says.
  pub tree_size : length (preorder (tree_of f)) ≡ term_count f
  tree_size = ap length tree_nodes ∙ length_values (node_from f) (first_term f) (term_count f)

  -- A type that stands at a position is the one read from there, it ends inside the section, and its codes are the kinds.
  position_read : (p : ℕ) (A : Ty) → TypeAtPosition f p A → (types_of f p ≡ A) × (p + entries A ≤ type_count f)
      × (type_codes A ≡ values_from (kind_at f) (label_count f + p) (entries A))
  position_read p A (at_position d h) =
      let end = type_end d in
      let few = accepted.types_fit in
      (type_read most_types d (omega arith), omega arith, type_kinds_lem d)

  -- It ends inside the section.
  type_fits : (p : ℕ) → p < type_count f → p + entries (types_of f p) ≤ type_count f
  type_fits p h =
      let t = accepted.type_at p h in
      let r = position_read p t.0 t.1 in
      omega (arith, ap entries r.0, r.1)

  -- It has at most 512 entries.
  pub types_small : (p : ℕ) → p < type_count f → entries (types_of f p) ≤ most_entries
  types_small p h = omega (arith, type_fits p h, accepted.types_fit)

  -- The codes of the type at a position are the kinds of the type section from that position on.
  pub types_codes : (p : ℕ) → p < type_count f → Stands (type_kinds f) p (type_codes (types_of f p))
  types_codes p h =
      let t = accepted.type_at p h in
      let r = position_read p t.0 t.1 in
      subst (Stands (type_kinds f) p) (sym (ap type_codes r.0 ∙ r.2))
      (values_part (kind_at f) (label_count f) p (entries t.0) (type_count f) r.1)

  -- The kinds of the label section are the wires of the labels.
  pub labels_codes : map wire_code (labels_of f) ≡ label_kinds f
  labels_codes =
      label_kinds_are f 0 (labels_of f) (λ i α q.
      let same : 0 + i ≡ i = omega arith in
      ap (kind_at f) same ∙ accepted.label_kinds_are i α q)
      ∙ ap (values_from (kind_at f) 0) accepted.label_count_is

  -- The start of the machine stands for the start of the rules.
  pub start_means : decode (types_of f) (start_state (labels_of f) (tree_of f)) ≡ start (labels_of f) (term_of f)
  start_means = ap (start (labels_of f)) tree_means
