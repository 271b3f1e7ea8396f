-- The functions that read trees from the bytes give the trees that stand there.
use Rattle.std.specs.Prelude.{ℕ, zero, suc, ◌+◌, ◌≤◌, ◌≡◌, refl, List, [], ◌∷◌, length}
use Rattle.std.proofs.Common.{arith, sym, ◌∙◌, ap, ap₂, subst}
use Rattle.std.proofs.Math.Option.{some}
use Rattle.rules.specs.Types.{Wire, Bit, Qubit, Ty, ◌⊗◌, ◌⊸◌, !◌, Circ, entries, wire_code}
use Rattle.rules.specs.Gates.{nth}
use Rattle.rules.specs.Terms.{Term, variable, label, gate, abstraction, application, pair, let_in, lift, force, box, apply}
use Rattle.rules.specs.Sizes.{nodes, most_types}
use Rattle.rules.proofs.Laws.TypeCodes.{entries_positive}
use Rattle.program.specs.Format.{type_count, term_count, kind_at, argument_at}
use Rattle.program.specs.Trees.{TypeAt, bit_at, qubit_at, tensor_at, function_at, reusable_at, circ_at, TypeAtPosition}
use Rattle.program.specs.Trees.{at_position, TermAt, variable_term_at, label_at, abstraction_at, application_at, pair_at, let_at}
use Rattle.program.specs.Trees.{lift_at, force_at, box_term_at, apply_at, gate_term_at, AcceptedFile, unit_at, unit_value_at}
use Rattle.program.proofs.Laws.TreeTraversal.{term_end, type_end}
use Rattle.check_program.specs.Answers.{wire_of, labels_from, labels_of, one_part, two_parts, built, type_node, type_from}
use Rattle.check_program.specs.Answers.{named_type, term_node, term_from, term_of}
use Rattle.check_program.proofs.Laws.Counting.{some_node}

-- A type has at least one entry, and ends as many entries behind its first.
-- A tree is built from its parts, where these are read.
module _ {X : Type 0} (size : X → ℕ) (part : ℕ → X) (e : ℕ) where
  pub built_one : (c : X → X) (x : X) → part (suc e) ≡ x → built size part e (one_part c) ≡ c x
  built_one c x p = ap c p

  pub built_two : (c : X → X → X) (x y : X) (m : ℕ)
      → m ≡ suc e + size x → part (suc e) ≡ x → part m ≡ y
      → built size part e (two_parts c) ≡ c x y
  built_two c x y m at p q =
      ap (λ z. c z (part (suc e + size z))) p ∙ ap (λ j. c x (part j)) (sym at) ∙ ap (c x) q

-- A type that stands at an entry is the one that is read from there.
at_kind : (f : List ℕ) (most e k : ℕ)
    → kind_at f e ≡ k → type_from (suc most) f e ≡ built entries (λ i. type_from most f i) e (type_node k)
unfolding type_from
at_kind f most e k q = ap (λ k. built entries (λ i. type_from most f i) e (type_node k)) q

pub type_read : {f : List ℕ} {e n : ℕ} {A : Ty} (most : ℕ) → TypeAt f e A n → entries A ≤ most → type_from most f e ≡ A
type_read {A = A} zero d h = absurd (omega (arith, entries_positive A))
type_read {f} (suc most) (bit_at {e = e} k) h = at_kind f most e 0 k
type_read {f} (suc most) (qubit_at {e = e} k) h = at_kind f most e 1 k
type_read {f} (suc most) (unit_at {e = e} k) h = at_kind f most e 6 k
type_read {f} (suc most) (tensor_at {e = e} {m = m} {A = A} {B = B} k d d') h =
    let a = entries_positive A in
    let b = entries_positive B in
    at_kind f most e 2 k
    ∙ built_two entries (λ i. type_from most f i) e ◌⊗◌ A B m (type_end d)
    (type_read most d (omega arith)) (type_read most d' (omega arith))
type_read {f} (suc most) (function_at {e = e} {m = m} {A = A} {B = B} k d d') h =
    let a = entries_positive A in
    let b = entries_positive B in
    at_kind f most e 3 k
    ∙ built_two entries (λ i. type_from most f i) e ◌⊸◌ A B m (type_end d)
    (type_read most d (omega arith)) (type_read most d' (omega arith))
type_read {f} (suc most) (reusable_at {e = e} {A = A} k d) h =
    at_kind f most e 4 k
    ∙ built_one entries (λ i. type_from most f i) e !◌ A (type_read most d (omega arith))
type_read {f} (suc most) (circ_at {e = e} {m = m} {A = A} {B = B} k d d') h =
    let a = entries_positive A in
    let b = entries_positive B in
    at_kind f most e 5 k
    ∙ built_two entries (λ i. type_from most f i) e Circ A B m (type_end d)
    (type_read most d (omega arith)) (type_read most d' (omega arith))

-- The type that an entry names.
pub named_read : {f : List ℕ} {A : Ty} (e : ℕ)
    → type_count f ≤ most_types → TypeAtPosition f (argument_at f e) A → named_type f e ≡ A
named_read {f} e h (at_position {n = n} d q) = type_read most_types d (omega (arith, type_end d))

-- A term that stands at an entry is the one that is read from there.
at_term : (f : List ℕ) (most e k : ℕ)
    → kind_at f e ≡ k → term_from (suc most) f e ≡ built nodes (λ i. term_from most f i) e (term_node f e k)
unfolding term_from
at_term f most e k q = ap (λ k. built nodes (λ i. term_from most f i) e (term_node f e k)) q

pub term_read : {f : List ℕ} {e n : ℕ} {M : Term} (most : ℕ)
    → type_count f ≤ most_types → TermAt f e M n → nodes M ≤ most → term_from most f e ≡ M
term_read {M = M} zero t d h = absurd (omega (arith, some_node M))
term_read {f} (suc most) t (variable_term_at {e = e} k a) h = at_term f most e 16 k ∙ ap variable a
term_read {f} (suc most) t (label_at {e = e} k a) h = at_term f most e 17 k ∙ ap label a
term_read {f} (suc most) t (gate_term_at {e = e} k a) h = at_term f most e 26 k ∙ ap gate a
term_read {f} (suc most) t (unit_value_at {e = e} k a) h = at_term f most e 27 k
term_read {f} (suc most) t (abstraction_at {e = e} {A = A} {M = M} k p d) h =
    at_term f most e 18 k
    ∙ built_one nodes (λ i. term_from most f i) e (λ M. abstraction (named_type f e) M) M (term_read most t d (omega arith))
    ∙ ap (λ A. abstraction A M) (named_read e t p)
term_read {f} (suc most) t (box_term_at {e = e} {T = T} {M = M} k p d) h =
    at_term f most e 24 k
    ∙ built_one nodes (λ i. term_from most f i) e (λ M. box (named_type f e) M) M (term_read most t d (omega arith))
    ∙ ap (λ A. box A M) (named_read e t p)
term_read {f} (suc most) t (lift_at {e = e} {M = M} k a d) h =
    at_term f most e 22 k
    ∙ built_one nodes (λ i. term_from most f i) e lift M (term_read most t d (omega arith))
term_read {f} (suc most) t (force_at {e = e} {M = M} k a d) h =
    at_term f most e 23 k
    ∙ built_one nodes (λ i. term_from most f i) e force M (term_read most t d (omega arith))
term_read {f} (suc most) t (application_at {e = e} {m = m} {M = M} {N = N} k a d d') h =
    at_term f most e 19 k
    ∙ built_two nodes (λ i. term_from most f i) e application M N m (term_end d)
    (term_read most t d (omega arith)) (term_read most t d' (omega arith))
term_read {f} (suc most) t (pair_at {e = e} {m = m} {M = M} {N = N} k a d d') h =
    at_term f most e 20 k
    ∙ built_two nodes (λ i. term_from most f i) e pair M N m (term_end d)
    (term_read most t d (omega arith)) (term_read most t d' (omega arith))
term_read {f} (suc most) t (let_at {e = e} {m = m} {M = M} {N = N} k a d d') h =
    at_term f most e 21 k
    ∙ built_two nodes (λ i. term_from most f i) e let_in M N m (term_end d)
    (term_read most t d (omega arith)) (term_read most t d' (omega arith))
term_read {f} (suc most) t (apply_at {e = e} {m = m} {M = M} {N = N} k a d d') h =
    at_term f most e 25 k
    ∙ built_two nodes (λ i. term_from most f i) e apply M N m (term_end d)
    (term_read most t d (omega arith)) (term_read most t d' (omega arith))

-- The labels and the term of an accepted file are those that are read.
wire_read : (k : ℕ) (α : Wire) → k ≡ wire_code α → wire_of k ≡ α
wire_read k Bit q = ap wire_of q
wire_read k Qubit q = ap wire_of q

labels_from_lem : (f : List ℕ) (e : ℕ) (labels : List Wire)
    → ((i : ℕ) (α : Wire) → nth labels i ≡ some α → kind_at f (e + i) ≡ wire_code α)
    → labels_from f e (length labels) ≡ labels
labels_from_lem f e [] kinds = refl
labels_from_lem f e (α ∷ labels) kinds =
    let here : e ≡ e + 0 = omega arith in
    ap₂ (λ x l. x ∷ l)
    (wire_read (kind_at f e) α (ap (kind_at f) here ∙ kinds 0 α refl))
    (labels_from_lem f (suc e) labels (λ i β q.
    let next : suc e + i ≡ e + suc i = omega arith in
    ap (kind_at f) next ∙ kinds (suc i) β q))

pub labels_read : {f : List ℕ} {labels : List Wire} {M : Term} → AcceptedFile f labels M → labels_of f ≡ labels
labels_read {f} {labels} file =
    ap (λ n. labels_from f 0 n) (sym file.label_count_is)
    ∙ labels_from_lem f 0 labels (λ i α q.
    let same : 0 + i ≡ i = omega arith in
    ap (kind_at f) same ∙ file.label_kinds_are i α q)

pub program_read : {f : List ℕ} {labels : List Wire} {M : Term} → AcceptedFile f labels M → term_of f ≡ M
program_read {f} {labels} {M} file =
    term_read (term_count f) file.types_fit file.term_is_at (omega (arith, term_end file.term_is_at))

-- So these are its labels and its term.
pub file_read : {f : List ℕ} {labels : List Wire} {M : Term}
    → AcceptedFile f labels M → AcceptedFile f (labels_of f) (term_of f)
file_read {f} {labels} {M} file =
    subst (λ l. AcceptedFile f l (term_of f)) (sym (labels_read file))
    (subst (λ m. AcceptedFile f labels m) (sym (program_read file)) file)
