-- Laws of the meaning of cells.
use Rattle.std.specs.Prelude.{ℕ, ◌+◌, ◌*◌, ◌%◌, ◌≤◌, ◌≡◌, refl, ◌&&◌, List, leb}
use Rattle.std.proofs.Common.{arith, sym, ◌∙◌, ap, ap₂, subst}
use Rattle.rules.specs.Kinds.{pair_type_kind, reusable_kind}
use Rattle.rules.specs.Types.{Wire, Ty, wire, unit, ◌⊗◌, ◌⊸◌, !◌, Circ, copyable, entries}
use Rattle.rules.specs.Parts.{parts_of_kind}
use Rattle.rules.proofs.Laws.Parts.{parts_of_type}
use Rattle.rules.proofs.Laws.TypeCodes.{wire_kind, same_wire}
use Rattle.check_types.specs.Cells.{copyable_mark, cell_kind, cell_first, cell_second, copyable_from, Cell}
use Rattle.check_types.specs.Cells.{kind_of, Agree, Denotes, wire_cell, unit_cell, pair_cell}
use Rattle.check_types.specs.Cells.{function_cell, reusable_cell, circuit_cell, Made, made_pair, made_function}
use Rattle.check_types.specs.Cells.{made_circuit}

-- The quadword of a cell.
pub cell_of : {w : List ℕ} {n i : ℕ} {A : Ty} → Denotes w n i A → Cell w n i A
cell_of (wire_cell r) = r
cell_of (unit_cell r) = r
cell_of (pair_cell r d e) = r
cell_of (function_cell r d e) = r
cell_of (reusable_cell r d) = r
cell_of (circuit_cell r d e) = r

-- Agreement is kept for fewer cells, and chains.
pub agree_refl : (w : List ℕ) (n : ℕ) → Agree w w n
agree_refl w n = record { words_same = λ k h. refl }

pub agree_less : {w w' : List ℕ} {n : ℕ} (m : ℕ) → m ≤ n → Agree w w' n → Agree w w' m
agree_less m h a = record { words_same = λ k b. a.words_same k (omega arith) }

pub agree_trans : {w w' w'' : List ℕ} {n : ℕ} → Agree w w' n → Agree w' w'' n → Agree w w'' n
agree_trans a b = record { words_same = λ k h. b.words_same k h ∙ a.words_same k h }

-- The meaning of a cell is kept where the first n quadwords agree, and there may be more cells.
cell_kept : {w w' : List ℕ} {n n' i : ℕ} {A : Ty} → Agree w w' n → n ≤ n' → Cell w n i A → Cell w' n' i A
cell_kept {i = i} a h r =
    let b = r.below in
    record {
      below = omega arith;
      kind = a.words_same (4 * i) (omega arith) ∙ r.kind;
      size = ap (λ x. x % copyable_mark) (a.words_same (4 * i + 3) (omega arith)) ∙ r.size;
      may_be_copied = ap (leb copyable_mark) (a.words_same (4 * i + 3) (omega arith)) ∙ r.may_be_copied;
      bounded = r.bounded;
    }

first_kept : {w w' : List ℕ} {n i : ℕ} {A : Ty} → Agree w w' n → Cell w n i A → cell_first w i ≡ cell_first w' i
first_kept {i = i} a r = let b = r.below in sym (a.words_same (4 * i + 1) (omega arith))

second_kept : {w w' : List ℕ} {n i : ℕ} {A : Ty} → Agree w w' n → Cell w n i A → cell_second w i ≡ cell_second w' i
second_kept {i = i} a r = let b = r.below in sym (a.words_same (4 * i + 2) (omega arith))

pub denotes_kept : {w w' : List ℕ} {n n' i : ℕ} {A : Ty} → Agree w w' n → n ≤ n' → Denotes w n i A → Denotes w' n' i A
denotes_kept a h (wire_cell r) = wire_cell (cell_kept a h r)
denotes_kept a h (unit_cell r) = unit_cell (cell_kept a h r)
denotes_kept {w' = w'} {n' = n'} a h (pair_cell {A = A} {B = B} r d e) =
    pair_cell
    (cell_kept a h r)
    (subst (λ j. Denotes w' n' j A) (first_kept a r) (denotes_kept a h d))
    (subst (λ j. Denotes w' n' j B) (second_kept a r) (denotes_kept a h e))
denotes_kept {w' = w'} {n' = n'} a h (function_cell {A = A} {B = B} r d e) =
    function_cell
    (cell_kept a h r)
    (subst (λ j. Denotes w' n' j A) (first_kept a r) (denotes_kept a h d))
    (subst (λ j. Denotes w' n' j B) (second_kept a r) (denotes_kept a h e))
denotes_kept {w' = w'} {n' = n'} a h (reusable_cell {A = A} r d) =
    reusable_cell (cell_kept a h r) (subst (λ j. Denotes w' n' j A) (first_kept a r) (denotes_kept a h d))
denotes_kept {w' = w'} {n' = n'} a h (circuit_cell {T = T} {U = U} r d e) =
    circuit_cell
    (cell_kept a h r)
    (subst (λ j. Denotes w' n' j T) (first_kept a r) (denotes_kept a h d))
    (subst (λ j. Denotes w' n' j U) (second_kept a r) (denotes_kept a h e))

pub made_entries : {k : ℕ} {A B C : Ty} → Made k A B C → entries C ≡ 1 + (entries A + entries B)
made_entries made_pair = refl
made_entries made_function = refl
made_entries made_circuit = refl

-- Whether it may be copied: by its kind if it is no pair, else by its parts.
pub made_copyable : {w : List ℕ} {n a b k : ℕ} {A B C : Ty}
    → Made k A B C → Denotes w n a A → Denotes w n b B → copyable_from w k a b ≡ copyable C
made_copyable made_pair d e = ap₂ ◌&&◌ (cell_of d).may_be_copied (cell_of e).may_be_copied
made_copyable made_function d e = refl
made_copyable made_circuit d e = refl

-- The parts of such a kind, of the reusable kind, and of a pair.
pub made_parts : {k : ℕ} {A B C : Ty} → Made k A B C → parts_of_kind k ≡ 2
made_parts (made_pair {A = A} {B = B}) = parts_of_type (A ⊗ B)
made_parts (made_function {A = A} {B = B}) = parts_of_type (A ⊸ B)
made_parts (made_circuit {T = T} {U = U}) = parts_of_type (Circ T U)

pub made_some : {k : ℕ} {A B C : Ty} → Made k A B C → parts_of_kind k ≡ 0 → ⊥
made_some m e = omega (arith, made_parts m)

pub reusable_parts : parts_of_kind reusable_kind ≡ 1
reusable_parts = parts_of_type (! unit)

pub reusable_some : parts_of_kind reusable_kind ≡ 0 → ⊥
reusable_some e = omega (arith, reusable_parts)

pub pair_some : parts_of_kind pair_type_kind ≡ 0 → ⊥
pair_some e = made_some (made_pair {A = unit} {B = unit}) e

pub made_not_reusable : {k : ℕ} {A B C : Ty} → Made k A B C → k ≡ reusable_kind → ⊥
made_not_reusable made_pair e = omega arith
made_not_reusable made_function e = omega arith
made_not_reusable made_circuit e = omega arith

-- The types without parts, each of its own kind.
pub data Leaf : Ty → Type 0 where
  leaf_wire : (α : Wire) → Leaf (wire α)
  leaf_unit : Leaf unit

pub leaf_parts : {A : Ty} → Leaf A → parts_of_kind (kind_of A) ≡ 0
leaf_parts (leaf_wire α) = parts_of_type (wire α)
leaf_parts leaf_unit = parts_of_type unit

pub same_leaf : {A B : Ty} → Leaf A → Leaf B → kind_of A ≡ kind_of B → A ≡ B
same_leaf (leaf_wire α) (leaf_wire β) e = ap wire (same_wire α β e)
same_leaf (leaf_wire α) leaf_unit e = absurd (omega (arith, wire_kind α))
same_leaf leaf_unit (leaf_wire β) e = absurd (omega (arith, wire_kind β))
same_leaf leaf_unit leaf_unit e = refl

-- A leaf is of no kind that has parts.
pub leaf_clash : {A : Ty} {kind : ℕ} → Leaf A → (parts_of_kind kind ≡ 0 → ⊥) → kind ≡ kind_of A → ⊥
leaf_clash l p e = p (ap parts_of_kind e ∙ leaf_parts l)

-- A cell by the number of its parts.
pub data View (w : List ℕ) (n i : ℕ) : Ty → Type 0 where
  no_part : {A : Ty} → Leaf A → cell_kind w i ≡ kind_of A → View w n i A
  two_parts : {k : ℕ} {A B C : Ty}
      → Made k A B C → cell_kind w i ≡ k → Denotes w n (cell_first w i) A → Denotes w n (cell_second w i) B
      → View w n i C
  one_part : {A : Ty} → cell_kind w i ≡ reusable_kind → Denotes w n (cell_first w i) A → View w n i (! A)

pub view : {w : List ℕ} {n i : ℕ} {A : Ty} → Denotes w n i A → View w n i A
view (wire_cell {α = α} r) = no_part (leaf_wire α) r.kind
view (unit_cell r) = no_part leaf_unit r.kind
view (pair_cell r d e) = two_parts made_pair r.kind d e
view (function_cell r d e) = two_parts made_function r.kind d e
view (reusable_cell r d) = one_part r.kind d
view (circuit_cell r d e) = two_parts made_circuit r.kind d e

-- Types of one kind are equal where their parts are, and only there.
pub made_whole : {k : ℕ} {A B C A' B' C' : Ty} → Made k A B C → Made k A' B' C' → A ≡ A' → B ≡ B' → C ≡ C'
made_whole made_pair made_pair p q = cc
made_whole made_function made_function p q = cc
made_whole made_circuit made_circuit p q = cc

pub made_first : {k : ℕ} {A B C A' B' C' : Ty} → Made k A B C → Made k A' B' C' → C ≡ C' → A ≡ A'
made_first made_pair made_pair e = cc
made_first made_function made_function e = cc
made_first made_circuit made_circuit e = cc

pub made_second : {k : ℕ} {A B C A' B' C' : Ty} → Made k A B C → Made k A' B' C' → C ≡ C' → B ≡ B'
made_second made_pair made_pair e = cc
made_second made_function made_function e = cc
made_second made_circuit made_circuit e = cc
