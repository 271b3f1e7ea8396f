-- Laws of specs/Compare.antt.
use Rattle.std.specs.Prelude.{ℕ, ◌-◌, ◌≤◌, ◌≡◌, refl, Bool, true, false, ◌&&◌, List}
use Rattle.std.proofs.Common.{arith, sym, ◌∙◌, ap, subst}
use Rattle.rules.specs.Kinds.{pair_type_kind, reusable_kind}
use Rattle.rules.specs.Types.{Ty, !◌, entries, is_wire_type, Wire_discrete, Ty_discrete}
use Rattle.rules.specs.Parts.{parts_of_kind}
use Rattle.rules.specs.Inference.{same, is_yes}
use Rattle.check_types.specs.Cells.{cell_kind, cell_first, cell_second, kind_of, Denotes, wire_cell, unit_cell}
use Rattle.check_types.specs.Cells.{pair_cell}
use Rattle.check_types.specs.Cells.{function_cell, reusable_cell, circuit_cell, Made, made_pair, made_function}
use Rattle.check_types.specs.Cells.{made_circuit}
use Rattle.check_types.proofs.Laws.Cells.{cell_of, made_entries, made_parts, made_some, reusable_parts, reusable_some, pair_some}
use Rattle.check_types.proofs.Laws.Cells.{made_not_reusable, made_whole, made_first}
use Rattle.check_types.proofs.Laws.Cells.{Leaf, leaf_wire, leaf_unit, same_leaf, leaf_parts, leaf_clash}
use Rattle.check_types.proofs.Laws.Cells.{made_second, View, no_part, two_parts, one_part, view}
use Rattle.check_types.specs.Compare.{share_of, SaysSame, SaysWireType}

-- `same` says whether two types are equal.
yes_true : {X : Type 0} (d : Dec X) → X → true ≡ is_yes d
yes_true (yes x) y = refl
yes_true (no f) y = absurd (f y)

no_false : {X : Type 0} (d : Dec X) → (X → ⊥) → false ≡ is_yes d
no_false (yes x) f = absurd (f x)
no_false (no g) f = refl

true_yes : {X : Type 0} (d : Dec X) → true ≡ is_yes d → X
true_yes (yes x) e = x
true_yes (no f) e = let z : ◌≡◌ {A = ℕ} 0 1 = cc in absurd (omega arith)

false_no : {X : Type 0} (d : Dec X) → false ≡ is_yes d → X → ⊥
false_no (yes x) e y = let z : ◌≡◌ {A = ℕ} 0 1 = cc in omega arith
false_no (no f) e y = f y

pub equal_same : (A B : Ty) → A ≡ B → true ≡ same A B
equal_same A B e = yes_true (Ty_discrete Wire_discrete A B) e

pub different_same : (A B : Ty) → (A ≡ B → ⊥) → false ≡ same A B
different_same A B f = no_false (Ty_discrete Wire_discrete A B) f

pub same_equal : (A B : Ty) → true ≡ same A B → A ≡ B
same_equal A B e = true_yes (Ty_discrete Wire_discrete A B) e

pub same_different : (A B : Ty) → false ≡ same A B → A ≡ B → ⊥
same_different A B e = false_no (Ty_discrete Wire_discrete A B) e

-- Two cells of one kind.
data Alike (w : List ℕ) (n i j : ℕ) : Ty → Ty → Type 0 where
  alike_leaves : {A : Ty} → Leaf A → cell_kind w i ≡ kind_of A → Alike w n i j A A
  alike_two : {k : ℕ} {A B C A' B' C' : Ty}
      → Made k A B C → Made k A' B' C' → cell_kind w i ≡ k
      → Denotes w n (cell_first w i) A → Denotes w n (cell_second w i) B
      → Denotes w n (cell_first w j) A' → Denotes w n (cell_second w j) B'
      → Alike w n i j C C'
  alike_one : {A A' : Ty}
      → cell_kind w i ≡ reusable_kind → Denotes w n (cell_first w i) A → Denotes w n (cell_first w j) A'
      → Alike w n i j (! A) (! A')

alike : {w : List ℕ} {n i j : ℕ} {A B : Ty}
    → cell_kind w i ≡ cell_kind w j → View w n i A → View w n j B
    → Alike w n i j A B
alike {w} {n} {i} {j} {A} e (no_part l k) (no_part l' k') =
    subst (λ B. Alike w n i j A B) (same_leaf l l' (sym k ∙ e ∙ k')) (alike_leaves l k)
alike e (no_part l k) (two_parts m k' x y) = absurd (leaf_clash l (made_some m) (sym k' ∙ sym e ∙ k))
alike e (no_part l k) (one_part k' x) = absurd (leaf_clash l reusable_some (sym k' ∙ sym e ∙ k))
alike e (two_parts m k x y) (no_part l k') = absurd (leaf_clash l (made_some m) (sym k ∙ e ∙ k'))
alike e (two_parts {A = A} {B = B} {C = C} m k x y) (two_parts {A = A'} {B = B'} {C = C'} m' k' x' y') =
    alike_two m (subst (λ q. Made q A' B' C') (sym k' ∙ sym e ∙ k) m') k x y x' y'
alike e (two_parts m k x y) (one_part k' x') = absurd (made_not_reusable m (sym k ∙ e ∙ k'))
alike e (one_part k x) (no_part l k') = absurd (leaf_clash l reusable_some (sym k ∙ e ∙ k'))
alike e (one_part k x) (two_parts m k' x' y') = absurd (made_not_reusable m (sym k' ∙ sym e ∙ k))
alike e (one_part k x) (one_part k' x') = alike_one k x x'

-- A cell denotes one type.
leaf_one : {w : List ℕ} {n i : ℕ} {A B : Ty} → Leaf A → cell_kind w i ≡ kind_of A → View w n i B → A ≡ B
leaf_one l k (no_part l' k') = same_leaf l l' (sym k ∙ k')
leaf_one l k (two_parts m k' x y) = absurd (leaf_clash l (made_some m) (sym k' ∙ k))
leaf_one l k (one_part k' x) = absurd (leaf_clash l reusable_some (sym k' ∙ k))

two_one : {w : List ℕ} {n i k : ℕ} {A B C D : Ty}
    → Made k A B C → cell_kind w i ≡ k → View w n i D
    → ((A' : Ty) → Denotes w n (cell_first w i) A' → A ≡ A')
    → ((B' : Ty) → Denotes w n (cell_second w i) B' → B ≡ B')
    → C ≡ D
two_one m k (no_part l k') f g = absurd (leaf_clash l (made_some m) (sym k ∙ k'))
two_one m k (two_parts {A = A'} {B = B'} {C = C'} m' k' x y) f g =
    made_whole m (subst (λ q. Made q A' B' C') (sym k' ∙ k) m') (f A' x) (g B' y)
two_one m k (one_part k' x) f g = absurd (made_not_reusable m (sym k ∙ k'))

one_one : {w : List ℕ} {n i : ℕ} {A D : Ty}
    → cell_kind w i ≡ reusable_kind → View w n i D
    → ((A' : Ty) → Denotes w n (cell_first w i) A' → A ≡ A')
    → ! A ≡ D
one_one k (no_part l k') f = absurd (leaf_clash l reusable_some (sym k ∙ k'))
one_one k (two_parts m k' x y) f = absurd (made_not_reusable m (sym k' ∙ k))
one_one k (one_part {A = A'} k' x) f = ap !◌ (f A' x)

pub denotes_one : {w : List ℕ} {n i : ℕ} {A B : Ty} → Denotes w n i A → Denotes w n i B → A ≡ B
denotes_one (wire_cell {α = α} r) e = leaf_one (leaf_wire α) r.kind (view e)
denotes_one (unit_cell r) e = leaf_one leaf_unit r.kind (view e)
denotes_one (pair_cell r x y) e =
    two_one made_pair r.kind (view e) (λ A' x'. denotes_one x x') (λ B' y'. denotes_one y y')
denotes_one (function_cell r x y) e =
    two_one made_function r.kind (view e) (λ A' x'. denotes_one x x') (λ B' y'. denotes_one y y')
denotes_one (reusable_cell r x) e = one_one r.kind (view e) (λ A' x'. denotes_one x x')
denotes_one (circuit_cell r x y) e =
    two_one made_circuit r.kind (view e) (λ A' x'. denotes_one x x') (λ B' y'. denotes_one y y')

-- Where the first parts are equal, the second parts decide.
as_second : {k : ℕ} {A B C A' B' C' : Ty}
    → Made k A B C → Made k A' B' C' → (r : Bool) → A ≡ A' → r ≡ same B B'
    → r ≡ same C C'
as_second {B = B} {C = C} {B' = B'} {C' = C'} m m' true p s = equal_same C C' (made_whole m m' p (same_equal B B' s))
as_second {B = B} {C = C} {B' = B'} {C' = C'} m m' false p s =
    different_same C C' λ q. same_different B B' s (made_second m m' q)

module _ (w : List ℕ) (most i j : ℕ) where
  pub same_cell : i ≡ j → SaysSame w most i j true
  same_cell e n A B d d' h = equal_same A B (denotes_one d (subst (λ k. Denotes w n k B) (sym e) d'))

  pub other_kind : (cell_kind w i ≡ cell_kind w j → ⊥) → SaysSame w most i j false
  other_kind f n A B d d' h =
      different_same A B (λ e. f ((cell_of d).kind ∙ ap kind_of e ∙ sym (cell_of d').kind))

  pub both_leaves : cell_kind w i ≡ cell_kind w j → parts_of_kind (cell_kind w i) ≡ 0 → SaysSame w most i j true
  both_leaves e h n A B d d' b = go (alike e (view d) (view d'))
    where
      go : {A B : Ty} → Alike w n i j A B → true ≡ same A B
      go (alike_leaves {A = A} l k) = equal_same A A refl
      go (alike_two m m' k x y x' y') = absurd (made_some m (ap parts_of_kind (sym k) ∙ h))
      go (alike_one k x x') = absurd (reusable_some (ap parts_of_kind (sym k) ∙ h))

  pub first_differs : cell_kind w i ≡ cell_kind w j → (parts_of_kind (cell_kind w i) ≡ 0 → ⊥)
      → SaysSame w (share_of w (cell_first w i) (most - 1)) (cell_first w i) (cell_first w j) false
      → SaysSame w most i j false
  first_differs e h first n A B d d' b = go (alike e (view d) (view d')) b
    where
      go : {A B : Ty} → Alike w n i j A B → entries A ≤ most → false ≡ same A B
      go (alike_leaves l k) b = absurd (leaf_clash l h k)
      go (alike_two {A = A} {C = C} {A' = A'} {C' = C'} m m' k x y x' y') b =
          let f = first n A A' x x' (omega (arith, made_entries m, (cell_of x).size)) in
          different_same C C' λ q. same_different A A' f (made_first m m' q)
      go (alike_one {A = A} {A' = A'} k x x') b =
          let f = first n A A' x x' (omega (arith, (cell_of x).size)) in
          different_same (! A) (! A') λ q. same_different A A' f (cc)

  pub first_alone : cell_kind w i ≡ cell_kind w j → parts_of_kind (cell_kind w i) ≡ 1
      → SaysSame w (share_of w (cell_first w i) (most - 1)) (cell_first w i) (cell_first w j) true
      → SaysSame w most i j true
  first_alone e h first n A B d d' b = go (alike e (view d) (view d')) b
    where
      go : {A B : Ty} → Alike w n i j A B → entries A ≤ most → true ≡ same A B
      go (alike_leaves l k) b = absurd (omega (arith, leaf_parts l, ap parts_of_kind k))
      go (alike_two m m' k x y x' y') b = absurd (omega (arith, made_parts m, ap parts_of_kind k))
      go (alike_one {A = A} {A' = A'} k x x') b =
          let f = first n A A' x x' (omega (arith, (cell_of x).size)) in
          equal_same (! A) (! A') (ap !◌ (same_equal A A' f))

  pub then_second : (r : Bool) → cell_kind w i ≡ cell_kind w j → (parts_of_kind (cell_kind w i) ≡ 0 → ⊥) → (parts_of_kind (cell_kind w i) ≡ 1 → ⊥)
      → SaysSame w (share_of w (cell_first w i) (most - 1)) (cell_first w i) (cell_first w j) true
      → SaysSame w (most - 1 - share_of w (cell_first w i) (most - 1)) (cell_second w i) (cell_second w j) r
      → SaysSame w most i j r
  then_second r e h h' first second n A B d d' b = go (alike e (view d) (view d')) b
    where
      go : {A B : Ty} → Alike w n i j A B → entries A ≤ most → r ≡ same A B
      go (alike_leaves l k) b = absurd (leaf_clash l h k)
      go (alike_two {A = A} {B = B} {C = C} {A' = A'} {B' = B'} {C' = C'} m m' k x y x' y') b =
          let f = first n A A' x x' (omega (arith, made_entries m, (cell_of x).size)) in
          let s = second n B B' y y' (omega (arith, made_entries m, (cell_of x).size)) in
          as_second m m' r (same_equal A A' f) s
      go (alike_one {A = A} {A' = A'} k x x') b = absurd (h' (ap parts_of_kind k ∙ reusable_parts))

-- The test for a wire type.
module _ (w : List ℕ) (most i : ℕ) where
  pub is_leaf : parts_of_kind (cell_kind w i) ≡ 0 → SaysWireType w most i true
  is_leaf h n A d b = go (view d)
    where
      go : {A : Ty} → View w n i A → true ≡ is_wire_type A
      go (no_part (leaf_wire α) k) = refl
      go (no_part leaf_unit k) = refl
      go (two_parts m k x y) = absurd (made_some m (ap parts_of_kind (sym k) ∙ h))
      go (one_part k x) = absurd (reusable_some (ap parts_of_kind (sym k) ∙ h))

  pub no_wire : (parts_of_kind (cell_kind w i) ≡ 0 → ⊥) → (cell_kind w i ≡ pair_type_kind → ⊥) → SaysWireType w most i false
  no_wire h h' n A d b = go (view d)
    where
      made : {k : ℕ} {A B C : Ty} → Made k A B C → (k ≡ pair_type_kind → ⊥) → false ≡ is_wire_type C
      made made_pair f = absurd (f refl)
      made made_function f = refl
      made made_circuit f = refl

      go : {A : Ty} → View w n i A → false ≡ is_wire_type A
      go (no_part l k) = absurd (leaf_clash l h k)
      go (two_parts m k x y) = made m λ e. h' (k ∙ e)
      go (one_part k x) = refl

  pub first_no_wire : cell_kind w i ≡ pair_type_kind
      → SaysWireType w (share_of w (cell_first w i) (most - 1)) (cell_first w i) false
      → SaysWireType w most i false
  first_no_wire e first n A d b = go (view d) b
    where
      made : {k : ℕ} {A B C : Ty} → Made k A B C → k ≡ pair_type_kind → false ≡ is_wire_type A → false ≡ is_wire_type C
      made (made_pair {A = A} {B = B}) f g = ap (λ t. t && is_wire_type B) g
      made made_function f g = refl
      made made_circuit f g = refl

      go : {A : Ty} → View w n i A → entries A ≤ most → false ≡ is_wire_type A
      go (no_part l k) b = absurd (leaf_clash l pair_some (sym e ∙ k))
      go (two_parts {A = A} m k x y) b = made m (sym k ∙ e) (first n A x (omega (arith, made_entries m, (cell_of x).size)))
      go (one_part k x) b = refl

  pub then_second_wire : (r : Bool)
      → cell_kind w i ≡ pair_type_kind
      → SaysWireType w (share_of w (cell_first w i) (most - 1)) (cell_first w i) true
      → SaysWireType w (most - 1 - share_of w (cell_first w i) (most - 1)) (cell_second w i) r
      → SaysWireType w most i r
  then_second_wire r e first second n A d b = go (view d) b
    where
      made : {k : ℕ} {A B C : Ty} → Made k A B C → k ≡ pair_type_kind → true ≡ is_wire_type A → r ≡ is_wire_type B → r ≡ is_wire_type C
      made (made_pair {A = A} {B = B}) f g s = s ∙ ap (λ t. t && is_wire_type B) g
      made made_function f g s = absurd (omega arith)
      made made_circuit f g s = absurd (omega arith)

      go : {A : Ty} → View w n i A → entries A ≤ most → r ≡ is_wire_type A
      go (no_part l k) b = absurd (leaf_clash l pair_some (sym e ∙ k))
      go (two_parts {A = A} {B = B} m k x y) b =
          made m (sym k ∙ e)
          (first n A x (omega (arith, made_entries m, (cell_of x).size)))
          (second n B y (omega (arith, made_entries m, (cell_of x).size)))
      go (one_part k x) b = absurd (omega arith)
