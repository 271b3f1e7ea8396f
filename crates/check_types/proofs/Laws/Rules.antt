-- Laws of specs/Rules.antt.
use Rattle.std.specs.Prelude.{ℕ, ◌+◌, ◌≤◌, ◌<◌, ◌≡◌, refl, Bool, true, false, ◌&&◌, List, leb}
use Rattle.std.proofs.Common.{arith, sym, ◌∙◌, ap, ap₂, subst, subst₂, le-leb}
use Rattle.std.proofs.Math.Option.{Option, none, some}
use Rattle.std.proofs.lemmas.Bool.{lt-leb}
use Rattle.rules.specs.Kinds.{function_kind, reusable_kind}
use Rattle.rules.specs.Types.{Ty, unit, !◌, Circ, entries, is_wire_type, most_entries}
use Rattle.rules.specs.Parts.{parts_of_kind}
use Rattle.rules.specs.Inference.{same, given, if_true, as_function, as_reusable, box_type, lift_type}
use Rattle.std.specs.Prelude.{Option as RustOption, Some, None}
use Rattle.check_types.specs.declared.Ruling.{Ruling}
use Rattle.check_types.specs.Cells.{marked, cell_kind, cell_first, cell_second, cell_size, copyable_from, Denotes, Given, Gave}
use Rattle.check_types.specs.Cells.{Failed, MeetsOne, gives}
use Rattle.check_types.specs.Cells.{MeetsTwo, Made, made_pair, made_function, made_circuit}
use Rattle.check_types.proofs.Laws.Cells.{cell_of, agree_refl, made_entries, View, no_part, two_parts, one_part, view}
use Rattle.check_types.proofs.Laws.Cells.{made_not_reusable, made_copyable}
use Rattle.check_types.specs.NewCell.{with_cell}
use Rattle.check_types.proofs.Laws.NewCell.{length_with_cell, word_above_cell, agree_with_cell, two_parts_written}
use Rattle.check_types.proofs.Laws.Cells.{leaf_wire, leaf_unit, leaf_clash, made_some, reusable_some}
use Rattle.check_types.proofs.Laws.NewCell.{one_part_written}
use Rattle.check_types.proofs.Laws.Compare.{same_equal}
use Rattle.check_types.specs.Rules.{SaysSameType, SaysIsWireType, Reads, reads_pair, reads_function, reads_circuit}
use Rattle.check_types.specs.Rules.{MakesTwo, result_type, BoxGiven, SaysBox}

pub record PartsOf (w : List ℕ) (n i : ℕ) (o : Option (Ty × Ty)) (F : Ty) : Type 0 where
  pub first : Ty
  pub second : Ty
  pub parts : o ≡ some (first, second)
  pub first_denotes : Denotes w n (cell_first w i) first
  pub second_denotes : Denotes w n (cell_second w i) second
  pub size : entries F ≡ 1 + (entries first + entries second)

reads_some : {k : ℕ} {g : Ty → Option (Ty × Ty)} → Reads k g → parts_of_kind k ≡ 0 → ⊥
reads_some reads_pair = made_some (made_pair {A = unit} {B = unit})
reads_some reads_function = made_some (made_function {A = unit} {B = unit})
reads_some reads_circuit = made_some (made_circuit {T = unit} {U = unit})

pub of_kind : {w : List ℕ} {n i k : ℕ} {g : Ty → Option (Ty × Ty)} {F : Ty}
    → Reads k g → Denotes w n i F → cell_kind w i ≡ k
    → PartsOf w n i (g F) F
of_kind {w} {n} {i} r d e = go r (view d) e
  where
    go : {k : ℕ} {g : Ty → Option (Ty × Ty)} {F : Ty} → Reads k g → View w n i F → cell_kind w i ≡ k → PartsOf w n i (g F) F
    go reads_pair (no_part l k) e = absurd (leaf_clash l (reads_some reads_pair) (sym e ∙ k))
    go reads_pair (one_part k x) e = absurd (omega arith)
    go reads_pair (two_parts made_pair k x y) e = record { first = _; second = _; parts = refl; first_denotes = x; second_denotes = y; size = refl }
    go reads_pair (two_parts made_function k x y) e = absurd (omega arith)
    go reads_pair (two_parts made_circuit k x y) e = absurd (omega arith)
    go reads_function (no_part l k) e = absurd (leaf_clash l (reads_some reads_function) (sym e ∙ k))
    go reads_function (one_part k x) e = absurd (omega arith)
    go reads_function (two_parts made_pair k x y) e = absurd (omega arith)
    go reads_function (two_parts made_function k x y) e = record { first = _; second = _; parts = refl; first_denotes = x; second_denotes = y; size = refl }
    go reads_function (two_parts made_circuit k x y) e = absurd (omega arith)
    go reads_circuit (no_part l k) e = absurd (leaf_clash l (reads_some reads_circuit) (sym e ∙ k))
    go reads_circuit (one_part k x) e = absurd (omega arith)
    go reads_circuit (two_parts made_pair k x y) e = absurd (omega arith)
    go reads_circuit (two_parts made_function k x y) e = absurd (omega arith)
    go reads_circuit (two_parts made_circuit k x y) e = record { first = _; second = _; parts = refl; first_denotes = x; second_denotes = y; size = refl }

pub of_other_kind : {w : List ℕ} {n i k : ℕ} {g : Ty → Option (Ty × Ty)} {F : Ty}
    → Reads k g → Denotes w n i F → (cell_kind w i ≡ k → ⊥)
    → g F ≡ none
of_other_kind {w} {n} {i} r d f = go r (view d) f
  where
    go : {k : ℕ} {g : Ty → Option (Ty × Ty)} {F : Ty} → Reads k g → View w n i F → (cell_kind w i ≡ k → ⊥) → g F ≡ none
    go reads_pair (no_part (leaf_wire α) k) f = refl
    go reads_pair (no_part leaf_unit k) f = refl
    go reads_pair (one_part k x) f = refl
    go reads_pair (two_parts made_pair k x y) f = absurd (f k)
    go reads_pair (two_parts made_function k x y) f = refl
    go reads_pair (two_parts made_circuit k x y) f = refl
    go reads_function (no_part (leaf_wire α) k) f = refl
    go reads_function (no_part leaf_unit k) f = refl
    go reads_function (one_part k x) f = refl
    go reads_function (two_parts made_pair k x y) f = refl
    go reads_function (two_parts made_function k x y) f = absurd (f k)
    go reads_function (two_parts made_circuit k x y) f = refl
    go reads_circuit (no_part (leaf_wire α) k) f = refl
    go reads_circuit (no_part leaf_unit k) f = refl
    go reads_circuit (one_part k x) f = refl
    go reads_circuit (two_parts made_pair k x y) f = refl
    go reads_circuit (two_parts made_function k x y) f = refl
    go reads_circuit (two_parts made_circuit k x y) f = absurd (f k)

-- The function that takes a reusable type apart.
pub record PartOf (w : List ℕ) (n i : ℕ) (F : Ty) : Type 0 where
  pub first : Ty
  pub part : as_reusable F ≡ some first
  pub denotes : Denotes w n (cell_first w i) first
  pub size : entries F ≡ 1 + entries first

pub reusable : {w : List ℕ} {n i : ℕ} {F : Ty} → Denotes w n i F → cell_kind w i ≡ reusable_kind → PartOf w n i F
reusable {w} {n} {i} d e = go (view d)
  where
    go : {F : Ty} → View w n i F → PartOf w n i F
    go (no_part l k) = absurd (leaf_clash l reusable_some (sym e ∙ k))
    go (one_part k x) = record { first = _; part = refl; denotes = x; size = refl }
    go (two_parts m k x y) = absurd (made_not_reusable m (sym k ∙ e))

pub not_reusable : {w : List ℕ} {n i : ℕ} {F : Ty} → Denotes w n i F → (cell_kind w i ≡ reusable_kind → ⊥) → as_reusable F ≡ none
not_reusable {w} {n} {i} d f = go (view d)
  where
    go : {F : Ty} → View w n i F → as_reusable F ≡ none
    go (no_part (leaf_wire α) k) = refl
    go (no_part leaf_unit k) = refl
    go (one_part k x) = absurd (f k)
    go (two_parts made_pair k x y) = refl
    go (two_parts made_function k x y) = refl
    go (two_parts made_circuit k x y) = refl

-- A rule that gives a cell that is there already.
there : (w : List ℕ) (n i : ℕ) (C : Ty) → Denotes w n i C → Gave w w n C (gives i n)
there w n i C d =
    record {
      cell = i;
      cells = n;
      answer = refl;
      at_least = omega arith;
      at_most = omega arith;
      agree = agree_refl w n;
      above = λ k h. refl;
      length_kept = refl;
      denotes = d;
    }

-- A rule that gives the new cell n.
new : (w : List ℕ) (n kind a b size : ℕ) (C : Ty)
    → Denotes (with_cell w n kind a b size) (n + 1) n C
    → Gave w (with_cell w n kind a b size) n C (gives n (n + 1))
new w n kind a b size C d =
    record {
      cell = n;
      cells = n + 1;
      answer = refl;
      at_least = omega arith;
      at_most = omega arith;
      agree = agree_with_cell w n kind a b size;
      above = word_above_cell w n kind a b size;
      length_kept = length_with_cell w n kind a b size;
      denotes = d;
    }

fails : (w : List ℕ) → Failed w w None
fails w = record { answer = refl; unchanged = refl }

-- The parts of a pair.
module _ (w : List ℕ) (n f a k : ℕ) (g : Ty → Option (Ty × Ty)) (r : Reads k g) where
  pub no_result : (cell_kind w f ≡ k → ⊥) → MeetsTwo (result_type g) w w n f a None
  no_result h room F A d e =
      subst
      (λ o. Given w w n (given o λ p. if_true (same p.0 A) p.1) None)
      (sym (of_other_kind r d h))
      (fails w)

  pub other_argument : cell_kind w f ≡ k → SaysSameType w (cell_first w f) a false → MeetsTwo (result_type g) w w n f a None
  other_argument h s room F A d e =
      let q = of_kind r d h in
      subst
      (λ o. Given w w n (given o λ p. if_true (same p.0 A) p.1) None)
      (sym q.parts)
      (subst
      (λ t. Given w w n (if_true t q.second) None)
      (s n q.first A q.first_denotes e)
      (fails w))

  pub gives_result : cell_kind w f ≡ k → SaysSameType w (cell_first w f) a true
      → MeetsTwo (result_type g) w w n f a (gives (cell_second w f) n)
  gives_result h s room F A d e =
      let q = of_kind r d h in
      subst
      (λ o. Given w w n (given o λ p. if_true (same p.0 A) p.1) (gives (cell_second w f) n))
      (sym q.parts)
      (subst
      (λ t. Given w w n (if_true t q.second) (gives (cell_second w f) n))
      (s n q.first A q.first_denotes e)
      (there w n (cell_second w f) q.second q.second_denotes))

-- Force.
pub gives_part : (w : List ℕ) (n a : ℕ) → cell_kind w a ≡ reusable_kind → MeetsOne as_reusable w w n a (gives (cell_first w a) n)
gives_part w n a h room A d =
    let q = reusable d h in
    subst
    (λ o. Given w w n o (gives (cell_first w a) n))
    (sym q.part)
    (there w n (cell_first w a) q.first q.denotes)

pub no_part_given : (w : List ℕ) (n a : ℕ) → (cell_kind w a ≡ reusable_kind → ⊥) → MeetsOne as_reusable w w n a None
no_part_given w n a h room A d = subst (λ o. Given w w n o None) (sym (not_reusable d h)) (fails w)

-- A rule that makes a cell: its type is bounded by 512 entries, which is tested before anything is written. x and y are the
-- sizes of the parts, as they are read.
module _ (w : List ℕ) (n kind a b x y : ℕ) (p : x ≡ cell_size w a) (q : y ≡ cell_size w b) where
  made_size : {A B C : Ty} → Made kind A B C → Denotes w n a A → Denotes w n b B → 1 + x + y ≡ entries C
  made_size m d e = omega (arith, made_entries m, (cell_of d).size, (cell_of e).size)

  pub too_large : most_entries < 1 + x + y → MakesTwo kind w w n a b None
  too_large h A B C m room d e =
      let l : leb (entries C) most_entries ≡ false = lt-leb (entries C) most_entries (omega (arith, made_size m d e)) in
      subst (λ t. Given w w n (if_true t C) None) (sym l) (fails w)

  pub makes_cell : (w' : List ℕ) (word : ℕ)
      → 1 + x + y ≤ most_entries
      → word ≡ marked (copyable_from w kind a b) (1 + x + y)
      → w' ≡ with_cell w n kind a b word
      → MakesTwo kind w w' n a b (gives n (n + 1))
  makes_cell w' word h z r A B C m room d e =
      let small : entries C ≤ most_entries = omega (arith, made_size m d e) in
      subst₂
      (λ v t. Given w v n (if_true t C) (gives n (n + 1)))
      (sym r)
      (sym (le-leb (entries C) most_entries small))
      (new w n kind a b word C
      (two_parts_written w n kind a b word m room d e (z ∙ ap₂ marked (made_copyable m d e) (made_size m d e)) small))

-- Lift.
module _ (w : List ℕ) (n a x : ℕ) (p : x ≡ cell_size w a) where
  pub too_large_lift : most_entries < 1 + x → MeetsOne lift_type w w n a None
  too_large_lift h room A d =
      let s : cell_size w a ≡ entries A = (cell_of d).size in
      let l : leb (entries (! A)) most_entries ≡ false = lt-leb (entries (! A)) most_entries (omega arith) in
      subst (λ t. Given w w n (if_true t (! A)) None) (sym l) (fails w)

  pub makes_lift : (w' : List ℕ) (b : ℕ)
      → 1 + x ≤ most_entries
      → w' ≡ with_cell w n 4 a b (marked true (1 + x))
      → MeetsOne lift_type w w' n a (gives n (n + 1))
  makes_lift w' b h r room A d =
      let s : cell_size w a ≡ entries A = (cell_of d).size in
      let small : entries (! A) ≤ most_entries = omega arith in
      subst₂
      (λ v t. Given w v n (if_true t (! A)) (gives n (n + 1)))
      (sym r)
      (sym (le-leb (entries (! A)) most_entries small))
      (new w n 4 a b (marked true (1 + x)) (! A) (one_part_written w n a b (marked true (1 + x)) room d (omega arith) small))

-- What the rule says of the function's parts.
abbrev box_result : Ty → Ty × Ty → Option Ty
box_result T p = if_true (same T p.0 && (is_wire_type T && is_wire_type p.1)) (Circ T p.1)

module _ (w : List ℕ) (t a : ℕ) where
  abbrev function : ℕ
  function = cell_first w a

  pub box_no_function : cell_kind w a ≡ reusable_kind → (cell_kind w function ≡ function_kind → ⊥) → SaysBox w t a None
  box_no_function h h' n T A d e =
      let q = reusable e h in
      subst
      (λ o. BoxGiven w n t T (given o λ F. given (as_function F) (box_result T)) None)
      (sym q.part)
      (subst
      (λ o. BoxGiven w n t T (given o (box_result T)) None)
      (sym (of_other_kind reads_function q.denotes h'))
      refl)

  -- The tests on the function's parts decide.
  abbrev OfParts : RustOption (ℕ × ℕ) → Type 0
  OfParts r =
      (n : ℕ) (T A B : Ty)
      → Denotes w n t T
      → Denotes w n (cell_first w function) A
      → Denotes w n (cell_second w function) B
      → 1 + (entries A + entries B) ≤ most_entries
      → BoxGiven w n t T (box_result T (A, B)) r

  of_parts : (r : RustOption (ℕ × ℕ)) → cell_kind w a ≡ reusable_kind → cell_kind w function ≡ function_kind → OfParts r → SaysBox w t a r
  of_parts r h h' result n T A d e =
      let q = reusable e h in
      let p = of_kind reads_function q.denotes h' in
      let b : 1 + (entries p.first + entries p.second) ≤ most_entries
      = omega (arith, p.size, (cell_of q.denotes).bounded) in
      subst
      (λ o. BoxGiven w n t T (given o λ F. given (as_function F) (box_result T)) r)
      (sym q.part)
      (subst
      (λ o. BoxGiven w n t T (given o (box_result T)) r)
      (sym p.parts)
      (result n T p.first p.second d p.first_denotes p.second_denotes b))

  module _ (h : cell_kind w a ≡ reusable_kind) (h' : cell_kind w function ≡ function_kind) where
    pub box_other_input : SaysSameType w t (cell_first w function) false → SaysBox w t a None
    box_other_input s =
        of_parts None h h' λ n T A B d x y b.
        subst
        (λ q. BoxGiven w n t T (if_true (q && (is_wire_type T && is_wire_type B)) (Circ T B)) None)
        (s n T A d x)
        refl

    box_result_lem : (r : Bool) (z : RustOption (ℕ × ℕ))
        → SaysSameType w t (cell_first w function) true
        → SaysIsWireType w t true
        → SaysIsWireType w (cell_second w function) r
        → ((n : ℕ) (T B : Ty)
        → Denotes w n (cell_second w function) B
        → entries (Circ T B) ≤ most_entries
        → BoxGiven w n t T (if_true r (Circ T B)) z)
        → SaysBox w t a z
    box_result_lem r z s i u rest =
        of_parts z h h' λ n T A B d x y b.
        subst
        (λ q. BoxGiven w n t T (if_true (q && (is_wire_type T && is_wire_type B)) (Circ T B)) z)
        (s n T A d x)
        (subst
        (λ q. BoxGiven w n t T (if_true (q && is_wire_type B) (Circ T B)) z)
        (i n T d)
        (subst
        (λ q. BoxGiven w n t T (if_true q (Circ T B)) z)
        (u n B y)
        (rest n T B y
        (subst (λ X. 1 + (entries X + entries B) ≤ most_entries) (sym (same_equal T A (s n T A d x))) b))))

    pub box_no_result_wires : SaysSameType w t (cell_first w function) true
        → SaysIsWireType w t true
        → SaysIsWireType w (cell_second w function) false
        → SaysBox w t a None
    box_no_result_wires s i u = box_result_lem false None s i u λ n T B y b. refl

    pub box_gives : SaysSameType w t (cell_first w function) true
        → SaysIsWireType w t true
        → SaysIsWireType w (cell_second w function) true
        → SaysBox w t a (Some (t, cell_second w function))
    box_gives s i u =
        box_result_lem true (Some (t, cell_second w function)) s i u λ n T B y b.
        record {
          second = cell_second w function;
          result = B;
          answer = refl;
          second_denotes = y;
          circuit = refl;
          bounded = b;
        }

-- The rule from its parts: the circuit type is made as every type of two parts is.
pub box_fails : (w : List ℕ) (n t a : ℕ) → SaysBox w t a None → MeetsTwo box_type w w n t a None
box_fails w n t a s room T A d e = go (box_type T A) (s n T A d e)
  where
    go : (o : Option Ty) → BoxGiven w n t T o None → Given w w n o None
    go none g = fails w
    go (some C) g = let q = g.answer in let z : ◌≡◌ {A = ℕ} 0 1 = cc in absurd (omega arith)

pub box_makes : (w w' : List ℕ) (n t a x u : ℕ) (r : RustOption Ruling)
    → SaysBox w t a (Some (x, u))
    → MakesTwo 5 w w' n x u r
    → MeetsTwo box_type w w' n t a r
box_makes w w' n t a x u r s f room T A d e = go (box_type T A) (s n T A d e)
  where
    go : (o : Option Ty) → BoxGiven w n t T o (Some (x, u)) → Given w w' n o r
    go none g = let z : ◌≡◌ {A = ℕ} 0 1 = cc in absurd (omega arith)
    go (some C) g =
        let U = g.result in
        let cells : ◌≡◌ {A = ℕ × ℕ} (t, g.second) (x, u) = let q = g.answer in cc in
        let first_cell : t ≡ x = ap (λ p. p.0) cells in
        let second_cell : g.second ≡ u = ap (λ p. p.1) cells in
        subst
        (λ X. Given w w' n (some X) r)
        (sym g.circuit)
        (subst
        (λ q. Given w w' n (if_true q (Circ T U)) r)
        (le-leb (entries (Circ T U)) most_entries g.bounded)
        (f T U (Circ T U) made_circuit room
        (subst (λ j. Denotes w n j T) first_cell d)
        (subst (λ j. Denotes w n j U) second_cell g.second_denotes)))
