-- Laws of specs/Write.antt.
use Rattle.std.specs.Prelude.{ℕ, suc, ◌+◌, ◌-◌, ◌%◌, ◌≤◌, ◌<◌, ◌≡◌, refl, List, [], ◌∷◌, ◌++◌, length, set, drop}
use Rattle.std.proofs.Common.{arith, sym, ◌∙◌, ap, ap₂, length-set}
use Rattle.std.proofs.lemmas.List.Edits.{sets, sets-eq}
use Rattle.rules.specs.Kinds.{unit_kind}
use Rattle.rules.specs.Types.{Ty, entries, wire_code, type_codes}
use Rattle.rules.specs.Parts.{parts_of_kind}
use Rattle.rules.proofs.Laws.TypeCodes.{type_codes_entries, wire_kind}
use Rattle.check_types.specs.Cells.{cell_kind, cell_first, cell_second, Denotes, Made, made_pair, made_function}
use Rattle.check_types.specs.Cells.{made_circuit}
use Rattle.check_types.proofs.Laws.Cells.{View, no_part, one_part, two_parts, view, made_entries, made_parts}
use Rattle.check_types.proofs.Laws.Cells.{made_some, reusable_parts, reusable_some}
use Rattle.check_types.proofs.Laws.Cells.{cell_of, leaf_wire, leaf_unit, leaf_parts, leaf_clash}
use Rattle.check_types.specs.Compare.{share_of}
use Rattle.check_types.specs.Write.{WroteAt, SaysWrote, SaysWroteAt}

sets_append : (xs ys l : List ℕ) (i : ℕ) → sets l i (xs ++ ys) ≡ sets (sets l i xs) (i + length xs) ys
sets_append [] ys l i = let e : i ≡ i + 0 = omega arith in ap (λ j. sets l j ys) e
sets_append (x ∷ xs) ys l i =
    let e : suc i + length xs ≡ i + suc (length xs) = omega arith in
    sets_append xs ys (set l i x) (suc i) ∙ ap (λ j. sets (sets (set l i x) (suc i) xs) j ys) e

made_codes : {k : ℕ} {A B C : Ty} → Made k A B C → type_codes C ≡ k ∷ (type_codes A ++ type_codes B)
made_codes made_pair = refl
made_codes made_function = refl
made_codes made_circuit = refl

made_byte : {k : ℕ} {A B C : Ty} → Made k A B C → k < 256
made_byte made_pair = omega arith
made_byte made_function = omega arith
made_byte made_circuit = omega arith

-- A law for each way through the code.
module _ (w : List ℕ) (most i at : ℕ) (out : List ℕ) where
  pub wrote_leaf : parts_of_kind (cell_kind w i) ≡ 0 → SaysWroteAt w most i at out (set out at (cell_kind w i % 256)) (at + 1)
  wrote_leaf h n A d f b = go (view d)
    where
      go : {A : Ty} → View w n i A → WroteAt out (set out at (cell_kind w i % 256)) at A (at + 1)
      go (no_part (leaf_wire α) k) =
          let e : cell_kind w i % 256 ≡ wire_code α = omega (arith, wire_kind α) in
          record { codes = ap (λ x. set out at x) e; next = refl }
      go (no_part leaf_unit k) =
          let e : cell_kind w i % 256 ≡ unit_kind = omega arith in
          record { codes = ap (λ x. set out at x) e; next = refl }
      go (one_part k x) = absurd (reusable_some (ap parts_of_kind (sym k) ∙ h))
      go (two_parts m k x y) = absurd (made_some m (ap parts_of_kind (sym k) ∙ h))

  -- The entries of the parts, behind the kind's.
  abbrev headed : List ℕ
  headed = set out at (cell_kind w i % 256)

  pub wrote_one : (out' : List ℕ) (r : ℕ) → parts_of_kind (cell_kind w i) ≡ 1
      → SaysWroteAt w (share_of w (cell_first w i) (most - 1)) (cell_first w i) (at + 1) headed out' r
      → SaysWroteAt w most i at out out' r
  wrote_one out' r h first n A d f b = go (view d) f b
    where
      go : {A : Ty} → View w n i A → entries A ≤ most → at + entries A ≤ length out → WroteAt out out' at A r
      go (no_part l k) f b = absurd (omega (arith, leaf_parts l, ap parts_of_kind k))
      go (two_parts m k x y) f b = absurd (omega (arith, made_parts m, ap parts_of_kind k))
      go (one_part {A = A} k x) f b =
          let e : cell_kind w i % 256 ≡ 4 = omega arith in
          let p : at + 1 ≡ suc at = omega arith in
          let z = first n A x (omega (arith, (cell_of x).size)) (omega (arith, length-set out at (cell_kind w i % 256))) in
          record {
            codes = z.codes ∙ ap₂ (λ q j. sets (set out at q) j (type_codes A)) e p;
            next = z.next ∙ omega arith;
          }

  pub wrote_two : (out₁ out₂ : List ℕ) (next r : ℕ) → (parts_of_kind (cell_kind w i) ≡ 0 → ⊥) → (parts_of_kind (cell_kind w i) ≡ 1 → ⊥)
      → SaysWroteAt w (share_of w (cell_first w i) (most - 1)) (cell_first w i) (at + 1) headed out₁ next
      → length out₁ ≡ length out
      → SaysWroteAt w (most - 1 - share_of w (cell_first w i) (most - 1)) (cell_second w i) next out₁ out₂ r
      → SaysWroteAt w most i at out out₂ r
  wrote_two out₁ out₂ next r h h' first l second n A d f b = go (view d) f b
    where
      go : {A : Ty} → View w n i A → entries A ≤ most → at + entries A ≤ length out → WroteAt out out₂ at A r
      go (no_part l k) f b = absurd (leaf_clash l h k)
      go (one_part k x) f b = absurd (h' (ap parts_of_kind k ∙ reusable_parts))
      go (two_parts {k = kind} {A = A} {B = B} {C = C} m k x y) f b =
          let s = made_entries m in
          let z = first n A x (omega (arith, (cell_of x).size)) (omega (arith, length-set out at (cell_kind w i % 256))) in
          let v = second n B y (omega (arith, (cell_of x).size)) (omega (arith, z.next)) in
          let e : cell_kind w i % 256 ≡ kind = omega (arith, made_byte m) in
          let p : at + 1 ≡ suc at = omega arith in
          let q : next ≡ suc at + length (type_codes A) = omega (arith, z.next, type_codes_entries A) in
          record {
            codes =
                v.codes
                ∙ ap₂
                (λ o j. sets o j (type_codes B))
                (z.codes ∙ ap₂ (λ c j. sets (set out at c) j (type_codes A)) e p)
                q
                ∙ sym (sets_append (type_codes A) (type_codes B) (set out at kind) (suc at))
                ∙ ap (λ c. sets out at c) (sym (made_codes m));
            next = omega (arith, v.next, z.next);
          }

-- From the first place on.
pub wrote_all : (w : List ℕ) (most i : ℕ) (out out' : List ℕ) (r : ℕ)
    → ((n : ℕ) (A : Ty) → Denotes w n i A → entries A ≤ most)
    → SaysWroteAt w most i 0 out out' r
    → SaysWrote w i out out' r
wrote_all w most i out out' r f s n A d b =
    let z = s n A d (f n A d) (omega arith) in
    let l = type_codes_entries A in
    let e : 0 + length (type_codes A) ≡ entries A = omega arith in
    record {
      codes = z.codes ∙ sets-eq (type_codes A) out 0 (omega arith) ∙ ap (λ j. type_codes A ++ drop j out) e;
      count = z.next ∙ omega arith;
    }
