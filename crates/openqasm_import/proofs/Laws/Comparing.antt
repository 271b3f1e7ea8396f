-- Laws of the comparison of bytes.
use Rattle.std.specs.Prelude.{ℕ, ◌≡◌, refl, Bool, true, false, ◌&&◌, List, [], ◌∷◌, eqb}
use Rattle.std.proofs.Common.{ap, ap₂, eq-eqb, eqb-true}
use lib.Pointwise.{pointwise}
use Rattle.openqasm_import.specs.Answers.{same_bytes}

-- Bytes are the same as themselves, and only as themselves.
pub same_as_itself : (xs : List ℕ) → same_bytes xs xs ≡ true
same_as_itself [] = refl
same_as_itself (x ∷ xs) = ap₂ ◌&&◌ (eq-eqb x x refl) (same_as_itself xs)

pub same_are : (xs ys : List ℕ) → same_bytes xs ys ≡ true → xs ≡ ys
same_are [] [] e = refl
same_are [] (y ∷ ys) e = cc
same_are (x ∷ xs) [] e = cc
same_are (x ∷ xs) (y ∷ ys) e = of (eqb x y) refl e (same_are xs ys)
  where
    of : (t : Bool) → eqb x y ≡ t → t && same_bytes xs ys ≡ true → (same_bytes xs ys ≡ true → xs ≡ ys) → (x ∷ xs) ≡ (y ∷ ys)
    of true p e rest = ap₂ (λ z zs. z ∷ zs) (eqb-true x y p) (rest e)
    of false p e rest = cc

-- Std's comparison, element by element, is the same.
pub same_told : (xs ys : List ℕ) → pointwise eqb xs ys ≡ same_bytes xs ys
same_told [] [] = refl
same_told [] (y ∷ ys) = refl
same_told (x ∷ xs) [] = refl
same_told (x ∷ xs) (y ∷ ys) = ap (λ t. eqb x y && t) (same_told xs ys)
