-- Laws of tables in which every row is what is computed of it.
use Rattle.std.specs.Prelude.{◌≡◌, List, [], ◌∷◌, ◌++◌, map}
use Rattle.std.proofs.Common.{ap₂}

-- One table behind another.
pub both_hold : {A : Type 0} (f : A → A) (xs ys : List A) → map f xs ≡ xs → map f ys ≡ ys → map f (xs ++ ys) ≡ xs ++ ys
both_hold f [] ys h k = k
both_hold f (x ∷ xs) ys h k =
    let this : f x ≡ x = cc in
    let those : map f xs ≡ xs = cc in
    ap₂ ◌∷◌ this (both_hold f xs ys those k)
