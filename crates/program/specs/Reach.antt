-- What a traversal over one type or term answers at its end, whatever parts wait behind it.
use Rattle.std.specs.Prelude.{ℕ, ◌≤◌, ◌-◌, ◌<◌, ◌≡◌, Result, Ok, Err, List, ◌∷◌}
use Rattle.program.specs.Traversal.{traverse_from}
use Rattle.program.specs.Traversal.{Subject}
use Rattle.program.specs.declared.traversal.Parts.{Parts}
use Rattle.program.specs.declared.traversal.Parts.TheVariants.{Leaf, One, Two, Stop}
use Rattle.program.specs.declared.traversal.Halt.{Halt}
use Rattle.program.specs.declared.traversal.Halt.TheVariants.{Stopped, Out}

-- The definition goes on behind the part, at entry m, with the parts that wait; or it ends as the traversal did.
abbrev pub Ends : Subject → List ℕ → ℕ → ℕ → ℕ → Result ℕ Halt → Type 0
Ends subject f end e binders (Ok m) =
    (e < m)
    × ((waiting : List ℕ) → traverse_from subject f (end - e) e (binders ∷ waiting) ≡ traverse_from subject f (end - m) m waiting)
Ends subject f end e binders (Err (Stopped at)) =
    (waiting : List ℕ) → traverse_from subject f (end - e) e (binders ∷ waiting) ≡ Err (Stopped at)
Ends subject f end e binders (Err Out) = (waiting : List ℕ) → traverse_from subject f (end - e) e (binders ∷ waiting) ≡ Err Out

pub record TraversedOf (subject : Subject) (f : List ℕ) (end e binders : ℕ) (r : Result ℕ Halt) : Type 0 where
  pub ends : Ends subject f end e binders r

-- The binders around each part are at most this many.
abbrev pub PartsFit : ℕ → Parts → Type 0
PartsFit n Leaf = Unit {0}
PartsFit n (One x) = x ≤ n
PartsFit n (Two x y) = (x ≤ n) × (y ≤ n)
PartsFit n Stop = Unit {0}
