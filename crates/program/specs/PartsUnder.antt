-- So many parts, the last under its own number of binders.
use Rattle.std.specs.Prelude.{ℕ, cond, eqb}
use Rattle.program.specs.declared.traversal.Parts.{Parts}
use Rattle.program.specs.declared.traversal.Parts.TheVariants.{Leaf, One, Two}

abbrev pub parts_under : ℕ → ℕ → ℕ → Parts
parts_under parts binders last = cond (eqb parts 0) Leaf (cond (eqb parts 1) (One last) (Two binders last))
