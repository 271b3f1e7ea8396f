-- What the working memory holds while a term is checked.
use Rattle.std.specs.Prelude.{ℕ, ◌+◌, ◌≤◌, ◌<◌, ◌≡◌, List, length}
use Rattle.std.proofs.Math.Option.{some}
use Rattle.rules.specs.Types.{Wire, Ty}
use Rattle.program.specs.Trees.{TypeAtPosition}
use Rattle.check_types.specs.Cells.{Denotes, Agree}
use Rattle.check_types.specs.GateCells.{GatesLoaded}
use Rattle.check_types.specs.NewCell.{with_cell}
use Rattle.check_program.specs.Checking.{Binder, ◌under◌}
use Rattle.check_program.specs.Layout.{binding_cell, binding_lifts, binding_uses, held, type_cell, least_words, most_cells}
use Rattle.rules.specs.Sizes.{most_labels}

abbrev pub type_of : Binder → Ty
type_of (A under b) = A

abbrev pub lifts_of : Binder → ℕ
lifts_of (A under b) = b

-- Binding i holds a variable or a label: its cell, among the first cells, denotes the type, and its lifts stand there.
pub record Binding (w : List ℕ) (cells i : ℕ) (b : Binder) : Type 0 where
  pub denotes : Denotes w cells (binding_cell w i) (type_of b)
  pub lifts : binding_lifts w i ≡ lifts_of b

-- The types of the file and of the gates stand among the first cells.
pub record Loaded (f w : List ℕ) (cells : ℕ) : Type 0 where
  pub types : (p : ℕ) (A : Ty) → TypeAtPosition f p A → Denotes w cells (type_cell f p) A
  pub gates : GatesLoaded w cells

-- The memory is ready for a term at entry e under the binders Γ: what is in scope stands in its bindings, and none of it has
-- been used more often than entries have been passed.
pub record Environment (f w : List ℕ) (e cells : ℕ) (L : List Wire) (Γ : List Binder) : Type 0 where
  pub room : least_words ≤ length w
  pub labels_fit : length L ≤ most_labels
  pub loaded : Loaded f w cells
  pub slots : (i : ℕ) (b : Binder) → held L Γ i ≡ some b → Binding w cells i b
  pub uses_fit : (i : ℕ) → i < most_labels + length Γ → binding_uses w i ≤ e

-- What a term leaves of the memory: the cells and the first d bindings as they were, with its uses counted.
pub record Kept (w w' : List ℕ) (cells d : ℕ) (count : ℕ → ℕ) : Type 0 where
  pub agree : Agree w w' cells
  pub length_kept : length w' ≡ length w
  pub cells_same : (i : ℕ) → i < d → binding_cell w' i ≡ binding_cell w i
  pub lifts_same : (i : ℕ) → i < d → binding_lifts w' i ≡ binding_lifts w i
  pub uses_counted : (i : ℕ) → i < d → binding_uses w' i ≡ binding_uses w i + count i

-- A binder that is pushed stands in the next binding, with no uses; the others are as they were.
abbrev pub pushed : List ℕ → ℕ → ℕ → ℕ → List ℕ
pushed w d cell lifts = with_cell w (most_cells + (most_labels + d)) cell lifts 0 0
