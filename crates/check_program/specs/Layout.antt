-- The working memory of the check: quadwords. First the cells of types (at most 2,700), then the bindings of
-- what is in scope: 64 of labels, then 4,096 of binders, the outermost first. A binding is a quadword too: the cell of its type,
-- the lifts around it, its uses so far, and a word that is not used.
use Rattle.std.specs.Prelude.{ℕ, suc, ◌+◌, ◌*◌, ◌-◌, cond, List, [], ◌∷◌, eqb, length}
use Rattle.std.proofs.Math.Option.{Option, none, some, map}
use Rattle.rules.specs.Types.{Wire, wire}
use Rattle.rules.specs.Gates.{nth}
use Rattle.rules.specs.Terms.{Term, variable, label, gate, constant, abstraction, application, pair, let_in, lift, force}
use Rattle.rules.specs.Terms.{box, apply, unit_value}
use Rattle.rules.specs.Circuits.{one_if}
use Rattle.program.specs.Format.{type_count}
use Rattle.check_types.specs.Cells.{cell_kind, cell_first, cell_second}
use Rattle.check_types.specs.GateCells.{gate_cells}
use Rattle.check_program.specs.Checking.{Binder, ◌under◌}
use Rattle.rules.specs.Sizes.{most_labels, most_terms}

-- The first quadword of the scope: there are never as many cells (59 of Bit, Qubit, unit and the gates, 512 of the file's types,
-- 2,048 of nodes).
abbrev pub most_cells : ℕ
most_cells = 2700

-- Two for each of 2,048 nodes.
abbrev pub most_binders : ℕ
most_binders = 2 * most_terms

-- The words that the check needs: 27,440.
abbrev pub least_words : ℕ
least_words = 4 * (most_cells + most_labels + most_binders)

-- What stands in binding i: the cell of the type, the lifts where it is bound, and its uses so far.
abbrev pub binding_cell : List ℕ → ℕ → ℕ
binding_cell w i = cell_kind w (most_cells + i)

abbrev pub binding_lifts : List ℕ → ℕ → ℕ
binding_lifts w i = cell_first w (most_cells + i)

abbrev pub binding_uses : List ℕ → ℕ → ℕ
binding_uses w i = cell_second w (most_cells + i)

-- What binding i holds, with the labels of a file and the binders in scope, the innermost first: label i under no lift, and
-- from binding 64 on the binders, the outermost first.
abbrev pub held : List Wire → List Binder → ℕ → Option Binder
held L [] i = map (λ α. wire α under 0) (nth L i)
held L (b ∷ Γ) i = cond (eqb i (most_labels + length Γ)) (some b) (held L Γ i)

-- The binding of variable x under d binders.
abbrev pub variable_binding : ℕ → ℕ → ℕ
variable_binding d x = most_labels + (d - suc x)

-- How often a term under d binders uses what binding i holds.
abbrev pub counted : ℕ → ℕ → Term → ℕ
counted d i (variable x) = one_if (eqb i (variable_binding d x))
counted d i (label ℓ) = one_if (eqb i ℓ)
counted d i (gate x) = 0
counted d i unit_value = 0
counted d i (constant c) = 0
counted d i (abstraction A M) = counted (suc d) i M
counted d i (application M N) = counted d i M + counted d i N
counted d i (pair M N) = counted d i M + counted d i N
counted d i (let_in M N) = counted d i M + counted (suc (suc d)) i N
counted d i (lift M) = counted d i M
counted d i (force M) = counted d i M
counted d i (box T M) = counted d i M
counted d i (apply M N) = counted d i M + counted d i N

-- The cell of the type at a position of the file: the type section is loaded behind the gates, its last position first.
abbrev pub type_cell : List ℕ → ℕ → ℕ
type_cell f p = gate_cells + (type_count f - suc p)
