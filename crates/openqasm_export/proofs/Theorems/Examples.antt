-- 28 by computation: of Init alone, which is entry 0; of a Qubit that H takes, Meas measures and Discard drops, where Discard is
-- entry 3; and 26 first, where the one wire that Init makes goes nowhere.
use Rattle.std.specs.Prelude.{ℕ, ◌≡◌, refl, Result, Err}
use mathlib.Core.List.{List, [], ◌∷◌, flat_map}
use Rattle.rules.specs.Types.{Qubit}
use Rattle.rules.specs.Gates.{is_gate, wires_in}
use Rattle.rules.specs.Terms.{◌on◌}
use Rattle.refusals.specs.declared.Refusal.{Refusal}
use Rattle.refusals.specs.declared.Refusal.TheVariants.{Run}
use Rattle.words.specs.Numbers.{word_at}
use Rattle.listing.specs.Listing.{listing_bytes}
use Rattle.listing.specs.Reading.{kind_at}
use Rattle.wire_table.specs.Wires.{broken_at}
use Rattle.listing_check.specs.declared.ListingSizes.{ListingSizes}
use Rattle.listing_check.specs.Answers.{listing_check_of}
use Rattle.openqasm.specs.Layout.{has_statement}
use Rattle.openqasm_export.specs.Answers.{first_unwritten, export_check_of}

-- `export_check_of` with every definition that it rests on open: a line `unfolding opened` below opens them all.
opened : List ℕ → Result ListingSizes Refusal
unfolding export_check_of first_unwritten has_statement listing_check_of kind_at word_at is_gate wires_in broken_at listing_bytes flat_map
opened b = export_check_of b

pub init_refused : export_check_of (listing_bytes [] ((9 on []) ∷ []) (0 ∷ [])) ≡ Err (Run 28 0)
unfolding opened
init_refused = refl

pub discard_refused
    : export_check_of (listing_bytes (Qubit ∷ []) ((10 on 2 ∷ []) ∷ (6 on 1 ∷ []) ∷ (0 on 0 ∷ []) ∷ []) []) ≡ Err (Run 28 3)
unfolding opened
discard_refused = refl

pub left_over_first : export_check_of (listing_bytes [] ((9 on []) ∷ []) []) ≡ Err (Run 26 0)
unfolding opened
left_over_first = refl
