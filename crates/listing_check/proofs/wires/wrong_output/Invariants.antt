use Prim.Native.Nat.{ℕ, ◌+◌, ◌-◌, ◌*◌}
use mathlib.Core.List.{List}
use Rattle.rules.specs.Types.{Wire}
use Rattle.words.specs.Numbers.{words_at}
use Rattle.listing.specs.Reading.{output_count, outputs_from, outputs_of}
use Rattle.wire_table.specs.Table.{Holds}
use Rattle.listing_check.proofs.Laws.Wires.{Leaving}
use Rattle.listing_check.proofs.wires.wrong_output.Given as goal

abbrev pub invariant-loop-j : goal.invariant-loop-j
invariant-loop-j l =
    (types : List Wire) (gone : List ℕ)
    → Holds l.initial.table types gone
    → Leaving types gone (outputs_of l.listing) l.table l.j (words_at l.listing (outputs_from l.listing + 2 * l.j) (output_count l.listing - l.j))
