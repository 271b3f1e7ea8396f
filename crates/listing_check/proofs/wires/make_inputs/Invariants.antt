use Prim.Native.Nat.{◌-◌}
use mathlib.Core.List.{[]}
use Rattle.listing.specs.Reading.{input_count, inputs_from, inputs_of}
use Rattle.wire_table.proofs.Laws.Table.{Making}
use Rattle.listing_check.proofs.wires.make_inputs.Given as goal

abbrev pub invariant-loop-i : goal.invariant-loop-i
invariant-loop-i l =
    Making [] [] (inputs_of l.listing) l.table l.i (inputs_from l.listing l.i (input_count l.listing - l.i))
