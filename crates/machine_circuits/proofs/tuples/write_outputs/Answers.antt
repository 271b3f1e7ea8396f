-- `machine_circuits::tuples::write_outputs` meets its contract. Assumes nothing.
use native.Mathlib.Omega.{arith}
use Prim.Native.Nat.{◌+◌}
use mathlib.Core.Path.{◌∙◌, ap}
use Rattle.machine_circuits.proofs.Laws.Outputs.{entries_of_lem, output_wires_lem, input_span, output_stands, output_count_is}
use Rattle.machine_circuits.proofs.tuples.write_outputs.Goals as goal

pub write_type-requires-clause-count_in_bounds : goal.write_type-requires-clause-count_in_bounds
write_type-requires-clause-count_in_bounds c = omega (arith, entries_of_lem c.args.number)

pub returns : goal.returns
returns c = λ T U e room few.
    let n = c.args.number in
    let start = c.output_start-start.ensures ∙ ap (λ i. 1 + i) (input_span n T U e) in
    c.write_type.ensures U (output_wires_lem n T U e)
    (rw start (output_stands n T U e))
    (output_count_is n T U e
    c.type_entries.ensures
    c.output_start-start.ensures
    c.saturating_sub-count.ensures)
    room
    few
