-- `machine_circuits::tuples::output_size` meets its contract: behind Circ and the input's entries stand those of the output.
-- Assumes nothing.
use Rattle.machine_circuits.proofs.Laws.Outputs.{output_count_is}
use Rattle.machine_circuits.proofs.tuples.output_size.Goals as goal

pub returns : goal.returns
returns c = λ T U e.
    output_count_is c.args.number T U e
    c.type_entries.ensures
    c.output_start.ensures
    c.saturating_sub.ensures
