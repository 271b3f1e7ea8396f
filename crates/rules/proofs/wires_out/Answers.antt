-- `rules::wires_out` meets its contract: its table has the number of wires out of each gate, as antt computes it.
-- Assumes nothing.
use Rattle.std.proofs.Common.{◌∙◌}
use Rattle.std.specs.Prelude.{length}
use Rattle.rules.specs.Gates.{gate_table, output_wires, wires_out}
use Rattle.rules.proofs.GateTable.{entry_at}
use Rattle.rules.proofs.wires_out.Goals as goal

pub returns : goal.returns
unfolding wires_out
returns c = c.number_at.ensures ∙ entry_at (λ g. length (output_wires g)) gate_table c.args.n
