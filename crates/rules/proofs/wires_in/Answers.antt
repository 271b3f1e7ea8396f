-- `rules::wires_in` meets its contract: its table has the number of wires in of each gate, as antt computes it.
-- Assumes nothing.
use Rattle.std.proofs.Common.{◌∙◌}
use Rattle.std.specs.Prelude.{length}
use Rattle.rules.specs.Gates.{gate_table, input_wires, wires_in}
use Rattle.rules.proofs.GateTable.{entry_at}
use Rattle.rules.proofs.wires_in.Goals as goal

pub returns : goal.returns
unfolding wires_in
returns c = c.number_at.ensures ∙ entry_at (λ g. length (input_wires g)) gate_table c.args.n
