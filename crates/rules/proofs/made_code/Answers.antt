-- `rules::made_code` meets its contract: its table has the types of the wires that each gate makes, in one number, as antt computes it.
-- Assumes nothing.
use Rattle.std.proofs.Common.{◌∙◌}
use Rattle.rules.specs.Gates.{gate_table, output_wires}
use Rattle.rules.specs.GateCodes.{wires_code, made_code}
use Rattle.rules.proofs.GateTable.{entry_at}
use Rattle.rules.proofs.made_code.Goals as goal

pub returns : goal.returns
unfolding made_code
returns c = c.number_at.ensures ∙ entry_at (λ g. wires_code (output_wires g)) gate_table c.args.n
