-- `rules::taken_code` meets its contract: its table has the types of the wires that each gate takes, in one number, as antt computes it.
-- Assumes nothing.
use Rattle.std.proofs.Common.{◌∙◌}
use Rattle.rules.specs.Gates.{gate_table, input_wires}
use Rattle.rules.specs.GateCodes.{wires_code, taken_code}
use Rattle.rules.proofs.GateTable.{entry_at}
use Rattle.rules.proofs.taken_code.Goals as goal

pub returns : goal.returns
unfolding taken_code
returns c = c.number_at.ensures ∙ entry_at (λ g. wires_code (input_wires g)) gate_table c.args.n
