-- `rules::type_entries` meets its contract: its table has the number of entries of each gate's type, as antt computes it.
-- Assumes nothing.
use Rattle.std.proofs.Common.{◌∙◌}
use Rattle.std.specs.Prelude.{length}
use Rattle.rules.specs.Gates.{gate_table}
use Rattle.rules.specs.GateCodes.{circ_codes, type_entries}
use Rattle.rules.proofs.GateTable.{entry_at}
use Rattle.rules.proofs.type_entries.Goals as goal

pub returns : goal.returns
unfolding type_entries
returns c = c.number_at.ensures ∙ entry_at (λ g. length (circ_codes g)) gate_table c.args.n
