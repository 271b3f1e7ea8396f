-- `rules::is_gate` meets its contract: the gates are the numbers below the table's length. Assumes nothing.
use Rattle.rules.specs.Gates.{gate_table, is_gate}
use Rattle.rules.proofs.GateTable.{gate_below}
use Rattle.rules.proofs.is_gate.Goals as goal

pub returns : goal.returns
unfolding is_gate
returns c = gate_below gate_table c.args.n
