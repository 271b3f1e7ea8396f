-- `check_types::load_gate` meets its contract: a gate's type has few entries. Assumes nothing.
use native.Mathlib.Omega.{arith}
use Rattle.check_types.proofs.Laws.GateCells.{few_entries}
use Rattle.check_types.proofs.load_gate.Goals as goal

pub load_codes-requires-clause-fits : goal.load_codes-requires-clause-fits
load_codes-requires-clause-fits c = omega (arith, c.requires, c.type_entries.ensures, few_entries c.args.g)
