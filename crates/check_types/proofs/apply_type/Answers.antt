-- `check_types::apply_type` meets its contract: the result of a circuit. Assumes nothing.
use Rattle.rules.specs.Inference.{as_circ}
use Rattle.check_types.specs.Rules.{reads_circuit}
use Rattle.check_types.proofs.apply_type.Goals as goal

pub returns : goal.returns
returns c = c.result_type.ensures as_circ reads_circuit
