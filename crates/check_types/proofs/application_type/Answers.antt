-- `check_types::application_type` meets its contract: the result of a function. Assumes nothing.
use Rattle.rules.specs.Inference.{as_function}
use Rattle.check_types.specs.Rules.{reads_function}
use Rattle.check_types.proofs.application_type.Goals as goal

pub returns : goal.returns
returns c = c.result_type.ensures as_function reads_function
