-- `check_types::abstraction_type` meets its contract: the function type of two parts. Assumes nothing.
use Rattle.check_types.specs.Cells.{made_function}
use Rattle.check_types.proofs.abstraction_type.Goals as goal

pub returns-clause-meets_two : goal.returns-clause-meets_two
returns-clause-meets_two c = λ room A B d e. c.two_parts.ensures.makes_two A B _ made_function room d e
