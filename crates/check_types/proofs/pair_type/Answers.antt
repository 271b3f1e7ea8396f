-- `check_types::pair_type` meets its contract: the pair type of two parts. Assumes nothing.
use Rattle.check_types.specs.Cells.{made_pair}
use Rattle.check_types.proofs.pair_type.Goals as goal

pub returns-clause-meets_two : goal.returns-clause-meets_two
returns-clause-meets_two c = λ room A B d e. c.two_parts.ensures.makes_two A B _ made_pair room d e
