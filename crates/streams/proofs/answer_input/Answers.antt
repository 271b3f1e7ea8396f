-- `streams::answer_input` meets its contract: what is written for the bytes that are read is the answer to all. Assumes nothing.
use Rattle.streams.proofs.Laws.Answered.{answered_part}
use Rattle.streams.proofs.answer_input.Goals as goal

pub returns-in_err-write_all-clause-part : goal.returns-in_err-write_all-clause-part
returns-in_err-write_all-clause-part g c room =
    answered_part g.A.Answers.answer _ _ _ _ _ _ c.read_full-size.ensures.taken (c.put_answer-length.ensures.whole room) c.write_all.ensures.part

pub returns-clause-part : goal.returns-clause-part
returns-clause-part g c room =
    answered_part g.A.Answers.answer _ _ _ _ _ _ c.read_full-size.ensures.taken (c.put_answer-length.ensures.whole room) c.write_all.ensures.part
