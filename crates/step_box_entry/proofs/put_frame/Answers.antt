-- `step_box_entry::put_frame` meets its contract. Assumes nothing.
use Rattle.words.proofs.Laws.Quadwords.{quadword_put}
use Rattle.step_box_entry.proofs.put_frame.Goals as goal

pub returns : goal.returns
returns c = record { stack_after = quadword_put _ _ _ _ _ _ _ c.put_quadword.ensures; frames_after = quadword_put _ _ _ _ _ _ _ c.put_quadword-2.ensures }
