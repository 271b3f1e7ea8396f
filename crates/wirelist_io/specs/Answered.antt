-- The text of a run's answer and the bytes of its output buffer.
use Rattle.std.specs.Prelude.{ℕ, ◌≤◌, List, length, Result, Ok, Err}
use Rattle.wirelist_lines.specs.Least.{least_text}
use Rattle.wirelist_lines.specs.LinesAt.{text_at}
use Rattle.refusals.specs.declared.Refusal.{Refusal}
use Rattle.run_answers.specs.declared.Finished.{Finished}
use Rattle.wirelist_io.specs.Printing.{refusal_text}

abbrev pub answer_text : Result Finished Refusal → List ℕ → List ℕ
answer_text (Ok a) b = text_at b a.steps
answer_text (Err x) b = refusal_text x

-- A refusal's text has at most the least length of a text.
abbrev pub RefusalFits : Result Finished Refusal → Type 0
RefusalFits (Ok a) = Unit {0}
RefusalFits (Err x) = length (refusal_text x) ≤ least_text
