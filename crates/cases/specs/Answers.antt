-- What a check and a run answer and leave in their buffers in the cases of the table.
use Rattle.std.specs.Prelude.{ℕ, ◌≡◌, List, [], ◌∷◌, ◌++◌, length, drop, Result, Ok, Err}
use Rattle.refusals.specs.declared.Refusal.{Refusal}
use Rattle.lent.specs.Lent.{answered}
use Rattle.check_program.specs.Answers.{check_answer, check_bytes}
use Rattle.run_answers.specs.Answers.{answer_to, out_to, run_answer, run_bytes}
use Rattle.cases.specs.Case.{CheckResult, accepted, refused, LimitedRun, limit◌gives◌, Case}

-- "Accepted: the type in preorder, one kind byte an entry, at the start of the output buffer, and its length."
abbrev pub check_answer_to : CheckResult → Result ℕ Refusal
check_answer_to (accepted codes) = Ok (length codes)
check_answer_to (refused r) = Err r

-- "output bytes past the answer keep their values; after a refusal all do".
abbrev pub check_out_to : List ℕ → CheckResult → List ℕ
check_out_to out (accepted codes) = codes ++ drop (length codes) out
check_out_to out (refused r) = out

-- With these buffers lent to the check and to the run, each list with the output buffer first.
module _ (check_buffers run_buffers : List (List ℕ)) where
  -- Each run answers and leaves this.
  abbrev pub RunsAnswer : List ℕ → List LimitedRun → Type 0
  RunsAnswer f [] = Unit {0}
  RunsAnswer f ((limit n gives r) ∷ more) =
      (run_answer f n run_buffers ≡ answer_to r)
      × (run_bytes f n run_buffers ≡ answered (λ out. out_to out r) run_buffers)
      × RunsAnswer f more

  -- The check and the run answer and leave what the case says.
  abbrev pub Answers : Case → Type 0
  Answers c =
      (check_answer c.file check_buffers ≡ check_answer_to c.check)
      × (check_bytes c.file check_buffers ≡ answered (λ out. check_out_to out c.check) check_buffers)
      × RunsAnswer c.file c.runs

  -- So in every case of a list.
  abbrev pub AllAnswer : List Case → Type 0
  AllAnswer [] = Unit {0}
  AllAnswer (c ∷ more) = Answers c × AllAnswer more
