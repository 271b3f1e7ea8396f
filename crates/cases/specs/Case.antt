-- What a case of the table is: a file, the program that it is, what the check gives, and what a run gives with one limit or
-- more; and when it holds.
use Rattle.std.specs.Prelude.{ℕ, ◌≡◌, List, [], ◌∷◌, map, Result, Ok, Err}
use Rattle.std.proofs.Math.Option.{Option, none, some}
use Rattle.rules.specs.Types.{Wire, type_codes}
use Rattle.rules.specs.Terms.{Term}
use Rattle.program.specs.Reading.{read_of}
use Rattle.refusals.specs.declared.Refusal.{Refusal}
use Rattle.refusals.specs.declared.Refusal.TheVariants.{Run}
use Rattle.program.specs.declared.format.Sizes.{Sizes}
use Rattle.check_program.specs.Answers.{labels_of, term_of, Judged, accepts, refuses, check_of}
use Rattle.run_answers.specs.Answers.{Ran, declines, run_of}

-- What the check gives: "the type in preorder, one kind byte an entry"; or a refusal, with its number and place.
pub data CheckResult : Type 0 where
  accepted : List ℕ → CheckResult
  refused : Refusal → CheckResult

-- A run with a limit gives steps, gates and the bytes of the listing; or a refusal.
pub data LimitedRun : Type 0 where
  limit◌gives◌ : ℕ → Ran → LimitedRun

infix 70 limit◌gives◌
-- A case: its file, the labels and the term of the file if it is read, and what the check and runs of it give.
pub record Case : Type 0 where
  pub file : List ℕ
  pub program : Option (List Wire × Term)
  pub check : CheckResult
  pub runs : List LimitedRun

-- The limit of `wirelist`: "runs it with limit 1,000,000".
abbrev pub wirelist_limit : ℕ
wirelist_limit = 1000000

-- "21: the limit's steps are done and it is unfinished".
abbrev pub unfinished : Ran
unfinished = declines (Run 21 0)

-- A case that the check refuses, and so a run too: "A run first checks".
abbrev pub refused_case : List ℕ → Option (List Wire × Term) → Refusal → Case
refused_case f p r =
    record { file = f; program = p; check = refused r; runs = limit wirelist_limit gives declines r ∷ [] }

-- The labels and the term of a file that is read.
abbrev pub program_as : List ℕ → Result Sizes Refusal → Option (List Wire × Term)
program_as f (Ok sizes) = some (labels_of f, term_of f)
program_as f (Err r) = none

-- What the check gives, with the type in preorder.
abbrev pub checked_as : Judged → CheckResult
checked_as (accepts A) = accepted (type_codes A)
checked_as (refuses r) = refused r

-- What a run of the file gives with that limit.
abbrev pub ran_with : List ℕ → LimitedRun → LimitedRun
ran_with f (limit n gives r) = limit n gives run_of f n

-- The case of the same file and limits, computed: what is read, what the check gives and what the runs give.
abbrev pub computed : Case → Case
computed c =
    record {
      file = c.file;
      program = program_as c.file (read_of c.file);
      check = checked_as (check_of c.file);
      runs = map (ran_with c.file) c.runs;
    }

-- Every case of a list holds: it says what is computed.
abbrev pub AllHold : List Case → Type 0
AllHold cs = map computed cs ≡ cs
