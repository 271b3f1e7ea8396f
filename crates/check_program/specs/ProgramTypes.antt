-- The contracts of the check of a whole file, and the laws that its functions use.
use Rattle.std.specs.Prelude.{ℕ, ◌≡◌, Bool, true, false, List, Result, Err}
use Rattle.rules.specs.Types.{Wire}
use Rattle.rules.specs.Terms.{Term}
use Rattle.words.specs.Words.{words}
use Rattle.program.specs.Format.{label_count, type_count, first_term}
use Rattle.program.specs.Trees.{AcceptedFile}
use Rattle.refusals.specs.declared.Refusal.{Refusal}
use Rattle.refusals.specs.declared.Refusal.TheVariants.{Run}
use Rattle.check_program.specs.Checking.{verdict}
use Rattle.check_program.specs.Answers.{Judged, accepts, refuses}
use Rattle.check_program.specs.Deciding.{CellOf, SaysVerdict}

-- A file with these sizes is accepted.
abbrev pub Readable : List ℕ → ℕ → ℕ → Type 0
Readable f labels types =
    (L : List Wire) × (M : Term) × AcceptedFile f L M × (labels ≡ label_count f) × (types ≡ type_count f)

-- The answer is the verdict on the file's labels and term, whatever they are.
abbrev pub SaysFile : List ℕ → List ℕ → Result ℕ Refusal → Type 0
SaysFile f w r = (L : List Wire) (M : Term) → AcceptedFile f L M → SaysVerdict w (verdict L (first_term f) M) r

-- A working memory that is too short is refused, and not touched.
pub record Short (work work' : List ℕ) (r : Result ℕ Refusal) : Type 0 where
  pub answer : r ≡ Err (Run 19 0)
  pub untouched : work' ≡ work

-- What the core of the check answers: 19 if the memory is too short; the file's refusal; or a cell that denotes its type.
abbrev pub SaysProgramType : Bool → Judged → List ℕ → List ℕ → Result ℕ Refusal → Type 0
SaysProgramType true j work work' r = Short work work' r
SaysProgramType false (accepts A) work work' r = CellOf (words work') A r
SaysProgramType false (refuses x) work work' r = r ≡ Err x
