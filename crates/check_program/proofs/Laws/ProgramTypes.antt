-- Laws of specs/ProgramTypes.antt.
use Rattle.std.specs.Prelude.{ℕ, ◌+◌, ◌≤◌, ◌<◌, ◌≡◌, refl, true, false, List, [], ◌∷◌, ltb, length, drop, replicate, take, Result, Ok, Err}
use Rattle.std.proofs.Common.{arith, ◌∙◌, ap₂, subst, lt-ltb, le-ltb}
use Rattle.std.proofs.Math.Path.{sym, ap}
use Rattle.std.proofs.Math.Bool.{cond}
use Rattle.lent.specs.Lent.{too_short, zeroed}
use Rattle.lent.proofs.Laws.Lent.{below_here, below_later, short_left, long_left}
use Rattle.rules.specs.Types.{Wire, Ty}
use Rattle.rules.specs.Terms.{Term}
use Rattle.words.specs.Words.{words}
use Rattle.words.proofs.Laws.Words.{length_words}
use Rattle.program.specs.Format.{label_count, type_count, term_count, first_term, entry_count}
use Rattle.program.specs.Reading.{read_of}
use Rattle.program.specs.Trees.{AcceptedFile}
use Rattle.program.proofs.Theorems.Accepting.{read_sound}
use Rattle.refusals.specs.declared.Refusal.{Refusal}
use Rattle.refusals.specs.declared.Refusal.TheVariants.{Run}
use Rattle.program.specs.declared.format.Sizes.{Sizes}
use Rattle.check_types.specs.Cells.{Denotes}
use Rattle.check_types.proofs.Laws.Cells.{cell_of}
use Rattle.check_types.specs.Load.{load_codes, codes_of, TypesLoaded}
use Rattle.check_types.specs.GateCells.{gate_cells, load_all_gates}
use Rattle.check_types.proofs.Laws.GateCells.{gate_cells_lem}
use Rattle.check_types.specs.Write.{SaysWrote}
use Rattle.check_program.specs.Checking.{Verdict, has_type, refusal, verdict}
use Rattle.check_program.specs.Inferring.{Inferred, Ready, Possible, Meets}
use Rattle.check_program.specs.Answers.{labels_of, term_of, Judged, accepts, refuses, judged, judged_as, check_of}
use Rattle.check_program.specs.Answers.{answer_to, out_to, check_answer, check_bytes}
use Rattle.check_program.specs.Lengths.{least_work, check_lengths, least_out}
use Rattle.check_program.proofs.Laws.ReadBack.{labels_read, program_read}
use Rattle.check_program.proofs.Laws.Loading.{section, section_length, program_ready, labels_fresh}
use Rattle.check_program.specs.Loading.{bindings_loaded}
use Rattle.check_program.specs.Deciding.{SaysVerdict}
use Rattle.check_program.proofs.Laws.Deciding.{Decides, verdict_said}
use Rattle.check_program.specs.Layout.{least_words}
use Rattle.rules.specs.Sizes.{most_labels}
use Rattle.check_program.specs.ProgramTypes.{Readable, SaysFile, SaysProgramType}

-- The steps of the check of a file, before the term is looked at.
module _ (f : List ℕ) (labels types : ℕ) (work w₁ w₂ w₃ : List ℕ) (gates cells : ℕ)
    (readable : Readable f labels types)
    (room : least_work ≤ length work) (room₁ : length w₁ ≡ length work)
    (gates_are : gates ≡ gate_cells)
    (first : words w₁ ≡ load_all_gates (words work))
    (codes : List ℕ) (codes_is : codes ≡ take types (drop (6 + labels) f))
    (second : gates + length codes ≤ 65536 → TypesLoaded (words w₁) (words w₂) gates codes cells)
    (third : words w₃ ≡ bindings_loaded f (words w₂) most_labels) where
  long : least_words ≤ length (words work)
  long = omega (arith, length_words work)

  long₁ : least_words ≤ length (words w₁)
  long₁ = omega (arith, length_words w₁)

  codes_are : codes ≡ section f (label_count f) (type_count f)
  codes_are = codes_is ∙ ap₂ (λ P L. take P (drop (6 + L) f)) readable.4 readable.3

  codes_length : length codes ≡ type_count f
  codes_length =
      let fits = readable.2.length_is in
      ap length codes_are ∙ section_length f (label_count f) (type_count f) (omega arith)

  types_loaded : TypesLoaded (words w₁) (words w₂) gates codes cells
  types_loaded = second (omega (arith, codes_length, gate_cells_lem, readable.2.types_fit))

  loaded : words w₂ ≡ load_codes (words w₁) gate_cells (codes_of (section f (label_count f) (type_count f))) 0 (type_count f)
  loaded =
      types_loaded.words_loaded
      ∙ ap (λ n. load_codes (words w₁) n (codes_of codes) 0 (length codes)) gates_are
      ∙ ap₂ (λ s n. load_codes (words w₁) gate_cells (codes_of s) 0 n) codes_are codes_length

  cells_are : cells ≡ gate_cells + type_count f
  cells_are = types_loaded.cells ∙ ap₂ ◌+◌ gates_are codes_length

  module _ {L : List Wire} {M : Term} (file : AcceptedFile f L M) where
    ready : Ready f (words w₃) (first_term f) 0 0 cells L [] M (entry_count f)
    ready = program_ready file (words work) (words w₁) (words w₂) (words w₃) cells long long₁ first loaded third cells_are

  pub file_possible : (e : ℕ) → e ≡ labels + types → Possible f (words w₃) e 0 0 cells
  file_possible e q =
      subst (λ x. Possible f (words w₃) x 0 0 cells)
      (sym (q ∙ ap₂ ◌+◌ readable.3 readable.4))
      (readable.0, [], readable.1, entry_count f, ready readable.2)

  pub file_said : (w₄ : List ℕ) (e : ℕ) (found : Inferred) (r : Result ℕ Refusal)
      → e ≡ labels + types
      → Meets f (words w₃) w₄ e 0 0 cells found
      → Decides w₄ labels found r
      → SaysFile f w₄ r
  file_said w₄ e found r q meets is L M file =
      let at : e ≡ first_term f = q ∙ ap₂ ◌+◌ readable.3 readable.4 in
      verdict_said (words w₃) w₄ cells (first_term f) (entry_count f) L M found r labels
      (subst (λ x. Meets f (words w₃) w₄ x 0 0 cells found) at meets L [] M (entry_count f) (ready file))
      (readable.3 ∙ sym file.label_count_is)
      (omega (arith, file.label_count_is, file.labels_fit))
      (labels_fresh file (words work) (words w₁) (words w₂) (words w₃) cells long long₁ first loaded third cells_are)
      is

-- The core of the check, by the answer of the reader.
judgement_said : (f work work' : List ℕ) (v : Verdict) (r : Result ℕ Refusal)
    → SaysVerdict (words work') v r → SaysProgramType false (judged v) work work' r
judgement_said f work work' (has_type A) r s = s
judgement_said f work work' (refusal n p) r s = s

module _ (f work work' : List ℕ) (r : Result ℕ Refusal) (answer : Result Sizes Refusal) (is : answer ≡ read_of f)
    (long : least_work ≤ length work) where
  not_short : ltb (length work) least_work ≡ false
  not_short = le-ltb (length work) least_work long

  at_judged : (j : Judged) → check_of f ≡ j → SaysProgramType false j work work' r
      → SaysProgramType (ltb (length work) least_work) (check_of f) work work' r
  at_judged j q s =
      subst (λ t. SaysProgramType t (check_of f) work work' r) (sym not_short)
      (subst (λ x. SaysProgramType false x work work' r) (sym q) s)

  judged_from : (a : Result Sizes Refusal) → answer ≡ a → check_of f ≡ judged_as f a
  unfolding check_of
  judged_from a q = ap (judged_as f) (sym is ∙ q)

  pub program_type_refused : (x : Refusal) → answer ≡ Err x → r ≡ Err x
      → SaysProgramType (ltb (length work) least_work) (check_of f) work work' r
  program_type_refused x q h = at_judged (refuses x) (judged_from (Err x) q) h

  pub program_type_said : (sizes : Sizes) → answer ≡ Ok sizes → SaysFile f (words work') r
      → SaysProgramType (ltb (length work) least_work) (check_of f) work work' r
  program_type_said sizes q says =
      at_judged (judged (verdict (labels_of f) (first_term f) (term_of f)))
      (judged_from (Ok sizes) q)
      (judgement_said f work work' (verdict (labels_of f) (first_term f) (term_of f)) r
      (subst (λ l. SaysVerdict (words work') (verdict l (first_term f) (term_of f)) r) (sym (labels_read trees.2))
      (subst (λ m. SaysVerdict (words work') (verdict trees.0 (first_term f) m) r) (sym (program_read trees.2))
      (says trees.0 trees.1 trees.2))))
    where
      trees : (L : List Wire) × (M : Term) × AcceptedFile f L M
          × (sizes.labels ≡ label_count f) × (sizes.types ≡ type_count f) × (sizes.terms ≡ term_count f)
      trees = read_sound f sizes.labels sizes.types sizes.terms (sym is ∙ q)

-- What is read of an accepted file.
pub readable_of : (f : List ℕ) (sizes : Sizes) (answer : Result Sizes Refusal)
    → answer ≡ read_of f → answer ≡ Ok sizes → Readable f sizes.labels sizes.types
readable_of f sizes answer is q =
    let trees = read_sound f sizes.labels sizes.types sizes.terms (sym is ∙ q) in
    (trees.0, trees.1, trees.2, trees.3, trees.4)

pub program_type_short : (f work : List ℕ) → length work < least_work
    → SaysProgramType (ltb (length work) least_work) (check_of f) work work (Err (Run 19 0))
program_type_short f work h =
    subst (λ t. SaysProgramType t (check_of f) work work (Err (Run 19 0))) (sym (lt-ltb (length work) least_work h))
    (record { answer = refl; untouched = refl })

-- What the core answers says what the check of the file is.
program_type_refuses : (j : Judged) (work work' : List ℕ) (core : Result ℕ Refusal) (x : Refusal)
    → SaysProgramType false j work work' core → core ≡ Err x → j ≡ refuses x
program_type_refuses (accepts A) work work' core x s q = let z : ◌≡◌ {A = ℕ} 0 1 = cc (s.answer, q) in absurd (omega arith)
program_type_refuses (refuses y) work work' core x s q = cc

program_type_accepts : (j : Judged) (work work' : List ℕ) (core : Result ℕ Refusal) (cell : ℕ)
    → SaysProgramType false j work work' core → core ≡ Ok cell
    → (A : Ty) × (n : ℕ) × (j ≡ accepts A) × Denotes (words work') n cell A
program_type_accepts (accepts A) work work' core cell s q =
    let same : s.cell ≡ cell = cc (s.answer, q) in
    (A, s.cells, refl, subst (λ i. Denotes (words work') s.cells i A) same s.denotes)
program_type_accepts (refuses y) work work' core cell s q = let z : ◌≡◌ {A = ℕ} 0 1 = cc (s, q) in absurd (omega arith)

-- The answer and the buffers of the check, on each way through it.
module _ (f out work : List ℕ) where
  -- Both equations of the contract, where a buffer is too short.
  refuses_short : too_short check_lengths (out ∷ work ∷ []) ≡ true
      → (Err (Run 19 0) ≡ check_answer f (out ∷ work ∷ [])) × ((out ∷ work ∷ []) ≡ check_bytes f (out ∷ work ∷ []))
  unfolding check_answer
  refuses_short q = (
    sym (ap (λ t. cond t (Err (Run 19 0)) (answer_to (check_of f))) q),
    short_left check_lengths (λ out. out_to out (check_of f)) (out ∷ work ∷ []) q,
  )

  pub checks_short_out : length out < least_out
      → (Err (Run 19 0) ≡ check_answer f (out ∷ work ∷ [])) × ((out ∷ work ∷ []) ≡ check_bytes f (out ∷ work ∷ []))
  checks_short_out h = refuses_short (below_here least_out (length out) (least_work ∷ []) (length work ∷ []) h)

  pub checks_short_work : least_out ≤ length out → length work < least_work
      → (Err (Run 19 0) ≡ check_answer f (out ∷ work ∷ [])) × ((out ∷ work ∷ []) ≡ check_bytes f (out ∷ work ∷ []))
  checks_short_work h l =
      refuses_short
      (below_later least_out (length out) (least_work ∷ []) (length work ∷ []) h ∙ below_here least_work (length work) [] [] l)

  module _ (h : least_out ≤ length out) (l : least_work ≤ length work) where
    long_enough : too_short check_lengths (out ∷ work ∷ []) ≡ false
    long_enough =
        below_later least_out (length out) (least_work ∷ []) (length work ∷ []) h ∙ below_later least_work (length work) [] [] l

    checks_as : (j : Judged) (out' work' : List ℕ) (r : Result ℕ Refusal)
        → check_of f ≡ j → r ≡ answer_to j → out' ≡ out_to out j → work' ≡ zeroed work
        → (r ≡ check_answer f (out ∷ work ∷ [])) × ((out' ∷ work' ∷ []) ≡ check_bytes f (out ∷ work ∷ []))
    unfolding check_answer
    checks_as j out' work' r is a o m = (
      a ∙ ap answer_to (sym is) ∙ sym (ap (λ t. cond t (Err (Run 19 0)) (answer_to (check_of f))) long_enough),
      long_left check_lengths (λ out. out_to out (check_of f)) (out ∷ work ∷ []) (out' ∷ work' ∷ []) long_enough
          (ap₂ (λ o w. o ∷ w ∷ []) (o ∙ ap (out_to out) (sym is)) m),
    )

    module _ (work₁ : List ℕ) (core : Result ℕ Refusal)
        (said : SaysProgramType (ltb (length work) least_work) (check_of f) work work₁ core) where
      said_long : SaysProgramType false (check_of f) work work₁ core
      said_long = subst (λ t. SaysProgramType t (check_of f) work work₁ core) (le-ltb (length work) least_work l) said

      -- A refusal.
      pub checks_refused : (x : Refusal) (work' : List ℕ)
          → core ≡ Err x
          → length work₁ ≡ length work
          → work' ≡ replicate (length work₁) 0
          → (core ≡ check_answer f (out ∷ work ∷ [])) × ((out ∷ work' ∷ []) ≡ check_bytes f (out ∷ work ∷ []))
      checks_refused x work' q same cleared =
          checks_as (refuses x) out work' core (program_type_refuses (check_of f) work work₁ core x said_long q)
          q
          refl
          (cleared ∙ ap (λ n. replicate n 0) same)

      -- A type.
      pub checks_accepted : (cell length' : ℕ) (out' work' : List ℕ)
          → core ≡ Ok cell
          → SaysWrote (words work₁) cell out out' length'
          → length work₁ ≡ length work
          → work' ≡ replicate (length work₁) 0
          → (Ok length' ≡ check_answer f (out ∷ work ∷ [])) × ((out' ∷ work' ∷ []) ≡ check_bytes f (out ∷ work ∷ []))
      checks_accepted cell length' out' work' q wrote same cleared =
          let found = program_type_accepts (check_of f) work work₁ core cell said_long q in
          let A = found.0 in
          let small = (cell_of found.3).bounded in
          let done = wrote found.1 A found.3 (omega arith) in
          checks_as (accepts A) out' work' (Ok length') found.2
          (ap Ok done.count)
          done.codes
          (cleared ∙ ap (λ n. replicate n 0) same)
