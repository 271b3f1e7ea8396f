-- What is printed for each answer of a run, and how long it is.
use Rattle.std.specs.Prelude.{ℕ, ◌≤◌, ◌≡◌, refl, false, cond, List, [], ◌∷◌, ◌++◌, map, length, drop, get_or, replicate, Result, Err}
use Rattle.std.proofs.Common.{arith, sym, ◌∙◌, ap, ap₂, subst}
use Rattle.std.proofs.Math.Option.{some}
use Rattle.rules.specs.Terms.{Gate, Term, tuple}
use Rattle.rules.specs.Circuits.{circuit}
use Rattle.rules.specs.Steps.{frame, Configuration, configuration, start}
use Rattle.rules.specs.Sizes.{most_gates}
use Rattle.rules.specs.Demand3.{finished as at_end}
use Rattle.rules.specs.Next.{tuple_of}
use Rattle.rules.proofs.Theorems.Deterministic.{tuple_value, tuple_of_tuple}
use Rattle.rules.proofs.Theorems.Runs.{finish_means}
use Rattle.refusals.specs.declared.Refusal.{Refusal}
use Rattle.check_program.specs.Answers.{labels_of, term_of}
use Rattle.refusals.specs.Refusals.{refusal_number, refusal_place}
use Rattle.wirelist_lines.specs.Lines.{lines, refused_line}
use Rattle.wirelist_lines.specs.Least.{least_text, refusal_bytes}
use Rattle.wirelist_lines.specs.LinesAt.{text_at}
use Rattle.text.specs.Written.{Written}
use Rattle.wirelist_lines.proofs.Theorems.Lines.{in_order}
use Rattle.wirelist_lines.proofs.Laws.Fitting.{Printable, printable, lines_fit}
use Rattle.run_answers.specs.declared.Finished.{Finished}
use Rattle.refusals.specs.declared.Refusal.TheVariants.{Run}
use Rattle.lent.specs.Lent.{any_below, too_short, answered, bytes_left}
use Rattle.run_answers.specs.Lengths.{run_lengths}
use Rattle.run_answers.specs.Answers.{Ran, ran, declines, run_of, answer_to, out_to, run_answer, run_bytes, finished}
use Rattle.run_answers.specs.Demand2.{Finishes}
use Rattle.run_answers.proofs.Laws.Finishing.{FinishedRun, start_typed, finished_facts}
use Rattle.run_answers.proofs.Theorems.Running.{run_finishes}
use Rattle.wirelist_io.specs.Printing.{step_limit, refusal_text, tuple_text, finished_text, ran_text, printed}
use Rattle.wirelist_io.specs.Answered.{answer_text, RefusalFits}

-- Where the rules' steps finish, the lines of the listed circuit, its outputs and the number of steps are printed.
pub printed_finished : {f : List ℕ} {steps gates : ℕ} {bytes : List ℕ} (h : Finishes f step_limit steps gates bytes)
    → printed f ≡ lines (circuit (labels_of f) h.listed_gates) h.outputs steps
unfolding printed
printed_finished {f} {steps} {gates} {bytes} h =
    let C = circuit (labels_of f) h.listed_gates in
    let ends = (finish_means most_gates step_limit (start (labels_of f) (term_of f))
    (start_typed f h.program.program_type h.program.accepted)).only steps
    (configuration (frame C (tuple h.outputs)) [] h.closed)
    (record { row = h.row; in_time = h.in_time; at_end = at_end (tuple_value h.outputs) }) in
    ap (ran_text f step_limit) ((run_finishes f step_limit steps gates bytes).1 h)
    ∙ ap (λ r. finished_text steps r.reached) ends
    ∙ ap (tuple_text steps C) (tuple_of_tuple h.outputs)

-- Else the line of the refusal is.
pub printed_refused : (f : List ℕ) {x : Refusal} → run_of f step_limit ≡ declines x → printed f ≡ refusal_text x
unfolding printed
printed_refused f e = ap (ran_text f step_limit) e

-- The gates of a finish, and the labels of its tuple, are known from the configuration.
gates_of_lem : Configuration → List Gate
gates_of_lem (configuration (frame (circuit I gs) M) X K) = gs

term_in : Configuration → Term
term_in (configuration (frame C M) X K) = M

some_same : {A : Type 0} {x y : A} → some x ≡ some y → x ≡ y
some_same e = cc

-- What a run lists is a sound circuit within the sizes.
listed_printable : {f : List ℕ} {limit steps gates : ℕ} {bytes : List ℕ} (h : Finishes f limit steps gates bytes)
    → Printable (labels_of f) h.listed_gates h.outputs
unfolding gates_of_lem term_in
listed_printable {f} {steps = steps} h =
    let c = configuration (frame (circuit (labels_of f) h.listed_gates) (tuple h.outputs)) [] h.closed in
    let A = h.program.program_type in
    let F : FinishedRun (labels_of f) A c
    = finished_facts f A steps c h.program.accepted h.program.wire_type h.row
    (at_end (tuple_value h.outputs)) in
    let same : h.listed_gates ≡ F.gates = ap gates_of_lem F.finish_is in
    let tuples : tuple h.outputs ≡ tuple F.outputs = ap term_in F.finish_is in
    let alike : h.outputs ≡ F.outputs
    = some_same (sym (tuple_of_tuple h.outputs) ∙ ap tuple_of tuples ∙ tuple_of_tuple F.outputs) in
    subst (λ r. Printable (labels_of f) h.listed_gates r) (sym alike)
    (subst (λ gs. Printable (labels_of f) gs F.outputs) (sym same)
    (printable F.takes_earlier F.outputs_typed F.few_inputs F.few_gates F.few_outputs))

-- What is printed for an answer, by its two kinds.
module _ (b : List ℕ) {answer : Result Finished Refusal} {l text : List ℕ} {at : ℕ} where
  pub answer_finished : {steps gates size : ℕ}
      → answer ≡ finished steps gates size
      → Written l (text_at b steps) text at
      → Written l (answer_text answer b) text at × RefusalFits answer
  answer_finished kind written =
      (subst (λ a. Written l (answer_text a b) text at) (sym kind) written, subst RefusalFits (sym kind) tt)

  pub answer_refused : {x : Refusal} {number place : ℕ}
      → answer ≡ Err x
      → number ≡ refusal_number x
      → place ≡ refusal_place x
      → Written l (refused_line number place) text at
      → length (refused_line number place) ≤ refusal_bytes
      → Written l (answer_text answer b) text at × RefusalFits answer
  answer_refused kind is_number is_place written fits =
      let its = ap₂ refused_line is_number is_place in (
        subst (λ a. Written l (answer_text a b) text at) (sym kind) (subst (λ xs. Written l xs text at) its written),
        subst RefusalFits (sym kind) (subst (λ xs. length xs ≤ least_text) its (omega (arith, fits))),
      )

-- What a run answers and leaves in its output buffer where no buffer is too short.
pub run_answers_lem : (f : List ℕ) (limit : ℕ) (out : List ℕ) (work work' : List (List ℕ)) {answer : Result Finished Refusal} {b : List ℕ}
    → too_short run_lengths (out ∷ work) ≡ false
    → answer ≡ run_answer f limit (out ∷ work)
    → (b ∷ work') ≡ run_bytes f limit (out ∷ work)
    → (answer ≡ answer_to (run_of f limit)) × (b ≡ out_to out (run_of f limit))
unfolding run_answer bytes_left
run_answers_lem f limit out work work' long is held = (
  is ∙ ap (λ t. cond t (Err (Run 19 0)) (answer_to (run_of f limit))) long,
  ap (λ l. get_or l 0 [])
      (held ∙ ap (λ t. cond t (out ∷ work) (answered (λ o. out_to o (run_of f limit)) (out ∷ work))) long),
)

-- The text of that is what is printed, and a buffer of the least length holds it.
module _ (f out : List ℕ) {answer : Result Finished Refusal} {b : List ℕ}
    (answers : (answer ≡ answer_to (run_of f step_limit)) × (b ≡ out_to out (run_of f step_limit))) where
  text_of : (x : Ran) → run_of f step_limit ≡ x → answer_text (answer_to x) (out_to out x) ≡ printed f
  text_of (ran steps gates bytes) e =
      let h = (run_finishes f step_limit steps gates bytes).0 e in
      in_order (labels_of f) h.listed_gates h.outputs (drop (length bytes) out) (out_to out (ran steps gates bytes))
      (ap (λ t. t ++ drop (length bytes) out) h.bytes_are)
      steps
      (listed_printable h).takes_earlier
      ∙ sym (printed_finished h)
  text_of (declines x) e = sym (printed_refused f e)

  pub answer_printed : answer_text answer b ≡ printed f
  answer_printed =
      ap (λ a. answer_text a b) answers.0
      ∙ ap (answer_text (answer_to (run_of f step_limit))) answers.1
      ∙ text_of (run_of f step_limit) refl

  fits_of : (x : Ran) → run_of f step_limit ≡ x → RefusalFits (answer_to x) → length (printed f) ≤ least_text
  fits_of (ran steps gates bytes) e fits =
      let h = (run_finishes f step_limit steps gates bytes).0 e in
      omega (arith, ap length (printed_finished h), lines_fit steps (listed_printable h) (omega (arith, h.in_time)))
  fits_of (declines x) e fits = omega (arith, ap length (printed_refused f e), fits)

  pub printed_fits : RefusalFits answer → length (printed f) ≤ least_text
  printed_fits fits = fits_of (run_of f step_limit) refl (subst RefusalFits answers.0 fits)

-- The text that was written of a run's answer, by the contract of the run.
pub answered_text : (f out : List ℕ) (work work' : List (List ℕ)) {answer : Result Finished Refusal} {b l text : List ℕ} {at : ℕ}
    → answer ≡ run_answer f step_limit (out ∷ work)
    → (b ∷ work') ≡ run_bytes f step_limit (out ∷ work)
    → Written l (answer_text answer b) text at × RefusalFits answer
    → map length (out ∷ work) ≡ replicate 11 65536
    → Written l (printed f) text at × (length (printed f) ≤ least_text)
answered_text f out work work' {l = l} {text = text} {at = at} is held written lengths =
    let answers = run_answers_lem f step_limit out work work' (ap (any_below run_lengths) lengths) is held in (
      subst (λ xs. Written l xs text at) (answer_printed f out answers) written.0,
      printed_fits f out answers written.1,
    )
