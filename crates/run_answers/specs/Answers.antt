-- What a run answers and leaves in its buffers, as functions of the file's bytes and the limit (01, "When each operation
-- says no", Run).
use Rattle.std.specs.Prelude.{ℕ, cond, List, ◌++◌, length, drop, Result, Ok, Err}
use Rattle.std.proofs.Math.Option.{Option, none, some}
use Rattle.rules.specs.Types.{Wire, is_wire_type}
use Rattle.rules.specs.Terms.{Tuple, Gate}
use Rattle.rules.specs.Circuits.{circuit}
use Rattle.rules.specs.Steps.{frame, Configuration, configuration, start}
use Rattle.rules.specs.Sizes.{most_gates}
use Rattle.rules.specs.Next.{tuple_of}
use Rattle.rules.specs.Runs.{Ending, at_finish, still_running, does_not_fit, Reached, advanced}
use Rattle.lent.specs.Lent.{too_short, bytes_left}
use Rattle.refusals.specs.declared.Refusal.{Refusal}
use Rattle.refusals.specs.declared.Refusal.TheVariants.{Run}
use Rattle.check_program.specs.Answers.{labels_of, term_of, Judged, accepts, refuses, check_of}
use Rattle.listing.specs.Listing.{listing}
use Rattle.run_answers.specs.declared.Finished.{Finished}
use Rattle.run_answers.specs.Lengths.{run_lengths}

-- What a run whose buffers are long enough comes to: steps, gates and the bytes of the listing; or a refusal.
pub data Ran : Type 0 where
  ran : ℕ → ℕ → List ℕ → Ran
  declines : Refusal → Ran

-- "Else finished: steps, gates, listing length." The listing is that of the outermost circuit with the label tuple which
-- its term is. A finished program whose term is no label tuple has no wire type.
abbrev pub listed_as : ℕ → List Wire → List Gate → Option Tuple → Ran
listed_as steps I gs none = declines (Run 20 0)
listed_as steps I gs (some r) = ran steps (length gs) (listing (circuit I gs) r)

abbrev pub listed : ℕ → Configuration → Ran
listed steps (configuration (frame (circuit I gs) M) X K) = listed_as steps I gs (tuple_of M)

-- "21: the limit's steps are done and it is unfinished, even if the next would not fit. 22: earlier than that, the next step
-- exceeds a size."
abbrev pub ended_as : Ending → ℕ → Configuration → Ran
ended_as at_finish steps c = listed steps c
ended_as still_running steps c = declines (Run 21 0)
ended_as does_not_fit steps c = declines (Run 22 0)

abbrev pub ran_to : Reached → Ran
ran_to r = ended_as r.ending r.steps r.reached

-- "A run first checks." "20: the type is no wire type." Then the steps, from the file's start.
abbrev pub ran_as : List ℕ → ℕ → Judged → Ran
ran_as f limit (refuses r) = declines r
ran_as f limit (accepts A) =
    let later = ran_to (advanced most_gates limit 0 (start (labels_of f) (term_of f))) in
    cond (is_wire_type A) later (declines (Run 20 0))

unfoldable pub run_of : List ℕ → ℕ → Ran
run_of f limit = ran_as f limit (check_of f)

abbrev pub finished : ℕ → ℕ → ℕ → Result Finished Refusal
finished steps gates listing_length = Ok (record { steps = steps; gates = gates; length = listing_length })

abbrev pub answer_to : Ran → Result Finished Refusal
answer_to (ran steps gates bytes) = finished steps gates (length bytes)
answer_to (declines r) = Err r

-- "The listing starts the output buffer." "output bytes past the answer keep their values; after a refusal all do".
abbrev pub out_to : List ℕ → Ran → List ℕ
out_to out (ran steps gates bytes) = bytes ++ drop (length bytes) out
out_to out (declines r) = out

-- The answer, with the buffers that were lent: the output buffer, then the working memory. "19, before all else".
unfoldable pub run_answer : List ℕ → ℕ → List (List ℕ) → Result Finished Refusal
run_answer f limit buffers =
    let later = answer_to (run_of f limit) in cond (too_short run_lengths buffers) (Err (Run 19 0)) later

-- The final bytes of these buffers.
abbrev pub run_bytes : List ℕ → ℕ → List (List ℕ) → List (List ℕ)
run_bytes f limit buffers = bytes_left run_lengths (λ out. out_to out (run_of f limit)) buffers
