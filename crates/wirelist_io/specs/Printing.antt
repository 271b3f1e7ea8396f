-- What the program `wirelist` reads and prints (01, "Listing").
use Rattle.std.specs.Prelude.{ℕ, ◌+◌, ◌*◌, List, []}
use Rattle.std.proofs.Math.Option.{Option, none, some}
use Rattle.rules.specs.Terms.{Tuple}
use Rattle.rules.specs.Circuits.{Circuit}
use Rattle.rules.specs.Steps.{frame, Configuration, configuration, start}
use Rattle.rules.specs.Sizes.{most_gates, most_labels, most_types, most_terms}
use Rattle.rules.specs.Next.{tuple_of}
use Rattle.rules.specs.Runs.{advanced}
use Rattle.refusals.specs.declared.Refusal.{Refusal}
use Rattle.refusals.specs.Refusals.{refusal_number, refusal_place}
use Rattle.check_program.specs.Answers.{labels_of, term_of}
use Rattle.wirelist_lines.specs.Lines.{refused_line, lines}
use Rattle.run_answers.specs.Answers.{Ran, ran, declines, run_of}

-- "reads at most 7,879 bytes of a program file from standard input (one more than the longest file has)". Program file:
-- "L labels (0 to 64), P type entries (0 to 512), N term entries (1 to 2,048)", "Length: 6 + 3E".
abbrev pub longest_file : ℕ
longest_file = 6 + 3 * (most_labels + most_types + most_terms)

abbrev pub most_read : ℕ
most_read = longest_file + 1

-- "runs it with limit 1,000,000".
abbrev pub step_limit : ℕ
step_limit = 1000000

-- "On refusal it prints one line, `refused`, number, place".
abbrev pub refusal_text : Refusal → List ℕ
refusal_text x = refused_line (refusal_number x) (refusal_place x)

-- "one line per input, per gate, the outputs and the steps": of the circuit of the one frame that is left and of the label
-- tuple which its term is. No run finishes with another term (`printed_finished` in Theorems/Printed).
abbrev pub tuple_text : ℕ → Circuit → Option Tuple → List ℕ
tuple_text steps C none = []
tuple_text steps C (some r) = lines C r steps

abbrev pub finished_text : ℕ → Configuration → List ℕ
finished_text steps (configuration (frame C M) X K) = tuple_text steps C (tuple_of M)

-- What is printed for a run of the file with this limit, by what the run comes to.
abbrev pub ran_text : List ℕ → ℕ → Ran → List ℕ
ran_text f limit (ran steps gates bytes) =
    finished_text steps (advanced most_gates limit 0 (start (labels_of f) (term_of f))).reached
ran_text f limit (declines x) = refusal_text x

-- All bytes that `wirelist` prints for the bytes of a program file.
unfoldable pub printed : List ℕ → List ℕ
printed f = ran_text f step_limit (run_of f step_limit)
