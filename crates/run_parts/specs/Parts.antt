-- What the parts of a run have to do: `begin`, and `finish` from any typed configuration.
use Rattle.std.specs.Prelude.{ℕ, ◌≤◌, ◌≡◌, Bool, true, false, cond, List, map, length, Result, Ok, Err}
use Rattle.rules.specs.Types.{Ty, is_wire_type, wire_code}
use Rattle.rules.specs.Sizes.{most_gates, most_labels}
use Rattle.rules.specs.Runs.{Reached, ended}
use Rattle.rules.specs.Inputs.{outermost_inputs}
use Rattle.machine_terms.specs.Trees.{Node}
use Rattle.machine_terms.specs.States.{State, decode}
use Rattle.lent.specs.Lent.{too_short}
use Rattle.refusals.specs.declared.Refusal.{Refusal}
use Rattle.refusals.specs.declared.Refusal.TheVariants.{Run}
use Rattle.check_program.specs.Answers.{Judged, accepts, refuses}
use Rattle.words.specs.Regions.{Stands}
use Rattle.words.specs.Quadwords.{Quadword}
use Rattle.machine_state.specs.declared.StateNumbers.{StateNumbers}
use Rattle.machine_state.specs.Memory.{Memory}
use Rattle.machine.specs.declared.Advanced.{Advanced}
use Rattle.machine.specs.Advancing.{ending_of, Ready, AtTheEnd}
use Rattle.machine_load.specs.Start.{Loads}
use Rattle.machine_circuits.specs.Layout.{labels_start}
use Rattle.listing.specs.Listing.{most_bytes}
use Rattle.run_answers.specs.declared.Finished.{Finished}
use Rattle.run_answers.specs.Lengths.{run_lengths}
use Rattle.run_answers.specs.Answers.{ran_to, run_of, answer_to, out_to}

-- What `begin` answers for an accepted file, by whether its type is a wire type: the start of the file is loaded, or 20.
abbrev pub BegunWith : List ℕ → Bool → List Node → List ℕ → List Quadword → Result StateNumbers Refusal → Type 0
BegunWith f true ns ws fs b = (r : StateNumbers) × (b ≡ Ok r) × Loads f ns ws fs r
BegunWith f false ns ws fs b = b ≡ Err (Run 20 0)

-- And by what the check gives.
abbrev pub BegunAs : List ℕ → Judged → List Node → List ℕ → List Quadword → Result StateNumbers Refusal → Type 0
BegunAs f (accepts A) ns ws fs b = BegunWith f (is_wire_type A) ns ws fs b
BegunAs f (refuses x) ns ws fs b = b ≡ Err x

-- The memory holds a typed configuration, and in the types' buffer the types of its outermost circuit's inputs, which the
-- listing needs.
pub record Complete (types : ℕ → Ty) (positions : ℕ) (A : Ty) (allowance : ℕ) (m : Memory) (r : StateNumbers) (s : State)
    : Type 0 where
  pub ready : Ready types positions A allowance m r s
  pub inputs_held : Stands m.types labels_start (map wire_code (outermost_inputs (decode types s)))
  -- 01, "Program file": "L labels (0 to 64)".
  pub few_inputs : length (outermost_inputs (decode types s)) ≤ most_labels

-- What has to be answered, and left in the output buffer, where steps have ended so.
abbrev pub SaysEnd : Reached → List ℕ → List ℕ → Result Finished Refusal → Type 0
SaysEnd e out out' r = (r ≡ answer_to (ran_to e)) × (out' ≡ out_to out (ran_to e))

-- The contract of `finish`: for every typed configuration of wire type at which steps have ended.
abbrev pub EndsAs : Memory → List ℕ → List ℕ → Advanced → Result Finished Refusal → Type 0
EndsAs m out out' a r =
    (types : ℕ → Ty) (positions : ℕ) (A : Ty) (allowance : ℕ) (s : State)
    → is_wire_type A ≡ true
    → allowance ≤ most_gates
    → Complete types positions A allowance m a.numbers s
    → AtTheEnd a.ending s
    → most_bytes ≤ length out
    → SaysEnd (ended (ending_of a.ending) a.steps (decode types s)) out out' r

-- What a run leaves in its output buffer, with all buffers that were lent.
abbrev pub out_left : List ℕ → ℕ → List (List ℕ) → List ℕ → List ℕ
out_left f limit buffers out =
    let later = out_to out (run_of f limit) in cond (too_short run_lengths buffers) out later
