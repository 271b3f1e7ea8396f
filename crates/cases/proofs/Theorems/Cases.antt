-- Every case of the table holds, by computation from the bytes of its file; so all answers to it are known.
use Rattle.std.specs.Prelude.{ℕ, ◌≡◌, refl, false, length, drop, Ok, Err}
use Rattle.std.proofs.Common.{sym, ◌∙◌}
use Rattle.std.proofs.Math.Path.{ap, ap₂}
use Rattle.std.proofs.Math.Bool.{cond}
use mathlib.Core.List.{List, [], ◌∷◌, ◌++◌, map, flat_map}
use Rattle.rules.specs.Types.{type_codes}
use Rattle.rules.proofs.Laws.TypeCodes.{type_codes_entries}
use Rattle.lent.specs.Lent.{any_below, too_short, zeroed, answered, bytes_left}
use Rattle.refusals.specs.declared.Refusal.TheVariants.{Run}
use Rattle.program.specs.Encoding.{program_kinds, program_arguments, encode}
use Rattle.check_program.specs.Answers.{Judged, accepts, refuses, check_of, check_answer, check_bytes, answer_to as judged_answer_is}
use Rattle.check_program.specs.Answers.{out_to as judged_out}
use Rattle.check_program.specs.Lengths.{check_lengths}
use Rattle.check_program.proofs.Laws.Opened.{opened as check_opened}
use Rattle.listing.specs.Listing.{listing_bytes}
use Rattle.boxing.specs.Spots.{whole, in_abstraction, in_application_right, in_lift}
use Rattle.run_boxing.specs.Files.{OneBoxLessFile}
use Rattle.run_answers.specs.Lengths.{run_lengths}
use Rattle.run_answers.specs.Answers.{Ran, run_of, answer_to, out_to, run_answer, run_bytes}
use Rattle.cases.specs.Case.{CheckResult, LimitedRun, limit◌gives◌, Case, checked_as, ran_with, computed, AllHold}
use Rattle.cases.specs.BaseCases.{base_cases}
use Rattle.cases.specs.FirstFaults.{in_parts, behind_later_numbers, nested, first_fault_cases}
use Rattle.cases.specs.CopiedPairs.{copied_pairs, linear_pairs, pair_cases}
use Rattle.cases.specs.UnitCases.{finished_units, refused_units, unit_cases}
use Rattle.cases.specs.ThreeWires.{finished_threes, refused_threes, three_wire_cases}
use Rattle.cases.specs.Boxes.{two_qubits, helped_body, helped, twice_on_labels, crossed_first, with_box_case, without_box_case}
use Rattle.cases.specs.Boxes.{box_cases}
use Rattle.cases.proofs.Laws.Tables.{both_hold}
use Rattle.cases.specs.Table.{table}
use Rattle.cases.specs.Answers.{check_answer_to, check_out_to, RunsAnswer, Answers, AllAnswer}

-- `run_of` with every definition of the reader, the check and the run open: a line `unfolding opened` below opens them all.
opened : List ℕ → ℕ → Ran
unfolding check_opened listing_bytes flat_map run_of encode program_kinds program_arguments
opened f n = run_of f n

-- Every case of the table holds: those of 01; those of ticket 1, whose nodes have faults in their parts, behind one of a later
-- number, and inside each other; those of ticket 2, with pairs that may be copied and pairs that may not; those of tickets 5, 6 and 10.
pub base_hold : AllHold base_cases
unfolding opened
base_hold = refl

pub in_parts_hold : AllHold in_parts
unfolding opened
in_parts_hold = refl

pub behind_later_hold : AllHold behind_later_numbers
unfolding opened
behind_later_hold = refl

pub nested_hold : AllHold nested
unfolding opened
nested_hold = refl

pub copied_pairs_hold : AllHold copied_pairs
unfolding opened
copied_pairs_hold = refl

pub linear_pairs_hold : AllHold linear_pairs
unfolding opened
linear_pairs_hold = refl

pub finished_units_hold : AllHold finished_units
unfolding opened
finished_units_hold = refl

pub refused_units_hold : AllHold refused_units
unfolding opened
refused_units_hold = refl

pub finished_threes_hold : AllHold finished_threes
unfolding opened
finished_threes_hold = refl

pub refused_threes_hold : AllHold refused_threes
unfolding opened
refused_threes_hold = refl

pub boxes_hold : AllHold box_cases
unfolding opened
boxes_hold = refl

abbrev from_units : List Case
from_units = unit_cases ++ (three_wire_cases ++ box_cases)

abbrev from_pairs : List Case
from_pairs = pair_cases ++ from_units

pub all_hold : AllHold table
all_hold =
    both_hold computed base_cases (first_fault_cases ++ from_pairs) base_hold
    (both_hold computed first_fault_cases from_pairs
    (both_hold computed in_parts (behind_later_numbers ++ nested) in_parts_hold
    (both_hold computed behind_later_numbers nested behind_later_hold nested_hold))
    (both_hold computed pair_cases from_units
    (both_hold computed copied_pairs linear_pairs copied_pairs_hold linear_pairs_hold)
    (both_hold computed unit_cases (three_wire_cases ++ box_cases)
    (both_hold computed finished_units refused_units finished_units_hold refused_units_hold)
    (both_hold computed three_wire_cases box_cases
    (both_hold computed finished_threes refused_threes finished_threes_hold refused_threes_hold) boxes_hold))))

-- The files of ticket 10's two cases differ in one box: under a lift, in the function that is forced twice.
pub one_box_less_file : OneBoxLessFile with_box_case.file without_box_case.file
unfolding opened
one_box_less_file =
    record {
      same_labels = refl;
      one_less = record {
        spot = in_application_right twice_on_labels (in_lift (in_abstraction two_qubits whole));
        T = two_qubits;
        F = helped;
        N = crossed_first;
        is_abstraction = (two_qubits, helped_body, refl);
        with_box_is = refl;
        without_box_is = refl;
      };
    }

-- The answer to a judgement, by what the table has of it.
same_answer : (j : Judged) → judged_answer_is j ≡ check_answer_to (checked_as j)
same_answer (accepts A) = ap Ok (sym (type_codes_entries A))
same_answer (refuses r) = refl

same_out : (out : List ℕ) (j : Judged) → judged_out out j ≡ check_out_to out (checked_as j)
same_out out (accepts A) = ap (λ n. type_codes A ++ drop n out) (sym (type_codes_entries A))
same_out out (refuses r) = refl

module _ (check_buffers run_buffers : List (List ℕ))
    (check_long : too_short check_lengths check_buffers ≡ false) (run_long : too_short run_lengths run_buffers ≡ false)
  where
    -- The answer and the buffers of a run, and of a check.
    run_answers_lem : (f : List ℕ) (n : ℕ) (r : Ran)
        → run_of f n ≡ r
        → (run_answer f n run_buffers ≡ answer_to r)
        × (run_bytes f n run_buffers ≡ answered (λ out. out_to out r) run_buffers)
    unfolding run_answer bytes_left
    run_answers_lem f n r e = (
      ap₂ (λ short x. cond short (Err (Run 19 0)) (answer_to x)) run_long e,
      ap₂ (λ short x. cond short run_buffers (answered (λ out. out_to out x) run_buffers)) run_long e,
    )

    -- What is written by a judgement, by what the table has of it, whatever the buffers.
    same_buffers : (j : Judged) (buffers : List (List ℕ))
        → answered (λ out. judged_out out j) buffers ≡ answered (λ out. check_out_to out (checked_as j)) buffers
    same_buffers j [] = refl
    same_buffers j (out ∷ work) = ap (λ o. o ∷ map zeroed work) (same_out out j)

    check_answers : (f : List ℕ) (g : CheckResult)
        → checked_as (check_of f) ≡ g
        → (check_answer f check_buffers ≡ check_answer_to g)
        × (check_bytes f check_buffers ≡ answered (λ out. check_out_to out g) check_buffers)
    unfolding check_answer bytes_left
    check_answers f g e = (
      ap₂ (λ short x. cond short (Err (Run 19 0)) x) check_long (same_answer (check_of f) ∙ ap check_answer_to e),
      ap₂ (λ short x. cond short check_buffers x) check_long
          (same_buffers (check_of f) check_buffers ∙ ap (λ g. answered (λ out. check_out_to out g) check_buffers) e),
    )

    -- One case after the other.
    runs_answer : (f : List ℕ) (rs : List LimitedRun)
        → map (ran_with f) rs ≡ rs
        → RunsAnswer check_buffers run_buffers f rs
    runs_answer f [] h = tt
    runs_answer f ((limit n gives r) ∷ more) h =
        let this : run_of f n ≡ r = cc in
        let those : map (ran_with f) more ≡ more = cc in
        let a = run_answers_lem f n r this in
        (a.0, a.1, runs_answer f more those)

    answers : (c : Case) → computed c ≡ c → Answers check_buffers run_buffers c
    answers c h =
        let a = check_answers c.file c.check (ap (λ d. d.check) h) in
        (a.0, a.1, runs_answer c.file c.runs (ap (λ d. d.runs) h))

    all_answer : (cs : List Case) → AllHold cs → AllAnswer check_buffers run_buffers cs
    all_answer [] h = tt
    all_answer (c ∷ more) h =
        let this : computed c ≡ c = cc in
        let those : map computed more ≡ more = cc in
        (answers c this, all_answer more those)

    -- With buffers that are long enough every check and run of the table answers and leaves what the table says.
    pub table_answers : AllAnswer check_buffers run_buffers table
    table_answers = all_answer table all_hold

-- With buffers of the least lengths, whatever they hold.
pub least_answers : (check_buffers run_buffers : List (List ℕ))
    → map length check_buffers ≡ check_lengths
    → map length run_buffers ≡ run_lengths
    → AllAnswer check_buffers run_buffers table
least_answers check_buffers run_buffers e g =
    table_answers check_buffers run_buffers (ap (any_below check_lengths) e) (ap (any_below run_lengths) g)
