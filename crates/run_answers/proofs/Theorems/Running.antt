-- Demand 2 and demand 3 of a run: it answers what the rules say, and what it lists is sound.
use Rattle.std.specs.Prelude.{ℕ, ◌+◌, ◌≤◌, ◌≡◌, refl, ◌↔◌, ◌⊎◌, Bool, true, false, cond, List, [], T as Truth, length}
use Rattle.std.proofs.Common.{arith, sym, ◌∙◌, ap, ap₂, subst, inl, inr}
use Rattle.rules.specs.Types.{Ty, is_wire_type}
use Rattle.rules.specs.Terms.{labels, tuple}
use Rattle.rules.specs.Circuits.{circuit}
use Rattle.rules.specs.Steps.{frame, Configuration, configuration, start}
use Rattle.rules.specs.Sizes.{most_gates}
use Rattle.rules.specs.Demand3.{ProgramHas, finished}
use Rattle.rules.specs.Runs.{Ending, at_finish, still_running, does_not_fit, Reached, advanced}
use Rattle.rules.proofs.Theorems.Deterministic.{tuple_value, tuple_of_tuple}
use Rattle.rules.proofs.Theorems.Runs.{FinishesAt, UnfinishedAt, ExceedsAt, EndingMeans, finish_means, running_means}
use Rattle.rules.proofs.Theorems.Runs.{not_fitting_means}
use Rattle.rules.proofs.Laws.Booleans.{is_true, is_false}
use Rattle.refusals.specs.Refusals.{refusal_number, refusal_place}
use Rattle.refusals.specs.declared.Refusal.{Refusal}
use Rattle.refusals.specs.declared.Refusal.TheVariants.{Form, Typing, Run}
use Rattle.check_program.specs.Answers.{labels_of, term_of, Judged, accepts, refuses, check_of}
use Rattle.check_program.specs.Demand2.{IsRead, FirstFaults}
use Rattle.check_program.proofs.Theorems.Checked.{accepted_is_safe, check_means}
use Rattle.listing.proofs.Laws.Lengths.{listing_fits}
use Rattle.listing.specs.Listing.{most_bytes, listing}
use Rattle.run_answers.specs.Answers.{Ran, ran, declines, listed_as, ended_as, ran_to, ran_as, run_of}
use Rattle.run_answers.specs.Safe.{ListedSound, RunIsSafe}
use Rattle.run_answers.specs.Demand2.{AcceptedWires, StepsTo, Finishes, NoWireType, LimitDone, SizeExceeded, OfCheck}
use Rattle.run_answers.specs.Demand2.{RunMeans}
use Rattle.run_answers.proofs.Theorems.Families.{most_places, CheckBounds, check_bounds, check_family}
use Rattle.run_answers.proofs.Laws.Finishing.{FinishedRun, start_typed, reached_facts, finish_listed}

-- FROM THE ANSWER TO THE RULES

-- A run that finishes, with the facts of the finish.
record FinishesAs (f : List ℕ) (limit steps gates : ℕ) (bytes : List ℕ) : Type 0 where
  program : AcceptedWires f
  reached : Configuration
  row : StepsTo f steps reached
  in_time : steps ≤ limit
  facts : FinishedRun (labels_of f) program.program_type reached
  gates_are : gates ≡ length facts.gates
  bytes_are : bytes ≡ listing (circuit (labels_of f) facts.gates) facts.outputs

-- Why a run refuses.
data DeclinesAs (f : List ℕ) (limit : ℕ) (x : Refusal) : Type 0 where
  by_check : check_of f ≡ refuses x → DeclinesAs f limit x
  by_type : x ≡ Run 20 0 → NoWireType f → DeclinesAs f limit x
  by_limit : x ≡ Run 21 0 → LimitDone f limit → DeclinesAs f limit x
  by_size : x ≡ Run 22 0 → SizeExceeded f limit → DeclinesAs f limit x

-- Either, by the answer.
abbrev AnswersAs : List ℕ → ℕ → Ran → Type 0
AnswersAs f limit (ran steps gates bytes) = FinishesAs f limit steps gates bytes
AnswersAs f limit (declines x) = DeclinesAs f limit x

-- The steps of an accepted program of wire type.
module _ (f : List ℕ) (limit : ℕ) (program : AcceptedWires f) where
  -- What comes of at most the limit's steps.
  abbrev came : Reached
  came = advanced most_gates limit 0 (start (labels_of f) (term_of f))

  -- The start has the type that the check gave.
  typed : ProgramHas program.program_type (start (labels_of f) (term_of f))
  typed = start_typed f program.program_type program.accepted

  -- What each ending means by the rules.
  finish_so : EndingMeans came at_finish (FinishesAt most_gates limit (start (labels_of f) (term_of f)))
  finish_so = finish_means most_gates limit (start (labels_of f) (term_of f)) typed

  running_so : EndingMeans came still_running (UnfinishedAt most_gates limit (start (labels_of f) (term_of f)))
  running_so = running_means most_gates limit (start (labels_of f) (term_of f)) typed

  not_fitting_so : EndingMeans came does_not_fit (ExceedsAt most_gates limit (start (labels_of f) (term_of f)))
  not_fitting_so = not_fitting_means most_gates limit (start (labels_of f) (term_of f)) typed

  -- The answer for each ending.
  ended_as_lem : (e : Ending) → came.ending ≡ e → AnswersAs f limit (ended_as e came.steps came.reached)
  ended_as_lem at_finish p =
      let ends = finish_so.says p in
      let facts = reached_facts f program.program_type limit program.accepted program.wire_type p in
      subst (AnswersAs f limit) (sym (finish_listed came.steps came.reached facts))
      (record {
        program = program;
        reached = came.reached;
        row = ends.row;
        in_time = ends.in_time;
        facts = facts;
        gates_are = refl;
        bytes_are = refl;
      })
  ended_as_lem still_running p =
      let ends = running_so.says p in
      by_limit refl
      (record {
        program = program;
        reached = came.reached;
        row = subst (λ n. StepsTo f n came.reached) ends.all_done ends.row;
        unfinished = ends.unfinished;
      })
  ended_as_lem does_not_fit p =
      let ends = not_fitting_so.says p in
      by_size refl
      (record {
        program = program;
        steps = came.steps;
        reached = came.reached;
        row = ends.row;
        earlier = ends.earlier;
        following = ends.following;
        next_step = ends.step;
        exceeds = ends.exceeds;
      })

-- The answer for an accepted file, by the test of its type.
typed_as : (f : List ℕ) (limit : ℕ) (A : Ty) (b : Bool)
    → check_of f ≡ accepts A
    → is_wire_type A ≡ b
    → AnswersAs f limit
    (cond b (ran_to (advanced most_gates limit 0 (start (labels_of f) (term_of f)))) (declines (Run 20 0)))
typed_as f limit A true accepted p =
    let program : AcceptedWires f
    = record { program_type = A; accepted = accepted; wire_type = subst Truth (sym p) tt } in
    ended_as_lem f limit program (came f limit program).ending refl
typed_as f limit A false accepted p =
    by_type refl (record { program_type = A; accepted = accepted; no_wire_type = λ t. subst Truth p t })

-- The answer for what the check says.
judged_as_lem : (f : List ℕ) (limit : ℕ) (j : Judged) → check_of f ≡ j → AnswersAs f limit (ran_as f limit j)
judged_as_lem f limit (accepts A) h = typed_as f limit A (is_wire_type A) h refl
judged_as_lem f limit (refuses x) h = by_check h

-- The answer of every run.
run_as : (f : List ℕ) (limit : ℕ) → AnswersAs f limit (run_of f limit)
unfolding run_of
run_as f limit = judged_as_lem f limit (check_of f) refl

-- A run that answered so.
finished_as : (f : List ℕ) (limit steps gates : ℕ) (bytes : List ℕ)
    → run_of f limit ≡ ran steps gates bytes
    → FinishesAs f limit steps gates bytes
finished_as f limit steps gates bytes h = subst (AnswersAs f limit) h (run_as f limit)

declined_as : (f : List ℕ) (limit : ℕ) (x : Refusal) → run_of f limit ≡ declines x → DeclinesAs f limit x
declined_as f limit x h = subst (AnswersAs f limit) h (run_as f limit)

-- FROM THE RULES TO THE ANSWER

-- The answer of a run of an accepted program, by the test of its type.
pub run_typed : (f : List ℕ) (limit : ℕ) (A : Ty) (b : Bool)
    → check_of f ≡ accepts A
    → is_wire_type A ≡ b
    → run_of f limit
    ≡ cond b (ran_to (advanced most_gates limit 0 (start (labels_of f) (term_of f)))) (declines (Run 20 0))
unfolding run_of
run_typed f limit A b accepted p =
    let later = ran_to (advanced most_gates limit 0 (start (labels_of f) (term_of f))) in
    ap (ran_as f limit) accepted ∙ ap (λ t. cond t later (declines (Run 20 0))) p

-- The answer where the type is a wire type.
pub run_steps : (f : List ℕ) (limit : ℕ)
    → AcceptedWires f
    → run_of f limit ≡ ran_to (advanced most_gates limit 0 (start (labels_of f) (term_of f)))
run_steps f limit p =
    run_typed f limit p.program_type true p.accepted (is_true (is_wire_type p.program_type) p.wire_type)

-- THEOREMS

-- A run finishes with these numbers and this listing exactly if the rules' steps do.
pub run_finishes : (f : List ℕ) (limit steps gates : ℕ) (bytes : List ℕ)
    → (run_of f limit ≡ ran steps gates bytes) ↔ Finishes f limit steps gates bytes
run_finishes f limit steps gates bytes = (onward, back)
  where
    onward : run_of f limit ≡ ran steps gates bytes → Finishes f limit steps gates bytes
    onward h =
        let a = finished_as f limit steps gates bytes h in
        record {
          program = a.program;
          listed_gates = a.facts.gates;
          outputs = a.facts.outputs;
          closed = a.facts.closed;
          row = subst (StepsTo f steps) a.facts.finish_is a.row;
          in_time = a.in_time;
          gates_are = a.gates_are;
          bytes_are = a.bytes_are;
        }

    back : Finishes f limit steps gates bytes → run_of f limit ≡ ran steps gates bytes
    back h =
        let c = configuration (frame (circuit (labels_of f) h.listed_gates) (tuple h.outputs)) [] h.closed in
        run_steps f limit h.program
        ∙ ap ran_to
        ((finish_so f limit h.program).only steps c
        (record { row = h.row; in_time = h.in_time; at_end = finished (tuple_value h.outputs) }))
        ∙ ap (listed_as steps (labels_of f) h.listed_gates) (tuple_of_tuple h.outputs)
        ∙ ap₂ (ran steps) (sym h.gates_are) (sym h.bytes_are)

-- 20: exactly if the check accepts the file with a type that is no wire type.
pub run_20 : (f : List ℕ) (limit : ℕ) → (run_of f limit ≡ declines (Run 20 0)) ↔ NoWireType f
run_20 f limit = (λ h. onward (declined_as f limit (Run 20 0) h), back)
  where
    onward : DeclinesAs f limit (Run 20 0) → NoWireType f
    onward (by_check h) = absurd (check_family f (Run 20 0) h)
    onward (by_type p h) = h
    onward (by_limit p h) = absurd (omega (arith, ap refusal_number p))
    onward (by_size p h) = absurd (omega (arith, ap refusal_number p))

    back : NoWireType f → run_of f limit ≡ declines (Run 20 0)
    back h =
        run_typed f limit h.program_type false h.accepted (is_false (is_wire_type h.program_type) h.no_wire_type)

-- 21: exactly if the limit's steps are done, each of which fits, and the program is unfinished.
pub run_21 : (f : List ℕ) (limit : ℕ) → (run_of f limit ≡ declines (Run 21 0)) ↔ LimitDone f limit
run_21 f limit = (λ h. onward (declined_as f limit (Run 21 0) h), back)
  where
    onward : DeclinesAs f limit (Run 21 0) → LimitDone f limit
    onward (by_check h) = absurd (check_family f (Run 21 0) h)
    onward (by_type p h) = absurd (omega (arith, ap refusal_number p))
    onward (by_limit p h) = h
    onward (by_size p h) = absurd (omega (arith, ap refusal_number p))

    back : LimitDone f limit → run_of f limit ≡ declines (Run 21 0)
    back h =
        run_steps f limit h.program
        ∙ ap ran_to
        ((running_so f limit h.program).only limit h.reached
        (record { row = h.row; all_done = refl; unfinished = h.unfinished }))

-- 22: exactly if fewer than the limit's steps are done, each of which fits, and the next one does not fit.
pub run_22 : (f : List ℕ) (limit : ℕ) → (run_of f limit ≡ declines (Run 22 0)) ↔ SizeExceeded f limit
run_22 f limit = (λ h. onward (declined_as f limit (Run 22 0) h), back)
  where
    onward : DeclinesAs f limit (Run 22 0) → SizeExceeded f limit
    onward (by_check h) = absurd (check_family f (Run 22 0) h)
    onward (by_type p h) = absurd (omega (arith, ap refusal_number p))
    onward (by_limit p h) = absurd (omega (arith, ap refusal_number p))
    onward (by_size p h) = h

    back : SizeExceeded f limit → run_of f limit ≡ declines (Run 22 0)
    back h =
        run_steps f limit h.program
        ∙ ap ran_to
        ((not_fitting_so f limit h.program).only h.steps h.reached
        (record {
          row = h.row;
          earlier = h.earlier;
          following = h.following;
          step = h.next_step;
          exceeds = h.exceeds;
        }))

-- A refusal of the check is handed up, and a refusal of its families comes from the check alone.
pub run_refused : (f : List ℕ) (limit : ℕ) (x : Refusal)
    → (check_of f ≡ refuses x) ↔ ((run_of f limit ≡ declines x) × OfCheck x)
unfolding run_of
run_refused f limit x =
    (λ h. (ap (ran_as f limit) h, check_family f x h), λ h. onward h.1 (declined_as f limit x h.0))
  where
    onward : OfCheck x → DeclinesAs f limit x → check_of f ≡ refuses x
    onward of_check (by_check h) = h
    onward of_check (by_type p h) = absurd (subst OfCheck p of_check)
    onward of_check (by_limit p h) = absurd (subst OfCheck p of_check)
    onward of_check (by_size p h) = absurd (subst OfCheck p of_check)

-- There is no other refusal of a run.
pub run_declines : (f : List ℕ) (limit : ℕ) (x : Refusal)
    → run_of f limit ≡ declines x
    → OfCheck x ⊎ (x ≡ Run 20 0) ⊎ (x ≡ Run 21 0) ⊎ (x ≡ Run 22 0)
run_declines f limit x h = of (declined_as f limit x h)
  where
    of : DeclinesAs f limit x → OfCheck x ⊎ (x ≡ Run 20 0) ⊎ (x ≡ Run 21 0) ⊎ (x ≡ Run 22 0)
    of (by_check h) = inl (check_family f x h)
    of (by_type p h) = inr (inl p)
    of (by_limit p h) = inr (inr (inl p))
    of (by_size p h) = inr (inr (inr p))

-- A refusal of the check, or 20 to 22 of the run family.
abbrev pub OfRun : Refusal → Type 0
OfRun (Form number place) = OfCheck (Form number place)
OfRun (Typing number place) = OfCheck (Typing number place)
OfRun (Run number place) = (20 ≤ number) × (number ≤ 22)

pub of_check : (x : Refusal) → OfCheck x → OfRun x
of_check (Form number place) h = h
of_check (Typing number place) h = h
of_check (Run number place) h = absurd h

-- How large the numbers of a run's answer are: steps within the limit, gates and listing within their sizes.
abbrev pub RunBounds : ℕ → Ran → Type 0
RunBounds limit (ran steps gates bytes) = (steps ≤ limit) × (gates ≤ most_gates) × (length bytes ≤ most_bytes)
RunBounds limit (declines x) = OfRun x × (refusal_place x ≤ most_places)

pub run_bounds : (f : List ℕ) (limit : ℕ) → RunBounds limit (run_of f limit)
run_bounds f limit = of (run_of f limit) (run_as f limit)
  where
    declined : (x : Refusal) → DeclinesAs f limit x → OfRun x × (refusal_place x ≤ most_places)
    declined x (by_check h) = let b = subst CheckBounds h (check_bounds f) in (of_check x b.0, b.1)
    declined x (by_type p h) =
        subst (λ y. OfRun y × (refusal_place y ≤ most_places)) (sym p) ((omega arith, omega arith), omega arith)
    declined x (by_limit p h) =
        subst (λ y. OfRun y × (refusal_place y ≤ most_places)) (sym p) ((omega arith, omega arith), omega arith)
    declined x (by_size p h) =
        subst (λ y. OfRun y × (refusal_place y ≤ most_places)) (sym p) ((omega arith, omega arith), omega arith)

    of : (r : Ran) → AnswersAs f limit r → RunBounds limit r
    of (ran steps gates bytes) a =
        let facts = a.facts in
        let same : gates ≡ length facts.gates = a.gates_are in
        let few : length facts.gates ≤ most_gates = facts.few_gates in (
          a.in_time,
          omega arith,
          subst (λ l. length l ≤ most_bytes) (sym a.bytes_are)
              (listing_fits (labels_of f) facts.gates (labels facts.outputs) facts.few_inputs few facts.few_outputs),
        )
    of (declines x) a = declined x a

-- Ticket 1 of every run: what the check refuses is handed up, with its place.
run_first_faults : (f : List ℕ) (limit : ℕ) → IsRead f → FirstFaults f (λ x. run_of f limit ≡ declines x)
run_first_faults f limit r =
    record {
      sixteen = λ p. handed_up (Typing 16 p) (omega arith, omega arith) (of_the_check.sixteen p);
      seventeen = λ p. handed_up (Typing 17 p) (omega arith, omega arith) (of_the_check.seventeen p);
      eighteen = λ p. handed_up (Typing 18 p) (omega arith, omega arith) (of_the_check.eighteen p);
    }
  where
    of_the_check : FirstFaults f (λ x. check_of f ≡ refuses x)
    of_the_check = (check_means f).first_faults r

    handed_up : (x : Refusal) {X : Type 0}
        → OfCheck x
        → (check_of f ≡ refuses x) ↔ X
        → (run_of f limit ≡ declines x) ↔ X
    handed_up x of_check k =
        let same = run_refused f limit x in (λ h. k.0 (same.1 (h, of_check)), λ y. (same.0 (k.1 y)).0)

-- Demand 2 of every run.
pub run_means : (f : List ℕ) (limit : ℕ) → RunMeans f limit
run_means f limit =
    record {
      finishes = run_finishes f limit;
      refused = run_refused f limit;
      first_faults = run_first_faults f limit;
      twenty = run_20 f limit;
      twenty_one = run_21 f limit;
      twenty_two = run_22 f limit;
      no_other = run_declines f limit;
    }

-- Demand 3 of every run.
pub run_is_safe : (f : List ℕ) (limit : ℕ) → RunIsSafe f limit
run_is_safe f limit = record { every_row = accepted_is_safe f; finished = listed_sound }
  where
    listed_sound : (steps gates : ℕ) (bytes : List ℕ)
        → run_of f limit ≡ ran steps gates bytes
        → ListedSound f steps gates bytes
    listed_sound steps gates bytes h =
        let a = finished_as f limit steps gates bytes h in
        record {
          listed_gates = a.facts.gates;
          outputs = a.facts.outputs;
          closed = a.facts.closed;
          bytes_are = a.bytes_are;
          gates_are = a.gates_are;
          sound = a.facts.sound;
          gone_once = a.facts.gone_once;
          closed_sound = a.facts.closed_sound;
          by_the_rules = subst (StepsTo f steps) a.facts.finish_is a.row;
        }

-- What finishes within a limit finishes alike within any greater one.
pub finishes_later : (f : List ℕ) (limit limit' steps gates : ℕ) (bytes : List ℕ)
    → limit ≤ limit'
    → Finishes f limit steps gates bytes
    → Finishes f limit' steps gates bytes
finishes_later f limit limit' steps gates bytes greater h =
    let in_time : steps ≤ limit = h.in_time in
    record {
      program = h.program;
      listed_gates = h.listed_gates;
      outputs = h.outputs;
      closed = h.closed;
      row = h.row;
      in_time = omega arith;
      gates_are = h.gates_are;
      bytes_are = h.bytes_are;
    }

-- 01, "Agreed between us": no "invented step or gate number". Any two finishes of one file have the same steps, gates and
-- bytes, whatever the limits.
pub finish_unique : (f : List ℕ) (limit limit' steps steps' gates gates' : ℕ) (bytes bytes' : List ℕ)
    → Finishes f limit steps gates bytes
    → Finishes f limit' steps' gates' bytes'
    → ran steps gates bytes ≡ ran steps' gates' bytes'
finish_unique f limit limit' steps steps' gates gates' bytes bytes' h h' =
    let most = limit + limit' in
    let first = finishes_later f limit most steps gates bytes (omega arith) h in
    let second = finishes_later f limit' most steps' gates' bytes' (omega arith) h' in
    sym ((run_finishes f most steps gates bytes).1 first) ∙ (run_finishes f most steps' gates' bytes').1 second

-- 01, "Agreed between us": no "22 before any step is tried". A run with no step to take never gives it.
pub no_22_at_once : (f : List ℕ) → run_of f 0 ≡ declines (Run 22 0) → ⊥
no_22_at_once f h = let earlier = ((run_22 f 0).0 h).earlier in omega (arith, earlier)
