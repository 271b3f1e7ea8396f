-- Every listing that a run writes is accepted by the check of listings (02, ticket 3).
use Rattle.std.specs.Prelude.{ℕ, zero, suc, ◌≤◌, ◌<◌, ◌≡◌, refl, List, [], ◌++◌, length}
use Rattle.std.proofs.Common.{arith, sym, ◌∙◌, ap, ap₂}
use Rattle.std.proofs.Math.Decide.{dec_lt}
use Rattle.std.proofs.Math.Option.{Option, none}
use Rattle.rules.specs.Types.{Wire, Ty}
use Rattle.rules.specs.Gates.{nth}
use Rattle.rules.specs.Terms.{Tuple, labels, Gate, tuple}
use Rattle.rules.specs.Circuits.{circuit, outputs, taken, count, if_none, loose}
use Rattle.rules.specs.Typing.{◌∣◌⊢◌∶◌}
use Rattle.rules.specs.Steps.{frame, configuration}
use Rattle.rules.specs.Demand3.{finished}
use Rattle.rules.proofs.Theorems.Deterministic.{tuple_value, tuple_of_tuple}
use Rattle.rules.proofs.Laws.Wires.{nth_beyond}
use Rattle.rules.proofs.Laws.Appending.{present, tuple_labels_once}
use Rattle.check_program.specs.Answers.{labels_of}
use Rattle.listing.specs.Listing.{listing}
use Rattle.listing_check.specs.Meaning.{SoundListing}
use Rattle.listing_check.proofs.Laws.Judging.{sound_accepted}
use Rattle.run_answers.specs.Answers.{Ran, ran, declines, listed_as, run_of}
use Rattle.run_answers.specs.Demand2.{Finishes}
use Rattle.run_answers.proofs.Laws.Finishing.{FinishedRun, finished_facts, finish_listed}
use Rattle.run_answers.proofs.Theorems.Running.{run_finishes}
use Rattle.run_listings.specs.Accepted.{ListingAccepted}

-- A label of a typed tuple is a loose wire, so it has been made.
labels_made : (I : List Wire) (gs : List Gate) (r : Tuple) {A : Ty}
    → [] ∣ loose I gs ⊢ tuple r ∶ A
    → (w : ℕ)
    → 1 ≤ count w (labels r)
    → w < length (I ++ outputs gs)
labels_made I gs r typed w some_label = of_order (dec_lt w (length (I ++ outputs gs)))
  where
    none_loose : (c : ℕ) (o : Option Wire) → o ≡ none → present (if_none c o) ≡ 0
    none_loose zero o e = ap present e
    none_loose (suc c) o e = refl

    of_order : Dec (w < length (I ++ outputs gs)) → w < length (I ++ outputs gs)
    of_order (yes h) = h
    of_order (no h) =
        let types = I ++ outputs gs in
        let none_there : present (loose I gs w) ≡ 0
        = none_loose (count w (taken gs)) (nth types w) (nth_beyond types w (omega arith)) in
        let once : count w (labels r) ≡ present (loose I gs w) = tuple_labels_once r typed w in
        absurd (omega arith)

-- The gates and the bytes that a run comes to.
ran_gates : Ran → ℕ
ran_gates (ran steps gates bytes) = gates
ran_gates (declines x) = 0

ran_bytes : Ran → List ℕ
ran_bytes (ran steps gates bytes) = bytes
ran_bytes (declines x) = []

-- What a run lists is a sound listing.
listed_sound : {f : List ℕ} {limit steps gates : ℕ} {bytes : List ℕ}
    → Finishes f limit steps gates bytes
    → (outs : ℕ) × SoundListing bytes (length (labels_of f)) gates outs
unfolding ran_gates ran_bytes
listed_sound {f} {steps = steps} {gates = gates} {bytes = bytes} h =
    let L = labels_of f in
    let A = h.program.program_type in
    let c = configuration (frame (circuit L h.listed_gates) (tuple h.outputs)) [] h.closed in
    let F : FinishedRun L A c
    = finished_facts f A steps c h.program.accepted h.program.wire_type h.row
    (finished (tuple_value h.outputs)) in
    let same : ran steps gates bytes ≡ ran steps (length F.gates) (listing (circuit L F.gates) F.outputs)
    = ap₂ (ran steps) h.gates_are h.bytes_are
    ∙ sym (ap (listed_as steps L h.listed_gates) (tuple_of_tuple h.outputs))
    ∙ finish_listed steps c F in
    let gates_are : gates ≡ length F.gates = ap ran_gates same in (
      length (labels F.outputs),
      record {
        inputs = L;
        gates = F.gates;
        outs = labels F.outputs;
        bytes_are = ap ran_bytes same;
        input_count_is = refl;
        gate_count_is = gates_are;
        output_count_is = refl;
        few_inputs = F.few_inputs;
        few_gates = omega (arith, F.few_gates);
        few_outputs = F.few_outputs;
        goes_once = record {
          sound = F.sound;
          outputs_made = labels_made L F.gates F.outputs F.outputs_typed;
          gone_once = F.gone_once;
        };
      },
    )

-- "Every listing that a run writes must be accepted."
pub run_listing_accepted : (f : List ℕ) (limit steps gates : ℕ) (bytes : List ℕ)
    → run_of f limit ≡ ran steps gates bytes
    → ListingAccepted f gates bytes
run_listing_accepted f limit steps gates bytes e =
    let s = listed_sound ((run_finishes f limit steps gates bytes).0 e) in
    record { outputs = s.0; sound = s.1; accepted = sound_accepted bytes s.1 }
