-- What is known where an accepted program of wire type finishes.
use Rattle.std.specs.Prelude.{ℕ, ◌+◌, ◌*◌, ◌≤◌, ◌≡◌, refl, List, [], T as Truth, length}
use Rattle.std.proofs.Common.{arith, sym, ◌∙◌, ap, subst, length-append}
use Rattle.rules.specs.Types.{Wire, Ty, wire, ◌⊗◌, ◌⊸◌, !◌, Circ, is_wire_type, wires, entries, unit}
use Rattle.rules.specs.Terms.{Tuple, single, both, labels, Gate, Boxed, Term, tuple, empty}
use Rattle.rules.specs.Circuits.{circuit, TakesEarlier, Sound, loose, GoneOnce}
use Rattle.rules.specs.Typing.{LabelContext, split_end, ◌∣◌⊢◌∶◌, by_label, by_tuple, by_unit}
use Rattle.rules.specs.Steps.{frame, Configuration, configuration, start}
use Rattle.rules.specs.Sizes.{total_gates, most_gates, Row, no_step, one_more, most_labels}
use Rattle.rules.specs.Demand3.{frame_has, outermost, ProgramHas, program_has, Finished, finished, ClosedSound}
use Rattle.rules.specs.Demand3.{CircuitsSound, circuits_sound, GoneToTuple, gone_to_tuple}
use Rattle.rules.specs.Runs.{at_finish, advanced}
use Rattle.rules.proofs.Theorems.Deterministic.{tuple_of_tuple}
use Rattle.rules.specs.Inputs.{outermost_inputs}
use Rattle.rules.proofs.Theorems.Runs.{finish_means, start_inputs_kept}
use Rattle.rules.proofs.Theorems.Safety.{start_has, demand3_from}
use Rattle.machine_terms.proofs.Laws.Typed.{labels_typed}
use Rattle.program.proofs.Theorems.Accepting.{read_sound}
use Rattle.check_program.specs.Answers.{labels_of, term_of, accepts, check_of}
use Rattle.check_program.proofs.Laws.ReadBack.{file_read}
use Rattle.check_program.proofs.Theorems.Checked.{check_derives}
use Rattle.listing.specs.Listing.{listing, most_outputs}
use Rattle.run_answers.specs.Answers.{ran, listed_as, listed}

-- The finish c of a program of wire type A with the inputs L: its only frame has a label tuple as its term, its circuits are
-- sound, each wire has gone exactly once, and a listing has room for it.
pub record FinishedRun (L : List Wire) (A : Ty) (c : Configuration) : Type 0 where
  pub gates : List Gate
  pub outputs : Tuple
  pub closed : List Boxed
  pub finish_is : c ≡ configuration (frame (circuit L gates) (tuple outputs)) [] closed
  pub outputs_typed : [] ∣ loose L gates ⊢ tuple outputs ∶ A
  pub sound : Sound L gates
  pub takes_earlier : TakesEarlier L gates
  pub gone_once : GoneOnce L gates (labels outputs)
  pub closed_sound : ClosedSound closed
  -- 01, "Program file": "L labels (0 to 64)".
  pub few_inputs : length L ≤ most_labels
  -- 01, "Steps": "at most 2,048 gates".
  pub few_gates : length gates ≤ most_gates
  -- 01, "Listing": "outputs O (at most 256)".
  pub few_outputs : length (labels outputs) ≤ most_outputs

-- A type has an entry for each of its wires, and one for each pair that joins them.
pub wires_entries : (A : Ty) → 2 * length (wires A) ≤ entries A + 1
wires_entries (wire α) = omega arith
wires_entries unit = omega arith
wires_entries (A ⊗ B) = omega (arith, length-append (wires A) (wires B), wires_entries A, wires_entries B)
wires_entries (A ⊸ B) = omega arith
wires_entries (! A) = omega arith
wires_entries (Circ T U) = omega arith

-- A typed label tuple has at most 256 labels, since its type has at most 512 entries.
pub outputs_few : (r : Tuple) {Q : LabelContext} {A : Ty} → [] ∣ Q ⊢ tuple r ∶ A → length (labels r) ≤ most_outputs
outputs_few (single ℓ) (by_label p o) = omega arith
outputs_few empty (by_unit p n) = omega arith
outputs_few (both r t) (by_tuple {A = A} {B = B} b split_end s d e) =
    omega (arith, labels_typed (both r t) (by_tuple b split_end s d e), wires_entries (A ⊗ B), b)

-- All gates after a row of steps are within the number allowed: the start has none.
pub gates_few : {allowance n : ℕ} (L : List Wire) (M : Term) {c : Configuration}
    → Row allowance (start L M) n c
    → total_gates c ≤ allowance
gates_few L M no_step = omega arith
gates_few L M (one_more r s f) = f.gates_fit

-- An accepted file has at most 64 labels.
pub labels_few : (f : List ℕ) (A : Ty) → check_of f ≡ accepts A → length (labels_of f) ≤ most_labels
labels_few f A h =
    let r = ((check_derives f A).0 h).0 in
    let t = file_read (read_sound f r.L r.P r.N r.read).2 in
    omega (arith, t.labels_fit, t.label_count_is)

-- The start of an accepted file has the type that the check gave.
pub start_typed : (f : List ℕ) (A : Ty) → check_of f ≡ accepts A → ProgramHas A (start (labels_of f) (term_of f))
start_typed f A h = start_has (labels_of f) ((check_derives f A).0 h).1

-- The facts of a finish, from what demand 3 says of it.
finish_facts : {L : List Wire} {A : Ty} {c : Configuration}
    → Finished c
    → ProgramHas A c
    → CircuitsSound c
    → GoneToTuple c
    → outermost_inputs c ≡ L
    → total_gates c ≤ most_gates
    → length L ≤ most_labels
    → FinishedRun L A c
finish_facts {L} {A} (finished {K = K} v) (program_has (outermost (frame_has {I = I} {gs = gs} {M = M} s d)) k)
    (circuits_sound o ks) (gone_to_tuple r p g) same few_gates few_inputs =
    subst (λ J. FinishedRun J A (configuration (frame (circuit I gs) M) [] K)) same
    (let t = subst (λ N. [] ∣ loose I gs ⊢ N ∶ A) p d in
    record {
      gates = gs;
      outputs = r;
      closed = K;
      finish_is = ap (λ N. configuration (frame (circuit I gs) N) [] K) p;
      outputs_typed = t;
      sound = s;
      takes_earlier = s.takes_earlier;
      gone_once = g;
      closed_sound = ks;
      few_inputs = subst (λ J. length J ≤ most_labels) (sym same) few_inputs;
      few_gates = omega (arith, few_gates);
      few_outputs = outputs_few r t;
    })

-- The facts of the finish of any typed configuration of wire type.
pub typed_finish : {A : Ty} (c : Configuration)
    → ProgramHas A c
    → Truth (is_wire_type A)
    → Finished c
    → total_gates c ≤ most_gates
    → length (outermost_inputs c) ≤ most_labels
    → FinishedRun (outermost_inputs c) A c
typed_finish c typed wire_type at_end few_gates few_inputs =
    let safe = demand3_from {allowance = most_gates} typed no_step in
    finish_facts at_end typed safe.circuits (safe.gone_to_outputs wire_type at_end) refl few_gates few_inputs

-- The facts of the finish of an accepted program of wire type, after any row of steps that fit.
pub finished_facts : (f : List ℕ) (A : Ty) (n : ℕ) (c : Configuration)
    → check_of f ≡ accepts A
    → Truth (is_wire_type A)
    → Row most_gates (start (labels_of f) (term_of f)) n c
    → Finished c
    → FinishedRun (labels_of f) A c
finished_facts f A n c accepted wire_type row at_end =
    let safe = demand3_from (start_typed f A accepted) row in
    finish_facts at_end safe.type_kept safe.circuits (safe.gone_to_outputs wire_type at_end)
    (start_inputs_kept (labels_of f) (term_of f) row)
    (gates_few (labels_of f) (term_of f) row)
    (labels_few f A accepted)

-- The same where the steps of a run, at most the limit's, end at a finish.
pub reached_facts : (f : List ℕ) (A : Ty) (limit : ℕ)
    → check_of f ≡ accepts A
    → Truth (is_wire_type A)
    → (advanced most_gates limit 0 (start (labels_of f) (term_of f))).ending ≡ at_finish
    → FinishedRun (labels_of f) A (advanced most_gates limit 0 (start (labels_of f) (term_of f))).reached
reached_facts f A limit accepted wire_type p =
    let c = start (labels_of f) (term_of f) in
    let r = advanced most_gates limit 0 c in
    let ends = (finish_means most_gates limit c (start_typed f A accepted)).says p in
    finished_facts f A r.steps r.reached accepted wire_type ends.row ends.at_end

-- So the run lists it: its term is a label tuple, and the case of `listed_as` without one does not occur.
pub finish_listed : {L : List Wire} {A : Ty} (steps : ℕ) (c : Configuration) (h : FinishedRun L A c)
    → listed steps c ≡ ran steps (length h.gates) (listing (circuit L h.gates) h.outputs)
finish_listed {L} steps c h =
    ap (listed steps) h.finish_is ∙ ap (listed_as steps L h.gates) (tuple_of_tuple h.outputs)
