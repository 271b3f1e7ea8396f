-- The run of a file: what `begin`, the steps and `finish` lead to.
use Rattle.std.specs.Prelude.{ℕ, zero, suc, ◌≤◌, ◌<◌, ◌*◌, ◌≡◌, refl, Bool, true, false, List, map, length, Result, Ok, Err}
use Rattle.std.proofs.Common.{arith, ◌∙◌, ap, subst}
use Rattle.std.proofs.Math.Path.{sym}
use Rattle.std.proofs.Math.Bool.{cond}
use Rattle.rules.specs.Types.{Ty, is_wire_type, wire_code}
use Rattle.rules.specs.Steps.{start}
use Rattle.rules.specs.Sizes.{most_nodes, most_gates, most_labels}
use Rattle.rules.specs.Demand3.{ProgramHas}
use Rattle.rules.specs.Runs.{ended, advanced}
use Rattle.rules.specs.Inputs.{outermost_inputs}
use Rattle.rules.proofs.Theorems.Runs.{reached_row, row_inputs_kept}
use Rattle.words.specs.Words.{words}
use Rattle.words.proofs.Laws.Words.{length_words}
use Rattle.lent.specs.Lent.{too_short}
use Rattle.refusals.specs.declared.Refusal.{Refusal}
use Rattle.refusals.specs.declared.Refusal.TheVariants.{Run}
use Rattle.machine_terms.specs.Trees.{Node}
use Rattle.machine_terms.specs.States.{State, start_state, decode}
use Rattle.check_program.specs.Answers.{labels_of, term_of, Judged, accepts, refuses, check_of}
use Rattle.check_program.proofs.Theorems.Checked.{check_derives}
use Rattle.words.specs.Regions.{Stands}
use Rattle.machine_walk.specs.Places.{least_nodes}
use Rattle.words.specs.Quadwords.{Quadword, quadwords_in}
use Rattle.machine_circuits.specs.Layout.{four_results, most_result, results_each}
use Rattle.words.proofs.Laws.Quadwords.{length_quadwords_in}
use Rattle.machine_state.specs.Memory.{Memory, memory, Roomy}
use Rattle.machine_state.specs.declared.StateNumbers.{StateNumbers}
use Rattle.machine.specs.declared.Advanced.{Advanced}
use Rattle.machine.specs.Advancing.{ending_of, AtTheEnd, Advances}
use Rattle.machine_load.specs.Trees.{tree_of, types_of}
use Rattle.machine_load.specs.Start.{least_types, Loads}
use Rattle.machine_circuits.specs.Layout.{labels_start}
use Rattle.run_answers.specs.declared.Finished.{Finished}
use Rattle.run_answers.specs.Lengths.{run_lengths, frames_length, gates_length, circuits_length, results_length}
use Rattle.run_answers.specs.Answers.{Ran, declines, ran_to, ran_as, run_of, answer_to, out_to, run_answer}
use Rattle.run_answers.proofs.Laws.Finishing.{labels_few, start_typed}
use Rattle.run_parts.specs.Parts.{BegunWith, BegunAs, Complete, SaysEnd, EndsAs, out_left}
use Rattle.listing.specs.Listing.{most_bytes}

-- The buffers of gates, closed circuits, frames and results have room.
pub roomy_lent : (ns : List Node) (rs : List Quadword) (ws g c f a b d e : List ℕ)
    → gates_length ≤ length g
    → circuits_length ≤ length c
    → frames_length ≤ length f
    → results_length ≤ length a
    → results_length ≤ length b
    → results_length ≤ length d
    → results_length ≤ length e
    → Roomy (memory ns rs (quadwords_in g) (quadwords_in c) (quadwords_in f) ws (four_results (words a) (words b) (words d) (words e)))
roomy_lent ns rs ws g c f a b d e hg hc hf ha hb hd he =
    record {
      gates_room = omega (arith, length_quadwords_in g);
      circuits_room = omega (arith, length_quadwords_in c);
      frames_room = omega (arith, length_quadwords_in f);
      result_words = λ i h. four i h;
    }
  where
    four : (i : ℕ) → i < 4 → most_result * results_each ≤ length (four_results (words a) (words b) (words d) (words e) i)
    four zero h = omega (arith, length_words a)
    four (suc zero) h = omega (arith, length_words b)
    four (suc (suc zero)) h = omega (arith, length_words d)
    four (suc (suc (suc zero))) h = omega (arith, length_words e)
    four (suc (suc (suc (suc i)))) h = absurd (omega arith)

-- A file whose start is loaded: the memory holds it whole, and it stands for the start of the rules.
pub record StartHeld (f : List ℕ) (A : Ty) (m : Memory) (r : StateNumbers) : Type 0 where
  pub positions : ℕ
  pub complete : Complete (types_of f) positions A most_gates m r (start_state (labels_of f) (tree_of f))
  pub means : decode (types_of f) (start_state (labels_of f) (tree_of f)) ≡ start (labels_of f) (term_of f)

pub start_held : (f : List ℕ) (A : Ty) (ns : List Node) (rs : List Quadword) (gs cs fs : List Quadword) (ws : List ℕ)
    (results : ℕ → List ℕ)
    (r : StateNumbers)
    → check_of f ≡ accepts A
    → Loads f ns ws fs r
    → least_nodes ≤ length ns
    → most_nodes ≤ length rs
    → least_types ≤ length ws
    → Roomy (memory ns rs gs cs fs ws results)
    → StartHeld f A (memory ns rs gs cs fs ws results) r
start_held f A ns rs gs cs fs ws results r accepted loads long_nodes long_stack long_types roomy =
    let read = ((check_derives f A).0 accepted).0 in
    let started =
    loads read.L read.P read.N rs gs cs results read.read long_nodes long_stack long_types roomy in
    let inputs : outermost_inputs (decode (types_of f) (start_state (labels_of f) (tree_of f))) ≡ labels_of f
    = ap outermost_inputs started.means in
    record {
      positions = read.P;
      complete =
          record {
            ready =
                record {
                  held = started.held;
                  fits = started.fits;
                  typed = subst (ProgramHas A) (sym started.means) (start_typed f A accepted);
                  sizes = started.start_sizes_fit most_gates;
                };
            inputs_held = subst (λ I. Stands ws labels_start (map wire_code I)) (sym inputs) started.labels_held;
            few_inputs = subst (λ I. length I ≤ most_labels) (sym inputs) (labels_few f A accepted);
          };
      means = started.means;
    }

-- At most k steps from a typed configuration that the memory m holds whole: m' holds the one reached whole, and it is the
-- one of the rules.
pub record GoneOn (types : ℕ → Ty) (positions : ℕ) (A : Ty) (allowance k : ℕ) (m' : Memory) (s : State) (a : Advanced)
    : Type 0 where
  pub state_then : State
  pub complete : Complete types positions A allowance m' a.numbers state_then
  pub at_the_end : AtTheEnd a.ending state_then
  pub as_the_rules : ended (ending_of a.ending) a.steps (decode types state_then)
      ≡ advanced allowance k 0 (decode types s)

pub gone_on : (types : ℕ → Ty) (positions : ℕ) (A : Ty) (allowance k : ℕ) (m m' : Memory) (r : StateNumbers) (s : State)
    (a : Advanced)
    → allowance ≤ most_gates
    → Complete types positions A allowance m r s
    → Advances allowance k m m' r a
    → m'.types ≡ m.types
    → GoneOn types positions A allowance k m' s a
gone_on types positions A allowance k m m' r s a allowed held advances same =
    let to = advances types positions A s allowed held.ready in
    let inputs : outermost_inputs (decode types to.state_then) ≡ outermost_inputs (decode types s)
    = ap (λ e. outermost_inputs e.reached) to.as_the_rules
    ∙ row_inputs_kept (reached_row allowance k (decode types s)).0 in
    record {
      state_then = to.state_then;
      complete =
          record {
            ready = to.ready;
            inputs_held =
                subst (λ l. Stands l labels_start (map wire_code (outermost_inputs (decode types to.state_then)))) (sym same)
                (subst (λ I. Stands m.types labels_start (map wire_code I)) (sym inputs) held.inputs_held);
            few_inputs = subst (λ I. length I ≤ most_labels) (sym inputs) held.few_inputs;
          };
      at_the_end = to.at_the_end;
      as_the_rules = to.as_the_rules;
    }

-- What `begin` found: a refusal is the run's.
pub refused_run : (f : List ℕ) (limit : ℕ) (ns : List Node) (ws : List ℕ) (fs : List Quadword) (b : Result StateNumbers Refusal) (x : Refusal)
    → BegunAs f (check_of f) ns ws fs b
    → b ≡ Err x
    → run_of f limit ≡ declines x
unfolding run_of
refused_run f limit ns ws fs b x begun e = of (check_of f) begun
  where
    apart : {r : StateNumbers} → ◌≡◌ {A = Result StateNumbers Refusal} (Err x) (Ok r) → ◌≡◌ {A = ℕ} 0 1
    apart q = cc

    same : {y : Refusal} → ◌≡◌ {A = Result StateNumbers Refusal} (Err y) (Err x) → y ≡ x
    same q = cc

    by_type : (w : Bool) (later : Ran) → BegunWith f w ns ws fs b → cond w later (declines (Run 20 0)) ≡ declines x
    by_type true later h =
        let z : ◌≡◌ {A = ℕ} 0 1 = apart (sym e ∙ h.1) in absurd (omega arith)
    by_type false later h = ap declines (same (sym h ∙ e))

    of : (j : Judged) → BegunAs f j ns ws fs b → ran_as f limit j ≡ declines x
    of (accepts A) h = by_type (is_wire_type A) (ran_to (advanced most_gates limit 0 (start (labels_of f) (term_of f)))) h
    of (refuses y) h = ap declines (same (sym h ∙ e))

-- What is loaded is the start of an accepted program of wire type.
pub record IsLoaded (f : List ℕ) (ns : List Node) (ws : List ℕ) (fs : List Quadword) (r : StateNumbers) : Type 0 where
  pub program_type : Ty
  pub accepted : check_of f ≡ accepts program_type
  pub wire_type : is_wire_type program_type ≡ true
  pub loads : Loads f ns ws fs r

pub loaded_run : (f : List ℕ) (ns : List Node) (ws : List ℕ) (fs : List Quadword) (b : Result StateNumbers Refusal) (r : StateNumbers)
    → BegunAs f (check_of f) ns ws fs b
    → b ≡ Ok r
    → IsLoaded f ns ws fs r
loaded_run f ns ws fs b r begun e = of (check_of f) refl begun
  where
    apart : {x : Refusal} → ◌≡◌ {A = Result StateNumbers Refusal} (Ok r) (Err x) → ◌≡◌ {A = ℕ} 0 1
    apart q = cc

    same : {t : StateNumbers} → ◌≡◌ {A = Result StateNumbers Refusal} (Ok t) (Ok r) → t ≡ r
    same q = cc

    by_type : (A : Ty) (w : Bool)
        → check_of f ≡ accepts A
        → is_wire_type A ≡ w
        → BegunWith f w ns ws fs b
        → IsLoaded f ns ws fs r
    by_type A true p q h =
        record {
          program_type = A;
          accepted = p;
          wire_type = q;
          loads = subst (Loads f ns ws fs) (same (sym h.1 ∙ e)) h.2;
        }
    by_type A false p q h = let z : ◌≡◌ {A = ℕ} 0 1 = apart (sym e ∙ h) in absurd (omega arith)

    of : (j : Judged) → check_of f ≡ j → BegunAs f j ns ws fs b → IsLoaded f ns ws fs r
    of (accepts A) p h = by_type A (is_wire_type A) p refl h
    of (refuses x) p h = let z : ◌≡◌ {A = ℕ} 0 1 = apart (sym e ∙ h) in absurd (omega arith)

-- The steps decide what an accepted program of wire type comes to.
run_of_lem : (f : List ℕ) (limit : ℕ) (A : Ty)
    → check_of f ≡ accepts A
    → is_wire_type A ≡ true
    → run_of f limit ≡ ran_to (advanced most_gates limit 0 (start (labels_of f) (term_of f)))
unfolding run_of
run_of_lem f limit A e w =
    ap (ran_as f limit) e
    ∙ ap
    (λ b. cond b (ran_to (advanced most_gates limit 0 (start (labels_of f) (term_of f)))) (declines (Run 20 0)))
    w

-- The answer and the output buffer, of all buffers that were lent.
abbrev pub Says : List ℕ → ℕ → List (List ℕ) → List ℕ → List ℕ → Result Finished Refusal → Type 0
Says f limit buffers out out' r = (r ≡ run_answer f limit buffers) × (out' ≡ out_left f limit buffers out)

module _ (f : List ℕ) (limit : ℕ) (buffers : List (List ℕ)) (out : List ℕ) where
  -- A buffer is too short.
  pub says_short : too_short run_lengths buffers ≡ true → Says f limit buffers out out (Err (Run 19 0))
  unfolding run_answer
  says_short short = (
    sym (ap (λ b. cond b (Err (Run 19 0)) (answer_to (run_of f limit))) short),
    sym (ap (λ b. cond b out (out_to out (run_of f limit))) short),
  )

  module _ (long : too_short run_lengths buffers ≡ false) where
    says_long : (out' : List ℕ) (r : Result Finished Refusal) (x : Ran)
        → run_of f limit ≡ x
        → r ≡ answer_to x
        → out' ≡ out_to out x
        → Says f limit buffers out out' r
    unfolding run_answer
    says_long out' r x e p q = (
      p ∙ sym (ap answer_to e) ∙ sym (ap (λ b. cond b (Err (Run 19 0)) (answer_to (run_of f limit))) long),
      q ∙ sym (ap (out_to out) e) ∙ sym (ap (λ b. cond b out (out_to out (run_of f limit))) long),
    )

    -- `begin` refuses.
    pub says_refused : (ns : List Node) (ws : List ℕ) (fs : List Quadword) (b : Result StateNumbers Refusal) (x : Refusal)
        → BegunAs f (check_of f) ns ws fs b
        → b ≡ Err x
        → Says f limit buffers out out (Err x)
    says_refused ns ws fs b x begun e =
        says_long out (Err x) (declines x) (refused_run f limit ns ws fs b x begun e) refl refl

    -- The steps are taken, and their end is answered.
    pub says_ended : (ns : List Node) (rs : List Quadword) (gs cs fs : List Quadword) (ws : List ℕ) (results : ℕ → List ℕ)
        (m' : Memory) (r : StateNumbers) (a : Advanced) (out' : List ℕ) (answer : Result Finished Refusal)
        → IsLoaded f ns ws fs r
        → least_nodes ≤ length ns
        → most_nodes ≤ length rs
        → least_types ≤ length ws
        → Roomy (memory ns rs gs cs fs ws results)
        → Advances most_gates limit (memory ns rs gs cs fs ws results) m' r a
        → m'.types ≡ ws
        → most_bytes ≤ length out
        → EndsAs m' out out' a answer
        → Says f limit buffers out out' answer
    says_ended ns rs gs cs fs ws results m' r a out' answer loaded long_nodes long_stack long_types roomy advances same room
        ends =
        let A = loaded.program_type in
        let begun =
        start_held f A ns rs gs cs fs ws results r loaded.accepted loaded.loads long_nodes long_stack long_types roomy in
        let to =
        gone_on (types_of f) begun.positions A most_gates limit (memory ns rs gs cs fs ws results) m' r
        (start_state (labels_of f) (tree_of f))
        a
        (omega arith)
        begun.complete
        advances
        same in
        let e : SaysEnd (ended (ending_of a.ending) a.steps (decode (types_of f) to.state_then)) out out' answer
        = ends (types_of f) begun.positions A most_gates to.state_then loaded.wire_type (omega arith)
        to.complete
        to.at_the_end
        room in
        let x = ran_to (ended (ending_of a.ending) a.steps (decode (types_of f) to.state_then)) in
        says_long out' answer x
        (run_of_lem f limit A loaded.accepted loaded.wire_type
        ∙ ap ran_to (sym (to.as_the_rules ∙ ap (advanced most_gates limit 0) begun.means)))
        e.0
        e.1
