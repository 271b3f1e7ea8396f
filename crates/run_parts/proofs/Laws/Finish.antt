-- Laws of the end of the steps: the answer and the listing.
use Rattle.std.specs.Prelude.{ℕ, ◌≤◌, ◌≡◌, true, List, [], ◌∷◌, T as Truth, length, Result}
use Rattle.std.proofs.Common.{arith, sym, ◌∙◌, ap, ap₂, subst}
use Rattle.std.proofs.Math.Option.{some}
use Rattle.rules.specs.Types.{Wire, Ty, is_wire_type}
use Rattle.rules.specs.Terms.{Tuple, labels, Gate, Term, tuple, Boxed}
use Rattle.rules.specs.Circuits.{Circuit, circuit}
use Rattle.rules.specs.Steps.{Frame, frame, Configuration, configuration}
use Rattle.rules.specs.Sizes.{most_gates, Fits}
use Rattle.rules.specs.Next.{tuple_of}
use Rattle.rules.specs.Runs.{Reached, ended}
use Rattle.rules.proofs.Theorems.Deterministic.{tuple_of_tuple}
use Rattle.rules.specs.Inputs.{outermost_inputs}
use Rattle.rules.proofs.Theorems.Runs.{fits_true}
use Rattle.machine_terms.specs.Trees.{Tree, preorder, tuple_of_tree}
use Rattle.machine_terms.specs.Meaning.{environment}
use Rattle.machine_terms.specs.Walks.{Stopped, at_end, stopped_end}
use Rattle.machine_terms.specs.States.{State, state, decode, open_gates, StateFits}
use Rattle.rules.specs.Demand3.{Finished as AtEnd}
use Rattle.machine_terms.proofs.Laws.Meanings.{tuple_of_meaning}
use Rattle.machine_terms.proofs.Laws.Walking.{stopped_move}
use Rattle.machine_terms.proofs.Theorems.Finishing.{end_finished}
use Rattle.refusals.specs.declared.Refusal.{Refusal}
use Rattle.words.specs.Regions.{Stands}
use Rattle.machine_walk.proofs.Laws.Redexes.{at_the_end}
use Rattle.words.specs.Quadwords.{quadword_at, word_in}
use Rattle.machine_circuits.specs.Layout.{gates_in}
use Rattle.machine_state.specs.Memory.{Memory}
use Rattle.machine_state.specs.Outcomes.{walk_of}
use Rattle.machine.specs.declared.Advanced.{Advanced}
use Rattle.machine.specs.declared.Ending.TheVariants.{Finished as AtFinish}
use Rattle.machine.specs.Advancing.{ending_of, Ready, AtTheEnd}
use Rattle.machine.proofs.Laws.Advancing.{fits_state}
use Rattle.machine_state.specs.declared.StateNumbers.{StateNumbers}
use Rattle.listing.specs.Listing.{listing, most_bytes}
use Rattle.listing.proofs.Laws.Lengths.{listing_fits, kinds_fit}
use Rattle.run_answers.specs.declared.Finished.{Finished}
use Rattle.run_answers.specs.Answers.{Ran, ran, finished, ran_to, answer_to, out_to}
use Rattle.run_answers.proofs.Laws.Finishing.{FinishedRun, typed_finish, finish_listed}
use Rattle.run_parts.specs.Parts.{Complete, SaysEnd}
use Rattle.run_parts.proofs.Laws.Parts.{Writes}

says_ran : (e : Reached) (out out' : List ℕ) (r : Result Finished Refusal) (x : Ran)
    → ran_to e ≡ x
    → r ≡ answer_to x
    → out' ≡ out_to out x
    → SaysEnd e out out' r
says_ran e out out' r x same p q = (p ∙ sym (ap answer_to same), q ∙ sym (ap (out_to out) same))

-- The parts of a configuration's innermost frame.
abbrev top_circuit : Configuration → Circuit
top_circuit (configuration (frame C M) X K) = C

abbrev top_term : Configuration → Term
top_term (configuration (frame C M) X K) = M

-- What stands in memory at the end: the circuit's gates, its number of inputs, and the value as nodes.
pub record ListedFrom (m : Memory) (L : List Wire) (gs : List Gate) (k : Tuple) (inputs count size : ℕ) : Type 0 where
  pub value_tree_lem : Tree
  pub inputs_are : inputs ≡ length L
  pub gates_are : gates_in m.gates 0 count ≡ gs
  pub count_is : count ≡ length gs
  pub value_is : tuple_of_tree value_tree_lem ≡ some k
  pub value_stands : Stands m.nodes 0 (preorder value_tree_lem)
  pub size_is : size ≡ length (preorder value_tree_lem)

listed_from : (types : ℕ → Ty) (positions allowance : ℕ) (A : Ty) (m : Memory) (r : StateNumbers) (s : State) (L : List Wire) (gs : List Gate)
    (k : Tuple)
    (X : List Frame)
    (K : List Boxed)
    → Ready types positions A allowance m r s
    → Stopped (walk_of s) at_end
    → decode types s ≡ configuration (frame (circuit L gs) (tuple k)) X K
    → ListedFrom m L gs k (word_in (quadword_at m.frames 0) 2) r.counts.gates r.place.left
listed_from types positions allowance A m r (state w (circuit I hs) [] K') L gs k X K ready (stopped_end {v = v}) same =
    let built = ready.held.built in
    let here = at_the_end m.nodes m.stack r.place v ready.held.walk_held in
    let circuits : circuit I hs ≡ circuit L gs = ap top_circuit same in
    let inputs : I ≡ L = ap inputs_in circuits in
    let gates : hs ≡ gs = ap gates_in' circuits in
    let all : open_gates (circuit I hs ∷ []) ≡ length hs = omega arith in
    record {
      value_tree_lem = v;
      inputs_are = ap (λ x. word_in x 2) built.frames_held.0 ∙ ap length inputs;
      gates_are = ap (gates_in m.gates 0) (built.counted.gates_are ∙ all) ∙ built.circuits_held.open_held.0 ∙ gates;
      count_is = built.counted.gates_are ∙ all ∙ ap length gates;
      value_is =
          sym (tuple_of_meaning (environment types K') v)
          ∙ ap tuple_of (ap top_term same)
          ∙ tuple_of_tuple k;
      value_stands = here.value_at_lem;
      size_is = here.ends;
    }
  where
    inputs_in : Circuit → List Wire
    inputs_in (circuit I hs) = I

    gates_in' : Circuit → List Gate
    gates_in' (circuit I hs) = hs
listed_from types positions allowance A m r (state w C (D ∷ Cs) K') L gs k X K ready (stopped_end {v = v}) same =
    absurd (omega (arith, ready.fits.1))

state_finished : (types : ℕ → Ty) (positions : ℕ) (s : State)
    → StateFits positions s
    → Stopped (walk_of s) at_end
    → AtEnd (decode types s)
state_finished types positions (state w C Cs K) fits stopped =
    end_finished types positions w C Cs K fits (stopped_move w at_end stopped)

module _ (types : ℕ → Ty) (positions : ℕ) (A : Ty) (allowance : ℕ) (m : Memory) (a : Advanced) (s : State)
    (of_wires : is_wire_type A ≡ true) (allowed : allowance ≤ most_gates)
    (held : Complete types positions A allowance m a.numbers s) (end_held : AtTheEnd a.ending s) where
  abbrev the_end : Configuration
  the_end = decode types s

  abbrev reached : Reached
  reached = ended (ending_of a.ending) a.steps the_end

  module _ (done : a.ending ≡ AtFinish) where
    stopped : Stopped (walk_of s) at_end
    stopped = subst (λ z. AtTheEnd z s) done end_held

    few_gates : Fits allowance the_end
    few_gates =
        fits_true allowance the_end
        (subst Truth (sym (fits_state types positions allowance s held.ready.fits held.ready.sizes)) tt)

    facts : FinishedRun (outermost_inputs the_end) A the_end
    facts =
        typed_finish the_end held.ready.typed (subst Truth (sym of_wires) tt)
        (state_finished types positions s held.ready.fits stopped)
        (omega (arith, allowed, few_gates.gates_fit))
        held.few_inputs

    -- Finished: the listing is written.
    pub says_finished : (out out' : List ℕ) (written : ℕ)
        → most_bytes ≤ length out
        → Writes m (word_in (quadword_at m.frames 0) 2) a.numbers.counts.gates a.numbers.place.left out out' written
        → SaysEnd reached out out' (finished a.steps a.numbers.counts.gates written)
    says_finished out out' written room writes =
        let L = outermost_inputs the_end in
        let gs = facts.gates in
        let k = facts.outputs in
        let l =
        listed_from types positions allowance A m a.numbers s L gs k [] facts.closed held.ready stopped
        facts.finish_is in
        let fits = listing_fits L gs (labels k) facts.few_inputs facts.few_gates facts.few_outputs in
        let w =
        writes L gs l.value_tree_lem k held.inputs_held l.inputs_are l.gates_are (kinds_fit facts.takes_earlier)
        l.value_is
        l.value_stands
        l.size_is
        (omega (arith, l.inputs_are, facts.few_inputs))
        (omega (arith, l.count_is, facts.few_gates))
        (omega (arith, facts.few_outputs))
        (omega (arith, fits, room)) in
        let x = ran a.steps (length gs) (listing (circuit L gs) k) in
        says_ran reached out out' (finished a.steps a.numbers.counts.gates written) x
        (ap (λ z. ran_to (ended (ending_of z) a.steps the_end)) done ∙ finish_listed a.steps the_end facts)
        (ap₂ (λ g n. finished a.steps g n) l.count_is w.1)
        w.0
