-- Laws of one step with the walk before it, and of steps one after another.
use Rattle.std.specs.Prelude.{ℕ, suc, ◌+◌, ◌-◌, ◌≤◌, ◌<◌, ◌≡◌, refl, ◌⊎◌, Bool, true, false, ◌&&◌, List, ◌∷◌, leb, length, Some, None}
use Rattle.std.proofs.Common.{arith, sym, ◌∙◌, ap, subst, inl, inr, le-leb, leb-true}
use Rattle.std.proofs.Math.Option.{none, some, map}
use Rattle.rules.specs.Types.{Ty}
use Rattle.rules.specs.Steps.{Configuration}
use Rattle.rules.specs.Sizes.{total_nodes, total_gates, boxes_closed, most_nodes, most_gates, most_boxes}
use Rattle.rules.specs.Demand3.{ProgramHas}
use Rattle.rules.specs.Next.{next}
use Rattle.rules.specs.Runs.{fits, still_running, does_not_fit, ended, at_limit, step_to, one_step, advanced}
use Rattle.rules.proofs.Theorems.Safety.{preservation}
use Rattle.machine_terms.specs.Walks.{walk, moves_left, Stop, Stopped, at_application, at_let, at_force, at_box, at_apply}
use Rattle.machine_terms.specs.Walks.{at_exit, at_end, at_variable, stopped_end}
use Rattle.machine_terms.specs.States.{State, state, decode, StateFits}
use Rattle.machine_terms.proofs.Laws.States.{walk_state, contract}
use Rattle.machine_terms.proofs.Laws.Forms.{contract_form}
use Rattle.machine_terms.proofs.Laws.Walking.{moves_keep, nodes_kept, stopped_move}
use Rattle.machine_terms.proofs.Laws.Keeping.{contract_fits}
use Rattle.machine_terms.proofs.Theorems.Counting.{total_nodes_lem, total_gates_lem}
use Rattle.machine_terms.proofs.Theorems.Stepping.{contract_is_next}
use Rattle.machine_terms.proofs.Theorems.Running.{walk_decode, walk_fits}
use Rattle.machine_terms.proofs.Theorems.Finishing.{typed_goes_on}
use Rattle.rules.proofs.Theorems.Deterministic.{next→step}
use Rattle.rules.proofs.Theorems.Runs.{none_ends}
use Rattle.machine_terms.specs.Trees.{Node}
use Rattle.machine_walk.specs.Places.{Walks, stop_of}
use Rattle.machine_walk.proofs.Laws.Redexes.{walked_stopped}
use Rattle.machine_walk.specs.declared.Stopped.{Stopped as StoppedPlace}
use Rattle.words.specs.Quadwords.{Quadword}
use Rattle.words.proofs.Laws.Numbers.{one_left}
use Rattle.machine_state.specs.declared.StateNumbers.{StateNumbers}
use Rattle.machine_state.specs.Memory.{Memory, memory}
use Rattle.machine_state.specs.Outcomes.{PartsFit, SizesFit, walk_of, AtStop, Steps}
use Rattle.machine.specs.declared.Ending.{Ending as EndingAnswer}
use Rattle.machine.specs.declared.Ending.TheVariants.{Finished, Running, TooLarge}
use Rattle.std.specs.declared.ops.ControlFlow.TheVariants.{Continue, Break}
use Rattle.machine.specs.Advancing.{Ready, AdvancedTo, Advances}
use Rattle.machine.proofs.Laws.Progress.{moved_to, AllUnderway}
use Rattle.machine.specs.Progress.{Underway, is_end, AdvancesOnce}

-- The sizes of a state are those of its configuration.
pub fits_state : (types : ℕ → Ty) (positions allowance : ℕ) (s : State)
    → StateFits positions s
    → SizesFit allowance s
    → fits allowance (decode types s) ≡ true
fits_state types positions allowance (state w C Cs K) f z =
    ap
    (λ b. b && (leb (total_gates c) allowance && leb (boxes_closed c) most_boxes))
    (le-leb (total_nodes c) most_nodes (omega (arith, total_nodes_lem types positions w C Cs K f, z.nodes_fit)))
    ∙ ap
    (λ b. b && leb (boxes_closed c) most_boxes)
    (le-leb (total_gates c) allowance (omega (arith, total_gates_lem types positions w C Cs K f, z.gates_fit)))
    ∙ le-leb (boxes_closed c) most_boxes z.boxes_fit
  where
    c : Configuration
    c = decode types (state w C Cs K)

pub state_fits : (types : ℕ → Ty) (positions allowance : ℕ) (s : State)
    → StateFits positions s
    → fits allowance (decode types s) ≡ true
    → SizesFit allowance s
state_fits types positions allowance (state w C Cs K) f e =
    of (leb (total_nodes c) most_nodes) (leb (total_gates c) allowance) (leb (boxes_closed c) most_boxes) refl refl refl e
  where
    c : Configuration
    c = decode types (state w C Cs K)

    of : (x y z : Bool)
        → leb (total_nodes c) most_nodes ≡ x
        → leb (total_gates c) allowance ≡ y
        → leb (boxes_closed c) most_boxes ≡ z
        → x && (y && z) ≡ true
        → PartsFit allowance w (C ∷ Cs) K
    of true true true p q r e =
        record {
          nodes_fit = omega (arith, total_nodes_lem types positions w C Cs K f, leb-true (total_nodes c) most_nodes p);
          gates_fit = omega (arith, total_gates_lem types positions w C Cs K f, leb-true (total_gates c) allowance q);
          boxes_fit = leb-true (boxes_closed c) most_boxes r;
        }
    of true true false p q r e = let z : ◌≡◌ {A = ℕ} 0 1 = cc in absurd (omega arith)
    of true false b p q r e = let z : ◌≡◌ {A = ℕ} 0 1 = cc in absurd (omega arith)
    of false y b p q r e = let z : ◌≡◌ {A = ℕ} 0 1 = cc in absurd (omega arith)

-- A state that does not fit stands for a configuration that does not.
pub not_fitting : (types : ℕ → Ty) (positions allowance : ℕ) (s : State)
    → StateFits positions s
    → (SizesFit allowance s → ⊥)
    → fits allowance (decode types s) ≡ false
not_fitting types positions allowance s f n = of (fits allowance (decode types s)) refl
  where
    of : (b : Bool) → fits allowance (decode types s) ≡ b → b ≡ false
    of true e = absurd (n (state_fits types positions allowance s f e))
    of false e = refl

-- The walk to the stop: the memory holds the walked state.
pub walked : (types : ℕ → Ty) (positions : ℕ) (A : Ty) (allowance : ℕ) (ns ns' : List Node) (rs rs' : List Quadword)
    (gs cs fs : List Quadword) (ws : List ℕ) (results : ℕ → List ℕ) (r : StateNumbers) (p : StoppedPlace) (s : State)
    → Ready types positions A allowance (memory ns rs gs cs fs ws results) r s
    → Walks ns rs ns' rs' r.place p
    → Ready types positions A allowance (memory ns' rs' gs cs fs ws results) (moved_to r p) (walk_state s)
    × Stopped (walk_of (walk_state s)) (stop_of p.stop)
walked types positions A allowance ns ns' rs rs' gs cs fs ws results r p (state w C Cs K) ready walks =
    let held = ready.held in
    let done = walks positions (length K) w ready.fits.0 held.walk_held in
    let same = nodes_kept w (walk w) (moves_keep (moves_left w) w) in (
      record {
        held =
            record {
              walk_held = done.held;
              built =
                  record {
                    circuits_held = held.built.circuits_held;
                    frames_held = held.built.frames_held;
                    counted = held.built.counted;
                    roomy =
                        record {
                          gates_room = held.built.roomy.gates_room;
                          circuits_room = held.built.roomy.circuits_room;
                          frames_room = held.built.roomy.frames_room;
                          result_words = held.built.roomy.result_words;
                        };
                    few_gates = held.built.few_gates;
                    few_boxes = held.built.few_boxes;
                  };
              types_held = held.types_held;
            };
        fits = walk_fits positions (state w C Cs K) ready.fits;
        typed = subst (ProgramHas A) (sym (walk_decode types (state w C Cs K))) ready.typed;
        sizes =
            record {
              nodes_fit = omega (arith, ap length same, ready.sizes.nodes_fit);
              gates_fit = ready.sizes.gates_fit;
              boxes_fit = ready.sizes.boxes_fit;
            };
      },
      walked_stopped positions (length K) ns' rs' w p ready.fits.0 done,
    )

-- The step of the rules from a walked state is that of the machine.
next_is : (types : ℕ → Ty) (positions : ℕ) (s : State) (stop : Stop)
    → StateFits positions s
    → Stopped (walk_of s) stop
    → next (decode types s) ≡ map (decode types) (contract types s)
next_is types positions (state w C Cs K) stop f h =
    contract_is_next types positions w C Cs K stop f (stopped_move w stop h)

-- At the end there is no step.
pub end_none : (types : ℕ → Ty) (positions : ℕ) (s : State)
    → StateFits positions s
    → Stopped (walk_of s) at_end
    → next (decode types s) ≡ none
end_none types positions (state w C Cs K) f stopped_end = next_is types positions (state w C Cs K) at_end f stopped_end

-- A typed state that has stopped elsewhere has a step.
pub goes_on : (types : ℕ → Ty) (positions : ℕ) (A : Ty) (s : State) (stop : Stop)
    → StateFits positions s
    → ProgramHas A (decode types s)
    → Stopped (walk_of s) stop
    → (stop ≡ at_end → ⊥)
    → (s' : State) × (contract types s ≡ some s')
goes_on types positions A (state w C Cs K) stop f typed h other =
    of (typed_goes_on types positions w C Cs K stop f typed (stopped_move w stop h))
  where
    of : (stop ≡ at_end) ⊎ ((s' : State) × (contract types (state w C Cs K) ≡ some s'))
        → (s' : State) × (contract types (state w C Cs K) ≡ some s')
    of (inl e) = absurd (other e)
    of (inr r) = r

pub nothing_done : (types : ℕ → Ty) (positions : ℕ) (A : Ty) (allowance k : ℕ) (m : Memory) (r : StateNumbers) (s : State)
    → Ready types positions A allowance m r s
    → Underway types positions A allowance k 0 m r s
nothing_done types positions A allowance k m r s ready =
    let all : k - 0 ≡ k = omega arith in
    record { state_now = s; ready = ready; rest = ap (λ j. advanced allowance j 0 (decode types s)) all }

-- The steps asked for are done, and there is a next one.
running_at : (allowance n : ℕ) (c d : Configuration) → next c ≡ some d → advanced allowance 0 n c ≡ ended still_running n c
running_at allowance n c d e = ap (at_limit n c) e

-- The next one fits, or it does not.
fitting_at : (allowance k n : ℕ) (c d : Configuration)
    → n < k
    → next c ≡ some d
    → fits allowance d ≡ true
    → advanced allowance (k - n) n c ≡ advanced allowance (k - (n + 1)) (n + 1) d
fitting_at allowance k n c d h e f =
    let next_one : suc n ≡ n + 1 = omega arith in
    ap (λ j. advanced allowance j n c) (one_left k n h)
    ∙ ap (one_step allowance (advanced allowance (k - (n + 1)) (suc n)) n c) e
    ∙ ap (λ b. step_to b n c (advanced allowance (k - (n + 1)) (suc n) d)) f
    ∙ ap (λ j. advanced allowance (k - (n + 1)) j d) next_one

exceeding_at : (allowance k n : ℕ) (c d : Configuration)
    → n < k
    → next c ≡ some d
    → fits allowance d ≡ false
    → advanced allowance (k - n) n c ≡ ended does_not_fit n c
exceeding_at allowance k n c d h e f =
    ap (λ j. advanced allowance j n c) (one_left k n h)
    ∙ ap (one_step allowance (advanced allowance (k - (n + 1)) (suc n)) n c) e
    ∙ ap (λ b. step_to b n c (advanced allowance (k - (n + 1)) (suc n) d)) f

-- What is done once the walk has stopped.
module _ (types : ℕ → Ty) (positions : ℕ) (A : Ty) (allowance k n : ℕ) (m : Memory) (r : StateNumbers) (s₀ s : State)
    (stop : Stop)
    (ready : Ready types positions A allowance m r s)
    (stopped : Stopped (walk_of s) stop)
    (rest : advanced allowance (k - n) n (decode types s) ≡ advanced allowance k 0 (decode types s₀)) where
  -- Finished.
  pub progress_finished : stop ≡ at_end
      → AdvancedTo types positions A allowance k m s₀ (record { ending = Finished; steps = n; numbers = r })
  progress_finished e =
      let end : Stopped (walk_of s) at_end = subst (Stopped (walk_of s)) e stopped in
      record {
        state_then = s;
        ready = ready;
        as_the_rules =
            sym
            (none_ends allowance (k - n) n (decode types s) (end_none types positions s ready.fits end))
            ∙ rest;
        at_the_end = end;
      }

  stepped : (s' : State) → contract types s ≡ some s' → next (decode types s) ≡ some (decode types s')
  stepped s' e = next_is types positions s stop ready.fits stopped ∙ ap (map (decode types)) e

  -- All steps are done.
  pub progress_running : (stop ≡ at_end → ⊥)
      → n ≡ k
      → AdvancedTo types positions A allowance k m s₀ (record { ending = Running; steps = n; numbers = r })
  progress_running other all =
      let g = goes_on types positions A s stop ready.fits ready.typed stopped other in
      let left : k - n ≡ 0 = omega arith in
      record {
        state_then = s;
        ready = ready;
        as_the_rules =
            sym
            (ap (λ j. advanced allowance j n (decode types s)) left
            ∙ running_at allowance n (decode types s) (decode types g.0) (stepped g.0 g.1))
            ∙ rest;
        at_the_end = tt;
      }

  module _ (m' : Memory) (other : stop ≡ at_end → ⊥) (more : n < k) (few : allowance ≤ most_gates) where
    the_step : (s' : State) × (contract types s ≡ some s')
    the_step = goes_on types positions A s stop ready.fits ready.typed stopped other

    at_stop : AtStop types positions A m r s stop
    at_stop =
        record { held = ready.held; fits = ready.fits; typed = ready.typed; stopped = stopped }

    fits_then : StateFits positions the_step.0
    fits_then = contract_fits types positions s the_step.0 ready.fits the_step.1

    -- The step is taken.
    pub progress_taken : (r' : StateNumbers)
        → Steps stop allowance m m' r (Some r')
        → Underway types positions A allowance k (n + 1) m' r' s₀
    progress_taken r' steps =
        let g = the_step in
        let o = steps types positions A s g.0 few at_stop ready.sizes (contract_form types s g.0 g.1) in
        let nx = stepped g.0 g.1 in
        record {
          state_now = g.0;
          ready =
              record {
                held = o.1;
                fits = fits_then;
                typed = preservation (next→step (decode types s) (decode types g.0) nx) ready.typed;
                sizes = o.0;
              };
          rest =
              sym
              (fitting_at allowance k n (decode types s) (decode types g.0) more nx
              (fits_state types positions allowance g.0 fits_then o.0))
              ∙ rest;
        }

    -- The step does not fit.
    pub progress_exceeding : Steps stop allowance m m' r None
        → AdvancedTo types positions A allowance k m' s₀ (record { ending = TooLarge; steps = n; numbers = r })
    progress_exceeding steps =
        let g = the_step in
        let o = steps types positions A s g.0 few at_stop ready.sizes (contract_form types s g.0 g.1) in
        let nx = stepped g.0 g.1 in
        record {
          state_then = s;
          ready =
              record {
                held = o.1 s ready.held;
                fits = ready.fits;
                typed = ready.typed;
                sizes = ready.sizes;
              };
          as_the_rules =
              sym
              (exceeding_at allowance k n (decode types s) (decode types g.0) more nx
              (not_fitting types positions allowance g.0 fits_then o.0))
              ∙ rest;
          at_the_end = tt;
        }

ends_apart : ◌≡◌ {A = Bool} false true → ⊥
ends_apart e = let z : ◌≡◌ {A = ℕ} 0 1 = cc in omega arith

end_is : (s : Stop) → is_end s ≡ true → s ≡ at_end
end_is at_application e = absurd (ends_apart e)
end_is at_let e = absurd (ends_apart e)
end_is at_force e = absurd (ends_apart e)
end_is at_box e = absurd (ends_apart e)
end_is at_apply e = absurd (ends_apart e)
end_is at_exit e = absurd (ends_apart e)
end_is at_end e = refl
end_is at_variable e = absurd (ends_apart e)

not_end : (s : Stop) → is_end s ≡ false → s ≡ at_end → ⊥
not_end s e p = ends_apart (sym e ∙ ap is_end p)

-- The walk and the step, by what the one comes to and what the other answers.
module _ (ns ns' : List Node) (rs rs' : List Quadword) (gs cs fs : List Quadword) (ws : List ℕ) (results : ℕ → List ℕ)
    (r : StateNumbers)
    (p : StoppedPlace)
    (allowance : ℕ)
    (walks : Walks ns rs ns' rs' r.place p) where
  module _ (types : ℕ → Ty) (positions : ℕ) (A : Ty) (s₀ : State) (k n : ℕ)
      (u : Underway types positions A allowance k n (memory ns rs gs cs fs ws results) r s₀) where
    now_ready : Ready types positions A allowance (memory ns' rs' gs cs fs ws results) (moved_to r p)
        (walk_state u.state_now)
    now_ready =
        (walked types positions A allowance ns ns' rs rs' gs cs fs ws results r p u.state_now u.ready walks).0

    now_stopped : Stopped (walk_of (walk_state u.state_now)) (stop_of p.stop)
    now_stopped =
        (walked types positions A allowance ns ns' rs rs' gs cs fs ws results r p u.state_now u.ready walks).1

    now_rest : advanced allowance (k - n) n (decode types (walk_state u.state_now))
        ≡ advanced allowance k 0 (decode types s₀)
    now_rest = ap (advanced allowance (k - n) n) (walk_decode types u.state_now) ∙ u.rest

  pub once_finished : is_end (stop_of p.stop) ≡ true
      → AdvancesOnce allowance (memory ns rs gs cs fs ws results) (memory ns' rs' gs cs fs ws results) r
      (Break (Finished, moved_to r p))
  once_finished e = λ types positions A s₀ k n few le u.
      progress_finished types positions A allowance k n (memory ns' rs' gs cs fs ws results) (moved_to r p) s₀
      (walk_state u.state_now)
      (stop_of p.stop)
      (now_ready types positions A s₀ k n u)
      (now_stopped types positions A s₀ k n u)
      (now_rest types positions A s₀ k n u)
      (end_is (stop_of p.stop) e)

  pub once_taken : (m'' : Memory) (r' : StateNumbers)
      → (is_end (stop_of p.stop) ≡ false)
      → Steps (stop_of p.stop) allowance (memory ns' rs' gs cs fs ws results) m'' (moved_to r p) (Some r')
      → AdvancesOnce allowance (memory ns rs gs cs fs ws results) m'' r (Continue r')
  once_taken m'' r' other steps = λ types positions A s₀ k n few more u.
      progress_taken types positions A allowance k n (memory ns' rs' gs cs fs ws results) (moved_to r p) s₀
      (walk_state u.state_now)
      (stop_of p.stop)
      (now_ready types positions A s₀ k n u)
      (now_stopped types positions A s₀ k n u)
      (now_rest types positions A s₀ k n u)
      m''
      (not_end (stop_of p.stop) other)
      more
      few
      r'
      steps

  pub once_exceeding : (m'' : Memory)
      → (is_end (stop_of p.stop) ≡ false)
      → Steps (stop_of p.stop) allowance (memory ns' rs' gs cs fs ws results) m'' (moved_to r p) None
      → AdvancesOnce allowance (memory ns rs gs cs fs ws results) m'' r (Break (TooLarge, moved_to r p))
  once_exceeding m'' other steps = λ types positions A s₀ k n few more u.
      progress_exceeding types positions A allowance k n (memory ns' rs' gs cs fs ws results) (moved_to r p) s₀
      (walk_state u.state_now)
      (stop_of p.stop)
      (now_ready types positions A s₀ k n u)
      (now_stopped types positions A s₀ k n u)
      (now_rest types positions A s₀ k n u)
      m''
      (not_end (stop_of p.stop) other)
      more
      few
      steps

  -- After the last walk it is at the finish, or, where all steps are done, there is a next one.
  pub all_finished : (k n : ℕ) (m₀ : Memory) (r₀ : StateNumbers)
      → AllUnderway allowance k n m₀ r₀ (memory ns rs gs cs fs ws results) r
      → is_end (stop_of p.stop) ≡ true
      → Advances allowance k m₀ (memory ns' rs' gs cs fs ws results) r₀
      (record { ending = Finished; steps = n; numbers = moved_to r p })
  all_finished k n m₀ r₀ all e = λ types positions A s₀ few ready.
      let u = all types positions A s₀ few ready in
      progress_finished types positions A allowance k n (memory ns' rs' gs cs fs ws results) (moved_to r p) s₀
      (walk_state u.state_now)
      (stop_of p.stop)
      (now_ready types positions A s₀ k n u)
      (now_stopped types positions A s₀ k n u)
      (now_rest types positions A s₀ k n u)
      (end_is (stop_of p.stop) e)

  pub all_running : (k n : ℕ) (m₀ : Memory) (r₀ : StateNumbers)
      → AllUnderway allowance k n m₀ r₀ (memory ns rs gs cs fs ws results) r
      → (is_end (stop_of p.stop) ≡ false)
      → n ≡ k
      → Advances allowance k m₀ (memory ns' rs' gs cs fs ws results) r₀
      (record { ending = Running; steps = n; numbers = moved_to r p })
  all_running k n m₀ r₀ all other done = λ types positions A s₀ few ready.
      let u = all types positions A s₀ few ready in
      progress_running types positions A allowance k n (memory ns' rs' gs cs fs ws results) (moved_to r p) s₀
      (walk_state u.state_now)
      (stop_of p.stop)
      (now_ready types positions A s₀ k n u)
      (now_stopped types positions A s₀ k n u)
      (now_rest types positions A s₀ k n u)
      (not_end (stop_of p.stop) other)
      done

pub none_underway : (allowance k : ℕ) (m : Memory) (r : StateNumbers) → AllUnderway allowance k 0 m r m r
none_underway allowance k m r = λ types positions A s₀ few ready. nothing_done types positions A allowance k m r s₀ ready

-- One more step.
pub more_underway : (allowance k n : ℕ) (m₀ m m' : Memory) (r₀ r r' : StateNumbers)
    → n < k
    → AllUnderway allowance k n m₀ r₀ m r
    → AdvancesOnce allowance m m' r (Continue r')
    → AllUnderway allowance k (n + 1) m₀ r₀ m' r'
more_underway allowance k n m₀ m m' r₀ r r' more all turns = λ types positions A s₀ few ready.
    turns types positions A s₀ k n few more (all types positions A s₀ few ready)

-- The end.
pub all_advanced : (allowance k n : ℕ) (m₀ m m' : Memory) (r₀ r r' : StateNumbers) (ending : EndingAnswer)
    → n < k
    → AllUnderway allowance k n m₀ r₀ m r
    → AdvancesOnce allowance m m' r (Break (ending, r'))
    → Advances allowance k m₀ m' r₀ (record { ending = ending; steps = n; numbers = r' })
all_advanced allowance k n m₀ m m' r₀ r r' ending more all turns = λ types positions A s₀ few ready.
    turns types positions A s₀ k n few more (all types positions A s₀ few ready)
