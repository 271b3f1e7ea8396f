-- The machine on trees takes exactly the steps of the rules.
use Rattle.std.specs.Prelude.{ℕ, zero, suc, ◌≡◌, refl, List, [], length}
use Rattle.std.proofs.Common.{sym, ◌∙◌, ap, ap₂}
use Rattle.std.proofs.Math.Option.{Option, none, some, map}
use Rattle.rules.specs.Types.{Wire, Ty}
use Rattle.rules.specs.Terms.{Boxed}
use Rattle.rules.specs.Circuits.{Circuit}
use Rattle.rules.specs.Steps.{frame, configuration, start}
use Rattle.rules.specs.Next.{next}
use Rattle.machine_terms.specs.Trees.{Tree, WellKinded}
use Rattle.machine_terms.specs.Meaning.{environment, meaning}
use Rattle.machine_terms.specs.Walks.{Walk, goes_on, move, walk, moves_left}
use Rattle.machine_terms.specs.States.{State, state, start_state, frames_below, decode, StateFits}
use Rattle.machine_terms.proofs.Laws.States.{walk_state, step, and_then, repeated}
use Rattle.machine_terms.proofs.Laws.Walking.{Kept, move_keeps, moves_keep, move_fits, moves_fit, walk_ends}
use Rattle.machine_terms.proofs.Theorems.Stepping.{contract_is_next}
use Rattle.machine_terms.proofs.Laws.Keeping.{contract_fits}

-- States whose walks have the same frames stand for the same configuration.
pub kept_decode : (types : ℕ → Ty) (w w' : Walk) (C : Circuit) (Cs : List Circuit) (closed : List Boxed)
    → Kept w w'
    → decode types (state w' C Cs closed) ≡ decode types (state w C Cs closed)
kept_decode types w w' C Cs closed k =
    ap₂
    (λ t ts.
    configuration
    (frame C (meaning (environment types closed) t))
    (frames_below (environment types closed) ts Cs)
    closed)
    k.frame_kept
    k.below_kept

-- A move keeps the configuration.
pub move_decode : (types : ℕ → Ty) (w w' : Walk) (C : Circuit) (Cs : List Circuit) (closed : List Boxed)
    → move w ≡ goes_on w'
    → decode types (state w' C Cs closed) ≡ decode types (state w C Cs closed)
move_decode types w w' C Cs closed e = kept_decode types w w' C Cs closed (move_keeps w w' e)

-- A move keeps the state well-formed.
pub move_state_fits : (positions : ℕ) (w w' : Walk) (C : Circuit) (Cs : List Circuit) (closed : List Boxed)
    → move w ≡ goes_on w'
    → StateFits positions (state w C Cs closed)
    → StateFits positions (state w' C Cs closed)
move_state_fits positions w w' C Cs closed e h =
    (move_fits positions (length closed) w w' e h.0, h.1 ∙ sym (move_keeps w w' e).boxes_kept)

-- The walk to the stop keeps the configuration.
pub walk_decode : (types : ℕ → Ty) (s : State) → decode types (walk_state s) ≡ decode types s
walk_decode types (state w C Cs closed) = kept_decode types w (walk w) C Cs closed (moves_keep (moves_left w) w)

-- The walk to the stop keeps the state well-formed.
pub walk_fits : (positions : ℕ) (s : State) → StateFits positions s → StateFits positions (walk_state s)
walk_fits positions (state w C Cs closed) h =
    (moves_fit positions (length closed) (moves_left w) w h.0, h.1 ∙ sym (moves_keep (moves_left w) w).boxes_kept)

-- The machine's step is the step of the rules.
pub step_is_next : (types : ℕ → Ty) (positions : ℕ) (s : State)
    → StateFits positions s
    → next (decode types s) ≡ map (decode types) (step types s)
step_is_next types positions (state w C Cs closed) h =
    let fits = walk_fits positions (state w C Cs closed) h in
    let end = walk_ends w in
    ap next (sym (walk_decode types (state w C Cs closed)))
    ∙ contract_is_next types positions (walk w) C Cs closed end.0 fits end.1

-- The machine's step keeps the state well-formed.
pub step_fits : (types : ℕ → Ty) (positions : ℕ) (s s' : State)
    → StateFits positions s
    → step types s ≡ some s'
    → StateFits positions s'
step_fits types positions s s' h e = contract_fits types positions (walk_state s) s' (walk_fits positions s h) e

-- So are steps one after another.
pub steps_are_next : (types : ℕ → Ty) (positions n : ℕ) (s : State)
    → StateFits positions s
    → repeated next n (decode types s) ≡ map (decode types) (repeated (step types) n s)
steps_are_next types positions zero s h = refl
steps_are_next types positions (suc n) s h =
    ap (λ d. and_then d (repeated next n)) (step_is_next types positions s h)
    ∙ after (step types s) refl (steps_are_next types positions n)
  where
    after : (r : Option State)
        → step types s ≡ r
        → ((s' : State)
        → StateFits positions s'
        → repeated next n (decode types s') ≡ map (decode types) (repeated (step types) n s'))
        → and_then (map (decode types) r) (repeated next n)
        ≡ map (decode types) (and_then r (repeated (step types) n))
    after none e more = refl
    after (some s') e more = more s' (step_fits types positions s s' h e)

-- The start is well-formed.
pub start_fits : (positions : ℕ) (L : List Wire) (t : Tree)
    → WellKinded positions 0 t
    → StateFits positions (start_state L t)
start_fits positions L t h = ((h, tt), refl)

-- The start stands for the start of the rules.
pub start_decode : (types : ℕ → Ty) (L : List Wire) (t : Tree)
    → decode types (start_state L t) ≡ start L (meaning (environment types []) t)
start_decode types L t = refl

-- From the start on, so many steps of the rules are so many steps of the machine.
pub run_from_start : (types : ℕ → Ty) (positions n : ℕ) (L : List Wire) (t : Tree)
    → WellKinded positions 0 t
    → repeated next n (start L (meaning (environment types []) t))
    ≡ map (decode types) (repeated (step types) n (start_state L t))
run_from_start types positions n L t h =
    steps_are_next types positions n (start_state L t) (start_fits positions L t h)
