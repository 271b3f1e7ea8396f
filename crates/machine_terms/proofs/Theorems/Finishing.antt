-- The machine is at its end exactly if the program is finished; a typed program that is not has a next state.
use Rattle.std.specs.Prelude.{ℕ, zero, suc, ◌≡◌, refl, ◌⊎◌, false, ◌&&◌, List, [], ◌∷◌, T as Truth, length}
use Rattle.std.proofs.Common.{arith, sym, ◌∙◌, ap, subst, inl, inr}
use Rattle.std.proofs.Math.Option.{Option, none, some, map, some-injective, none-ne-some}
use Rattle.rules.specs.Types.{Ty}
use Rattle.rules.specs.Terms.{Boxed, Term, value}
use Rattle.rules.specs.Circuits.{Circuit}
use Rattle.rules.specs.Contexts.{EvaluationContext, hole, application_left, application_right, pair_left, pair_right}
use Rattle.rules.specs.Contexts.{let_first, force_of, box_of, apply_left, apply_right, plug}
use Rattle.rules.specs.Steps.{Frame, frame, Configuration, configuration, ◌⟶◌}
use Rattle.rules.specs.Sizes.{Row, no_step, one_more}
use Rattle.rules.specs.Demand3.{ProgramHas, Finished, finished}
use Rattle.rules.proofs.Theorems.Deterministic.{first_value, second_value, step→next, next→step}
use Rattle.rules.proofs.Theorems.Safety.{progress}
use Rattle.machine_terms.specs.Trees.{Node, Tree, leaf, one, two, leaf_value, one_value, two_value, value_tree}
use Rattle.machine_terms.specs.Meaning.{Environment, environment, meaning}
use Rattle.machine_terms.specs.Holes.{Hole, opened, frame_tree, trees_below, open_boxes, HolesFit}
use Rattle.machine_terms.specs.Walks.{Walk, Stop, at_end, stops, move, Stopped, stopped_application, stopped_let}
use Rattle.machine_terms.specs.Walks.{stopped_force, stopped_box, stopped_apply, stopped_exit, stopped_end}
use Rattle.machine_terms.specs.Walks.{stopped_variable}
use Rattle.machine_terms.specs.States.{State, state, frames_below, decode, StateFits}
use Rattle.machine_terms.proofs.Laws.States.{contract, step, and_then, repeated}
use Rattle.machine_terms.proofs.Laws.Meanings.{value_of, value_meaning}
use Rattle.machine_terms.proofs.Laws.Walking.{move_stopped, walk_stopped}
use Rattle.machine_terms.proofs.Laws.Filling.{evaluation_context, frame_is_plug}
use Rattle.machine_terms.proofs.Theorems.Running.{step_is_next, step_fits}

-- A term is no value if the part in an evaluation context is none.
plug_no_value : (E : EvaluationContext) (R : Term) → (Truth (value R) → ⊥) → Truth (value (plug E R)) → ⊥
plug_no_value hole R h v = h v
plug_no_value (application_left E N) R h v = v
plug_no_value (application_right W w E) R h v = v
plug_no_value (pair_left E N) R h v = plug_no_value E R h (first_value (plug E R) N v)
plug_no_value (pair_right W w E) R h v = plug_no_value E R h (second_value W (plug E R) v)
plug_no_value (let_first E N) R h v = v
plug_no_value (force_of E) R h v = v
plug_no_value (box_of T E) R h v = v
plug_no_value (apply_left E N) R h v = v
plug_no_value (apply_right W w E) R h v = v

frame_no_value : (e : Environment) (positions closed : ℕ) (hs : List Hole) (t : Tree)
    → HolesFit positions closed hs
    → value_tree t ≡ false
    → Truth (value (meaning e (frame_tree hs t)))
    → ⊥
frame_no_value e positions closed hs t fit h v =
    plug_no_value (evaluation_context e positions closed hs fit) (meaning e t)
    (λ w. subst Truth (value_meaning e t ∙ h) w)
    (subst (λ M. Truth (value M)) (frame_is_plug e positions closed hs fit t) v)

abbrev lower_frames : Configuration → List Frame
lower_frames (configuration F X K) = X

abbrev top_term : Configuration → Term
top_term (configuration (frame C M) X K) = M

finished_parts : (c : Configuration) → Finished c → (lower_frames c ≡ []) × Truth (value (top_term c))
finished_parts c (finished v) = (refl, v)

not_empty : (F : Frame) (X : List Frame) → F ∷ X ≡ [] → ⊥
not_empty F X e = let z : ◌≡◌ {A = ℕ} 0 1 = cc in omega arith

has_lower : (types : ℕ → Ty) (n : Node) (b : Tree) (hs : List Hole) (Cs : List Circuit) (closed : List Boxed)
    → length Cs ≡ suc (open_boxes hs)
    → frames_below (environment types closed) (trees_below (opened n b ∷ hs)) Cs ≡ []
    → ⊥
has_lower types n b hs [] closed h e = omega arith
has_lower types n b hs (C ∷ Cs) closed h e = not_empty _ _ e

end_stop : (types : ℕ → Ty) (positions : ℕ) (w : Walk) (C : Circuit) (Cs : List Circuit) (closed : List Boxed)
    → Stopped w at_end
    → StateFits positions (state w C Cs closed)
    → Finished (decode types (state w C Cs closed))
end_stop types positions w C Cs closed (stopped_end {v}) h =
    finished (value_of (environment types closed) v h.0.1)

-- Where the walk stops at the end, the program is finished.
pub end_finished : (types : ℕ → Ty) (positions : ℕ) (w : Walk) (C : Circuit) (Cs : List Circuit) (closed : List Boxed)
    → StateFits positions (state w C Cs closed)
    → move w ≡ stops at_end
    → Finished (decode types (state w C Cs closed))
end_finished types positions w C Cs closed h e =
    end_stop types positions w C Cs closed (move_stopped positions (length closed) w at_end h.0 e) h

finished_stop : (types : ℕ → Ty) (positions : ℕ) (w : Walk) (C : Circuit) (Cs : List Circuit) (closed : List Boxed)
    (s : Stop)
    → StateFits positions (state w C Cs closed)
    → Stopped w s
    → (lower_frames (decode types (state w C Cs closed)) ≡ [])
    × Truth (value (top_term (decode types (state w C Cs closed))))
    → s ≡ at_end
finished_stop types positions w C Cs closed s h (stopped_application {n} {f} {v} {hs} e) q =
    absurd
    (frame_no_value (environment types closed) positions (length closed) hs (two n f v) h.0.2.1
    (ap (λ c. two_value c (value_tree f && value_tree v)) e)
    q.1)
finished_stop types positions w C Cs closed s h (stopped_let {n} {v} {u} {hs} e) q =
    absurd
    (frame_no_value (environment types closed) positions (length closed) hs (two n v u) h.0.2.1
    (ap (λ c. two_value c (value_tree v && value_tree u)) e)
    q.1)
finished_stop types positions w C Cs closed s h (stopped_force {n} {v} {hs} e) q =
    absurd
    (frame_no_value (environment types closed) positions (length closed) hs (one n v) h.0.2.1 (ap one_value e)
    q.1)
finished_stop types positions w C Cs closed s h (stopped_box {n} {v} {hs} e) q =
    absurd
    (frame_no_value (environment types closed) positions (length closed) hs (one n v) h.0.2.1 (ap one_value e)
    q.1)
finished_stop types positions w C Cs closed s h (stopped_apply {n} {f} {v} {hs} e) q =
    absurd
    (frame_no_value (environment types closed) positions (length closed) hs (two n f v) h.0.2.1
    (ap (λ c. two_value c (value_tree f && value_tree v)) e)
    q.1)
finished_stop types positions w C Cs closed s h (stopped_exit {n} {b} {v} {hs}) q =
    absurd (has_lower types n b hs Cs closed h.1 q.0)
finished_stop types positions w C Cs closed s h stopped_end q = refl
finished_stop types positions w C Cs closed s h (stopped_variable {n} {hs} e) q =
    absurd
    (frame_no_value (environment types closed) positions (length closed) hs (leaf n) h.0.1 (ap leaf_value e)
    q.1)

-- Where the walk of a finished program stops, it is at the end.
pub finished_end : (types : ℕ → Ty) (positions : ℕ) (w : Walk) (C : Circuit) (Cs : List Circuit) (closed : List Boxed)
    (s : Stop)
    → StateFits positions (state w C Cs closed)
    → move w ≡ stops s
    → Finished (decode types (state w C Cs closed))
    → s ≡ at_end
finished_end types positions w C Cs closed s h e f =
    finished_stop types positions w C Cs closed s h (move_stopped positions (length closed) w s h.0 e)
    (finished_parts (decode types (state w C Cs closed)) f)

-- The machine's step is a step by the rules.
pub step_by_rules : (types : ℕ → Ty) (positions : ℕ) (s s' : State)
    → StateFits positions s
    → step types s ≡ some s'
    → decode types s ⟶ decode types s'
step_by_rules types positions s s' h e =
    next→step (decode types s) (decode types s')
    (step_is_next types positions s h ∙ ap (map (decode types)) e)

-- A step by the rules is the machine's step.
pub rules_by_step : (types : ℕ → Ty) (positions : ℕ) (s : State) (d : Configuration)
    → StateFits positions s
    → decode types s ⟶ d
    → (s' : State) × (step types s ≡ some s') × (decode types s' ≡ d)
rules_by_step types positions s d h r =
    of (step types s) refl (sym (step_is_next types positions s h) ∙ step→next r)
  where
    of : (r : Option State)
        → step types s ≡ r
        → map (decode types) r ≡ some d
        → (s' : State) × (step types s ≡ some s') × (decode types s' ≡ d)
    of none p q = absurd (none-ne-some d q)
    of (some s') p q = (s', p, some-injective (decode types s') d q)

-- A typed program is at its end, or the machine has a step.
pub typed_goes_on : {A : Ty} (types : ℕ → Ty) (positions : ℕ) (w : Walk) (C : Circuit) (Cs : List Circuit)
    (closed : List Boxed) (s : Stop)
    → StateFits positions (state w C Cs closed)
    → ProgramHas A (decode types (state w C Cs closed))
    → move w ≡ stops s
    → (s ≡ at_end) ⊎ ((s' : State) × (contract types (state w C Cs closed) ≡ some s'))
typed_goes_on types positions w C Cs closed s h typed e = of (progress typed)
  where
    of : Finished (decode types (state w C Cs closed))
        ⊎ ((d : Configuration) × (decode types (state w C Cs closed) ⟶ d))
        → (s ≡ at_end) ⊎ ((s' : State) × (contract types (state w C Cs closed) ≡ some s'))
    of (inl f) = inl (finished_end types positions w C Cs closed s h e f)
    of (inr r) =
        let n = rules_by_step types positions (state w C Cs closed) r.0 h r.1 in
        inr (
          n.0,
          subst (λ x. contract types (state x C Cs closed) ≡ some n.0) (walk_stopped w s e) n.1,
        )

-- Steps counted from the last one.
repeated_last : {A : Type 0} (f : A → Option A) (n : ℕ) (a : A)
    → repeated f (suc n) a ≡ and_then (repeated f n a) f
repeated_last {A} f zero a = last (f a)
  where
    last : (r : Option A) → and_then r (repeated f zero) ≡ r
    last none = refl
    last (some b) = refl
repeated_last {A} f (suc n) a = later (f a) (repeated_last f n)
  where
    later : (r : Option A)
        → ((b : A) → repeated f (suc n) b ≡ and_then (repeated f n b) f)
        → and_then r (repeated f (suc n)) ≡ and_then (and_then r (repeated f n)) f
    later none more = refl
    later (some b) more = more b

-- A row of rule steps is a row of the machine's steps, to a state that stands for its end.
pub row_by_steps : {allowance : ℕ} {c : Configuration} {n : ℕ} {d : Configuration} (types : ℕ → Ty) (positions : ℕ) (s : State)
    → StateFits positions s
    → decode types s ≡ c
    → Row allowance c n d
    → (s' : State) × (repeated (step types) n s ≡ some s') × (decode types s' ≡ d) × StateFits positions s'
row_by_steps types positions s h e no_step = (s, refl, e, h)
row_by_steps types positions s h e (one_more {n = n} {d = d} {e = d'} r x f) =
    let m = row_by_steps types positions s h e r in
    let k = rules_by_step types positions m.0 d' m.3 (subst (λ z. z ⟶ d') (sym m.2) x) in (
      k.0,
      repeated_last (step types) n s ∙ ap (λ r. and_then r (step types)) m.1 ∙ k.1,
      k.2,
      step_fits types positions m.0 k.0 m.3 k.1,
    )
