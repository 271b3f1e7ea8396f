-- What is known at a stop where there is no step.
use Rattle.std.specs.Prelude.{ℕ, ◌≡◌, ◌⊎◌}
use Rattle.std.proofs.Common.{inl, inr, subst}
use Rattle.std.proofs.Math.Option.{none-ne-some}
use Rattle.rules.specs.Types.{Ty}
use Rattle.machine_terms.specs.Walks.{Stopped, at_end, at_variable, stopped_end}
use Rattle.machine_terms.specs.Walks.{stopped_variable}
use Rattle.machine_terms.specs.States.{State, state}
use Rattle.machine_terms.specs.Forms.{Contracts}
use Rattle.machine_terms.proofs.Laws.Forms.{form_contract}
use Rattle.machine_walk.specs.Places.{stop_of}
use Rattle.machine_walk.specs.declared.Stop.{Stop}
use Rattle.machine_walk.specs.declared.Stop.TheVariants.{AtEnd, AtVariable}
use Rattle.machine_state.specs.Outcomes.{walk_of}

-- There is no step at the end, and none at a variable.
end_no_step : {B : Type 0} (types : ℕ → Ty) (s s' : State)
    → Stopped (walk_of s) at_end
    → Contracts types s s'
    → B
end_no_step types (state w C Cs K) s' stopped_end k =
    absurd (none-ne-some s' (form_contract types (state w C Cs K) s' k))

variable_no_step : {B : Type 0} (types : ℕ → Ty) (s s' : State)
    → Stopped (walk_of s) at_variable
    → Contracts types s s'
    → B
variable_no_step types (state w C Cs K) s' (stopped_variable e) k =
    absurd (none-ne-some s' (form_contract types (state w C Cs K) s' k))

-- At neither of them is there one.
pub no_step : {B : Type 0} (types : ℕ → Ty) (s s' : State) (stop : Stop)
    → (stop ≡ AtEnd) ⊎ (stop ≡ AtVariable)
    → Stopped (walk_of s) (stop_of stop)
    → Contracts types s s'
    → B
no_step types s s' stop (inl e) stopped = end_no_step types s s' (subst (λ x. Stopped (walk_of s) (stop_of x)) e stopped)
no_step types s s' stop (inr e) stopped = variable_no_step types s s' (subst (λ x. Stopped (walk_of s) (stop_of x)) e stopped)
