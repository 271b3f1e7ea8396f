-- What comes of taking steps one after another (01, "When each operation says no", Run).
use Rattle.std.specs.Prelude.{ℕ, zero, suc, Bool, ◌&&◌, cond, leb}
use Rattle.std.proofs.Math.Option.{Option, none, some}
use Rattle.rules.specs.Steps.{Configuration}
use Rattle.rules.specs.Sizes.{total_nodes, total_gates, boxes_closed, most_nodes, most_boxes}
use Rattle.rules.specs.Next.{next}

-- Does a configuration fit, with the number of gates that it is allowed? (`Fits` as a test.)
abbrev pub fits : ℕ → Configuration → Bool
fits allowance c =
    leb (total_nodes c) most_nodes && (leb (total_gates c) allowance && leb (boxes_closed c) most_boxes)

-- How it ends: the rules give no next step; the steps asked for are done and there is a next one; the next one exceeds a
-- size.
pub data Ending : Type 0 where
  at_finish still_running does_not_fit : Ending

-- How it ended, after how many steps, in which configuration.
pub record Reached : Type 0 where
  pub ending : Ending
  pub steps : ℕ
  pub reached : Configuration

-- The same by its three parts.
abbrev pub ended : Ending → ℕ → Configuration → Reached
ended e n c = record { ending = e; steps = n; reached = c }

-- With no step left to take.
abbrev pub at_limit : ℕ → Configuration → Option Configuration → Reached
at_limit n c none = ended at_finish n c
at_limit n c (some d) = ended still_running n c

-- With a step to take to d, and what comes of it.
abbrev pub step_to : Bool → ℕ → Configuration → Reached → Reached
step_to fitting n c later = cond fitting later (ended does_not_fit n c)

-- With a step to take, if the rules give one.
abbrev pub one_step : ℕ → (Configuration → Reached) → ℕ → Configuration → Option Configuration → Reached
one_step allowance later n c none = ended at_finish n c
one_step allowance later n c (some d) = step_to (fits allowance d) n c (later d)

-- At most k more steps from c, where n are done. 01: "21: the limit's steps are done and it is unfinished, even if the next
-- would not fit. 22: earlier than that, the next step exceeds a size."
abbrev pub advanced : ℕ → ℕ → ℕ → Configuration → Reached
advanced allowance zero n c = at_limit n c (next c)
advanced allowance (suc k) n c = one_step allowance (advanced allowance k (suc n)) n c (next c)
