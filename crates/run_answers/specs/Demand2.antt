-- Demand 2 of a run: what each of its answers means by the rules (01, "When each operation says no", Run). The last record
-- is proved in Theorems.Running.
use Rattle.std.specs.Prelude.{ℕ, ◌≤◌, ◌<◌, ◌≡◌, ◌↔◌, ◌⊎◌, List, [], T as Truth, length}
use Rattle.rules.specs.Types.{Ty, is_wire_type}
use Rattle.rules.specs.Terms.{Tuple, Gate, Boxed, tuple}
use Rattle.rules.specs.Circuits.{circuit}
use Rattle.rules.specs.Steps.{frame, Configuration, configuration, start, ◌⟶◌}
use Rattle.rules.specs.Sizes.{most_gates, Fits, Row}
use Rattle.rules.specs.Demand3.{Finished}
use Rattle.refusals.specs.declared.Refusal.{Refusal}
use Rattle.refusals.specs.declared.Refusal.TheVariants.{Form, Typing, Run}
use Rattle.check_program.specs.Answers.{labels_of, term_of, accepts, refuses, check_of}
use Rattle.check_program.specs.Demand2.{IsRead, FirstFaults}
use Rattle.listing.specs.Listing.{listing}
use Rattle.run_answers.specs.Answers.{ran, declines, run_of}

-- "A run first checks": the check accepts the file, with a wire type.
pub record AcceptedWires (f : List ℕ) : Type 0 where
  pub program_type : Ty
  pub accepted : check_of f ≡ accepts program_type
  pub wire_type : Truth (is_wire_type program_type)

-- A row of so many of the rules' steps, each of which fits, from the file's labels and term to c.
abbrev pub StepsTo : List ℕ → ℕ → Configuration → Type 0
StepsTo f steps c = Row most_gates (start (labels_of f) (term_of f)) steps c

-- "Else finished: steps, gates, listing length." At most the limit's steps lead to one frame whose term is a label tuple. The
-- gates are those of its circuit, the bytes the listing of that circuit with the tuple.
pub record Finishes (f : List ℕ) (limit steps gates : ℕ) (bytes : List ℕ) : Type 0 where
  pub program : AcceptedWires f
  pub listed_gates : List Gate
  pub outputs : Tuple
  pub closed : List Boxed
  pub row : StepsTo f steps (configuration (frame (circuit (labels_of f) listed_gates) (tuple outputs)) [] closed)
  pub in_time : steps ≤ limit
  pub gates_are : gates ≡ length listed_gates
  pub bytes_are : bytes ≡ listing (circuit (labels_of f) listed_gates) outputs

-- "20: the type is no wire type."
pub record NoWireType (f : List ℕ) : Type 0 where
  pub program_type : Ty
  pub accepted : check_of f ≡ accepts program_type
  pub no_wire_type : Truth (is_wire_type program_type) → ⊥

-- "21: the limit's steps are done and it is unfinished, even if the next would not fit."
pub record LimitDone (f : List ℕ) (limit : ℕ) : Type 0 where
  pub program : AcceptedWires f
  pub reached : Configuration
  pub row : StepsTo f limit reached
  pub unfinished : Finished reached → ⊥

-- "22: earlier than that, the next step exceeds a size."
pub record SizeExceeded (f : List ℕ) (limit : ℕ) : Type 0 where
  pub program : AcceptedWires f
  pub steps : ℕ
  pub reached : Configuration
  pub row : StepsTo f steps reached
  pub earlier : steps < limit
  pub following : Configuration
  pub next_step : reached ⟶ following
  pub exceeds : Fits most_gates following → ⊥

-- 01: "A refusal belongs to one of three families: form, typing or run (1 to 9, 16 to 18, the rest)." Those of a reading are of
-- the first.
abbrev pub OfRead : Refusal → Type 0
OfRead (Form number place) = (1 ≤ number) × (number ≤ 9)
OfRead (Typing number place) = ⊥
OfRead (Run number place) = ⊥

-- Those of a check are of the first two: "a check first reads".
abbrev pub OfCheck : Refusal → Type 0
OfCheck (Form number place) = OfRead (Form number place)
OfCheck (Typing number place) = (16 ≤ number) × (number ≤ 18)
OfCheck (Run number place) = ⊥

-- Demand 2 of a run of the file with this limit: it gives each answer exactly where the rules say so, and no other answer. 16, 17
-- and 18 are those of the check, each at the first such entry (02, ticket 1).
pub record RunMeans (f : List ℕ) (limit : ℕ) : Type 0 where
  pub finishes : (steps gates : ℕ) (bytes : List ℕ)
      → (run_of f limit ≡ ran steps gates bytes) ↔ Finishes f limit steps gates bytes
  pub refused : (x : Refusal) → (check_of f ≡ refuses x) ↔ ((run_of f limit ≡ declines x) × OfCheck x)
  pub first_faults : IsRead f → FirstFaults f (λ x. run_of f limit ≡ declines x)
  pub twenty : (run_of f limit ≡ declines (Run 20 0)) ↔ NoWireType f
  pub twenty_one : (run_of f limit ≡ declines (Run 21 0)) ↔ LimitDone f limit
  pub twenty_two : (run_of f limit ≡ declines (Run 22 0)) ↔ SizeExceeded f limit
  pub no_other : (x : Refusal)
      → run_of f limit ≡ declines x
      → OfCheck x ⊎ (x ≡ Run 20 0) ⊎ (x ≡ Run 21 0) ⊎ (x ≡ Run 22 0)
