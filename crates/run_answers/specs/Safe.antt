-- Demand 3 of a run: of every row of rule steps of an accepted program, and of the circuits of a finished run.
use Rattle.std.specs.Prelude.{ℕ, ◌≡◌, List, [], length}
use Rattle.rules.specs.Terms.{Tuple, labels, Gate, Boxed, tuple}
use Rattle.rules.specs.Circuits.{circuit, Sound, GoneOnce}
use Rattle.rules.specs.Steps.{frame, configuration, start}
use Rattle.rules.specs.Sizes.{most_gates, Row}
use Rattle.rules.specs.Demand3.{ClosedSound}
use Rattle.check_program.specs.Answers.{labels_of, term_of}
use Rattle.check_program.specs.Safe.{AcceptedIsSafe}
use Rattle.listing.specs.Listing.{listing}
use Rattle.run_answers.specs.Answers.{ran, run_of}

-- The circuit that was listed, its outputs, and the circuits closed on the way: each wire of the listing is made once, and
-- gone exactly once, to a later gate or to one output; in every closed circuit likewise.
pub record ListedSound (f : List ℕ) (steps gates : ℕ) (bytes : List ℕ) : Type 0 where
  pub listed_gates : List Gate
  pub outputs : Tuple
  pub closed : List Boxed
  pub bytes_are : bytes ≡ listing (circuit (labels_of f) listed_gates) outputs
  pub gates_are : gates ≡ length listed_gates
  pub sound : Sound (labels_of f) listed_gates
  pub gone_once : GoneOnce (labels_of f) listed_gates (labels outputs)
  pub closed_sound : ClosedSound closed
  pub by_the_rules : Row most_gates (start (labels_of f) (term_of f)) steps
      (configuration (frame (circuit (labels_of f) listed_gates) (tuple outputs)) [] closed)

-- Demand 3 of a run of the file with this limit.
pub record RunIsSafe (f : List ℕ) (limit : ℕ) : Type 0 where
  pub every_row : AcceptedIsSafe f
  pub finished : (steps gates : ℕ) (bytes : List ℕ)
      → run_of f limit ≡ ran steps gates bytes
      → ListedSound f steps gates bytes
