-- Laws of specs/Closing.antt.
use Rattle.std.specs.Prelude.{ℕ, ◌+◌, ◌*◌, ◌/◌, ◌%◌, ◌≤◌, ◌≡◌, List, length}
use Rattle.rules.specs.Terms.{Tuple, Gate, Boxed}
use Rattle.rules.specs.Circuits.{Circuit}
use Rattle.rules.specs.Sizes.{closed_gates}
use Rattle.machine_terms.specs.States.{open_gates}
use Rattle.machine_circuits.specs.Layout.{tuple_words, most_result, results_each}
use Rattle.machine_state.specs.declared.Counts.{Counts}
use Rattle.step_box_exit.specs.declared.Exit.{Exit}
use Rattle.step_box_exit.specs.Closing.{ResultSaved}

-- The innermost frame's circuit has the gates gs and stands over the open circuits Cs; the circuits K are closed.
pub record Innermost (e : Exit) (n : Counts) (gs : List Gate) (Cs : List Circuit) (K : List Boxed) : Type 0 where
  pub base_is : e.base ≡ open_gates Cs
  pub gates_are : e.gates ≡ length gs
  pub boxes_are : n.boxes ≡ length K
  pub closed_are : n.kept ≡ closed_gates K

-- The result k of closed circuit i is in its slot: it has so many nodes and does not run past the slot.
pub record InResults (results results' : ℕ → List ℕ) (i : ℕ) (k : Tuple) (nodes : ℕ) : Type 0 where
  pub short : length (tuple_words k) ≤ most_result
  pub many : nodes ≡ length (tuple_words k)
  pub inside : most_result * (i % results_each) + length (tuple_words k) ≤ length (results (i / results_each))
  pub saved : ResultSaved results results' i k
