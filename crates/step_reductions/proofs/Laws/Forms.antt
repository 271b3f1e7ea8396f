-- The form of a step at a force, at an application and at a let.
use Rattle.std.specs.Prelude.{ℕ, ◌≡◌, List, [], ◌∷◌, Option}
use Rattle.std.proofs.Common.{arith}
use Rattle.rules.specs.Types.{Ty}
use Rattle.rules.specs.Terms.{Boxed}
use Rattle.rules.specs.Circuits.{Circuit}
use Rattle.machine_terms.specs.Trees.{Node, Tree, one, two, substitute_tree}
use Rattle.machine_terms.specs.Holes.{Hole, only, first, second}
use Rattle.machine_terms.specs.Walks.{evaluating, returning, Stop, Stopped, at_force, at_application, at_let, stopped_force}
use Rattle.machine_terms.specs.Walks.{stopped_application}
use Rattle.machine_terms.specs.States.{State, state}
use Rattle.machine_terms.specs.Forms.{Contracts, contracts_application, contracts_let, contracts_force, contracts_gate}
use Rattle.machine_terms.specs.Forms.{contracts_constant, contracts_box, contracts_exit}
use Rattle.machine_state.specs.Memory.{Memory}
use Rattle.machine_state.specs.Outcomes.{SizesFit, walk_of, AtStop, Outcome, Steps}
use Rattle.machine_state.specs.declared.StateNumbers.{StateNumbers}

-- What holds of every step of a form holds of each step at its stop.
module _ (types : ℕ → Ty) (P : State → State → Type 0) where
  every_force : ((n m : Node) (t : Tree) (hs : List Hole) (C : Circuit) (Cs : List Circuit) (K : List Boxed)
      → P (state (returning (one m t) (only n ∷ hs)) C Cs K) (state (evaluating t hs) C Cs K))
      → (s s' : State)
      → Contracts types s s'
      → Stopped (walk_of s) at_force
      → P s s'
  every_force f s s' (contracts_application p q) stopped = elim stopped [ ]
  every_force f s s' (contracts_let p q) stopped = elim stopped [ ]
  every_force f s s' (contracts_force {n} {m} {t} {hs} {C} {Cs} {closed} p q) stopped = f n m t hs C Cs closed
  every_force f s s' (contracts_gate T U k p q u v) stopped = elim stopped [ ]
  every_force f s s' (contracts_constant k p q u) stopped = elim stopped [ ]
  every_force f s s' (contracts_box p q) (stopped_force p') =
      let z : ◌≡◌ {A = ℕ} 0 1 = cc in absurd (omega arith)
  every_force f s s' (contracts_exit k p) stopped = elim stopped [ ]

  every_application : ((n m : Node) (t v : Tree) (hs : List Hole) (C : Circuit) (Cs : List Circuit) (K : List Boxed)
      → P
      (state (returning v (second n (one m t) ∷ hs)) C Cs K)
      (state (evaluating (substitute_tree (v ∷ []) t) hs) C Cs K))
      → (s s' : State)
      → Contracts types s s'
      → Stopped (walk_of s) at_application
      → P s s'
  every_application f s s' (contracts_application {n} {m} {t} {v} {hs} {C} {Cs} {closed} p q) stopped =
      f n m t v hs C Cs closed
  every_application f s s' (contracts_let p q) stopped = elim stopped [ ]
  every_application f s s' (contracts_force p q) stopped = elim stopped [ ]
  every_application f s s' (contracts_gate T U k p q u v) (stopped_application p') =
      let z : ◌≡◌ {A = ℕ} 0 1 = cc in absurd (omega arith)
  every_application f s s' (contracts_constant k p q u) (stopped_application p') =
      let z : ◌≡◌ {A = ℕ} 0 1 = cc in absurd (omega arith)
  every_application f s s' (contracts_box p q) stopped = elim stopped [ ]
  every_application f s s' (contracts_exit k p) stopped = elim stopped [ ]

  every_let : ((n m : Node) (t t' u : Tree) (hs : List Hole) (C : Circuit) (Cs : List Circuit) (K : List Boxed)
      → P
      (state (returning (two m t t') (first n u ∷ hs)) C Cs K)
      (state (evaluating (substitute_tree (t' ∷ t ∷ []) u) hs) C Cs K))
      → (s s' : State)
      → Contracts types s s'
      → Stopped (walk_of s) at_let
      → P s s'
  every_let f s s' (contracts_application p q) stopped = elim stopped [ ]
  every_let f s s' (contracts_let {n} {m} {t} {t'} {u} {hs} {C} {Cs} {closed} p q) stopped = f n m t t' u hs C Cs closed
  every_let f s s' (contracts_force p q) stopped = elim stopped [ ]
  every_let f s s' (contracts_gate T U k p q u v) stopped = elim stopped [ ]
  every_let f s s' (contracts_constant k p q u) stopped = elim stopped [ ]
  every_let f s s' (contracts_box p q) stopped = elim stopped [ ]
  every_let f s s' (contracts_exit k p) stopped = elim stopped [ ]

-- The contract of the step from s to s'.
abbrev pub StepsTo : Stop → ℕ → Memory → Memory → StateNumbers → Option StateNumbers → (ℕ → Ty) → ℕ → Ty → State → State → Type 0
StepsTo stop allowance m m' r answer types positions A s s' =
    AtStop types positions A m r s stop → SizesFit allowance s → Outcome types positions allowance r m m' s' answer

-- An answer meets the contract at a stop where it does for every step of the form that steps have there.
module _ (allowance : ℕ) (m m' : Memory) (r : StateNumbers) (answer : Option StateNumbers) where
  -- What is forced is a lift.
  pub force_form : ((types : ℕ → Ty) (positions : ℕ) (A : Ty) (n k : Node) (t : Tree) (hs : List Hole) (C : Circuit)
      (Cs : List Circuit) (K : List Boxed)
      → StepsTo at_force allowance m m' r answer types positions A
      (state (returning (one k t) (only n ∷ hs)) C Cs K)
      (state (evaluating t hs) C Cs K))
      → Steps at_force allowance m m' r answer
  force_form f types positions A s s' _ stop fits c =
      every_force types (StepsTo at_force allowance m m' r answer types positions A) (f types positions A) s s' c
      stop.stopped stop fits

  -- What is applied is an abstraction.
  pub application_form : ((types : ℕ → Ty) (positions : ℕ) (A : Ty) (n k : Node) (t v : Tree) (hs : List Hole) (C : Circuit)
      (Cs : List Circuit) (K : List Boxed)
      → StepsTo at_application allowance m m' r answer types positions A
      (state (returning v (second n (one k t) ∷ hs)) C Cs K)
      (state (evaluating (substitute_tree (v ∷ []) t) hs) C Cs K))
      → Steps at_application allowance m m' r answer
  application_form f types positions A s s' _ stop fits c =
      every_application types (StepsTo at_application allowance m m' r answer types positions A) (f types positions A) s s' c
      stop.stopped stop fits

  -- The value of a let is a pair.
  pub let_form : ((types : ℕ → Ty) (positions : ℕ) (A : Ty) (n k : Node) (t t' u : Tree) (hs : List Hole) (C : Circuit)
      (Cs : List Circuit) (K : List Boxed)
      → StepsTo at_let allowance m m' r answer types positions A
      (state (returning (two k t t') (first n u ∷ hs)) C Cs K)
      (state (evaluating (substitute_tree (t' ∷ t ∷ []) u) hs) C Cs K))
      → Steps at_let allowance m m' r answer
  let_form f types positions A s s' _ stop fits c =
      every_let types (StepsTo at_let allowance m m' r answer types positions A) (f types positions A) s s' c
      stop.stopped stop fits
