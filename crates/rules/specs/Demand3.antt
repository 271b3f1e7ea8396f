-- Demand 3, as 01's "Words of demand 3" and "Agreed between us" put it. Its proof is theorem `demand3_from` of Theorems.Safety.
use Rattle.std.specs.Prelude.{ℕ, suc, ◌≡◌, ◌⊎◌, List, [], ◌∷◌, T as Truth}
use Rattle.std.proofs.Math.Option.{none}
use Rattle.rules.specs.Types.{Wire, Ty, Circ, is_wire_type, wires}
use Rattle.rules.specs.Terms.{Tuple, labels, Gate, Boxed, boxed, Term, constant, lift, box, value, tuple, term_labels}
use Rattle.rules.specs.Circuits.{Circuit, circuit, Sound, loose, GoneOnce}
use Rattle.rules.specs.Typing.{◌∣◌⊢◌∶◌}
use Rattle.rules.specs.Contexts.{EvaluationContext, plug}
use Rattle.rules.specs.Steps.{Frame, frame, Configuration, configuration, ◌⟶◌}
use Rattle.rules.specs.Sizes.{Fits, Row}

-- 01: "A frame has type A if its circuit is sound and its term gets A by the typing rules, the labels being exactly the
-- loose wires, with their types."
pub data FrameHas : Frame → Ty → Type 0 where
  frame_has : {I : List Wire} {gs : List Gate} {M : Term} {A : Ty}
      → Sound I gs
      → [] ∣ loose I gs ⊢ M ∶ A
      → FrameHas (frame (circuit I gs) M) A

-- 01: "A program still has its type if the outermost frame has the type that the check gave, and each frame above another
-- was opened by the box that is the lower one's next step: T's wires as inputs from 0, U as its type."
pub data FramesHave (A : Ty) : Frame → List Frame → Type 0 where
  outermost : {F : Frame} → FrameHas F A → FramesHave A F []
  opened : {gs : List Gate} {N P : Term} {C : Circuit} {X : List Frame} (E : EvaluationContext) (T U : Ty) (M : Term)
      → FrameHas (frame (circuit (wires T) gs) N) U
      → [] ∣ (λ ℓ. none) ⊢ box T (lift M) ∶ Circ T U
      → P ≡ plug E (box T (lift M))
      → FramesHave A (frame C P) X
      → FramesHave A (frame (circuit (wires T) gs) N) (frame C P ∷ X)

-- The circuits closed so far are the constants that box exit made: each has its type.
pub data ClosedHave : List Boxed → Type 0 where
  none_closed : ClosedHave []
  one_closed : {b : Boxed} {K : List Boxed} (T U : Ty)
      → [] ∣ (λ ℓ. none) ⊢ constant b ∶ Circ T U
      → ClosedHave K
      → ClosedHave (b ∷ K)

-- The program still has its type: its frames have theirs, and so have the circuits closed so far.
pub data ProgramHas (A : Ty) : Configuration → Type 0 where
  program_has : {F : Frame} {X : List Frame} {K : List Boxed}
      → FramesHave A F X
      → ClosedHave K
      → ProgramHas A (configuration F X K)

-- 01: "Finished: one frame, its term a value."
pub data Finished : Configuration → Type 0 where
  finished : {C : Circuit} {M : Term} {K : List Boxed} → Truth (value M) → Finished (configuration (frame C M) [] K)

-- Every circuit open: each wire is made once and taken at most once, by a later gate of its type (Sound).
pub data OpenSound : List Frame → Type 0 where
  none_open : OpenSound []
  one_open : {I : List Wire} {gs : List Gate} {M : Term} {X : List Frame}
      → Sound I gs
      → OpenSound X
      → OpenSound (frame (circuit I gs) M ∷ X)

-- Every circuit closed, dropped or not: likewise, and each wire has gone exactly once, its own result included.
pub data ClosedSound : List Boxed → Type 0 where
  none_left : ClosedSound []
  one_left : {T : Ty} {gs : List Gate} {r : Tuple} {K : List Boxed}
      → Sound (wires T) gs
      → GoneOnce (wires T) gs (labels r)
      → ClosedSound K
      → ClosedSound (boxed T gs r ∷ K)

-- Every circuit built by now, open or closed.
pub data CircuitsSound : Configuration → Type 0 where
  circuits_sound : {F : Frame} {X : List Frame} {K : List Boxed}
      → OpenSound (F ∷ X)
      → ClosedSound K
      → CircuitsSound (configuration F X K)

-- At the finish each wire made in the outermost circuit has gone exactly once: taken by a later gate, or one label of the
-- finished term.
pub data AllGone : Configuration → Type 0 where
  all_gone : {I : List Wire} {gs : List Gate} {M : Term} {K : List Boxed}
      → GoneOnce I gs (term_labels M)
      → AllGone (configuration (frame (circuit I gs) M) [] K)

-- The finished term is a label tuple, and each wire made in the outermost circuit has gone exactly once: taken by a later
-- gate, or to one place of that tuple.
pub data GoneToTuple : Configuration → Type 0 where
  gone_to_tuple : {I : List Wire} {gs : List Gate} {M : Term} {K : List Boxed} (r : Tuple)
      → M ≡ tuple r
      → GoneOnce I gs (labels r)
      → GoneToTuple (configuration (frame (circuit I gs) M) [] K)

-- Demand 3 after a row of n steps from the configuration c₀, of type A, to the configuration c. An accepted program's c₀ is
-- its start; a run that goes on from what an earlier one left starts there.
pub record Demand3 (allowance : ℕ) (c₀ : Configuration) (A : Ty) (n : ℕ) (c : Configuration) : Type 0 where
  -- The type is kept, in each open box.
  pub type_kept : ProgramHas A c
  -- It is finished and there is no step, or it is unfinished and there is exactly one.
  pub goes_on : (Finished c × ((d : Configuration) → c ⟶ d → ⊥))
      ⊎ ((Finished c → ⊥) × ((d : Configuration) × (c ⟶ d) × ((e : Configuration) → c ⟶ e → e ≡ d)))
  -- In every circuit built by now each wire is made once and taken at most once, by a later gate of its type.
  pub circuits : CircuitsSound c
  -- A step that does not fit ends the row: no row of rule steps is longer.
  pub ends : (d : Configuration)
      → c ⟶ d
      → (Fits allowance d → ⊥)
      → (e : Configuration)
      → Row allowance c₀ (suc n) e
      → ⊥
  -- When a program finishes, whatever its type, each wire has gone exactly once, to a gate or into the finished term.
  pub gone : Finished c → AllGone c
  -- If its type is a wire type, the finished term is a label tuple, which holds each loose wire exactly once.
  pub gone_to_outputs : Truth (is_wire_type A) → Finished c → GoneToTuple c
