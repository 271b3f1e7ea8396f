-- Big-step evaluation (003, section 2.4), which serves the proof of 02's ticket 10.
use Rattle.std.specs.Prelude.{ℕ, ◌≡◌, List, [], ◌∷◌}
use Rattle.std.proofs.Math.Option.{some}
use Rattle.rules.specs.Types.{Wire, Ty, wire, unit, ◌⊗◌, wires}
use Rattle.rules.specs.Gates.{◌to◌, gate_type}
use Rattle.rules.specs.Terms.{Tuple, single, empty, both, tuple_from, Gate, Boxed, boxed, Term, label, gate, unit_value}
use Rattle.rules.specs.Terms.{constant, abstraction, application, pair, let_in, lift, force, box, apply, tuple, term_labels}
use Rattle.rules.specs.Terms.{substitute}
use Rattle.rules.specs.Circuits.{Circuit, circuit, appended, returned, gate_boxed}

-- A label tuple has the form of a wire type: a label for each wire, unit's value for unit, a pair for a pair.
pub data OfForm : Ty → Tuple → Type 0 where
  wire_form : {α : Wire} {ℓ : ℕ} → OfForm (wire α) (single ℓ)
  unit_form : OfForm unit empty
  pair_form : {T U : Ty} {t u : Tuple} → OfForm T t → OfForm U u → OfForm (T ⊗ U) (both t u)

infix 20 ◌∣◌⇓◌∣◌
-- 003: (C, M) ⇓ (D, V), "the evaluation of M with an underlying circuit C eventually results in value V and in the construction of
-- circuit D". One rule a form of term; a variable has none.
pub data ◌∣◌⇓◌∣◌ : Circuit → Term → Circuit → Term → Type 0 where
  label⇓ : {C : Circuit} {ℓ : ℕ} → C ∣ label ℓ ⇓ C ∣ label ℓ
  gate⇓ : {C : Circuit} {n : ℕ} → C ∣ gate n ⇓ C ∣ gate n
  unit⇓ : {C : Circuit} → C ∣ unit_value ⇓ C ∣ unit_value
  constant⇓ : {C : Circuit} {b : Boxed} → C ∣ constant b ⇓ C ∣ constant b
  abstraction⇓ : {C : Circuit} {A : Ty} {M : Term} → C ∣ abstraction A M ⇓ C ∣ abstraction A M
  application⇓ : {C C₁ C₂ C₃ : Circuit} {A : Ty} {M N P W W' : Term}
      → C ∣ M ⇓ C₁ ∣ abstraction A P
      → C₁ ∣ N ⇓ C₂ ∣ W
      → C₂ ∣ substitute (W ∷ []) P ⇓ C₃ ∣ W'
      → C ∣ application M N ⇓ C₃ ∣ W'
  let⇓ : {C C₁ C₂ : Circuit} {M N W W₁ W₂ : Term}
      → C ∣ M ⇓ C₁ ∣ pair W₁ W₂
      → C₁ ∣ substitute (W₂ ∷ W₁ ∷ []) N ⇓ C₂ ∣ W
      → C ∣ let_in M N ⇓ C₂ ∣ W
  pair⇓ : {C C₁ C₂ : Circuit} {M N W W' : Term}
      → C ∣ M ⇓ C₁ ∣ W
      → C₁ ∣ N ⇓ C₂ ∣ W'
      → C ∣ pair M N ⇓ C₂ ∣ pair W W'
  lift⇓ : {C : Circuit} {M : Term} → C ∣ lift M ⇓ C ∣ lift M
  force⇓ : {C C₁ C₂ : Circuit} {M N W : Term}
      → C ∣ M ⇓ C₁ ∣ lift N
      → C₁ ∣ N ⇓ C₂ ∣ W
      → C ∣ force M ⇓ C₂ ∣ W
  -- The labels are fresh because N holds none.
  box⇓ : {C C₁ : Circuit} {I : List Wire} {gs : List Gate} {T : Ty} {M N : Term} (r : Tuple)
      → C ∣ M ⇓ C₁ ∣ lift N
      → term_labels N ≡ []
      → circuit (wires T) [] ∣ application N (tuple (tuple_from 0 T)) ⇓ circuit I gs ∣ tuple r
      → C ∣ box T M ⇓ C₁ ∣ constant (boxed T gs r)
  apply_constant⇓ : {C C₁ C₂ : Circuit} {T : Ty} {gs : List Gate} {r : Tuple} {M N : Term} (k : Tuple)
      → C ∣ M ⇓ C₁ ∣ constant (boxed T gs r)
      → C₁ ∣ N ⇓ C₂ ∣ tuple k
      → OfForm T k
      → C ∣ apply M N ⇓ appended C₂ k (boxed T gs r) ∣ tuple (returned C₂ k (boxed T gs r))
  -- A gate is a circuit of one gate.
  apply_gate⇓ : {C C₁ C₂ : Circuit} {n : ℕ} {T U : Ty} {M N : Term} (k : Tuple)
      → C ∣ M ⇓ C₁ ∣ gate n
      → gate_type n ≡ some (T to U)
      → C₁ ∣ N ⇓ C₂ ∣ tuple k
      → C ∣ apply M N ⇓ appended C₂ k (gate_boxed n T U) ∣ tuple (returned C₂ k (gate_boxed n T U))
