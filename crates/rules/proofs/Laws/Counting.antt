-- Laws of specs/Counting.antt.
use Rattle.std.specs.Prelude.{ℕ, ◌≡◌, List, [], ◌∷◌, T as Truth}
use Rattle.std.proofs.Math.Option.{some}
use Rattle.rules.specs.Types.{Wire, Ty, wire, ◌⊗◌, ◌⊸◌, !◌, Circ, is_wire_type, wires, unit}
use Rattle.rules.specs.Gates.{◌to◌, nth, gate_type}
use Rattle.rules.specs.Terms.{Tuple, Gate, boxed, Term, variable, label, gate, constant, abstraction, application}
use Rattle.rules.specs.Terms.{pair, let_in, lift, force, box, apply, tuple, unit_value}
use Rattle.rules.specs.Circuits.{Sound, loose}
use Rattle.rules.specs.Typing.{LabelContext, Bounded, ◌∣◌⊢◌∶◌}
use Rattle.rules.specs.Inference.{uses, label_uses, Linear}

-- The typing rules without sharing out: every variable and label is there for every part.
pub data Plain : List Ty → LabelContext → Term → Ty → Type 0 where
  plain_var : {Γ : List Ty} {Q : LabelContext} {n : ℕ} {A : Ty} → nth Γ n ≡ some A → Plain Γ Q (variable n) A
  plain_label : {Γ : List Ty} {Q : LabelContext} {ℓ : ℕ} {α : Wire} → Q ℓ ≡ some α → Plain Γ Q (label ℓ) (wire α)
  plain_gate : {Γ : List Ty} {Q : LabelContext} {n : ℕ} {T U : Ty}
      → gate_type n ≡ some (T to U)
      → Plain Γ Q (gate n) (Circ T U)
  plain_unit : {Γ : List Ty} {Q : LabelContext} → Plain Γ Q unit_value unit
  plain_circ : {Γ : List Ty} {Q : LabelContext} {T U : Ty} {gs : List Gate} {r : Tuple}
      → Truth (is_wire_type T) → Bounded (Circ T U) → Sound (wires T) gs
      → [] ∣ loose (wires T) gs ⊢ tuple r ∶ U
      → Plain Γ Q (constant (boxed T gs r)) (Circ T U)
  plain_abs : {Γ : List Ty} {Q : LabelContext} {A B : Ty} {M : Term}
      → Bounded (A ⊸ B) → Plain (A ∷ Γ) Q M B
      → Plain Γ Q (abstraction A M) (A ⊸ B)
  plain_app : {Γ : List Ty} {Q : LabelContext} {A B : Ty} {M N : Term}
      → Plain Γ Q M (A ⊸ B) → Plain Γ Q N A
      → Plain Γ Q (application M N) B
  plain_tuple : {Γ : List Ty} {Q : LabelContext} {A B : Ty} {M N : Term}
      → Bounded (A ⊗ B) → Plain Γ Q M A → Plain Γ Q N B
      → Plain Γ Q (pair M N) (A ⊗ B)
  plain_let : {Γ : List Ty} {Q : LabelContext} {A B C : Ty} {M N : Term}
      → Plain Γ Q M (A ⊗ B) → Plain (B ∷ A ∷ Γ) Q N C
      → Plain Γ Q (let_in M N) C
  plain_lift : {Γ : List Ty} {Q : LabelContext} {A : Ty} {M : Term}
      → Bounded (! A) → Plain Γ Q M A
      → Plain Γ Q (lift M) (! A)
  plain_force : {Γ : List Ty} {Q : LabelContext} {A : Ty} {M : Term} → Plain Γ Q M (! A) → Plain Γ Q (force M) A
  plain_box : {Γ : List Ty} {Q : LabelContext} {T U : Ty} {M : Term}
      → Truth (is_wire_type T) → Truth (is_wire_type U) → Plain Γ Q M (! (T ⊸ U))
      → Plain Γ Q (box T M) (Circ T U)
  plain_apply : {Γ : List Ty} {Q : LabelContext} {T U : Ty} {M N : Term}
      → Plain Γ Q M (Circ T U) → Plain Γ Q N T
      → Plain Γ Q (apply M N) U

-- Each linear variable that the term binds is used exactly once.
abbrev pub BoundOnce : {Γ : List Ty} {Q : LabelContext} {M : Term} {A : Ty} → Plain Γ Q M A → Type 0
BoundOnce (plain_var h) = Unit
BoundOnce (plain_label h) = Unit
BoundOnce (plain_gate h) = Unit
BoundOnce plain_unit = Unit
BoundOnce (plain_circ t b s d) = Unit
BoundOnce (plain_abs {A = A} {M = M} b d) = (Linear A → uses 0 M ≡ 1) × BoundOnce d
BoundOnce (plain_app d e) = BoundOnce d × BoundOnce e
BoundOnce (plain_tuple b d e) = BoundOnce d × BoundOnce e
BoundOnce (plain_let {A = A} {B = B} {N = N} d e) =
    (Linear A → uses 1 N ≡ 1) × (Linear B → uses 0 N ≡ 1) × BoundOnce d × BoundOnce e
BoundOnce (plain_lift b d) = BoundOnce d
BoundOnce (plain_force d) = BoundOnce d
BoundOnce (plain_box t u d) = BoundOnce d
BoundOnce (plain_apply d e) = BoundOnce d × BoundOnce e

-- No linear variable and no label from outside a lift is used inside it.
abbrev pub NoneCrosses : {Γ : List Ty} {Q : LabelContext} {M : Term} {A : Ty} → Plain Γ Q M A → Type 0
NoneCrosses (plain_var h) = Unit
NoneCrosses (plain_label h) = Unit
NoneCrosses (plain_gate h) = Unit
NoneCrosses plain_unit = Unit
NoneCrosses (plain_circ t b s d) = Unit
NoneCrosses (plain_abs b d) = NoneCrosses d
NoneCrosses (plain_app d e) = NoneCrosses d × NoneCrosses e
NoneCrosses (plain_tuple b d e) = NoneCrosses d × NoneCrosses e
NoneCrosses (plain_let d e) = NoneCrosses d × NoneCrosses e
NoneCrosses (plain_lift {Γ = Γ} {M = M} b d) =
    ((n : ℕ) (A : Ty) → nth Γ n ≡ some A → Linear A → uses n M ≡ 0) × ((ℓ : ℕ) → label_uses ℓ M ≡ 0) × NoneCrosses d
NoneCrosses (plain_force d) = NoneCrosses d
NoneCrosses (plain_box t u d) = NoneCrosses d
NoneCrosses (plain_apply d e) = NoneCrosses d × NoneCrosses e

-- A term is used as the rules ask: its plain type, and every linear variable and label exactly once, none through a lift.
pub record Counted (Γ : List Ty) (Q : LabelContext) (M : Term) (A : Ty) : Type 0 where
  pub plain : Plain Γ Q M A
  pub variables_once : (n : ℕ) (B : Ty) → nth Γ n ≡ some B → Linear B → uses n M ≡ 1
  pub labels_once : (ℓ : ℕ) (α : Wire) → Q ℓ ≡ some α → label_uses ℓ M ≡ 1
  pub bound_once : BoundOnce plain
  pub none_crosses : NoneCrosses plain
