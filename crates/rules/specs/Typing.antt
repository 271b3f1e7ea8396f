-- The typing rules (000, section 2.3; 01, "Typing").
use Rattle.std.specs.Prelude.{ℕ, zero, suc, ◌≤◌, ◌≡◌, ◌≢◌, T as Truth, List, [], ◌∷◌}
use Rattle.std.proofs.Math.Option.{Option, none, some}
use Rattle.rules.specs.Types.{Wire, Ty, wire, ◌⊗◌, ◌⊸◌, !◌, Circ, is_wire_type, copyable, wires, entries, most_entries}
use Rattle.rules.specs.Types.{unit}
use Rattle.rules.specs.Gates.{◌to◌, gate_type}
use Rattle.rules.specs.Terms.{Tuple, Gate, boxed, Term, variable, label, gate, constant, abstraction, application}
use Rattle.rules.specs.Terms.{pair, let_in, lift, force, box, apply, tuple, unit_value}
use Rattle.rules.specs.Circuits.{Sound, loose}

-- A typing context gives each variable in scope, innermost first, a type, or none where another part of the term has it.
abbrev pub Context : Type 0
Context = List (Option Ty)

-- 000, definition 2.5: a label context gives some labels a wire's type.
abbrev pub LabelContext : Type 0
LabelContext = ℕ → Option Wire

-- 01: "The types that may be copied and dropped".
abbrev pub Copyable : Ty → Type 0
Copyable A = Truth (copyable A)

-- How one entry of a context is shared out to two parts: to one of them, or to both if it may be copied.
pub data Shares {X : Type 0} (MayCopy : X → Type 0) : Option X → Option X → Option X → Type 0 where
  nowhere : Shares MayCopy none none none
  left : {x : X} → Shares MayCopy (some x) (some x) none
  right : {x : X} → Shares MayCopy (some x) none (some x)
  copied : {x : X} → MayCopy x → Shares MayCopy (some x) (some x) (some x)

-- 000, 2.3: a context Φ, Γ₁, Γ₂ is split into Φ, Γ₁ and Φ, Γ₂. 01: "Each linear variable and each label goes to exactly
-- one part at every split".
pub data Splits : Context → Context → Context → Type 0 where
  split_end : Splits [] [] []
  ◌then◌ : {a a₁ a₂ : Option Ty} {Γ Γ₁ Γ₂ : Context}
      → Shares Copyable a a₁ a₂ → Splits Γ Γ₁ Γ₂ → Splits (a ∷ Γ) (a₁ ∷ Γ₁) (a₂ ∷ Γ₂)

infixr 50 ◌then◌
-- A label is never copied.
abbrev pub Never : Wire → Type 0
Never α = ⊥

-- The same for labels, by number: each label goes to exactly one part.
abbrev pub SplitsLabels : LabelContext → LabelContext → LabelContext → Type 0
SplitsLabels Q Q₁ Q₂ = (ℓ : ℕ) → Shares Never (Q ℓ) (Q₁ ℓ) (Q₂ ℓ)

-- 000, 2.3: a parameter context Φ, in which every type may be copied, and so dropped.
pub data Parameter : Context → Type 0 where
  parameters_end : Parameter []
  absent : {Γ : Context} → Parameter Γ → Parameter (none ∷ Γ)
  parameter : {A : Ty} {Γ : Context} → Copyable A → Parameter Γ → Parameter (some A ∷ Γ)

-- The context Φ, x : A, in which x is variable n.
pub data Variable : Context → ℕ → Ty → Type 0 where
  here : {A : Ty} {Γ : Context} → Parameter Γ → Variable (some A ∷ Γ) zero A
  past_absent : {n : ℕ} {A : Ty} {Γ : Context} → Variable Γ n A → Variable (none ∷ Γ) (suc n) A
  past_parameter : {n : ℕ} {A B : Ty} {Γ : Context} → Copyable B → Variable Γ n A → Variable (some B ∷ Γ) (suc n) A

-- The label context with no label.
abbrev pub NoLabel : LabelContext → Type 0
NoLabel Q = (ℓ : ℕ) → Q ℓ ≡ none

-- The label context with ℓ alone.
abbrev pub OnlyLabel : LabelContext → ℕ → Wire → Type 0
OnlyLabel Q ℓ α = (Q ℓ ≡ some α) × ((k : ℕ) → k ≢ ℓ → Q k ≡ none)

-- 01: "No type of a node may exceed 512 entries."
abbrev pub Bounded : Ty → Type 0
Bounded A = entries A ≤ most_entries

infix 20 ◌∣◌⊢◌∶◌
-- 000, 2.3: Γ; Q ⊢ M : A, one constructor a rule, with 01's typed abstractions, gates and bound on types. The bound
-- stands where a type is built; all other types of nodes are parts of these.
pub data ◌∣◌⊢◌∶◌ : Context → LabelContext → Term → Ty → Type 0 where
  by_var : {Γ : Context} {Q : LabelContext} {n : ℕ} {A : Ty}
      → Variable Γ n A → NoLabel Q
      → Γ ∣ Q ⊢ variable n ∶ A
  by_label : {Γ : Context} {Q : LabelContext} {ℓ : ℕ} {α : Wire}
      → Parameter Γ → OnlyLabel Q ℓ α
      → Γ ∣ Q ⊢ label ℓ ∶ wire α
  by_gate : {Γ : Context} {Q : LabelContext} {n : ℕ} {T U : Ty}
      → Parameter Γ → NoLabel Q → gate_type n ≡ some (T to U)
      → Γ ∣ Q ⊢ gate n ∶ Circ T U
  -- 02, ticket 5: unit's value has no label, and its type "may be copied and dropped".
  by_unit : {Γ : Context} {Q : LabelContext}
      → Parameter Γ → NoLabel Q
      → Γ ∣ Q ⊢ unit_value ∶ unit
  -- 01: "A constant has type Circ from T to U if its circuit is sound with T's wires as inputs, and its result, the
  -- label tuple at box exit, has type U and holds each loose wire exactly once."
  by_circ : {Γ : Context} {Q : LabelContext} {T U : Ty} {gs : List Gate} {r : Tuple}
      → Parameter Γ → NoLabel Q → Truth (is_wire_type T) → Bounded (Circ T U) → Sound (wires T) gs
      → [] ∣ loose (wires T) gs ⊢ tuple r ∶ U
      → Γ ∣ Q ⊢ constant (boxed T gs r) ∶ Circ T U
  by_abs : {Γ : Context} {Q : LabelContext} {A B : Ty} {M : Term}
      → Bounded (A ⊸ B) → (some A ∷ Γ) ∣ Q ⊢ M ∶ B
      → Γ ∣ Q ⊢ abstraction A M ∶ A ⊸ B
  by_app : {Γ Γ₁ Γ₂ : Context} {Q Q₁ Q₂ : LabelContext} {A B : Ty} {M N : Term}
      → Splits Γ Γ₁ Γ₂ → SplitsLabels Q Q₁ Q₂ → Γ₁ ∣ Q₁ ⊢ M ∶ A ⊸ B → Γ₂ ∣ Q₂ ⊢ N ∶ A
      → Γ ∣ Q ⊢ application M N ∶ B
  by_tuple : {Γ Γ₁ Γ₂ : Context} {Q Q₁ Q₂ : LabelContext} {A B : Ty} {M N : Term}
      → Bounded (A ⊗ B) → Splits Γ Γ₁ Γ₂ → SplitsLabels Q Q₁ Q₂ → Γ₁ ∣ Q₁ ⊢ M ∶ A → Γ₂ ∣ Q₂ ⊢ N ∶ B
      → Γ ∣ Q ⊢ pair M N ∶ A ⊗ B
  by_let : {Γ Γ₁ Γ₂ : Context} {Q Q₁ Q₂ : LabelContext} {A B C : Ty} {M N : Term}
      → Splits Γ Γ₁ Γ₂ → SplitsLabels Q Q₁ Q₂ → Γ₁ ∣ Q₁ ⊢ M ∶ A ⊗ B → (some B ∷ some A ∷ Γ₂) ∣ Q₂ ⊢ N ∶ C
      → Γ ∣ Q ⊢ let_in M N ∶ C
  by_lift : {Γ : Context} {Q : LabelContext} {A : Ty} {M : Term}
      → Bounded (! A) → Parameter Γ → NoLabel Q
      → Γ ∣ Q ⊢ M ∶ A
      → Γ ∣ Q ⊢ lift M ∶ ! A
  by_force : {Γ : Context} {Q : LabelContext} {A : Ty} {M : Term}
      → Γ ∣ Q ⊢ M ∶ ! A
      → Γ ∣ Q ⊢ force M ∶ A
  by_box : {Γ : Context} {Q : LabelContext} {T U : Ty} {M : Term}
      → Truth (is_wire_type T) → Truth (is_wire_type U)
      → Γ ∣ Q ⊢ M ∶ ! (T ⊸ U)
      → Γ ∣ Q ⊢ box T M ∶ Circ T U
  by_apply : {Γ Γ₁ Γ₂ : Context} {Q Q₁ Q₂ : LabelContext} {T U : Ty} {M N : Term}
      → Splits Γ Γ₁ Γ₂ → SplitsLabels Q Q₁ Q₂ → Γ₁ ∣ Q₁ ⊢ M ∶ Circ T U → Γ₂ ∣ Q₂ ⊢ N ∶ T
      → Γ ∣ Q ⊢ apply M N ∶ U
