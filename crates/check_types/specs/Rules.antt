-- The typing rules on cells: a law for each way through the code of a rule.
use Rattle.std.specs.Prelude.{ℕ, ◌≤◌, ◌≡◌, Bool, List}
use Rattle.std.proofs.Math.Option.{Option, none, some}
use Rattle.rules.specs.Types.{Ty, Circ, entries, is_wire_type, most_entries}
use Rattle.rules.specs.Inference.{same, given, if_true, if_bounded, as_pair, as_function, as_circ, box_type}
use Rattle.std.specs.Prelude.{Option as RustOption, Some, None}
use Rattle.check_types.specs.declared.Ruling.{Ruling}
use Rattle.check_types.specs.Cells.{Denotes, Room, Given, MeetsTwo, Made}

-- The answers of the comparison and of the test for a wire type, for all types that the cells denote.
abbrev pub SaysSameType : List ℕ → ℕ → ℕ → Bool → Type 0
SaysSameType w i j r = (n : ℕ) (A B : Ty) → Denotes w n i A → Denotes w n j B → r ≡ same A B

abbrev pub SaysIsWireType : List ℕ → ℕ → Bool → Type 0
SaysIsWireType w i r = (n : ℕ) (A : Ty) → Denotes w n i A → r ≡ is_wire_type A

-- The function that takes the types of this kind apart.
pub data Reads : ℕ → (Ty → Option (Ty × Ty)) → Type 0 where
  reads_pair : Reads 2 as_pair
  reads_function : Reads 3 as_function
  reads_circuit : Reads 5 as_circ

-- The contracts of the functions that several rules share: one that makes a type of two parts, and one for the result of a
-- function or a circuit.
abbrev pub MakesTwo : ℕ → List ℕ → List ℕ → ℕ → ℕ → ℕ → RustOption Ruling → Type 0
MakesTwo kind w w' n a b r =
    (A B C : Ty) → Made kind A B C → Room w n → Denotes w n a A → Denotes w n b B → Given w w' n (if_bounded C) r

-- Application and apply: the result of a function or a circuit, if it takes this argument.
abbrev pub result_type : (Ty → Option (Ty × Ty)) → Ty → Ty → Option Ty
result_type g F A = given (g F) λ p. if_true (same p.0 A) p.1

abbrev pub GivesResult : ℕ → List ℕ → ℕ → ℕ → ℕ → RustOption Ruling → Type 0
GivesResult kind w n f a r = (g : Ty → Option (Ty × Ty)) → Reads kind g → MeetsTwo (result_type g) w w n f a r

-- Box: the cells of the parts of the circuit type, where the rule gives it.
pub record CircuitParts (w : List ℕ) (n t : ℕ) (T C : Ty) (r : RustOption (ℕ × ℕ)) : Type 0 where
  pub second : ℕ
  pub result : Ty
  pub answer : r ≡ Some (t, second)
  pub second_denotes : Denotes w n second result
  pub circuit : C ≡ Circ T result
  pub bounded : entries (Circ T result) ≤ most_entries

abbrev pub BoxGiven : List ℕ → ℕ → ℕ → Ty → Option Ty → RustOption (ℕ × ℕ) → Type 0
BoxGiven w n t T none r = r ≡ None
BoxGiven w n t T (some C) r = CircuitParts w n t T C r

abbrev pub SaysBox : List ℕ → ℕ → ℕ → RustOption (ℕ × ℕ) → Type 0
SaysBox w t a r = (n : ℕ) (T A : Ty) → Denotes w n t T → Denotes w n a A → BoxGiven w n t T (box_type T A) r
