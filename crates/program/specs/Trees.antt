-- The trees of a program file (01, "Program file"): the types and the term that stand in it, what `read` tests of them, and
-- the file that is written for a term.
use Rattle.std.specs.Prelude.{ℕ, suc, ◌+◌, ◌*◌, ◌≤◌, ◌<◌, ◌≡◌, Bool, true, ◌&&◌, List, T as Truth, ltb, length}
use Rattle.std.proofs.Math.Option.{some}
use Rattle.rules.specs.Kinds.{bit_kind, qubit_kind, pair_type_kind, function_kind, reusable_kind, circuit_kind, unit_kind}
use Rattle.rules.specs.Kinds.{variable_kind, label_kind, abstraction_kind, application_kind, pair_kind, let_kind}
use Rattle.rules.specs.Kinds.{lift_kind, force_kind, box_kind, apply_kind, gate_term_kind, unit_value_kind}
use Rattle.rules.specs.Types.{Wire, Bit, Qubit, Ty, wire, unit, ◌⊗◌, ◌⊸◌, !◌, Circ, is_wire_type, wire_code}
use Rattle.rules.specs.Gates.{nth, is_gate}
use Rattle.rules.specs.Terms.{Term, variable, label, gate, constant, abstraction, application, pair, let_in, lift, force}
use Rattle.rules.specs.Terms.{unit_value, box, apply}
use Rattle.rules.specs.Counting.{source}
use Rattle.program.specs.Format.{label_count, type_count, term_count, first_term, entry_count, kind_at, argument_at}
use Rattle.rules.specs.Sizes.{most_labels, most_types, most_terms}

-- A type stands in preorder in the entries e to n − 1. 01, type section: "0 Bit, 1 Qubit (no parts); 2 pair, 3 function,
-- 5 circuit (two parts); 4 reusable (one)." 02, ticket 5: "a unit type (type kind 6)", without parts.
pub data TypeAt (f : List ℕ) : ℕ → Ty → ℕ → Type 0 where
  bit_at : {e : ℕ} → kind_at f e ≡ bit_kind → TypeAt f e (wire Bit) (suc e)
  qubit_at : {e : ℕ} → kind_at f e ≡ qubit_kind → TypeAt f e (wire Qubit) (suc e)
  unit_at : {e : ℕ} → kind_at f e ≡ unit_kind → TypeAt f e unit (suc e)
  tensor_at : {e m n : ℕ} {A B : Ty}
      → kind_at f e ≡ pair_type_kind → TypeAt f (suc e) A m → TypeAt f m B n
      → TypeAt f e (A ⊗ B) n
  function_at : {e m n : ℕ} {A B : Ty}
      → kind_at f e ≡ function_kind → TypeAt f (suc e) A m → TypeAt f m B n
      → TypeAt f e (A ⊸ B) n
  reusable_at : {e n : ℕ} {A : Ty} → kind_at f e ≡ reusable_kind → TypeAt f (suc e) A n → TypeAt f e (! A) n
  circ_at : {e m n : ℕ} {A B : Ty}
      → kind_at f e ≡ circuit_kind → TypeAt f (suc e) A m → TypeAt f m B n
      → TypeAt f e (Circ A B) n

-- A type stands at a position of the type section. 01: "The type at a position is read in preorder from there and must
-- end inside the section."
pub data TypeAtPosition (f : List ℕ) (p : ℕ) (A : Ty) : Type 0 where
  at_position : {n : ℕ} → TypeAt f (label_count f + p) A n → n ≤ first_term f → TypeAtPosition f p A

-- A term stands in preorder in the entries e to n − 1. 01, term section: "16 variable, 17 label, 26 gate (no parts);
-- 18 abstraction, 22 lift, 23 force, 24 box (one); 19 application, 20 pair, 21 let, 25 apply (two)." "A label or gate has
-- its number. Abstraction and box have a type position, 0 to P−1. Every other argument is 0." 02, ticket 5: "its value (term
-- kind 27)", without parts.
pub data TermAt (f : List ℕ) : ℕ → Term → ℕ → Type 0 where
  variable_term_at : {e x : ℕ} → kind_at f e ≡ variable_kind → argument_at f e ≡ x → TermAt f e (variable x) (suc e)
  label_at : {e x : ℕ} → kind_at f e ≡ label_kind → argument_at f e ≡ x → TermAt f e (label x) (suc e)
  abstraction_at : {e n : ℕ} {A : Ty} {M : Term}
      → kind_at f e ≡ abstraction_kind → TypeAtPosition f (argument_at f e) A → TermAt f (suc e) M n
      → TermAt f e (abstraction A M) n
  application_at : {e m n : ℕ} {M N : Term}
      → kind_at f e ≡ application_kind → argument_at f e ≡ 0 → TermAt f (suc e) M m → TermAt f m N n
      → TermAt f e (application M N) n
  pair_at : {e m n : ℕ} {M N : Term}
      → kind_at f e ≡ pair_kind → argument_at f e ≡ 0 → TermAt f (suc e) M m → TermAt f m N n
      → TermAt f e (pair M N) n
  let_at : {e m n : ℕ} {M N : Term}
      → kind_at f e ≡ let_kind → argument_at f e ≡ 0 → TermAt f (suc e) M m → TermAt f m N n
      → TermAt f e (let_in M N) n
  lift_at : {e n : ℕ} {M : Term}
      → kind_at f e ≡ lift_kind → argument_at f e ≡ 0 → TermAt f (suc e) M n
      → TermAt f e (lift M) n
  force_at : {e n : ℕ} {M : Term}
      → kind_at f e ≡ force_kind → argument_at f e ≡ 0 → TermAt f (suc e) M n
      → TermAt f e (force M) n
  box_term_at : {e n : ℕ} {T : Ty} {M : Term}
      → kind_at f e ≡ box_kind → TypeAtPosition f (argument_at f e) T → TermAt f (suc e) M n
      → TermAt f e (box T M) n
  apply_at : {e m n : ℕ} {M N : Term}
      → kind_at f e ≡ apply_kind → argument_at f e ≡ 0 → TermAt f (suc e) M m → TermAt f m N n
      → TermAt f e (apply M N) n
  gate_term_at : {e x : ℕ} → kind_at f e ≡ gate_term_kind → argument_at f e ≡ x → TermAt f e (gate x) (suc e)
  unit_value_at : {e : ℕ} → kind_at f e ≡ unit_value_kind → argument_at f e ≡ 0 → TermAt f e unit_value (suc e)

-- Each Circ in a type has wire types for its parts. 01: "both parts of Circ must be wire types."
abbrev pub formed : Ty → Bool
formed (wire α) = true
formed unit = true
formed (A ⊗ B) = formed A && formed B
formed (A ⊸ B) = formed A && formed B
formed (! A) = formed A
formed (Circ T U) = is_wire_type T && is_wire_type U

-- Each variable of a term that stands under this many binders has its binder (01, refusal 9). An abstraction binds one in
-- its part, let two in its second part.
abbrev pub closed_under : ℕ → Term → Bool
closed_under b (variable x) = ltb x b
closed_under b (label ℓ) = true
closed_under b (gate x) = true
closed_under b unit_value = true
closed_under b (constant c) = true
closed_under b (abstraction A M) = closed_under (b + 1) M
closed_under b (application M N) = closed_under b M && closed_under b N
closed_under b (pair M N) = closed_under b M && closed_under b N
closed_under b (let_in M N) = closed_under b M && closed_under (b + 2) N
closed_under b (lift M) = closed_under b M
closed_under b (force M) = closed_under b M
closed_under b (box T M) = closed_under b M
closed_under b (apply M N) = closed_under b M && closed_under b N

-- Each label of a term is one of this many.
abbrev pub labels_below : ℕ → Term → Bool
labels_below l (variable x) = true
labels_below l (label ℓ) = ltb ℓ l
labels_below l (gate x) = true
labels_below l unit_value = true
labels_below l (constant c) = true
labels_below l (abstraction A M) = labels_below l M
labels_below l (application M N) = labels_below l M && labels_below l N
labels_below l (pair M N) = labels_below l M && labels_below l N
labels_below l (let_in M N) = labels_below l M && labels_below l N
labels_below l (lift M) = labels_below l M
labels_below l (force M) = labels_below l M
labels_below l (box T M) = labels_below l M
labels_below l (apply M N) = labels_below l M && labels_below l N

-- Each gate of a term has a gate's number.
abbrev pub gates_known : Term → Bool
gates_known (variable x) = true
gates_known (label ℓ) = true
gates_known (gate x) = is_gate x
gates_known unit_value = true
gates_known (constant c) = true
gates_known (abstraction A M) = gates_known M
gates_known (application M N) = gates_known M && gates_known N
gates_known (pair M N) = gates_known M && gates_known N
gates_known (let_in M N) = gates_known M && gates_known N
gates_known (lift M) = gates_known M
gates_known (force M) = gates_known M
gates_known (box T M) = gates_known M
gates_known (apply M N) = gates_known M && gates_known N

-- Each box of a term has a wire type (01: "a box's type and both parts of Circ must be wire types").
abbrev pub boxes_wired : Term → Bool
boxes_wired (variable x) = true
boxes_wired (label ℓ) = true
boxes_wired (gate x) = true
boxes_wired unit_value = true
boxes_wired (constant c) = true
boxes_wired (abstraction A M) = boxes_wired M
boxes_wired (application M N) = boxes_wired M && boxes_wired N
boxes_wired (pair M N) = boxes_wired M && boxes_wired N
boxes_wired (let_in M N) = boxes_wired M && boxes_wired N
boxes_wired (lift M) = boxes_wired M
boxes_wired (force M) = boxes_wired M
boxes_wired (box T M) = is_wire_type T && boxes_wired M
boxes_wired (apply M N) = boxes_wired M && boxes_wired N

-- A file is accepted: these are its labels' wires, and this is its term. All that `read` tests, said of the trees.
pub record AcceptedFile (f : List ℕ) (labels : List Wire) (M : Term) : Type 0 where
  -- 1 to 3: the sizes and the length are right.
  pub labels_fit : label_count f ≤ most_labels
  pub types_fit : type_count f ≤ most_types
  pub some_term : 1 ≤ term_count f
  pub terms_fit : term_count f ≤ most_terms
  pub length_is : length f ≡ 6 + 3 * entry_count f
  -- 4: the label section.
  pub label_count_is : length labels ≡ label_count f
  pub label_kinds_are : (e : ℕ) (α : Wire) → nth labels e ≡ some α → kind_at f e ≡ wire_code α
  -- 5: the arguments of labels and types.
  pub arguments_zero : (e : ℕ) → e < first_term f → argument_at f e ≡ 0
  -- 4, 6 and 7: at each position of the type section stands a type, and its Circs are of wire types.
  pub type_at : (p : ℕ) → p < type_count f → (A : Ty) × TypeAtPosition f p A × Truth (formed A)
  -- 4, 5 and 8: the term section is one whole term.
  pub term_is_at : TermAt f (first_term f) M (entry_count f)
  pub is_source : Truth (source M)
  -- 5: the labels and gates that the term names are there.
  pub labels_are_below : Truth (labels_below (label_count f) M)
  pub gates_are_known : Truth (gates_known M)
  -- 7: its boxes are of wire types.
  pub boxes_are_wired : Truth (boxes_wired M)
  -- 9: each of its variables has a binder.
  pub closed : Truth (closed_under 0 M)
