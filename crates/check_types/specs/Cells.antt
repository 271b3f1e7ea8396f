-- Types as cells in a list of words. Cell i is the quadword of words 4 * i .. 4 * i + 3: its kind, the cell of its first part,
-- the cell of its second part, and the number of entries of the type, with a mark if it may be copied and dropped.
use Rattle.std.specs.Prelude.{ℕ, ◌+◌, ◌*◌, ◌%◌, ◌≤◌, ◌<◌, ◌≡◌, Bool, true, false, ◌&&◌, cond, List, [], ◌∷◌, length, get_or, eqb, leb}
use Rattle.std.proofs.Math.Option.{Option, none, some}
use Rattle.rules.specs.Kinds.{pair_type_kind, function_kind, reusable_kind, circuit_kind, unit_kind}
use Rattle.rules.specs.Types.{Wire, Ty, wire, unit, ◌⊗◌, ◌⊸◌, !◌, Circ, copyable, entries, most_entries, wire_code}
use Rattle.words.specs.Words.{put_words}
use Rattle.std.specs.Prelude.{Option as RustOption, Some, None}
use Rattle.check_types.specs.declared.Ruling.{Ruling}

abbrev pub cell_kind : List ℕ → ℕ → ℕ
cell_kind w i = get_or w (4 * i) 0

abbrev pub cell_first : List ℕ → ℕ → ℕ
cell_first w i = get_or w (4 * i + 1) 0

abbrev pub cell_second : List ℕ → ℕ → ℕ
cell_second w i = get_or w (4 * i + 2) 0

-- The mark: how much more the fourth word is than the number of entries if the type may be copied and dropped. No type has so
-- many entries, so both are read back from the sum.
abbrev pub copyable_mark : ℕ
copyable_mark = 1024

-- The fourth word of a cell whose type may be copied or not, and has so many entries.
abbrev pub marked : Bool → ℕ → ℕ
marked true size = size + copyable_mark
marked false size = size

abbrev pub cell_size : List ℕ → ℕ → ℕ
cell_size w i = get_or w (4 * i + 3) 0 % copyable_mark

abbrev pub cell_copyable : List ℕ → ℕ → Bool
cell_copyable w i = leb copyable_mark (get_or w (4 * i + 3) 0)

-- May the type of this kind, whose parts are the types of cells a and b, be copied and dropped? By its kind (01: "the reusable
-- kind and Circ"; 02, ticket 5, unit), these being the last kinds; a pair by both halves (02, ticket 2).
abbrev pub copyable_from : List ℕ → ℕ → ℕ → ℕ → Bool
copyable_from w kind a b = cond (eqb kind pair_type_kind) (cell_copyable w a && cell_copyable w b) (leb reusable_kind kind)

-- 01, type section: "0 Bit, 1 Qubit (no parts); 2 pair, 3 function, 5 circuit (two parts); 4 reusable (one)". 02, ticket 5:
-- "type kind 6".
abbrev pub kind_of : Ty → ℕ
kind_of (wire α) = wire_code α
kind_of unit = unit_kind
kind_of (A ⊗ B) = pair_type_kind
kind_of (A ⊸ B) = function_kind
kind_of (! A) = reusable_kind
kind_of (Circ T U) = circuit_kind

-- Cell i is one of the first n cells, has the kind and the number of entries of A, at most 512, and says whether A may be copied.
pub record Cell (w : List ℕ) (n i : ℕ) (A : Ty) : Type 0 where
  pub below : i < n
  pub kind : cell_kind w i ≡ kind_of A
  pub size : cell_size w i ≡ entries A
  pub may_be_copied : cell_copyable w i ≡ copyable A
  pub bounded : entries A ≤ most_entries

-- Cell i, among the first n cells, is the type A: its quadword is A's, and the cells of its parts are the parts of A.
pub data Denotes (w : List ℕ) (n : ℕ) : ℕ → Ty → Type 0 where
  wire_cell : {i : ℕ} {α : Wire} → Cell w n i (wire α) → Denotes w n i (wire α)
  unit_cell : {i : ℕ} → Cell w n i unit → Denotes w n i unit
  pair_cell : {i : ℕ} {A B : Ty}
      → Cell w n i (A ⊗ B) → Denotes w n (cell_first w i) A → Denotes w n (cell_second w i) B
      → Denotes w n i (A ⊗ B)
  function_cell : {i : ℕ} {A B : Ty}
      → Cell w n i (A ⊸ B) → Denotes w n (cell_first w i) A → Denotes w n (cell_second w i) B
      → Denotes w n i (A ⊸ B)
  reusable_cell : {i : ℕ} {A : Ty} → Cell w n i (! A) → Denotes w n (cell_first w i) A → Denotes w n i (! A)
  circuit_cell : {i : ℕ} {T U : Ty}
      → Cell w n i (Circ T U) → Denotes w n (cell_first w i) T → Denotes w n (cell_second w i) U
      → Denotes w n i (Circ T U)

-- C is the type of this kind with the parts A and B.
pub data Made : ℕ → Ty → Ty → Ty → Type 0 where
  made_pair : {A B : Ty} → Made pair_type_kind A B (A ⊗ B)
  made_function : {A B : Ty} → Made function_kind A B (A ⊸ B)
  made_circuit : {T U : Ty} → Made circuit_kind T U (Circ T U)

-- The first n cells are the same: every word below 4 * n.
pub record Agree (w w' : List ℕ) (n : ℕ) : Type 0 where
  pub words_same : (k : ℕ) → k < 4 * n → get_or w' k 0 ≡ get_or w k 0

-- There is room for cell n: cell numbers fit a word, and the quadword stands inside the buffer.
pub record Room (w : List ℕ) (n : ℕ) : Type 0 where
  pub number_fits : n < 65536
  pub room_fits : 4 * n + 4 ≤ length w

-- The answer of a rule's function with this cell and so many cells from then on.
abbrev pub gives : ℕ → ℕ → RustOption Ruling
gives cell cells = Some (record { cell = cell; cells = cells })

-- The answer of a rule's function where the rule gives the type C: the cell of C, and how many cells there are from then
-- on. At most one cell is new; it is cell n, and no other word has changed.
pub record Gave (w w' : List ℕ) (n : ℕ) (C : Ty) (r : RustOption Ruling) : Type 0 where
  pub cell : ℕ
  pub cells : ℕ
  pub answer : r ≡ gives cell cells
  pub at_least : n ≤ cells
  pub at_most : cells ≤ n + 1
  pub agree : Agree w w' n
  pub above : (k : ℕ) → 4 * n + 4 ≤ k → get_or w' k 0 ≡ get_or w k 0
  pub length_kept : length w' ≡ length w
  pub denotes : Denotes w' cells cell C

-- The answer where the rule does not apply: nothing has changed.
pub record Failed (w w' : List ℕ) (r : RustOption Ruling) : Type 0 where
  pub answer : r ≡ None
  pub unchanged : w' ≡ w

-- The contract of the rules' functions: the words before and after, the number of cells before, what the rule gives, and
-- the answer.
abbrev pub Given : List ℕ → List ℕ → ℕ → Option Ty → RustOption Ruling → Type 0
Given w w' n none r = Failed w w' r
Given w w' n (some C) r = Gave w w' n C r

-- The function of a rule of one part, whose cell is a, and of a rule of two parts, whose cells are a and b, meets the rule:
-- for all types that these cells denote.
abbrev pub MeetsOne : (Ty → Option Ty) → List ℕ → List ℕ → ℕ → ℕ → RustOption Ruling → Type 0
MeetsOne rule w w' n a r = Room w n → (A : Ty) → Denotes w n a A → Given w w' n (rule A) r

abbrev pub MeetsTwo : (Ty → Ty → Option Ty) → List ℕ → List ℕ → ℕ → ℕ → ℕ → RustOption Ruling → Type 0
MeetsTwo rule w w' n a b r =
    Room w n → (A B : Ty) → Denotes w n a A → Denotes w n b B → Given w w' n (rule A B) r

-- The words of a cell of this kind with two parts, and of a reusable type.
abbrev pub cell_of_two : List ℕ → ℕ → ℕ → ℕ → List ℕ
cell_of_two w kind a b = kind ∷ a ∷ b ∷ marked (copyable_from w kind a b) (1 + cell_size w a + cell_size w b) ∷ []

abbrev pub cell_of_reusable : List ℕ → ℕ → List ℕ
cell_of_reusable w a = 4 ∷ a ∷ 0 ∷ marked true (1 + cell_size w a) ∷ []

-- The bytes after a rule's function with this answer: cell n has these words where the rule gives it; else nothing changes.
abbrev pub after_rule : RustOption Ruling → List ℕ → ℕ → List ℕ → List ℕ
after_rule (Some r) m n vs = put_words 4 m n vs
after_rule None m n vs = m

-- The parts that were found, if there are any.
abbrev pub PartsAre : ℕ → ℕ → RustOption (ℕ × ℕ) → Type 0
PartsAre a b (Some p) = (p.0 ≡ a) × (p.1 ≡ b)
PartsAre a b None = Unit {0}

-- The answer of the function that looks for the parts of a pair: their cells denote them.
pub record BothGiven (w : List ℕ) (n : ℕ) (A B : Ty) (r : RustOption (ℕ × ℕ)) : Type 0 where
  pub first : ℕ
  pub second : ℕ
  pub answer : r ≡ Some (first, second)
  pub first_denotes : Denotes w n first A
  pub second_denotes : Denotes w n second B

abbrev pub PartsGiven : List ℕ → ℕ → Option (Ty × Ty) → RustOption (ℕ × ℕ) → Type 0
PartsGiven w n none r = r ≡ None
PartsGiven w n (some p) r = BothGiven w n p.0 p.1 r
