-- The contracts of the functions that check a term on bytes.
use Rattle.std.specs.Prelude.{ℕ, ◌+◌, ◌*◌, ◌≤◌, ◌≡◌, Bool, true, false, cond, List, T as Truth, eqb, length, set}
use Rattle.std.specs.Prelude.{Option as RustOption, Some, None, Result, Ok, Err}
use Rattle.std.specs.Option.{option_or}
use Rattle.std.proofs.Math.Option.{Option, none, some}
use Rattle.rules.specs.Kinds.{label_kind, abstraction_kind, let_kind, lift_kind}
use Rattle.rules.specs.Types.{Wire, Ty}
use Rattle.rules.specs.Terms.{Term}
use Rattle.rules.specs.Sizes.{nodes, most_labels}
use Rattle.rules.specs.Inference.{as_pair}
use Rattle.program.specs.Format.{entry_count, kind_at, argument_at}
use Rattle.program.specs.Trees.{TermAt, closed_under, labels_below, gates_known}
use Rattle.refusals.specs.declared.Refusal.{Refusal}
use Rattle.refusals.specs.declared.Refusal.TheVariants.{Typing}
use Rattle.check_types.specs.declared.Ruling.{Ruling}
use Rattle.check_types.specs.Cells.{Denotes, Room, Given}
use Rattle.check_program.specs.declared.Typed.{Typed}
use Rattle.check_program.specs.Checking.{Binder, Checked, typed, fault, check_term, used_wrongly, if_so, crosses}
use Rattle.words.specs.Found.{option_of}
use Rattle.check_program.specs.Layout.{binding_cell, binding_uses, type_cell, counted, variable_binding}
use Rattle.check_program.specs.Layout.{most_binders, most_cells}
use Rattle.check_program.specs.Scope.{Binding, type_of, lifts_of, Environment, Kept, pushed}
use Rattle.check_program.specs.Heads.{OnePart, of_abstraction, of_lift, of_force, of_box, one_kind, one_rule}
use Rattle.check_program.specs.Heads.{misuse_at_abstraction, TwoParts, of_application, of_pair, of_let, of_apply}
use Rattle.check_program.specs.Heads.{two_kind, two_rule, misuse_at_let}
use Rattle.program.specs.Sized.{most_file_entries}

-- What is found in a term that has a type.
abbrev pub typed_as : ℕ → ℕ → ℕ → RustOption ℕ → RustOption ℕ → Typed
typed_as cell next cells unused crossing = record { cell = cell; next = next; cells = cells; unused = unused; crossing = crossing }

-- The answer for a term: what is found in it, or its first 16.
abbrev pub Inferred : Type 0
Inferred = Result Typed Refusal

-- 16, at the entry of a node whose rule gives no type.
abbrev pub no_rule : ℕ → Refusal
no_rule e = Typing 16 e

-- What is known where a term M is to be checked: it stands in the entries e to n − 1 of an accepted file, under the binders
-- Γ and so many lifts; the memory is ready, and there is room for what its nodes need.
pub record Ready (f w : List ℕ) (e binders lifts cells : ℕ) (L : List Wire) (Γ : List Binder) (M : Term) (n : ℕ)
    : Type 0 where
  pub length_is : length f ≡ 6 + 3 * entry_count f
  pub entries_fit : entry_count f ≤ most_file_entries
  pub term_is_at : TermAt f e M n
  pub ends : n ≤ entry_count f
  pub closed : Truth (closed_under (length Γ) M)
  pub labels_are_below : Truth (labels_below (length L) M)
  pub gates_are_known : Truth (gates_known M)
  pub binders_are : binders ≡ length Γ
  pub cells_fit : cells + nodes M ≤ most_cells
  pub binders_fit : length Γ + 2 * nodes M ≤ most_binders
  pub lifts_fit : lifts + nodes M ≤ most_binders
  pub environment : Environment f w e cells L Γ

-- The answer where M has the type A, with its first 17 and 18: the cell denotes A, at most one cell a node is new, and of
-- the memory all is kept that was there, with the uses in M counted.
pub record Gets (w w' : List ℕ) (cells : ℕ) (Γ : List Binder) (M : Term) (n : ℕ) (A : Ty) (u v : Option ℕ) (r : Inferred)
    : Type 0 where
  pub cell : ℕ
  pub cells' : ℕ
  pub answer : r ≡ Ok (typed_as cell n cells' (option_of u) (option_of v))
  pub at_least : cells ≤ cells'
  pub at_most : cells' ≤ cells + nodes M
  pub denotes : Denotes w' cells' cell A
  pub kept : Kept w w' cells (most_labels + length Γ) (λ i. counted (length Γ) i M)

-- The answer is what the check finds.
abbrev pub Answered : List ℕ → List ℕ → ℕ → List Binder → Term → ℕ → Checked → Inferred → Type 0
Answered w w' cells Γ M n (typed A u v) r = Gets w w' cells Γ M n A u v r
Answered w w' cells Γ M n (fault p) r = r ≡ Err (no_rule p)

-- Some term is there to be checked; and whatever term it is, the answer is what the check finds in it.
abbrev pub Possible : List ℕ → List ℕ → ℕ → ℕ → ℕ → ℕ → Type 0
Possible f w e binders lifts cells =
    (L : List Wire) × (Γ : List Binder) × (M : Term) × (n : ℕ) × Ready f w e binders lifts cells L Γ M n

abbrev pub Meets : List ℕ → List ℕ → List ℕ → ℕ → ℕ → ℕ → ℕ → Inferred → Type 0
Meets f w w' e binders lifts cells r =
    (L : List Wire) (Γ : List Binder) (M : Term) (n : ℕ)
    → Ready f w e binders lifts cells L Γ M n
    → Answered w w' cells Γ M n (check_term L Γ lifts e M) r

-- What a rule's answer makes of a node.
abbrev pub concludes : RustOption Ruling → ℕ → ℕ → RustOption ℕ → RustOption ℕ → Inferred
concludes (Some ruling) e next unused crossing = Ok (typed_as ruling.cell next ruling.cells unused crossing)
concludes None e next unused crossing = Err (no_rule e)

-- The memory before the first part of a node is looked at: an abstraction pushes its binder.
unfoldable pub entered : List ℕ → List ℕ → ℕ → ℕ → ℕ → List ℕ
entered f w e binders lifts =
    cond (eqb (kind_at f e) abstraction_kind) (pushed w binders (type_cell f (argument_at f e)) lifts) w

-- How many binders and lifts are around the first part of a node of a kind.
abbrev pub binders_inside : ℕ → ℕ → ℕ
binders_inside kind binders = cond (eqb kind abstraction_kind) (binders + 1) binders

abbrev pub lifts_inside : ℕ → ℕ → ℕ
lifts_inside kind lifts = cond (eqb kind lift_kind) (lifts + 1) lifts

-- And how many binders around its second part.
abbrev pub binders_after : ℕ → ℕ → ℕ
binders_after kind binders = cond (eqb kind let_kind) (binders + 2) binders

-- The binding that a variable or a label names; and the memory with one more use of a binding.
unfoldable pub binding_at : List ℕ → ℕ → ℕ → ℕ
binding_at f e binders = cond (eqb (kind_at f e) label_kind) (argument_at f e) (variable_binding binders (argument_at f e))

abbrev pub used_once : List ℕ → ℕ → List ℕ
used_once w i = set w (4 * (most_cells + i) + 2) (binding_uses w i + 1)

-- A variable or a label in binding i is used at entry e: it has its type, its uses are counted, and it may cross a lift.
pub record Used (w w' : List ℕ) (i e lifts cells : ℕ) (b : Binder) (r : Typed) : Type 0 where
  pub words_are : w' ≡ used_once w i
  pub answer : r ≡ typed_as (binding_cell w i) (e + 1) cells None (option_of (if_so (crosses (type_of b) (lifts_of b) lifts) e))

abbrev pub SaysUsed : List ℕ → List ℕ → ℕ → ℕ → ℕ → ℕ → Typed → Type 0
SaysUsed w w' i e lifts cells r = (n : ℕ) (b : Binder) → Binding w n i b → Used w w' i e lifts cells b r

-- The 17 of a binder in a binding, if its node is at e.
abbrev pub SaysUsedWrongly : List ℕ → ℕ → ℕ → RustOption ℕ → Type 0
SaysUsedWrongly w i e r =
    (n : ℕ) (A : Ty) → Denotes w n (binding_cell w i) A → r ≡ option_of (if_so (used_wrongly A (binding_uses w i)) e)

-- The 18 of a use at e, under so many lifts, of what is bound under so many.
abbrev pub SaysCrosses : List ℕ → ℕ → ℕ → ℕ → ℕ → RustOption ℕ → Type 0
SaysCrosses w cell bound lifts e r =
    (n : ℕ) (A : Ty) → Denotes w n cell A → r ≡ option_of (if_so (crosses A bound lifts) e)

-- The cell of the type that an entry names, if it names one, denotes it.
abbrev pub NamedCell : List ℕ → List ℕ → ℕ → ℕ → OnePart → Type 0
NamedCell f w cells e (of_abstraction A) = Denotes w cells (type_cell f (argument_at f e)) A
NamedCell f w cells e of_lift = Unit {0}
NamedCell f w cells e of_force = Unit {0}
NamedCell f w cells e (of_box T) = Denotes w cells (type_cell f (argument_at f e)) T

-- The binding of the variable that a node of one part binds, if it binds one, holds its type.
abbrev pub NewBinding : List ℕ → ℕ → ℕ → OnePart → Type 0
NewBinding w cells binders (of_abstraction A) = Denotes w cells (binding_cell w (most_labels + binders)) A
NewBinding w cells binders of_lift = Unit {0}
NewBinding w cells binders of_force = Unit {0}
NewBinding w cells binders (of_box T) = Unit {0}

-- The rule of a node of one part, and the 17 of the node itself.
abbrev pub SaysOneRule : List ℕ → List ℕ → List ℕ → ℕ → ℕ → ℕ → RustOption Ruling → Type 0
SaysOneRule f w w' e cells cell r =
    (h : OnePart) (A : Ty)
    → kind_at f e ≡ one_kind h → Room w cells → NamedCell f w cells e h → Denotes w cells cell A
    → Given w w' cells (one_rule h A) r

abbrev pub SaysMisuseAtAbstraction : List ℕ → List ℕ → ℕ → ℕ → RustOption ℕ → Type 0
SaysMisuseAtAbstraction f w e binders r =
    (h : OnePart) (n : ℕ)
    → kind_at f e ≡ one_kind h → NewBinding w n binders h
    → r ≡ option_of (misuse_at_abstraction h (binding_uses w (most_labels + binders)) e)

-- A rule has been applied at a node: what it gives, with the first 17 and 18.
pub record Ended (w w' : List ℕ) (cells e next : ℕ) (o : Option Ty) (unused crossing : RustOption ℕ) (r : Inferred) : Type 0 where
  pub ruling : RustOption Ruling
  pub given : Given w w' cells o ruling
  pub answer : r ≡ concludes ruling e next unused crossing

-- The end of a node of one part, with what is found in its part.
abbrev pub EndsOne : List ℕ → List ℕ → List ℕ → ℕ → ℕ → Typed → Inferred → Type 0
EndsOne f w w' e binders part r =
    (h : OnePart) (A : Ty)
    → kind_at f e ≡ one_kind h → Room w part.cells → NamedCell f w part.cells e h → NewBinding w part.cells binders h
    → Denotes w part.cells part.cell A
    → Ended w w' part.cells e part.next (one_rule h A)
    (option_or (option_of (misuse_at_abstraction h (binding_uses w (most_labels + binders)) e)) part.unused) part.crossing r

-- Before the second part of a node: let takes the pair type of the first part apart and pushes a binder for each half.
pub record BothPushed (w w' : List ℕ) (binders lifts cells : ℕ) (p : Ty × Ty) (r : Bool) : Type 0 where
  pub first : ℕ
  pub second : ℕ
  pub answer : r ≡ true
  pub first_denotes : Denotes w cells first p.0
  pub second_denotes : Denotes w cells second p.1
  pub words_are : w' ≡ pushed (pushed w binders first lifts) (binders + 1) second lifts

abbrev pub Halved : List ℕ → List ℕ → ℕ → ℕ → ℕ → Option (Ty × Ty) → Bool → Type 0
Halved w w' binders lifts cells none r = r ≡ false
Halved w w' binders lifts cells (some p) r = BothPushed w w' binders lifts cells p r

pub record Untouched (w w' : List ℕ) (r : Bool) : Type 0 where
  pub answer : r ≡ true
  pub words_are : w' ≡ w

abbrev pub Passed : TwoParts → List ℕ → List ℕ → ℕ → ℕ → ℕ → Ty → Bool → Type 0
Passed of_application w w' binders lifts cells A r = Untouched w w' r
Passed of_pair w w' binders lifts cells A r = Untouched w w' r
Passed of_let w w' binders lifts cells A r = Halved w w' binders lifts cells (as_pair A) r
Passed of_apply w w' binders lifts cells A r = Untouched w w' r

abbrev pub SaysBetween : List ℕ → List ℕ → List ℕ → ℕ → ℕ → ℕ → ℕ → Bool → Type 0
SaysBetween f w w' e binders lifts cell r =
    (h : TwoParts) (n : ℕ) (A : Ty)
    → kind_at f e ≡ two_kind h → Denotes w n cell A
    → Passed h w w' binders lifts n A r

-- The bindings of the variables that a node of two parts binds, if it binds any, hold the types of the halves, which are
-- there.
abbrev pub HalfBindings : List ℕ → ℕ → ℕ → Option (Ty × Ty) → Type 0
HalfBindings w cells binders none = ⊥
HalfBindings w cells binders (some p) =
    Denotes w cells (binding_cell w (most_labels + binders)) p.0 × Denotes w cells (binding_cell w (most_labels + (binders + 1))) p.1

abbrev pub NewBindings : List ℕ → ℕ → ℕ → TwoParts → Ty → Type 0
NewBindings w cells binders of_application A = Unit {0}
NewBindings w cells binders of_pair A = Unit {0}
NewBindings w cells binders of_let A = HalfBindings w cells binders (as_pair A)
NewBindings w cells binders of_apply A = Unit {0}

-- The rule of a node of two parts, and the 17 of the node itself.
abbrev pub SaysTwoRule : List ℕ → List ℕ → List ℕ → ℕ → ℕ → ℕ → ℕ → RustOption Ruling → Type 0
SaysTwoRule f w w' e cells first second r =
    (h : TwoParts) (A B : Ty)
    → kind_at f e ≡ two_kind h → Room w cells → Denotes w cells first A → Denotes w cells second B
    → Given w w' cells (two_rule h A B) r

abbrev pub SaysMisuseAtLet : List ℕ → List ℕ → ℕ → ℕ → RustOption ℕ → Type 0
SaysMisuseAtLet f w e binders r =
    (h : TwoParts) (n : ℕ) (A : Ty)
    → kind_at f e ≡ two_kind h → NewBindings w n binders h A
    → r ≡ option_of (misuse_at_let h A (binding_uses w (most_labels + binders)) (binding_uses w (most_labels + (binders + 1))) e)

-- The end of a node of two parts, with what is found in them.
abbrev pub EndsTwo : List ℕ → List ℕ → List ℕ → ℕ → ℕ → Typed → Typed → Inferred → Type 0
EndsTwo f w w' e binders first second r =
    (h : TwoParts) (A B : Ty)
    → kind_at f e ≡ two_kind h → Room w second.cells → NewBindings w second.cells binders h A
    → Denotes w second.cells first.cell A → Denotes w second.cells second.cell B
    → Ended w w' second.cells e second.next (two_rule h A B)
    (option_or (option_of (misuse_at_let h A (binding_uses w (most_labels + binders)) (binding_uses w (most_labels + (binders + 1))) e)) (option_or first.unused second.unused))
    (option_or first.crossing second.crossing) r
