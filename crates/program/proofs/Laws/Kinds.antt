-- What the kind of an entry says: which numbers are kinds of a section, and the shape that they give an entry.
use Rattle.std.specs.Prelude.{ℕ, ◌≤◌, ◌<◌, ◌≡◌, refl, Bool, true, false, cond, not, List, T as Truth, eqb, leb, Option, None, is_some}
use Rattle.std.proofs.Common.{sym, ap, subst, arith, lt-ltb, le-ltb, le-leb, leb-true}
use Rattle.std.proofs.Math.Decide.{dec_le}
use Rattle.rules.specs.Kinds.{pair_type_kind, function_kind, reusable_kind, circuit_kind, unit_kind, variable_kind, label_kind}
use Rattle.rules.specs.Kinds.{abstraction_kind, application_kind, pair_kind, let_kind, lift_kind, force_kind, box_kind}
use Rattle.rules.specs.Kinds.{apply_kind, gate_term_kind, unit_value_kind}
use Rattle.rules.proofs.Laws.Ranges.{◌and◌, no_more, in_range}
use Rattle.program.specs.Format.{known}
use Rattle.program.specs.Format.{label_count, type_count, first_term, kind_at, label_shape, type_shape, term_shape, shape_at}
use Rattle.program.specs.Format.{shape_allows, argument_at}
use Rattle.program.specs.Reading.{kind_wrong, argument_wrong}
use Rattle.program.proofs.Laws.Scans.{no_types, no_terms_below, no_terms_above}
use Rattle.program.specs.declared.format.Argument.TheVariants.{Zero}
use Rattle.program.specs.declared.format.Shape.{Shape}

-- A test that holds is true, and the other way round.
pub of_true : (b : Bool) → b ≡ true → Truth b
of_true b h = subst Truth (sym h) tt

-- The kinds of the type section.
pub data TypeKind (k : ℕ) : Type 0 where
  is_bit : k ≡ 0 → TypeKind k
  is_qubit : k ≡ 1 → TypeKind k
  is_tensor : k ≡ pair_type_kind → TypeKind k
  is_function : k ≡ function_kind → TypeKind k
  is_reusable : k ≡ reusable_kind → TypeKind k
  is_circ : k ≡ circuit_kind → TypeKind k
  is_unit : k ≡ unit_kind → TypeKind k

-- The kinds of the term section.
pub data TermKind (k : ℕ) : Type 0 where
  is_variable : k ≡ variable_kind → TermKind k
  is_label : k ≡ label_kind → TermKind k
  is_abstraction : k ≡ abstraction_kind → TermKind k
  is_application : k ≡ application_kind → TermKind k
  is_pair : k ≡ pair_kind → TermKind k
  is_let : k ≡ let_kind → TermKind k
  is_lift_lem : k ≡ lift_kind → TermKind k
  is_force : k ≡ force_kind → TermKind k
  is_box : k ≡ box_kind → TermKind k
  is_apply : k ≡ apply_kind → TermKind k
  is_gate_lem : k ≡ gate_term_kind → TermKind k
  is_unit_value : k ≡ unit_value_kind → TermKind k

-- A shape that is known is one.
unknown_not : (s : Option Shape) → Truth (is_some s) → s ≡ None → ⊥
unknown_not s h q = subst (λ t. Truth (is_some t)) q h

type_range : (k : ℕ) → Truth (is_some (type_shape k)) → k ≤ unit_kind
type_range k h = go (dec_le k unit_kind)
  where
    go : Dec (k ≤ unit_kind) → k ≤ unit_kind
    go (yes q) = q
    go (no n) = absurd (unknown_not (type_shape k) h (no_types k (omega (arith, n))))

-- An entry of the type section with a known shape has one of the seven kinds.
pub type_kind : (k : ℕ) → Truth (is_some (type_shape k)) → TypeKind k
type_kind k h =
    in_range TypeKind 0 7
    (is_bit refl
    and is_qubit refl
    and is_tensor refl
    and is_function refl
    and is_reusable refl
    and is_circ refl
    and is_unit refl
    and no_more)
    k
    (omega arith)
    (omega (arith, type_range k h))

term_range : (k : ℕ) → Truth (is_some (term_shape k)) → (variable_kind ≤ k) × (k ≤ unit_value_kind)
term_range k h = (go (dec_le variable_kind k), go' (dec_le k unit_value_kind))
  where
    go : Dec (variable_kind ≤ k) → variable_kind ≤ k
    go (yes q) = q
    go (no n) = absurd (unknown_not (term_shape k) h (no_terms_below k (omega (arith, n))))

    go' : Dec (k ≤ unit_value_kind) → k ≤ unit_value_kind
    go' (yes q) = q
    go' (no n) = absurd (unknown_not (term_shape k) h (no_terms_above k (omega (arith, n))))

-- An entry of the term section with a known shape has one of the twelve kinds.
pub term_kind : (k : ℕ) → Truth (is_some (term_shape k)) → TermKind k
term_kind k h =
    let r = term_range k h in
    in_range TermKind variable_kind 12
    (is_variable refl
    and is_label refl
    and is_abstraction refl
    and is_application refl
    and is_pair refl
    and is_let refl
    and is_lift_lem refl
    and is_force refl
    and is_box refl
    and is_apply refl
    and is_gate_lem refl
    and is_unit_value refl
    and no_more)
    k
    r.0
    (omega (arith, r.1))

-- An entry of the label section with a known shape is Bit or Qubit.
pub label_range : (k : ℕ) → Truth (is_some (label_shape k)) → k ≤ 1
unfolding label_shape
label_range k h = go (leb k 1) refl
  where
    go : (b : Bool) → leb k 1 ≡ b → k ≤ 1
    go true q = leb-true k 1 q
    go false q = absurd (subst (λ (b : Bool). Truth (is_some (cond b (known 0 Zero) None))) q h)

-- The shape of an entry in its section.
pub shape_of_label : (f : List ℕ) (e : ℕ) → e < label_count f → shape_at f e ≡ label_shape (kind_at f e)
unfolding shape_at
shape_of_label f e h = rw (lt-ltb e (label_count f) h) refl

pub shape_of_type : (f : List ℕ) (e : ℕ) → label_count f ≤ e → e < first_term f → shape_at f e ≡ type_shape (kind_at f e)
unfolding shape_at
shape_of_type f e h k = rw (le-ltb e (label_count f) h, lt-ltb e (first_term f) k) refl

pub shape_of_term : (f : List ℕ) (e : ℕ) → first_term f ≤ e → shape_at f e ≡ term_shape (kind_at f e)
unfolding shape_at
shape_of_term f e h =
    let k : label_count f ≤ e = omega arith in rw (le-ltb e (label_count f) k, le-ltb e (first_term f) h) refl

pub ruleset section_shapes = (shape_of_label, shape_of_type, shape_of_term)

-- A kind of the label or the type section asks for the argument 0.
pub label_shape_zero : (k : ℕ) → k ≤ 1 → label_shape k ≡ known 0 Zero
unfolding label_shape
label_shape_zero k h = ap (λ b. cond b (known 0 Zero) None) (le-leb k 1 h)

pub type_shape_zero : (k : ℕ) → TypeKind k → (parts : ℕ) × (type_shape k ≡ known parts Zero)
unfolding type_shape
type_shape_zero k (is_bit h) = (0, ap type_shape h)
type_shape_zero k (is_qubit h) = (0, ap type_shape h)
type_shape_zero k (is_tensor h) = (2, ap type_shape h)
type_shape_zero k (is_function h) = (2, ap type_shape h)
type_shape_zero k (is_reusable h) = (1, ap type_shape h)
type_shape_zero k (is_circ h) = (2, ap type_shape h)
type_shape_zero k (is_unit h) = (0, ap type_shape h)

-- An entry of such a shape has a right kind, and its argument is right exactly if it is 0.
pub zero_shape_kind : (f : List ℕ) (e parts : ℕ) → shape_at f e ≡ known parts Zero → kind_wrong f e ≡ false
unfolding kind_wrong
zero_shape_kind f e parts h = ap (λ s. not (is_some s)) h

pub zero_shape_argument : (f : List ℕ) (e parts : ℕ)
    → shape_at f e ≡ known parts Zero
    → argument_wrong f e ≡ not (eqb (argument_at f e) 0)
unfolding argument_wrong
zero_shape_argument f e parts h = ap (λ s. not (shape_allows (label_count f) (type_count f) s (argument_at f e))) h
