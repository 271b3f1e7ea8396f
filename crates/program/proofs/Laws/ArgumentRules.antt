-- Laws of specs/ArgumentRules.antt: what a shape says, by its rule and the table of parts.
use Rattle.std.specs.Prelude.{ℕ, ◌≡◌, Bool, List, leb, ltb, Option, Some, None, is_some}
use Rattle.std.proofs.Common.{arith, sym, ◌∙◌, ap, subst, leb-true, leb-false}
use Rattle.std.proofs.Math.Path.{refl}
use Rattle.std.proofs.Math.Bool.{true, false, cond}
use Rattle.rules.specs.Kinds.{qubit_kind, unit_kind, variable_kind, unit_value_kind}
use Rattle.rules.specs.Parts.{parts_of_kind}
use Rattle.rules.proofs.Laws.Ranges.{◌and◌, no_more, in_range}
use Rattle.program.specs.Format.{known}
use Rattle.program.specs.Format.{label_count, first_term, kind_at, label_shape, type_shape, term_shape, shape_at}
use Rattle.program.specs.Format.{shape_allows}
use Rattle.program.specs.ArgumentRules.{rule_of, rule_allows}
use Rattle.program.proofs.Laws.Scans.{label_shapes, type_shapes, no_types, no_terms_below, no_terms_above}
use Rattle.program.specs.declared.format.Argument.{Argument}
use Rattle.program.specs.declared.format.Argument.TheVariants.{Zero}
use Rattle.program.specs.declared.format.Shape.{Shape}

-- A shape is there exactly if its rule is.
pub known_by_rule : (s : Option Shape) → is_some s ≡ is_some (rule_of s)
known_by_rule (Some shape) = refl
known_by_rule None = refl

pub allows_by_rule : (labels types a : ℕ) (s : Option Shape) → shape_allows labels types s a ≡ rule_allows labels types (rule_of s) a
allows_by_rule labels types a (Some shape) = refl
allows_by_rule labels types a None = refl

Some-same : {a b : Argument} → ◌≡◌ {A = Option Argument} (Some a) (Some b) → a ≡ b
Some-same h = cc

some_not_none : {a : Argument} → ◌≡◌ {A = Option Argument} None (Some a) → ⊥
some_not_none h = let z : ◌≡◌ {A = ℕ} 0 1 = cc in omega arith

-- The shape of a kind has the parts that the table has for it.
data HasTableParts (k : ℕ) : Option Shape → Type 0 where
  table_parts : (a : Argument) → HasTableParts k (known (parts_of_kind k) a)
  no_parts : HasTableParts k None

label_parts : (k : ℕ) → HasTableParts k (label_shape k)
unfolding label_shape
label_parts k = go (leb k qubit_kind) refl
  where
    go : (b : Bool) → leb k qubit_kind ≡ b → HasTableParts k (label_shape k)
    go true e = subst (HasTableParts k) (sym (label_shapes k (leb-true k qubit_kind e))) (table_parts _)
    go false e = subst (λ b. HasTableParts k (cond b (known 0 Zero) None)) (sym e) no_parts

type_parts_lem : (k : ℕ) → HasTableParts k (type_shape k)
type_parts_lem k = go (leb k unit_kind) refl
  where
    go : (b : Bool) → leb k unit_kind ≡ b → HasTableParts k (type_shape k)
    go true e = subst (HasTableParts k) (sym (type_shapes k (leb-true k unit_kind e))) (table_parts _)
    go false e = subst (HasTableParts k) (sym (no_types k (leb-false k unit_kind e))) no_parts

term_parts_lem : (k : ℕ) → HasTableParts k (term_shape k)
unfolding term_shape parts_of_kind
term_parts_lem k = go (leb variable_kind k) (leb k unit_value_kind) refl refl
  where
    go : (b c : Bool) → leb variable_kind k ≡ b → leb k unit_value_kind ≡ c → HasTableParts k (term_shape k)
    go false c least most = subst (HasTableParts k) (sym (no_terms_below k (leb-false variable_kind k least))) no_parts
    go true false least most = subst (HasTableParts k) (sym (no_terms_above k (leb-false k unit_value_kind most))) no_parts
    go true true least most =
        let from = leb-true variable_kind k least in
        let to = leb-true k unit_value_kind most in
        in_range (λ k. HasTableParts k (term_shape k)) variable_kind 12
        (table_parts _
        and table_parts _
        and table_parts _
        and table_parts _
        and table_parts _
        and table_parts _
        and table_parts _
        and table_parts _
        and table_parts _
        and table_parts _
        and table_parts _
        and table_parts _
        and no_more)
        k
        from
        (omega arith)

parts_shape : (k : ℕ) (s : Option Shape) → HasTableParts k s → (a : Argument) → rule_of s ≡ Some a → known (parts_of_kind k) a ≡ s
parts_shape k s (table_parts b) a is = ap (λ a. known (parts_of_kind k) a) (Some-same (sym is))
parts_shape k s no_parts a is = absurd (some_not_none is)

-- The shape of an entry whose kind and rule are known.
parts_here : (f : List ℕ) (e : ℕ) → HasTableParts (kind_at f e) (shape_at f e)
unfolding shape_at
parts_here f e = go (ltb e (label_count f)) (ltb e (first_term f))
  where
    go : (b c : Bool)
        → HasTableParts (kind_at f e) (cond b (label_shape (kind_at f e)) (cond c (type_shape (kind_at f e)) (term_shape (kind_at f e))))
    go true c = label_parts (kind_at f e)
    go false true = type_parts_lem (kind_at f e)
    go false false = term_parts_lem (kind_at f e)

pub shape_of_rule
    : (f : List ℕ) (e : ℕ) {k : ℕ} {a : Argument} → k ≡ kind_at f e → rule_of (shape_at f e) ≡ Some a
    → known (parts_of_kind k) a ≡ shape_at f e
shape_of_rule f e {a = a} is rule =
    ap (λ k. known (parts_of_kind k) a) is ∙ parts_shape (kind_at f e) (shape_at f e) (parts_here f e) a rule
