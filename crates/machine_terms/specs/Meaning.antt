-- The term of the rules that a tree means.
use Rattle.std.specs.Prelude.{ℕ, cond, List, [], ◌∷◌, eqb, length}
use Rattle.rules.specs.Types.{Bit, Ty, wire}
use Rattle.rules.specs.Terms.{single, Boxed, boxed, Term, variable, label, gate, constant, abstraction, application, pair}
use Rattle.rules.specs.Terms.{let_in, lift, force, box, apply, unit_value}
use Rattle.machine_terms.specs.Trees.{kind, argument, Tree, leaf, one, two, LeafKind, a_variable, a_label, a_gate}
use Rattle.machine_terms.specs.Trees.{a_constant, leaf_kind, OneKind, an_abstraction, a_lift, a_force, a_box, one_kind}
use Rattle.machine_terms.specs.Trees.{TwoKind, an_application, a_pair, a_let, an_apply, two_kind, a_unit_value}

-- What arguments stand for: the type at a type position, the closed circuit with a number.
pub record Environment : Type 0 where
  pub type_at : ℕ → Ty
  pub closed_at : ℕ → Boxed

-- The closed circuit with number i, the first closed being 0. The list has the latest first, as in a configuration.
abbrev pub circuit_at : List Boxed → ℕ → Boxed
circuit_at [] i = boxed (wire Bit) [] (single 0)
circuit_at (b ∷ bs) i = cond (eqb i (length bs)) b (circuit_at bs i)

-- The environment of a program with these types, once these circuits are closed.
abbrev pub environment : (ℕ → Ty) → List Boxed → Environment
environment types closed = record { type_at = types; closed_at = circuit_at closed }

-- The term of a node without parts: argument a, and the closed circuit with that number.
abbrev pub leaf_term : LeafKind → ℕ → Boxed → Term
leaf_term a_variable a b = variable a
leaf_term a_label a b = label a
leaf_term a_gate a b = gate a
leaf_term a_unit_value a b = unit_value
leaf_term a_constant a b = constant b

-- The term of a node with one part: the type at its argument, and the term of its part.
abbrev pub one_term : OneKind → Ty → Term → Term
one_term an_abstraction A M = abstraction A M
one_term a_lift A M = lift M
one_term a_force A M = force M
one_term a_box A M = box A M

-- The term of a node with two parts.
abbrev pub two_term : TwoKind → Term → Term → Term
two_term an_application M N = application M N
two_term a_pair M N = pair M N
two_term a_let M N = let_in M N
two_term an_apply M N = apply M N

-- The term that a tree means.
abbrev pub meaning : Environment → Tree → Term
meaning e (leaf n) = leaf_term (leaf_kind (kind n)) (argument n) (e.closed_at (argument n))
meaning e (one n t) = one_term (one_kind (kind n)) (e.type_at (argument n)) (meaning e t)
meaning e (two n t u) = two_term (two_kind (kind n)) (meaning e t) (meaning e u)
