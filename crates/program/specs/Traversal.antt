-- Reading in preorder, and the first entry at which a test fails.
use Rattle.std.specs.Prelude.{ℕ, zero, suc, ◌+◌, Bool, cond, Option, Some, None, Result, Ok, Err, List, [], ◌∷◌, eqb, leb, ltb}
use Rattle.rules.specs.Kinds.{qubit_kind, pair_type_kind, unit_kind, variable_kind, abstraction_kind, let_kind}
use Rattle.program.specs.Format.{kind_at, argument_at, shape_at}
use Rattle.program.specs.declared.format.Shape.{Shape}
use Rattle.program.specs.declared.traversal.Parts.{Parts}
use Rattle.program.specs.declared.traversal.Parts.TheVariants.{Leaf, One, Two, Stop}
use Rattle.program.specs.declared.traversal.Halt.{Halt}
use Rattle.program.specs.declared.traversal.Halt.TheVariants.{Stopped, Out}

-- What a traversal looks at: where a type or term ends, whether a type is a wire type, whether a term's variables are bound.
pub data Subject : Type 0 where
  End : Subject
  WireType : Subject
  Scope : Subject

-- The first of n entries from e on at which a test fails.
abbrev pub first_from : (ℕ → Bool) → ℕ → ℕ → Option ℕ
first_from fails e zero = None
first_from fails e (suc n) = let later = first_from fails (suc e) n in cond (fails e) (Some e) later

-- The parts that follow an entry of this shape, each under the same number of binders.
abbrev pub parts_of : Option Shape → ℕ → Parts
parts_of (Some shape) binders =
    cond (eqb shape.parts 0) Leaf (cond (eqb shape.parts 1) (One binders) (Two binders binders))
parts_of None binders = Stop

-- 01: "Wire types are Bit, Qubit and pairs of wire types". 02, ticket 5: "Unit is a wire type".
abbrev pub wire_parts : ℕ → Parts
wire_parts k =
    cond (leb k qubit_kind) Leaf (cond (eqb k pair_type_kind) (Two 0 0) (cond (eqb k unit_kind) Leaf Stop))

-- 01: "A variable's argument counts the binders between it and its own. Let binds two in its second part". An
-- abstraction binds one in its part. A variable with no binder stops the traversal.
abbrev pub scope_parts : List ℕ → ℕ → ℕ → Parts
scope_parts f e binders =
    cond (eqb (kind_at f e) variable_kind) (cond (ltb (argument_at f e) binders) Leaf Stop)
    (cond (eqb (kind_at f e) abstraction_kind) (One (binders + 1))
    (cond (eqb (kind_at f e) let_kind) (Two binders (binders + 2)) (parts_of (shape_at f e) binders)))

-- The parts that follow entry e, by what is read: a type or a term, a wire type, or a term with its binders.
abbrev pub parts_at : Subject → List ℕ → ℕ → ℕ → Parts
parts_at End f e binders = parts_of (shape_at f e) binders
parts_at WireType f e binders = wire_parts (kind_at f e)
parts_at Scope f e binders = scope_parts f e binders

-- 01: "The type at a position is read in preorder from there", and so is the term: from entry e with this many entries
-- left in the section, the parts that are waited for stand one behind the other, up to an entry that is given back; or an entry
-- stops the traversal, or the section ends before them. Each part comes with the number of binders around it.
abbrev pub traverse_from : Subject → List ℕ → ℕ → ℕ → List ℕ → Result ℕ Halt
traverse_from s f zero e [] = Ok e
traverse_from s f zero e (b ∷ waiting) = Err Out
traverse_from s f (suc left) e [] = Ok e
traverse_from s f (suc left) e (b ∷ waiting) =
    elim (parts_at s f e b) [
      | Leaf ↦ traverse_from s f left (suc e) waiting
      | One x ↦ traverse_from s f left (suc e) (x ∷ waiting)
      | Two x y ↦ traverse_from s f left (suc e) (x ∷ y ∷ waiting)
      | Stop ↦ Err (Stopped e)
    ]
