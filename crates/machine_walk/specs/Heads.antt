-- What is to be done with a tree, by the kind of its first node.
use Rattle.std.specs.Prelude.{ℕ, Bool, ◌||◌, cond, eqb}
use Rattle.rules.specs.Kinds.{label_kind, abstraction_kind, lift_kind, gate_term_kind, constant_kind, unit_value_kind}
use Rattle.machine_terms.specs.Trees.{parts}
use Rattle.machine_walk.specs.declared.Head.{Head}
use Rattle.machine_walk.specs.declared.Head.TheVariants.{Value, OnePart, TwoParts, Neither}

-- The kinds of values but pairs: label, gate, unit's value, circuit constant, abstraction and lift.
abbrev pub is_value : ℕ → Bool
is_value k =
    eqb k label_kind
    || eqb k abstraction_kind
    || eqb k lift_kind
    || eqb k gate_term_kind
    || eqb k unit_value_kind
    || eqb k constant_kind

-- Of another node the part or the first part is evaluated. With a variable, which has none, there is nothing to do.
abbrev pub head_with : ℕ → Head
head_with p = cond (eqb p 1) OnePart (cond (eqb p 2) TwoParts Neither)

unfoldable pub head_of : ℕ → Head
head_of k = cond (is_value k) Value (head_with (parts k))
