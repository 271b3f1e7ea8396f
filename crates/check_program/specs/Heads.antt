-- The nodes of a term by the number of their parts, and the check said by them.
use Rattle.std.specs.Prelude.{ℕ}
use Rattle.std.proofs.Math.Option.{Option, none, some}
use Rattle.rules.specs.Kinds.{abstraction_kind, application_kind, pair_kind, let_kind, lift_kind, force_kind, box_kind}
use Rattle.rules.specs.Kinds.{apply_kind}
use Rattle.rules.specs.Types.{Ty}
use Rattle.rules.specs.Inference.{as_pair, as_reusable, abstraction_type, application_type, pair_type, lift_type, box_type}
use Rattle.rules.specs.Inference.{apply_type}
use Rattle.check_program.specs.Checking.{earlier, if_so, used_wrongly}

-- A node of one part, without its part.
pub data OnePart : Type 0 where
  of_abstraction : Ty → OnePart
  of_lift of_force : OnePart
  of_box : Ty → OnePart

abbrev pub one_kind : OnePart → ℕ
one_kind (of_abstraction A) = abstraction_kind
one_kind of_lift = lift_kind
one_kind of_force = force_kind
one_kind (of_box T) = box_kind

-- The type that the rule gives, and the 17 of the node itself, if its variable is used so often.
abbrev pub one_rule : OnePart → Ty → Option Ty
one_rule (of_abstraction A) B = abstraction_type A B
one_rule of_lift A = lift_type A
one_rule of_force A = as_reusable A
one_rule (of_box T) A = box_type T A

abbrev pub misuse_at_abstraction : OnePart → ℕ → ℕ → Option ℕ
misuse_at_abstraction (of_abstraction A) count e = if_so (used_wrongly A count) e
misuse_at_abstraction of_lift count e = none
misuse_at_abstraction of_force count e = none
misuse_at_abstraction (of_box T) count e = none

-- A node of two parts, without its parts.
pub data TwoParts : Type 0 where
  of_application of_pair of_let of_apply : TwoParts

abbrev pub two_kind : TwoParts → ℕ
two_kind of_application = application_kind
two_kind of_pair = pair_kind
two_kind of_let = let_kind
two_kind of_apply = apply_kind

abbrev pub two_rule : TwoParts → Ty → Ty → Option Ty
two_rule of_application F A = application_type F A
two_rule of_pair A B = pair_type A B
two_rule of_let A C = some C
two_rule of_apply F A = apply_type F A

-- The 17 of the node itself, if its variables, the first half's and the second half's, are used so often.
abbrev pub own_halves : Option (Ty × Ty) → ℕ → ℕ → ℕ → Option ℕ
own_halves none count count' e = none
own_halves (some p) count count' e = earlier (if_so (used_wrongly p.0 count) e) (if_so (used_wrongly p.1 count') e)

abbrev pub misuse_at_let : TwoParts → Ty → ℕ → ℕ → ℕ → Option ℕ
misuse_at_let of_application A count count' e = none
misuse_at_let of_pair A count count' e = none
misuse_at_let of_let A count count' e = own_halves (as_pair A) count count' e
misuse_at_let of_apply A count count' e = none
