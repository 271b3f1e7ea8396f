-- What the check answers, on trees (01, "Typing" and "Check, in number order").
use Rattle.std.specs.Prelude.{ℕ, zero, suc, ◌+◌, Bool, true, false, ◌&&◌, not, cond, List, [], ◌∷◌, eqb, ltb, length}
use Rattle.std.proofs.Math.Option.{Option, none, some, map}
use Rattle.rules.specs.Types.{Wire, Ty, wire, unit, copyable}
use Rattle.rules.specs.Gates.{nth, gate_type}
use Rattle.rules.specs.Terms.{Term, variable, label, gate, constant, abstraction, application, pair, let_in, lift, force}
use Rattle.rules.specs.Terms.{box, apply, unit_value}
use Rattle.rules.specs.Sizes.{nodes}
use Rattle.rules.specs.Inference.{uses, label_uses, as_pair, as_reusable, gate_node_type, abstraction_type, application_type}
use Rattle.rules.specs.Inference.{pair_type, lift_type, box_type, apply_type}

-- A binder in scope: the type of its variable, and the number of lifts around it.
pub data Binder : Type 0 where
  ◌under◌ : Ty → ℕ → Binder

infix 70 ◌under◌
-- What is found in a term: its type, with the first 17 and the first 18 in it; or the first 16.
pub data Checked : Type 0 where
  typed : Ty → Option ℕ → Option ℕ → Checked
  fault : ℕ → Checked

-- The earlier of two places in file order, of which the second stands behind the first.
abbrev pub earlier : Option ℕ → Option ℕ → Option ℕ
earlier none q = q
earlier (some p) q = some p

-- A place, if a test holds.
abbrev pub if_so : Bool → ℕ → Option ℕ
if_so true e = some e
if_so false e = none

-- 01: "a variable of any other type is linear".
abbrev pub linear : Ty → Bool
linear A = not (copyable A)

-- 17: a linear variable, used this often, is not used exactly once.
abbrev pub used_wrongly : Ty → ℕ → Bool
used_wrongly A n = linear A && not (eqb n 1)

-- 18: "a linear use inside a lift from outside it".
abbrev pub crosses : Ty → ℕ → ℕ → Bool
crosses A bound lifts = linear A && ltb bound lifts

-- The part's type, if it has one, with its first 17 and 18.
abbrev pub followed : Checked → (Ty → Option ℕ → Option ℕ → Checked) → Checked
followed (typed A u v) next = next A u v
followed (fault e) next = fault e

-- 16: "a node whose parts all have types and whose rule fails".
abbrev pub ruled : ℕ → Option Ty → Option ℕ → Option ℕ → Checked
ruled e (some A) u v = typed A u v
ruled e none u v = fault e

-- A node of two parts, of which the second stands behind the first in the file (02, ticket 1: "the first such entry in file
-- order"): of two faults the first part's; if both have types, the rule's answer with the earlier 17 and the earlier 18.
abbrev pub two_ruled : ℕ → (Ty → Ty → Option Ty) → Checked → Checked → Checked
two_ruled e rule (fault p) (fault q) = fault p
two_ruled e rule (fault p) (typed B u' v') = fault p
two_ruled e rule (typed A u v) (fault q) = fault q
two_ruled e rule (typed A u v) (typed B u' v') = ruled e (rule A B) (earlier u u') (earlier v v')

-- A variable has the type of its binder; it may be an 18.
abbrev pub variable_found : ℕ → ℕ → Option Binder → Checked
variable_found e lifts (some (A under bound)) = typed A none (if_so (crosses A bound lifts) e)
variable_found e lifts none = fault e

-- A label has the type of its wire and is bound outside of all lifts; it may be an 18.
abbrev pub label_found : ℕ → ℕ → Option Wire → Checked
label_found e lifts (some α) = typed (wire α) none (if_so (crosses (wire α) 0 lifts) e)
label_found e lifts none = fault e

-- The term M whose node stands at entry e, under the binders Γ and this many lifts, with the labels of the file.
abbrev pub check_term : List Wire → List Binder → ℕ → ℕ → Term → Checked
check_term L Γ lifts e (variable n) = variable_found e lifts (nth Γ n)
check_term L Γ lifts e (label ℓ) = label_found e lifts (nth L ℓ)
check_term L Γ lifts e (gate n) = ruled e (map gate_node_type (gate_type n)) none none
check_term L Γ lifts e unit_value = typed unit none none
check_term L Γ lifts e (constant b) = fault e
check_term L Γ lifts e (abstraction A M) =
    followed (check_term L (A under lifts ∷ Γ) lifts (suc e) M) λ B u v.
    ruled e (abstraction_type A B) (earlier (if_so (used_wrongly A (uses 0 M)) e) u) v
check_term L Γ lifts e (application M N) =
    two_ruled e application_type (check_term L Γ lifts (suc e) M) (check_term L Γ lifts (suc e + nodes M) N)
check_term L Γ lifts e (pair M N) =
    two_ruled e pair_type (check_term L Γ lifts (suc e) M) (check_term L Γ lifts (suc e + nodes M) N)
check_term L Γ lifts e (let_in M N) =
    followed (check_term L Γ lifts (suc e) M) λ P u v.
    elim (as_pair P) [
      | none ↦ fault e
      | some p ↦
          followed (check_term L (p.1 under lifts ∷ p.0 under lifts ∷ Γ) lifts (suc e + nodes M) N) λ C u' v'.
          typed C
          (earlier (if_so (used_wrongly p.0 (uses 1 N)) e) (earlier (if_so (used_wrongly p.1 (uses 0 N)) e) (earlier u u')))
          (earlier v v')
    ]
check_term L Γ lifts e (lift M) =
    followed (check_term L Γ (suc lifts) (suc e) M) λ A u v. ruled e (lift_type A) u v
check_term L Γ lifts e (force M) = followed (check_term L Γ lifts (suc e) M) λ A u v. ruled e (as_reusable A) u v
check_term L Γ lifts e (box T M) = followed (check_term L Γ lifts (suc e) M) λ A u v. ruled e (box_type T A) u v
check_term L Γ lifts e (apply M N) =
    two_ruled e apply_type (check_term L Γ lifts (suc e) M) (check_term L Γ lifts (suc e + nodes M) N)

-- The first label, from ℓ on, that is not used exactly once.
abbrev pub wrong_label : Term → ℕ → ℕ → Option ℕ
wrong_label M ℓ zero = none
wrong_label M ℓ (suc k) = let later = wrong_label M (suc ℓ) k in cond (eqb (label_uses ℓ M) 1) later (some ℓ)

-- What the check finds: a type, or a refusal with its place. "Check, in number order": 16 before 17 before 18.
pub data Verdict : Type 0 where
  has_type : Ty → Verdict
  refusal : ℕ → ℕ → Verdict

-- 18, if there is one.
abbrev pub lastly : Ty → Option ℕ → Verdict
lastly A none = has_type A
lastly A (some e) = refusal 18 e

-- 17, if there is one, before 18.
abbrev pub secondly : Ty → Option ℕ → Option ℕ → Verdict
secondly A none v = lastly A v
secondly A (some e) v = refusal 17 e

-- 16, if there is one, before 17. Labels come before binders in file order.
abbrev pub decided : List Wire → Term → Checked → Verdict
decided L M (fault e) = refusal 16 e
decided L M (typed A u v) = secondly A (earlier (wrong_label M 0 (length L)) u) v

-- The program with these labels and the term M, whose first entry is e.
abbrev pub verdict : List Wire → ℕ → Term → Verdict
verdict L e M = decided L M (check_term L [] 0 e M)
