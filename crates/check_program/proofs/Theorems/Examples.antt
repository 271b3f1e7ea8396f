-- Worked cases of the check on trees, by computation, with the entry of the first term node; crate cases has files.
use Rattle.std.specs.Prelude.{ℕ, zero, suc, ◌≡◌, refl, []}
use Rattle.rules.specs.Types.{Ty, !◌, Circ}
use Rattle.rules.specs.Terms.{Term, variable, label, gate, abstraction, pair, let_in, lift}
use Rattle.rules.specs.CaseTerms.{one_label, two_labels, qubit}
use Rattle.check_program.specs.Checking.{has_type, refusal, verdict}

-- The gate H, of a type with 3 entries, under so many lifts: 509 make 512 entries, one more is refused at the outermost.
abbrev lifts : ℕ → Term
lifts zero = gate 0
lifts (suc n) = lift (lifts n)

abbrev reusable : ℕ → Ty
reusable zero = Circ qubit qubit
reusable (suc n) = ! reusable n

pub largest_type : verdict [] 0 (lifts 509) ≡ has_type (reusable 509)
largest_type = refl

pub larger_type : verdict [] 0 (lifts 510) ≡ refusal 16 0
larger_type = refl

-- A linear variable that is not used; one that is used under a lift; one that is bound between two lifts and used under
-- both; a let of which one variable is not used; a let of no pair.
pub unused : verdict [] 1 (abstraction qubit (gate 0)) ≡ refusal 17 1
unused = refl

pub under_a_lift : verdict [] 1 (abstraction qubit (lift (variable 0))) ≡ refusal 18 3
under_a_lift = refl

pub between_lifts : verdict [] 1 (lift (abstraction qubit (lift (variable 0)))) ≡ refusal 18 4
between_lifts = refl

pub let_unused : verdict two_labels 2 (let_in (pair (label 0) (label 1)) (variable 0)) ≡ refusal 17 2
let_unused = refl

pub let_of_no_pair : verdict one_label 1 (let_in (label 0) (variable 0)) ≡ refusal 16 1
let_of_no_pair = refl
