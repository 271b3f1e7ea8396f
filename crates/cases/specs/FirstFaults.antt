-- 02, ticket 1, "the first such entry in file order": programs with two faults of one number, one in each part of a node or
-- both in one part, some with a fault of a later number before them; of each the file, the program and the refusal, whose place
-- is the first of the two.
use Rattle.std.specs.Prelude.{ℕ, ◌+◌, List, [], ◌∷◌, ◌++◌, replicate}
use Rattle.std.proofs.Math.Option.{some}
use Rattle.rules.specs.Types.{Qubit, Circ}
use Rattle.rules.specs.Terms.{Term, variable, label, gate, abstraction, application, pair, let_in, lift, force, apply}
use Rattle.rules.specs.CaseTerms.{qubit, H}
use Rattle.program.specs.Encoding.{encode}
use Rattle.refusals.specs.declared.Refusal.TheVariants.{Typing}
use Rattle.cases.specs.Case.{Case, refused_case}

-- The program with so many labels, all Qubits, and this term is refused with a number and a place.
abbrev pub refused_at : ℕ → Term → ℕ → ℕ → Case
refused_at n M number place =
    let labels = replicate n Qubit in
    refused_case (encode labels M) (some (labels, M)) (Typing number place)

-- TERMS WITH ONE FAULT
-- Each uses one label, once. What has a type has that of the gate H, and so may be copied and dropped.

-- 16 at its first node: a Qubit is not reusable.
abbrev pub forced_qubit : ℕ → Term
forced_qubit k = force (label k)

-- 17 at its first node: the let does not use its first half, a Qubit.
abbrev pub half_unused : ℕ → Term
half_unused k = let_in (pair (label k) (gate H)) (variable 0)

-- 18 at its fourth node: the label is used inside a lift.
abbrev pub used_in_lift : ℕ → Term
used_in_lift k = let_in (pair (lift (label k)) (gate H)) (variable 0)

-- NODES WITH TWO PARTS
-- M stands in the first part and N in the second.

abbrev pub in_pair : Term → Term → Term
in_pair M N = pair M N

abbrev pub in_let : Term → Term → Term
in_let M N = let_in (pair M (gate H)) N

abbrev pub in_application : Term → Term → Term
in_application M N = application (abstraction (Circ qubit qubit) M) N

-- It takes one more label, 2, for a wire to apply to.
abbrev pub in_apply : Term → Term → Term
in_apply M N = apply M (let_in (pair N (label 2)) (variable 0))

-- Both terms in one, again of that type.
abbrev pub both : Term → Term → Term
both M N = let_in (pair M N) (variable 0)

-- THE CASES

-- Two faults of 16, of 17 and of 18 in a term made of two, of which the first stands at this entry. It uses the higher label:
-- places are entries, not numbers of labels.
abbrev pub two_faults : ℕ → (Term → Term → Term) → ℕ → List Case
two_faults labels made at =
    refused_at labels (made (forced_qubit 1) (forced_qubit 0)) 16 at
    ∷ refused_at labels (made (half_unused 1) (half_unused 0)) 17 at
    ∷ refused_at labels (made (used_in_lift 1) (used_in_lift 0)) 18 (at + 3)
    ∷ []

-- One fault in each part; both in the first part; both in the second. The entries before the first term are the labels and, for
-- the abstraction, three of its type.
abbrev pub in_parts : List Case
in_parts =
    two_faults 2 in_pair 3
    ++ two_faults 2 (λ M N. in_pair (both M N) (gate H)) 5
    ++ two_faults 2 (λ M N. in_pair (gate H) (both M N)) 6
    ++ two_faults 2 in_let 4
    ++ two_faults 2 (λ M N. in_let (both M N) (gate H)) 6
    ++ two_faults 2 (λ M N. in_let (gate H) (both M N)) 8
    ++ two_faults 2 in_application 7
    ++ two_faults 2 (λ M N. in_application (both M N) (gate H)) 9
    ++ two_faults 2 (λ M N. in_application (gate H) (both M N)) 10
    ++ two_faults 3 in_apply 4
    ++ two_faults 3 (λ M N. in_apply (both M N) (gate H)) 6
    ++ two_faults 3 (λ M N. in_apply (gate H) (both M N)) 9

-- "The number is chosen as before": a 17 before two of 16, which start at this entry; an 18 before two of 16, and before two of
-- 17, which then start one entry further.
abbrev pub behind_later : (Term → Term → Term) → ℕ → List Case
behind_later made at =
    refused_at 3 (made (half_unused 2) (both (forced_qubit 1) (forced_qubit 0))) 16 at
    ∷ refused_at 3 (made (used_in_lift 2) (both (forced_qubit 1) (forced_qubit 0))) 16 (at + 1)
    ∷ refused_at 3 (made (used_in_lift 2) (both (half_unused 1) (half_unused 0))) 17 (at + 1)
    ∷ []

abbrev pub behind_later_numbers : List Case
behind_later_numbers = behind_later in_pair 11 ++ behind_later in_let 13 ++ behind_later in_application 15

-- A node and one inside it. 16: a let of no pair, before a fault in its second part; a force of what has no type is no fault.
-- 17: two labels; a label before a let; a let before one in its first part, and before one in its second; an abstraction before
-- one inside it.
abbrev pub nested : List Case
nested =
    refused_at 2 (let_in (label 1) (forced_qubit 0)) 16 2
    ∷ refused_at 1 (force (forced_qubit 0)) 16 2
    ∷ refused_at 3 (label 0) 17 1
    ∷ refused_at 2 (half_unused 0) 17 1
    ∷ refused_at 2 (let_in (pair (half_unused 1) (label 0)) (variable 1)) 17 2
    ∷ refused_at 2 (let_in (pair (label 1) (gate H)) (half_unused 0)) 17 2
    ∷ refused_at 0 (abstraction qubit (abstraction qubit (gate H))) 17 2
    ∷ []

-- All of them.
abbrev pub first_fault_cases : List Case
first_fault_cases = in_parts ++ behind_later_numbers ++ nested
