-- 02, ticket 2, "A pair may now be copied and dropped when both halves may": programs that use a pair twice, inside a lift or not
-- at all, of each the file, the program, and what the check and a run give. c9 of 01, whose variable is a Qubit, is among the
-- cases of 01.
use Rattle.std.specs.Prelude.{ℕ, ◌+◌, List, [], ◌∷◌, ◌++◌}
use Rattle.std.proofs.Math.Option.{some}
use Rattle.rules.specs.Types.{Ty, ◌⊗◌, ◌⊸◌, Circ}
use Rattle.rules.specs.Terms.{Term, variable, label, gate, abstraction, application, pair, let_in, lift, force, apply}
use Rattle.rules.specs.CaseTerms.{one_label, qubit, H, X}
use Rattle.program.specs.Encoding.{encode}
use Rattle.refusals.specs.declared.Refusal.TheVariants.{Typing}
use Rattle.run_answers.specs.Answers.{ran}
use Rattle.cases.specs.Case.{accepted, limit◌gives◌, Case, wirelist_limit, refused_case}
use Rattle.cases.specs.BaseCases.{c1_listing}

-- The type of the gates H and X, and pairs of it.
abbrev pub one_gate : Ty
one_gate = Circ qubit qubit

abbrev pub two_gates : Ty
two_gates = one_gate ⊗ one_gate

-- The abstraction of M over this type, applied to N.
abbrev pub with_variable : Ty → Term → Term → Term
with_variable A M N = application (abstraction A M) N

abbrev pub H_and_X : Term
H_and_X = pair (gate H) (gate X)

-- ACCEPTED
-- Each has label 0, a Qubit, and gives a Qubit.

-- The variable is taken apart twice: the first half of one and the second of the other are applied, the others dropped.
abbrev pub used_twice : Term
used_twice =
    with_variable two_gates
    (let_in (variable 0) (let_in (variable 2) (apply (variable 3) (apply (variable 0) (label 0)))))
    H_and_X

-- The same, with the pair bound by a let.
abbrev pub half_used_twice : Term
half_used_twice =
    let_in (pair H_and_X (gate H))
    (let_in (variable 1) (let_in (variable 3) (apply (variable 3) (apply (variable 0) (label 0)))))

-- The variable is dropped.
abbrev pub dropped : Term
dropped = with_variable two_gates (label 0) H_and_X

-- The variable is taken apart inside a lift, which gives the first half, and outside of it.
abbrev pub used_in_lift_and_outside : Term
used_in_lift_and_outside =
    with_variable two_gates
    (let_in (variable 0) (apply (force (lift (let_in (variable 2) (variable 1)))) (apply (variable 0) (label 0))))
    H_and_X

-- A pair of pairs: taken apart twice, with a half, a pair itself, dropped each time, and the others used inside a lift.
abbrev pub pair_of_pairs : Term
pair_of_pairs =
    with_variable (two_gates ⊗ two_gates)
    (let_in (variable 0) (let_in (variable 2)
    (apply
    (force (lift (let_in (variable 3) (variable 1))))
    (apply (force (lift (let_in (variable 0) (variable 0)))) (label 0)))))
    (pair H_and_X H_and_X)

-- The listing of X on the label and then H: inputs and gates, kinds, slots, outputs.
abbrev pub X_then_H : List ℕ
X_then_H =
    0x01 ∷ 0x00 ∷ 0x02 ∷ 0x00 ∷ 0x01 ∷ 0x00
    ∷ 0x81 ∷ 0x01 ∷ 0x00
    ∷ 0xFF ∷ 0xFF ∷ 0xFF ∷ 0xFF ∷ 0xFF ∷ 0xFF ∷ 0x00 ∷ 0x00 ∷ 0xFF ∷ 0xFF ∷ 0xFF ∷ 0xFF ∷ 0x01 ∷ 0x00 ∷ 0xFF ∷ 0xFF ∷ 0xFF ∷ 0xFF
    ∷ 0x02 ∷ 0x00 ∷ []

-- The program of this term is accepted with type Qubit, and its run takes so many steps and gives so many gates and a listing.
abbrev pub runs_to : Term → ℕ → ℕ → List ℕ → Case
runs_to M steps gates bytes =
    record {
      file = encode one_label M;
      program = some (one_label, M);
      check = accepted (1 ∷ []);
      runs = limit wirelist_limit gives ran steps gates bytes ∷ [];
    }

abbrev pub copied_pairs : List Case
copied_pairs =
    runs_to used_twice 5 2 X_then_H
    ∷ runs_to half_used_twice 5 2 X_then_H
    ∷ runs_to dropped 1 0 c1_listing
    ∷ runs_to used_in_lift_and_outside 6 2 X_then_H
    ∷ runs_to pair_of_pairs 9 2 X_then_H
    ∷ []

-- REFUSED
-- A pair with a half that may be neither copied nor dropped. The entries before the first term are the label and those of the
-- abstractions' types; the abstraction of the pair is the second term.

-- This term, with a variable of type A for the argument N, is refused with a number and a place.
abbrev pub refused_case_with : Ty → Term → Term → ℕ → ℕ → Case
refused_case_with A N M number place =
    let term = with_variable A M N in
    refused_case (encode one_label term) (some (one_label, term)) (Typing number place)

-- The variable used twice or dropped is 17 at the abstraction, used inside a lift it is 18 at the variable. The first term is at
-- this entry.
abbrev pub linear_pair : Ty → Term → ℕ → List Case
linear_pair A N at =
    refused_case_with A N (pair (variable 0) (variable 0)) 17 (at + 1)
    ∷ refused_case_with A N (gate H) 17 (at + 1)
    ∷ refused_case_with A N (lift (variable 0)) 18 (at + 3)
    ∷ []

-- A wire and a gate, in either order, alone and inside a further pair; and a gate and a function that holds the wire.
abbrev pub linear_pairs : List Case
linear_pairs =
    linear_pair (qubit ⊗ one_gate) (pair (label 0) (gate H)) 6
    ++ linear_pair (one_gate ⊗ qubit) (pair (gate H) (label 0)) 6
    ++ linear_pair (one_gate ⊗ (qubit ⊗ one_gate)) (pair (gate H) (pair (label 0) (gate X))) 10
    ++ linear_pair ((one_gate ⊗ qubit) ⊗ one_gate) (pair (pair (gate H) (label 0)) (gate X)) 10
    ++ linear_pair (one_gate ⊗ (one_gate ⊸ qubit)) (pair (gate H) (abstraction one_gate (apply (variable 0) (label 0)))) 13

abbrev pub pair_cases : List Case
pair_cases = copied_pairs ++ linear_pairs
