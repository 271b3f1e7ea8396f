-- The labels and the terms of 01's cases ("Cases, c1 to c12": "L is 1 and label 0 a Qubit unless said. Gates and boxes are
-- used by apply").
use Rattle.std.specs.Prelude.{ℕ, List, [], ◌∷◌}
use Rattle.rules.specs.Types.{Wire, Qubit, Ty, wire, Circ}
use Rattle.rules.specs.Terms.{Term, variable, label, gate, abstraction, application, pair, let_in, lift, box, apply}

-- The labels of a program: 0 alone, or 0 and 1.
abbrev pub one_label : List Wire
one_label = Qubit ∷ []

abbrev pub two_labels : List Wire
two_labels = Qubit ∷ Qubit ∷ []

abbrev pub qubit : Ty
qubit = wire Qubit

-- 01: "0 H, 1 X, 2 Z", "5 CNOT", "6 Meas".
abbrev pub H : ℕ
H = 0

abbrev pub X : ℕ
X = 1

abbrev pub Z : ℕ
Z = 2

abbrev pub CNOT : ℕ
CNOT = 5

abbrev pub Meas : ℕ
Meas = 6

-- "c1: label 0 alone."
abbrev pub c1 : Term
c1 = label 0

-- "c2: H applied to label 0."
abbrev pub c2 : Term
c2 = apply (gate H) (label 0)

-- "c3: L 2, both Qubit: let takes apart CNOT applied to the pair of labels 0 and 1, and gives the pair of its second half
-- and its first."
abbrev pub c3 : Term
c3 = let_in (apply (gate CNOT) (pair (label 0) (label 1))) (pair (variable 0) (variable 1))

-- "c4: an abstraction over Qubit applies H to its variable; it is lifted, boxed at Qubit, and the box is applied to label 0."
abbrev pub c4 : Term
c4 = apply (box qubit (lift (abstraction qubit (apply (gate H) (variable 0))))) (label 0)

-- "c5: the pair of label 0 and label 0".
abbrev pub c5 : Term
c5 = pair (label 0) (label 0)

-- "c6: the abstraction over Qubit that gives its variable, label 0 unused".
abbrev pub c6 : Term
c6 = abstraction qubit (variable 0)

-- "c7: P 0, lift of label 0".
abbrev pub c7 : Term
c7 = lift (label 0)

-- "c8: P 0, H applied to the result of Meas applied to label 0".
abbrev pub c8 : Term
c8 = apply (gate H) (apply (gate Meas) (label 0))

-- "c9: L 0, P 1, the abstraction over Qubit that pairs its variable with itself".
abbrev pub c9 : Term
c9 = abstraction qubit (pair (variable 0) (variable 0))

-- "c10: an abstraction over Circ from Qubit to Qubit, which applies its variable to the result of applying it to label 0, is
-- given H".
abbrev pub c10 : Term
c10 = application (abstraction (Circ qubit qubit) (apply (variable 0) (apply (variable 0) (label 0)))) (gate H)

-- "c11: L 0, c6's abstraction".
abbrev pub c11 : Term
c11 = c6

-- "c12: an abstraction over Circ from Qubit to Qubit that gives label 0 is given H".
abbrev pub c12 : Term
c12 = application (abstraction (Circ qubit qubit) (label 0)) (gate H)
