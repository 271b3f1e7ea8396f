-- Pairs of programs that differ in boxes, by computation: each pair has one type and builds one circuit with one result, and the
-- numbers of steps and of boxes closed differ. Last, two programs that are no such pair, and build two circuits.
use Rattle.std.specs.Prelude.{ℕ, ◌≡◌, refl, List, [], ◌∷◌, T as Truth, length}
use Rattle.std.proofs.Math.Option.{Option, none, some}
use Rattle.rules.specs.Types.{Wire, Qubit, Ty, unit, ◌⊗◌, ◌⊸◌, !◌, Circ}
use Rattle.rules.specs.Gates.{Init, Discard, CCX, nth}
use Rattle.rules.specs.Terms.{◌on◌, Term, variable, label, gate, unit_value, abstraction, application, pair, let_in}
use Rattle.rules.specs.Terms.{lift, force, box, apply, value}
use Rattle.rules.specs.Circuits.{Circuit, circuit}
use Rattle.rules.specs.Steps.{frame, Configuration, configuration, start}
use Rattle.rules.specs.Inference.{infer}
use Rattle.rules.specs.CaseTerms.{one_label, two_labels, qubit, H, X, Z, CNOT, Meas}
use Rattle.rules.proofs.Theorems.Cases.{after}
use Rattle.boxing.specs.Spots.{Spot, whole, in_abstraction, in_application_left, in_application_right, in_pair_left}
use Rattle.boxing.specs.Spots.{in_pair_right, in_let_second, in_lift, in_box, in_apply_left, fill}
use Rattle.boxing.specs.Spots.{OneBoxLess, no_less, one_less, DifferInBoxes}

-- What a run takes: its steps, and the boxes closed in it.
pub data Cost : Type 0 where
  ◌steps_closing◌ : ℕ → ℕ → Cost

infix 50 ◌steps_closing◌
-- A finish: the circuit, the result, and how many boxes were closed.
pub data Finish : Type 0 where
  ◌giving◌closing◌ : Circuit → Term → ℕ → Finish

infix 40 ◌giving◌closing◌
-- The finish that a configuration is, if it has one frame.
abbrev pub finish_of : Option Configuration → Option Finish
finish_of none = none
finish_of (some (configuration (frame C M) [] K)) = some (C giving M closing length K)
finish_of (some (configuration (frame C M) (F ∷ X) K)) = none

-- A program of type A builds the circuit C with the value W, at this cost.
abbrev pub Runs : List Wire → Term → Ty → Circuit → Term → Cost → Type 0
Runs L M A C W (n steps_closing closed) =
    (infer [] (nth L) M ≡ some A)
    × (finish_of (after n (start L M)) ≡ some (C giving W closing closed))
    × Truth (value W)

-- A pair of programs: the spot, T, and the body and the argument of F, whose variable has the type T.
pub record Pair : Type 0 where
  pub spot : Spot
  pub T : Ty
  pub body : Term
  pub N : Term

-- Its program with the box, and that without it.
abbrev pub with_box : Pair → Term
with_box p = fill p.spot (apply (box p.T (lift (abstraction p.T p.body))) p.N)

abbrev pub without_box : Pair → Term
without_box p = fill p.spot (application (abstraction p.T p.body) p.N)

pub one_box_less : (p : Pair) → OneBoxLess (with_box p) (without_box p)
one_box_less p =
    record {
      spot = p.spot;
      T = p.T;
      F = abstraction p.T p.body;
      N = p.N;
      is_abstraction = (p.T, p.body, refl);
      with_box_is = refl;
      without_box_is = refl;
    }

-- Both of type A, both build C with W; the costs are those with the box and without.
abbrev pub Alike : List Wire → Pair → Ty → Circuit → Term → Cost → Cost → Type 0
Alike L p A C W cost cost' = Runs L (with_box p) A C W cost × Runs L (without_box p) A C W cost'

-- Gate n on a term.
abbrev pub on_wire : ℕ → Term → Term
on_wire n M = apply (gate n) M

-- The box of a gate applied to a term, and the same without the box.
abbrev pub gate_with_box : ℕ → Term → Term
gate_with_box n M = apply (box qubit (lift (abstraction qubit (on_wire n (variable 0))))) M

abbrev pub gate_without_box : ℕ → Term → Term
gate_without_box n M = application (abstraction qubit (on_wire n (variable 0))) M

-- Unit and Init: the box takes no wire and makes one.
abbrev pub made_from_nothing : Pair
made_from_nothing = record { spot = whole; T = unit; body = on_wire Init (variable 0); N = unit_value }

pub made_from_nothing_alike
    : Alike [] made_from_nothing qubit (circuit [] ((Init on []) ∷ [])) (label 0)
    (5 steps_closing 1) (2 steps_closing 0)
made_from_nothing_alike = ((refl, refl, tt), (refl, refl, tt))

-- Discard: the box takes a wire and leaves none. The argument has a gate, which comes before those of the body.
abbrev pub measured_and_gone : Pair
measured_and_gone =
    record { spot = whole; T = qubit; body = on_wire Discard (on_wire Meas (variable 0)); N = on_wire H (label 0) }

abbrev pub gone_circuit : Circuit
gone_circuit = circuit one_label ((Discard on 2 ∷ []) ∷ (Meas on 1 ∷ []) ∷ (H on 0 ∷ []) ∷ [])

pub measured_and_gone_alike
    : Alike one_label measured_and_gone unit gone_circuit unit_value (7 steps_closing 1) (4 steps_closing 0)
measured_and_gone_alike = ((refl, refl, tt), (refl, refl, tt))

-- CCX, on wires that are not in their order; the result has its wires in another order than CCX makes them.
abbrev pub three_wires : Pair
three_wires =
    record {
      spot = whole;
      T = qubit ⊗ (qubit ⊗ qubit);
      body = let_in (on_wire CCX (variable 0)) (pair (variable 0) (variable 1));
      N = pair (on_wire X (label 2)) (pair (label 0) (label 1));
    }

abbrev pub three_circuit : Circuit
three_circuit = circuit (Qubit ∷ two_labels) ((CCX on 3 ∷ 0 ∷ 1 ∷ []) ∷ (X on 2 ∷ []) ∷ [])

abbrev pub three_result : Term
three_result = pair (pair (label 5) (label 6)) (label 4)

pub three_wires_alike
    : Alike (Qubit ∷ two_labels) three_wires ((qubit ⊗ qubit) ⊗ qubit) three_circuit three_result
    (7 steps_closing 1) (4 steps_closing 0)
three_wires_alike = ((refl, refl, tt), (refl, refl, tt))

-- A wire that the body leaves untouched.
abbrev pub untouched : Pair
untouched =
    record {
      spot = whole;
      T = qubit ⊗ qubit;
      body = let_in (variable 0) (pair (variable 0) (on_wire H (variable 1)));
      N = pair (on_wire X (label 1)) (label 0);
    }

abbrev pub untouched_circuit : Circuit
untouched_circuit = circuit two_labels ((H on 2 ∷ []) ∷ (X on 1 ∷ []) ∷ [])

pub untouched_alike
    : Alike two_labels untouched (qubit ⊗ qubit) untouched_circuit (pair (label 0) (label 3))
    (7 steps_closing 1) (4 steps_closing 0)
untouched_alike = ((refl, refl, tt), (refl, refl, tt))

-- Boxes within boxes: the spot lies in a box's body, and F's body has a box. With one counter of wires for all open boxes the output
-- of the first program would be 12.
abbrev pub box_in_box : Pair
box_in_box =
    record {
      spot = in_apply_left (in_box qubit (in_lift (in_abstraction qubit whole))) (label 0);
      T = qubit;
      body = gate_with_box H (on_wire X (variable 0));
      N = on_wire Z (variable 0);
    }

abbrev pub ZXH_circuit : Circuit
ZXH_circuit = circuit one_label ((H on 2 ∷ []) ∷ (X on 1 ∷ []) ∷ (Z on 0 ∷ []) ∷ [])

pub box_in_box_alike
    : Alike one_label box_in_box qubit ZXH_circuit (label 3) (15 steps_closing 3) (12 steps_closing 2)
box_in_box_alike = ((refl, refl, tt), (refl, refl, tt))

-- A spot that is copied and run twice: it lies under a lift, which is forced twice.
abbrev pub run_twice : Pair
run_twice =
    record {
      spot =
          in_application_right
          (abstraction (! (qubit ⊸ qubit))
          (application (force (variable 0)) (application (force (variable 0)) (label 0))))
          (in_lift (in_abstraction qubit whole));
      T = qubit;
      body = on_wire H (variable 0);
      N = on_wire X (variable 0);
    }

abbrev pub XHXH_circuit : Circuit
XHXH_circuit = circuit one_label ((H on 3 ∷ []) ∷ (X on 2 ∷ []) ∷ (H on 1 ∷ []) ∷ (X on 0 ∷ []) ∷ [])

pub run_twice_alike
    : Alike one_label run_twice qubit XHXH_circuit (label 4) (17 steps_closing 2) (11 steps_closing 0)
run_twice_alike = ((refl, refl, tt), (refl, refl, tt))

-- A spot in let's second part, whose F and N use variables that are bound around it: a circuit, and the second half.
abbrev pub with_variables : Pair
with_variables =
    record {
      spot =
          in_application_left
          (in_abstraction (Circ qubit qubit)
          (in_let_second (on_wire CNOT (pair (label 0) (label 1))) (in_pair_right (variable 1) whole)))
          (gate H);
      T = qubit;
      body = apply (variable 3) (variable 0);
      N = variable 0;
    }

abbrev pub CNOT_H_circuit : Circuit
CNOT_H_circuit = circuit two_labels ((H on 3 ∷ []) ∷ (CNOT on 0 ∷ 1 ∷ []) ∷ [])

pub with_variables_alike
    : Alike two_labels with_variables (qubit ⊗ qubit) CNOT_H_circuit (pair (label 2) (label 4))
    (8 steps_closing 1) (5 steps_closing 0)
with_variables_alike = ((refl, refl, tt), (refl, refl, tt))

-- Several spots at once: one program has the box in the first half, the other in the second.
abbrev pub first_boxed : Pair
first_boxed =
    record {
      spot = in_pair_left whole (gate_without_box X (label 1));
      T = qubit;
      body = on_wire H (variable 0);
      N = label 0;
    }

abbrev pub second_boxed : Pair
second_boxed =
    record {
      spot = in_pair_right (gate_without_box H (label 0)) whole;
      T = qubit;
      body = on_wire X (variable 0);
      N = label 1;
    }

pub two_spots : DifferInBoxes (with_box first_boxed) (with_box second_boxed)
two_spots =
    record {
      without = pair (gate_without_box H (label 0)) (gate_without_box X (label 1));
      first_less = one_less (one_box_less first_boxed) no_less;
      second_less = one_less (one_box_less second_boxed) no_less;
    }

abbrev pub two_circuit : Circuit
two_circuit = circuit two_labels ((X on 1 ∷ []) ∷ (H on 0 ∷ []) ∷ [])

pub two_spots_alike
    : Runs two_labels (with_box first_boxed) (qubit ⊗ qubit) two_circuit (pair (label 2) (label 3)) (7 steps_closing 1)
    × Runs two_labels (with_box second_boxed) (qubit ⊗ qubit) two_circuit (pair (label 2) (label 3)) (7 steps_closing 1)
two_spots_alike = ((refl, refl, tt), (refl, refl, tt))

-- Spots within spots: the three boxes of box-in-box taken away one after another, the outermost first. The next spot lies each time in
-- what is left.
abbrev pub outer : Pair
outer =
    record {
      spot = whole;
      T = qubit;
      body =
          apply (box qubit (lift (abstraction qubit (gate_with_box H (on_wire X (variable 0))))))
          (on_wire Z (variable 0));
      N = label 0;
    }

abbrev pub middle : Pair
middle =
    record {
      spot = in_application_left (in_abstraction qubit whole) (label 0);
      T = qubit;
      body = gate_with_box H (on_wire X (variable 0));
      N = on_wire Z (variable 0);
    }

abbrev pub inner : Pair
inner =
    record {
      spot =
          in_application_left
          (in_abstraction qubit (in_application_left (in_abstraction qubit whole) (on_wire Z (variable 0))))
          (label 0);
      T = qubit;
      body = on_wire H (variable 0);
      N = on_wire X (variable 0);
    }

pub three_spots : DifferInBoxes (with_box box_in_box) (without_box inner)
three_spots =
    record {
      without = without_box inner;
      first_less =
          one_less (one_box_less outer) (one_less (one_box_less middle) (one_less (one_box_less inner) no_less));
      second_less = no_less;
    }

pub three_spots_without_box : Runs one_label (without_box inner) qubit ZXH_circuit (label 3) (6 steps_closing 0)
three_spots_without_box = (refl, refl, tt)

-- NO SUCH PAIR

-- F is no abstraction, but a term that first makes a wire and then gives an abstraction. In a box it is evaluated behind the
-- argument, by itself before it: the gates come in another order.
abbrev pub no_abstraction : Term
no_abstraction =
    application (abstraction qubit (abstraction qubit (pair (variable 0) (variable 1)))) (on_wire Init unit_value)

pub no_abstraction_with_box
    : Runs one_label (apply (box qubit (lift no_abstraction)) (on_wire H (label 0))) (qubit ⊗ qubit)
    (circuit one_label ((Init on []) ∷ (H on 0 ∷ []) ∷ [])) (pair (label 1) (label 2)) (7 steps_closing 1)
no_abstraction_with_box = (refl, refl, tt)

pub no_abstraction_without_box
    : Runs one_label (application no_abstraction (on_wire H (label 0))) (qubit ⊗ qubit)
    (circuit one_label ((H on 0 ∷ []) ∷ (Init on []) ∷ [])) (pair (label 2) (label 1)) (4 steps_closing 0)
no_abstraction_without_box = (refl, refl, tt)
