-- The gates that have names. Then the cases of 01 ("Cases, c1 to c12") on trees: of each its type or its fault, its steps, its
-- gates and its outputs, by computation. After them four programs with boxes, at which wires numbered or renamed otherwise would
-- show. Then, by the typing rules, the derivation of each case that has a type, and for the others that there is none.
use Rattle.std.specs.Prelude.{ℕ, zero, suc, ◌≡◌, refl, ◌≢◌, false, List, [], ◌∷◌}
use Rattle.std.proofs.Common.{arith, lit≤}
use Rattle.std.proofs.Math.Option.{Option, none, some}
use Rattle.rules.specs.Types.{Wire, Bit, Qubit, Ty, wire, unit, ◌⊗◌, ◌⊸◌, !◌, Circ, is_wire_type}
use Rattle.rules.specs.Gates.{◌to◌, Init, Discard, CCX, nth, gate_type}
use Rattle.rules.specs.Terms.{single, both, Gate, ◌on◌, Boxed, boxed, Term, variable, label, gate, constant}
use Rattle.rules.specs.Terms.{abstraction, application, pair, let_in, lift, box, apply}
use Rattle.rules.specs.Circuits.{circuit}
use Rattle.rules.specs.Typing.{Context, LabelContext, nowhere, left, right, copied, Splits, split_end, ◌then◌}
use Rattle.rules.specs.Typing.{SplitsLabels, Parameter, parameters_end, absent, parameter, here, past_absent}
use Rattle.rules.specs.Typing.{OnlyLabel, ◌∣◌⊢◌∶◌, by_var, by_label, by_gate, by_abs, by_app, by_tuple, by_let}
use Rattle.rules.specs.Typing.{by_lift, by_box, by_apply}
use Rattle.rules.specs.Steps.{frame, Configuration, configuration, start}
use Rattle.rules.specs.Sizes.{total_nodes}
use Rattle.rules.specs.Demand3.{Finished, finished}
use Rattle.rules.specs.Next.{next}
use Rattle.rules.specs.Inference.{uses, label_uses, given, infer}
use Rattle.rules.proofs.Laws.Counting.{Plain, plain_gate, plain_abs, plain_lift, plain_apply, BoundOnce, NoneCrosses}
use Rattle.rules.specs.CaseTerms.{one_label, two_labels, qubit, H, X, Z, CNOT, c1, c2, c3, c4, c5, c6, c7, c8, c9, c10}
use Rattle.rules.specs.CaseTerms.{c11, c12}
use Rattle.rules.proofs.Theorems.Counting.{has→counted}
use Rattle.rules.proofs.Laws.Appending.{shares_left, shares_right}

-- The gates that have names: "9 Init, unit to Qubit", "10 Discard, Bit to unit"; CCX, "a pair of a Qubit and a pair of Qubits".
pub init_type : gate_type Init ≡ some (unit to qubit)
init_type = refl

pub discard_type : gate_type Discard ≡ some (wire Bit to unit)
discard_type = refl

pub ccx_type : gate_type CCX ≡ some (qubit ⊗ (qubit ⊗ qubit) to qubit ⊗ (qubit ⊗ qubit))
ccx_type = refl

-- The configuration after n steps, if there are as many.
abbrev pub after : ℕ → Configuration → Option Configuration
after zero c = some c
after (suc n) c = given (next c) λ d. after n d

-- After exactly n steps the configuration is d, which is finished and has no next one.
abbrev pub Ends : Configuration → ℕ → Configuration → Type 0
Ends c n d = (after n c ≡ some d) × Finished d × (next d ≡ none)

-- One frame with these inputs, gates (newest first) and term, and the circuits closed by then (latest first).
abbrev pub alone : List Wire → List Gate → Term → List Boxed → Configuration
alone I gs M K = configuration (frame (circuit I gs) M) [] K

-- The term nodes over all open boxes at c and after each of the next n steps.
abbrev pub totals : ℕ → Configuration → List ℕ
totals zero c = total_nodes c ∷ []
totals (suc n) c = total_nodes c ∷ elim (next c) as (λ d. List ℕ) [ none ↦ [] | some d ↦ totals n d ]

-- c1: "Limit 0 finishes, 0 steps, output wire 0."
pub c1_type : infer [] (nth one_label) c1 ≡ some qubit
c1_type = refl

pub c1_run : Ends (start one_label c1) 0 (alone one_label [] (label 0) [])
c1_run = (refl, finished tt, refl)

-- c2: "1 step". By the listing there, H takes wire 0 and the output is wire 1.
pub c2_type : infer [] (nth one_label) c2 ≡ some qubit
c2_type = refl

pub c2_run : Ends (start one_label c2) 1 (alone one_label ((H on 0 ∷ []) ∷ []) (label 1) [])
c2_run = (refl, finished tt, refl)

-- c3: "2 steps."
pub c3_type : infer [] (nth two_labels) c3 ≡ some (qubit ⊗ qubit)
c3_type = refl

pub c3_run
    : Ends (start two_labels c3) 2 (alone two_labels ((CNOT on 0 ∷ 1 ∷ []) ∷ []) (pair (label 3) (label 2)) [])
c3_run = (refl, finished tt, refl)

-- c4: "Limit 4 gives 21; 5 finishes with c2's listing." The circuit that its box closes: one H.
abbrev pub H_circuit : Boxed
H_circuit = boxed qubit ((H on 0 ∷ []) ∷ []) (single 1)

pub c4_type : infer [] (nth one_label) c4 ≡ some qubit
c4_type = refl

pub c4_run : Ends (start one_label c4) 5 (alone one_label ((H on 0 ∷ []) ∷ []) (label 1) (H_circuit ∷ []))
c4_run = (refl, finished tt, refl)

-- After 4 steps the constant is still to be applied.
abbrev pub c4_at_4 : Configuration
c4_at_4 = alone one_label [] (apply (constant H_circuit) (label 0)) (H_circuit ∷ [])

pub c4_unfinished
    : (after 4 (start one_label c4) ≡ some c4_at_4)
    × (Finished c4_at_4 → ⊥)
    × (next c4_at_4 ≡ some (alone one_label ((H on 0 ∷ []) ∷ []) (label 1) (H_circuit ∷ [])))
c4_unfinished = (refl, no_value, refl)
  where
    no_value : Finished c4_at_4 → ⊥
    no_value (finished v) = v

pub c4_totals : totals 5 (start one_label c4) ≡ 8 ∷ 14 ∷ 11 ∷ 9 ∷ 3 ∷ 1 ∷ []
c4_totals = refl

-- c5: "17". Each part has a type, and the label is used twice.
pub c5_fault : (infer [] (nth one_label) c5 ≡ some (qubit ⊗ qubit)) × (label_uses 0 c5 ≡ 2)
c5_fault = (refl, refl)

-- c6: "17".
pub c6_fault : (infer [] (nth one_label) c6 ≡ some (qubit ⊸ qubit)) × (label_uses 0 c6 ≡ 0)
c6_fault = (refl, refl)

-- c7: "18". The label is used once, and inside the lift.
pub c7_fault : (infer [] (nth one_label) c7 ≡ some (! qubit)) × (label_uses 0 (label 0) ≡ 1)
c7_fault = (refl, refl)

-- c8: "16". Meas gives a Bit, and H takes a Qubit.
pub c8_fault : infer [] (nth one_label) c8 ≡ none
c8_fault = refl

-- c9: "17".
pub c9_fault
    : (infer [] (nth []) c9 ≡ some (qubit ⊸ qubit ⊗ qubit)) × (uses 0 (pair (variable 0) (variable 0)) ≡ 2)
c9_fault = (refl, refl)

-- c10: "3 steps, 2 gates, output 2."
pub c10_type : infer [] (nth one_label) c10 ≡ some qubit
c10_type = refl

pub c10_run
    : Ends (start one_label c10) 3 (alone one_label ((H on 1 ∷ []) ∷ (H on 0 ∷ []) ∷ []) (label 2) [])
c10_run = (refl, finished tt, refl)

-- c11: "checked; a run gives 20", since its type is no wire type.
pub c11_type : (infer [] (nth []) c11 ≡ some (qubit ⊸ qubit)) × (is_wire_type (qubit ⊸ qubit) ≡ false)
c11_type = (refl, refl)

-- c12: "1 step, no gate."
pub c12_type : infer [] (nth one_label) c12 ≡ some qubit
c12_type = refl

pub c12_run : Ends (start one_label c12) 1 (alone one_label [] (label 0) [])
c12_run = (refl, finished tt, refl)

-- For the programs with boxes: the box of one gate, as in c4; the box of a gate and then what M, a circuit, does; and c10's
-- abstraction, which applies its variable twice, to M first.
abbrev pub boxed_gate : ℕ → Term
boxed_gate n = box qubit (lift (abstraction qubit (apply (gate n) (variable 0))))

abbrev pub boxed_before : ℕ → Term → Term
boxed_before n M = box qubit (lift (abstraction qubit (apply M (apply (gate n) (variable 0)))))

abbrev pub twice : Term → Term
twice M = abstraction (Circ qubit qubit) (apply (variable 0) (apply (variable 0) M))

-- The circuits that they close: one X; X and then H.
abbrev pub X_circuit : Boxed
X_circuit = boxed qubit ((X on 0 ∷ []) ∷ []) (single 1)

abbrev pub XH_circuit : Boxed
XH_circuit = boxed qubit ((H on 1 ∷ []) ∷ (X on 0 ∷ []) ∷ []) (single 2)

-- A box inside a box, and the outer circuit applied twice: X, H, X, H on wires 0 to 3, output 4. With one counter of wires
-- for all open boxes the outer box's input would be 1, the inner one's 2, and the output 9.
abbrev pub box_in_box : Term
box_in_box = application (twice (label 0)) (boxed_before X (boxed_gate H))

pub box_in_box_type : infer [] (nth one_label) box_in_box ≡ some qubit
box_in_box_type = refl

pub box_in_box_run
    : Ends
    (start one_label box_in_box)
    12
    (alone
    one_label
    ((H on 3 ∷ []) ∷ (X on 2 ∷ []) ∷ (H on 1 ∷ []) ∷ (X on 0 ∷ []) ∷ [])
    (label 4)
    (XH_circuit ∷ H_circuit ∷ []))
box_in_box_run = (refl, finished tt, refl)

-- A circuit of two wires that gives its second wire, untouched, and then its first with an H on it. It is applied to X of
-- label 1, which is wire 2, and to label 0: H takes wire 2 and makes 3, and the outputs are 0 and 3. If the untouched wire
-- were not renamed, the first output would be 1; with one counter for all open boxes the second would be 6.
abbrev pub untouched_wire : Term
untouched_wire =
    apply
    (box (qubit ⊗ qubit)
    (lift (abstraction (qubit ⊗ qubit) (let_in (variable 0) (pair (variable 0) (apply (gate H) (variable 1)))))))
    (pair (apply (gate X) (label 1)) (label 0))

pub untouched_wire_type : infer [] (nth two_labels) untouched_wire ≡ some (qubit ⊗ qubit)
untouched_wire_type = refl

pub untouched_wire_run
    : Ends
    (start two_labels untouched_wire)
    7
    (alone
    two_labels
    ((H on 2 ∷ []) ∷ (X on 1 ∷ []) ∷ [])
    (pair (label 0) (label 3))
    (boxed (qubit ⊗ qubit) ((H on 0 ∷ []) ∷ []) (both (single 1) (single 2)) ∷ []))
untouched_wire_run = (refl, finished tt, refl)

-- A boxed circuit that is used twice, and another that is dropped, by an abstraction that gives label 0: H, H on wires 0
-- and 1, output 2. The dropped circuit stays among the closed ones. With one counter for all open boxes the output would
-- be 6.
abbrev pub copied_and_dropped : Term
copied_and_dropped =
    application (twice (application (abstraction (Circ qubit qubit) (label 0)) (boxed_gate X))) (boxed_gate H)

pub copied_and_dropped_type : infer [] (nth one_label) copied_and_dropped ≡ some qubit
copied_and_dropped_type = refl

pub copied_and_dropped_run
    : Ends
    (start one_label copied_and_dropped)
    12
    (alone one_label ((H on 1 ∷ []) ∷ (H on 0 ∷ []) ∷ []) (label 2) (X_circuit ∷ H_circuit ∷ []))
copied_and_dropped_run = (refl, finished tt, refl)

-- Three boxes, one inside the other: Z, X, H on wires 0 to 2, output 3. With one counter for all open boxes their inputs
-- would be 1, 2 and 3, and the output 12.
abbrev pub three_deep : Term
three_deep = apply (boxed_before Z (boxed_before X (boxed_gate H))) (label 0)

pub three_deep_type : infer [] (nth one_label) three_deep ≡ some qubit
three_deep_type = refl

pub three_deep_run
    : Ends
    (start one_label three_deep)
    15
    (alone
    one_label
    ((H on 2 ∷ []) ∷ (X on 1 ∷ []) ∷ (Z on 0 ∷ []) ∷ [])
    (label 3)
    (boxed qubit ((H on 2 ∷ []) ∷ (X on 1 ∷ []) ∷ (Z on 0 ∷ []) ∷ []) (single 3) ∷ XH_circuit ∷ H_circuit ∷ []))
three_deep_run = (refl, finished tt, refl)

-- For the derivations: the contexts of no label and of label 1 alone, and how labels are shared out to two parts.
abbrev no_label : LabelContext
no_label = nth []

abbrev label_1 : LabelContext
label_1 zero = none
label_1 (suc ℓ) = nth one_label ℓ

all_left : (Q : LabelContext) → SplitsLabels Q Q no_label
all_left Q ℓ = shares_left (Q ℓ)

all_right : (Q : LabelContext) → SplitsLabels Q no_label Q
all_right Q ℓ = shares_right (Q ℓ)

label_0_left : SplitsLabels (nth two_labels) (nth one_label) label_1
label_0_left zero = left
label_0_left (suc zero) = right
label_0_left (suc (suc ℓ)) = nowhere

label_0_right : SplitsLabels (nth two_labels) label_1 (nth one_label)
label_0_right zero = right
label_0_right (suc zero) = left
label_0_right (suc (suc ℓ)) = nowhere

only_0 : OnlyLabel (nth one_label) 0 Qubit
only_0 = (refl, others)
  where
    others : (k : ℕ) → k ≢ 0 → nth one_label k ≡ none
    others zero h = absurd (h refl)
    others (suc k) h = refl

only_1 : OnlyLabel label_1 1 Qubit
only_1 = (refl, others)
  where
    others : (k : ℕ) → k ≢ 1 → label_1 k ≡ none
    others zero h = refl
    others (suc zero) h = absurd (h refl)
    others (suc (suc k)) h = refl

-- The context of k variables that all went to other parts.
abbrev gone : ℕ → Context
gone zero = []
gone (suc k) = none ∷ gone k

gone_parameter : (k : ℕ) → Parameter (gone k)
gone_parameter zero = parameters_end
gone_parameter (suc k) = absent (gone_parameter k)

gone_splits : (k : ℕ) → Splits (gone k) (gone k) (gone k)
gone_splits zero = split_end
gone_splits (suc k) = nowhere then gone_splits k

-- The parts from which the programs are made.
label_0_has : (k : ℕ) → gone k ∣ nth one_label ⊢ label 0 ∶ qubit
label_0_has k = by_label (gone_parameter k) only_0

gate_of_variable_has : (k n : ℕ)
    → gate_type n ≡ some (qubit to qubit)
    → (some qubit ∷ gone k) ∣ no_label ⊢ apply (gate n) (variable 0) ∶ qubit
gate_of_variable_has k n e =
    by_apply
    (right then gone_splits k)
    (all_right _)
    (by_gate (gone_parameter (suc k)) (λ ℓ. refl) e)
    (by_var (here (gone_parameter k)) λ ℓ. refl)

boxed_gate_has : (k n : ℕ)
    → gate_type n ≡ some (qubit to qubit)
    → gone k ∣ no_label ⊢ boxed_gate n ∶ Circ qubit qubit
boxed_gate_has k n e =
    by_box tt tt (by_lift (lit≤ tt) (gone_parameter k) (λ ℓ. refl) (by_abs (lit≤ tt) (gate_of_variable_has k n e)))

boxed_before_has : (k n : ℕ) {M : Term}
    → gate_type n ≡ some (qubit to qubit)
    → gone (suc k) ∣ no_label ⊢ M ∶ Circ qubit qubit
    → gone k ∣ no_label ⊢ boxed_before n M ∶ Circ qubit qubit
boxed_before_has k n e m =
    by_box tt tt
    (by_lift (lit≤ tt) (gone_parameter k) (λ ℓ. refl)
    (by_abs (lit≤ tt) (by_apply (right then gone_splits k) (all_right _) m (gate_of_variable_has k n e))))

twice_has : {Q : LabelContext} {M : Term}
    → gone 1 ∣ Q ⊢ M ∶ qubit
    → [] ∣ Q ⊢ twice M ∶ Circ qubit qubit ⊸ qubit
twice_has {Q} m =
    by_abs (lit≤ tt)
    (by_apply (copied tt then split_end) (all_right Q) (by_var (here parameters_end) λ ℓ. refl)
    (by_apply (left then split_end) (all_right Q) (by_var (here parameters_end) λ ℓ. refl) m))

dropping_has : (k : ℕ) → gone k ∣ nth one_label ⊢ abstraction (Circ qubit qubit) (label 0) ∶ Circ qubit qubit ⊸ qubit
dropping_has k = by_abs (lit≤ tt) (by_label (parameter tt (gone_parameter k)) only_0)

-- The derivations.
pub c1_has : [] ∣ nth one_label ⊢ c1 ∶ qubit
c1_has = label_0_has 0

pub c2_has : [] ∣ nth one_label ⊢ c2 ∶ qubit
c2_has = by_apply split_end (all_right _) (by_gate parameters_end (λ ℓ. refl) refl) (label_0_has 0)

pub c3_has : [] ∣ nth two_labels ⊢ c3 ∶ qubit ⊗ qubit
c3_has =
    by_let
    split_end
    (all_left _)
    (by_apply split_end (all_right _) (by_gate parameters_end (λ ℓ. refl) refl)
    (by_tuple (lit≤ tt) split_end label_0_left (label_0_has 0) (by_label parameters_end only_1)))
    (by_tuple
    (lit≤ tt)
    (left then right then split_end)
    (all_right _)
    (by_var (here (gone_parameter 1)) λ ℓ. refl)
    (by_var (past_absent (here parameters_end)) λ ℓ. refl))

pub c4_has : [] ∣ nth one_label ⊢ c4 ∶ qubit
c4_has = by_apply split_end (all_right _) (boxed_gate_has 0 H refl) (label_0_has 0)

pub c10_has : [] ∣ nth one_label ⊢ c10 ∶ qubit
c10_has =
    by_app split_end (all_left _) (twice_has (label_0_has 1)) (by_gate parameters_end (λ ℓ. refl) refl)

pub c11_has : [] ∣ nth [] ⊢ c11 ∶ qubit ⊸ qubit
c11_has = by_abs (lit≤ tt) (by_var (here parameters_end) λ ℓ. refl)

pub c12_has : [] ∣ nth one_label ⊢ c12 ∶ qubit
c12_has = by_app split_end (all_left _) (dropping_has 0) (by_gate parameters_end (λ ℓ. refl) refl)

pub box_in_box_has : [] ∣ nth one_label ⊢ box_in_box ∶ qubit
box_in_box_has =
    by_app
    split_end
    (all_left _)
    (twice_has (label_0_has 1))
    (boxed_before_has 0 X refl (boxed_gate_has 1 H refl))

pub untouched_wire_has : [] ∣ nth two_labels ⊢ untouched_wire ∶ qubit ⊗ qubit
untouched_wire_has =
    by_apply
    split_end
    (all_right _)
    (by_box tt tt
    (by_lift (lit≤ tt) parameters_end (λ ℓ. refl)
    (by_abs (lit≤ tt)
    (by_let (left then split_end) (all_right _) (by_var (here parameters_end) λ ℓ. refl)
    (by_tuple
    (lit≤ tt)
    (left then right then nowhere then split_end)
    (all_right _)
    (by_var (here (gone_parameter 2)) λ ℓ. refl)
    (by_apply
    to_variable
    (all_right _)
    (by_gate (gone_parameter 3) (λ ℓ. refl) refl)
    (by_var (past_absent (here (gone_parameter 1))) λ ℓ. refl)))))))
    (by_tuple
    (lit≤ tt)
    split_end
    label_0_right
    (by_apply split_end (all_right _) (by_gate parameters_end (λ ℓ. refl) refl) (by_label parameters_end only_1))
    (label_0_has 0))
  where
    to_variable : Splits (none ∷ some qubit ∷ none ∷ []) (gone 3) (none ∷ some qubit ∷ none ∷ [])
    to_variable = nowhere then right then nowhere then split_end

pub copied_and_dropped_has : [] ∣ nth one_label ⊢ copied_and_dropped ∶ qubit
copied_and_dropped_has =
    by_app
    split_end
    (all_left _)
    (twice_has (by_app (gone_splits 1) (all_left _) (dropping_has 1) (boxed_gate_has 1 X refl)))
    (boxed_gate_has 0 H refl)

pub three_deep_has : [] ∣ nth one_label ⊢ three_deep ∶ qubit
three_deep_has =
    by_apply
    split_end
    (all_right _)
    (boxed_before_has 0 Z refl (boxed_before_has 1 X refl (boxed_gate_has 2 H refl)))
    (label_0_has 0)

-- c5 to c9 have no type: the rules would give the label of c5 and c6 and the variable of c9 exactly one use, the lift of
-- c7 no label, and c8 a plain type.
pub c5_has_none : (A : Ty) → [] ∣ nth one_label ⊢ c5 ∶ A → ⊥
c5_has_none A d = let e : ◌≡◌ {A = ℕ} 2 1 = (has→counted d).labels_once 0 Qubit refl in omega arith

pub c6_has_none : (A : Ty) → [] ∣ nth one_label ⊢ c6 ∶ A → ⊥
c6_has_none A d = let e : ◌≡◌ {A = ℕ} 0 1 = (has→counted d).labels_once 0 Qubit refl in omega arith

pub c7_has_none : (A : Ty) → [] ∣ nth one_label ⊢ c7 ∶ A → ⊥
c7_has_none A d = go (has→counted d).plain (has→counted d).none_crosses
  where
    go : {A : Ty} (p : Plain [] (nth one_label) c7 A) → NoneCrosses p → ⊥
    go (plain_lift b p) h = let e : ◌≡◌ {A = ℕ} 1 0 = h.1 0 in omega arith

pub c8_has_none : (A : Ty) → [] ∣ nth one_label ⊢ c8 ∶ A → ⊥
c8_has_none A d = go (has→counted d).plain
  where
    go : {A : Ty} → Plain [] (nth one_label) c8 A → ⊥
    go (plain_apply (plain_gate h) (plain_apply (plain_gate m) p)) = let e : ◌≡◌ {A = ℕ} 0 1 = cc in omega arith

pub c9_has_none : (A : Ty) → [] ∣ nth [] ⊢ c9 ∶ A → ⊥
c9_has_none A d = go (has→counted d).plain (has→counted d).bound_once
  where
    go : {A : Ty} (p : Plain [] (nth []) c9 A) → BoundOnce p → ⊥
    go (plain_abs b p) h = let e : ◌≡◌ {A = ℕ} 2 1 = h.0 tt in omega arith
