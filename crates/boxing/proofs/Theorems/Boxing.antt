-- Boxing does not change a circuit (02, ticket 10), over the rules.
use Rattle.std.specs.Prelude.{◌≡◌, List, [], T as Truth}
use Rattle.std.proofs.Common.{sym, ◌∙◌, subst}
use Rattle.rules.specs.Types.{Wire, Ty, is_wire_type}
use Rattle.rules.specs.Terms.{Tuple, Boxed, Term, value, tuple}
use Rattle.rules.specs.Circuits.{Circuit}
use Rattle.rules.specs.Steps.{frame, configuration}
use Rattle.rules.specs.Demand3.{frame_has, outermost, ProgramHas, program_has}
use Rattle.rules.proofs.Laws.Substitution.{canonical_wires}
use Rattle.rules.proofs.Theorems.Counting.{unique_types}
use Rattle.rules.proofs.Theorems.Safety.{start_has, row_keeps}
use Rattle.boxing.specs.Spots.{OneBoxLess, BoxesLess, no_less, one_less, DifferInBoxes, Builds, SameBuilt}
use Rattle.boxing.proofs.Laws.Evaluation.{◌∣◌⇓◌∣◌}
use Rattle.boxing.proofs.Laws.Values.{one_evaluation}
use Rattle.boxing.proofs.Laws.Unboxing.{◌unboxes_to◌, tuple_stays, unboxing_follows}
use Rattle.boxing.proofs.Laws.Expansion.{builds_evaluates}
use Rattle.boxing.proofs.Theorems.Types.{unboxed_has_type}
use Rattle.boxing.proofs.Laws.Spots.{one_unboxes, and_then, unboxes_less}

-- A term with boxes taken away evaluates to the same circuit, and to the same value with boxes taken away.
record EvaluatesWithout (C : Circuit) (N : Term) (D : Circuit) (W : Term) : Type 0 where
  result : Term
  result_less : BoxesLess W result
  evaluation : C ∣ N ⇓ D ∣ result

less_evaluates : {M N : Term} {C D : Circuit} {W : Term} → BoxesLess M N → C ∣ M ⇓ D ∣ W → EvaluatesWithout C N D W
less_evaluates {W = W} no_less d = record { result = W; result_less = no_less; evaluation = d }
less_evaluates (one_less o b) d =
    let f = unboxing_follows d (one_unboxes o) in
    let l = less_evaluates b f.evaluation in
    record {
      result = l.result;
      result_less = and_then (unboxes_less f.result_unboxed) l.result_less;
      evaluation = l.evaluation;
    }

-- From a label tuple nothing can be taken away.
tuple_less : (k : Tuple) {M N : Term} → M ≡ tuple k → BoxesLess M N → N ≡ tuple k
tuple_less k e no_less = e
tuple_less k {M} e (one_less {N = P} o b) =
    tuple_less k (tuple_stays k (subst (λ X. X unboxes_to P) e (one_unboxes o))) b

-- The result of a program of wire type is a label tuple.
finished_tuple : {A : Ty} {C : Circuit} {W : Term} {K : List Boxed}
    → Truth (is_wire_type A)
    → Truth (value W)
    → ProgramHas A (configuration (frame C W) [] K)
    → (k : Tuple) × (W ≡ tuple k)
finished_tuple t v (program_has (outermost (frame_has s d)) _) = canonical_wires t v d

builds_tuple : {L : List Wire} {M : Term} {A : Ty} {C : Circuit} {W : Term}
    → Truth (is_wire_type A)
    → Builds L M A C W
    → (k : Tuple) × (W ≡ tuple k)
builds_tuple {L} t b = finished_tuple t b.at_finish (row_keeps b.row (start_has L b.has_type))

-- So where boxes are taken away from it, it is left as it was.
tuple_left : {W N : Term} → (k : Tuple) × (W ≡ tuple k) → BoxesLess W N → W ≡ N
tuple_left k b = k.1 ∙ sym (tuple_less k.0 k.1 b)

-- THEOREM, for terms that differ in boxes in any number of spots.
pub boxes_change_nothing : {L : List Wire} {M M' : Term} {A A' : Ty} {C C' : Circuit} {W W' : Term}
    → DifferInBoxes M M'
    → Builds L M A C W
    → Builds L M' A' C' W'
    → SameBuilt A A' C C' W W'
boxes_change_nothing {L} {A = A} {A'} {C' = C'} {W' = W'} m b b' =
    let type : A ≡ A'
    = unique_types (unboxed_has_type m.first_less b.has_type) (unboxed_has_type m.second_less b'.has_type) in
    let l = less_evaluates m.first_less (builds_evaluates b) in
    let l' = less_evaluates m.second_less (builds_evaluates b') in
    let same = one_evaluation l.evaluation l'.evaluation in
    record {
      same_type = type;
      same_circuit = same.0;
      results_differ = record {
        without = l'.result;
        first_less = subst (BoxesLess _) same.1 l.result_less;
        second_less = l'.result_less;
      };
      same_result = λ t.
          tuple_left (builds_tuple t b) l.result_less
          ∙ same.1
          ∙ sym (tuple_left (builds_tuple (subst (λ B. Truth (is_wire_type B)) type t) b') l'.result_less);
    }

-- One spot: the two programs of 02.
pub one_box_differs : {M N : Term} → OneBoxLess M N → DifferInBoxes M N
one_box_differs {N = N} o = record { without = N; first_less = one_less o no_less; second_less = no_less }

-- THEOREM, for 02's two programs.
pub box_changes_nothing : {L : List Wire} {M M' : Term} {A A' : Ty} {C C' : Circuit} {W W' : Term}
    → OneBoxLess M M'
    → Builds L M A C W
    → Builds L M' A' C' W'
    → SameBuilt A A' C C' W W'
box_changes_nothing o b b' = boxes_change_nothing (one_box_differs o) b b'
