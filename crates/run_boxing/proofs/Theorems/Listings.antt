-- Boxing does not change a listing (02, ticket 10).
use Rattle.std.specs.Prelude.{ℕ, ◌≡◌, List, [], length}
use Rattle.std.proofs.Common.{sym, ap, ◌∙◌, subst}
use Rattle.rules.specs.Types.{Ty}
use Rattle.rules.specs.Gates.{nth}
use Rattle.rules.specs.Terms.{tuple}
use Rattle.rules.specs.Circuits.{circuit}
use Rattle.rules.specs.Typing.{◌∣◌⊢◌∶◌}
use Rattle.rules.specs.Sizes.{most_gates}
use Rattle.rules.proofs.Theorems.Deterministic.{tuple_value}
use Rattle.boxing.specs.Spots.{no_less, one_less, Builds}
use Rattle.boxing.proofs.Laws.Values.{tuple_injective, same_gates}
use Rattle.boxing.proofs.Theorems.Types.{unboxed_has_type}
use Rattle.boxing.proofs.Theorems.Boxing.{boxes_change_nothing, one_box_differs}
use Rattle.check_program.specs.Answers.{labels_of, term_of, accepts, check_of}
use Rattle.check_program.specs.Demand2.{IsRead}
use Rattle.check_program.proofs.Theorems.Checked.{check_derives}
use Rattle.listing.specs.Listing.{listing}
use Rattle.run_answers.specs.Demand2.{Finishes}
use Rattle.run_answers.proofs.Theorems.Running.{run_finishes}
use Rattle.run_boxing.specs.Files.{OneBoxLessFile, FilesDifferInBoxes, SameListings}

-- A run that finishes builds, by the rules, the circuit and the tuple that it lists.
finish_builds : {f : List ℕ} {limit steps gates : ℕ} {bytes : List ℕ} (h : Finishes f limit steps gates bytes)
    → Builds (labels_of f) (term_of f) h.program.program_type (circuit (labels_of f) h.listed_gates) (tuple h.outputs)
finish_builds {f} {steps = steps} h =
    record {
      has_type = ((check_derives f h.program.program_type).0 h.program.accepted).1;
      allowance = most_gates;
      steps = steps;
      closed = h.closed;
      row = h.row;
      at_finish = tuple_value h.outputs;
    }

-- THEOREM, for files that differ in several boxes at once.
pub boxes_change_no_byte : (f f' : List ℕ) → FilesDifferInBoxes f f' → SameListings f f'
boxes_change_no_byte f f' differ limit limit' steps steps' gates gates' bytes bytes' e e' =
    let h = (run_finishes f limit steps gates bytes).0 e in
    let h' = (run_finishes f' limit' steps' gates' bytes').0 e' in
    let b' = subst
    (λ L. Builds L (term_of f') h'.program.program_type (circuit L h'.listed_gates) (tuple h'.outputs))
    (sym differ.same_labels)
    (finish_builds h') in
    let same = boxes_change_nothing differ.terms_differ (finish_builds h) b' in
    let gates_same = same_gates same.same_circuit in
    let outputs_same = tuple_injective h.outputs h'.outputs (same.same_result h.program.wire_type) in (
      h.gates_are ∙ ap length gates_same ∙ sym h'.gates_are,
      h.bytes_are
          ∙ (λ i. listing (circuit (differ.same_labels i) (gates_same i)) (outputs_same i))
          ∙ sym h'.bytes_are,
    )

-- One box is among several.
one_box_files : {f f' : List ℕ} → OneBoxLessFile f f' → FilesDifferInBoxes f f'
one_box_files o = record { same_labels = o.same_labels; terms_differ = one_box_differs o.one_less }

-- THEOREM, for 02's two programs.
pub box_changes_no_byte : (f f' : List ℕ) → OneBoxLessFile f f' → SameListings f f'
box_changes_no_byte f f' o = boxes_change_no_byte f f' (one_box_files o)

-- Of "both pass" the second follows: a file that is read, with one box less than one that passes, passes with the same type.
pub unboxed_accepted : (f f' : List ℕ) (A : Ty) → OneBoxLessFile f f' → IsRead f' → check_of f ≡ accepts A → check_of f' ≡ accepts A
unboxed_accepted f f' A o read h =
    (check_derives f' A).1 (
      read,
      subst (λ L. [] ∣ nth L ⊢ term_of f' ∶ A) o.same_labels
          (unboxed_has_type (one_less o.one_less no_less) ((check_derives f A).0 h).1),
    )
