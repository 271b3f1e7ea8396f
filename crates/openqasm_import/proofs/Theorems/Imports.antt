-- Ticket 4's promises of the import.
use Rattle.std.specs.Prelude.{ℕ, ◌≤◌, Bool, ◌&&◌, List, Result, Ok, Err}
use Rattle.std.proofs.Common.{arith, ◌∙◌}
use Rattle.std.proofs.Math.Path.{◌≡◌, refl, sym, ap, ap₂, subst}
use Rattle.std.proofs.Math.Bool.{true, false, cond}
use Rattle.std.proofs.Math.Option.{Option, none, some}
use Rattle.std.proofs.Math.ListN.{length}
use Rattle.rules.specs.Sizes.{most_labels, most_gates}
use Rattle.listing.specs.Listing.{listing_bytes, most_outputs}
use Rattle.listing.specs.Reading.{inputs_of, gates_of, outputs_of}
use Rattle.listing.proofs.Laws.Decoding.{inputs_back, gates_back, outputs_back}
use Rattle.wire_table.specs.WireRules.{GoesOnce}
use Rattle.refusals.specs.declared.Refusal.{Refusal}
use Rattle.listing_check.specs.declared.ListingSizes.{ListingSizes}
use Rattle.listing_check.specs.Answers.{listing_check_of}
use Rattle.listing_check.specs.Meaning.{SoundListing}
use Rattle.listing_check.proofs.Laws.Judging.{Judged, sizes_wrong_lem, entry_wrong_lem, wires_wrong_lem, all_right, listing_judged}
use Rattle.listing_check.proofs.Laws.Judging.{sound_known, sound_read, sound_accepted}
use Rattle.openqasm.specs.Layout.{AllWritten, export_text, export_of}
use Rattle.openqasm_export.specs.Answers.{export_check_of}
use Rattle.openqasm_export.proofs.Laws.Statements.{export_accepted, accepted_exported}
use Rattle.openqasm_parts.specs.Reading.{Parts, parts_read, listing_read}
use Rattle.openqasm_parts.proofs.Theorems.ReadBack.{parts_known, parts_few, parts_back}
use Rattle.openqasm_import.specs.Answers.{is_accepted, same_bytes, import_of}
use Rattle.openqasm_import.specs.Meaning.{ExportedFrom, ImportMeans}
use Rattle.openqasm_import.proofs.Laws.Comparing.{same_as_itself, same_are}

-- A listing that is accepted has wires that go once.
goes_once_of : (b : List ℕ) {a : Result ListingSizes Refusal} → Judged b a → is_accepted a ≡ true → GoesOnce (inputs_of b) (gates_of b) (outputs_of b)
goes_once_of b (sizes_wrong_lem h) e = cc
goes_once_of b (entry_wrong_lem f first) e = cc
goes_once_of b (wires_wrong_lem f n broken) e = cc
goes_once_of b (all_right f n goes) e = goes

-- What the export takes is accepted by ticket 3's check, and each of its gates has a statement.
taken_accepted : (b : List ℕ)
    → is_accepted (export_check_of b) ≡ true
    → (is_accepted (listing_check_of b) ≡ true) × AllWritten (gates_of b)
taken_accepted b passed = of (export_check_of b) refl passed
  where
    of : (a : Result ListingSizes Refusal) → export_check_of b ≡ a → is_accepted a ≡ true
        → (is_accepted (listing_check_of b) ≡ true) × AllWritten (gates_of b)
    of (Ok n) e p = let x = export_accepted b e in (ap is_accepted x.0, x.1)
    of (Err x) e p = cc

module _ (text : List ℕ) where
  abbrev p : Parts
  p = parts_read text

  abbrev b : List ℕ
  b = listing_read text

  -- If the export takes the listing that is read, it is sound, and its gates have statements.
  pub read_sound : is_accepted (export_check_of b) ≡ true → SoundListing b (length p.inputs) (length p.gates) (length p.outs)
  read_sound e =
      let known = parts_known text in
      let few = parts_few text in
      let goes = goes_once_of b (listing_judged b) (taken_accepted b e).0 in
      let I = inputs_back p.inputs p.gates p.outs b refl in
      let gs = gates_back p.inputs p.gates p.outs b refl known in
      let outs = outputs_back p.inputs p.gates p.outs b refl in
      record {
        inputs = p.inputs;
        gates = p.gates;
        outs = p.outs;
        bytes_are = refl;
        input_count_is = refl;
        gate_count_is = refl;
        output_count_is = refl;
        few_inputs = few.0;
        few_gates = few.1;
        few_outputs = few.2;
        goes_once = subst (GoesOnce p.inputs p.gates) outs
            (subst (λ hs. GoesOnce p.inputs hs (outputs_of b)) gs
            (subst (λ J. GoesOnce J (gates_of b) (outputs_of b)) I goes));
      }

  pub read_written : is_accepted (export_check_of b) ≡ true → AllWritten (gates_of b)
  read_written e = (taken_accepted b e).1

  -- What is imported is the listing of which the text is the export.
  imported_from : (c : List ℕ) → import_of text ≡ some c → ExportedFrom c text
  unfolding import_of
  imported_from c e = of (is_accepted (export_check_of b)) refl (same_bytes text (export_of b)) refl e
    where
      of : (s : Bool) → is_accepted (export_check_of b) ≡ s
          → (t : Bool) → same_bytes text (export_of b) ≡ t
          → ◌≡◌ {A = Option (List ℕ)} (cond (s && t) (some b) none) (some c)
          → ExportedFrom c text
      of true passed true same e =
          let is : b ≡ c = cc in
          subst (λ d. ExportedFrom d text) is
          record {
            inputs = length p.inputs;
            gates = length p.gates;
            outputs = length p.outs;
            accepted = read_sound passed;
            written = read_written passed;
            text_is = sym (same_are text (export_of b) same);
          }
      of true passed false other e = cc
      of false failed t same e = cc

  -- The listing of which the text is the export is imported.
  from_imported : (c : List ℕ) → ExportedFrom c text → import_of text ≡ some c
  unfolding import_of
  from_imported c x =
      let s = x.accepted in
      let r = sound_read c s in
      let text_of : export_text s.inputs s.gates s.outs ≡ text
      = sym (ap₂ (λ I gs. export_text I gs (outputs_of c)) r.inputs_are r.gates_are
      ∙ ap (export_text s.inputs s.gates) r.outputs_are)
      ∙ x.text_is in
      let few_inputs = subst (λ n. n ≤ most_labels) s.input_count_is s.few_inputs in
      let few_gates = subst (λ n. n ≤ most_gates) s.gate_count_is s.few_gates in
      let few_outputs = subst (λ n. n ≤ most_outputs) s.output_count_is s.few_outputs in
      let known = sound_known s.gates s.goes_once.sound.takes_earlier in
      let written = subst AllWritten r.gates_are x.written in
      let back = parts_back s.inputs s.gates s.outs few_inputs few_gates few_outputs known written s.goes_once in
      let listed : listing_read (export_text s.inputs s.gates s.outs) ≡ listing_bytes s.inputs s.gates s.outs
      = ap₂ (λ I gs. listing_bytes I gs (parts_read (export_text s.inputs s.gates s.outs)).outs) back.0 back.1
      ∙ ap (listing_bytes s.inputs s.gates) back.2 in
      let is : b ≡ c = ap listing_read (sym text_of) ∙ listed ∙ sym s.bytes_are in
      let passed : is_accepted (export_check_of b) ≡ true
      = ap (λ d. is_accepted (export_check_of d)) is ∙ ap is_accepted (accepted_exported c (sound_accepted c s) x.written) in
      let same : same_bytes text (export_of b) ≡ true
      = ap (same_bytes text) (ap export_of is ∙ x.text_is) ∙ same_as_itself text in
      ap₂ (λ t u. cond (t && u) (some b) none) passed same ∙ ap some is

-- Ticket 4: "Importing an exported text gives the same listing; any other text is refused."
pub import_means : (text : List ℕ) → ImportMeans text
import_means text =
    record {
      imported = λ c. (imported_from text c, from_imported text c);
      refused = (
        λ e c x. let z : ◌≡◌ {A = ℕ} 0 1 = different c e (from_imported text c x) in absurd (omega arith),
        λ none_such. of (import_of text) refl none_such,
      );
    }
  where
    different : (c : List ℕ) → import_of text ≡ none → import_of text ≡ some c → ◌≡◌ {A = ℕ} 0 1
    different c e f = ap found (sym e ∙ f)
      where
        found : Option (List ℕ) → ℕ
        found none = 0
        found (some x) = 1

    of : (o : Option (List ℕ)) → import_of text ≡ o → ((c : List ℕ) → ExportedFrom c text → ⊥) → import_of text ≡ none
    of none e none_such = e
    of (some c) e none_such = absurd (none_such c (imported_from text c e))

-- Every listing that the export takes comes back from its export.
pub export_imported : (b : List ℕ) {L G O : ℕ} → SoundListing b L G O → AllWritten (gates_of b) → import_of (export_of b) ≡ some b
export_imported b {L} {G} {O} x written =
    ((import_means (export_of b)).imported b).1
    record { inputs = L; gates = G; outputs = O; accepted = x; written = written; text_is = refl }

-- No text is the export of two listings.
pub one_export : (b c : List ℕ) {L G O L' G' O' : ℕ}
    → SoundListing b L G O
    → AllWritten (gates_of b)
    → SoundListing c L' G' O'
    → AllWritten (gates_of c)
    → export_of b ≡ export_of c
    → b ≡ c
one_export b c x written y written' e =
    same (sym (export_imported b x written) ∙ ap import_of e ∙ export_imported c y written')
  where
    same : some b ≡ some c → b ≡ c
    same p = cc
