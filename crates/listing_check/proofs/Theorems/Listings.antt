-- Each answer of the check of a listing is given exactly where 02 says so (ticket 3).
use Rattle.std.specs.Prelude.{ℕ, ◌<◌, ◌≡◌, ◌⊎◌, List, get_or, Result, Ok, Err}
use Rattle.std.proofs.Common.{arith, sym, ◌∙◌, ap, subst, inl, inr}
use Rattle.refusals.specs.declared.Refusal.{Refusal}
use Rattle.refusals.specs.declared.Refusal.TheVariants.{Run}
use Rattle.refusals.specs.Refusals.{refusal_number, refusal_place}
use Rattle.listing.specs.Reading.{input_count, gate_count, output_count, outputs_from, inputs_of, gates_of, outputs_of}
use Rattle.listing.proofs.Laws.Decoding.{length_words, length_inputs, length_first, decoded}
use Rattle.wire_table.specs.WireRules.{First, NoSuch, BrokenAt}
use Rattle.listing_check.specs.declared.ListingSizes.{ListingSizes}
use Rattle.listing_check.specs.Meaning.{SoundListing, SizesWrong, many_inputs, many_gates, many_outputs, WrongEntry}
use Rattle.listing_check.specs.Meaning.{ListingMeans}
use Rattle.listing_check.proofs.Laws.Judging.{at_most, right_form, Judged, sizes_wrong_lem, entry_wrong_lem, wires_wrong_lem}
use Rattle.listing_check.proofs.Laws.Judging.{all_right, listing_judged, judged_answer, sound_read, sound_accepted}

-- The number and the place of a refusal, and the three numbers of an acceptance; 0 for the other answer.
abbrev number : Result ListingSizes Refusal → ℕ
number (Ok n) = 0
number (Err x) = refusal_number x

abbrev place : Result ListingSizes Refusal → ℕ
place (Ok n) = 0
place (Err x) = refusal_place x

abbrev inputs : Result ListingSizes Refusal → ℕ
inputs (Ok n) = n.inputs
inputs (Err x) = 0

abbrev gates : Result ListingSizes Refusal → ℕ
gates (Ok n) = n.gates
gates (Err x) = 0

abbrev outputs : Result ListingSizes Refusal → ℕ
outputs (Ok n) = n.outputs
outputs (Err x) = 0

abbrev refusal : Result ListingSizes Refusal → Refusal
refusal (Ok n) = Run 0 0
refusal (Err x) = x

module _ (b : List ℕ) where
  -- Bytes with right sizes and entries, of which each wire goes once, are a sound listing.
  accepted_sound : ((i : ℕ) → get_or b i 0 < 256)
      → {a : Result ListingSizes Refusal} (L G O : ℕ) → Judged b a → a ≡ Ok (record { inputs = L; gates = G; outputs = O }) → SoundListing b L G O
  accepted_sound small L G O (sizes_wrong_lem h) e = let z = ap number e in absurd (omega arith)
  accepted_sound small L G O (entry_wrong_lem f first) e = let z = ap number e in absurd (omega arith)
  accepted_sound small L G O (wires_wrong_lem f n broken) e = let z = ap number e in absurd (omega arith)
  accepted_sound small L G O (all_right f n goes) e =
      let l : input_count b ≡ L = ap inputs e in
      let g : gate_count b ≡ G = ap gates e in
      let o : output_count b ≡ O = ap outputs e in
      record {
        inputs = inputs_of b;
        gates = gates_of b;
        outs = outputs_of b;
        bytes_are = decoded b small (right_form b f n);
        input_count_is = sym (length_inputs b 0 (input_count b) ∙ l);
        gate_count_is = sym (length_first b (gate_count b) ∙ g);
        output_count_is = sym (length_words b (outputs_from b) (output_count b) ∙ o);
        few_inputs = at_most (λ h. f (many_inputs (omega arith)));
        few_gates = at_most (λ h. f (many_gates (omega arith)));
        few_outputs = at_most (λ h. f (many_outputs (omega arith)));
        goes_once = goes;
      }

  -- What was found where the answer is 24, 25 or 26.
  found_24 : {a : Result ListingSizes Refusal} → Judged b a → a ≡ Err (Run 24 0) → SizesWrong b
  found_24 (sizes_wrong_lem h) e = h
  found_24 (entry_wrong_lem f first) e = let z = ap number e in absurd (omega arith)
  found_24 (wires_wrong_lem f n broken) e = let z = ap number e in absurd (omega arith)
  found_24 (all_right f n goes) e = let z = ap number e in absurd (omega arith)

  found_25 : {a : Result ListingSizes Refusal} (p : ℕ)
      → Judged b a → a ≡ Err (Run 25 p) → (SizesWrong b → ⊥) × First (WrongEntry b) p
  found_25 p (sizes_wrong_lem h) e = let z = ap number e in absurd (omega arith)
  found_25 p (entry_wrong_lem f first) e = (f, subst (First (WrongEntry b)) (ap place e) first)
  found_25 p (wires_wrong_lem f n broken) e = let z = ap number e in absurd (omega arith)
  found_25 p (all_right f n goes) e = let z = ap number e in absurd (omega arith)

  found_26 : {a : Result ListingSizes Refusal} (p : ℕ)
      → Judged b a
      → a ≡ Err (Run 26 p)
      → (SizesWrong b → ⊥) × NoSuch (WrongEntry b) × BrokenAt (inputs_of b) (gates_of b) (outputs_of b) p
  found_26 p (sizes_wrong_lem h) e = let z = ap number e in absurd (omega arith)
  found_26 p (entry_wrong_lem f first) e = let z = ap number e in absurd (omega arith)
  found_26 p (wires_wrong_lem f n broken) e =
      (f, n, subst (BrokenAt (inputs_of b) (gates_of b) (outputs_of b)) (ap place e) broken)
  found_26 p (all_right f n goes) e = let z = ap number e in absurd (omega arith)

  -- There is no other refusal.
  refused_so : {a : Result ListingSizes Refusal} (x : Refusal)
      → Judged b a
      → a ≡ Err x
      → (x ≡ Run 24 0) ⊎ (((p : ℕ) × (x ≡ Run 25 p)) ⊎ ((p : ℕ) × (x ≡ Run 26 p)))
  refused_so x (sizes_wrong_lem h) e = inl (sym (ap refusal e))
  refused_so x (entry_wrong_lem {p = p} f first) e = inr (inl (p, sym (ap refusal e)))
  refused_so x (wires_wrong_lem {p = p} f n broken) e = inr (inr (p, sym (ap refusal e)))
  refused_so x (all_right f n goes) e = let z : ◌≡◌ {A = ℕ} 0 1 = cc in absurd (omega arith)

-- The check of a listing answers as 02 says.
pub listing_means : (b : List ℕ) → ((i : ℕ) → get_or b i 0 < 256) → ListingMeans b
listing_means b small =
    record {
      accepted = λ L G O. (accepted_sound b small L G O (listing_judged b), sound_accepted b);
      one_listing = λ x.
          let r = sound_read b x in (sym r.inputs_are, sym r.gates_are, sym r.outputs_are);
      twenty_four = (found_24 b (listing_judged b), λ h. judged_answer b (sizes_wrong_lem h));
      twenty_five = λ p. (found_25 b p (listing_judged b), λ h. judged_answer b (entry_wrong_lem h.0 h.1));
      twenty_six = λ p. (
        found_26 b p (listing_judged b),
        λ h. judged_answer b (wires_wrong_lem h.0 h.1 h.2),
      );
      no_other = λ x. refused_so b x (listing_judged b);
    }
