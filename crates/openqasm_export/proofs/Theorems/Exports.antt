-- Where 28 is the answer.
use Rattle.std.specs.Prelude.{ℕ, ◌≡◌, refl, ◌⊎◌, ◌↔◌, Bool, false, not, ◌&&◌, List, eqb, Result, Err}
use Rattle.std.proofs.Common.{arith, sym, ◌∙◌, ap, ap₂, subst, inl, inr, true≢false}
use Rattle.std.proofs.Math.Option.{Option, none, some}
use Rattle.rules.specs.Gates.{Init, Discard}
use Rattle.rules.proofs.Laws.Wires.{Compared, equal, unequal, compared}
use Rattle.refusals.specs.declared.Refusal.{Refusal}
use Rattle.refusals.specs.declared.Refusal.TheVariants.{Run}
use Rattle.listing.specs.Reading.{input_count, gate_count, output_count, kind_at}
use Rattle.wire_table.specs.WireRules.{First}
use Rattle.wire_table.proofs.Laws.Finding.{Finds, found_first, finds_same}
use Rattle.listing_check.specs.declared.ListingSizes.{ListingSizes}
use Rattle.listing_check.specs.Answers.{listing_check_of}
use Rattle.listing_check.proofs.Laws.Judging.{Judged, sizes_wrong_lem, entry_wrong_lem, wires_wrong_lem, all_right, listing_judged}
use Rattle.openqasm.specs.Layout.{has_statement}
use Rattle.openqasm.proofs.Laws.Lines.{statement_told}
use Rattle.openqasm_export.specs.Answers.{first_unwritten, statements_judged, export_check_of}
use Rattle.openqasm_export.specs.Meaning.{InitOrDiscard, UnwrittenAt}
use Rattle.openqasm_export.proofs.Laws.Statements.{Unwritten, unwritten_found}

-- The gates that have no statement are Init and Discard.
which_gate : (n : ℕ) → has_statement n ≡ false → (n ≡ Init) ⊎ (n ≡ Discard)
which_gate n has_none =
    of (eqb n Init) (eqb n Discard) (compared n Init) (compared n Discard) (sym (statement_told n) ∙ has_none)
  where
    of : (s t : Bool) → Compared n Init s → Compared n Discard t → not s && not t ≡ false → (n ≡ Init) ⊎ (n ≡ Discard)
    of _ t (equal e) second has = inl e
    of _ _ (unequal f) (equal e) has = inr e
    of _ _ (unequal f) (unequal g) has = absurd (true≢false has)

neither_has : (n : ℕ) → (n ≡ Init) ⊎ (n ≡ Discard) → has_statement n ≡ false
unfolding has_statement
neither_has n (inl e) = ap has_statement e
neither_has n (inr e) = ap has_statement e

-- So the entries without a statement are those with gate 9 or 10, and the first one is the same.
module _ (b : List ℕ) where
  onward : (e : ℕ) → Unwritten b e → InitOrDiscard b e
  onward e h = (h.0, h.1, which_gate (kind_at b e) h.2)

  back : (e : ℕ) → InitOrDiscard b e → Unwritten b e
  back e h = (h.0, h.1, neither_has (kind_at b e) h.2)

  first_found : Finds (InitOrDiscard b) (first_unwritten b)
  first_found = finds_same (Unwritten b) (InitOrDiscard b) onward back (first_unwritten b) (unwritten_found b)

  refused_so : (e : ℕ) {a : Result ListingSizes Refusal} (o : Option ℕ)
      → Judged b a
      → listing_check_of b ≡ a
      → Finds (InitOrDiscard b) o
      → statements_judged a o ≡ Err (Run 28 e)
      → UnwrittenAt b e
  refused_so e o (sizes_wrong_lem h) is found p = let z : ◌≡◌ {A = ℕ} 24 28 = cc in absurd (omega arith)
  refused_so e o (entry_wrong_lem f first) is found p = let z : ◌≡◌ {A = ℕ} 25 28 = cc in absurd (omega arith)
  refused_so e o (wires_wrong_lem f n broken) is found p = let z : ◌≡◌ {A = ℕ} 26 28 = cc in absurd (omega arith)
  refused_so e none (all_right f n goes) is found p = cc
  refused_so e (some i) (all_right f n goes) is found p =
      let here : i ≡ e = cc in
      record {
        inputs = input_count b;
        gates = gate_count b;
        outputs = output_count b;
        accepted = is;
        first_such = subst (First (InitOrDiscard b)) here found;
      }

-- The check of a listing that is to be exported answers 28 with place e exactly where 02 says so.
pub twenty_eight : (b : List ℕ) (e : ℕ) → (export_check_of b ≡ Err (Run 28 e)) ↔ UnwrittenAt b e
unfolding export_check_of
twenty_eight b e = (
  refused_so b e (first_unwritten b) (listing_judged b) refl (first_found b),
  λ x.
      ap₂ statements_judged x.accepted (found_first (InitOrDiscard b) (first_unwritten b) (first_found b) e x.first_such),
)
