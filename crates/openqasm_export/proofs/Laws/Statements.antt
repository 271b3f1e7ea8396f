-- Laws of the gates of a listing that have no statement.
use Rattle.std.specs.Prelude.{ℕ, zero, suc, ◌+◌, ◌-◌, ◌≤◌, ◌<◌, Bool, true, false, List, T as Truth, Result, Ok, Err, Option as Found, None, Some, MatchOption, ⊤}
use Rattle.std.specs.Fn.{CalledAt}
use Rattle.std.specs.Iterator.{YieldsThen}
use Rattle.std.specs.List.{FoldsTo}
use Rattle.std.specs.declared.ops.Range.{Range}
use Rattle.std.proofs.iter.Yields.{nat_range_steps}
use Rattle.std.proofs.lemmas.Iterator.{first_from_Range}
use denote.Param.Members.{Mut}
use denote.Ref.{Bor}
use native.Mathlib.Omega.{arith}
use Rattle.std.proofs.Math.Decide.{dec_lt}
use Rattle.std.proofs.Math.Path.{◌≡◌, refl, ap, ap₂}
use Rattle.std.proofs.Common.{sym, ◌∙◌, subst, true≢false}
use Rattle.std.proofs.Math.Bool.{not}
use Rattle.std.proofs.Math.Option.{Option, none, some}
use borrow.Author.Tests.{not-true}
use Rattle.refusals.specs.declared.Refusal.{Refusal}
use Rattle.listing.specs.Reading.{input_count, gate_count, entry_count, kind_at, first_gates, gates_of}
use Rattle.wire_table.specs.Wires.{first_where}
use Rattle.wire_table.specs.WireRules.{NoSuch}
use Rattle.words.specs.Found.{option_of}
use Rattle.wire_table.proofs.Laws.Finding.{Finds, found_first, found_none, finds_same, Passing, where_found}
use Rattle.listing_check.specs.declared.ListingSizes.{ListingSizes}
use Rattle.listing_check.specs.Answers.{listing_check_of}
use Rattle.listing_check.proofs.Laws.Judging.{Judged, sizes_wrong_lem, entry_wrong_lem, wires_wrong_lem, all_right, listing_judged}
use Rattle.listing_check.proofs.Laws.Places.{ListingBounds, listing_bounds}
use Rattle.openqasm.specs.Layout.{has_statement, AllWritten}
use Rattle.openqasm_export.specs.Answers.{is_unwritten, first_unwritten, statements_judged, export_check_of}

-- `find` over numbers from one on gives the first that passes the test.
module _ (test : ℕ → Bool) (n k : ℕ) where
  first_is : (r : Found ℕ)
      → MatchOption r ((m : ℕ) → n ≤ m → m < n + k → test m ≡ false)
      (λ i. (n ≤ i) × (i < n + k) × (test i ≡ true) × ((m : ℕ) → n ≤ m → m < i → test m ≡ false))
      → r ≡ option_of (first_where test n k)
  first_is None nowhere =
      sym (ap option_of (found_none (Passing test n k) _ (where_found test k n)
      (λ m h. true≢false (sym h.2 ∙ nowhere m h.0 h.1))))
  first_is (Some i) h =
      sym (ap option_of (found_first (Passing test n k) _ (where_found test k n) i
      (record {
        is_such = (h.0, h.1, h.2);
        none_before = λ m below passing. true≢false (sym passing.2 ∙ h.3 m passing.0 below);
      })))

  pub find_is_first : {F : Type 0} {g : Mut F (Bor ℕ × Unit {0}) Bool} (s u : Range ℕ) (f : F) (r : Found ℕ)
      → (xs : List ℕ) × (j : F) × YieldsThen nat_range_steps s xs r u × FoldsTo (λ p x q. CalledAt g p x false q) f xs j × MatchOption r ⊤ (λ x. (h : F) × CalledAt g j x true h)
      → s.start ≡ n
      → s.end ≡ n + k
      → ((x : ℕ) (b : Bool) (q : F) → CalledAt g f x b q → (q ≡ f) × (b ≡ test x))
      → r ≡ option_of (first_where test n k)
  find_is_first s u f r ran start stop tells =
      first_is r (subst (λ e. MatchOption r ((m : ℕ) → n ≤ m → m < e → test m ≡ false)
      (λ i. (n ≤ i) × (i < e) × (test i ≡ true) × ((m : ℕ) → n ≤ m → m < i → test m ≡ false))) stop
      (subst (λ e. MatchOption r ((m : ℕ) → e ≤ m → m < s.end → test m ≡ false)
      (λ i. (e ≤ i) × (i < s.end) × (test i ≡ true) × ((m : ℕ) → e ≤ m → m < i → test m ≡ false))) start
      (first_from_Range s u f r (λ x. test x ≡ true) (λ x. test x ≡ false) ran
      (λ x q c. sym (tells x true q c).1)
      (λ x q c. ((tells x false q c).0, sym (tells x false q c).1)))))

-- Entry e is a gate without a statement.
abbrev pub Unwritten : List ℕ → ℕ → Type 0
Unwritten b e = (input_count b ≤ e) × (e < entry_count b) × (has_statement (kind_at b e) ≡ false)

module _ (b : List ℕ) where
  -- The first such entry is found.
  pub unwritten_found : Finds (Unwritten b) (first_unwritten b)
  unfolding first_unwritten
  unwritten_found =
      finds_same
      (Passing (is_unwritten b) (input_count b) (gate_count b))
      (Unwritten b)
      (λ e h. (h.0, h.1, not-true (has_statement (kind_at b e)) h.2))
      (λ e h. (h.0, h.1, ap not h.2))
      (first_unwritten b)
      (where_found (is_unwritten b) (gate_count b) (input_count b))

  -- Where there is none, each gate has a statement.
  first_written : NoSuch (Unwritten b) → (j : ℕ) → j ≤ gate_count b → AllWritten (first_gates b j)
  first_written no_such zero few = tt
  first_written no_such (suc j) few =
      (of (has_statement (kind_at b (input_count b + j))) refl, first_written no_such j (omega arith))
    where
      of : (t : Bool) → has_statement (kind_at b (input_count b + j)) ≡ t → Truth t
      of true e = tt
      of false e = absurd (no_such (input_count b + j) (omega arith, omega arith, e))

  none_unwritten : first_unwritten b ≡ none → AllWritten (gates_of b)
  none_unwritten e =
      first_written (subst (Finds (Unwritten b)) e unwritten_found) (gate_count b) (omega arith)

  -- Where each gate has one, there is none.
  gate_written : (j i : ℕ) → AllWritten (first_gates b j) → i < j → Truth (has_statement (kind_at b (input_count b + i)))
  gate_written zero i written below = absurd (omega arith)
  gate_written (suc j) i written below = of (dec_lt i j) (gate_written j i written.1)
    where
      of : Dec (i < j)
          → (i < j → Truth (has_statement (kind_at b (input_count b + i))))
          → Truth (has_statement (kind_at b (input_count b + i)))
      of (yes older) earlier = earlier older
      of (no newest) earlier =
          let e : j ≡ i = omega arith in subst (λ k. Truth (has_statement (kind_at b (input_count b + k)))) e written.0

  all_written : AllWritten (gates_of b) → first_unwritten b ≡ none
  all_written written = found_none (Unwritten b) (first_unwritten b) unwritten_found no_such
    where
      no_such : NoSuch (Unwritten b)
      no_such e h =
          let i = e - input_count b in
          let here : input_count b + i ≡ e = omega (arith, h.0) in
          let this : Truth (has_statement (kind_at b e))
          = subst (λ k. Truth (has_statement (kind_at b k))) here
          (gate_written (gate_count b) i written (omega (arith, h.0, h.1))) in
          subst Truth h.2 this

  -- What the export takes: a listing that ticket 3's check accepts and in which each gate has a statement.
  pub export_accepted : {n : ListingSizes} → export_check_of b ≡ Ok n → (listing_check_of b ≡ Ok n) × AllWritten (gates_of b)
  unfolding export_check_of
  export_accepted {n} e = of (listing_check_of b) (first_unwritten b) refl e
    where
      of : (a : Result ListingSizes Refusal) (o : Option ℕ) → first_unwritten b ≡ o → statements_judged a o ≡ Ok n
          → (a ≡ Ok n) × AllWritten (gates_of b)
      of (Ok m) none found p = (p, none_unwritten found)
      of (Ok m) (some i) found p = cc
      of (Err x) o found p = cc

  pub accepted_exported : {n : ListingSizes} → listing_check_of b ≡ Ok n → AllWritten (gates_of b) → export_check_of b ≡ Ok n
  unfolding export_check_of
  accepted_exported e written = ap₂ statements_judged e (all_written written)

  -- What ticket 3's check refuses is refused likewise.
  pub refused_too : {x : Refusal} → listing_check_of b ≡ Err x → export_check_of b ≡ Err x
  unfolding export_check_of
  refused_too e = ap (λ a. statements_judged a (first_unwritten b)) e

-- The refusals of a listing that is to be exported have numbers from 24 to 28.
pub export_bounds : (b : List ℕ) → ListingBounds 28 (export_check_of b)
unfolding export_check_of
export_bounds b = of (listing_judged b) (listing_bounds b) (first_unwritten b) (unwritten_found b)
  where
    of : {a : Result ListingSizes Refusal} → Judged b a → ListingBounds 26 a → (o : Option ℕ) → Finds (Unwritten b) o → ListingBounds 28 (statements_judged a o)
    of (sizes_wrong_lem h) s o found = ((omega arith, omega arith), s.1)
    of (entry_wrong_lem f first) s o found = ((omega arith, omega arith), s.1)
    of (wires_wrong_lem f n broken) s o found = ((omega arith, omega arith), s.1)
    of (all_right f n goes) s none found = s
    of (all_right f n goes) s (some e) found =
        ((omega arith, omega arith), omega (arith, s.0, s.1, found.is_such.1))
