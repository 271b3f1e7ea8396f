-- A scan for the first number that passes a test.
use Rattle.std.specs.Prelude.{ℕ, ◌≤◌, ◌<◌, ◌≡◌, Bool, true, false, List, Option as Found, None, Some, MatchOption, ⊤}
use Rattle.std.specs.Fn.{CalledAt}
use Rattle.std.specs.Iterator.{YieldsThen}
use Rattle.std.specs.List.{FoldsTo}
use Rattle.std.proofs.Common.{arith, sym, ◌∙◌, ap, subst, true≢false}
use Rattle.std.proofs.iter.Yields.{nat_range_steps}
use Rattle.std.proofs.lemmas.Iterator.{first_from_Range}
use Rattle.std.specs.declared.ops.Range.{Range}
use denote.Param.Members.{Mut}
use denote.Ref.{Bor}
use Rattle.wire_table.specs.Wires.{first_where}
use Rattle.words.specs.Found.{option_of}
use Rattle.wire_table.proofs.Laws.Finding.{Passing, found_first, found_none, where_found}

-- `find` over the numbers below an end gives the first that passes the test.
module _ (test : ℕ → Bool) (end : ℕ) where
  first_is : (r : Found ℕ)
      → MatchOption r ((m : ℕ) → 0 ≤ m → m < end → test m ≡ false)
      (λ i. (0 ≤ i) × (i < end) × (test i ≡ true) × ((m : ℕ) → 0 ≤ m → m < i → test m ≡ false))
      → r ≡ option_of (first_where test 0 end)
  first_is None nowhere =
      sym (ap option_of (found_none (Passing test 0 end) _ (where_found test end 0)
      (λ m h. true≢false (sym h.2 ∙ nowhere m h.0 (omega (arith, h.1))))))
  first_is (Some i) h =
      sym (ap option_of (found_first (Passing test 0 end) _ (where_found test end 0) i
      (record {
        is_such = (h.0, omega (arith, h.1), h.2);
        none_before = λ m below passing. true≢false (sym passing.2 ∙ h.3 m passing.0 below);
      })))

  pub find_is_first : {F : Type 0} {g : Mut F (Bor ℕ × Unit {0}) Bool} (s u : Range ℕ) (f : F) (r : Found ℕ)
      → (xs : List ℕ) × (j : F) × YieldsThen nat_range_steps s xs r u × FoldsTo (λ p x q. CalledAt g p x false q) f xs j × MatchOption r ⊤ (λ x. (h : F) × CalledAt g j x true h)
      → s.start ≡ 0
      → s.end ≡ end
      → ((x : ℕ) (b : Bool) (q : F) → CalledAt g f x b q → (q ≡ f) × (b ≡ test x))
      → r ≡ option_of (first_where test 0 end)
  find_is_first s u f r ran start stop tells =
      first_is r (subst (λ e. MatchOption r ((m : ℕ) → 0 ≤ m → m < e → test m ≡ false)
      (λ i. (0 ≤ i) × (i < e) × (test i ≡ true) × ((m : ℕ) → 0 ≤ m → m < i → test m ≡ false))) stop
      (subst (λ e. MatchOption r ((m : ℕ) → e ≤ m → m < s.end → test m ≡ false)
      (λ i. (e ≤ i) × (i < s.end) × (test i ≡ true) × ((m : ℕ) → e ≤ m → m < i → test m ≡ false))) start
      (first_from_Range s u f r (λ x. test x ≡ true) (λ x. test x ≡ false) ran
      (λ x q k. sym (tells x true q k).1)
      (λ x q k. ((tells x false q k).0, sym (tells x false q k).1)))))
