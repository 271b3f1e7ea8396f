-- Laws of the answer, with the working memory that was lent.
use Rattle.std.specs.Prelude.{ℕ, ◌≤◌, ◌<◌, ◌≡◌, true, false, List, [], ◌∷◌, length, get_or, replicate, Option as Found, Some, None, Result, Err}
use Rattle.std.proofs.Common.{arith, ◌∙◌}
use Rattle.std.proofs.Math.Decide.{dec_lt}
use Rattle.std.proofs.Math.Path.{sym, ap}
use Rattle.std.proofs.Math.Bool.{cond}
use Rattle.std.proofs.Math.Option.{Option, none, some}
use Rattle.std.proofs.lemmas.List.{length-replicate, get_or-replicate}
use Rattle.std.proofs.Math.ListN.{get_or-eq_default}
use Rattle.lent.specs.Lent.{too_short}
use Rattle.lent.proofs.Laws.Lent.{below_here, below_later, short_memory, long_memory}
use Rattle.refusals.specs.declared.Refusal.{Refusal}
use Rattle.refusals.specs.declared.Refusal.TheVariants.{Run}
use Rattle.listing.specs.Reading.{entry_count, inputs_of, gates_of, outputs_of}
use Rattle.wire_table.specs.Wires.{first_where, broken_at}
use Rattle.words.specs.Found.{option_of}
use Rattle.wire_table.specs.Table.{Holds}
use Rattle.wire_table.proofs.Laws.Table.{nothing_made}
use Rattle.listing_check.specs.declared.ListingSizes.{ListingSizes}
use Rattle.listing_check.specs.Answers.{sizes_wrong, entry_wrong, entries_judged, wires_judged, listing_check_of, most_wires}
use Rattle.listing_check.specs.Answers.{listing_lengths, listing_check_answer, listing_check_bytes}
use Rattle.listing_check.specs.Wires.{refused_with}
use Rattle.listing_check.proofs.Laws.Wires.{found_some, found_none}

-- Memory of zeros is a table without a wire.
pub cleared_table : (n : ℕ) (m : List ℕ) → ◌≡◌ {A = List ℕ} m (replicate n 0) → Holds m [] []
cleared_table n m e = nothing_made m (λ w. of w (dec_lt w n))
  where
    of : (w : ℕ) → Dec (w < n) → get_or m w 0 ≡ 0
    of w (yes p) = ap (λ l. get_or l w 0) e ∙ get_or-replicate n w 0 0 p
    of w (no p) = get_or-eq_default m 0 (omega (arith, ap length e, length-replicate {A = ℕ} n 0))

module _ (b : List ℕ) where
  module _ (work : List ℕ) where
    short : length work < most_wires → too_short listing_lengths (work ∷ []) ≡ true
    short h = below_here most_wires (length work) [] [] h

    long : most_wires ≤ length work → too_short listing_lengths (work ∷ []) ≡ false
    long h = below_later most_wires (length work) [] [] h

    -- Too short: 19, and nothing is touched.
    pub short_answered : length work < most_wires → refused_with 19 0 ≡ listing_check_answer b (work ∷ [])
    unfolding listing_check_answer
    short_answered h = sym (ap (λ t. cond t (Err (Run 19 0)) (listing_check_of b)) (short h))

    pub short_untouched : length work < most_wires → (work ∷ []) ≡ listing_check_bytes (work ∷ [])
    short_untouched h = short_memory listing_lengths (work ∷ []) (short h)

    -- Long enough: the answer to the bytes, and memory of the same length is cleared.
    long_answered : (x : Result ListingSizes Refusal) → most_wires ≤ length work → x ≡ listing_check_of b → x ≡ listing_check_answer b (work ∷ [])
    unfolding listing_check_answer
    long_answered x h e = e ∙ sym (ap (λ t. cond t (Err (Run 19 0)) (listing_check_of b)) (long h))

    pub long_cleared : (last : List ℕ) (n : ℕ)
        → most_wires ≤ length work
        → ◌≡◌ {A = List ℕ} last (replicate n 0)
        → n ≡ length work
        → (last ∷ []) ≡ listing_check_bytes (work ∷ [])
    long_cleared last n h e same =
        long_memory listing_lengths (work ∷ []) (last ∷ []) (long h)
        (ap (λ l. l ∷ []) (e ∙ ap (λ k. replicate k 0) same))

    -- The answer at each stage.
    module _ (room : most_wires ≤ length work) where
      pub sizes_answered : sizes_wrong b ≡ true → refused_with 24 0 ≡ listing_check_answer b (work ∷ [])
      unfolding listing_check_of
      sizes_answered e =
          long_answered (refused_with 24 0) room
          (sym (ap (λ t. cond t (Err (Run 24 0)) (entries_judged b (first_where (entry_wrong b) 0 (entry_count b)))) e))

      module _ (right : sizes_wrong b ≡ false) (found : Found ℕ)
          (is : found ≡ option_of (first_where (entry_wrong b) 0 (entry_count b))) where
        judged : (o : Option ℕ) → first_where (entry_wrong b) 0 (entry_count b) ≡ o → entries_judged b o ≡ listing_check_of b
        unfolding listing_check_of
        judged o e =
            sym (
            ap (λ t. cond t (Err (Run 24 0)) (entries_judged b (first_where (entry_wrong b) 0 (entry_count b)))) right
            ∙ ap (entries_judged b) e
            )

        pub entry_answered : {entry : ℕ} → found ≡ Some entry → refused_with 25 entry ≡ listing_check_answer b (work ∷ [])
        entry_answered {entry} e =
            long_answered (refused_with 25 entry) room (judged (some entry) (found_some _ (sym is ∙ e)))

        pub wires_answered : (x : Result ListingSizes Refusal)
            → found ≡ None
            → x ≡ wires_judged b (broken_at (inputs_of b) (gates_of b) (outputs_of b))
            → x ≡ listing_check_answer b (work ∷ [])
        wires_answered x h e = long_answered x room (e ∙ judged none (found_none _ (sym is ∙ h)))
