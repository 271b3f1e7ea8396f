-- Laws of specs/Lengths.antt.
use Rattle.std.specs.Prelude.{ℕ, zero, suc, ◌+◌, ◌*◌, ◌≤◌, ◌≡◌, refl, length}
use Rattle.std.proofs.Common.{arith, suc-mul, zero-mul, sym, ◌∙◌, ap, length-append}
use mathlib.Core.List.{List, [], ◌∷◌, ◌++◌, map, flat_map}
use Rattle.std.proofs.lemmas.List.{length-map, length-reverse}
use Rattle.rules.specs.Types.{Wire}
use Rattle.rules.specs.Gates.{gate_table}
use Rattle.rules.specs.Terms.{Gate, ◌on◌}
use Rattle.rules.specs.Circuits.{TakesEarlier, no_gate, next_gate}
use Rattle.listing.specs.Listing.{bytes_of, input_kind, gate_kind, entry_slots, slots, input_slots, gate_slots, oldest_first}
use Rattle.listing.specs.Listing.{sizes, kinds, all_slots, listing_bytes, listing_length, most_bytes, most_outputs}
use Rattle.listing.specs.Lengths.{KindsFit}
use Rattle.rules.specs.Sizes.{most_labels, most_gates}
use Rattle.rules.proofs.Laws.Wires.{nth_some_within}

pub length_flat : {A B : Type 0} (f : A → List B) (n : ℕ) (xs : List A)
    → ((x : A) → length (f x) ≡ n)
    → length (flat_map f xs) ≡ length xs * n
unfolding flat_map
length_flat f n [] h = sym (zero-mul n)
length_flat f n (x ∷ xs) h =
    length-append (f x) (flat_map f xs) ∙ omega (arith, h x, length_flat f n xs h, suc-mul (length xs) n)

pub length_bytes : (xs : List ℕ) → length (flat_map bytes_of xs) ≡ length xs * 2
length_bytes xs = length_flat bytes_of 2 xs (λ x. refl)

pub length_slots : (k : ℕ) (ws : List ℕ) → length (slots k ws) ≡ k
length_slots zero ws = refl
length_slots (suc k) [] = ap suc (length_slots k [])
length_slots (suc k) (w ∷ ws) = ap suc (length_slots k ws)

pub length_gate_slots : (g : Gate) → length (gate_slots g) ≡ entry_slots
length_gate_slots (n on ws) = length_slots entry_slots ws

pub length_oldest : (gs : List Gate) → length (oldest_first gs) ≡ length gs
length_oldest gs = omega (arith, length-reverse gs)

pub length_kinds : (I : List Wire) (gs : List Gate) → length (kinds I gs) ≡ length I + length gs
length_kinds I gs =
    omega (
      arith,
      length-append (map input_kind I) (map gate_kind (oldest_first gs)),
      length-map I input_kind,
      length-map (oldest_first gs) gate_kind,
      length_oldest gs,
    )

pub length_all_slots : (I : List Wire) (gs : List Gate) → length (all_slots I gs) ≡ (length I + length gs) * entry_slots
length_all_slots I gs =
    omega (
      arith,
      length-append (flat_map input_slots I) (flat_map gate_slots (oldest_first gs)),
      length_flat input_slots entry_slots I (λ α. length_slots entry_slots []),
      length_flat gate_slots entry_slots (oldest_first gs) length_gate_slots,
      length_oldest gs,
    )

-- 02, ticket 6: "the length is 6 + 7(L+G) + 2O".
pub length_listing : (I : List Wire) (gs : List Gate) (outs : List ℕ)
    → length (listing_bytes I gs outs) ≡ listing_length (length I) (length gs) (length outs)
unfolding listing_bytes
length_listing I gs outs =
    let S = flat_map bytes_of (sizes I gs outs) in
    let E = flat_map bytes_of (all_slots I gs) in
    let O = flat_map bytes_of outs in
    omega (
      arith,
      length-append S (kinds I gs ++ (E ++ O)),
      length-append (kinds I gs) (E ++ O),
      length-append E O,
      length_bytes (sizes I gs outs),
      length_kinds I gs,
      length_bytes (all_slots I gs),
      length_all_slots I gs,
      length_bytes outs,
    )

-- "at most 15,302".
pub listing_fits : (I : List Wire) (gs : List Gate) (outs : List ℕ)
    → length I ≤ most_labels
    → length gs ≤ most_gates
    → length outs ≤ most_outputs
    → length (listing_bytes I gs outs) ≤ most_bytes
listing_fits I gs outs few_inputs few_gates few_outputs = omega (arith, length_listing I gs outs)

-- The gates of a sound circuit are those of the table, whose numbers are bytes.
pub kinds_fit : {I : List Wire} {gs : List Gate} → TakesEarlier I gs → KindsFit gs
kinds_fit no_gate = tt
kinds_fit (next_gate {n = n} e ws t) = (omega (arith, nth_some_within gate_table n e), kinds_fit t)
