-- Laws of one entry: its kind, and the slots that it does not use.
use Rattle.std.specs.Prelude.{ℕ, zero, suc, ◌+◌, ◌-◌, ◌*◌, ◌≤◌, ◌<◌, ◌≡◌, refl, Bool, true, false, not, ◌||◌, cond, List, eqb}
use Rattle.std.specs.List.{list_any, range_with_len}
use Rattle.std.proofs.Common.{arith, ◌∙◌, lt-ltb, le-ltb}
use Rattle.std.proofs.Math.Path.{ap}
use Rattle.rules.specs.Types.{Bit, Qubit}
use Rattle.rules.specs.Gates.{is_gate, wires_in}
use Rattle.rules.specs.Slots.{no_wire}
use Rattle.words.specs.Numbers.{word_at}
use Rattle.listing.specs.Listing.{input_kind, entry_slots}
use Rattle.listing.specs.Reading.{input_count, kind_at, slots_from}
use Rattle.listing_check.specs.Answers.{any_wire, entry_wrong}

-- Any of so many slots from one on.
pub any_slot : (b : List ℕ) (from k n : ℕ)
    → list_any (λ s. not (eqb (word_at b (from + 2 * s)) no_wire)) (range_with_len k n) ≡ any_wire b from k n
any_slot b from k zero = refl
any_slot b from k (suc n) =
    let next : k + 1 ≡ suc k = omega arith in
    ap (λ t. not (eqb (word_at b (from + 2 * k)) no_wire) || t)
    (ap (λ j. list_any (λ s. not (eqb (word_at b (from + 2 * s)) no_wire)) (range_with_len j n)) next ∙ any_slot b from (suc k) n)

-- An input is wrong by its kind or by any slot, a gate by its kind or by the slots behind the wires that it takes.
wrong_with : List ℕ → ℕ → Bool → Bool
wrong_with b i input =
    not (cond input (eqb (kind_at b i) (input_kind Bit) || eqb (kind_at b i) (input_kind Qubit)) (is_gate (kind_at b i)))
    || any_wire b (slots_from b i) (cond input 0 (wires_in (kind_at b i))) (entry_slots - cond input 0 (wires_in (kind_at b i)))

module _ (b : List ℕ) (i : ℕ) where
  module _ (input : i < input_count b) where
    as_input : entry_wrong b i
        ≡ not (eqb (kind_at b i) (input_kind Bit) || eqb (kind_at b i) (input_kind Qubit)) || any_wire b (slots_from b i) 0 (entry_slots - 0)
    unfolding wrong_with
    as_input = ap (wrong_with b i) (lt-ltb i (input_count b) input)

    pub known_input : eqb (kind_at b i) (input_kind Bit) || eqb (kind_at b i) (input_kind Qubit) ≡ true
        → entry_wrong b i ≡ any_wire b (slots_from b i) 0 (entry_slots - 0)
    known_input e = as_input ∙ ap (λ t. not t || any_wire b (slots_from b i) 0 (entry_slots - 0)) e

    pub no_input : eqb (kind_at b i) (input_kind Bit) || eqb (kind_at b i) (input_kind Qubit) ≡ false → entry_wrong b i ≡ true
    no_input e = as_input ∙ ap (λ t. not t || any_wire b (slots_from b i) 0 (entry_slots - 0)) e

  module _ (behind : input_count b ≤ i) where
    as_gate : entry_wrong b i
        ≡ not (is_gate (kind_at b i)) || any_wire b (slots_from b i) (wires_in (kind_at b i)) (entry_slots - wires_in (kind_at b i))
    unfolding wrong_with
    as_gate = ap (wrong_with b i) (le-ltb i (input_count b) behind)

    pub known_gate : is_gate (kind_at b i) ≡ true
        → entry_wrong b i ≡ any_wire b (slots_from b i) (wires_in (kind_at b i)) (entry_slots - wires_in (kind_at b i))
    known_gate e =
        as_gate
        ∙ ap (λ t. not t || any_wire b (slots_from b i) (wires_in (kind_at b i)) (entry_slots - wires_in (kind_at b i))) e

    pub no_gate_there : is_gate (kind_at b i) ≡ false → entry_wrong b i ≡ true
    no_gate_there e =
        as_gate
        ∙ ap (λ t. not t || any_wire b (slots_from b i) (wires_in (kind_at b i)) (entry_slots - wires_in (kind_at b i))) e
