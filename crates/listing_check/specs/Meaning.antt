-- What each answer of the check of a listing means (02, ticket 3). The last record is proved in Theorems/Listings.
use Rattle.std.specs.Prelude.{ℕ, ◌≤◌, ◌<◌, ◌≡◌, ◌↔◌, ◌⊎◌, List, T as Truth, length, Ok, Err}
use Rattle.rules.specs.Types.{Wire, Bit, Qubit}
use Rattle.rules.specs.Gates.{is_gate}
use Rattle.rules.specs.Slots.{no_wire}
use Rattle.rules.specs.Terms.{Gate}
use Rattle.rules.specs.Sizes.{most_labels, most_gates}
use Rattle.refusals.specs.declared.Refusal.{Refusal}
use Rattle.refusals.specs.declared.Refusal.TheVariants.{Run}
use Rattle.listing.specs.Listing.{input_kind, entry_slots, listing_bytes, listing_length, most_outputs}
use Rattle.listing.specs.Reading.{input_count, gate_count, output_count, entry_count, kind_at, slot_at, inputs_of, gates_of, outputs_of}
use Rattle.wire_table.specs.WireRules.{GoesOnce, First, NoSuch, BrokenAt}
use Rattle.listing_check.specs.Answers.{slots_used, listing_check_of}

-- "accepted exactly if each wire has been made before it is taken, has the type its taker needs, and goes exactly once to a gate or an
-- output": the bytes are the listing of inputs, gates and outputs within the sizes, of which that holds.
pub record SoundListing (b : List ℕ) (L G O : ℕ) : Type 0 where
  pub inputs : List Wire
  pub gates : List Gate
  pub outs : List ℕ
  pub bytes_are : b ≡ listing_bytes inputs gates outs
  pub input_count_is : L ≡ length inputs
  pub gate_count_is : G ≡ length gates
  pub output_count_is : O ≡ length outs
  pub few_inputs : L ≤ most_labels
  pub few_gates : G ≤ most_gates
  pub few_outputs : O ≤ most_outputs
  pub goes_once : GoesOnce inputs gates outs

-- "24 sizes beyond 01's or a wrong length".
pub data SizesWrong (b : List ℕ) : Type 0 where
  no_sizes : length b < 6 → SizesWrong b
  many_inputs : most_labels < input_count b → SizesWrong b
  many_gates : most_gates < gate_count b → SizesWrong b
  many_outputs : most_outputs < output_count b → SizesWrong b
  other_length : (length b ≡ listing_length (input_count b) (gate_count b) (output_count b) → ⊥) → SizesWrong b

-- "entry whose kind is not allowed there or whose unused slot is not 65,535".
pub data EntryWrong (b : List ℕ) (i : ℕ) : Type 0 where
  input_kind_wrong : i < input_count b
      → (kind_at b i ≡ input_kind Bit → ⊥)
      → (kind_at b i ≡ input_kind Qubit → ⊥)
      → EntryWrong b i
  gate_kind_wrong : input_count b ≤ i → (Truth (is_gate (kind_at b i)) → ⊥) → EntryWrong b i
  unused_slot : {k : ℕ} → slots_used b i ≤ k → k < entry_slots → (slot_at b i k ≡ no_wire → ⊥) → EntryWrong b i

-- Such an entry of the listing.
abbrev pub WrongEntry : List ℕ → ℕ → Type 0
WrongEntry b i = (i < entry_count b) × EntryWrong b i

-- The answers to the bytes of a listing: each exactly where 02 says so, and no other.
pub record ListingMeans (b : List ℕ) : Type 0 where
  pub accepted : (L G O : ℕ) → (listing_check_of b ≡ Ok (record { inputs = L; gates = G; outputs = O })) ↔ SoundListing b L G O
  pub one_listing : {L G O : ℕ} (x : SoundListing b L G O)
      → (x.inputs ≡ inputs_of b) × (x.gates ≡ gates_of b) × (x.outs ≡ outputs_of b)
  pub twenty_four : (listing_check_of b ≡ Err (Run 24 0)) ↔ SizesWrong b
  pub twenty_five : (p : ℕ) → (listing_check_of b ≡ Err (Run 25 p)) ↔ ((SizesWrong b → ⊥) × First (WrongEntry b) p)
  pub twenty_six : (p : ℕ)
      → (listing_check_of b ≡ Err (Run 26 p))
      ↔ ((SizesWrong b → ⊥) × NoSuch (WrongEntry b) × BrokenAt (inputs_of b) (gates_of b) (outputs_of b) p)
  pub no_other : (x : Refusal)
      → listing_check_of b ≡ Err x
      → (x ≡ Run 24 0) ⊎ (((p : ℕ) × (x ≡ Run 25 p)) ⊎ ((p : ℕ) × (x ≡ Run 26 p)))
