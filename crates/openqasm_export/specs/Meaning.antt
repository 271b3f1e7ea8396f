-- What 28 means (02, ticket 5). `twenty_eight` of Theorems/Exports: it is the answer exactly where the last record says.
use Rattle.std.specs.Prelude.{ℕ, ◌≤◌, ◌<◌, ◌≡◌, ◌⊎◌, List, Ok}
use Rattle.rules.specs.Gates.{Init, Discard}
use Rattle.listing.specs.Reading.{input_count, entry_count, kind_at}
use Rattle.wire_table.specs.WireRules.{First}
use Rattle.listing_check.specs.Answers.{listing_check_of}

-- Entry e is a gate, and one of these two.
abbrev pub InitOrDiscard : List ℕ → ℕ → Type 0
InitOrDiscard b e = (input_count b ≤ e) × (e < entry_count b) × ((kind_at b e ≡ Init) ⊎ (kind_at b e ≡ Discard))

-- "28 export of a listing with gate 9 or 10, place the first such entry": ticket 3's check accepts the listing, and e is that entry.
pub record UnwrittenAt (b : List ℕ) (e : ℕ) : Type 0 where
  pub inputs : ℕ
  pub gates : ℕ
  pub outputs : ℕ
  pub accepted : listing_check_of b ≡ Ok (record { inputs = inputs; gates = gates; outputs = outputs })
  pub first_such : First (InitOrDiscard b) e
