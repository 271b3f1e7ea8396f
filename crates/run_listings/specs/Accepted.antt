-- What the check of a listing says of the listings that runs write (02, ticket 3). The record is proved in Theorems/Listings.
use Rattle.std.specs.Prelude.{ℕ, ◌≡◌, List, length, Ok}
use Rattle.check_program.specs.Answers.{labels_of}
use Rattle.listing_check.specs.Answers.{listing_check_of}
use Rattle.listing_check.specs.Meaning.{SoundListing}

-- "Every listing that a run writes must be accepted": with an input for each label of the file, the gates that the run answers, and
-- so many outputs.
pub record ListingAccepted (f : List ℕ) (gates : ℕ) (bytes : List ℕ) : Type 0 where
  pub outputs : ℕ
  pub sound : SoundListing bytes (length (labels_of f)) gates outputs
  pub accepted : listing_check_of bytes ≡ Ok (record { inputs = length (labels_of f); gates = gates; outputs = outputs })
