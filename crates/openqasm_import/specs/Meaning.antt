-- What an import means (02, ticket 4). The last record is proved in Theorems/Imports.
use Rattle.std.specs.Prelude.{ℕ, ◌≡◌, ◌↔◌, List}
use Rattle.std.proofs.Math.Option.{none, some}
use Rattle.listing.specs.Reading.{gates_of}
use Rattle.listing_check.specs.Meaning.{SoundListing}
use Rattle.openqasm.specs.Layout.{AllWritten, export_of}
use Rattle.openqasm_import.specs.Answers.{import_of}

-- The text is the export of this listing: ticket 3's check accepts it, and each of its gates has a statement.
pub record ExportedFrom (b text : List ℕ) : Type 0 where
  pub inputs : ℕ
  pub gates : ℕ
  pub outputs : ℕ
  pub accepted : SoundListing b inputs gates outputs
  pub written : AllWritten (gates_of b)
  pub text_is : export_of b ≡ text

-- "Importing an exported text gives the same listing; any other text is refused."
pub record ImportMeans (text : List ℕ) : Type 0 where
  pub imported : (b : List ℕ) → (import_of text ≡ some b) ↔ ExportedFrom b text
  pub refused : (import_of text ≡ none) ↔ ((b : List ℕ) → ExportedFrom b text → ⊥)
