-- The buffers that are lent to an import.
use Rattle.std.specs.Prelude.{ℕ, ◌≤◌, List, length}
use Rattle.listing.specs.Listing.{most_bytes}
use Rattle.listing_check.specs.Answers.{most_wires}
use Rattle.openqasm.specs.Layout.{most_text}
use Rattle.openqasm_parts.specs.Reading.{slots_bytes}

-- No buffer is shorter than its least length.
pub record AllLong (out slots listing table exported : List ℕ) : Type 0 where
  pub out_long : most_bytes ≤ length out
  pub slots_long : slots_bytes ≤ length slots
  pub listing_long : most_bytes ≤ length listing
  pub table_long : most_wires ≤ length table
  pub exported_long : most_text ≤ length exported
