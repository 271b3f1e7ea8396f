-- What the tests from 4 on know of a file: its sizes are right, and so is its length.
use Rattle.std.specs.Prelude.{ℕ, ◌+◌, ◌*◌, ◌≤◌, ◌≡◌, List, length, Bool, ◌&&◌, leb}
use Rattle.program.specs.Format.{label_count, type_count, term_count, entry_count}
use Rattle.program.specs.declared.format.Sizes.{Sizes}
use Rattle.rules.specs.Sizes.{most_labels, most_types, most_terms}
use Rattle.program.specs.Format.{within}

-- No accepted file has more entries.
abbrev pub most_file_entries : ℕ
most_file_entries = most_labels + most_types + most_terms

-- The sizes are those of the file and in their ranges, and its length is right.
pub record Sized (f : List ℕ) (s : Sizes) : Type 0 where
  pub labels_are : s.labels ≡ label_count f
  pub types_are : s.types ≡ type_count f
  pub terms_are : s.terms ≡ term_count f
  pub labels_fit : label_count f ≤ most_labels
  pub types_fit : type_count f ≤ most_types
  pub some_term : 1 ≤ term_count f
  pub terms_fit : term_count f ≤ most_terms
  pub length_is : length f ≡ 6 + 3 * entry_count f

-- Whether sizes are in their ranges: L 0 to 64, P 0 to 512, N 1 to 2,048.
abbrev pub sizes_fit : Sizes → Bool
sizes_fit s = leb s.labels most_labels && (leb s.types most_types && within 1 most_terms s.terms)
