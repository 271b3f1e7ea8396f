-- What a program has to be for a file to hold it.
use Rattle.std.specs.Prelude.{◌≤◌, Bool, true, ◌&&◌, List, [], ◌∷◌, T as Truth, length}
use Rattle.rules.specs.Types.{Wire, Ty}
use Rattle.rules.specs.Terms.{Term}
use Rattle.rules.specs.Sizes.{nodes, most_labels, most_types, most_terms}
use Rattle.rules.specs.Counting.{source}
use Rattle.program.specs.Trees.{formed, closed_under, labels_below, gates_known, boxes_wired}
use Rattle.program.specs.Encoding.{types_in, entries_of}

-- Each Circ in the types of a list has wire types for its parts.
abbrev pub all_formed : List Ty → Bool
all_formed [] = true
all_formed (A ∷ As) = formed A && all_formed As

-- A program that a file can hold with each of its types written out: it has no circuit constant, it is within the sizes,
-- and it passes what `read` tests.
pub record Writable (labels : List Wire) (M : Term) : Type 0 where
  pub labels_fit : length labels ≤ most_labels
  pub types_fit : entries_of (types_in M) ≤ most_types
  pub nodes_fit : nodes M ≤ most_terms
  pub is_source : Truth (source M)
  pub types_formed : Truth (all_formed (types_in M))
  pub labels_are_below : Truth (labels_below (length labels) M)
  pub gates_are_known : Truth (gates_known M)
  pub boxes_are_wired : Truth (boxes_wired M)
  pub closed : Truth (closed_under 0 M)
