-- Laws of specs/Parts.antt.
use Rattle.std.specs.Prelude.{ℕ, length}
use mathlib.Core.List.{List, [], ◌∷◌, ◌++◌, flat_map}
use Rattle.machine_terms.specs.Trees.{Node}
use Rattle.words.specs.Quadwords.{Quadword}
use Rattle.listing.specs.Listing.{bytes_of}
use Rattle.listing_writer.specs.Parts.{kinds_read, slots_read, outputs_read}

-- The whole listing.
abbrev pub listing_read : List ℕ → ℕ → List Quadword → ℕ → List Node → ℕ → List ℕ
listing_read ws L rs G ns size =
    flat_map bytes_of (L ∷ G ∷ length (outputs_read ns size) ∷ [])
    ++ (kinds_read ws L rs G ++ (slots_read L rs G ++ flat_map bytes_of (outputs_read ns size)))
