use mathlib.Core.Path.{◌≡◌}
use mathlib.Core.List.{flat_map}
use lib.ListN.{length}
use Rattle.machine_nodes.specs.Nodes.{nodes_in}
use Rattle.words.specs.Regions.{over}
use Rattle.listing.specs.Listing.{bytes_of}
use Rattle.listing_writer.specs.Parts.{outputs_read}
use Rattle.listing_writer.proofs.write_outputs.Given as goal

abbrev pub invariant-loop-i : goal.invariant-loop-i
invariant-loop-i l =
    (l.found ≡ length (outputs_read (nodes_in l.nodes) l.i))
    × (l.out ≡ over l.initial.out l.at (flat_map bytes_of (outputs_read (nodes_in l.nodes) l.i)))
