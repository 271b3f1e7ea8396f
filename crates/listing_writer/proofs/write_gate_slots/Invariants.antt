use mathlib.Core.Path.{◌≡◌}
use Rattle.words.specs.Regions.{over}
use Rattle.words.specs.Quadwords.{quadwords_in}
use Rattle.listing.specs.Pieces.{pieces}
use Rattle.listing_writer.specs.Parts.{slots_piece}
use Rattle.listing_writer.proofs.write_gate_slots.Given as goal

abbrev pub invariant-loop-i : goal.invariant-loop-i
invariant-loop-i l = l.out ≡ over l.initial.out l.at (pieces (slots_piece (quadwords_in l.gates)) l.i-counter)
