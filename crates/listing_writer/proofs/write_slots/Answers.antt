-- `listing_writer::write_slots` meets its contract. Assumes nothing.
use Prim.Native.Nat.{◌+◌, ◌*◌}
use native.Mathlib.Omega.{arith}
use borrow.Author.Rules.{rules}
use Rattle.rules.specs.Slots.{no_wire}
use Rattle.words.specs.Quadwords.{quadwords_in}
use Rattle.listing.specs.Listing.{entry_slots}
use Rattle.listing_writer.proofs.Laws.Writing.{slots_written}
use Rattle.listing_writer.proofs.write_slots.Goals as goal

pub returns : goal.returns
returns c =
    let a = c.args in
    slots_written a.inputs (quadwords_in a.gates.now) a.count a.out.now c.write_words.new.out c.write_gate_slots.new.out a.at
    (a.at + 2 * entry_slots * a.inputs)
    (omega arith)
    c.requires
    (c.write_words.ensures (λ i. no_wire) (λ i w below p. search rules))
    c.write_gate_slots.ensures
