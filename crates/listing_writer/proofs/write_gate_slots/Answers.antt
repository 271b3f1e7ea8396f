-- `listing_writer::write_gate_slots` meets its contract. The invariant: the slots of the gates passed are written. Assumes nothing.
use Prim.Native.Nat.{◌+◌, ◌*◌}
use native.Mathlib.Omega.{arith}
use borrow.Author.Rules.{rules}
use mathlib.Core.Path.{◌≡◌}
use Rattle.words.specs.Quadwords.{quadwords_in, quadword_at}
use Rattle.words.proofs.Laws.Quadwords.{quadword_words_below}
use Rattle.machine_circuits.specs.Layout.{gate_of, slot_of}
use Rattle.listing.specs.Listing.{entry_slots}
use Rattle.listing_writer.specs.Parts.{slots_piece}
use Rattle.listing.proofs.Laws.Pieces.{piece_written, none_written}
use Rattle.listing_writer.proofs.Laws.Reading.{length_slots_piece, slot_below}
use Rattle.listing_writer.proofs.write_gate_slots.Goals as goal

pub loop-i-init : goal.loop-i-init
loop-i-init c = none_written _ _ _

pub write_words-requires-clause-small : goal.write_words-requires-clause-small
write_words-requires-clause-small c = λ slot w below p.
    let m = c.args.gates.now in
    let r = quadword_at (quadwords_in m) c.loop-i.i-counter in
    let e : w ≡ slot_of (gate_of r) slot = search rules in
    omega (arith, e, slot_below r slot (quadword_words_below m (λ j. (c.type_inv.gates j).fits) c.loop-i.i-counter))

pub loop-i-preserved : goal.loop-i-preserved
loop-i-preserved c =
    let a = c.args in
    let s = c.loop-i in
    let rs = quadwords_in a.gates.now in
    piece_written (slots_piece rs) (entry_slots * 2) a.out.now s.out c.write_words.new.out a.at (a.at + 2 * entry_slots * s.i-counter)
    s.i-counter
    (length_slots_piece rs)
    (omega arith)
    (omega (arith, c.loop-i-test.true, c.requires))
    s.invariant
    (c.write_words.ensures (slot_of (gate_of (quadword_at rs s.i-counter))) (λ slot w below p. search rules))

pub returns : goal.returns
returns c = let done : c.loop-i.i-counter ≡ c.args.count = omega arith in rw done at c.loop-i.invariant
