-- `listing_writer::write_kinds` meets its contract. Assumes nothing.
use Prim.Native.Nat.{◌+◌, ◌%◌}
use borrow.Author.Rules.{rules}
use lib.ListN.{get_or}
use Rattle.words.specs.Words.{words}
use Rattle.words.specs.Quadwords.{quadwords_in, quadword_at, word_in}
use Rattle.machine_circuits.specs.Layout.{labels_start}
use Rattle.listing_writer.specs.Parts.{input_byte}
use Rattle.listing_writer.proofs.Laws.Writing.{kinds_written}
use Rattle.listing_writer.proofs.write_kinds.Goals as goal

pub returns : goal.returns
returns c =
    let a = c.args in
    let ws = words a.types.now in
    let rs = quadwords_in a.gates.now in
    kinds_written ws a.inputs rs a.count a.out.now c.write_bytes.new.out c.write_bytes-2.new.out c.requires.count_in_bounds
    (c.write_bytes.ensures (λ i. input_byte (get_or ws (labels_start + i) 0)) (λ i b below p. search rules))
    (c.write_bytes-2.ensures (λ i. word_in (quadword_at rs i) 0 % 256) (λ i b below p. search rules))
