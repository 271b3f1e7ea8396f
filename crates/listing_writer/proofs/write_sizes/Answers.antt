-- `listing_writer::write_sizes` meets its contract. Assumes nothing.
use Rattle.listing_writer.proofs.Laws.Writing.{sizes_written}
use Rattle.listing_writer.proofs.write_sizes.Goals as goal

pub returns : goal.returns
returns c =
    let a = c.args in
    sizes_written a.out.now c.put_bytes.new.out c.put_bytes-2.new.out c.put_bytes-3.new.out a.inputs a.count a.outputs c.requires.in_bounds
    c.put_bytes.ensures
    c.put_bytes-2.ensures
    c.put_bytes-3.ensures
