-- `listing_writer::put_bytes` meets its contract. Assumes nothing.
use Prim.Native.Nat.{◌/◌, ◌%◌}
use Rattle.listing.proofs.Laws.Pieces.{over_two}
use Rattle.listing_writer.proofs.put_bytes.Goals as goal

pub returns : goal.returns
returns c =
    let a = c.args in over_two a.out.now a.at (a.value % 256) (a.value / 256) c.requires.at_in_bounds
