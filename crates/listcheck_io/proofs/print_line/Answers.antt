-- `listcheck_io::print_line` meets its contract: the working memory is long enough. Assumes nothing.
use Rattle.std.specs.Prelude.{refl}
use Rattle.listcheck_io.proofs.Laws.Printed.{answered_line}
use Rattle.listcheck_io.proofs.print_line.Goals as goal

pub returns : goal.returns
returns c =
    let w = c.write_answer.ensures in
    let a = answered_line c.args.listing.now _ c.check_listing-answer.ensures.answer (w.written, w.answer_len_bound) refl in
    record { written = a.0; listing_len_bound = a.1 }
