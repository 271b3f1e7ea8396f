-- `listcheck_io::print_all` meets its contract: the text holds the line. Assumes nothing.
use Rattle.std.specs.Prelude.{◌≤◌, length}
use Rattle.std.proofs.Common.{arith}
use Rattle.wirelist_lines.specs.Least.{refusal_bytes}
use Rattle.text.proofs.Laws.Writing.{all_written}
use Rattle.listcheck_io.proofs.print_all.Goals as goal

pub returns : goal.returns
returns c =
    let w = c.print_line.ensures in
    let room : refusal_bytes ≤ length c.args.text.now = omega arith in
    record { text_after = all_written w.written (omega arith); upper_bound = omega (arith, w.written.place, c.print_line.auto.text) }
