-- `wirelist_io::print_text` meets its contract: no buffer is too short. Assumes nothing.
use Rattle.std.specs.Prelude.{refl}
use Rattle.wirelist_io.proofs.Theorems.Printed.{answered_text}
use Rattle.wirelist_io.proofs.print_text.Goals as goal

pub returns : goal.returns
returns c =
    let e = c.run-answer.ensures in
    let w = c.write_answer.ensures in
    let a = answered_text c.args.file.now _ _ _ e.answer e.bytes (w.written, w.refusal_fits) refl in
    record { written = a.0; file_len_bound = a.1 }
