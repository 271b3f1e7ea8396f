-- `openqasm_io::print_import` meets its contract: the output buffer and the working memory are long enough. Assumes nothing.
use Rattle.std.proofs.Common.{arith}
use Rattle.std.specs.Prelude.{refl}
use Rattle.openqasm_io.proofs.Laws.Printed.{import_printed}
use Rattle.openqasm_io.proofs.print_import.Goals as goal

pub returns : goal.returns
returns c =
    let a = c.args in
    let x = c.import-answer in
    let w = c.write_answer in
    let p =
    import_printed a.text.now a.out.now w.new.out _ w.result (omega arith) refl x.ensures.answer x.ensures.bytes
    w.ensures in
    record { out_after = p.0; upper_bound = p.1 }
