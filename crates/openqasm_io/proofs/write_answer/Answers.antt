-- `openqasm_io::write_answer` meets its contract. Assumes nothing.
use Rattle.std.specs.Prelude.{refl}
use Rattle.openqasm_io.proofs.Laws.Printed.{ends_written, ends_refused}
use Rattle.openqasm_io.proofs.write_answer.Goals as goal

pub returns-in-Ok : goal.returns-in-Ok
returns-in-Ok c = ends_written c.in-Ok.is refl refl

pub returns-in-Err : goal.returns-in-Err
returns-in-Err c =
    let w = c.write_refusal.ensures in
    ends_refused c.in-Err.is c.number_of.ensures c.place_of.ensures w.written w.place_len_bound
