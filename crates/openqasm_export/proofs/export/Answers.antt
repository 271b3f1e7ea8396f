-- `openqasm_export::export` meets its contract. Assumes nothing.
use native.Mathlib.Omega.{arith}
use Rattle.openqasm_export.proofs.Laws.Answering.{short_answered, long_answered}
use Rattle.openqasm_export.proofs.export.Goals as goal

pub returns-then-out-lt-MOST_TEXT : goal.returns-then-out-lt-MOST_TEXT
returns-then-out-lt-MOST_TEXT c =
    let a = c.args in
    let r = short_answered a.listing.now a.out.now a.work.now (λ out_long work_long. omega (arith, c.then-out-lt-MOST_TEXT.either)) in
    record { answer = r.0; bytes = r.1 }

pub returns : goal.returns
returns c =
    let a = c.args in
    let answer = c.export_uncleared-answer in
    let r = long_answered a.listing.now a.out.now a.work.now answer.new.out c.clear.new.memory _ c.if-out-lt-MOST_TEXT.false c.if-work-lt-LEAST_WORK.false answer.ensures.value answer.ensures.out_after c.clear.ensures answer.auto.work in
    record { answer = r.0; bytes = r.1 }
