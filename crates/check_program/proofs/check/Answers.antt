-- `check_program::check` meets its contract: on each way through it, the answer and the bytes of both buffers. Assumes nothing.
use Rattle.check_program.proofs.Laws.ProgramTypes.{checks_short_out, checks_short_work, checks_refused, checks_accepted}
use Rattle.check_program.proofs.Theorems.Checked.{accepted_is_safe, check_means}
use Rattle.check_program.proofs.check.Goals.{then-out-lt-LEAST_OUT-via-then-out-lt-LEAST_OUT}
use Rattle.check_program.proofs.check.Goals.{then-out-lt-LEAST_OUT-via-else-out-lt-LEAST_OUT+then-work-lt-LEAST_WORK}
use Rattle.check_program.proofs.check.Goals as goal

pub returns-then-out-lt-LEAST_OUT : goal.returns-then-out-lt-LEAST_OUT
returns-then-out-lt-LEAST_OUT c =
    let s = c.args in
    let f = s.file.now in
    elim c.then-out-lt-LEAST_OUT.branch [
      | then-out-lt-LEAST_OUT-via-then-out-lt-LEAST_OUT w ↦
          let told = checks_short_out f s.out.now s.work.now w.if-out-lt-LEAST_OUT.true in
          record { answer = told.0; bytes = told.1; safety = accepted_is_safe f; meaning = check_means f }
      | then-out-lt-LEAST_OUT-via-else-out-lt-LEAST_OUT+then-work-lt-LEAST_WORK w ↦
          let told = checks_short_work f s.out.now s.work.now w.if-out-lt-LEAST_OUT.false w.if-work-lt-LEAST_WORK.true in
          record { answer = told.0; bytes = told.1; safety = accepted_is_safe f; meaning = check_means f }
    ]

pub returns-in_default : goal.returns-in_default
returns-in_default c =
    let s = c.args in
    let told =
    checks_refused s.file.now s.out.now s.work.now c.if-out-lt-LEAST_OUT.false c.if-work-lt-LEAST_WORK.false c.program_type-found.new.work c.program_type-found.result
    c.program_type-found.ensures
    c.in_default.field-0
    c.clear.new.memory
    c.in_default.is
    c.program_type-found.auto.work
    c.clear.ensures in
    record { answer = told.0; bytes = told.1; safety = accepted_is_safe s.file.now; meaning = check_means s.file.now }

pub returns : goal.returns
returns c =
    let s = c.args in
    let told =
    checks_accepted s.file.now s.out.now s.work.now c.if-out-lt-LEAST_OUT.false c.if-work-lt-LEAST_WORK.false c.program_type-found.new.work c.program_type-found.result
    c.program_type-found.ensures
    c.in-Ok.cell
    c.write_type-length.result
    c.write_type-length.new.out
    c.clear-2.new.memory
    c.in-Ok.is
    c.write_type-length.ensures.says_wrote
    c.program_type-found.auto.work
    c.clear-2.ensures in
    record { answer = told.0; bytes = told.1; safety = accepted_is_safe s.file.now; meaning = check_means s.file.now }
