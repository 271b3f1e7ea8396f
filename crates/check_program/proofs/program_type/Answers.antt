-- `check_program::program_type` meets its contract: by the length of the memory, and by the answer of the reader. Assumes nothing.
use Rattle.check_program.proofs.Laws.ProgramTypes.{program_type_short, program_type_said, readable_of}
use Rattle.check_program.proofs.program_type.Goals as goal

pub returns-then-work-lt-LEAST_WORK : goal.returns-then-work-lt-LEAST_WORK
returns-then-work-lt-LEAST_WORK c = program_type_short c.args.file.now c.args.work.now c.if-work-lt-LEAST_WORK.true

pub check_file-requires : goal.check_file-requires
check_file-requires c =
    let sizes = c.in-Ok.field-0 in
    (readable_of c.args.file.now sizes c.read-answer.result c.read-answer.ensures c.in-Ok.is, c.if-work-lt-LEAST_WORK.false)

pub returns : goal.returns
returns c =
    let s = c.args in
    program_type_said s.file.now s.work.now c.check_file.new.work c.check_file.result c.read-answer.result c.read-answer.ensures
    c.if-work-lt-LEAST_WORK.false
    c.in-Ok.field-0
    c.in-Ok.is
    c.check_file.ensures
