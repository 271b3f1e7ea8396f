use Rattle.machine_state.specs.Buffers.{memory_in, SameBuffers}
use Rattle.machine.proofs.Laws.Progress.{AllUnderway}
use Rattle.machine.proofs.advance.Given as goal

-- So many steps are done, and what is left comes to what the whole comes to.
abbrev pub invariant-loop-steps : goal.invariant-loop-steps
invariant-loop-steps l =
    SameBuffers l.initial.buffers l.buffers
    × AllUnderway l.allowance l.k l.steps (memory_in l.initial.buffers) l.initial.now (memory_in l.buffers) l.now
