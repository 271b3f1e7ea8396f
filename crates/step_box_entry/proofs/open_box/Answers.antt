-- `step_box_entry::open_box` meets its contract. Assumes nothing.
use native.Mathlib.Omega.{arith}
use Rattle.std.specs.Prelude.{None}
use Rattle.words.specs.Words.{words}
use Rattle.machine_nodes.specs.Nodes.{nodes_in}
use Rattle.words.specs.Quadwords.{quadwords_in}
use Rattle.words.proofs.Laws.Quadwords.{length_quadwords_in}
use Rattle.machine_state.specs.Memory.{memory}
use Rattle.step_box_entry.proofs.Laws.Stepping.{no_frame, exceeded, taken}
use Rattle.step_box_entry.proofs.open_box.Goals as goal

pub returns-then-frames-numbers : goal.returns-then-frames-numbers
returns-then-frames-numbers c = λ gs cs results allowance.
    let a = c.args in
    let fs = a.frames.now in
    no_frame allowance
    (memory (nodes_in a.nodes.now) (quadwords_in a.stack.now) gs cs (quadwords_in fs) (words a.types.now) results)
    a.numbers
    None
    (omega (arith, length_quadwords_in fs, c.if-frames-numbers.true))

pub returns-in_err-entry : goal.returns-in_err-entry
returns-in_err-entry c = λ gs cs results allowance.
    let a = c.args in
    rw c.from_residual.ensures
    (exceeded allowance (nodes_in a.nodes.now) (quadwords_in a.stack.now) gs cs (quadwords_in a.frames.now) (words a.types.now) results
    a.numbers c.in_err-entry.ensures)

pub write_application-wires-requires : goal.write_application-wires-requires
write_application-wires-requires c =
    let h = c.in_ok-entry.ensures in
    (omega (arith, h.body_ends, h.apart), omega (arith, h.new_end, h.inside))

pub put_frame-requires : goal.put_frame-requires
put_frame-requires c = c.in_ok-entry.ensures.deep

pub numbers_after-requires : goal.numbers_after-requires
numbers_after-requires c = omega (arith, c.if-frames-numbers.false, c.well_formed.1.1.1.0)

pub returns : goal.returns
returns c = λ gs cs results allowance.
    let a = c.args in
    rw c.numbers_after.ensures
    (taken allowance (nodes_in a.nodes.now) (nodes_in c.write_application-wires.new.nodes) (quadwords_in a.stack.now)
    (quadwords_in c.put_frame.new.stack) gs cs (quadwords_in a.frames.now) (quadwords_in c.put_frame.new.frames) (words a.types.now) results
    a.numbers c.in_ok-entry.entry c.write_application-wires.result c.in_ok-entry.ensures
    c.write_application-wires.ensures
    c.put_frame.ensures.stack_after
    c.put_frame.ensures.frames_after)
