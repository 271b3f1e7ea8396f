-- `openqasm_parts::registers::hold_wires` meets its contract. Assumes nothing.
use native.Mathlib.Omega.{arith}
use Rattle.openqasm_parts.proofs.Laws.Registers.{holds_one, holds_two, holds_three}
use Rattle.openqasm_parts.proofs.registers.hold_wires.Goals as goal

pub returns-then-count-lt2 : goal.returns-then-count-lt2
returns-then-count-lt2 c =
    let a = c.args in
    let r =
    holds_one a.count a.held.now a.first a.second a.third a.made c.put.new.held
    c.put.ensures c.requires.0 (omega (arith, c.if-count-lt2.true)) in
    record { value = r.0; held_after = r.1 }

pub returns-then-count-lt3 : goal.returns-then-count-lt3
returns-then-count-lt3 c =
    let a = c.args in
    let r =
    holds_two a.count a.held.now a.first a.second a.third a.made c.put.new.held
    c.put.ensures c.put-2.new.held c.put-2.ensures (omega (arith, c.if-count-lt2.false)) (omega (arith, c.if-count-lt3.true)) in
    record { value = r.0; held_after = r.1 }

pub returns : goal.returns
returns c =
    let a = c.args in
    let r =
    holds_three a.count a.held.now a.first a.second a.third a.made c.put.new.held
    c.put.ensures c.put-2.new.held c.put-2.ensures c.put-3.new.held c.put-3.ensures (omega (arith, c.if-count-lt3.false)) c.requires.1 in
    record { value = r.0; held_after = r.1 }
