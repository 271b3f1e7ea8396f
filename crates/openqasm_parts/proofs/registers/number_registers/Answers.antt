-- `openqasm_parts::registers::number_registers` meets its contract. Assumes nothing.
use native.Mathlib.Omega.{arith}
use mathlib.Core.Path.{refl}
use Rattle.rules.specs.Sizes.{most_labels}
use Rattle.openqasm_parts.proofs.Laws.Registers.{registers_next, registers_end}
use Rattle.openqasm_parts.proofs.registers.number_registers.Goals as goal

pub loop-k-init : goal.loop-k-init
loop-k-init c = refl

pub loop-k-preserved : goal.loop-k-preserved
loop-k-preserved c =
    let s = c.loop-k in
    registers_next c.args.held.now s.held s.k s.invariant (omega (arith, c.requires, c.loop-k-test.true))

pub returns : goal.returns
returns c =
    let s = c.loop-k in
    registers_end c.args.held.now s.held most_labels s.k s.invariant c.requires (omega (arith, c.loop-k-test.false))
