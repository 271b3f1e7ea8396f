-- `openqasm::write_declaration` meets its contract. Assumes nothing.
use borrow.Author.Rules.{rules}
use mathlib.Core.Path.{sym, ap}
use mathlib.Core.Bool.{cond}
use borrow.Author.Tests.{eq-eqb, ne_eqb}
use Rattle.rules.specs.Types.{Bit, Qubit}
use Rattle.openqasm.proofs.Laws.Lines.{puts_qubit, puts_declared}
use Rattle.openqasm.proofs.write_declaration.Goals as goal

pub returns-then-kind-eq-BIT_INPUT : goal.returns-then-kind-eq-BIT_INPUT
returns-then-kind-eq-BIT_INPUT c =
    (c.write_bit_register.ensures.0, puts_declared c.args.k c.args.kind Bit (sym (ap (λ b. cond b Bit Qubit) (eq-eqb c.args.kind 128 c.if-kind-eq-BIT_INPUT.true))) c.write_bit_register.ensures.1, search rules)

pub returns : goal.returns
returns c = (search rules, puts_declared c.args.k c.args.kind Qubit (sym (ap (λ b. cond b Bit Qubit) (ne_eqb c.args.kind 128 c.if-kind-eq-BIT_INPUT.false))) (puts_qubit c.args.k c.write_one.ensures.1 c.write_bit_register-2.ensures.1), search rules)
