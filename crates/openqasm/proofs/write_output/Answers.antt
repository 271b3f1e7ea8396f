-- `openqasm::write_output` meets its contract. Assumes nothing.
use borrow.Author.Rules.{rules}
use mathlib.Core.Path.{sym, ap, ◌∙◌}
use mathlib.Core.Bool.{cond}
use mathlib.Core.List.{[], ◌∷◌, append-nil}
use Rattle.rules.specs.Types.{Bit, Qubit}
use Rattle.text.specs.Text.{decimal, spaced}
use Rattle.text.proofs.Laws.Writing.{puts_same}
use Rattle.openqasm.specs.Layout.{register_name}
use Rattle.openqasm.proofs.write_output.Goals as goal

pub returns-then-qubit : goal.returns-then-qubit
returns-then-qubit c =
    (c.put_named.ensures.0, puts_same (ap (λ ys. 32 ∷ 113 ∷ ys) (sym (append-nil (decimal c.args.r))) ∙ sym (ap (λ b. spaced (register_name (cond b Qubit Bit) c.args.r ∷ [])) c.if-qubit.true)) c.put_named.ensures.1, search rules)

pub returns-else-qubit : goal.returns-else-qubit
returns-else-qubit c =
    (c.put_named-else-qubit.ensures.0, puts_same (ap (λ ys. 32 ∷ 99 ∷ ys) (sym (append-nil (decimal c.args.r))) ∙ sym (ap (λ b. spaced (register_name (cond b Qubit Bit) c.args.r ∷ [])) c.if-qubit.false)) c.put_named-else-qubit.ensures.1, search rules)
