-- `wirelist_lines::names::name_of` meets its contract. Assumes nothing.
use native.Mathlib.Omega.{arith}
use mathlib.Core.Path.{sym, refl}
use Rattle.wirelist_lines.specs.Lines.{gate_name}
use Rattle.wirelist_lines.proofs.Laws.Names.{no_name}
use Rattle.wirelist_lines.proofs.names.name_of.Goals as goal

pub returns-in-0 : goal.returns-in-0
unfolding gate_name
returns-in-0 c = rw c.in-0.is refl

pub returns-in-1 : goal.returns-in-1
unfolding gate_name
returns-in-1 c = rw c.in-1.is refl

pub returns-in-2 : goal.returns-in-2
unfolding gate_name
returns-in-2 c = rw c.in-2.is refl

pub returns-in-3 : goal.returns-in-3
unfolding gate_name
returns-in-3 c = rw c.in-3.is refl

pub returns-in-4 : goal.returns-in-4
unfolding gate_name
returns-in-4 c = rw c.in-4.is refl

pub returns-in-5 : goal.returns-in-5
unfolding gate_name
returns-in-5 c = rw c.in-5.is refl

pub returns-in-6 : goal.returns-in-6
unfolding gate_name
returns-in-6 c = rw c.in-6.is refl

pub returns-in-7 : goal.returns-in-7
unfolding gate_name
returns-in-7 c = rw c.in-7.is refl

pub returns-in-8 : goal.returns-in-8
unfolding gate_name
returns-in-8 c = rw c.in-8.is refl

pub returns-in-9 : goal.returns-in-9
unfolding gate_name
returns-in-9 c = rw c.in-9.is refl

pub returns-in-10 : goal.returns-in-10
unfolding gate_name
returns-in-10 c = rw c.in-10.is refl

pub returns-in-11 : goal.returns-in-11
unfolding gate_name
returns-in-11 c = rw c.in-11.is refl

pub returns-in_default : goal.returns-in_default
returns-in_default c = sym (no_name c.args.n (omega (arith, c.in_default)))
