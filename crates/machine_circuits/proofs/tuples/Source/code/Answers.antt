-- `machine_circuits::tuples::Source::code` meets its contract. Assumes nothing.
use native.Mathlib.Omega.{arith}
use mathlib.Core.Path.{sym, ◌∙◌, ap}
use lib.ListN.{length, get_or}
use Rattle.machine_circuits.specs.Tuples.{codes_of}
use Rattle.machine_circuits.proofs.Laws.Outputs.{code_of}
use Rattle.machine_circuits.proofs.tuples.Source.code.Goals as goal

pub returns-in-Gate : goal.returns-in-Gate
returns-in-Gate c = λ inside.
    let i = c.args.i in
    let e = c.in-Gate.is in
    c.type_code.ensures
    ∙ code_of _ i (omega (arith, inside, ap (λ s. length (codes_of s)) e))
    ∙ sym (ap (λ s. get_or (codes_of s) i 0) e)
