-- `machine_circuits::renamings::Renaming::number_of` meets its contract: renaming goes by the place of a wire. Assumes nothing.
use native.Mathlib.Omega.{arith}
use mathlib.Core.Path.{◌∙◌}
use Prim.Native.Nat.{◌+◌, ◌-◌}
use mathlib.Core.Path.{◌≡◌}
use Rattle.words.specs.Words.{words}
use Rattle.machine_circuits.proofs.Laws.Copies.{renamed_input, renamed_later}
use Rattle.machine_circuits.proofs.renamings.Renaming.number_of.Goals as goal

pub returns-then-wire-self : goal.returns-then-wire-self
returns-then-wire-self c = λ usable.
    let r = c.args.self in
    c.get.ensures ∙ renamed_input (words r.labels.now) r.inputs r.next c.args.wire usable.enough c.if-wire-self.true

pub returns : goal.returns
returns c = λ usable.
    let r = c.args.self in
    let w = c.args.wire in
    let sum : c.saturating_add.result ≡ r.next + (w - r.inputs) = omega (arith, c.saturating_add.ensures, c.requires, usable.small) in
    sum ∙ renamed_later (words r.labels.now) r.inputs r.next w usable.enough c.if-wire-self.false
