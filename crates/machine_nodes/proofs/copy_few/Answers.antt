-- `machine_nodes::copy_few` meets its contract. The invariant: the first i nodes are copied. Assumes nothing.
use Rattle.std.specs.Prelude.{◌+◌, ◌*◌, ◌≡◌}
use Rattle.std.proofs.Common.{arith, sym, ◌∙◌, ap, ap₂}
use Rattle.machine_nodes.specs.Copying.{copied}
use Rattle.machine_nodes.proofs.Laws.Copies.{copied_on}
use Rattle.machine_nodes.proofs.copy_few.Goals as goal

pub loop-i-preserved : goal.loop-i-preserved
loop-i-preserved c =
    let s = c.args in
    let l = c.loop-i in
    let m = s.nodes.now in
    let source : 4 * (s.from + l.i) ≡ 4 * s.from + 4 * l.i = omega arith in
    let place : 4 * (s.to + l.i) ≡ 4 * s.to + 4 * l.i = omega arith in
    let more : 4 * l.i + 4 ≡ 4 * (l.i + 1) = omega arith in
    c.copy_node.ensures
    ∙ ap₂ (λ j k. copied l.nodes j k 4) source place
    ∙ ap (λ x. copied x (4 * s.from + 4 * l.i) (4 * s.to + 4 * l.i) 4) l.invariant
    ∙ sym (copied_on m (4 * s.from) (4 * s.to) (4 * l.i) 4)
    ∙ ap (copied m (4 * s.from) (4 * s.to)) more
