-- `machine_nodes::put_node` meets its contract: all four bytes of node i are put. Assumes nothing.
use mathlib.Core.Path.{sym}
use mathlib.Core.List.{[], ◌∷◌}
use Rattle.words.proofs.Laws.Words.{put_past}
use Rattle.machine_nodes.proofs.Laws.Nodes.{put_bytes}
use Rattle.machine_nodes.proofs.put_node.Goals as goal

pub returns-then-n-i : goal.returns-then-n-i
returns-then-n-i c =
    let s = c.args in
    sym (put_past 2 s.nodes.now s.i (s.kind ∷ s.argument ∷ []) c.if-n-i.true)

pub returns : goal.returns
returns c =
    let s = c.args in
    put_bytes s.nodes.now s.i s.kind s.argument c.if-n-i.false
