-- `machine_nodes::subtree_end` meets its contract. The invariant: what is passed and what the parts waited for take is what
-- the tree takes; at most three parts more are waited for with each node. Assumes nothing.
use Prim.Native.Nat.{◌+◌, ◌-◌, ◌/◌, ◌≤◌}
use native.Mathlib.Omega.{arith}
use mathlib.Core.Path.{◌≡◌, sym, ap, ◌∙◌}
use lib.ListN.{length, drop}
use Rattle.machine_terms.specs.Trees.{Node, kind, parts}
use Rattle.machine_nodes.specs.Nodes.{nodes_in, node_at, no_node}
use Rattle.machine_nodes.proofs.Laws.Nodes.{length_nodes_in}
use Rattle.machine_nodes.specs.Spans.{asked, span}
use Rattle.machine_nodes.proofs.Laws.Spans.{one_more, none_waiting, run_out}
use Rattle.machine_nodes.proofs.subtree_end.Goals as goal

pub returns-then-waiting-eq0 : goal.returns-then-waiting-eq0
returns-then-waiting-eq0 c =
    let s = c.loop-i in
    let ns = nodes_in c.args.nodes.now in
    let none : span (drop s.i ns) s.waiting ≡ 0
    = ap (span (drop s.i ns)) c.if-waiting-eq0.true ∙ none_waiting Node asked (drop s.i ns) in
    omega (arith, s.invariant.0)

pub loop-i-preserved : goal.loop-i-preserved
loop-i-preserved c =
    let s = c.loop-i in
    let ns = nodes_in c.args.nodes.now in
    let more : c.parts_of.result ≡ parts (kind (node_at ns s.i))
    = c.parts_of.ensures.value ∙ ap parts c.kind_at.ensures.value in
    let next = one_more Node asked no_node ns s.i s.waiting (omega (arith, length_nodes_in c.args.nodes.now)) (omega arith) in (
      ap (λ p. s.i + 1 + span (drop (s.i + 1) ns) (s.waiting + p - 1)) more ∙ sym next ∙ s.invariant.0,
      omega (arith, c.parts_of.ensures.upper_bound),
    )

pub returns : goal.returns
returns c =
    let s = c.loop-i in
    let at = c.args.at in
    let m = c.args.nodes.now in
    let n = length m / 4 in
    let past = run_out Node asked (nodes_in m) s.i s.waiting (omega (arith, length_nodes_in m)) in
    let none : n ≤ at → span (drop at (nodes_in m)) 1 ≡ 0
    = λ h. run_out Node asked (nodes_in m) at 1 (omega (arith, length_nodes_in m, h)) in
    grind (arith, past, none, s.invariant.0, s.auto.i-end)
