-- `machine_substitution::next_piece` meets its contract, from those of the functions that it calls. Assumes nothing.
use Prim.Native.Nat.{◌-◌, ◌<◌}
use native.Mathlib.Omega.{arith}
use mathlib.Core.Path.{sym, subst}
use Rattle.words.specs.Words.{words}
use Rattle.words.proofs.Laws.Words.{word_below}
use Rattle.machine_nodes.specs.Nodes.{nodes_in}
use Rattle.machine_substitution.proofs.Laws.Reducts.{found_piece}
use Rattle.machine_substitution.proofs.next_piece.Goals as goal

pub wait_for_parts-depth-requires : goal.wait_for_parts-depth-requires
wait_for_parts-depth-requires c =
    let a = c.args in
    let below = word_below a.waiting.now (λ j. omega (arith, c.slice_known-1.given j)) (a.depth - 1) in
    (omega (arith, c.requires), subst (λ r. r < 65536) (sym c.get-binders.ensures) below)

pub returns : goal.returns
returns c =
    let a = c.args in
    found_piece
    (nodes_in a.nodes.now)
    (words a.waiting.now)
    (words c.wait_for_parts-depth.new.waiting)
    a.values
    a.place
    a.depth
    c.piece_for-piece.result
    c.wait_for_parts-depth.result
    c.get-binders.result
    c.kind_at-kind.result
    c.argument_at-argument.result
    c.requires.0
    c.get-binders.ensures
    c.kind_at-kind.ensures.value
    c.argument_at-argument.ensures.value
    c.piece_for-piece.ensures
    c.wait_for_parts-depth.ensures.upper_bound
    c.wait_for_parts-depth.ensures.result_after
