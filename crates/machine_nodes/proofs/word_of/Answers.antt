-- `machine_nodes::word_of` meets its contract: the kind of node i is the number at its first byte, the argument the number behind it.
-- Assumes nothing.
use Rattle.std.specs.Prelude.{◌+◌, ◌*◌, ◌≡◌}
use Rattle.std.proofs.Common.{arith, ap, ◌∙◌}
use Rattle.words.specs.Numbers.{word_at}
use Rattle.machine_nodes.proofs.Laws.Nodes.{kind_number, argument_number}
use Rattle.machine_nodes.proofs.word_of.Goals as goal

pub returns : goal.returns
unfolding word_at
returns c =
    let s = c.args in
    let m = s.nodes.now in
    let at = 4 * s.i + 2 * s.k in
    let inside = c.requires.in_bounds in
    let first : (s.k ≡ 0) → at ≡ 4 * s.i = λ e. omega (arith, e) in
    let second : (s.k ≡ 1) → at ≡ 4 * s.i + 2 = λ e. omega (arith, e) in
    record {
      of_kind = λ e. ap (word_at m) (first e) ∙ kind_number m s.i inside;
      of_argument = λ e. ap (word_at m) (second e) ∙ argument_number m s.i inside;
      upper_bound = omega (arith, c.type_inv.nodes at, c.type_inv.nodes (at + 1));
    }
