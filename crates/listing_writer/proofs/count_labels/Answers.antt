-- `listing_writer::count_labels` meets its contract. The invariant: so many of the nodes passed are labels. Assumes nothing.
use Prim.Native.Nat.{◌<◌}
use native.Mathlib.Omega.{arith}
use mathlib.Core.Path.{◌≡◌, sym, ◌∙◌, ap}
use lib.ListN.{length}
use Rattle.machine_nodes.specs.Nodes.{nodes_in}
use Rattle.machine_nodes.proofs.Laws.Nodes.{length_nodes_in}
use Rattle.listing_writer.proofs.Laws.Writing.{one_label_more, other_read}
use Rattle.listing_writer.proofs.count_labels.Goals.{then-kind_at-eq-LABEL, else-kind_at-eq-LABEL}
use Rattle.listing_writer.proofs.count_labels.Goals as goal

pub loop-i-preserved : goal.loop-i-preserved
loop-i-preserved c =
    let s = c.loop-i in
    let m = c.args.nodes.now in
    let inside : s.i < length (nodes_in m) = omega (arith, c.loop-i-test.true, c.requires, length_nodes_in m) in
    elim c.if-kind_at-eq-LABEL.branch [
      | then-kind_at-eq-LABEL w ↦ (
        omega (arith, w.found-is, s.invariant.0),
        w.found-is ∙ one_label_more (nodes_in m) s.i s.found inside (sym c.kind_at.ensures.value ∙ w.if-kind_at-eq-LABEL.true) s.invariant.1,
      )
      | else-kind_at-eq-LABEL w ↦ (
        omega (arith, w.found-is, s.invariant.0),
        w.found-is
            ∙ s.invariant.1
            ∙ ap length (sym (other_read (nodes_in m) s.i inside (λ e. w.if-kind_at-eq-LABEL.false (c.kind_at.ensures.value ∙ e)))),
      )
    ]

pub returns-clause-value : goal.returns-clause-value
returns-clause-value c = let done : c.loop-i.i ≡ c.args.size = omega arith in rw done at c.loop-i.invariant.1
