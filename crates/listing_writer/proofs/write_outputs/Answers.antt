-- `listing_writer::write_outputs` meets its contract. The invariant: the labels of the nodes passed are written. Assumes nothing.
use Prim.Native.Nat.{◌+◌, ◌<◌}
use native.Mathlib.Omega.{arith}
use mathlib.Core.Path.{◌≡◌, refl, sym, ◌∙◌}
use lib.ListN.{length}
use Rattle.machine_nodes.specs.Nodes.{nodes_in}
use Rattle.machine_nodes.proofs.Laws.Nodes.{length_nodes_in}
use Rattle.listing_writer.specs.Parts.{outputs_read}
use Rattle.listing_writer.proofs.Laws.Writing.{one_label_more, other_read, label_room, output_written, no_output}
use Rattle.listing_writer.proofs.write_outputs.Goals.{then-kind_at-eq-LABEL, else-kind_at-eq-LABEL}
use Rattle.listing_writer.proofs.write_outputs.Goals as goal

pub loop-i-init : goal.loop-i-init
loop-i-init c = (refl, no_output (nodes_in c.args.nodes.now) c.args.out.now c.args.at)

pub overflow_mul-found : goal.overflow_mul-found
overflow_mul-found c =
    let a = c.args in
    omega (
      arith,
      label_room (nodes_in a.nodes.now) c.loop-i.i a.size c.loop-i.found
          (omega (arith, c.loop-i-test.true, c.requires.size_in_bounds, length_nodes_in a.nodes.now))
          c.loop-i-test.true
          (sym c.kind_at.ensures.value ∙ c.if-kind_at-eq-LABEL.true)
          c.loop-i.invariant.0,
      c.requires.room,
    )

pub overflow_add-at : goal.overflow_add-at
overflow_add-at c =
    let a = c.args in
    omega (
      arith,
      label_room (nodes_in a.nodes.now) c.loop-i.i a.size c.loop-i.found
          (omega (arith, c.loop-i-test.true, c.requires.size_in_bounds, length_nodes_in a.nodes.now))
          c.loop-i-test.true
          (sym c.kind_at.ensures.value ∙ c.if-kind_at-eq-LABEL.true)
          c.loop-i.invariant.0,
      c.requires.room,
    )

pub overflow_add-found : goal.overflow_add-found
overflow_add-found c =
    let a = c.args in
    omega (
      arith,
      label_room (nodes_in a.nodes.now) c.loop-i.i a.size c.loop-i.found
          (omega (arith, c.loop-i-test.true, c.requires.size_in_bounds, length_nodes_in a.nodes.now))
          c.loop-i-test.true
          (sym c.kind_at.ensures.value ∙ c.if-kind_at-eq-LABEL.true)
          c.loop-i.invariant.0,
      c.requires.room,
    )

pub put_bytes-requires : goal.put_bytes-requires
put_bytes-requires c =
    let a = c.args in record {
      at_in_bounds = omega (
        arith,
        label_room (nodes_in a.nodes.now) c.loop-i.i a.size c.loop-i.found
            (omega (arith, c.loop-i-test.true, c.requires.size_in_bounds, length_nodes_in a.nodes.now))
            c.loop-i-test.true
            (sym c.kind_at.ensures.value ∙ c.if-kind_at-eq-LABEL.true)
            c.loop-i.invariant.0,
        c.loop-i.auto.out,
        c.requires.room,
      );
      value_bound = c.argument_at.ensures.upper_bound;
    }

pub loop-i-preserved : goal.loop-i-preserved
loop-i-preserved c =
    let a = c.args in
    let s = c.loop-i in
    let ns = nodes_in a.nodes.now in
    let inside : s.i < length ns = omega (arith, c.loop-i-test.true, c.requires.size_in_bounds, length_nodes_in a.nodes.now) in
    elim c.if-kind_at-eq-LABEL.branch [
      | then-kind_at-eq-LABEL w ↦ (
          let label = sym c.kind_at.ensures.value ∙ w.if-kind_at-eq-LABEL.true in rw (w.found-is, w.out-is) (
            one_label_more ns s.i s.found inside label s.invariant.0,
            output_written ns a.out.now s.out w.put_bytes.new.out a.at s.i s.found w.argument_at.result inside label
                w.argument_at.ensures.value
                s.invariant.0
                (omega (arith, label_room ns s.i a.size s.found inside c.loop-i-test.true label s.invariant.0, c.requires.room))
                s.invariant.1
                w.put_bytes.ensures,
          )
          )
      | else-kind_at-eq-LABEL w ↦ (
          let same : outputs_read ns (s.i + 1) ≡ outputs_read ns s.i
          = other_read ns s.i inside (λ e. w.if-kind_at-eq-LABEL.false (c.kind_at.ensures.value ∙ e)) in
          rw (w.found-is, w.out-is, same) (s.invariant.0, s.invariant.1)
          )
    ]

pub returns : goal.returns
returns c = let done : c.loop-i.i ≡ c.args.size = omega arith in rw done at c.loop-i.invariant.1
