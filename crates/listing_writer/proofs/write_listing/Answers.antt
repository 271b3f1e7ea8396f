-- `listing_writer::write_listing` meets its contract. Assumes nothing.
use native.Mathlib.Omega.{arith}
use mathlib.Core.Path.{◌≡◌}
use Rattle.words.specs.Words.{words}
use Rattle.machine_nodes.specs.Nodes.{nodes_in}
use Rattle.machine_nodes.proofs.Laws.Nodes.{length_nodes_in}
use Rattle.words.specs.Regions.{over}
use Rattle.words.specs.Quadwords.{quadwords_in}
use Rattle.machine_circuits.proofs.Laws.Writing.{tree_inside}
use Rattle.listing_writer.proofs.Laws.Parts.{listing_read}
use Rattle.listing_writer.proofs.Laws.Writing.{sizes_read, parts_written, listing_written}
use Rattle.listing_writer.proofs.write_listing.Goals.{then-inputs-gt-MOST-via-then-inputs-gt-MOST, then-inputs-gt-MOST-via-else-inputs-gt-MOST+then-count-gt-MOST, then-inputs-gt-MOST-via-else-inputs-gt-MOST+else-count-gt-MOST+then-nodes-size, then-outputs-gt-MOST-via-then-outputs-gt-MOST, then-outputs-gt-MOST-via-else-outputs-gt-MOST+then-out-length}
use Rattle.listing_writer.proofs.write_listing.Goals as goal

pub returns-then-inputs-gt-MOST-clause-out_after : goal.returns-then-inputs-gt-MOST-clause-out_after
returns-then-inputs-gt-MOST-clause-out_after c = λ I gs v k held many gates fits tuple stands length few_inputs few_gates few_outputs room.
    let m = c.args.nodes.now in elim c.then-inputs-gt-MOST.branch [
      | then-inputs-gt-MOST-via-then-inputs-gt-MOST w ↦ absurd (omega (arith, w.if-inputs-gt-MOST.true))
      | then-inputs-gt-MOST-via-else-inputs-gt-MOST+then-count-gt-MOST w ↦ absurd (omega (arith, w.if-count-gt-MOST.true))
      | then-inputs-gt-MOST-via-else-inputs-gt-MOST+else-count-gt-MOST+then-nodes-size w ↦ absurd (omega (arith, w.if-nodes-size.true, length_nodes_in m, tree_inside v (nodes_in m) 0 stands))
    ]

pub returns-then-outputs-gt-MOST-clause-out_after : goal.returns-then-outputs-gt-MOST-clause-out_after
returns-then-outputs-gt-MOST-clause-out_after c = λ I gs v k held many gates fits tuple stands length few_inputs few_gates few_outputs room.
    let a = c.args in
    let known = sizes_read I gs v k (quadwords_in a.gates.now) a.inputs a.count (nodes_in a.nodes.now) a.size c.count_labels-outputs.result many gates tuple stands length c.count_labels-outputs.ensures.value in
    elim c.then-outputs-gt-MOST.branch [
      | then-outputs-gt-MOST-via-then-outputs-gt-MOST w ↦ absurd (omega (arith, w.if-outputs-gt-MOST.true, known.0))
      | then-outputs-gt-MOST-via-else-outputs-gt-MOST+then-out-length w ↦ absurd (omega (arith, w.if-out-length.true, known.1, room))
    ]

pub returns : goal.returns
returns c =
    let a = c.args in
    let ws = words a.types.now in
    let rs = quadwords_in a.gates.now in
    let ns = nodes_in a.nodes.now in
    let found = c.count_labels-outputs.result in
    let counted = c.count_labels-outputs.ensures.value in
    let l = a.out.now in
    let l₄ = c.write_outputs.new.out in
    let written : l₄ ≡ over l 0 (listing_read ws a.inputs rs a.count ns a.size)
    = parts_written ws a.inputs rs a.count ns a.size found l c.write_sizes.new.out c.write_kinds.new.out c.write_slots.new.out l₄ counted (omega (arith, c.if-out-length.false)) c.write_sizes.ensures c.write_kinds.ensures c.write_slots.ensures c.write_outputs.ensures in record {
      out_after = λ I gs v k held many gates fits tuple stands length few_inputs few_gates few_outputs room. (
        listing_written I gs v k ws rs a.inputs a.count ns a.size l l₄ held many gates fits tuple stands length written,
        (sizes_read I gs v k rs a.inputs a.count ns a.size found many gates tuple stands length counted).1,
      );
      out_unchanged = λ e. absurd (omega arith);
    }
