-- `openqasm_export::write_parts` meets its contract. Assumes nothing.
use borrow.Author.Rules.{rules}
use Rattle.text.proofs.Laws.Writer.{puts_at_start}
use Rattle.listing_check.proofs.Laws.Wires.{whole_kept}
use Rattle.openqasm_export.proofs.Laws.Writing.{puts_text}
use Rattle.openqasm_export.proofs.write_parts.Goals as goal

pub write_inputs-requires : goal.write_inputs-requires
write_inputs-requires c = c.requires

pub write_gates-requires : goal.write_gates-requires
write_gates-requires c = (c.write_inputs.ensures.begins, whole_kept _ c.write_inputs.auto.table c.requires.1)

pub returns : goal.returns
returns c = λ written.
    let begun = puts_at_start c.new-out.ensures.contents c.new-out.ensures.start c.write_header.ensures.1 in
    let all = puts_text c.args.listing.now begun c.write_inputs.ensures.puts.1 (c.write_gates.ensures.puts written) (c.write_outputs.ensures.puts written (c.write_gates.ensures.begins written)) in
    search (rules, all)
