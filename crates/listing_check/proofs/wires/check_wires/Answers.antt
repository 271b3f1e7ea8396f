-- `listing_check::wires::check_wires` meets its contract: the gates, the outputs, and what is left, one after the other.
use Rattle.std.proofs.Common.{◌∙◌, rules}
use Rattle.listing.specs.Reading.{outputs_from, output_count}
use Rattle.listing.proofs.Laws.Decoding.{length_words}
use Rattle.listing_check.proofs.Laws.Wires.{whole_kept, gate_answered, output_answered, left_made, left_answered, all_answered}
use Rattle.listing_check.proofs.wires.check_wires.Goals as goal

pub returns-in-Some : goal.returns-in-Some
returns-in-Some c = c.refused.ensures ∙ gate_answered c.args.listing.now c.wrong_gate.ensures c.input_count-inputs.ensures.value c.in-Some.gate c.in-Some.is

pub overflow_add-inputs-in-Some-wrong_output-2 : goal.overflow_add-inputs-in-Some-wrong_output-2
overflow_add-inputs-in-Some-wrong_output-2 c =
    let b = c.args.listing.now in
    let read = c.wrong_output.ensures _ _ (c.wrong_gate.ensures.holds c.in_default.is) in
    let few = read.few c.in-Some-wrong_output.output c.in-Some-wrong_output.is in
    search (rules, few, length_words b (outputs_from b) (output_count b), c.gate_count-gates.ensures.upper_bound, c.input_count-inputs.ensures.upper_bound, c.output_count-outputs.ensures)

pub returns-in-Some-wrong_output : goal.returns-in-Some-wrong_output
returns-in-Some-wrong_output c =
    let read = c.wrong_output.ensures _ _ (c.wrong_gate.ensures.holds c.in_default.is) in
    c.refused-in-Some-wrong_output.ensures
    ∙ output_answered c.args.listing.now c.wrong_gate.ensures c.input_count-inputs.ensures.value c.in_default.is c.gate_count-gates.ensures.value read
    c.in-Some-wrong_output.output c.in-Some-wrong_output.is

pub maker_of-requires : goal.maker_of-requires
maker_of-requires c =
    let read = c.wrong_output.ensures _ _ (c.wrong_gate.ensures.holds c.in_default.is) in
    let fits = whole_kept _ (c.wrong_output.auto.table ∙ c.wrong_gate.auto.table ∙ c.make_inputs.auto.table) c.requires.1 in
    left_made c.args.listing.now c.wrong_gate.ensures c.input_count-inputs.ensures.value c.in_default.is c.gate_count-gates.ensures.value read
    c.in_default-wrong_output.is fits c.lowest_there.ensures c.in-Some-lowest_there.w c.in-Some-lowest_there.is

pub returns-in-Some-lowest_there : goal.returns-in-Some-lowest_there
returns-in-Some-lowest_there c =
    let read = c.wrong_output.ensures _ _ (c.wrong_gate.ensures.holds c.in_default.is) in
    let fits = whole_kept _ (c.wrong_output.auto.table ∙ c.wrong_gate.auto.table ∙ c.make_inputs.auto.table) c.requires.1 in
    c.refused-in-Some-lowest_there.ensures
    ∙ left_answered c.args.listing.now c.wrong_gate.ensures c.input_count-inputs.ensures.value c.in_default.is c.gate_count-gates.ensures.value read
    c.in_default-wrong_output.is fits c.lowest_there.ensures c.in-Some-lowest_there.w c.maker_of.result c.in-Some-lowest_there.is c.maker_of.ensures

pub returns : goal.returns
returns c =
    let read = c.wrong_output.ensures _ _ (c.wrong_gate.ensures.holds c.in_default.is) in
    let fits = whole_kept _ (c.wrong_output.auto.table ∙ c.wrong_gate.auto.table ∙ c.make_inputs.auto.table) c.requires.1 in
    all_answered c.args.listing.now c.wrong_gate.ensures c.input_count-inputs.ensures.value c.in_default.is c.gate_count-gates.ensures.value read
    c.in_default-wrong_output.is fits c.lowest_there.ensures c.output_count-outputs.result c.in_default-lowest_there.is c.output_count-outputs.ensures.value
