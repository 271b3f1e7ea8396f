-- The gates that are read from a text are known and have statements, at most as many parts are read as a listing has, and from an
-- export the parts that it was made from are read back.
use Rattle.std.specs.Prelude.{ℕ, suc, ◌+◌, ◌-◌, ◌≤◌, ◌≡◌, refl, List, [], ◌∷◌, ◌++◌, T as Truth, length, get_or}
use Rattle.std.proofs.Common.{arith, ◌∙◌, ap, length-append, length-take}
use Rattle.std.proofs.lemmas.List.{length-map}
use Rattle.rules.specs.Types.{Wire}
use Rattle.rules.specs.Gates.{is_gate, wires_in}
use Rattle.rules.specs.Terms.{Gate}
use Rattle.rules.specs.Circuits.{taken, count}
use Rattle.rules.specs.Sizes.{most_labels, most_gates}
use Rattle.rules.proofs.Laws.Wires.{count_append}
use Rattle.rules.proofs.Laws.KnownGates.{KnownGates}
use Rattle.listing.specs.Listing.{entry_slots, most_outputs}
use Rattle.listing.specs.Reading.{input_type}
use Rattle.listing.proofs.Laws.ReadBack.{wires_fit}
use Rattle.wire_table.specs.WireRules.{GoesOnce}
use Rattle.openqasm.specs.Layout.{AllWritten, gate_lines, output_line, export_text}
use Rattle.openqasm_reader.specs.declared.Item.{Item}
use Rattle.openqasm_reader.specs.Items.{kind_of, item_in}
use Rattle.openqasm_parts.specs.Reading.{Parts, is_input, with_input, registers_read, wires_taken, with_gate, is_output, with_output}
use Rattle.openqasm_parts.specs.Reading.{items_read, begun, at_outputs, parts_read}
use Rattle.openqasm_parts.proofs.Laws.Items.{item_written}
use Rattle.openqasm_parts.proofs.Laws.Reading.{items_keep, items_add, items_end}
use Rattle.openqasm_parts.proofs.Laws.Held.{register_of, held_behind, held_back}
use Rattle.openqasm_parts.proofs.Laws.Parts.{read_to, inputs_read, gates_read, gates_no_input, outputs_read_lem}

-- The parts read from a text, with at most so many inputs, gates and outputs.
abbrev read_within : ℕ → ℕ → ℕ → List ℕ → Parts
read_within labels gates outputs text =
    items_read is_output with_output outputs
    (at_outputs
    (items_read is_gate with_gate gates
    (items_read is_input with_input labels (begun text))))

-- One more gate that is read is known, with as many wires as it takes.
gate_known : (p : Parts) (i : Item) → Truth (is_gate i.kind) → KnownGates p.gates → KnownGates (with_gate p i).gates
gate_known p i known older =
    let few : wires_in i.kind ≤ entry_slots = wires_fit i.kind in
    let many : length (wires_taken p i) ≡ wires_in i.kind
    = length-map (registers_read i) (λ r. get_or p.held r 0)
    ∙ omega (arith, length-take (wires_in i.kind) (i.first ∷ i.second ∷ i.third ∷ [])) in
    (known, many, older)

-- What holds of no gate, and of one gate more than it holds of, holds of all that are read, however many these are at most.
gates_within : (Of : List Gate → Type 0)
    → ((p : Parts) → Truth (is_gate (item_in p.rest).kind) → Of p.gates → Of (with_gate p (item_in p.rest)).gates)
    → Of []
    → (a b c : ℕ) (text : List ℕ) → Of (read_within a b c text).gates
gates_within Of more of_none a b c text =
    items_keep is_output with_output kept (λ p w k. k) c _
    (items_keep is_gate with_gate kept more b _
    (items_keep is_input with_input kept (λ p w k. k) a (begun text) of_none))
  where
    kept : Parts → Type 0
    kept p = Of p.gates

-- Every gate that is read from a text is known.
pub parts_known : (text : List ℕ) → KnownGates (parts_read text).gates
unfolding parts_read
parts_known text =
    gates_within KnownGates (λ p. gate_known p (item_in p.rest)) tt most_labels most_gates most_outputs text

-- Every gate that is read has a statement: no text gives Init or Discard.
pub parts_written : (text : List ℕ) → AllWritten (parts_read text).gates
unfolding parts_read
parts_written text =
    gates_within AllWritten (λ p w k. (item_written p.rest, k)) tt most_labels most_gates most_outputs text

-- At most as many parts are read as are asked for.
module _ (a b c : ℕ) (text : List ℕ) where
  abbrev declared : Parts
  declared = items_read is_input with_input a (begun text)

  abbrev behind_gates_lem : Parts
  behind_gates_lem = items_read is_gate with_gate b declared

  few_inputs : length (read_within a b c text).inputs ≤ a
  few_inputs =
      items_keep is_output with_output few (λ p w k. k) c (at_outputs behind_gates_lem)
      (items_keep is_gate with_gate few (λ p w k. k) b declared
      (omega (arith, items_add is_input with_input input_count more a (begun text))))
    where
      input_count : Parts → ℕ
      input_count p = length p.inputs

      few : Parts → Type 0
      few p = length p.inputs ≤ a

      more : (p : Parts) (i : Item) → input_count (with_input p i) ≤ suc (input_count p)
      more p i = omega (arith, length-append p.inputs (input_type i.kind ∷ []))

  few_gates : length (read_within a b c text).gates ≤ b
  few_gates =
      items_keep is_output with_output few (λ p w k. k) c (at_outputs behind_gates_lem)
      (omega (arith, items_add is_gate with_gate gate_count (λ p i. omega arith) b declared, none_yet))
    where
      gate_count : Parts → ℕ
      gate_count p = length p.gates

      few : Parts → Type 0
      few p = length p.gates ≤ b

      none_yet : length declared.gates ≡ 0
      none_yet = items_keep is_input with_input (λ p. length p.gates ≡ 0) (λ p w k. k) a (begun text) refl

  few_outs : length (read_within a b c text).outs ≤ c
  few_outs = omega (arith, items_add is_output with_output output_count more c (at_outputs behind_gates_lem), none_yet)
    where
      output_count : Parts → ℕ
      output_count p = length p.outs

      none : Parts → Type 0
      none p = length p.outs ≡ 0

      none_yet : length behind_gates_lem.outs ≡ 0
      none_yet =
          items_keep is_gate with_gate none (λ p w k. k) b declared
          (items_keep is_input with_input none (λ p w k. k) a (begun text) refl)

      more : (p : Parts) (i : Item) → output_count (with_output p i) ≤ suc (output_count p)
      more p i = omega (arith, length-append p.outs (get_or p.held i.first 0 ∷ []))

-- At most as many parts are read from a text as a listing has.
pub parts_few : (text : List ℕ)
    → (length (parts_read text).inputs ≤ most_labels)
    × (length (parts_read text).gates ≤ most_gates)
    × (length (parts_read text).outs ≤ most_outputs)
unfolding parts_read
parts_few text = (
  few_inputs most_labels most_gates most_outputs text,
  few_gates most_labels most_gates most_outputs text,
  few_outs most_labels most_gates most_outputs text,
)

-- The parts read from an export are those that it was made from; behind them the end of the last line is left.
export_within : (a b c : ℕ) (I : List Wire) (gs : List Gate) (outs : List ℕ)
    → length I ≤ most_labels
    → length I ≤ a
    → length gs ≤ b
    → length outs ≤ c
    → KnownGates gs
    → AllWritten gs
    → GoesOnce I gs outs
    → read_within a b c (export_text I gs outs) ≡ read_to I gs outs (10 ∷ [])
unfolding is_gate export_text item_in kind_of
export_within a b c I gs outs few room room' room'' known written goes =
    ap (λ p. items_read is_output with_output c (at_outputs (items_read is_gate with_gate b p))) inputs_back
    ∙ ap (λ p. items_read is_output with_output c (at_outputs p)) gates_back
    ∙ outputs_back
  where
    last : List ℕ
    last = output_line I gs outs

    inputs_back : items_read is_input with_input a (begun (export_text I gs outs)) ≡ read_to I [] [] (gate_lines I gs ++ last)
    inputs_back =
        let steps : a ≡ length I + (a - length I) = omega arith in
        ap (λ k. items_read is_input with_input k (begun (export_text I gs outs))) steps
        ∙ inputs_read I [] 0 (a - length I) (gate_lines I gs ++ last) (omega arith)
        ∙ items_end is_input with_input (a - length I) (read_to I [] [] (gate_lines I gs ++ last))
        (gates_no_input I gs last few known written refl)

    gates_back : items_read is_gate with_gate b (read_to I [] [] (gate_lines I gs ++ last)) ≡ read_to I gs [] last
    gates_back =
        let steps : b ≡ length gs + (b - length gs) = omega arith in
        ap (λ k. items_read is_gate with_gate k (read_to I [] [] (gate_lines I gs ++ last))) steps
        ∙ gates_read I gs (b - length gs) last few known written goes.sound.takes_earlier goes.sound.taken_once
        ∙ items_end is_gate with_gate (b - length gs) (read_to I gs [] last) refl

    held_outputs : (w : ℕ) → 1 ≤ count w outs → get_or (held_behind most_labels I gs) (register_of I gs w) 0 ≡ w
    held_outputs w stands =
        let made = goes.outputs_made w stands in
        held_back most_labels I gs (omega arith) few known written goes.sound.takes_earlier goes.sound.taken_once w made
        (omega (arith, goes.gone_once w made, count_append w (taken gs) outs))

    outputs_back : items_read is_output with_output c (at_outputs (read_to I gs [] last)) ≡ read_to I gs outs (10 ∷ [])
    outputs_back =
        let steps : c ≡ length outs + (c - length outs) = omega arith in
        ap (λ k. items_read is_output with_output k (at_outputs (read_to I gs [] last))) steps
        ∙ outputs_read_lem I gs outs [] (c - length outs) (10 ∷ []) few held_outputs refl
        ∙ items_end is_output with_output (c - length outs) (read_to I gs outs (10 ∷ [])) refl

-- The parts read from an export are those that it was made from, where each gate has a statement and each wire goes once.
pub parts_back : (I : List Wire) (gs : List Gate) (outs : List ℕ)
    → length I ≤ most_labels
    → length gs ≤ most_gates
    → length outs ≤ most_outputs
    → KnownGates gs
    → AllWritten gs
    → GoesOnce I gs outs
    → ((parts_read (export_text I gs outs)).inputs ≡ I)
    × ((parts_read (export_text I gs outs)).gates ≡ gs)
    × ((parts_read (export_text I gs outs)).outs ≡ outs)
unfolding parts_read
parts_back I gs outs few few' few'' known written goes =
    let e = export_within most_labels most_gates most_outputs I gs outs few few few' few'' known written goes in
    (ap (λ p. p.inputs) e, ap (λ p. p.gates) e, ap (λ p. p.outs) e)
