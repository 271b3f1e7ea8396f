-- Laws of the parts of an export: its declarations, its gates and the names of its outputs are read back.
use Rattle.std.specs.Prelude.{ℕ, suc, ◌+◌, ◌≤◌, ◌<◌, ◌≡◌, refl, true, false, ◌||◌, List, [], ◌∷◌, ◌++◌, map, T as Truth, length, get_or, take, drop}
use Rattle.std.proofs.Common.{arith, zero-add, suc-add, sym, ◌∙◌, ap, ap₂, subst, append_assoc, append-nil, length-append, ne_eqb}
use Rattle.std.proofs.lemmas.List.{length-map}
use Rattle.std.proofs.Math.Seq.{append_snoc}
use Rattle.rules.specs.Types.{Wire, Bit, Qubit}
use Rattle.rules.specs.Gates.{is_gate, wires_in, gate_outputs}
use Rattle.rules.specs.Terms.{Gate, ◌on◌}
use Rattle.rules.specs.Circuits.{numbers, outputs, taken, count, TakesEarlier, next_gate}
use Rattle.rules.specs.Sizes.{most_labels}
use Rattle.rules.proofs.Laws.Booleans.{is_true}
use Rattle.rules.proofs.Laws.Wires.{one_if_equal, count_append}
use Rattle.rules.proofs.Laws.KnownGates.{KnownGates}
use Rattle.listing.specs.Listing.{input_kind, entry_slots}
use Rattle.listing.specs.Reading.{input_type}
use Rattle.listing.proofs.Laws.ReadBack.{wires_fit}
use Rattle.text.specs.Text.{spaced}
use Rattle.openqasm.specs.Layout.{has_statement, AllWritten, declaration, declarations, gate_line, gate_lines, output_name}
use Rattle.openqasm_reader.specs.Items.{is_digit, bit_item, qubit_item, item_in}
use Rattle.openqasm_parts.specs.Reading.{Parts, is_input, with_input, holding, with_gate, is_output, with_output, items_read}
use Rattle.openqasm_parts.proofs.Laws.Items.{item, declaration_reads, GateReads, gate_reads, output_reads}
use Rattle.openqasm_parts.proofs.Laws.Reading.{item_next}
use Rattle.openqasm.proofs.Laws.Registers.{each, first_each, as_many, map_below, registers_few}
use Rattle.openqasm_parts.proofs.Laws.Held.{register_of, held_behind}
use Rattle.openqasm_parts.proofs.Laws.Held.{typed_made, held_back}

-- Parts, one after the other.
abbrev parts : List Wire → List Gate → List ℕ → List ℕ → ℕ → List ℕ → Parts
parts I gs outs held made rest =
    record { inputs = I; gates = gs; outs = outs; held = held; made = made; rest = rest }

-- What has been read behind these inputs, gates and outputs of an export.
abbrev pub read_to : List Wire → List Gate → List ℕ → List ℕ → Parts
read_to I gs outs rest = parts I gs outs (held_behind most_labels I gs) (length (I ++ outputs gs)) rest

-- The kind of an input in a listing is an input's, and gives its type back.
type_back : (α : Wire) → input_type (input_kind α) ≡ α
type_back Bit = refl
type_back Qubit = refl

input_wanted : (α : Wire) → is_input (input_kind α) ≡ true
input_wanted Bit = refl
input_wanted Qubit = refl

-- One more input has been read.
one_input : (J : List Wire) (α : Wire) (first second bytes : ℕ) (text rest : List ℕ)
    → drop bytes text ≡ rest
    → with_input (read_to J [] [] text) (item (input_kind α) first second 0 bytes) ≡ read_to (J ++ (α ∷ [])) [] [] rest
one_input J α first second bytes text rest left =
    let L = J ++ (α ∷ []) in
    let held = numbers 0 most_labels in
    let more : suc (length (J ++ [])) ≡ length (L ++ [])
    = omega (arith, length-append J [], length-append J (α ∷ []), length-append L []) in
    ap (λ β. parts (J ++ (β ∷ [])) [] [] held (suc (length (J ++ []))) (drop bytes text)) (type_back α)
    ∙ ap₂ (parts L [] [] held) more left

-- Declarations are read, and then at most k more.
pub inputs_read : (I J : List Wire) (from k : ℕ) (rest : List ℕ)
    → from + length I ≤ 100
    → items_read is_input with_input (length I + k) (read_to J [] [] (declarations from I ++ rest))
    ≡ items_read is_input with_input k (read_to (J ++ I) [] [] rest)
inputs_read [] J from k rest few =
    ap₂ (λ j L. items_read is_input with_input j (read_to L [] [] rest)) (zero-add k) (sym (append-nil J))
inputs_read (α ∷ I) J from k rest few =
    let later = declarations (suc from) I ++ rest in
    let text = declaration from α ++ later in
    let reads = declaration_reads from α later (omega arith) in
    ap₂
    (λ j t. items_read is_input with_input j (read_to J [] [] t))
    (suc-add (length I) k)
    (append_assoc (declaration from α) (declarations (suc from) I) rest)
    ∙ item_next is_input with_input (length I + k) (read_to J [] [] text) reads.1 (input_wanted α)
    ∙ ap
    (items_read is_input with_input (length I + k))
    (one_input J α from reads.0 reads.1.bytes text later reads.1.rest_is)
    ∙ inputs_read I (J ++ (α ∷ [])) (suc from) k rest (omega arith)
    ∙ ap (λ L. items_read is_input with_input k (read_to L [] [] rest)) (append_snoc J α I)

-- A gate takes what its registers hold.
wires_back : (held : List ℕ) (f : ℕ → ℕ) (ws : List ℕ)
    → ((w : ℕ) → 1 ≤ count w ws → get_or held (f w) 0 ≡ w)
    → map (λ r. get_or held r 0) (map f ws) ≡ ws
wires_back held f [] back = refl
wires_back held f (w ∷ ws) back =
    ap₂ ◌∷◌ (back w (omega (arith, one_if_equal w w refl))) (wires_back held f ws (λ v h. back v (omega arith)))

-- One more gate has been read.
one_gate : (I : List Wire) (n : ℕ) (ws : List ℕ) (gs : List Gate) (first second third bytes : ℕ) (text rest : List ℕ)
    → Truth (has_statement n)
    → ((w : ℕ) → 1 ≤ count w ws → get_or (held_behind most_labels I gs) (register_of I gs w) 0 ≡ w)
    → take (wires_in n) (first ∷ second ∷ third ∷ []) ≡ map (register_of I gs) ws
    → drop bytes text ≡ rest
    → with_gate (read_to I gs [] text) (item n first second third bytes) ≡ read_to I ((n on ws) ∷ gs) [] rest
one_gate I n ws gs first second third bytes text rest written back registers left =
    let held = held_behind most_labels I gs in
    let made = length (I ++ outputs gs) in
    let more : made + wires_in n ≡ length (I ++ outputs ((n on ws) ∷ gs))
    = omega (
      arith,
      length-append I (outputs gs),
      length-append I (outputs gs ++ gate_outputs n),
      length-append (outputs gs) (gate_outputs n),
      as_many n written,
    ) in
    ap
    (λ rs. parts I ((n on map (λ r. get_or held r 0) rs) ∷ gs) [] (holding held rs made) (made + wires_in n) (drop bytes text))
    registers
    ∙ ap
    (λ vs. parts I ((n on vs) ∷ gs) [] (holding held (map (register_of I gs) ws) made) (made + wires_in n) (drop bytes text))
    (wires_back held (register_of I gs) ws back)
    ∙ ap₂ (parts I ((n on ws) ∷ gs) [] (holding held (map (register_of I gs) ws) made)) more left

-- Registers have at most two digits.
few_registers : (I : List Wire) (gs : List Gate) → length I ≤ most_labels → (w : ℕ) → register_of I gs w < 100
few_registers I gs few w = omega (arith, registers_few I gs w few)

-- The line of the newest gate is read.
line_reads : (I : List Wire) (n : ℕ) (ws : List ℕ) (gs : List Gate) (rest : List ℕ)
    → length I ≤ most_labels
    → Truth (is_gate n)
    → Truth (has_statement n)
    → GateReads n (map (register_of I gs) ws) rest
line_reads I n ws gs rest few known written =
    gate_reads n (map (register_of I gs) ws) rest known written
    (map_below 100 (omega arith) (register_of I gs) (few_registers I gs few) ws)

-- Gates are read, the oldest first, and then at most k more.
pub gates_read : (I : List Wire) (gs : List Gate) (k : ℕ) (rest : List ℕ)
    → length I ≤ most_labels
    → KnownGates gs
    → AllWritten gs
    → TakesEarlier I gs
    → ((w : ℕ) → count w (taken gs) ≤ 1)
    → items_read is_gate with_gate (length gs + k) (read_to I [] [] (gate_lines I gs ++ rest))
    ≡ items_read is_gate with_gate k (read_to I gs [] rest)
gates_read I [] k rest few known written earlier once =
    ap (λ j. items_read is_gate with_gate j (read_to I [] [] rest)) (zero-add k)
gates_read I ((n on ws) ∷ gs) k rest few known written (next_gate e o earlier) once =
    let rs = map (register_of I gs) ws in
    let text = gate_line n rs ++ rest in
    let line = line_reads I n ws gs rest few known.0 written.0 in
    let long : length rs ≡ wires_in n = length-map ws (register_of I gs) ∙ known.1 in
    let registers = line.registers
    ∙ ap (λ k. take k (each (λ j. get_or rs j 0) entry_slots)) (sym long)
    ∙ first_each rs entry_slots (omega (arith, wires_fit n, long)) in
    let older : (w : ℕ) → count w (taken gs) ≤ 1 = λ w. omega (arith, once w, count_append w ws (taken gs)) in
    let steps : suc (length gs) + k ≡ length gs + suc k = omega arith in
    ap₂
    (λ j t. items_read is_gate with_gate j (read_to I [] [] t))
    steps
    (append_assoc (gate_lines I gs) (gate_line n rs) rest)
    ∙ gates_read I gs (suc k) text few known.2 written.1 earlier older
    ∙ item_next is_gate with_gate k (read_to I gs [] text) line.reads (is_true (is_gate n) known.0)
    ∙ ap
    (items_read is_gate with_gate k)
    (one_gate I n ws gs (get_or rs 0 0) line.second line.third line.reads.bytes text rest written.0
    (λ w stands.
    held_back most_labels I gs (omega arith) few known.2 written.1 earlier older w
    (typed_made o w stands)
    (omega (arith, once w, count_append w ws (taken gs))))
    registers
    line.reads.rest_is)

-- A gate is no input.
gate_no_input : (n : ℕ) → Truth (is_gate n) → is_input n ≡ false
unfolding is_gate
gate_no_input n known =
    ap₂
    ◌||◌
    (ne_eqb n bit_item (λ e. subst (λ k. Truth (is_gate k)) e known))
    (ne_eqb n qubit_item (λ e. subst (λ k. Truth (is_gate k)) e known))

-- Behind the declarations stands no input, if none stands behind the gates.
pub gates_no_input : (I : List Wire) (gs : List Gate) (rest : List ℕ)
    → length I ≤ most_labels
    → KnownGates gs
    → AllWritten gs
    → is_input (item_in rest).kind ≡ false
    → is_input (item_in (gate_lines I gs ++ rest)).kind ≡ false
gates_no_input I [] rest few known written none = none
gates_no_input I ((n on ws) ∷ gs) rest few known written none =
    let rs = map (register_of I gs) ws in
    let line = line_reads I n ws gs rest few known.0 written.0 in
    ap (λ t. is_input (item_in t).kind) (append_assoc (gate_lines I gs) (gate_line n rs) rest)
    ∙ gates_no_input I gs (gate_line n rs ++ rest) few known.2 written.1
    (ap (λ i. is_input i.kind) line.reads.item_is ∙ gate_no_input n known.0)

-- No digit follows the name of an output.
name_ends : (names : List (List ℕ)) (rest : List ℕ)
    → is_digit (get_or rest 0 0) ≡ false
    → is_digit (get_or (spaced names ++ rest) 0 0) ≡ false
name_ends [] rest ends = ends
name_ends (name ∷ names) rest ends = refl

-- Names of outputs are read, and then at most k more.
pub outputs_read_lem : (I : List Wire) (gs : List Gate) (outs before : List ℕ) (k : ℕ) (rest : List ℕ)
    → length I ≤ most_labels
    → ((w : ℕ) → 1 ≤ count w outs → get_or (held_behind most_labels I gs) (register_of I gs w) 0 ≡ w)
    → is_digit (get_or rest 0 0) ≡ false
    → items_read is_output with_output (length outs + k) (read_to I gs before (spaced (map (output_name I gs) outs) ++ rest))
    ≡ items_read is_output with_output k (read_to I gs (before ++ outs) rest)
outputs_read_lem I gs [] before k rest few back ends =
    ap₂ (λ j l. items_read is_output with_output j (read_to I gs l rest)) (zero-add k) (sym (append-nil before))
outputs_read_lem I gs (w ∷ outs) before k rest few back ends =
    let names = map (output_name I gs) outs in
    let later = spaced names ++ rest in
    let text : List ℕ = 32 ∷ (output_name I gs w ++ later) in
    let small = few_registers I gs few w in
    let reads = output_reads (get_or (I ++ outputs gs) w Bit) (register_of I gs w) later small (name_ends names rest ends) in
    ap₂
    (λ j t. items_read is_output with_output j (read_to I gs before (32 ∷ t)))
    (suc-add (length outs) k)
    (append_assoc (output_name I gs w) (spaced names) rest)
    ∙ item_next is_output with_output (length outs + k) (read_to I gs before text) reads refl
    ∙ ap₂
    (λ v t.
    items_read is_output with_output (length outs + k)
    (parts I gs (before ++ (v ∷ [])) (held_behind most_labels I gs) (length (I ++ outputs gs)) t))
    (back w (omega (arith, one_if_equal w w refl)))
    reads.rest_is
    ∙ outputs_read_lem I gs outs (before ++ (w ∷ [])) k rest few (λ v h. back v (omega arith)) ends
    ∙ ap (λ l. items_read is_output with_output k (read_to I gs l rest)) (append_snoc before w outs)
