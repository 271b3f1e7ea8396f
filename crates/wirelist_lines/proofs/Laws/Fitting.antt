-- How long the text of a run is: a buffer of the least length holds it.
use Rattle.std.specs.Prelude.{ℕ, zero, suc, ◌+◌, ◌*◌, ◌^◌, ◌≤◌, ◌<◌, ◌≡◌, refl, List, [], ◌∷◌, ◌++◌, map, length}
use Rattle.std.proofs.Common.{arith, ◌∙◌, ap, length-append}
use Rattle.rules.specs.Types.{Wire, Bit, Qubit, Ty}
use Rattle.rules.specs.Gates.{gate_outputs, wires_out}
use Rattle.rules.specs.Terms.{Tuple, labels, Gate, ◌on◌, tuple}
use Rattle.rules.specs.Circuits.{circuit, outputs, numbers, TakesEarlier, no_gate, next_gate, loose}
use Rattle.rules.specs.Typing.{◌∣◌⊢◌∶◌}
use Rattle.rules.specs.Sizes.{most_gates}
use Rattle.rules.specs.Slots.{gate_slot_count}
use Rattle.machine_circuits.proofs.Laws.Gates.{few_in, few_out}
use Rattle.machine_circuits.specs.Copies.{AllBelow}
use Rattle.machine_circuits.proofs.Laws.Typed.{all_below_more, takes_below, few_wires, loose_below, labels_are_below}
use Rattle.text.specs.Text.{ascii, decimal, spaced, line, joined}
use Rattle.wirelist_lines.specs.Lines.{gate_name, wire_name, input_line, gate_line, out_line, steps_line, refused_line}
use Rattle.wirelist_lines.specs.Lines.{input_lines, gate_lines, lines, longest_name}
use Rattle.wirelist_lines.specs.Least.{wire_digits, wire_bytes, input_bytes, gate_bytes, refusal_bytes}
use Rattle.rules.specs.Sizes.{most_labels}
use Rattle.listing.specs.Listing.{most_outputs}
use Rattle.wirelist_lines.specs.Least.{out_bytes, steps_bytes, least_text}
use Rattle.text.proofs.Laws.Decimals.{tenfold, length_decimal}
use Rattle.wirelist_lines.proofs.Laws.Names.{name_short}
use Rattle.text.proofs.Laws.Words.{spaced_append, joined_append}
use Rattle.listing.proofs.Laws.ReadBack.{one_counted}
use Rattle.wirelist_lines.proofs.Theorems.Lines.{lines_parts}

-- Numbers of at most so many digits, each behind a space.
length_numbers : (k : ℕ) (ns : List ℕ)
    → AllBelow (tenfold (suc k)) ns
    → length (spaced (map decimal ns)) ≤ (2 + k) * length ns
length_numbers k [] below = omega arith
length_numbers k (n ∷ ns) below =
    omega (
      arith,
      length-append (decimal n) (spaced (map decimal ns)),
      length_decimal k n below.0,
      length_numbers k ns below.1,
    )

length_line : (first : List ℕ) (ws : List (List ℕ)) → length (line first ws) ≡ length first + length (spaced ws) + 1
length_line first ws =
    length-append first (spaced ws ++ (10 ∷ [])) ∙ omega (arith, length-append (spaced ws) (10 ∷ []))

type_length : (α : Wire) → length (wire_name α) ≤ 5
type_length Bit = omega arith
type_length Qubit = omega arith

length_gate_line : (n : ℕ) (taken made : List ℕ)
    → length (gate_line n taken made)
    ≤ 4 + (1 + longest_name) + length (spaced (map decimal taken)) + 2 + length (spaced (map decimal made)) + 1
length_gate_line n taken made =
    let more = map decimal taken ++ (ascii ":" ∷ map decimal made) in
    omega (
      arith,
      length_line (ascii "gate") (gate_name n ∷ more),
      length-append (gate_name n) (spaced more),
      ap length (spaced_append (map decimal taken) (ascii ":" ∷ map decimal made)),
      length-append (spaced (map decimal taken)) (spaced (ascii ":" ∷ map decimal made)),
      name_short n,
    )

numbers_below : (n k m : ℕ) → n + k ≤ m → AllBelow m (numbers n k)
numbers_below n zero m below = tt
numbers_below n (suc k) m below = (omega arith, numbers_below (suc n) k m (omega arith))

length_row : (n k : ℕ) → length (numbers n k) ≡ k
length_row n zero = refl
length_row n (suc k) = ap suc (length_row (suc n) k)

-- Wires, each behind a space. There are fewer of them than four digits can say.
abbrev most_wires : ℕ
most_wires = tenfold wire_digits

wires_length : (ws : List ℕ) → AllBelow most_wires ws → length (spaced (map decimal ws)) ≤ wire_bytes * length ws
wires_length ws below = length_numbers 3 ws below

all_few : (I : List Wire) (gs : List Gate) (ws : List ℕ)
    → length I ≤ most_labels
    → length gs ≤ most_gates
    → AllBelow (length (I ++ outputs gs)) ws
    → AllBelow most_wires ws
all_few I gs ws inputs gates below =
    all_below_more (length (I ++ outputs gs)) most_wires ws (omega (arith, few_wires I gs)) below

-- The lines of the inputs.
inputs_fit : (w : ℕ) (I : List Wire)
    → w + length I ≤ most_labels
    → length (joined (input_lines w I)) ≤ input_bytes * length I
inputs_fit w [] few = omega arith
inputs_fit w (α ∷ I) few =
    omega (
      arith,
      length-append (input_line w α) (joined (input_lines (suc w) I)),
      length_line (ascii "in") (decimal w ∷ wire_name α ∷ []),
      length-append (decimal w) (spaced (wire_name α ∷ [])),
      length-append (wire_name α) [],
      length_decimal 3 w (omega arith),
      type_length α,
      inputs_fit (suc w) I (omega arith),
    )

-- The lines of the gates.
gate_fits : (n : ℕ) (ws : List ℕ) (made : ℕ)
    → length ws ≤ gate_slot_count
    → AllBelow most_wires ws
    → made + gate_slot_count ≤ most_wires
    → length (gate_line n ws (numbers made (wires_out n))) ≤ gate_bytes
gate_fits n ws made few below low =
    let ms = numbers made (wires_out n) in
    omega (
      arith,
      length_gate_line n ws ms,
      wires_length ws below,
      wires_length ms (numbers_below made (wires_out n) most_wires (omega (arith, few_out n))),
      length_row made (wires_out n),
      few_out n,
    )

gates_fit : (I : List Wire) (gs : List Gate)
    → TakesEarlier I gs
    → length I ≤ most_labels
    → length gs ≤ most_gates
    → length (joined (gate_lines I gs)) ≤ gate_bytes * length gs
unfolding wires_out
gates_fit I [] no_gate inputs gates = omega arith
gates_fit I ((n on ws) ∷ gs) (next_gate {T = T} {U = U} e o t) inputs gates =
    let made = length (I ++ outputs gs) in
    let newest = gate_line n ws (numbers made (length (gate_outputs n))) in
    let counted = one_counted n ws T U e o in
    let taken : AllBelow most_wires ws
    = all_few I ((n on ws) ∷ gs) ws inputs gates (takes_below (next_gate {n = n} {T = T} {U = U} {ws = ws} {gs = gs} e o t)).0 in
    omega (
      arith,
      ap length (joined_append (gate_lines I gs) (newest ∷ [])),
      length-append (joined (gate_lines I gs)) (newest ++ []),
      length-append newest [],
      gate_fits n ws made (omega (arith, counted.0, few_in n)) taken (omega (arith, few_wires I gs)),
      gates_fit I gs t inputs (omega arith),
    )

-- The line of the outputs, and of the steps.
out_fits : (ws : List ℕ) → length ws ≤ most_outputs → AllBelow most_wires ws → length (out_line ws) ≤ out_bytes
out_fits ws few below = omega (arith, length_line (ascii "out") (map decimal ws), wires_length ws below)

steps_fit : (steps : ℕ) → steps < 2 ^ 32 → length (steps_line steps) ≤ steps_bytes
steps_fit steps low =
    omega (
      arith,
      length_line (ascii "steps") (decimal steps ∷ []),
      length-append (decimal steps) [],
      length_decimal 9 steps (omega arith),
    )

-- A circuit within the sizes, whose gates take earlier wires, with outputs that it has made.
pub record Printable (I : List Wire) (gs : List Gate) (r : Tuple) : Type 0 where
  pub takes_earlier : TakesEarlier I gs
  pub outputs_made : AllBelow (length (I ++ outputs gs)) (labels r)
  pub few_inputs : length I ≤ most_labels
  pub few_gates : length gs ≤ most_gates
  pub few_outputs : length (labels r) ≤ most_outputs

pub printable : {I : List Wire} {gs : List Gate} {r : Tuple} {A : Ty}
    → TakesEarlier I gs
    → [] ∣ loose I gs ⊢ tuple r ∶ A
    → length I ≤ most_labels
    → length gs ≤ most_gates
    → length (labels r) ≤ most_outputs
    → Printable I gs r
printable {I} {gs} {r} takes typed inputs gates outs =
    record {
      takes_earlier = takes;
      outputs_made = labels_are_below r (length (I ++ outputs gs)) (loose_below I gs) typed;
      few_inputs = inputs;
      few_gates = gates;
      few_outputs = outs;
    }

-- All its lines.
pub lines_fit : {I : List Wire} {gs : List Gate} {r : Tuple} (steps : ℕ)
    → Printable I gs r
    → steps < 2 ^ 32
    → length (lines (circuit I gs) r steps) ≤ least_text
lines_fit {I} {gs} {r} steps p low =
    let A = joined (input_lines 0 I) in
    let B = joined (gate_lines I gs) in
    let C = out_line (labels r) in
    omega (
      arith,
      ap length (lines_parts I gs r steps),
      length-append A (B ++ (C ++ steps_line steps)),
      length-append B (C ++ steps_line steps),
      length-append C (steps_line steps),
      inputs_fit 0 I (omega (arith, p.few_inputs)),
      gates_fit I gs p.takes_earlier p.few_inputs p.few_gates,
      out_fits (labels r) p.few_outputs (all_few I gs (labels r) p.few_inputs p.few_gates p.outputs_made),
      steps_fit steps low,
    )

-- The line of a refusal: a number of 64 bits has at most 20 digits.
pub refusal_fits : (number place : ℕ) → number < 2 ^ 64 → place < 2 ^ 64 → length (refused_line number place) ≤ refusal_bytes
refusal_fits number place low low' =
    omega (
      arith,
      length_line (ascii "refused") (decimal number ∷ decimal place ∷ []),
      length-append (decimal number) (spaced (decimal place ∷ [])),
      length-append (decimal place) [],
      length_decimal 19 number (omega arith),
      length_decimal 19 place (omega arith),
    )
