-- What any bytes say when they are read as a listing, as lines of text.
use Rattle.std.specs.Prelude.{ℕ, zero, suc, ◌+◌, List, ◌∷◌, ◌++◌, map}
use Rattle.text.specs.Text.{ascii, decimal, spaced}
use Rattle.wirelist_lines.specs.Lines.{gate_name, input_line, gate_line, out_line, steps_line}
use Rattle.rules.specs.Gates.{wires_in, wires_out}
use Rattle.rules.specs.Circuits.{numbers}
use Rattle.listing.specs.Pieces.{pieces}
use Rattle.words.specs.Numbers.{words_at}
use Rattle.listing.specs.Reading.{input_count, gate_count, output_count, kind_at, slots_from, outputs_from, input_type}

-- What stands in the line of a gate before the colon.
abbrev pub taken_part : ℕ → List ℕ → List ℕ
taken_part n taken = ascii "gate" ++ spaced (gate_name n ∷ map decimal taken)

-- How many wires the inputs and the first gates make.
abbrev pub made_before : List ℕ → ℕ → ℕ
made_before b zero = input_count b
made_before b (suc gate) = made_before b gate + wires_out (kind_at b (input_count b + gate))

-- The line of an input, and of a gate: its kind settles how many wires it takes and makes.
unfoldable pub input_line_at : List ℕ → ℕ → List ℕ
input_line_at b i = input_line i (input_type (kind_at b i))

unfoldable pub gate_line_at : List ℕ → ℕ → List ℕ
gate_line_at b gate =
    let i = input_count b + gate in
    let n = kind_at b i in
    gate_line n (words_at b (slots_from b i) (wires_in n)) (numbers (made_before b gate) (wires_out n))

-- The line of the outputs.
unfoldable pub out_line_at : List ℕ → List ℕ
out_line_at b = out_line (words_at b (outputs_from b) (output_count b))

-- All lines one behind the other: the inputs, the gates, the outputs, the steps.
unfoldable pub text_at : List ℕ → ℕ → List ℕ
text_at b steps =
    pieces (input_line_at b) (input_count b) ++ (pieces (gate_line_at b) (gate_count b) ++ (out_line_at b ++ steps_line steps))
