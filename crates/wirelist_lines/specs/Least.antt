-- How long a buffer is at least that holds every text.
use Rattle.std.specs.Prelude.{ℕ, ◌+◌, ◌*◌}
use Rattle.rules.specs.Sizes.{most_gates, most_labels}
use Rattle.rules.specs.Slots.{gate_slot_count}
use Rattle.wirelist_lines.specs.Lines.{longest_name}
use Rattle.listing.specs.Listing.{most_outputs}

-- The most digits of a wire, and how many bytes it takes behind its space: there are fewer than 10,000 wires.
abbrev pub wire_digits : ℕ
wire_digits = 4

abbrev pub wire_bytes : ℕ
wire_bytes = 1 + wire_digits

-- How many bytes a line has at most. `in`, wire, type:
abbrev pub input_bytes : ℕ
input_bytes = 2 + wire_bytes + 6 + 1

-- `gate`, name, wires taken, colon, wires made:
abbrev pub gate_bytes : ℕ
gate_bytes = 4 + (1 + longest_name) + gate_slot_count * wire_bytes + 2 + gate_slot_count * wire_bytes + 1

-- `out`, wires:
abbrev pub out_bytes : ℕ
out_bytes = 3 + most_outputs * wire_bytes + 1

-- `steps`, a number of 32 bits:
abbrev pub steps_bytes : ℕ
steps_bytes = 5 + (1 + 10) + 1

-- `refused`, number, place, each of 64 bits at most:
abbrev pub refusal_bytes : ℕ
refusal_bytes = 7 + (1 + 20) + (1 + 20) + 1

-- The least length of the buffer: 94,357 bytes.
abbrev pub least_text : ℕ
least_text = most_labels * input_bytes + most_gates * gate_bytes + out_bytes + steps_bytes
