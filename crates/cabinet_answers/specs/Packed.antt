-- The answers of the operations, each in one number, for callers outside, and what such a caller reads in it.
-- Bits 0 to 5 hold the refusal's number, or 0 where there is none; from bit 6 on stands its place, or what else is answered.
use Rattle.std.specs.Prelude.{ℕ, ◌+◌, ◌*◌, ◌/◌, ◌%◌, ◌^◌, cond, eqb, Result, Ok, Err}
use Rattle.refusals.specs.Refusals.{refusal_number, refusal_place}
use Rattle.refusals.specs.declared.Refusal.{Refusal}
use Rattle.refusals.specs.declared.Refusal.TheVariants.{Form, Typing, Run}
use Rattle.program.specs.Format.{within}
use Rattle.program.specs.declared.format.Sizes.{Sizes}
use Rattle.run_answers.specs.declared.Finished.{Finished}
use Rattle.listing_check.specs.declared.ListingSizes.{ListingSizes}

-- A value put into so many bits from a bit on; what they do not hold is cut off.
abbrev pub put : ℕ → ℕ → ℕ → ℕ
put from count value = 2 ^ from * (value % 2 ^ count)

-- The value of so many bits from a bit on: in C `answer >> from & ((1 << count) - 1)`.
abbrev pub bits : ℕ → ℕ → ℕ → ℕ
bits from count answer = answer / 2 ^ from % 2 ^ count

-- PACKING

-- 01: a refusal "gives a number and a place".
unfoldable pub packed_refusal : ℕ → ℕ → ℕ
packed_refusal number place = number % 64 + put 6 16 place

-- Of a reading that accepts: the numbers of labels, types and terms.
unfoldable pub packed_sizes : ℕ → ℕ → ℕ → ℕ
packed_sizes labels types terms = put 6 7 labels + put 13 10 types + put 23 12 terms

-- Of a check that accepts: the length of the type. Of an export or an import: the length of the text or the listing.
unfoldable pub packed_length : ℕ → ℕ
packed_length length = put 6 16 length

-- Of a run that finishes: gates, length of the listing, steps.
unfoldable pub packed_ran : ℕ → ℕ → ℕ → ℕ
packed_ran steps gates length = put 6 12 gates + put 18 14 length + put 32 32 steps

-- Of the check of a listing that accepts: the numbers of inputs, gates and outputs.
unfoldable pub packed_counts : ℕ → ℕ → ℕ → ℕ
packed_counts inputs gates outputs = put 6 7 inputs + put 13 12 gates + put 25 9 outputs

-- An answer: what was answered, packed in its way, or the refusal.
abbrev pub packed_answer : {X : Type 0} → (X → ℕ) → Result X Refusal → ℕ
packed_answer packed (Ok x) = packed x
packed_answer packed (Err x) = packed_refusal (refusal_number x) (refusal_place x)

-- Of each operation.
abbrev pub packed_read : Result Sizes Refusal → ℕ
packed_read = packed_answer (λ s. packed_sizes s.labels s.types s.terms)

abbrev pub packed_check : Result ℕ Refusal → ℕ
packed_check = packed_answer packed_length

abbrev pub packed_run : Result Finished Refusal → ℕ
packed_run = packed_answer (λ a. packed_ran a.steps a.gates a.length)

abbrev pub packed_listing : Result ListingSizes Refusal → ℕ
packed_listing = packed_answer (λ n. packed_counts n.inputs n.gates n.outputs)

abbrev pub packed_conversion : Result ℕ Refusal → ℕ
packed_conversion = packed_answer packed_length

-- UNPACKING: each definition is what the accessor of include/gawipsol.h computes

-- gawipsol_number
abbrev pub number_in : ℕ → ℕ
number_in answer = answer % 64

-- gawipsol_place
abbrev pub place_in : ℕ → ℕ
place_in answer = bits 6 16 answer

-- gawipsol_read_labels, gawipsol_read_types, gawipsol_read_terms
abbrev pub labels_in : ℕ → ℕ
labels_in answer = bits 6 7 answer

abbrev pub types_in : ℕ → ℕ
types_in answer = bits 13 10 answer

abbrev pub terms_in : ℕ → ℕ
terms_in answer = bits 23 12 answer

-- gawipsol_check_length, gawipsol_export_length, gawipsol_import_length
abbrev pub written_in : ℕ → ℕ
written_in answer = bits 6 16 answer

-- gawipsol_run_gates, gawipsol_run_length, gawipsol_run_steps
abbrev pub gates_in : ℕ → ℕ
gates_in answer = bits 6 12 answer

abbrev pub length_in : ℕ → ℕ
length_in answer = bits 18 14 answer

abbrev pub steps_in : ℕ → ℕ
steps_in answer = bits 32 32 answer

-- gawipsol_listing_inputs, gawipsol_listing_gates, gawipsol_listing_outputs
abbrev pub inputs_in : ℕ → ℕ
inputs_in answer = bits 6 7 answer

abbrev pub listed_gates_in : ℕ → ℕ
listed_gates_in answer = bits 13 12 answer

abbrev pub outputs_in : ℕ → ℕ
outputs_in answer = bits 25 9 answer

-- 01: "A refusal belongs to one of three families: form, typing or run (1 to 9, 16 to 18, the rest)." So its number says which.
abbrev pub refusal_with : ℕ → ℕ → Refusal
refusal_with number place =
    cond (within 1 9 number) (Form number place) (cond (within 16 18 number) (Typing number place) (Run number place))

abbrev pub refusal_in : ℕ → Refusal
refusal_in answer = refusal_with (number_in answer) (place_in answer)

-- The answer that a caller has read: a refusal where the number is not 0, else what it reads in its way.
abbrev pub unpacked_answer : {X : Type 0} → (ℕ → X) → ℕ → Result X Refusal
unpacked_answer unpacked answer = cond (eqb (number_in answer) 0) (Ok (unpacked answer)) (Err (refusal_in answer))

-- Of each operation.
unfoldable pub unpacked_read : ℕ → Result Sizes Refusal
unpacked_read = unpacked_answer (λ a. record { labels = labels_in a; types = types_in a; terms = terms_in a })

unfoldable pub unpacked_check : ℕ → Result ℕ Refusal
unpacked_check = unpacked_answer written_in

unfoldable pub unpacked_run : ℕ → Result Finished Refusal
unpacked_run = unpacked_answer (λ a. record { steps = steps_in a; gates = gates_in a; length = length_in a })

unfoldable pub unpacked_listing : ℕ → Result ListingSizes Refusal
unpacked_listing = unpacked_answer (λ a. record { inputs = inputs_in a; gates = listed_gates_in a; outputs = outputs_in a })

unfoldable pub unpacked_conversion : ℕ → Result ℕ Refusal
unpacked_conversion = unpacked_answer written_in
