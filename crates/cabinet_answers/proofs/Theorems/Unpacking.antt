-- Unpacking gives back every answer that an operation has.
use Rattle.std.specs.Prelude.{ℕ, ◌≤◌, ◌<◌, ◌≡◌, refl, Bool, true, false, ◌&&◌, cond, List, length, eqb, Result, Ok, Err}
use Rattle.std.proofs.Common.{arith, ◌∙◌, ap, ap₂, le-leb, ne_eqb}
use Rattle.std.proofs.Math.Option.{Option, none, some}
use Rattle.std.proofs.lemmas.Bool.{lt-leb}
use Rattle.refusals.specs.Refusals.{refusal_number, refusal_place}
use Rattle.refusals.specs.declared.Refusal.{Refusal}
use Rattle.refusals.specs.declared.Refusal.TheVariants.{Form, Typing, Run}
use Rattle.program.specs.Format.{within}
use Rattle.program.specs.Reading.{read_of}
use Rattle.check_program.specs.Answers.{Judged, accepts, refuses, check_of, check_answer, answer_to as check_answer_to}
use Rattle.lent.specs.Lent.{too_short}
use Rattle.check_program.specs.Lengths.{check_lengths}
use Rattle.run_answers.specs.Answers.{Ran, ran, declines, run_of, answer_to, run_answer}
use Rattle.run_answers.specs.Lengths.{run_lengths}
use Rattle.run_answers.proofs.Theorems.Families.{most_places, ReadBounds, read_bounds, CheckBounds, of_read, check_bounds}
use Rattle.run_answers.proofs.Theorems.Running.{OfRun, of_check, RunBounds, run_bounds}
use Rattle.listing_check.specs.Answers.{listing_lengths, listing_check_of, listing_check_answer}
use Rattle.listing_check.proofs.Laws.Places.{most_listed, OfListing, ListingBounds, listing_bounds}
use Rattle.listing.proofs.Laws.Lengths.{length_listing}
use Rattle.openqasm_export.specs.Answers.{export_lengths, export_check_of, exported_as, export_answer}
use Rattle.openqasm_export.proofs.Laws.Answering.{accepted_fits}
use Rattle.openqasm_export.proofs.Laws.Statements.{export_bounds}
use Rattle.openqasm_import.specs.Answers.{import_lengths, import_of, imported_as, import_answer}
use Rattle.openqasm_import.proofs.Theorems.Imports.{import_means}
use Rattle.program.specs.declared.format.Sizes.{Sizes}
use Rattle.run_answers.specs.declared.Finished.{Finished}
use Rattle.listing_check.specs.declared.ListingSizes.{ListingSizes}
use Rattle.cabinet_answers.specs.Packed.{packed_refusal, packed_sizes, packed_length, packed_ran, packed_read, packed_check}
use Rattle.cabinet_answers.specs.Packed.{packed_run, number_in, place_in, labels_in, types_in, terms_in, written_in}
use Rattle.cabinet_answers.specs.Packed.{gates_in, length_in, steps_in, refusal_with, refusal_in, unpacked_read}
use Rattle.cabinet_answers.specs.Packed.{unpacked_check, unpacked_run, packed_counts, packed_listing, inputs_in}
use Rattle.cabinet_answers.specs.Packed.{listed_gates_in, outputs_in, unpacked_listing, packed_conversion, unpacked_conversion, packed_answer, unpacked_answer}

-- REFUSALS

-- A refusal with a number of its family, and a place, that the fields hold. Later numbers of the run family are below 64 too.
abbrev pub RefusalFits : Refusal → Type 0
RefusalFits (Form number place) = (1 ≤ number) × (number ≤ 9) × (place < 65536)
RefusalFits (Typing number place) = (16 ≤ number) × (number ≤ 18) × (place < 65536)
RefusalFits (Run number place) = (19 ≤ number) × (number < 64) × (place < 65536)

-- A number within two others, and one that is above them.
is_within : (least greatest n : ℕ) → least ≤ n → n ≤ greatest → within least greatest n ≡ true
is_within least greatest n h k = ap₂ (λ a b. a && b) (le-leb least n h) (le-leb n greatest k)

is_above : (least greatest n : ℕ) → least ≤ n → greatest < n → within least greatest n ≡ false
is_above least greatest n h k = ap₂ (λ a b. a && b) (le-leb least n h) (lt-leb n greatest k)

-- The number gives back the family.
with_number : (x : Refusal) → RefusalFits x → refusal_with (refusal_number x) (refusal_place x) ≡ x
with_number (Form number place) h =
    ap (λ b. cond b (Form number place) (cond (within 16 18 number) (Typing number place) (Run number place)))
    (is_within 1 9 number h.0 h.1)
with_number (Typing number place) h =
    ap (λ b. cond b (Form number place) (cond (within 16 18 number) (Typing number place) (Run number place)))
    (is_above 1 9 number (omega arith) (omega arith))
    ∙ ap (λ b. cond b (Typing number place) (Run number place)) (is_within 16 18 number h.0 h.1)
with_number (Run number place) h =
    ap (λ b. cond b (Form number place) (cond (within 16 18 number) (Typing number place) (Run number place)))
    (is_above 1 9 number (omega arith) (omega arith))
    ∙ ap (λ b. cond b (Typing number place) (Run number place)) (is_above 16 18 number (omega arith) (omega arith))

-- Number and place in a packed refusal.
number_back : (number place : ℕ) → number < 64 → number_in (packed_refusal number place) ≡ number
unfolding packed_refusal
number_back number place h = omega arith

place_back : (number place : ℕ) → place < 65536 → place_in (packed_refusal number place) ≡ place
unfolding packed_refusal
place_back number place h = omega arith

-- Of a refusal that fits: it has a number, which the field holds, and so does its place.
in_fields : (x : Refusal) → RefusalFits x → (1 ≤ refusal_number x) × (refusal_number x < 64) × (refusal_place x < 65536)
in_fields (Form number place) h = (omega arith, omega arith, omega arith)
in_fields (Typing number place) h = (omega arith, omega arith, omega arith)
in_fields (Run number place) h = (omega arith, omega arith, omega arith)

-- A refusal is read where the number is not 0, and it is the one that was packed.
pub refusal_back : {X : Type 0} (accepted : X) (refused : Refusal → X) (x : Refusal)
    → RefusalFits x
    → (let answer = packed_refusal (refusal_number x) (refusal_place x) in
    cond (eqb (number_in answer) 0) accepted (refused (refusal_in answer)))
    ≡ refused x
refusal_back accepted refused x h =
    let answer = packed_refusal (refusal_number x) (refusal_place x) in
    let k = in_fields x h in
    let n : number_in answer ≡ refusal_number x = number_back (refusal_number x) (refusal_place x) k.1 in
    let some_number : eqb (number_in answer) 0 ≡ false = ne_eqb (number_in answer) 0 (λ z. omega (arith, k.0)) in
    ap (λ b. cond b accepted (refused (refusal_in answer))) some_number
    ∙ ap refused
    (ap₂ refusal_with n (place_back (refusal_number x) (refusal_place x) k.2) ∙ with_number x h)

-- Where it is 0, the rest is what was answered.
pub answer_back : {X : Type 0} (accepted refused : X) (answer : ℕ)
    → number_in answer ≡ 0
    → cond (eqb (number_in answer) 0) accepted refused ≡ accepted
answer_back accepted refused answer h = ap (λ n. cond (eqb n 0) accepted refused) h

-- What fits is what was answered, where that does, or a refusal that does.
abbrev pub AnswerFits : {X : Type 0} → (X → Type 0) → Result X Refusal → Type 0
AnswerFits P (Ok x) = P x
AnswerFits P (Err x) = RefusalFits x

-- Any answer comes back, if what is answered does.
pub any_back : {X : Type 0} (packed : X → ℕ) (unpacked : ℕ → X) (P : X → Type 0)
    → ((x : X) → P x → (number_in (packed x) ≡ 0) × (unpacked (packed x) ≡ x))
    → (a : Result X Refusal)
    → AnswerFits P a
    → unpacked_answer unpacked (packed_answer packed a) ≡ a
any_back packed unpacked P back (Ok x) h =
    let b = back x h in
    answer_back (Ok (unpacked (packed x))) (Err (refusal_in (packed x))) (packed x) b.0 ∙ ap Ok b.1
any_back packed unpacked P back (Err x) h =
    let answer = packed_refusal (refusal_number x) (refusal_place x) in
    refusal_back (Ok (unpacked answer)) Err x h

-- The same with 19 where a buffer is too short.
short_fits : {X : Type 0} (P : X → Type 0) (t : Bool) (a : Result X Refusal)
    → AnswerFits P a
    → AnswerFits P (cond t (Err (Run 19 0)) a)
short_fits P true a h = (omega arith, omega arith, omega arith)
short_fits P false a h = h

-- The refusals of the operations on programs fit.
fits : (x : Refusal) → OfRun x → refusal_place x ≤ most_places → RefusalFits x
fits (Form number place) h p = (h.0, h.1, omega arith)
fits (Typing number place) h p = (h.0, h.1, omega arith)
fits (Run number place) h p = (omega (arith, h.0), omega (arith, h.1), omega arith)

-- READ

abbrev pub SizesFit : Sizes → Type 0
SizesFit s = (s.labels < 128) × (s.types < 1024) × (s.terms < 4096)

sizes_back : (s : Sizes)
    → SizesFit s
    → (let answer = packed_sizes s.labels s.types s.terms in
    (number_in answer ≡ 0) × (labels_in answer ≡ s.labels) × (types_in answer ≡ s.types) × (terms_in answer ≡ s.terms))
unfolding packed_sizes
sizes_back s h = (omega arith, omega arith, omega arith, omega arith)

sizes_same : (s : Sizes) (l t m : ℕ)
    → l ≡ s.labels
    → t ≡ s.types
    → m ≡ s.terms
    → ◌≡◌ {A = Sizes} (record { labels = l; types = t; terms = m }) s
sizes_same s l t m e e' e'' =
    ap (λ x. record { labels = x; types = t; terms = m }) e
    ∙ ap (λ x. record { labels = s.labels; types = x; terms = m }) e'
    ∙ ap (λ x. record { labels = s.labels; types = s.types; terms = x }) e''

abbrev pub ReadFits : Result Sizes Refusal → Type 0
ReadFits = AnswerFits SizesFit

pub read_back : (a : Result Sizes Refusal) → ReadFits a → unpacked_read (packed_read a) ≡ a
unfolding unpacked_read
read_back =
    any_back (λ s. packed_sizes s.labels s.types s.terms)
    (λ x. record { labels = labels_in x; types = types_in x; terms = terms_in x }) SizesFit
    (λ s h. let b = sizes_back s h in (b.0, sizes_same s _ _ _ b.1 b.2 b.3))

-- Every answer of a reading comes back.
pub unpacked_read_lem : (f : List ℕ) → unpacked_read (packed_read (read_of f)) ≡ read_of f
unpacked_read_lem f = read_back (read_of f) (of (read_of f) (read_bounds f))
  where
    of : (a : Result Sizes Refusal) → ReadBounds a → ReadFits a
    of (Ok s) b = (omega (arith, b.0), omega (arith, b.1), omega (arith, b.2))
    of (Err x) b = fits x (of_check x (of_read x b.0)) b.1

-- CHECK

abbrev pub LengthFits : ℕ → Type 0
LengthFits length = length < 65536

length_back : (length : ℕ)
    → LengthFits length
    → (let answer = packed_length length in (number_in answer ≡ 0) × (written_in answer ≡ length))
unfolding packed_length
length_back length h = (omega arith, omega arith)

abbrev pub CheckFits : Result ℕ Refusal → Type 0
CheckFits = AnswerFits LengthFits

pub check_back : (a : Result ℕ Refusal) → CheckFits a → unpacked_check (packed_check a) ≡ a
unfolding unpacked_check
check_back = any_back packed_length written_in LengthFits length_back

-- The answer of a check whose buffers are long enough.
check_fits : (f : List ℕ) → CheckFits (check_answer_to (check_of f))
check_fits f = of (check_of f) (check_bounds f)
  where
    of : (j : Judged) → CheckBounds j → CheckFits (check_answer_to j)
    of (accepts A) b = omega arith
    of (refuses x) b = fits x (of_check x b.0) b.1

-- Every answer of a check comes back, 19 too.
pub unpacked_check_lem : (f : List ℕ) (buffers : List (List ℕ))
    → unpacked_check (packed_check (check_answer f buffers)) ≡ check_answer f buffers
unfolding check_answer
unpacked_check_lem f buffers =
    check_back (check_answer f buffers)
    (short_fits LengthFits (too_short check_lengths buffers) (check_answer_to (check_of f)) (check_fits f))

-- RUN

abbrev pub FinishedFits : Finished → Type 0
FinishedFits a = (a.steps < 4294967296) × (a.gates < 4096) × (a.length < 16384)

ran_back : (a : Finished)
    → FinishedFits a
    → (let answer = packed_ran a.steps a.gates a.length in
    (number_in answer ≡ 0) × (steps_in answer ≡ a.steps) × (gates_in answer ≡ a.gates) × (length_in answer ≡ a.length))
unfolding packed_ran
ran_back a h = (omega arith, omega arith, omega arith, omega arith)

finished_same : (a : Finished) (k g l : ℕ)
    → k ≡ a.steps
    → g ≡ a.gates
    → l ≡ a.length
    → ◌≡◌ {A = Finished} (record { steps = k; gates = g; length = l }) a
finished_same a k g l e e' e'' =
    ap (λ x. record { steps = x; gates = g; length = l }) e
    ∙ ap (λ x. record { steps = a.steps; gates = x; length = l }) e'
    ∙ ap (λ x. record { steps = a.steps; gates = a.gates; length = x }) e''

abbrev pub RunFits : Result Finished Refusal → Type 0
RunFits = AnswerFits FinishedFits

pub run_back : (a : Result Finished Refusal) → RunFits a → unpacked_run (packed_run a) ≡ a
unfolding unpacked_run
run_back =
    any_back (λ a. packed_ran a.steps a.gates a.length)
    (λ x. record { steps = steps_in x; gates = gates_in x; length = length_in x }) FinishedFits
    (λ a k. let b = ran_back a k in (b.0, finished_same a _ _ _ b.1 b.2 b.3))

-- The answer of a run whose buffers are long enough. 01: "The step limit is a 32-bit number."
run_fits : (f : List ℕ) (limit : ℕ) → limit < 4294967296 → RunFits (answer_to (run_of f limit))
run_fits f limit h = of (run_of f limit) (run_bounds f limit)
  where
    of : (r : Ran) → RunBounds limit r → RunFits (answer_to r)
    of (ran steps gates bytes) b = (omega (arith, b.0), omega (arith, b.1), omega (arith, b.2))
    of (declines x) b = fits x b.0 b.1

-- Every answer of a run comes back, 19 too.
pub unpacked_run_lem : (f : List ℕ) (limit : ℕ) (buffers : List (List ℕ))
    → limit < 4294967296
    → unpacked_run (packed_run (run_answer f limit buffers)) ≡ run_answer f limit buffers
unfolding run_answer
unpacked_run_lem f limit buffers h =
    run_back (run_answer f limit buffers)
    (short_fits FinishedFits (too_short run_lengths buffers) (answer_to (run_of f limit)) (run_fits f limit h))

-- THE CHECK OF A LISTING

abbrev pub CountsFit : ListingSizes → Type 0
CountsFit n = (n.inputs < 128) × (n.gates < 4096) × (n.outputs < 512)

counts_back : (n : ListingSizes)
    → CountsFit n
    → (let answer = packed_counts n.inputs n.gates n.outputs in
    (number_in answer ≡ 0) × (inputs_in answer ≡ n.inputs) × (listed_gates_in answer ≡ n.gates) × (outputs_in answer ≡ n.outputs))
unfolding packed_counts
counts_back n h = (omega arith, omega arith, omega arith, omega arith)

counts_same : (n : ListingSizes) (i g o : ℕ)
    → i ≡ n.inputs
    → g ≡ n.gates
    → o ≡ n.outputs
    → ◌≡◌ {A = ListingSizes} (record { inputs = i; gates = g; outputs = o }) n
counts_same n i g o e e' e'' =
    ap (λ x. record { inputs = x; gates = g; outputs = o }) e
    ∙ ap (λ x. record { inputs = n.inputs; gates = x; outputs = o }) e'
    ∙ ap (λ x. record { inputs = n.inputs; gates = n.gates; outputs = x }) e''

abbrev pub ListingFits : Result ListingSizes Refusal → Type 0
ListingFits = AnswerFits CountsFit

pub listing_back : (a : Result ListingSizes Refusal) → ListingFits a → unpacked_listing (packed_listing a) ≡ a
unfolding unpacked_listing
listing_back =
    any_back (λ n. packed_counts n.inputs n.gates n.outputs)
    (λ x. record { inputs = inputs_in x; gates = listed_gates_in x; outputs = outputs_in x }) CountsFit
    (λ n h. let k = counts_back n h in (k.0, counts_same n _ _ _ k.1 k.2 k.3))

-- The refusals of operations on listings.
listed_refusal : (x : Refusal) (last : ℕ) → last < 64 → OfListing last x → refusal_place x < most_listed → RefusalFits x
listed_refusal (Form number place) last l h p = absurd h
listed_refusal (Typing number place) last l h p = absurd h
listed_refusal (Run number place) last l h p = (omega (arith, h.0), omega (arith, l, h.1), omega arith)

-- The answer of a check of a listing whose working memory is long enough.
listing_fits : (b : List ℕ) → ListingFits (listing_check_of b)
listing_fits b = of (listing_check_of b) (listing_bounds b)
  where
    of : (a : Result ListingSizes Refusal) → ListingBounds 26 a → ListingFits a
    of (Ok n) h = (omega (arith, h.0), omega (arith, h.1), omega (arith, h.2))
    of (Err x) h = listed_refusal x 26 (omega arith) h.0 h.1

-- Every answer of a check of a listing comes back, 19 too.
pub unpacked_listing_lem : (b : List ℕ) (buffers : List (List ℕ))
    → unpacked_listing (packed_listing (listing_check_answer b buffers)) ≡ listing_check_answer b buffers
unfolding listing_check_answer
unpacked_listing_lem b buffers =
    listing_back (listing_check_answer b buffers)
    (short_fits CountsFit (too_short listing_lengths buffers) (listing_check_of b) (listing_fits b))

-- EXPORT AND IMPORT

abbrev pub ConversionFits : Result ℕ Refusal → Type 0
ConversionFits = AnswerFits LengthFits

pub conversion_back : (a : Result ℕ Refusal) → ConversionFits a → unpacked_conversion (packed_conversion a) ≡ a
unfolding unpacked_conversion
conversion_back = any_back packed_length written_in LengthFits length_back

-- Every answer of an export comes back.
pub unpacked_export : (b : List ℕ) (buffers : List (List ℕ))
    → unpacked_conversion (packed_conversion (export_answer b buffers)) ≡ export_answer b buffers
unfolding export_answer
unpacked_export b buffers =
    conversion_back (export_answer b buffers)
    (short_fits LengthFits (too_short export_lengths buffers) (exported_as b (export_check_of b)) (of (export_check_of b) refl (export_bounds b)))
  where
    of : (a : Result ListingSizes Refusal) → export_check_of b ≡ a → ListingBounds 28 a → ConversionFits (exported_as b a)
    of (Ok n) e h = omega (arith, accepted_fits b e)
    of (Err x) e h = listed_refusal x 28 (omega arith) h.0 h.1

-- Every answer of an import comes back.
pub unpacked_import : (text : List ℕ) (buffers : List (List ℕ))
    → unpacked_conversion (packed_conversion (import_answer text buffers)) ≡ import_answer text buffers
unfolding import_answer
unpacked_import text buffers =
    conversion_back (import_answer text buffers)
    (short_fits LengthFits (too_short import_lengths buffers) (imported_as (import_of text)) (of (import_of text) refl))
  where
    of : (o : Option (List ℕ)) → import_of text ≡ o → ConversionFits (imported_as o)
    of none e = (omega arith, omega arith, omega arith)
    of (some b) e =
        let x = (((import_means text).imported b).0 e).accepted in
        omega (
          arith,
          ap length x.bytes_are,
          length_listing x.inputs x.gates x.outs,
          x.input_count_is,
          x.gate_count_is,
          x.output_count_is,
          x.few_inputs,
          x.few_gates,
          x.few_outputs,
        )
