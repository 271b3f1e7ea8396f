-- How long the text of an accepted listing is: an output buffer of the least length holds it.
use Rattle.std.specs.Prelude.{ℕ, zero, suc, ◌+◌, ◌*◌, ◌≤◌, ◌<◌, ◌≡◌, refl, Bool, true, List, [], ◌∷◌, ◌++◌, map, T as Truth, eqb, leb, length, get_or}
use Rattle.std.proofs.Common.{arith, sym, ◌∙◌, ap, ap₂, subst, leb→le, length-append}
use Rattle.std.proofs.Math.Decide.{dec_lt}
use Rattle.std.proofs.Math.Option.{Option, none, some}
use Rattle.rules.specs.Types.{Wire, Bit, Qubit}
use Rattle.rules.specs.Gates.{nth, gate_outputs}
use Rattle.rules.specs.Terms.{Gate, ◌on◌}
use Rattle.rules.specs.Circuits.{numbers, outputs, taken, one_if, count, OfTypes, wires_end, next_wire, TakesEarlier, no_gate}
use Rattle.rules.specs.Circuits.{next_gate}
use Rattle.rules.specs.Sizes.{most_labels, most_gates}
use Rattle.rules.proofs.Laws.Wires.{Compared, equal, unequal, compared, one_if_equal, one_if_unequal, count_append, count_above}
use Rattle.rules.proofs.Laws.Wires.{count_between, nth_some_within, every_nth}
use Rattle.text.specs.Text.{ascii, decimal, spaced, joined}
use Rattle.text.proofs.Laws.Decimals.{length_decimal}
use Rattle.listing.specs.Reading.{gates_of, outputs_of}
use Rattle.wire_table.specs.WireRules.{GoesOnce}
use Rattle.listing_check.specs.Meaning.{SoundListing}
use Rattle.listing_check.proofs.Laws.Judging.{sound_known, sound_read}
use Rattle.openqasm.specs.Layout.{header, bit_register, declaration, Statement, on_one, on_two, on_three, measurement, statements}
use Rattle.openqasm.specs.Layout.{under_bit, unwritten, AllWritten, statement_line, gate_line, registers_of, declarations, gate_lines}
use Rattle.openqasm.specs.Layout.{register_name, output_name, output_line, export_text, export_of, declaration_bytes, statement_bytes, most_text}
use Rattle.openqasm.proofs.Laws.Registers.{as_many, AllCounted, known_counted, length_numbers, registers_few, taken_few}

-- AS MANY OUTPUTS AS INPUTS

-- How often the numbers of a list stand in another one, together.
abbrev count_all : List ℕ → List ℕ → ℕ
count_all [] xs = 0
count_all (w ∷ ws) xs = count w xs + count_all ws xs

-- Two numbers are compared in either order alike.
same_test : (m n : ℕ) → one_if (eqb m n) ≡ one_if (eqb n m)
same_test m n = of (eqb m n) (compared m n)
  where
    of : (b : Bool) → Compared m n b → one_if b ≡ one_if (eqb n m)
    of _ (equal e) = sym (one_if_equal n m (sym e))
    of _ (unequal f) = sym (one_if_unequal n m (λ e. f (sym e)))

-- In an empty list stands none of them.
count_none : (ws : List ℕ) → count_all ws [] ≡ 0
count_none [] = refl
count_none (w ∷ ws) = omega (arith, count_none ws)

-- One more element x is counted as often as x stands in the list.
count_more : (x : ℕ) (ws xs : List ℕ) → count_all ws (x ∷ xs) ≡ count x ws + count_all ws xs
count_more x [] xs = refl
count_more x (w ∷ ws) xs = omega (arith, same_test w x, count_more x ws xs)

-- The numbers of either list stand equally often in the other.
count_other : (ws xs : List ℕ) → count_all ws xs ≡ count_all xs ws
count_other ws [] = count_none ws
count_other ws (x ∷ xs) = omega (arith, count_more x ws xs, count_other ws xs)

-- Where each number of a list stands once in another, they stand there as often as the list is long.
count_once : (ws xs : List ℕ) → ((w : ℕ) → 1 ≤ count w ws → count w xs ≡ 1) → count_all ws xs ≡ length ws
count_once [] xs once = refl
count_once (w ∷ ws) xs once =
    omega (
      arith,
      once w (omega (arith, one_if_equal w w refl)),
      count_once ws xs (λ v h. once v (omega arith)),
    )

-- A list of numbers below n, in which each of them stands once, has n elements.
pub each_once : (n : ℕ) (xs : List ℕ)
    → ((w : ℕ) → 1 ≤ count w xs → w < n)
    → ((w : ℕ) → w < n → count w xs ≡ 1)
    → length xs ≡ n
each_once n xs below once =
    sym (count_once xs row (λ w h. count_between w 0 n (omega arith) (omega (arith, below w h))))
    ∙ count_other xs row
    ∙ count_once row xs (λ w h. once w (row_below w h (dec_lt w n)))
    ∙ length_numbers 0 n
  where
    row : List ℕ
    row = numbers 0 n

    row_below : (w : ℕ) → 1 ≤ count w (numbers 0 n) → Dec (w < n) → w < n
    row_below w h (yes p) = p
    row_below w h (no p) = absurd (omega (arith, count_above w 0 n (omega arith)))

-- What holds of a number that stands in one of two lists holds if it stands in both joined.
in_either : {P : Type 0} (w : ℕ) (xs ys : List ℕ)
    → (1 ≤ count w xs → P)
    → (1 ≤ count w ys → P)
    → 1 ≤ count w (xs ++ ys)
    → P
in_either {P} w xs ys first second h = of (count w xs) refl
  where
    of : (c : ℕ) → count w xs ≡ c → P
    of zero e = second (omega (arith, count_append w xs ys))
    of (suc c) e = first (omega arith)

-- Wires that have types are made.
typed_made : {types : List Wire} {ws : List ℕ} {αs : List Wire}
    → OfTypes types ws αs
    → (w : ℕ)
    → 1 ≤ count w ws
    → w < length types
typed_made wires_end w h = absurd (omega arith)
typed_made {types} (next_wire {w = v} {ws = ws} e o) w h = of (eqb w v) (compared w v) (typed_made o w) h
  where
    of : (b : Bool) → Compared w v b → (1 ≤ count w ws → w < length types) → 1 ≤ one_if b + count w ws → w < length types
    of _ (equal p) others k = omega (arith, nth_some_within types v e)
    of _ (unequal f) others k = others (omega arith)

-- The wires that gates take are made.
taken_made : {I : List Wire} {gs : List Gate}
    → TakesEarlier I gs
    → (w : ℕ)
    → 1 ≤ count w (taken gs)
    → w < length (I ++ outputs gs)
taken_made no_gate w h = absurd (omega arith)
taken_made {I} (next_gate {n = n} {ws = ws} {gs = gs} e o t) w h =
    omega (
      arith,
      in_either {P = w < length (I ++ outputs gs)} w ws (taken gs) (typed_made o w) (taken_made t w) h,
      length-append I (outputs gs),
      length-append I (outputs gs ++ gate_outputs n),
      length-append (outputs gs) (gate_outputs n),
    )

-- Gates that have statements make as many wires as they take.
as_many_taken : (gs : List Gate) → AllCounted gs → AllWritten gs → length (taken gs) ≡ length (outputs gs)
as_many_taken [] counted written = refl
as_many_taken ((n on ws) ∷ gs) counted written =
    omega (
      arith,
      length-append ws (taken gs),
      length-append (outputs gs) (gate_outputs n),
      as_many n written.0,
      counted.0,
      as_many_taken gs counted.1 written.1,
    )

-- A listing in which each wire goes once and each gate has a statement has as many outputs as inputs.
pub as_many_outputs : (I : List Wire) (gs : List Gate) (outs : List ℕ)
    → GoesOnce I gs outs
    → AllWritten gs
    → length outs ≡ length I
as_many_outputs I gs outs goes written =
    omega (
      arith,
      each_once (length (I ++ outputs gs)) (taken gs ++ outs) made goes.gone_once,
      length-append (taken gs) outs,
      length-append I (outputs gs),
      as_many_taken gs (known_counted gs (sound_known gs goes.sound.takes_earlier)) written,
    )
  where
    made : (w : ℕ) → 1 ≤ count w (taken gs ++ outs) → w < length (I ++ outputs gs)
    made w = in_either w (taken gs) outs (taken_made goes.sound.takes_earlier w) (goes.outputs_made w)

-- THE LINES

-- How long texts are together.
abbrev lengths : List (List ℕ) → ℕ
lengths [] = 0
lengths (l ∷ ls) = length l + lengths ls

-- Texts one behind the other are as long as they are together.
length_joined : (ls : List (List ℕ)) → length (joined ls) ≡ lengths ls
length_joined [] = refl
length_joined (l ∷ ls) = omega (arith, length-append l (joined ls), length_joined ls)

-- A register has at most two digits.
two_digits : (r : ℕ) → r < most_labels → length (decimal r) ≤ 2
two_digits r few = length_decimal 1 r (omega arith)

-- The declaration of a bit register has at most 13 bytes, and an input at most declaration_bytes of declarations.
bit_register_fits : (k : ℕ) → k < most_labels → length (bit_register k) ≤ 13
bit_register_fits k few =
    omega (arith, length_joined (ascii "creg c" ∷ decimal k ∷ ascii "[1];\n" ∷ []), two_digits k few)

declaration_fits : (k : ℕ) (α : Wire) → k < most_labels → length (declaration k α) ≤ declaration_bytes
declaration_fits k Bit few = omega (arith, bit_register_fits k few)
declaration_fits k Qubit few =
    omega (
      arith,
      length_joined (ascii "qreg q" ∷ decimal k ∷ ascii "[1];\n" ∷ bit_register k ∷ []),
      two_digits k few,
      bit_register_fits k few,
    )

-- So has each of the inputs from number k on.
declarations_fit : (k : ℕ) (I : List Wire)
    → k + length I ≤ most_labels
    → length (declarations k I) ≤ declaration_bytes * length I
declarations_fit k [] few = omega arith
declarations_fit k (α ∷ I) few =
    omega (
      arith,
      length-append (declaration k α) (declarations (suc k) I),
      declaration_fits k α (omega arith),
      declarations_fit (suc k) I (omega arith),
    )

-- The name of a gate on three qubits has at most three letters, any other at most two.
abbrev short : Statement → Bool
short (on_one name) = leb (length (ascii name)) 2
short (on_two name) = leb (length (ascii name)) 2
short (on_three name) = leb (length (ascii name)) 3
short measurement = true
short (under_bit name) = leb (length (ascii name)) 2
short unwritten = true

-- A line with such a name has at most statement_bytes.
statement_fits : (s : Statement) (r r' r'' : ℕ)
    → Truth (short s)
    → r < most_labels
    → r' < most_labels
    → r'' < most_labels
    → length (statement_line (some s) r r' r'') ≤ statement_bytes
statement_fits (on_one name) r r' r'' few l l' l'' =
    omega (
      arith,
      length_joined (ascii name ∷ ascii " q" ∷ decimal r ∷ ascii "[0];\n" ∷ []),
      leb→le (length (ascii name)) 2 few,
      two_digits r l,
    )
statement_fits (on_two name) r r' r'' few l l' l'' =
    omega (
      arith,
      length_joined (ascii name ∷ ascii " q" ∷ decimal r ∷ ascii "[0],q" ∷ decimal r' ∷ ascii "[0];\n" ∷ []),
      leb→le (length (ascii name)) 2 few,
      two_digits r l,
      two_digits r' l',
    )
statement_fits (on_three name) r r' r'' few l l' l'' =
    omega (
      arith,
      length_joined
          (ascii name ∷ ascii " q" ∷ decimal r ∷ ascii "[0],q" ∷ decimal r' ∷ ascii "[0],q" ∷ decimal r'' ∷ ascii "[0];\n" ∷ []),
      leb→le (length (ascii name)) 3 few,
      two_digits r l,
      two_digits r' l',
      two_digits r'' l'',
    )
statement_fits measurement r r' r'' few l l' l'' =
    omega (
      arith,
      length_joined (ascii "measure q" ∷ decimal r ∷ ascii "[0] -> c" ∷ decimal r ∷ ascii "[0];\n" ∷ []),
      two_digits r l,
    )
statement_fits (under_bit name) r r' r'' few l l' l'' =
    omega (
      arith,
      length_joined (ascii "if(c" ∷ decimal r ∷ ascii "==1) " ∷ ascii name ∷ ascii " q" ∷ decimal r' ∷ ascii "[0];\n" ∷ []),
      leb→le (length (ascii name)) 2 few,
      two_digits r l,
      two_digits r' l',
    )
statement_fits unwritten r r' r'' few l l' l'' = omega arith

-- So has the line of any number as a gate: what is no gate has none.
gate_fits : (n : ℕ) (rs : List ℕ) → ((k : ℕ) → get_or rs k 0 < most_labels) → length (gate_line n rs) ≤ statement_bytes
unfolding gate_line
gate_fits n rs few = of (nth statements n) refl
  where
    of : (o : Option Statement)
        → nth statements n ≡ o
        → length (statement_line o (get_or rs 0 0) (get_or rs 1 0) (get_or rs 2 0)) ≤ statement_bytes
    of none e = omega arith
    of (some s) e =
        statement_fits s (get_or rs 0 0) (get_or rs 1 0) (get_or rs 2 0) (every_nth short statements n e tt) (few 0) (few 1) (few 2)

-- So has each gate of a listing.
gates_fit : (I : List Wire) (gs : List Gate)
    → length I ≤ most_labels
    → length (gate_lines I gs) ≤ statement_bytes * length gs
gates_fit I [] few = omega arith
gates_fit I ((n on ws) ∷ gs) few =
    let rs = map (λ w. get_or (registers_of I gs) w 0) ws in
    omega (
      arith,
      length-append (gate_lines I gs) (gate_line n rs),
      gates_fit I gs few,
      gate_fits n rs (λ k. taken_few I gs ws k few),
    )

-- The name of a register has at most 3 bytes.
name_fits : (α : Wire) (r : ℕ) → r < most_labels → length (register_name α r) ≤ 3
name_fits Bit r few = omega (arith, two_digits r few)
name_fits Qubit r few = omega (arith, two_digits r few)

-- Each output takes at most 4 bytes, its space and its name.
names_fit : (I : List Wire) (gs : List Gate) (outs : List ℕ)
    → length I ≤ most_labels
    → length (spaced (map (output_name I gs) outs)) ≤ 4 * length outs
names_fit I gs [] few = omega arith
names_fit I gs (w ∷ outs) few =
    omega (
      arith,
      length-append (output_name I gs w) (spaced (map (output_name I gs) outs)),
      name_fits (get_or (I ++ outputs gs) w Bit) (get_or (registers_of I gs) w 0) (registers_few I gs w few),
      names_fit I gs outs few,
    )

-- The last line takes 7 bytes more.
output_line_fits : (I : List Wire) (gs : List Gate) (outs : List ℕ)
    → length I ≤ most_labels
    → length (output_line I gs outs) ≤ 7 + 4 * length outs
output_line_fits I gs outs few =
    let names = spaced (map (output_name I gs) outs) in
    omega (
      arith,
      length-append (ascii "// out") (names ++ (10 ∷ [])),
      length-append names (10 ∷ []),
      names_fit I gs outs few,
    )

-- The text of inputs and gates within the sizes, with no more outputs than inputs, is no longer than the longest text.
pub text_fits : (I : List Wire) (gs : List Gate) (outs : List ℕ)
    → length I ≤ most_labels
    → length gs ≤ most_gates
    → length outs ≤ length I
    → length (export_text I gs outs) ≤ most_text
unfolding export_text
text_fits I gs outs inputs gates outputs_few =
    let D = declarations 0 I in
    let G = gate_lines I gs in
    let O = output_line I gs outs in
    omega (
      arith,
      length-append header (D ++ (G ++ O)),
      length-append D (G ++ O),
      length-append G O,
      declarations_fit 0 I (omega arith),
      gates_fit I gs inputs,
      output_line_fits I gs outs inputs,
    )

-- So is the text of a sound listing whose gates have statements.
pub sound_fits : (b : List ℕ) {L G O : ℕ} → SoundListing b L G O → AllWritten (gates_of b) → length (export_of b) ≤ most_text
sound_fits b x written =
    let r = sound_read b x in
    let many = as_many_outputs x.inputs x.gates x.outs x.goes_once (subst AllWritten r.gates_are written) in
    let same : export_of b ≡ export_text x.inputs x.gates x.outs
    = ap₂ (λ I gs. export_text I gs (outputs_of b)) r.inputs_are r.gates_are
    ∙ ap (export_text x.inputs x.gates) r.outputs_are in
    subst (λ t. length t ≤ most_text) (sym same)
    (text_fits x.inputs x.gates x.outs (omega (arith, x.few_inputs, x.input_count_is))
    (omega (arith, x.few_gates, x.gate_count_is)) (omega arith))
