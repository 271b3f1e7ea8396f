-- The declarations, the lines of the gates and the last line of a listing, written one by one, with the table of registers.
use Rattle.std.specs.Prelude.{ℕ, zero, suc, ◌+◌, ◌-◌, ◌*◌, ◌/◌, ◌%◌, ◌≤◌, ◌<◌, ◌≡◌, refl, cond, List, [], ◌∷◌, ◌++◌, map, T as Truth, eqb}
use Rattle.std.proofs.Common.{arith, ◌∙◌, ap₂, subst, append_assoc, append-nil, length-append}
use Rattle.std.proofs.Math.Path.{sym, ap}
use Rattle.std.proofs.Math.ListN.{length, get_or, length-map}
use Rattle.rules.specs.Types.{Wire, Bit, Qubit, wire_code}
use Rattle.rules.specs.Gates.{gate_outputs, wires_in, wires_out}
use Rattle.rules.specs.Circuits.{numbers, outputs}
use Rattle.words.specs.Numbers.{word_at, words_at}
use Rattle.text.specs.Text.{ascii, spaced}
use Rattle.text.specs.Writing.{Puts}
use Rattle.text.specs.Written.{Written}
use Rattle.text.proofs.Laws.Writing.{puts_none, puts_both, puts_same, puts_first}
use Rattle.text.proofs.Laws.Words.{spaced_append}
use Rattle.listing.specs.Listing.{entry_slots}
use Rattle.listing.proofs.Laws.ReadBack.{made_fit}
use Rattle.listing.specs.Reading.{input_count, gate_count, output_count, kind_at, input_type, inputs_from, inputs_of, slots_from}
use Rattle.listing.specs.Reading.{first_gates, gates_of, outputs_from, outputs_of}
use Rattle.listing.proofs.Laws.Decoding.{length_words, length_inputs}
use Rattle.listing_check.proofs.Laws.Wires.{next_input, one_more_gate}
use Rattle.openqasm.specs.Layout.{declaration, declarations, has_statement, AllWritten, gate_line}
use Rattle.openqasm.specs.Layout.{gate_lines, registers_of, header, register_name, output_name, output_line, export_text, export_of}
use Rattle.openqasm_export.specs.Places.{place_bytes, places_of, Begins, kept_places}
use Rattle.openqasm.proofs.Laws.Registers.{each, as_many, first_counted, length_numbers, numbers_more, length_registers}
use Rattle.openqasm_export.proofs.Laws.Places.{place_register, place_type, places_append, length_places}
use Rattle.openqasm_export.proofs.Laws.Places.{of_no_type, begins_same}

-- THE INPUTS

-- One more declaration.
declared_more : (k : ℕ) (I : List Wire) (α : Wire)
    → declarations k (I ++ (α ∷ [])) ≡ declarations k I ++ declaration (k + length I) α
declared_more k [] α =
    let e : k ≡ k + 0 = omega arith in append-nil (declaration k α) ∙ ap (λ n. declaration n α) e
declared_more k (β ∷ I) α =
    let e : suc k + length I ≡ k + suc (length I) = omega arith in
    ap (λ l. declaration k β ++ l) (declared_more (suc k) I α ∙ ap (λ n. declarations (suc k) I ++ declaration n α) e)
    ∙ sym (append_assoc (declaration k β) (declarations (suc k) I) (declaration (k + suc (length I)) α))

-- The places of the inputs, and of one more.
inputs_placed : (I : List Wire) → places_of I [] ≡ place_bytes (numbers 0 (length I)) I
inputs_placed I = ap (place_bytes (numbers 0 (length I))) (append-nil I)

placed_more : (I : List Wire) (α : Wire) → places_of (I ++ (α ∷ [])) [] ≡ places_of I [] ++ ((2 * length I + wire_code α) ∷ [])
placed_more I α =
    let one : length (I ++ (α ∷ [])) ≡ suc (length I) = length-append I (α ∷ []) ∙ omega arith in
    inputs_placed (I ++ (α ∷ []))
    ∙ ap (λ k. place_bytes (numbers 0 k) (I ++ (α ∷ []))) one
    ∙ ap (λ l. place_bytes l (I ++ (α ∷ []))) (numbers_more 0 (length I))
    ∙ places_append (numbers 0 (length I)) ((0 + length I) ∷ []) I (α ∷ []) (length_numbers 0 (length I))
    ∙ ap₂ (λ l n. l ++ ((2 * n + wire_code α) ∷ [])) (sym (inputs_placed I)) (omega arith)

-- The first i inputs are declared, and their places stand in the table.
pub record InputsWritten (b text₀ : List ℕ) (at : ℕ) (m text : List ℕ) (here i : ℕ) : Type 0 where
  pub so_far : List Wire
  pub joined : so_far ++ inputs_from b i (input_count b - i) ≡ inputs_of b
  pub count_is : i ≡ length so_far
  pub puts : Puts text₀ at (declarations 0 so_far) text here
  pub placed : Begins m (places_of so_far [])

module _ (b text₀ : List ℕ) (at : ℕ) where
  pub inputs_start : {m : List ℕ} → Begins m [] → InputsWritten b text₀ at m text₀ at 0
  inputs_start begun =
      let e : input_count b - 0 ≡ input_count b = omega arith in
      record { so_far = []; joined = ap (inputs_from b 0) e; count_is = refl; puts = puts_none text₀ at; placed = begun }

  pub inputs_next : {m text text' : List ℕ} {here here' i : ℕ} (m' : List ℕ)
      → InputsWritten b text₀ at m text here i
      → i < input_count b
      → Puts text here (declaration i (input_type (kind_at b i))) text' here'
      → ((bytes : List ℕ) → i ≡ length bytes → Begins m bytes → Begins m' (bytes ++ ((2 * i + wire_code (input_type (kind_at b i))) ∷ [])))
      → InputsWritten b text₀ at m' text' here' (i + 1)
  inputs_next {i = i} m' w below more made =
      let α = input_type (kind_at b i) in
      let I = w.so_far in
      let from_zero : i ≡ 0 + length I = omega (arith, w.count_is) in
      let here : i ≡ length (places_of I [])
      = w.count_is ∙ sym (ap length (inputs_placed I) ∙ length_places (numbers 0 (length I)) I (length_numbers 0 (length I))) in
      record {
        so_far = I ++ (α ∷ []);
        joined =
            append_assoc I (α ∷ []) (inputs_from b (i + 1) (input_count b - (i + 1)))
            ∙ ap (λ l. I ++ l) (sym (next_input b (input_count b) i below))
            ∙ w.joined;
        count_is = omega (arith, length-append I (α ∷ []), w.count_is);
        puts = puts_same
            (ap (λ n. declarations 0 I ++ declaration n α) from_zero ∙ sym (declared_more 0 I α))
            (puts_both w.puts more);
        placed = begins_same
            (ap (λ n. places_of I [] ++ ((2 * n + wire_code α) ∷ [])) w.count_is ∙ sym (placed_more I α))
            (made (places_of I []) here w.placed);
      }

  pub inputs_end : {m text : List ℕ} {here i : ℕ}
      → InputsWritten b text₀ at m text here i
      → input_count b ≤ i
      → Puts text₀ at (declarations 0 (inputs_of b)) text here × Begins m (places_of (inputs_of b) [])
  inputs_end {i = i} w past =
      let none_left : input_count b - i ≡ 0 = omega arith in
      let all : w.so_far ≡ inputs_of b
      = sym (append-nil w.so_far) ∙ sym (ap (λ k. w.so_far ++ inputs_from b i k) none_left) ∙ w.joined in
      (puts_same (ap (declarations 0) all) w.puts, begins_same (ap (λ I. places_of I []) all) w.placed)

-- THE GATES

-- Half of each of the bytes that stand at wires.
halves : (f g : ℕ → ℕ) → ((w : ℕ) → f w / 2 ≡ g w) → (ws : List ℕ) (k : ℕ) → get_or (map f ws) k 0 / 2 ≡ get_or (map g ws) k 0
halves f g half [] k = refl
halves f g half (w ∷ ws) zero = half w
halves f g half (w ∷ ws) (suc k) = halves f g half ws k

-- As many slots as there are, or more, give the places of as many types as there are wires.
slots_placed : (l : List ℕ) (αs : List Wire) (k : ℕ)
    → length αs ≡ length l
    → length l ≤ k
    → place_bytes (each (λ j. get_or l j 0) k) αs ≡ place_bytes l αs
slots_placed [] [] k same few = of_no_type (each (λ j. 0) k)
slots_placed [] (α ∷ αs) k same few = absurd (omega arith)
slots_placed (x ∷ l) [] k same few = absurd (omega arith)
slots_placed (x ∷ l) (α ∷ αs) zero same few = absurd (omega arith)
slots_placed (x ∷ l) (α ∷ αs) (suc k) same few =
    ap (λ bytes. (2 * x + wire_code α) ∷ bytes) (slots_placed l αs k (omega arith) (omega arith))

-- The first i gates are written, and the places of all wires made so far stand in the table, if each of these gates has a statement.
pub record GatesWritten (b text₀ : List ℕ) (at : ℕ) (m text : List ℕ) (here made i : ℕ) : Type 0 where
  pub made_is : made ≡ length (inputs_of b ++ outputs (first_gates b i))
  pub puts : AllWritten (first_gates b i) → Puts text₀ at (gate_lines (inputs_of b) (first_gates b i)) text here
  pub placed : AllWritten (first_gates b i) → Begins m (places_of (inputs_of b) (first_gates b i))

module _ (b text₀ : List ℕ) (at : ℕ) where
  pub gates_start : {m : List ℕ} (made : ℕ)
      → made ≡ input_count b
      → Begins m (places_of (inputs_of b) [])
      → GatesWritten b text₀ at m text₀ at made 0
  gates_start made is begun =
      record {
        made_is = is ∙ sym (length_inputs b 0 (input_count b)) ∙ ap length (sym (append-nil (inputs_of b)));
        puts = λ written. puts_none text₀ at;
        placed = λ written. begun;
      }

  module _ {m text : List ℕ} {here made i : ℕ} (w : GatesWritten b text₀ at m text here made i) where
    abbrev n : ℕ
    n = kind_at b (input_count b + i)

    abbrev ws : List ℕ
    ws = words_at b (slots_from b (input_count b + i)) (wires_in n)

    abbrev registers : List ℕ
    registers = registers_of (inputs_of b) (first_gates b i)

    abbrev types : List Wire
    types = inputs_of b ++ outputs (first_gates b i)

    same_count : AllWritten (first_gates b i) → length registers ≡ length types
    same_count written = length_registers (inputs_of b) (first_gates b i) (first_counted b i) written

    -- The places that were made so far.
    pub places_made : AllWritten (first_gates b i) → made ≡ length (places_of (inputs_of b) (first_gates b i))
    places_made written = w.made_is ∙ sym (length_places registers types (same_count written))

    module _ (first second third : ℕ)
        (is_first : first ≡ get_or (map (λ v. get_or m v 0) ws) 0 0)
        (is_second : second ≡ get_or (map (λ v. get_or m v 0) ws) 1 0)
        (is_third : third ≡ get_or (map (λ v. get_or m v 0) ws) 2 0) where
      abbrev taken : List ℕ
      taken = map (λ v. get_or registers v 0) ws

      module _ (written : AllWritten (first_gates b i)) where
        -- They are in the registers of the gate's wires.
        half : (v : ℕ) → get_or m v 0 / 2 ≡ get_or registers v 0
        half v = ap (λ x. x / 2) ((w.placed written).at_each v) ∙ place_register registers types v (same_count written)

        slot_taken : (k place : ℕ) → place ≡ get_or (map (λ v. get_or m v 0) ws) k 0 → place / 2 ≡ get_or taken k 0
        slot_taken k place is = ap (λ x. x / 2) is ∙ halves (λ v. get_or m v 0) (λ v. get_or registers v 0) half ws k

        slots_taken : first / 2 ∷ second / 2 ∷ third / 2 ∷ [] ≡ each (λ k. get_or taken k 0) entry_slots
        slots_taken =
            ap₂ ◌∷◌ (slot_taken 0 first is_first)
            (ap₂ ◌∷◌ (slot_taken 1 second is_second) (ap (λ z. z ∷ []) (slot_taken 2 third is_third)))

        line_is : gate_line n (first / 2 ∷ second / 2 ∷ third / 2 ∷ []) ≡ gate_line n taken
        unfolding gate_line
        line_is = ap (gate_line n) slots_taken

        kept_are : Truth (has_statement n) → kept_places n (first ∷ second ∷ third ∷ []) ≡ place_bytes taken (gate_outputs n)
        unfolding wires_out
        kept_are this =
            let long : length taken ≡ wires_in n
            = length-map ws (λ v. get_or registers v 0) ∙ length_words b (slots_from b (input_count b + i)) (wires_in n) in
            let counted : length (gate_outputs n) ≡ length taken = as_many n this ∙ sym long in
            ap (λ l. place_bytes l (gate_outputs n)) slots_taken
            ∙ slots_placed taken (gate_outputs n) entry_slots counted (omega (arith, made_fit n, counted))

        places_are : Truth (has_statement n)
            → places_of (inputs_of b) (first_gates b i) ++ kept_places n (first ∷ second ∷ third ∷ [])
            ≡ places_of (inputs_of b) (first_gates b (suc i))
        places_are this =
            ap (λ l. places_of (inputs_of b) (first_gates b i) ++ l) (kept_are this)
            ∙ sym (places_append registers taken types (gate_outputs n) (same_count written))
            ∙ ap (place_bytes (registers ++ taken)) (append_assoc (inputs_of b) (outputs (first_gates b i)) (gate_outputs n))

      pub gate_next : {text' : List ℕ} {here' : ℕ} (m' : List ℕ) (made' : ℕ)
          → Puts text here (gate_line n (first / 2 ∷ second / 2 ∷ third / 2 ∷ [])) text' here'
          → made' ≡ made + wires_out n
          → (AllWritten (first_gates b i) → Begins m' (places_of (inputs_of b) (first_gates b i) ++ kept_places n (first ∷ second ∷ third ∷ [])))
          → GatesWritten b text₀ at m' text' here' made' (i + 1)
      gate_next m' made' more is begun =
          let next : suc i ≡ i + 1 = omega arith in
          subst (GatesWritten b text₀ at m' _ _ made') next
          record {
            made_is = is
                ∙ ap (λ k. k + wires_out n) w.made_is
                ∙ sym (one_more_gate b i)
                ∙ ap (λ j. length (inputs_of b ++ outputs (first_gates b j))) (sym next);
            puts = λ written. puts_both (w.puts written.1) (puts_same (line_is written.1) more);
            placed = λ written. begins_same (places_are written.1 written.0) (begun written.1);
          }

  pub gates_end : {m text : List ℕ} {here made i : ℕ}
      → GatesWritten b text₀ at m text here made i
      → i ≡ gate_count b
      → (AllWritten (gates_of b) → Puts text₀ at (gate_lines (inputs_of b) (gates_of b)) text here)
      × (AllWritten (gates_of b) → Begins m (places_of (inputs_of b) (gates_of b)))
  gates_end {m} {text} {here} {made} w all =
      let done = subst (GatesWritten b text₀ at m text here made) all w in (done.puts, done.placed)

-- THE OUTPUTS

-- The words that are left from one on.
next_output : (b : List ℕ) (from n j : ℕ)
    → j < n
    → words_at b (from + 2 * j) (n - j) ≡ word_at b (from + 2 * j) ∷ words_at b (from + 2 * (j + 1)) (n - (j + 1))
next_output b from n j below =
    let one : n - j ≡ suc (n - (j + 1)) = omega arith in
    let next : from + 2 * j + 2 ≡ from + 2 * (j + 1) = omega arith in
    ap (words_at b (from + 2 * j)) one
    ∙ ap (λ i. word_at b (from + 2 * j) ∷ words_at b i (n - (j + 1))) next

map_more : (f : ℕ → List ℕ) (xs : List ℕ) (x : ℕ) → map f (xs ++ (x ∷ [])) ≡ map f xs ++ (f x ∷ [])
map_more f [] x = refl
map_more f (y ∷ xs) x = ap (λ l. f y ∷ l) (map_more f xs x)

-- The first j outputs are written.
pub record OutputsWritten (b text₀ : List ℕ) (at : ℕ) (text : List ℕ) (here j : ℕ) : Type 0 where
  pub so_far : List ℕ
  pub joined : so_far ++ words_at b (outputs_from b + 2 * j) (output_count b - j) ≡ outputs_of b
  pub puts : Puts text₀ at (spaced (map (output_name (inputs_of b) (gates_of b)) so_far)) text here

module _ (b text₀ : List ℕ) (at : ℕ) where
  pub outputs_start : OutputsWritten b text₀ at text₀ at 0
  outputs_start =
      let from : outputs_from b + 2 * 0 ≡ outputs_from b = omega arith in
      let all : output_count b - 0 ≡ output_count b = omega arith in
      record { so_far = []; joined = ap₂ (words_at b) from all; puts = puts_none text₀ at }

  pub outputs_next : {m text text' : List ℕ} {here here' j : ℕ} (place : ℕ)
      → OutputsWritten b text₀ at text here j
      → AllWritten (gates_of b)
      → Begins m (places_of (inputs_of b) (gates_of b))
      → j < output_count b
      → place ≡ get_or m (word_at b (outputs_from b + 2 * j)) 0
      → Puts text here (spaced (register_name (cond (eqb (place % 2) 1) Qubit Bit) (place / 2) ∷ [])) text' here'
      → OutputsWritten b text₀ at text' here' (j + 1)
  outputs_next {j = j} place w written begun below is more =
      let v = word_at b (outputs_from b + 2 * j) in
      let I = inputs_of b in
      let gs = gates_of b in
      let registers = registers_of I gs in
      let types = I ++ outputs gs in
      let same = length_registers I gs (first_counted b (gate_count b)) written in
      let byte : place ≡ get_or (places_of I gs) v 0 = is ∙ begun.at_each v in
      let name : register_name (cond (eqb (place % 2) 1) Qubit Bit) (place / 2) ≡ output_name I gs v
      = ap₂ register_name
      (ap (λ x. cond (eqb (x % 2) 1) Qubit Bit) byte ∙ place_type registers types v same)
      (ap (λ x. x / 2) byte ∙ place_register registers types v same) in
      let names = map (output_name I gs) w.so_far in
      record {
        so_far = w.so_far ++ (v ∷ []);
        joined =
            append_assoc w.so_far (v ∷ []) (words_at b (outputs_from b + 2 * (j + 1)) (output_count b - (j + 1)))
            ∙ ap (λ l. w.so_far ++ l) (sym (next_output b (outputs_from b) (output_count b) j below))
            ∙ w.joined;
        puts = puts_same
            (sym (spaced_append names (output_name I gs v ∷ [])) ∙ ap spaced (sym (map_more (output_name I gs) w.so_far v)))
            (puts_both w.puts (puts_same (ap (λ l. spaced (l ∷ [])) name) more));
      }

  pub outputs_end : {text : List ℕ} {here j : ℕ}
      → OutputsWritten b text₀ at text here j
      → output_count b ≤ j
      → Puts text₀ at (spaced (map (output_name (inputs_of b) (gates_of b)) (outputs_of b))) text here
  outputs_end {j = j} w past =
      let none_left : output_count b - j ≡ 0 = omega arith in
      let all : w.so_far ≡ outputs_of b
      = sym (append-nil w.so_far)
      ∙ sym (ap (λ k. w.so_far ++ words_at b (outputs_from b + 2 * j) k) none_left)
      ∙ w.joined in
      puts_same (ap (λ l. spaced (map (output_name (inputs_of b) (gates_of b)) l)) all) w.puts

-- THE WHOLE TEXT

-- The last line is written.
pub puts_outputs : (b : List ℕ) {t₀ t₁ t₂ t₃ : List ℕ} {at₀ at₁ at₂ at₃ : ℕ}
    → Puts t₀ at₀ (ascii "// out") t₁ at₁
    → Puts t₁ at₁ (spaced (map (output_name (inputs_of b) (gates_of b)) (outputs_of b))) t₂ at₂
    → Puts t₂ at₂ (10 ∷ []) t₃ at₃
    → Puts t₀ at₀ (output_line (inputs_of b) (gates_of b) (outputs_of b)) t₃ at₃
puts_outputs b p q e =
    puts_same
    (append_assoc (ascii "// out") (spaced (map (output_name (inputs_of b) (gates_of b)) (outputs_of b))) (10 ∷ []))
    (puts_both (puts_both p q) e)

-- The four parts of a text are written.
pub puts_text : (b : List ℕ) {t₀ t₁ t₂ t₃ t₄ : List ℕ} {at₁ at₂ at₃ at₄ : ℕ}
    → Puts t₀ 0 header t₁ at₁
    → Puts t₁ at₁ (declarations 0 (inputs_of b)) t₂ at₂
    → Puts t₂ at₂ (gate_lines (inputs_of b) (gates_of b)) t₃ at₃
    → Puts t₃ at₃ (output_line (inputs_of b) (gates_of b) (outputs_of b)) t₄ at₄
    → Written t₀ (export_of b) t₄ at₄
unfolding export_text
puts_text b p q g o = puts_first (puts_both p (puts_both q (puts_both g o)))
