-- What each stage of the check of a listing finds, in the words of Meaning, and the answer that comes of it.
use Rattle.std.specs.Prelude.{ℕ, zero, suc, ◌+◌, ◌-◌, ◌*◌, ◌≤◌, ◌<◌, ◌≡◌, refl, ◌⊎◌, Bool, true, false, not, ◌||◌, List, [], ◌∷◌, T as Truth, eqb, ltb, length, Result, Ok, Err}
use Rattle.std.proofs.Common.{arith, sym, ◌∙◌, ap₂, subst, inl, inr, true≢false, ltb-true, ltb-false, lt-ltb, le-ltb}
use Rattle.std.proofs.Math.Path.{ap}
use Rattle.std.proofs.Math.Bool.{cond}
use Rattle.std.proofs.Math.Option.{Option, none, some}
use Rattle.rules.specs.Types.{Wire, Bit, Qubit}
use Rattle.rules.specs.Gates.{is_some, is_gate, wires_in}
use Rattle.rules.specs.Slots.{no_wire}
use Rattle.rules.specs.Terms.{Gate, ◌on◌}
use Rattle.rules.specs.Circuits.{TakesEarlier, no_gate, next_gate}
use Rattle.rules.specs.Sizes.{most_labels, most_gates}
use Rattle.rules.proofs.Laws.Wires.{Compared, equal, unequal, compared}
use Rattle.rules.proofs.Laws.KnownGates.{KnownGates}
use Rattle.refusals.specs.declared.Refusal.{Refusal}
use Rattle.refusals.specs.declared.Refusal.TheVariants.{Run}
use Rattle.words.specs.Numbers.{word_at}
use Rattle.listing.specs.Listing.{input_kind, entry_slots, listing_length, most_outputs}
use Rattle.listing.specs.Reading.{input_count, gate_count, output_count, entry_count, kind_at, slots_from, slot_at, outputs_from}
use Rattle.listing.specs.Reading.{inputs_of, gates_of, outputs_of}
use Rattle.listing.proofs.Laws.ReadBack.{one_counted}
use Rattle.listing.proofs.Laws.Decoding.{InForm, length_words, length_inputs, length_first, gates_are_known, in_form}
use Rattle.listing.proofs.Laws.Decoding.{inputs_back, gates_back, outputs_back}
use Rattle.wire_table.specs.Wires.{first_where, broken_at}
use Rattle.wire_table.specs.WireRules.{GoesOnce, First, NoSuch, BrokenAt}
use Rattle.wire_table.proofs.Laws.Finding.{Finds, found_first, found_none, finds_same, Passing, where_found}
use Rattle.wire_table.proofs.Theorems.Wires.{wires_mean}
use Rattle.listing_check.specs.declared.ListingSizes.{ListingSizes}
use Rattle.listing_check.specs.Answers.{sizes_wrong, kind_allowed, slots_used, any_wire, entry_wrong, wires_judged}
use Rattle.listing_check.specs.Answers.{entries_judged, listing_check_of}
use Rattle.listing_check.specs.Meaning.{SoundListing, SizesWrong, no_sizes, many_inputs, many_gates, many_outputs}
use Rattle.listing_check.specs.Meaning.{other_length, EntryWrong, input_kind_wrong, gate_kind_wrong, unused_slot, WrongEntry}

-- What a test says of a statement.
data Says (P : Type 0) : Bool → Type 0 where
  says_yes : P → Says P true
  says_no : (P → ⊥) → Says P false

-- A test gives true exactly where its statement holds.
says_true : {P : Type 0} (t : Bool) → Says P t → P → t ≡ true
says_true _ (says_yes p) q = refl
says_true _ (says_no f) q = absurd (f q)

says_false : {P : Type 0} (t : Bool) → Says P t → (P → ⊥) → t ≡ false
says_false _ (says_yes p) f = absurd (f p)
says_false _ (says_no f) g = refl

true_says : {P : Type 0} (t : Bool) → Says P t → t ≡ true → P
true_says _ (says_yes p) e = p
true_says _ (says_no f) e = absurd (true≢false (sym e))

-- Tests that are joined, turned round, or of another statement that is the same.
says_or : {P Q : Type 0} (s t : Bool) → Says P s → Says Q t → Says (P ⊎ Q) (s || t)
says_or _ t (says_yes p) q = says_yes (inl p)
says_or _ _ (says_no f) (says_yes q) = says_yes (inr q)
says_or {P} {Q} _ _ (says_no f) (says_no g) = says_no neither
  where
    neither : P ⊎ Q → ⊥
    neither (inl p) = f p
    neither (inr q) = g q

says_not : {P : Type 0} (t : Bool) → Says P t → Says (P → ⊥) (not t)
says_not _ (says_yes p) = says_no (λ f. f p)
says_not _ (says_no f) = says_yes f

says_same : {P Q : Type 0} (t : Bool) → (P → Q) → (Q → P) → Says P t → Says Q t
says_same _ to from (says_yes p) = says_yes (to p)
says_same _ to from (says_no f) = says_no (λ q. f (from q))

-- The tests of two numbers.
less_told : (m n : ℕ) → Says (m < n) (ltb m n)
less_told m n = of_test (ltb m n) refl
  where
    of_test : (t : Bool) → ltb m n ≡ t → Says (m < n) t
    of_test true e = says_yes (ltb-true m n e)
    of_test false e = says_no (λ h. let l = ltb-false m n e in omega arith)

equal_told : (m n : ℕ) → Says (m ≡ n) (eqb m n)
equal_told m n = of_test (eqb m n) (compared m n)
  where
    of_test : (t : Bool) → Compared m n t → Says (m ≡ n) t
    of_test _ (equal e) = says_yes e
    of_test _ (unequal f) = says_no f

-- What is not unequal is equal.
equal_if : (m n : ℕ) → ((m ≡ n → ⊥) → ⊥) → m ≡ n
equal_if m n f = of_test (eqb m n) (compared m n)
  where
    of_test : (t : Bool) → Compared m n t → m ≡ n
    of_test _ (equal e) = e
    of_test _ (unequal g) = absurd (f g)

-- What is not greater is at most so much.
pub at_most : {m n : ℕ} → (n < m → ⊥) → m ≤ n
at_most f = omega (arith, f)

-- THE SIZES

-- The first test of the check says whether the sizes are wrong.
sizes_told : (b : List ℕ) → Says (SizesWrong b) (sizes_wrong b)
sizes_told b =
    says_same (sizes_wrong b) to from
    (says_or (ltb (length b) 6) (many || (gates || (outs || not same))) (less_told (length b) 6)
    (says_or many (gates || (outs || not same)) (less_told most_labels (input_count b))
    (says_or gates (outs || not same) (less_told most_gates (gate_count b))
    (says_or outs (not same) (less_told most_outputs (output_count b))
    (says_not same (equal_told (length b) (listing_length (input_count b) (gate_count b) (output_count b))))))))
  where
    many : Bool
    many = ltb most_labels (input_count b)

    gates : Bool
    gates = ltb most_gates (gate_count b)

    outs : Bool
    outs = ltb most_outputs (output_count b)

    same : Bool
    same = eqb (length b) (listing_length (input_count b) (gate_count b) (output_count b))

    Wrong : Type 0
    Wrong =
        (length b < 6)
        ⊎ ((most_labels < input_count b)
        ⊎ ((most_gates < gate_count b)
        ⊎ ((most_outputs < output_count b)
        ⊎ (length b ≡ listing_length (input_count b) (gate_count b) (output_count b) → ⊥))))

    to : Wrong → SizesWrong b
    to (inl h) = no_sizes h
    to (inr (inl h)) = many_inputs h
    to (inr (inr (inl h))) = many_gates h
    to (inr (inr (inr (inl h)))) = many_outputs h
    to (inr (inr (inr (inr f)))) = other_length f

    from : SizesWrong b → Wrong
    from (no_sizes h) = inl h
    from (many_inputs h) = inr (inl h)
    from (many_gates h) = inr (inr (inl h))
    from (many_outputs h) = inr (inr (inr (inl h)))
    from (other_length f) = inr (inr (inr (inr f)))

pub sizes_tested_right : (b : List ℕ) → sizes_wrong b ≡ false → SizesWrong b → ⊥
sizes_tested_right b e = of (sizes_wrong b) (sizes_told b) e
  where
    of : (t : Bool) → Says (SizesWrong b) t → t ≡ false → SizesWrong b → ⊥
    of _ (says_yes h) e = let z : ◌≡◌ {A = ℕ} 0 1 = cc in absurd (omega arith)
    of _ (says_no f) e = f

-- THE ENTRIES

-- The kind of entry i is not allowed.
abbrev KindWrong : List ℕ → ℕ → Type 0
KindWrong b i =
    ((i < input_count b) × (kind_at b i ≡ input_kind Bit → ⊥) × (kind_at b i ≡ input_kind Qubit → ⊥))
    ⊎ ((input_count b ≤ i) × (Truth (is_gate (kind_at b i)) → ⊥))

-- The test of an entry's kind says so, and that of its unused slots whether one of them has a wire.
kind_told : (b : List ℕ) (i : ℕ) → Says (KindWrong b i) (not (kind_allowed b i))
kind_told b i = of_order (ltb i (input_count b)) (less_told i (input_count b))
  where
    bit : Bool
    bit = eqb (kind_at b i) (input_kind Bit)

    qubit : Bool
    qubit = eqb (kind_at b i) (input_kind Qubit)

    of_input : i < input_count b → (s t : Bool) → Says (kind_at b i ≡ input_kind Bit) s
        → Says (kind_at b i ≡ input_kind Qubit) t → Says (KindWrong b i) (not (s || t))
    of_input h _ t (says_yes e) q = says_no right
      where
        right : KindWrong b i → ⊥
        right (inl w) = w.1 e
        right (inr w) = let l = w.0 in omega arith
    of_input h _ _ (says_no f) (says_yes e) = says_no right
      where
        right : KindWrong b i → ⊥
        right (inl w) = w.2 e
        right (inr w) = let l = w.0 in omega arith
    of_input h _ _ (says_no f) (says_no g) = says_yes (inl (h, f, g))

    of_gate : input_count b ≤ i → (t : Bool) → is_gate (kind_at b i) ≡ t → Says (KindWrong b i) (not t)
    of_gate h true e = says_no right
      where
        right : KindWrong b i → ⊥
        right (inl w) = let l = w.0 in omega arith
        right (inr w) = w.1 (subst Truth (sym e) tt)
    of_gate h false e = says_yes (inr (h, λ g. subst Truth e g))

    of_order : (t : Bool) → Says (i < input_count b) t
        → Says (KindWrong b i) (not (cond t (bit || qubit) (is_gate (kind_at b i))))
    of_order _ (says_yes h) =
        of_input h bit qubit (equal_told (kind_at b i) (input_kind Bit)) (equal_told (kind_at b i) (input_kind Qubit))
    of_order _ (says_no f) = of_gate (omega arith) (is_gate (kind_at b i)) refl

-- One of n slots from slot k on has something else than 65,535.
abbrev SomeWire : List ℕ → ℕ → ℕ → ℕ → Type 0
SomeWire b from k n = (m : ℕ) × (k ≤ m) × (m < k + n) × (word_at b (from + 2 * m) ≡ no_wire → ⊥)

any_told : (b : List ℕ) (from n k : ℕ) → Says (SomeWire b from k n) (any_wire b from k n)
any_told b from zero k = says_no (λ s. omega (arith, s.1, s.2))
any_told b from (suc n) k =
    says_same (not here || any_wire b from (suc k) n) onward back
    (says_or (not here) (any_wire b from (suc k) n) (says_not here (equal_told (word_at b (from + 2 * k)) no_wire))
    (any_told b from n (suc k)))
  where
    here : Bool
    here = eqb (word_at b (from + 2 * k)) no_wire

    onward : (word_at b (from + 2 * k) ≡ no_wire → ⊥) ⊎ SomeWire b from (suc k) n → SomeWire b from k (suc n)
    onward (inl f) = (k, omega arith, omega arith, f)
    onward (inr s) = (s.0, omega (arith, s.1), omega (arith, s.2), s.3)

    back : SomeWire b from k (suc n) → (word_at b (from + 2 * k) ≡ no_wire → ⊥) ⊎ SomeWire b from (suc k) n
    back s = of_place (eqb k s.0) (compared k s.0)
      where
        of_place : (t : Bool) → Compared k s.0 t
            → (word_at b (from + 2 * k) ≡ no_wire → ⊥) ⊎ SomeWire b from (suc k) n
        of_place _ (equal e) = inl (λ q. s.3 (ap (λ m. word_at b (from + 2 * m)) (sym e) ∙ q))
        of_place _ (unequal f) =
            inr (s.0, below s.0 s.1 f, omega (arith, s.2), s.3)
          where
            below : (m : ℕ) → k ≤ m → (k ≡ m → ⊥) → suc k ≤ m
            below m l g = omega (arith, l, g)

-- The second test says whether an entry is wrong.
entry_told : (b : List ℕ) (i : ℕ) → Says (EntryWrong b i) (entry_wrong b i)
entry_told b i =
    says_same (entry_wrong b i) onward back
    (says_or (not (kind_allowed b i)) (any_wire b (slots_from b i) used (entry_slots - used)) (kind_told b i)
    (any_told b (slots_from b i) (entry_slots - used) used))
  where
    used : ℕ
    used = slots_used b i

    onward : KindWrong b i ⊎ SomeWire b (slots_from b i) used (entry_slots - used) → EntryWrong b i
    onward (inl (inl w)) = input_kind_wrong w.0 w.1 w.2
    onward (inl (inr w)) = gate_kind_wrong w.0 w.1
    onward (inr s) = unused_slot {k = s.0} s.1 (inside used s.0 s.1 s.2) s.3
      where
        inside : (u m : ℕ) → u ≤ m → m < u + (entry_slots - u) → m < entry_slots
        inside u m l h = omega arith

    back : EntryWrong b i → KindWrong b i ⊎ SomeWire b (slots_from b i) used (entry_slots - used)
    back (input_kind_wrong h f g) = inl (inl (h, f, g))
    back (gate_kind_wrong h f) = inl (inr (h, f))
    back (unused_slot {k = k} l h f) = inr (k, l, inside used l h, f)
      where
        inside : (u : ℕ) → u ≤ k → k < entry_slots → k < u + (entry_slots - u)
        inside u l h = omega arith

-- The first wrong entry is found.
entries_found : (b : List ℕ) → Finds (WrongEntry b) (first_where (entry_wrong b) 0 (entry_count b))
entries_found b =
    finds_same
    (Passing (entry_wrong b) 0 (entry_count b))
    (WrongEntry b)
    (λ i h. (omega (arith, h.1), true_says (entry_wrong b i) (entry_told b i) h.2))
    (λ i h. (omega arith, omega (arith, h.0), says_true (entry_wrong b i) (entry_told b i) h.1))
    (first_where (entry_wrong b) 0 (entry_count b))
    (where_found (entry_wrong b) (entry_count b) 0)

-- An entry of bytes in form is not wrong, and bytes of right sizes without a wrong entry are in form.
slots_of_input : (b : List ℕ) (i : ℕ) → i < input_count b → slots_used b i ≡ 0
slots_of_input b i below = ap (λ t. cond t 0 (wires_in (kind_at b i))) (lt-ltb i (input_count b) below)

slots_of_gate : (b : List ℕ) (j : ℕ) → slots_used b (input_count b + j) ≡ wires_in (kind_at b (input_count b + j))
slots_of_gate b j =
    ap
    (λ t. cond t 0 (wires_in (kind_at b (input_count b + j))))
    (le-ltb (input_count b + j) (input_count b) (omega arith))

form_right : (b : List ℕ) → InForm b → NoSuch (WrongEntry b)
form_right b form i h = of_wrong h.0 h.1
  where
    of_kind : (kind_at b i ≡ input_kind Bit → ⊥) → (kind_at b i ≡ input_kind Qubit → ⊥)
        → (kind_at b i ≡ input_kind Bit) ⊎ (kind_at b i ≡ input_kind Qubit) → ⊥
    of_kind f g (inl e) = f e
    of_kind f g (inr e) = g e

    as_gate : input_count b ≤ i → input_count b + (i - input_count b) ≡ i
    as_gate least = omega arith

    of_slot : (k : ℕ) → i < entry_count b → slots_used b i ≤ k → k < entry_slots → (t : Bool) → Says (i < input_count b) t
        → slot_at b i k ≡ no_wire
    of_slot k below least inside _ (says_yes l) = form.input_slots_lem i k l inside
    of_slot k below least inside _ (says_no f) =
        let j = i - input_count b in
        let e = as_gate (omega arith) in
        subst (λ m. slot_at b m k ≡ no_wire) e
        (form.unused_slots j k (omega arith)
        (subst (λ u. u ≤ k) (slots_of_gate b j) (subst (λ m. slots_used b m ≤ k) (sym e) least))
        inside)

    of_wrong : i < entry_count b → EntryWrong b i → ⊥
    of_wrong below (input_kind_wrong l f g) = of_kind f g (form.input_kinds i l)
    of_wrong below (gate_kind_wrong l f) =
        f (subst (λ m. Truth (is_gate (kind_at b m))) (as_gate l) (form.gate_kinds (i - input_count b) (omega arith)))
    of_wrong below (unused_slot {k = k} least inside f) =
        f (of_slot k below least inside (ltb i (input_count b)) (less_told i (input_count b)))

pub right_form : (b : List ℕ) → (SizesWrong b → ⊥) → NoSuch (WrongEntry b) → InForm b
right_form b sizes entries =
    record {
      whole = equal_if (length b) (listing_length (input_count b) (gate_count b) (output_count b)) (λ f. sizes (other_length f));
      input_kinds = λ i below.
          of_kind i below
          (eqb (kind_at b i) (input_kind Bit))
          (eqb (kind_at b i) (input_kind Qubit))
          (equal_told (kind_at b i) (input_kind Bit))
          (equal_told (kind_at b i) (input_kind Qubit));
      input_slots_lem = λ i k below inside.
          equal_if (slot_at b i k) no_wire
          (λ f. entries i (
            omega arith,
            unused_slot {k = k} (subst (λ u. u ≤ k) (sym (slots_of_input b i below)) (omega arith)) inside f,
          ));
      gate_kinds = λ j below. of_gate j below (is_gate (kind_at b (input_count b + j))) refl;
      unused_slots = λ j k below least inside.
          equal_if (slot_at b (input_count b + j) k) no_wire
          (λ f. entries (input_count b + j) (
            omega arith,
            unused_slot {k = k} (subst (λ u. u ≤ k) (sym (slots_of_gate b j)) least) inside f,
          ));
    }
  where
    of_kind : (i : ℕ) → i < input_count b → (s t : Bool) → Says (kind_at b i ≡ input_kind Bit) s → Says (kind_at b i ≡ input_kind Qubit) t
        → (kind_at b i ≡ input_kind Bit) ⊎ (kind_at b i ≡ input_kind Qubit)
    of_kind i below _ t (says_yes e) q = inl e
    of_kind i below _ _ (says_no f) (says_yes e) = inr e
    of_kind i below _ _ (says_no f) (says_no g) = absurd (entries i (omega arith, input_kind_wrong below f g))

    of_gate : (j : ℕ) → j < gate_count b → (t : Bool) → is_gate (kind_at b (input_count b + j)) ≡ t
        → Truth (is_gate (kind_at b (input_count b + j)))
    of_gate j below true e = subst Truth (sym e) tt
    of_gate j below false e =
        absurd (entries (input_count b + j) (omega arith, gate_kind_wrong (omega arith) (λ g. subst Truth e g)))

-- THE ANSWER

-- What the check finds, with its answer.
pub data Judged (b : List ℕ) : Result ListingSizes Refusal → Type 0 where
  sizes_wrong_lem : SizesWrong b → Judged b (Err (Run 24 0))
  entry_wrong_lem : {p : ℕ} → (SizesWrong b → ⊥) → First (WrongEntry b) p → Judged b (Err (Run 25 p))
  wires_wrong_lem : {p : ℕ}
      → (SizesWrong b → ⊥)
      → NoSuch (WrongEntry b)
      → BrokenAt (inputs_of b) (gates_of b) (outputs_of b) p
      → Judged b (Err (Run 26 p))
  all_right : (SizesWrong b → ⊥)
      → NoSuch (WrongEntry b)
      → GoesOnce (inputs_of b) (gates_of b) (outputs_of b)
      → Judged b (Ok (record { inputs = input_count b; gates = gate_count b; outputs = output_count b }))

-- The gates of bytes with right sizes and entries are known.
right_known : (b : List ℕ) → (SizesWrong b → ⊥) → NoSuch (WrongEntry b) → KnownGates (gates_of b)
right_known b sizes entries = gates_are_known b (right_form b sizes entries)

-- The check of any bytes finds one of these.
pub listing_judged : (b : List ℕ) → Judged b (listing_check_of b)
unfolding listing_check_of
listing_judged b = of_sizes (sizes_wrong b) (sizes_told b)
  where
    of_wires : (SizesWrong b → ⊥) → NoSuch (WrongEntry b) → (o : Option ℕ)
        → broken_at (inputs_of b) (gates_of b) (outputs_of b) ≡ o
        → Judged b (wires_judged b o)
    of_wires sizes entries none e =
        all_right sizes entries
        ((wires_mean (inputs_of b) (gates_of b) (outputs_of b) (right_known b sizes entries)).whole.0 e)
    of_wires sizes entries (some p) e =
        wires_wrong_lem sizes entries
        (((wires_mean (inputs_of b) (gates_of b) (outputs_of b) (right_known b sizes entries)).broken p).0 e)

    of_entries : (SizesWrong b → ⊥) → (o : Option ℕ) → Finds (WrongEntry b) o → Judged b (entries_judged b o)
    of_entries sizes none f = of_wires sizes f (broken_at (inputs_of b) (gates_of b) (outputs_of b)) refl
    of_entries sizes (some p) f = entry_wrong_lem sizes f

    of_sizes : (t : Bool) → Says (SizesWrong b) t
        → Judged b (cond t (Err (Run 24 0)) (entries_judged b (first_where (entry_wrong b) 0 (entry_count b))))
    of_sizes _ (says_yes h) = sizes_wrong_lem h
    of_sizes _ (says_no f) = of_entries f (first_where (entry_wrong b) 0 (entry_count b)) (entries_found b)

-- What it finds it answers.
module _ (b : List ℕ) where
  found : Option ℕ
  found = first_where (entry_wrong b) 0 (entry_count b)

  sizes_right_lem : (SizesWrong b → ⊥) → listing_check_of b ≡ entries_judged b found
  unfolding listing_check_of found
  sizes_right_lem f =
      ap (λ t. cond t (Err (Run 24 0)) (entries_judged b found)) (says_false (sizes_wrong b) (sizes_told b) f)

  entries_right : (SizesWrong b → ⊥) → NoSuch (WrongEntry b)
      → listing_check_of b ≡ wires_judged b (broken_at (inputs_of b) (gates_of b) (outputs_of b))
  unfolding found
  entries_right f n = sizes_right_lem f ∙ ap (entries_judged b) (found_none (WrongEntry b) found (entries_found b) n)

  pub judged_answer : {a : Result ListingSizes Refusal} → Judged b a → listing_check_of b ≡ a
  unfolding listing_check_of found
  judged_answer (sizes_wrong_lem h) =
      ap (λ t. cond t (Err (Run 24 0)) (entries_judged b found)) (says_true (sizes_wrong b) (sizes_told b) h)
  judged_answer (entry_wrong_lem {p = p} f first) =
      sizes_right_lem f ∙ ap (entries_judged b) (found_first (WrongEntry b) found (entries_found b) p first)
  judged_answer (wires_wrong_lem {p = p} f n broken) =
      entries_right f n
      ∙ ap (wires_judged b)
      (((wires_mean (inputs_of b) (gates_of b) (outputs_of b) (right_known b f n)).broken p).1 broken)
  judged_answer (all_right f n goes) =
      entries_right f n
      ∙ ap (wires_judged b) ((wires_mean (inputs_of b) (gates_of b) (outputs_of b) (right_known b f n)).whole.1 goes)

-- SOUND LISTINGS

-- The gates of a sound circuit are known.
pub sound_known : {I : List Wire} (gs : List Gate) → TakesEarlier I gs → KnownGates gs
unfolding is_gate
sound_known [] no_gate = tt
sound_known ((n on ws) ∷ gs) (next_gate {T = T} {U = U} e o t) =
    (subst (λ g. Truth (is_some g)) (sym e) tt, (one_counted n ws T U e o).0, sound_known gs t)

-- What is read from a sound listing, and how many of each.
pub record ReadBack (b : List ℕ) (L G O : ℕ) (I : List Wire) (gs : List Gate) (outs : List ℕ) : Type 0 where
  pub form : InForm b
  pub inputs_are : inputs_of b ≡ I
  pub gates_are : gates_of b ≡ gs
  pub outputs_are : outputs_of b ≡ outs
  pub input_count_is : input_count b ≡ L
  pub gate_count_is : gate_count b ≡ G
  pub output_count_is : output_count b ≡ O

pub sound_read : (b : List ℕ) {L G O : ℕ} (x : SoundListing b L G O)
    → ReadBack b L G O x.inputs x.gates x.outs
sound_read b x =
    let known = sound_known x.gates x.goes_once.sound.takes_earlier in
    let inputs = inputs_back x.inputs x.gates x.outs b x.bytes_are in
    let gates = gates_back x.inputs x.gates x.outs b x.bytes_are known in
    let outs = outputs_back x.inputs x.gates x.outs b x.bytes_are in
    record {
      form = in_form x.inputs x.gates x.outs b x.bytes_are known;
      inputs_are = inputs;
      gates_are = gates;
      outputs_are = outs;
      input_count_is = sym (length_inputs b 0 (input_count b)) ∙ ap length inputs ∙ sym x.input_count_is;
      gate_count_is = sym (length_first b (gate_count b)) ∙ ap length gates ∙ sym x.gate_count_is;
      output_count_is = sym (length_words b (outputs_from b) (output_count b)) ∙ ap length outs ∙ sym x.output_count_is;
    }

-- A sound listing is accepted, with its numbers of inputs, gates and outputs.
pub sound_accepted : (b : List ℕ) {L G O : ℕ} → SoundListing b L G O → listing_check_of b ≡ Ok (record { inputs = L; gates = G; outputs = O })
sound_accepted b {L} {G} {O} x =
    judged_answer b (all_right sizes (form_right b r.form) goes)
    ∙ ap₂ (λ l m. Ok (record { inputs = l; gates = m; outputs = output_count b })) r.input_count_is r.gate_count_is
    ∙ ap (λ o. Ok (record { inputs = L; gates = G; outputs = o })) r.output_count_is
  where
    r : ReadBack b L G O x.inputs x.gates x.outs
    r = sound_read b x

    sizes : SizesWrong b → ⊥
    sizes (no_sizes h) = omega (arith, h, r.form.whole)
    sizes (many_inputs h) = omega (arith, h, r.input_count_is, x.few_inputs)
    sizes (many_gates h) = omega (arith, h, r.gate_count_is, x.few_gates)
    sizes (many_outputs h) = omega (arith, h, r.output_count_is, x.few_outputs)
    sizes (other_length f) = f r.form.whole

    goes : GoesOnce (inputs_of b) (gates_of b) (outputs_of b)
    goes =
        subst (λ I. GoesOnce I (gates_of b) (outputs_of b)) (sym r.inputs_are)
        (subst (λ gs. GoesOnce x.inputs gs (outputs_of b)) (sym r.gates_are)
        (subst (GoesOnce x.inputs x.gates) (sym r.outputs_are) x.goes_once))
