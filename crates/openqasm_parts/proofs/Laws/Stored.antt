-- Laws of specs/Stored: each item that is read is stored behind those before it, and the listing follows from what is stored.
use Rattle.std.specs.Prelude.{ℕ, zero, suc, ◌+◌, ◌*◌, ◌-◌, ◌≤◌, ◌<◌, ◌≡◌, refl, Bool, true, false, ◌||◌, cond, T as Truth, eqb, ltb, length, get_or, set, take, drop}
use Rattle.std.proofs.Common.{arith, sym, ◌∙◌, ap, ap₂, subst, length-append, take-append-drop, take_all, drop-drop, eqb-true}
use mathlib.Core.List.{List, [], ◌∷◌, ◌++◌, map, flat_map, append_assoc, append-nil, reverse-cons}
use Rattle.rules.specs.Types.{Wire, Bit, Qubit}
use Rattle.rules.specs.Gates.{is_gate, wires_in}
use Rattle.rules.specs.Terms.{Gate, ◌on◌}
use Rattle.rules.specs.Circuits.{numbers}
use Rattle.rules.specs.Slots.{no_wire}
use Rattle.rules.specs.Sizes.{most_labels, most_gates}
use Rattle.words.specs.Regions.{Stands}
use Rattle.text.specs.Written.{Written}
use Rattle.text.specs.Writing.{Puts}
use Rattle.text.proofs.Laws.Writing.{puts_byte, puts_both, puts_first, all_written}
use Rattle.listing.specs.Listing.{bytes_of, input_kind, gate_kind, entry_slots, slots as slots_for, input_slots, gate_slots, oldest_first}
use Rattle.listing.specs.Listing.{kinds as kind_bytes_is, all_slots, listing_bytes, most_outputs}
use Rattle.listing.specs.Reading.{input_type}
use Rattle.listing.proofs.Laws.Lengths.{length_bytes, length_slots, length_kinds, length_all_slots}
use Rattle.listing.proofs.Laws.Pieces.{flat_append}
use Rattle.listing.proofs.Laws.ReadBack.{wires_fit}
use Rattle.openqasm_reader.specs.declared.Item.{Item}
use Rattle.openqasm_reader.specs.Items.{bit_item, qubit_item, item_in}
use Rattle.openqasm_parts.specs.Reading.{Parts, is_input, with_input, wires_taken, with_gate, is_output, with_output, items_read}
use Rattle.openqasm_parts.specs.Reading.{holding, begun, at_outputs, parts_read, listing_read}
use Rattle.openqasm_parts.specs.Stored.{behind_inputs, behind_gates, behind_outputs, Adds, assembled, Stored}
use Rattle.openqasm_parts.specs.Stored.{InputsRead, GatesRead, OutputsRead}
use Rattle.openqasm_parts.proofs.Laws.Reading.{items_keep, items_end}

-- BYTES BEHIND OTHERS

-- Bytes that are put at the end of those that stand at the start of a buffer stand behind them, if there is room.
pub puts_add : {m ys m' : List ℕ} {at at' : ℕ} → Puts m at ys m' at' → Adds m at ys m'
puts_add {m} {ys} {m'} {at} {at'} p = record { behind = stands_more }
  where
    stands_more : (xs : List ℕ)
        → at ≡ length xs
        → Stands m 0 xs
        → length xs + length ys ≤ length m
        → Stands m' 0 (xs ++ ys)
    stands_more xs here stands room =
        let long : length (xs ++ ys) ≡ length xs + length ys = length-append xs ys in
        let before : Written m xs m at
        = record {
          contents = sym (take-append-drop (length xs) m)
              ∙ ap (λ t. t ++ drop (length xs) m) (stands ∙ sym (take_all (length m) xs (omega arith)));
          place = omega arith;
        } in
        let w = p.behind m xs before in
        let behind : length (xs ++ ys) ≡ at' = omega (arith, w.place) in
        ap (λ k. take k m') behind ∙ all_written w (omega arith)

-- One byte is put where there is room for it.
pub one_added : (m : List ℕ) (at x : ℕ) → at < length m → Adds m at (x ∷ []) (set m at x)
one_added m at x room = puts_add (puts_byte m at x room)

-- The slots of an entry, one behind the other.
pub slots_added : {m m₁ m₂ m₃ : List ℕ} {at : ℕ} (first second third : ℕ)
    → Puts m at (bytes_of first) m₁ (at + 2)
    → Puts m₁ (at + 2) (bytes_of second) m₂ (at + 2 + 2)
    → Puts m₂ (at + 4) (bytes_of third) m₃ (at + 4 + 2)
    → Adds m at (flat_map bytes_of (first ∷ second ∷ third ∷ [])) m₃
unfolding flat_map
slots_added {m₁ = m₁} {m₂} {at = at} first second third p q r =
    let here : at + 2 + 2 ≡ at + 4 = omega arith in
    puts_add (puts_both p (puts_both (subst (Puts m₁ (at + 2) (bytes_of second) m₂) here q) r))

-- One word.
pub puts_word : {m m' : List ℕ} {at at' : ℕ} (w : ℕ)
    → Puts m at (bytes_of w) m' at'
    → Adds m at (flat_map bytes_of (w ∷ [])) m'
unfolding flat_map
puts_word w p = puts_add p

-- Words behind words.
words_add : {m m' : List ℕ} {at : ℕ} (xs ws : List ℕ)
    → at ≡ 2 * length xs
    → Adds m at (flat_map bytes_of ws) m'
    → Stands m 0 (flat_map bytes_of xs)
    → 2 * length xs + 2 * length ws ≤ length m
    → Stands m' 0 (flat_map bytes_of (xs ++ ws))
words_add {m' = m'} xs ws here added stands room =
    subst (Stands m' 0) (sym (flat_append bytes_of xs ws))
    (added.behind (flat_map bytes_of xs) (omega (arith, length_bytes xs)) stands (omega (arith, length_bytes xs, length_bytes ws)))

-- ONE MORE ENTRY IN A LISTING

map-append : {A : Type 0} (f : A → ℕ) (xs ys : List A) → map f (xs ++ ys) ≡ map f xs ++ map f ys
map-append f [] ys = refl
map-append f (x ∷ xs) ys = ap (λ l. f x ∷ l) (map-append f xs ys)

-- An input, where there is no gate and no output.
kinds_input : (I : List Wire) (α : Wire) (gs : List Gate)
    → 0 ≡ length gs
    → kind_bytes_is I gs ++ (input_kind α ∷ []) ≡ kind_bytes_is (I ++ (α ∷ [])) gs
kinds_input I α [] none =
    ap (λ l. l ++ (input_kind α ∷ [])) (append-nil (map input_kind I))
    ∙ sym (map-append input_kind I (α ∷ []))
    ∙ sym (append-nil (map input_kind (I ++ (α ∷ []))))
kinds_input I α (g ∷ gs) none = absurd (omega arith)

slots_input : (I : List Wire) (α : Wire) (gs : List Gate) (outs : List ℕ)
    → 0 ≡ length gs
    → 0 ≡ length outs
    → (all_slots I gs ++ outs) ++ (slots_for entry_slots []) ≡ all_slots (I ++ (α ∷ [])) gs ++ outs
unfolding flat_map
slots_input I α [] [] none none' =
    ap
    (λ l. l ++ (slots_for entry_slots []))
    (append-nil (all_slots I []) ∙ append-nil (flat_map input_slots I))
    ∙ sym (flat_append input_slots I (α ∷ []))
    ∙ sym (append-nil (flat_map input_slots (I ++ (α ∷ []))))
    ∙ sym (append-nil (all_slots (I ++ (α ∷ [])) []))
slots_input I α [] (w ∷ outs) none none' = absurd (omega arith)
slots_input I α (g ∷ gs) outs none none' = absurd (omega arith)

-- A gate, where there is no output.
kinds_gate : (I : List Wire) (g : Gate) (gs : List Gate) → kind_bytes_is I gs ++ (gate_kind g ∷ []) ≡ kind_bytes_is I (g ∷ gs)
kinds_gate I g gs =
    append_assoc (map input_kind I) (map gate_kind (oldest_first gs)) (gate_kind g ∷ [])
    ∙ ap (λ l. map input_kind I ++ l) (sym (map-append gate_kind (oldest_first gs) (g ∷ [])))
    ∙ ap (λ l. map input_kind I ++ map gate_kind l) (sym (reverse-cons g gs))

slots_gate : (I : List Wire) (g : Gate) (gs : List Gate) (outs : List ℕ)
    → 0 ≡ length outs
    → (all_slots I gs ++ outs) ++ gate_slots g ≡ all_slots I (g ∷ gs) ++ outs
unfolding flat_map
slots_gate I g gs [] none =
    let older = flat_map gate_slots (oldest_first gs) in
    ap (λ l. l ++ gate_slots g) (append-nil (all_slots I gs))
    ∙ append_assoc (flat_map input_slots I) older (gate_slots g)
    ∙ ap (λ l. flat_map input_slots I ++ (older ++ l)) (sym (append-nil (gate_slots g)))
    ∙ ap (λ l. flat_map input_slots I ++ l) (sym (flat_append gate_slots (oldest_first gs) (g ∷ [])))
    ∙ ap (λ l. flat_map input_slots I ++ flat_map gate_slots l) (sym (reverse-cons g gs))
    ∙ sym (append-nil (all_slots I (g ∷ gs)))
slots_gate I g gs (w ∷ outs) none = absurd (omega arith)

-- The slots of a gate that takes so many wires.
abbrev slot_wires : ℕ → ℕ → ℕ → ℕ → List ℕ
slot_wires k x y z = cond (ltb 0 k) x no_wire ∷ cond (ltb 1 k) y no_wire ∷ cond (ltb 2 k) z no_wire ∷ []

slot_wires_lem : (k r s t : ℕ) (f : ℕ → ℕ)
    → k ≤ entry_slots
    → slot_wires k (f r) (f s) (f t) ≡ slots_for entry_slots (map f (take k (r ∷ s ∷ t ∷ [])))
slot_wires_lem zero r s t f few = refl
slot_wires_lem (suc zero) r s t f few = refl
slot_wires_lem (suc (suc zero)) r s t f few = refl
slot_wires_lem (suc (suc (suc zero))) r s t f few = refl
slot_wires_lem (suc (suc (suc (suc k)))) r s t f few = absurd (omega arith)

-- The kind of an input gives its type, and back.
type_kind : (kind : ℕ) → is_input kind ≡ true → kind ≡ input_kind (input_type kind)
type_kind kind wanted = of (eqb kind bit_item) (eqb kind qubit_item) refl refl wanted
  where
    of : (a b : Bool) → eqb kind bit_item ≡ a → eqb kind qubit_item ≡ b → a || b ≡ true → kind ≡ input_kind (cond a Bit Qubit)
    of true b e f h = eqb-true kind bit_item e
    of false true e f h = eqb-true kind qubit_item f
    of false false e f h = absurd (subst Truth (sym h) tt)

-- ONE MORE ITEM

-- A wanted item is read, and fewer are left.
item_left : (wanted : ℕ → Bool) (with_item : Parts → Item → Parts) {most i : ℕ} (p : Parts) (item : Item)
    → i < most
    → item ≡ item_in p.rest
    → wanted item.kind ≡ true
    → items_read wanted with_item (most - (i + 1)) (with_item p item) ≡ items_read wanted with_item (most - i) p
item_left wanted with_item {most} {i} p item below is wants =
    let k = most - (i + 1) in
    let one : suc k ≡ most - i = omega arith in
    sym (ap (λ b. cond b (items_read wanted with_item k (with_item p item)) p) wants)
    ∙ ap (λ j. cond (wanted j.kind) (items_read wanted with_item k (with_item p j)) p) is
    ∙ ap (λ j. items_read wanted with_item j p) one

-- Where it is not wanted, all have been read.
items_done : (wanted : ℕ → Bool) (with_item : Parts → Item → Parts) (left : ℕ) {last : Parts} (p : Parts) (item : Item)
    → item ≡ item_in p.rest
    → wanted item.kind ≡ false
    → items_read wanted with_item left p ≡ last
    → p ≡ last
items_done wanted with_item left p item is not all =
    sym (items_end wanted with_item left p (ap (λ i. wanted i.kind) (sym is) ∙ not)) ∙ all

-- The rest behind an item.
rest_behind : (rest text : List ℕ) (at n : ℕ) → rest ≡ drop at text → drop n rest ≡ drop (at + n) text
rest_behind rest text at n is = ap (drop n) is ∙ drop-drop n at text

-- How many slots and outputs are stored.
length_words_stored : (I : List Wire) (gs : List Gate) (outs : List ℕ)
    → length (all_slots I gs ++ outs) ≡ entry_slots * (length I + length gs) + length outs
length_words_stored I gs outs = omega (arith, length-append (all_slots I gs) outs, length_all_slots I gs)

module _ {p : Parts} {text kinds slots kinds' slots' : List ℕ} {at : ℕ} (item : Item) where
  stored_input : {i : ℕ}
      → Stored p text at i 0 0 kinds slots
      → is_input item.kind ≡ true
      → i + 1 ≤ length kinds
      → 2 * entry_slots * (i + 1) ≤ length slots
      → Adds kinds i (item.kind ∷ []) kinds'
      → Adds slots (2 * entry_slots * i) (flat_map bytes_of (slots_for entry_slots [])) slots'
      → Stored (with_input p item) text (at + item.length) (i + 1) 0 0 kinds' slots'
  stored_input {i} s wants room room' kind wires =
      let I = p.inputs in
      let gs = p.gates in
      let α = input_type item.kind in
      let many : length (kind_bytes_is I gs) ≡ i
      = omega (arith, length_kinds I gs, s.input_count_is, s.gate_count_is) in
      let many' : length (all_slots I gs ++ p.outs) ≡ entry_slots * i
      = omega (arith, length_words_stored I gs p.outs, s.input_count_is, s.gate_count_is, s.output_count_is) in
      record {
        rest_is = rest_behind p.rest text at item.length s.rest_is;
        input_count_is = omega (arith, length-append I (α ∷ []), s.input_count_is);
        gate_count_is = s.gate_count_is;
        output_count_is = s.output_count_is;
        kinds_stand = subst
            (Stands kinds' 0)
            (ap (λ k. kind_bytes_is I gs ++ (k ∷ [])) (type_kind item.kind wants) ∙ kinds_input I α gs s.gate_count_is)
            (kind.behind (kind_bytes_is I gs) (omega arith) s.kinds_stand (omega arith));
        slots_stand = subst
            (λ ws. Stands slots' 0 (flat_map bytes_of ws))
            (slots_input I α gs p.outs s.gate_count_is s.output_count_is)
            (words_add (all_slots I gs ++ p.outs) (slots_for entry_slots []) (omega arith) wires s.slots_stand (omega arith));
      }

  stored_gate : {inputs i : ℕ}
      → Stored p text at inputs i 0 kinds slots
      → is_gate item.kind ≡ true
      → inputs + i + 1 ≤ length kinds
      → 2 * entry_slots * (inputs + i + 1) ≤ length slots
      → Adds kinds (inputs + i) (item.kind ∷ []) kinds'
      → Adds slots (2 * entry_slots * (inputs + i)) (flat_map bytes_of (slots_for entry_slots (wires_taken p item))) slots'
      → Stored (with_gate p item) text (at + item.length) inputs (i + 1) 0 kinds' slots'
  stored_gate {inputs} {i} s wants room room' kind wires =
      let I = p.inputs in
      let gs = p.gates in
      let g = item.kind on wires_taken p item in
      let many : length (kind_bytes_is I gs) ≡ inputs + i
      = omega (arith, length_kinds I gs, s.input_count_is, s.gate_count_is) in
      let many' : length (all_slots I gs ++ p.outs) ≡ entry_slots * (inputs + i)
      = omega (arith, length_words_stored I gs p.outs, s.input_count_is, s.gate_count_is, s.output_count_is) in
      record {
        rest_is = rest_behind p.rest text at item.length s.rest_is;
        input_count_is = s.input_count_is;
        gate_count_is = omega (arith, s.gate_count_is);
        output_count_is = s.output_count_is;
        kinds_stand = subst
            (Stands kinds' 0)
            (kinds_gate I g gs)
            (kind.behind (kind_bytes_is I gs) (omega arith) s.kinds_stand (omega arith));
        slots_stand = subst
            (λ ws. Stands slots' 0 (flat_map bytes_of ws))
            (slots_gate I g gs p.outs s.output_count_is)
            (words_add (all_slots I gs ++ p.outs) (gate_slots g) (omega arith) wires s.slots_stand
            (omega (arith, length_slots entry_slots (wires_taken p item))));
      }

stored_output : {p : Parts} {text kinds slots slots' : List ℕ} {at inputs gates i : ℕ} (item : Item)
    → Stored p text at inputs gates i kinds slots
    → 2 * entry_slots * (inputs + gates) + 2 * (i + 1) ≤ length slots
    → Adds slots (2 * entry_slots * (inputs + gates) + 2 * i) (flat_map bytes_of (get_or p.held item.first 0 ∷ [])) slots'
    → Stored (with_output p item) text (at + item.length) inputs gates (i + 1) kinds slots'
stored_output {p} {text} {slots' = slots'} {at} {inputs} {gates} {i} item s room wire =
    let I = p.inputs in
    let gs = p.gates in
    let w = get_or p.held item.first 0 in
    let many : length (all_slots I gs ++ p.outs) ≡ entry_slots * (inputs + gates) + i
    = omega (arith, length_words_stored I gs p.outs, s.input_count_is, s.gate_count_is, s.output_count_is) in
    record {
      rest_is = rest_behind p.rest text at item.length s.rest_is;
      input_count_is = s.input_count_is;
      gate_count_is = s.gate_count_is;
      output_count_is = omega (arith, length-append p.outs (w ∷ []), s.output_count_is);
      kinds_stand = s.kinds_stand;
      slots_stand = subst
          (λ ws. Stands slots' 0 (flat_map bytes_of ws))
          (append_assoc (all_slots I gs) p.outs (w ∷ []))
          (words_add (all_slots I gs ++ p.outs) (w ∷ []) (omega arith) wire s.slots_stand (omega arith));
    }

-- THE INPUTS

-- Nothing is stored yet.
pub inputs_start : (labels : ℕ) (text kinds slots : List ℕ) → InputsRead labels labels text 36 0 kinds slots
unfolding flat_map behind_inputs
inputs_start labels text kinds slots =
    record {
      so_far = begun text;
      then_all = refl;
      stored = record {
        rest_is = refl;
        input_count_is = refl;
        gate_count_is = refl;
        output_count_is = refl;
        kinds_stand = refl;
        slots_stand = refl;
      };
      made_is = refl;
      few = omega arith;
      near = omega arith;
    }

module _ {labels : ℕ} {text kinds slots : List ℕ} {at i : ℕ} where
  pub input_next : {kinds' slots' : List ℕ} (item : Item)
      → InputsRead labels (labels - i) text at i kinds slots
      → i < labels
      → item ≡ item_in (drop at text)
      → is_input item.kind ≡ true
      → item.length ≤ 26
      → i + 1 ≤ length kinds
      → 2 * entry_slots * (i + 1) ≤ length slots
      → Adds kinds i (item.kind ∷ []) kinds'
      → Adds slots (2 * entry_slots * i) (flat_map bytes_of (slots_for entry_slots [])) slots'
      → InputsRead labels (labels - (i + 1)) text (at + item.length) (i + 1) kinds' slots'
  input_next item w below is wants short room room' kind wires =
      let p = w.so_far in
      let here : item ≡ item_in p.rest = is ∙ ap item_in (sym w.stored.rest_is) in
      record {
        so_far = with_input p item;
        then_all = item_left is_input with_input p item below here wants ∙ w.then_all;
        stored = stored_input item w.stored wants room room' kind wires;
        made_is = omega (arith, w.made_is);
        few = omega (arith, w.few);
        near = omega (arith, w.near);
      }

  -- Another item follows.
  pub inputs_stop : {left : ℕ} (item : Item)
      → InputsRead labels left text at i kinds slots
      → item ≡ item_in (drop at text)
      → is_input item.kind ≡ false
      → InputsRead labels 0 text at i kinds slots
  inputs_stop {left} item w is not =
      let p = w.so_far in
      record {
        so_far = p;
        then_all = items_done is_input with_input left p item (is ∙ ap item_in (sym w.stored.rest_is)) not w.then_all;
        stored = w.stored;
        made_is = w.made_is;
        few = omega (arith, w.few);
        near = w.near;
      }

-- THE GATES

-- Reading inputs changes no register.
inputs_hold : (labels : ℕ) (text : List ℕ) → (behind_inputs labels text).held ≡ numbers 0 most_labels
unfolding behind_inputs
inputs_hold labels text =
    items_keep is_input with_input (λ p. p.held ≡ numbers 0 most_labels) (λ p w k. k) labels (begun text) refl

pub gates_start : {labels : ℕ} {text held kinds slots : List ℕ} {at inputs : ℕ} (gates : ℕ)
    → InputsRead labels 0 text at inputs kinds slots
    → held ≡ numbers 0 most_labels
    → GatesRead labels gates gates text at inputs 0 inputs held kinds slots
unfolding behind_gates
gates_start {labels} {text} {kinds = kinds} {slots = slots} {at} {inputs} gates w numbered =
    record {
      so_far = behind_inputs labels text;
      then_all = refl;
      stored = subst (λ p. Stored p text at inputs 0 0 kinds slots) w.then_all w.stored;
      held_are = numbered ∙ sym (inputs_hold labels text);
      made_is = w.made_is ∙ ap (λ p. p.made) w.then_all;
      few_inputs = omega (arith, w.few);
      few = omega arith;
      few_made = omega arith;
      near = omega (arith, w.near);
    }

module _ {labels gates : ℕ} {text held kinds slots : List ℕ} {at inputs i made : ℕ} where
  pub gate_next : {held' kinds' slots' : List ℕ} {count made' first second third : ℕ} (item : Item)
      → GatesRead labels gates (gates - i) text at inputs i made held kinds slots
      → i < gates
      → item ≡ item_in (drop at text)
      → is_gate item.kind ≡ true
      → item.length ≤ 26
      → inputs + i + 1 ≤ length kinds
      → 2 * entry_slots * (inputs + i + 1) ≤ length slots
      → count ≡ wires_in item.kind
      → first ≡ cond (ltb 0 count) (get_or held item.first 0) no_wire
      → second ≡ cond (ltb 1 count) (get_or held item.second 0) no_wire
      → third ≡ cond (ltb 2 count) (get_or held item.third 0) no_wire
      → Adds kinds (inputs + i) (item.kind ∷ []) kinds'
      → Adds slots (2 * entry_slots * (inputs + i)) (flat_map bytes_of (first ∷ second ∷ third ∷ [])) slots'
      → made' ≡ made + count
      → held' ≡ holding held (take count (item.first ∷ item.second ∷ item.third ∷ [])) made
      → GatesRead labels gates (gates - (i + 1)) text (at + item.length) inputs (i + 1) made' held' kinds' slots'
  gate_next {slots' = slots'} item w below is wants short room room' counted is_first is_second is_third kind wires
      makes holds =
      let p = w.so_far in
      let n = item.kind in
      let here : item ≡ item_in p.rest = is ∙ ap item_in (sym w.stored.rest_is) in
      let few : wires_in n ≤ entry_slots = wires_fit n in
      let registers : List ℕ = item.first ∷ item.second ∷ item.third ∷ [] in
      let slots_are =
      ap₂ ◌∷◌ is_first (ap₂ ◌∷◌ is_second (ap (λ z. z ∷ []) is_third))
      ∙ ap₂ (λ k l. slot_wires k (get_or l item.first 0) (get_or l item.second 0) (get_or l item.third 0)) counted w.held_are
      ∙ slot_wires_lem (wires_in n) item.first item.second item.third (λ r. get_or p.held r 0) few in
      record {
        so_far = with_gate p item;
        then_all = item_left is_gate with_gate p item below here wants ∙ w.then_all;
        stored = stored_gate item w.stored wants room room' kind
            (subst (λ ws. Adds slots (2 * entry_slots * (inputs + i)) (flat_map bytes_of ws) slots') slots_are wires);
        held_are = holds
            ∙ ap (λ k. holding held (take k registers) made) counted
            ∙ ap₂ (λ l m. holding l (take (wires_in n) registers) m) w.held_are w.made_is;
        made_is = makes ∙ ap₂ ◌+◌ w.made_is counted;
        few_inputs = w.few_inputs;
        few = omega (arith, w.few);
        few_made = omega (arith, w.few_made, counted, wires_fit n);
        near = omega (arith, w.near);
      }

  -- Another item follows.
  pub gates_stop : {left : ℕ} (item : Item)
      → GatesRead labels gates left text at inputs i made held kinds slots
      → item ≡ item_in (drop at text)
      → is_gate item.kind ≡ false
      → GatesRead labels gates 0 text at inputs i made held kinds slots
  gates_stop {left} item w is not =
      let p = w.so_far in
      record {
        so_far = p;
        then_all = items_done is_gate with_gate left p item (is ∙ ap item_in (sym w.stored.rest_is)) not w.then_all;
        stored = w.stored;
        held_are = w.held_are;
        made_is = w.made_is;
        few_inputs = w.few_inputs;
        few = omega (arith, w.few);
        few_made = w.few_made;
        near = w.near;
      }

-- THE OUTPUTS

pub outputs_start : {labels gates : ℕ} {text held kinds slots : List ℕ} {at inputs done made : ℕ} (outputs : ℕ)
    → GatesRead labels gates 0 text at inputs done made held kinds slots
    → OutputsRead labels gates outputs outputs text (at + 6) inputs done 0 held kinds slots
unfolding behind_outputs
outputs_start {labels} {gates} {text} {at = at} outputs w =
    let s = w.stored in
    let p = w.so_far in
    let q = behind_gates labels gates text in
    record {
      so_far = at_outputs q;
      then_all = refl;
      stored = subst
          (λ x. Stored (at_outputs x) text (at + 6) _ _ 0 _ _)
          w.then_all
          record {
            rest_is = rest_behind p.rest text at 6 s.rest_is;
            input_count_is = s.input_count_is;
            gate_count_is = s.gate_count_is;
            output_count_is = s.output_count_is;
            kinds_stand = s.kinds_stand;
            slots_stand = s.slots_stand;
          };
      held_are = w.held_are ∙ ap (λ x. x.held) w.then_all;
      few_inputs = w.few_inputs;
      few_gates = omega (arith, w.few);
      few = omega arith;
      near = omega (arith, w.near);
    }

module _ {labels gates outputs : ℕ} {text held kinds slots : List ℕ} {at inputs done i : ℕ} where
  pub output_next : {slots' : List ℕ} {wire : ℕ} (item : Item)
      → OutputsRead labels gates outputs (outputs - i) text at inputs done i held kinds slots
      → i < outputs
      → item ≡ item_in (drop at text)
      → is_output item.kind ≡ true
      → item.length ≤ 26
      → 2 * entry_slots * (inputs + done) + 2 * (i + 1) ≤ length slots
      → wire ≡ get_or held item.first 0
      → Adds slots (2 * entry_slots * (inputs + done) + 2 * i) (flat_map bytes_of (wire ∷ [])) slots'
      → OutputsRead labels gates outputs (outputs - (i + 1)) text (at + item.length) inputs done (i + 1) held kinds slots'
  output_next {slots' = slots'} item w below is wants short room is_wire added =
      let p = w.so_far in
      let here : item ≡ item_in p.rest = is ∙ ap item_in (sym w.stored.rest_is) in
      record {
        so_far = with_output p item;
        then_all = item_left is_output with_output p item below here wants ∙ w.then_all;
        stored = stored_output item w.stored room
            (subst (λ x. Adds slots (2 * entry_slots * (inputs + done) + 2 * i) (flat_map bytes_of (x ∷ [])) slots')
            (is_wire ∙ ap (λ l. get_or l item.first 0) w.held_are)
            added);
        held_are = w.held_are;
        few_inputs = w.few_inputs;
        few_gates = w.few_gates;
        few = omega (arith, w.few);
        near = omega (arith, w.near);
      }

  -- Another item follows.
  pub outputs_stop : {left : ℕ} (item : Item)
      → OutputsRead labels gates outputs left text at inputs done i held kinds slots
      → item ≡ item_in (drop at text)
      → is_output item.kind ≡ false
      → OutputsRead labels gates outputs 0 text at inputs done i held kinds slots
  outputs_stop {left} item w is not =
      let p = w.so_far in
      record {
        so_far = p;
        then_all = items_done is_output with_output left p item (is ∙ ap item_in (sym w.stored.rest_is)) not w.then_all;
        stored = w.stored;
        held_are = w.held_are;
        few_inputs = w.few_inputs;
        few_gates = w.few_gates;
        few = omega (arith, w.few);
        near = w.near;
      }

-- THE LISTING

-- The three sizes are written, and two runs of bytes behind them.
pub puts_listing : {l l₁ l₂ l₃ l₄ l₅ ks ss : List ℕ} {at₁ at₂ at₃ at₄ at₅ : ℕ} (inputs gates outputs : ℕ)
    → Puts l 0 (bytes_of inputs) l₁ at₁
    → Puts l₁ at₁ (bytes_of gates) l₂ at₂
    → Puts l₂ at₂ (bytes_of outputs) l₃ at₃
    → Puts l₃ at₃ ks l₄ at₄
    → Puts l₄ at₄ ss l₅ at₅
    → Written l (flat_map bytes_of (inputs ∷ gates ∷ outputs ∷ []) ++ (ks ++ ss)) l₅ at₅
unfolding flat_map
puts_listing inputs gates outputs i g o k s = puts_first (puts_both i (puts_both g (puts_both o (puts_both k s))))

-- What stands from the start of a buffer is its first bytes.
first_bytes_lem : (m xs : List ℕ) (n : ℕ) → Stands m 0 xs → n ≡ length xs → take n m ≡ xs
first_bytes_lem m xs n stands long = ap (λ k. take k m) long ∙ stands

-- The sizes, the kinds and the slots with the outputs behind them are the listing.
stored_listing : {p : Parts} {text kinds slots : List ℕ} {at inputs gates outputs : ℕ}
    → Stored p text at inputs gates outputs kinds slots
    → assembled inputs gates outputs kinds slots ≡ listing_bytes p.inputs p.gates p.outs
unfolding listing_bytes flat_map
stored_listing {p} {kinds = kinds} {slots = slots} {inputs = inputs} {gates} {outputs} s =
    let I = p.inputs in
    let gs = p.gates in
    let ws = all_slots I gs ++ p.outs in
    let here = length_words_stored I gs p.outs in
    ap (λ n. bytes_of n ++ (bytes_of gates ++ (bytes_of outputs ++ rest))) s.input_count_is
    ∙ ap₂ (λ m n. bytes_of (length I) ++ (bytes_of m ++ (bytes_of n ++ rest))) s.gate_count_is s.output_count_is
    ∙ ap₂ (λ k t. bytes_of (length I) ++ (bytes_of (length gs) ++ (bytes_of (length p.outs) ++ (k ++ t))))
    (first_bytes_lem kinds (kind_bytes_is I gs) (inputs + gates) s.kinds_stand
    (omega (arith, length_kinds I gs, s.input_count_is, s.gate_count_is)))
    (first_bytes_lem slots (flat_map bytes_of ws) (2 * entry_slots * (inputs + gates) + 2 * outputs) s.slots_stand
    (omega (arith, here, length_bytes ws, s.input_count_is, s.gate_count_is, s.output_count_is))
    ∙ flat_append bytes_of (all_slots I gs) p.outs)
  where
    rest : List ℕ
    rest = take (inputs + gates) kinds ++ take (2 * entry_slots * (inputs + gates) + 2 * outputs) slots

parts_are : (text : List ℕ) → behind_outputs most_labels most_gates most_outputs text ≡ parts_read text
unfolding behind_outputs behind_gates behind_inputs parts_read
parts_are text = refl

-- Where all is read, the listing is that of the text.
pub listing_stored : {text held kinds slots : List ℕ} {at inputs gates outputs : ℕ}
    → OutputsRead most_labels most_gates most_outputs 0 text at inputs gates outputs held kinds slots
    → assembled inputs gates outputs kinds slots ≡ listing_read text
listing_stored {text} w =
    stored_listing w.stored
    ∙ ap (λ p. listing_bytes p.inputs p.gates p.outs) (w.then_all ∙ parts_are text)
