-- Laws of items: what is read at the start of a declaration, of a gate's line and of an output's name, and what is left behind it.
use Rattle.std.specs.Prelude.{ℕ, zero, suc, ◌+◌, ◌*◌, ◌-◌, ◌/◌, ◌%◌, ◌<◌, ◌≡◌, refl, Bool, true, false, ◌&&◌, cond, List, [], ◌∷◌, ◌++◌, T as Truth, eqb, get_or, take, drop}
use Rattle.std.proofs.Common.{arith, sym, ◌∙◌, ap, ap₂, append_assoc, append-nil, drop-drop, get_or-drop, lt-ltb}
use Rattle.std.proofs.Math.Decide.{dec_lt}
use Rattle.rules.specs.Types.{Wire, Bit, Qubit}
use Rattle.rules.specs.Gates.{is_gate, wires_in}
use Rattle.listing.specs.Listing.{input_kind, entry_slots}
use Rattle.openqasm.proofs.Laws.Registers.{each}
use Rattle.text.specs.Text.{ascii, digit, decimal}
use Rattle.text.proofs.Laws.Decimals.{one_digit, more_digits}
use Rattle.openqasm.specs.Layout.{declaration, bit_register, has_statement, gate_line, register_name}
use Rattle.openqasm_reader.specs.declared.Item.{Item}
use Rattle.openqasm_reader.specs.Items.{is_digit, digits_in, number_in, ccx_item, output_item, no_item, kind_of, kind_in}
use Rattle.openqasm_reader.specs.Items.{before, between, behind, one_number, two_numbers, three_numbers, item_of, item_in}

is_digit_lem : (d : ℕ) → d < 10 → is_digit (digit d) ≡ true
is_digit_lem d small = ap₂ ◌&&◌ (lt-ltb 47 (digit d) (omega arith)) (lt-ltb (digit d) 58 (omega arith))

-- A number of one digit or two is read, and what is behind it is left, if that begins with no digit.
number_read : (n : ℕ) (t : List ℕ)
    → n < 100
    → is_digit (get_or t 0 0) ≡ false
    → (number_in (decimal n ++ t) ≡ n) × (drop (digits_in (decimal n ++ t)) (decimal n ++ t) ≡ t)
number_read n t small ends = of (dec_lt n 10)
  where
    of : Dec (n < 10) → (number_in (decimal n ++ t) ≡ n) × (drop (digits_in (decimal n ++ t)) (decimal n ++ t) ≡ t)
    of (yes p) =
        let e : decimal n ++ t ≡ digit n ∷ t = ap (λ ds. ds ++ t) (one_digit n p) in
        let back : digit n - 48 ≡ n = omega arith in (
          ap number_in e ∙ ap (λ b. cond b (10 * (digit n - 48) + (get_or t 0 0 - 48)) (digit n - 48)) ends ∙ back,
          ap (λ s. drop (digits_in s) s) e ∙ ap (λ b. drop (cond b 2 1) (digit n ∷ t)) ends,
        )
    of (no p) =
        let x = digit (n / 10) in
        let y = digit (n % 10) in
        let e : decimal n ++ t ≡ x ∷ y ∷ t
        = ap
        (λ ds. ds ++ t)
        (more_digits n (omega arith) ∙ ap (λ ds. ds ++ (y ∷ [])) (one_digit (n / 10) (omega arith))) in
        let two : is_digit y ≡ true = is_digit_lem (n % 10) (omega arith) in
        let back : 10 * (x - 48) + (y - 48) ≡ n = omega arith in (
          ap number_in e ∙ ap (λ b. cond b (10 * (x - 48) + (y - 48)) (x - 48)) two ∙ back,
          ap (λ s. drop (digits_in s) s) e ∙ ap (λ b. drop (cond b 2 1) (x ∷ y ∷ t)) two,
        )

-- The same of a text that is known to begin with that number.
number_in_lem : (n : ℕ) (text t : List ℕ)
    → n < 100
    → text ≡ decimal n ++ t
    → is_digit (get_or t 0 0) ≡ false
    → (number_in text ≡ n) × (drop (digits_in text) text ≡ t)
number_in_lem n text t small e ends =
    let number = number_read n t small ends in
    (ap number_in e ∙ number.0, ap (λ x. drop (digits_in x) x) e ∙ number.1)

-- An item by its parts.
abbrev pub item : ℕ → ℕ → ℕ → ℕ → ℕ → Item
item kind first second third bytes = record { kind = kind; first = first; second = second; third = third; length = bytes }

-- A text begins with this item, and behind it this is left.
pub record Reads (text : List ℕ) (kind first second third : ℕ) (rest : List ℕ) : Type 0 where
  pub bytes : ℕ
  pub item_is : item_in text ≡ item kind first second third bytes
  pub rest_is : drop bytes text ≡ rest

drop_more : (m n : ℕ) (l : List ℕ) → drop (m + n) l ≡ drop n (drop m l)
drop_more m n l = sym (drop-drop n m l)

-- The item of a text whose kind is known.
item_of_kind : (kind : ℕ) (text : List ℕ)
    → kind_in text ≡ kind
    → eqb kind no_item ≡ false
    → item_in text ≡ item_of kind text
unfolding item_in
item_of_kind kind text is some =
    ap (λ k. cond (eqb k no_item) (item no_item 0 0 0 0) (item_of k text)) is
    ∙ ap (λ b. cond b (item no_item 0 0 0 0) (item_of kind text)) some

module _ (kind r : ℕ) (text t rest : List ℕ) where
  -- An item with one number is read.
  one_read : kind_in text ≡ kind
      → eqb kind no_item ≡ false
      → eqb (between kind) 0 ≡ true
      → r < 100
      → drop (before kind) text ≡ decimal r ++ t
      → is_digit (get_or t 0 0) ≡ false
      → drop (behind kind) t ≡ rest
      → Reads text kind r 0 0 rest
  one_read is some alone small e ends left =
      let number = number_in_lem r (drop B text) t small e ends in
      record {
        bytes = B + d + behind kind;
        item_is = item_of_kind kind text is some
            ∙ ap (λ b. cond b (one_number kind text) (cond (eqb kind ccx_item) (three_numbers kind text) (two_numbers kind text))) alone
            ∙ ap (λ n. item kind n 0 0 (B + d + behind kind)) number.0;
        rest_is = drop_more (B + d) (behind kind) text
            ∙ ap (drop (behind kind)) (drop_more B d text ∙ number.1)
            ∙ left;
      }
    where
      B : ℕ
      B = before kind

      d : ℕ
      d = digits_in (drop B text)

  -- An item with two numbers is read.
  two_read : (s : ℕ) (u : List ℕ)
      → kind_in text ≡ kind
      → eqb kind no_item ≡ false
      → eqb (between kind) 0 ≡ false
      → eqb kind ccx_item ≡ false
      → r < 100
      → drop (before kind) text ≡ decimal r ++ t
      → is_digit (get_or t 0 0) ≡ false
      → s < 100
      → drop (between kind) t ≡ decimal s ++ u
      → is_digit (get_or u 0 0) ≡ false
      → drop (behind kind) u ≡ rest
      → Reads text kind r s 0 rest
  two_read s u is some more two small e ends small' e' ends' left =
      let number = number_in_lem r (drop B text) t small e ends in
      let second = drop_more d M (drop B text) ∙ ap (drop M) number.1 ∙ e' in
      let number' = number_in_lem s (drop (d + M) (drop B text)) u small' second ends' in
      let sum : B + d + M ≡ B + (d + M) = omega arith in
      record {
        bytes = B + d + M + d' + behind kind;
        item_is = item_of_kind kind text is some
            ∙ ap (λ b. cond b (one_number kind text) (cond (eqb kind ccx_item) (three_numbers kind text) (two_numbers kind text))) more
            ∙ ap (λ b. cond b (three_numbers kind text) (two_numbers kind text)) two
            ∙ ap₂
            (λ m n. item kind m n 0 (B + d + M + d' + behind kind))
            number.0
            number'.0;
        rest_is = drop_more (B + d + M + d') (behind kind) text
            ∙ ap
            (drop (behind kind))
            (drop_more (B + d + M) d' text
            ∙ ap (λ k. drop d' (drop k text)) sum
            ∙ ap (drop d') (drop_more B (d + M) text)
            ∙ number'.1)
            ∙ left;
      }
    where
      B : ℕ
      B = before kind

      d : ℕ
      d = digits_in (drop B text)

      M : ℕ
      M = between kind

      d' : ℕ
      d' = digits_in (drop (d + M) (drop B text))

-- A CCX is read, with three numbers.
three_read : (r s q : ℕ) (text t u v rest : List ℕ)
    → kind_in text ≡ ccx_item
    → r < 100
    → drop (before ccx_item) text ≡ decimal r ++ t
    → is_digit (get_or t 0 0) ≡ false
    → s < 100
    → drop (between ccx_item) t ≡ decimal s ++ u
    → is_digit (get_or u 0 0) ≡ false
    → q < 100
    → drop (between ccx_item) u ≡ decimal q ++ v
    → is_digit (get_or v 0 0) ≡ false
    → drop (behind ccx_item) v ≡ rest
    → Reads text ccx_item r s q rest
unfolding between
three_read r s q text t u v rest is small e ends small' e' ends' small'' e'' ends'' left =
    let two = drop (d + M) (drop B text) in
    let number = number_in_lem r (drop B text) t small e ends in
    let second = drop_more d M (drop B text) ∙ ap (drop M) number.1 ∙ e' in
    let number' = number_in_lem s two u small' second ends' in
    let third = drop_more d' M two ∙ ap (drop M) number'.1 ∙ e'' in
    let number'' = number_in_lem q (drop (d' + M) two) v small'' third ends'' in
    let bytes = B + d + M + d' + M + d'' + behind ccx_item in
    let sum : B + d + M + d' + M ≡ B + ((d + M) + (d' + M)) = omega arith in
    record {
      bytes = bytes;
      item_is = item_of_kind ccx_item text is refl
          ∙ ap₂ (λ l m. item ccx_item l m (number_in (drop (d' + M) two)) bytes) number.0 number'.0
          ∙ ap (λ n. item ccx_item r s n bytes) number''.0;
      rest_is = drop_more (B + d + M + d' + M + d'') (behind ccx_item) text
          ∙ ap
          (drop (behind ccx_item))
          (drop_more (B + d + M + d' + M) d'' text
          ∙ ap (λ k. drop d'' (drop k text)) sum
          ∙ ap (drop d'') (drop_more B ((d + M) + (d' + M)) text ∙ drop_more (d + M) (d' + M) (drop B text))
          ∙ number''.1)
          ∙ left;
    }
  where
    B : ℕ
    B = before ccx_item

    M : ℕ
    M = between ccx_item

    d : ℕ
    d = digits_in (drop B text)

    d' : ℕ
    d' = digits_in (drop (d + M) (drop B text))

    d'' : ℕ
    d'' = digits_in (drop (d' + M) (drop (d + M) (drop B text)))

-- No item is Init or Discard: what is read as a gate has a statement.
either : (t : Bool) (m n : ℕ) → Truth (has_statement m) → Truth (has_statement n) → Truth (has_statement (cond t m n))
either true m n h k = h
either false m n h k = k

kind_written : (first second name : ℕ) → Truth (has_statement (kind_of first second name))
unfolding kind_of has_statement either
kind_written first second name =
    either (eqb first 104) _ _ tt
    (either (eqb first 120) _ _ tt
    (either (eqb first 122) _ _ tt
    (either (eqb first 115) _ _ tt
    (either (eqb first 116) _ _ tt
    (either (eqb first 99) _ _ (either (eqb second 114) _ _ tt (either (eqb second 99) _ _ tt tt))
    (either (eqb first 109) _ _ tt
    (either (eqb first 105) _ _ (either (eqb name 120) _ _ tt tt)
    (either (eqb first 113) _ _ tt
    (either (eqb first 32) _ _ tt tt)))))))))

pub item_written : (text : List ℕ) → Truth (has_statement (item_in text).kind)
unfolding item_in has_statement
item_written text = of (eqb k no_item) (eqb (between k) 0) (eqb k ccx_item) (kind_written _ _ _)
  where
    k : ℕ
    k = kind_in text

    of : (s t u : Bool)
        → Truth (has_statement k)
        → Truth (has_statement
        (cond s (item no_item 0 0 0 0) (cond t (one_number k text) (cond u (three_numbers k text) (two_numbers k text)))).kind)
    of true t u h = tt
    of false true u h = h
    of false false true h = h
    of false false false h = h

-- The declaration of an input is read.
pub declaration_reads : (k : ℕ) (α : Wire) (rest : List ℕ)
    → k < 100
    → (s : ℕ) × Reads (declaration k α ++ rest) (input_kind α) k s 0 rest
unfolding kind_of before between behind
declaration_reads k Bit rest small =
    let end = ascii "[1];\n" in
    (0, one_read 128 k _ (end ++ rest) rest refl refl refl small (append_assoc (decimal k) end rest) refl refl)
declaration_reads k Qubit rest small =
    let end = ascii "[1];\n" in
    let last : ((decimal k ++ end) ++ []) ++ rest ≡ decimal k ++ (end ++ rest)
    = ap (λ l. l ++ rest) (append-nil (decimal k ++ end)) ∙ append_assoc (decimal k) end rest in
    let second = (end ++ (bit_register k ++ [])) ++ rest in (
      k,
      two_read 129 k _ second rest k (end ++ rest) refl refl refl refl small
          (append_assoc (decimal k) (end ++ (bit_register k ++ [])) rest)
          refl small last refl refl,
    )

-- The name of an output is read, if no digit follows.
pub output_reads : (α : Wire) (r : ℕ) (rest : List ℕ)
    → r < 100
    → is_digit (get_or rest 0 0) ≡ false
    → Reads (32 ∷ (register_name α r ++ rest)) output_item r 0 0 rest
unfolding kind_of before between behind
output_reads Bit r rest small ends = one_read 130 r _ rest rest refl refl refl small refl ends refl
output_reads Qubit r rest small ends = one_read 130 r _ rest rest refl refl refl small refl ends refl

-- The name of the gate behind `if(c0==1) ` stands behind the first number and five more bytes.
name_at : (r : ℕ) (text t : List ℕ)
    → r < 100
    → drop 4 text ≡ decimal r ++ t
    → is_digit (get_or t 0 0) ≡ false
    → get_or text (9 + digits_in (drop 4 text)) 0 ≡ get_or t 5 0
name_at r text t small e ends =
    let d = digits_in (drop 4 text) in
    let sum : 9 + d ≡ 4 + d + 5 = omega arith in
    ap (λ k. get_or text k 0) sum
    ∙ sym (get_or-drop (4 + d) text 5 0)
    ∙ ap
    (λ l. get_or l 5 0)
    (drop_more 4 d text ∙ (number_in_lem r (drop 4 text) t small e ends).1)

-- The line of a gate is read: its number, and the registers of the wires that it takes.
pub record GateReads (n : ℕ) (rs rest : List ℕ) : Type 0 where
  pub second : ℕ
  pub third : ℕ
  pub reads : Reads (gate_line n rs ++ rest) n (get_or rs 0 0) second third rest
  pub registers : take (wires_in n) (get_or rs 0 0 ∷ second ∷ third ∷ []) ≡ take (wires_in n) (each (λ k. get_or rs k 0) entry_slots)

pub gate_reads : (n : ℕ) (rs rest : List ℕ)
    → Truth (is_gate n)
    → Truth (has_statement n)
    → ((k : ℕ) → get_or rs k 0 < 100)
    → GateReads n rs rest
unfolding gate_line is_gate wires_in has_statement kind_of before between behind
gate_reads n rs rest known written small = of n known written
  where
    r : ℕ
    r = get_or rs 0 0

    s : ℕ
    s = get_or rs 1 0

    q : ℕ
    q = get_or rs 2 0

    end : List ℕ
    end = ascii "[0];\n"

    last : (q : ℕ) → (decimal q ++ end) ++ rest ≡ decimal q ++ (end ++ rest)
    last q = append_assoc (decimal q) end rest

    read_as : (m x y : ℕ)
        → Reads (gate_line m rs ++ rest) m r x y rest
        → take (wires_in m) (r ∷ x ∷ y ∷ []) ≡ take (wires_in m) (each (λ k. get_or rs k 0) entry_slots)
        → GateReads m rs rest
    read_as m x y reads registers = record { second = x; third = y; reads = reads; registers = registers }

    of : (m : ℕ) → Truth (is_gate m) → Truth (has_statement m) → GateReads m rs rest
    of zero g h =
        read_as 0 0 0 (one_read 0 r _ (end ++ rest) rest refl refl refl (small 0) (last r) refl refl) refl
    of (suc zero) g h =
        read_as 1 0 0 (one_read 1 r _ (end ++ rest) rest refl refl refl (small 0) (last r) refl refl) refl
    of (suc (suc zero)) g h =
        read_as 2 0 0 (one_read 2 r _ (end ++ rest) rest refl refl refl (small 0) (last r) refl refl) refl
    of (suc (suc (suc zero))) g h =
        read_as 3 0 0 (one_read 3 r _ (end ++ rest) rest refl refl refl (small 0) (last r) refl refl) refl
    of (suc (suc (suc (suc zero)))) g h =
        read_as 4 0 0 (one_read 4 r _ (end ++ rest) rest refl refl refl (small 0) (last r) refl refl) refl
    of (suc (suc (suc (suc (suc zero))))) g h =
        let t = ascii "[0],q" ++ (decimal s ++ end) in
        read_as 5 s 0
        (two_read 5 r _ (t ++ rest) rest s (end ++ rest) refl refl refl refl (small 0) (append_assoc (decimal r) t rest) refl
        (small 1) (last s) refl refl)
        refl
    of (suc (suc (suc (suc (suc (suc zero)))))) g h =
        let t = ascii "[0] -> c" ++ (decimal r ++ end) in
        read_as 6 r 0
        (two_read 6 r _ (t ++ rest) rest r (end ++ rest) refl refl refl refl (small 0) (append_assoc (decimal r) t rest) refl
        (small 0) (last r) refl refl)
        refl
    of (suc (suc (suc (suc (suc (suc (suc zero))))))) g h =
        let t = ascii "==1) x q" ++ (decimal s ++ end) in
        let first = append_assoc (decimal r) t rest in
        let named = name_at r (gate_line 7 rs ++ rest) (t ++ rest) (small 0) first refl in
        read_as 7 s 0
        (two_read 7 r _ (t ++ rest) rest s (end ++ rest) (ap (kind_of 105 102) named) refl refl refl (small 0) first refl (small 1)
        (last s) refl refl)
        refl
    of (suc (suc (suc (suc (suc (suc (suc (suc zero)))))))) g h =
        let t = ascii "==1) z q" ++ (decimal s ++ end) in
        let first = append_assoc (decimal r) t rest in
        let named = name_at r (gate_line 8 rs ++ rest) (t ++ rest) (small 0) first refl in
        read_as 8 s 0
        (two_read 8 r _ (t ++ rest) rest s (end ++ rest) (ap (kind_of 105 102) named) refl refl refl (small 0) first refl (small 1)
        (last s) refl refl)
        refl
    of (suc (suc (suc (suc (suc (suc (suc (suc (suc zero))))))))) g h = absurd h
    of (suc (suc (suc (suc (suc (suc (suc (suc (suc (suc zero)))))))))) g h = absurd h
    of (suc (suc (suc (suc (suc (suc (suc (suc (suc (suc (suc zero))))))))))) g h =
        let u = ascii "[0],q" ++ (decimal q ++ end) in
        let t = ascii "[0],q" ++ (decimal s ++ u) in
        read_as 11 s q
        (three_read r s q _ (t ++ rest) (u ++ rest) (end ++ rest) rest refl (small 0) (append_assoc (decimal r) t rest) refl
        (small 1) (append_assoc (decimal s) u rest) refl (small 2) (last q) refl refl)
        refl
    of (suc (suc (suc (suc (suc (suc (suc (suc (suc (suc (suc (suc m)))))))))))) g h = absurd g
