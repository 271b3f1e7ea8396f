-- Laws of the table of wires: a wire is taken, a wire is made, and what is left.
use Rattle.std.specs.Prelude.{ℕ, zero, suc, ◌+◌, ◌-◌, ◌*◌, ◌/◌, ◌%◌, ◌≤◌, ◌<◌, ◌≡◌, refl, Bool, true, false, ◌&&◌, cond, List, [], ◌∷◌, ◌++◌, eqb, ltb, length, get_or, set}
use Rattle.std.proofs.Common.{arith, sym, ◌∙◌, ap, ap₂, subst, append_assoc, append-nil, length-append, length-set, get_or-set_same, get_or-set_other}
use Rattle.std.proofs.Math.Decide.{dec_lt}
use Rattle.std.proofs.Math.Option.{Option, none, some}
use Rattle.std.proofs.Math.ListN.{get_or-eq_default}
use Rattle.rules.specs.Types.{Wire, Bit, Qubit, wire_code}
use Rattle.rules.specs.Gates.{nth}
use Rattle.rules.specs.GateCodes.{wires_code}
use Rattle.rules.specs.Circuits.{count, one_if, if_none}
use Rattle.rules.proofs.Laws.Wires.{Compared, equal, unequal, compared, count_append, nth_append_left, nth_append_right, nth_beyond}
use Rattle.rules.proofs.Laws.Wires.{nth_some_within, one_if_unequal}
use Rattle.words.specs.Numbers.{word_at, words_at}
use Rattle.words.proofs.Laws.Numbers.{one_left}
use Rattle.wire_table.specs.Wires.{there, is_there, is_of_type, all_there, first_where, lowest_left}
use Rattle.wire_table.specs.Table.{wire_byte, Holds, TakesAll, MakesAll}

-- What a byte of the table says of its wire.
pub byte_of_type : (α : Wire) (o : Option Wire) → eqb (wire_byte o) (suc (wire_code α)) ≡ is_of_type α o
byte_of_type Bit none = refl
byte_of_type Qubit none = refl
byte_of_type Bit (some Bit) = refl
byte_of_type Bit (some Qubit) = refl
byte_of_type Qubit (some Bit) = refl
byte_of_type Qubit (some Qubit) = refl

pub byte_there : (o : Option Wire) → ltb 0 (wire_byte o) ≡ is_there o
byte_there none = refl
byte_there (some Bit) = refl
byte_there (some Qubit) = refl

-- A wire that is gone is not there, and one that is there was made.
gone_none : (n : ℕ) (o : Option Wire) → 1 ≤ n → if_none n o ≡ none
gone_none zero o h = absurd (omega arith)
gone_none (suc n) o h = refl

there_made : (n : ℕ) (o : Option Wire) {α : Wire} → if_none n o ≡ some α → o ≡ some α
there_made zero o e = e
there_made (suc n) o e = let z : ◌≡◌ {A = ℕ} 0 1 = cc in absurd (omega arith)

-- A table of zeros holds no wire.
pub nothing_made : (m : List ℕ) → ((w : ℕ) → get_or m w 0 ≡ 0) → Holds m [] []
nothing_made m zeros = record { bytes = zeros; gone_made = λ w h. absurd (omega arith) }

-- The order in which wires have gone does not matter.
pub same_gone : {m : List ℕ} {types : List Wire} {gone : List ℕ} (gone' : List ℕ)
    → ((w : ℕ) → count w gone' ≡ count w gone)
    → Holds m types gone
    → Holds m types gone'
same_gone {types = types} gone' e h =
    record {
      bytes = λ w. h.bytes w ∙ ap (λ n. wire_byte (if_none n (nth types w))) (sym (e w));
      gone_made = λ w k. h.gone_made w (omega (arith, e w));
    }

cleared_at : (m : List ℕ) (w : ℕ) → get_or (set m w 0) w 0 ≡ 0
cleared_at m w = of (dec_lt w (length m))
  where
    of : Dec (w < length m) → get_or (set m w 0) w 0 ≡ 0
    of (yes p) = get_or-set_same m w 0 0 p
    of (no p) = get_or-eq_default (set m w 0) 0 (omega (arith, length-set m w 0))

-- A wire that is there is taken.
pub taken_out : {m : List ℕ} {types : List Wire} {gone : List ℕ} (w : ℕ) {α : Wire}
    → there types gone w ≡ some α
    → Holds m types gone
    → Holds (set m w 0) types (w ∷ gone)
taken_out {m} {types} {gone} w e h =
    record { bytes = λ v. at v (eqb v w) (compared v w); gone_made = λ v k. made v k (compared v w) }
  where
    at : (v : ℕ) (b : Bool) → Compared v w b → get_or (set m w 0) v 0 ≡ wire_byte (if_none (one_if b + count v gone) (nth types v))
    at v _ (equal p) =
        ap (λ j. get_or (set m w 0) j 0) p
        ∙ cleared_at m w
        ∙ ap wire_byte (sym (gone_none (1 + count v gone) (nth types v) (omega arith)))
    at v _ (unequal f) =
        let same : count v gone ≡ 0 + count v gone = omega arith in
        get_or-set_other m w v 0 0 f ∙ h.bytes v ∙ ap (λ n. wire_byte (if_none n (nth types v))) same

    within : w < length types
    within = nth_some_within types w (there_made (count w gone) (nth types w) e)

    made : (v : ℕ) → 1 ≤ count v (w ∷ gone) → {b : Bool} → Compared v w b → v < length types
    made v k (equal p) = omega (arith, within)
    made v k (unequal f) = h.gone_made v (omega (arith, one_if_unequal v w f))

-- A wire is made: it gets the next number.
pub one_made : {m : List ℕ} {types : List Wire} {gone : List ℕ} (α : Wire) (at byte : ℕ)
    → at ≡ length types
    → at < length m
    → byte ≡ suc (wire_code α)
    → Holds m types gone
    → Holds (set m at byte) (types ++ (α ∷ [])) gone
one_made {m} {types} {gone} α at byte here room is h =
    record {
      bytes = λ v. of v (dec_lt v at) (dec_lt at v);
      gone_made = λ v k. omega (arith, h.gone_made v k, length-append types (α ∷ []));
    }
  where
    of : (v : ℕ) → Dec (v < at) → Dec (at < v) → get_or (set m at byte) v 0 ≡ wire_byte (there (types ++ (α ∷ [])) gone v)
    of v (yes p) q =
        get_or-set_other m at v byte 0 (λ e. omega arith)
        ∙ h.bytes v
        ∙ ap (λ o. wire_byte (if_none (count v gone) o)) (sym (nth_append_left types (α ∷ []) v (omega arith)))
    of v (no p) (yes q) =
        get_or-set_other m at v byte 0 (λ e. omega arith)
        ∙ h.bytes v
        ∙ ap (λ o. wire_byte (if_none (count v gone) o))
        (nth_beyond types v (omega arith)
        ∙ sym (nth_beyond (types ++ (α ∷ [])) v (omega (arith, length-append types (α ∷ [])))))
    of v (no p) (no q) =
        let e : v ≡ at = omega arith in
        let new : count v gone ≡ 0 = fresh (count v gone) refl in
        let place : v ≡ length types + 0 = omega arith in
        ap (λ j. get_or (set m at byte) j 0) e
        ∙ get_or-set_same m at byte 0 room
        ∙ is
        ∙ sym (ap₂ (λ n o. wire_byte (if_none n o)) new (ap (nth (types ++ (α ∷ []))) place ∙ nth_append_right types (α ∷ []) 0))
      where
        fresh : (n : ℕ) → count v gone ≡ n → n ≡ 0
        fresh zero c = refl
        fresh (suc n) c = absurd (omega (arith, h.gone_made v (omega arith)))

-- Wires are taken one after the other: those that are left to take, with their types, and the table then.
pub record Taking (types : List Wire) (gone ws : List ℕ) (αs : List Wire) (m rest : List ℕ) (later : List Wire) : Type 0 where
  pub so_far : List ℕ
  pub held : Holds m types so_far
  pub same : all_there types gone ws αs ≡ all_there types so_far rest later
  pub counted : (w : ℕ) → count w so_far + count w rest ≡ count w (ws ++ gone)

module _ {types : List Wire} {gone ws : List ℕ} {αs : List Wire} {m : List ℕ} where
  pub taking_start : Holds m types gone → Taking types gone ws αs m ws αs
  taking_start h = record { so_far = gone; held = h; same = refl; counted = λ w. omega (arith, count_append w ws gone) }

  -- The next wire is there, with its type.
  pub taking_next : {w : ℕ} {α : Wire} {rest : List ℕ} {later : List Wire} (m' : List ℕ)
      → eqb (get_or m w 0) (suc (wire_code α)) ≡ true
      → m' ≡ set m w 0
      → Taking types gone ws αs m (w ∷ rest) (α ∷ later)
      → Taking types gone ws αs m' rest later
  taking_next {w} {α} {rest} {later} m' e put t =
      let is : is_of_type α (there types t.so_far w) ≡ true
      = sym (ap (λ x. eqb x (suc (wire_code α))) (t.held.bytes w) ∙ byte_of_type α (there types t.so_far w)) ∙ e in
      of (there types t.so_far w) refl is
    where
      of : (o : Option Wire) → there types t.so_far w ≡ o → is_of_type α o ≡ true → Taking types gone ws αs m' rest later
      of none q r = let z : ◌≡◌ {A = ℕ} 0 1 = cc in absurd (omega arith)
      of (some β) q r =
          record {
            so_far = w ∷ t.so_far;
            held = subst (λ l. Holds l types (w ∷ t.so_far)) (sym put) (taken_out w q t.held);
            same = t.same
                ∙ ap (λ x. x && all_there types (w ∷ t.so_far) rest later) (ap (is_of_type α) q ∙ r);
            counted = λ v. omega (arith, t.counted v);
          }

  -- It is not: then not all are.
  pub taking_fails : {w : ℕ} {α : Wire} {rest : List ℕ} {later : List Wire}
      → eqb (get_or m w 0) (suc (wire_code α)) ≡ false
      → Taking types gone ws αs m (w ∷ rest) (α ∷ later)
      → all_there types gone ws αs ≡ false
  taking_fails {w} {α} {rest} {later} e t =
      t.same
      ∙ ap (λ x. x && all_there types (w ∷ t.so_far) rest later)
      (sym (ap (λ x. eqb x (suc (wire_code α))) (t.held.bytes w) ∙ byte_of_type α (there types t.so_far w)) ∙ e)

  -- None is left.
  pub taking_end : Taking types gone ws αs m [] [] → TakesAll types gone ws αs m true
  taking_end t =
      record {
        answers = sym t.same;
        holds = λ e. same_gone (ws ++ gone) (λ w. omega (arith, t.counted w)) t.held;
      }

-- Wires are made one after the other: the types of those that are left to make, and the table then.
pub record Making (types : List Wire) (gone : List ℕ) (αs : List Wire) (m : List ℕ) (made : ℕ) (later : List Wire) : Type 0 where
  pub so_far : List Wire
  pub held : Holds m so_far gone
  pub next_is : made ≡ length so_far
  pub joined : so_far ++ later ≡ types ++ αs

module _ {types : List Wire} {gone : List ℕ} {αs : List Wire} {m : List ℕ} where
  pub making_start : {made : ℕ} → made ≡ length types → Holds m types gone → Making types gone αs m made αs
  making_start e h = record { so_far = types; held = h; next_is = e; joined = refl }

  pub making_next : {made : ℕ} {α : Wire} {later : List Wire} (m' : List ℕ) (byte : ℕ)
      → byte ≡ suc (wire_code α)
      → made < length m
      → m' ≡ set m made byte
      → Making types gone αs m made (α ∷ later)
      → Making types gone αs m' (made + 1) later
  making_next {made} {α} {later} m' byte is room put t =
      record {
        so_far = t.so_far ++ (α ∷ []);
        held = subst (λ l. Holds l (t.so_far ++ (α ∷ [])) gone) (sym put) (one_made α made byte t.next_is room is t.held);
        next_is = omega (arith, t.next_is, length-append t.so_far (α ∷ []));
        joined = append_assoc t.so_far (α ∷ []) later ∙ t.joined;
      }

  pub making_end : {made : ℕ} → Making types gone αs m made [] → MakesAll types gone αs m made
  making_end t =
      let all = sym (append-nil t.so_far) ∙ t.joined in
      record { count_is = t.next_is ∙ ap length all; holds = subst (λ l. Holds m l gone) all t.held }

-- The types of wires from one on, and the first of them, by the number that has the types of all.
pub record FirstOf (code : ℕ) (αs : List Wire) : Type 0 where
  pub first : Wire
  pub later : List Wire
  pub split : αs ≡ first ∷ later
  pub byte_is : code % 4 ≡ suc (wire_code first)
  pub code_is : code / 4 ≡ wires_code later

pub first_of : (code : ℕ) (αs : List Wire) → code ≡ wires_code αs → 0 < code → FirstOf code αs
first_of code [] e h = absurd (omega arith)
first_of code (Bit ∷ αs) e h =
    record { first = Bit; later = αs; split = refl; byte_is = omega arith; code_is = omega arith }
first_of code (Qubit ∷ αs) e h =
    record { first = Qubit; later = αs; split = refl; byte_is = omega arith; code_is = omega arith }

-- Where the number is 0, none is left.
pub none_of : (code : ℕ) (αs : List Wire) → code ≡ wires_code αs → code ≤ 0 → αs ≡ []
none_of code [] e h = refl
none_of code (α ∷ αs) e h = absurd (omega arith)

-- Wires are left to take: words from a place on, as many as there are types.
pub record LeftToTake (b : List ℕ) (from : ℕ) (αs : List Wire) (m₀ m : List ℕ) (at codes : ℕ) : Type 0 where
  pub later : List Wire
  pub codes_are : codes ≡ wires_code later
  pub place : at + 2 * length later ≡ from + 2 * length αs
  pub taking : (types : List Wire) (gone : List ℕ)
      → Holds m₀ types gone
      → Taking types gone (words_at b from (length αs)) αs m (words_at b at (length later)) later

pub all_left : (b : List ℕ) (from : ℕ) (αs : List Wire) (m : List ℕ) (codes : ℕ)
    → codes ≡ wires_code αs
    → LeftToTake b from αs m m from codes
all_left b from αs m codes e =
    record { later = αs; codes_are = e; place = refl; taking = λ types gone h. taking_start h }

module _ {b : List ℕ} {from : ℕ} {αs : List Wire} {m₀ m : List ℕ} {at codes : ℕ} (t : LeftToTake b from αs m₀ m at codes) where
  module _ (some_left : 0 < codes) where
    next : FirstOf codes t.later
    next = first_of codes t.later t.codes_are some_left

    opened : (types : List Wire) (gone : List ℕ)
        → Holds m₀ types gone
        → Taking types gone (words_at b from (length αs)) αs m
        (word_at b at ∷ words_at b (at + 2) (length next.later)) (next.first ∷ next.later)
    opened types gone h =
        subst (λ l. Taking types gone (words_at b from (length αs)) αs m (words_at b at (length l)) l) next.split
        (t.taking types gone h)

    -- One more is there, and one is not.
    pub taken_more : (m' : List ℕ) (w : ℕ)
        → w ≡ word_at b at
        → eqb (get_or m w 0) (codes % 4) ≡ true
        → m' ≡ set m w 0
        → LeftToTake b from αs m₀ m' (at + 2) (codes / 4)
    taken_more m' w here e put =
        record {
          later = next.later;
          codes_are = next.code_is;
          place = omega (arith, ap length next.split, t.place);
          taking = λ types gone h.
              taking_next m' (ap₂ (λ v x. eqb (get_or m v 0) x) (sym here) (sym next.byte_is) ∙ e)
              (put ∙ ap (λ v. set m v 0) here) (opened types gone h);
        }

    pub taken_wrong : (m' : List ℕ) (w : ℕ)
        → w ≡ word_at b at
        → eqb (get_or m w 0) (codes % 4) ≡ false
        → (types : List Wire) (gone : List ℕ)
        → Holds m₀ types gone
        → TakesAll types gone (words_at b from (length αs)) αs m' false
    taken_wrong m' w here e types gone h =
        record {
          answers = sym (taking_fails (ap₂ (λ v x. eqb (get_or m v 0) x) (sym here) (sym next.byte_is) ∙ e) (opened types gone h));
          holds = λ z. let y : ◌≡◌ {A = ℕ} 0 1 = cc in absurd (omega arith);
        }

  -- None is left.
  pub taken_all : codes ≤ 0
      → (types : List Wire) (gone : List ℕ)
      → Holds m₀ types gone
      → TakesAll types gone (words_at b from (length αs)) αs m true
  taken_all none_left types gone h =
      taking_end
      (subst (λ l. Taking types gone (words_at b from (length αs)) αs m (words_at b at (length l)) l)
      (none_of codes t.later t.codes_are none_left) (t.taking types gone h))

-- Wires are left to make.
pub record LeftToMake (αs : List Wire) (m₀ m : List ℕ) (made at codes : ℕ) : Type 0 where
  pub later : List Wire
  pub codes_are : codes ≡ wires_code later
  pub place : at + length later ≡ made + length αs
  pub making : (types : List Wire) (gone : List ℕ)
      → Holds m₀ types gone
      → made ≡ length types
      → made + length αs ≤ length m₀
      → Making types gone αs m at later

pub none_made : (αs : List Wire) (m : List ℕ) (made codes : ℕ) → codes ≡ wires_code αs → LeftToMake αs m m made made codes
none_made αs m made codes e =
    record { later = αs; codes_are = e; place = refl; making = λ types gone h is room. making_start is h }

module _ {αs : List Wire} {m₀ m : List ℕ} {made at codes : ℕ} (t : LeftToMake αs m₀ m made at codes) where
  pub made_more : (m' : List ℕ)
      → 0 < codes
      → length m ≡ length m₀
      → m' ≡ set m at (codes % 4)
      → LeftToMake αs m₀ m' made (at + 1) (codes / 4)
  made_more m' some_left same put =
      let n = first_of codes t.later t.codes_are some_left in
      let rest = ap length n.split in
      record {
        later = n.later;
        codes_are = n.code_is;
        place = omega (arith, rest, t.place);
        making = λ types gone h is room.
            making_next m' (codes % 4) n.byte_is (omega (arith, rest, t.place)) put
            (subst (λ l. Making types gone αs m at l) n.split (t.making types gone h is room));
      }

  pub all_made : codes ≤ 0
      → (types : List Wire) (gone : List ℕ)
      → Holds m₀ types gone
      → made ≡ length types
      → made + length αs ≤ length m₀
      → MakesAll types gone αs m at
  all_made none_left types gone h is room =
      making_end
      (subst (λ l. Making types gone αs m at l) (none_of codes t.later t.codes_are none_left) (t.making types gone h is room))

-- The words that are left from one on.
pub next_word : (b : List ℕ) (from n k : ℕ)
    → k < n
    → words_at b (from + 2 * k) (n - k) ≡ word_at b (from + 2 * k) ∷ words_at b (from + 2 * (k + 1)) (n - (k + 1))
next_word b from n k h =
    let e : from + 2 * k + 2 ≡ from + 2 * (k + 1) = omega arith in
    ap (words_at b (from + 2 * k)) (one_left n k h) ∙ ap (λ j. word_at b (from + 2 * k) ∷ words_at b j (n - (k + 1))) e

-- The lowest wire left, read in a table that has room for all wires.
found_past : (test : ℕ → Bool) (n k : ℕ) → ((m : ℕ) → n ≤ m → test m ≡ false) → first_where test n k ≡ none
found_past test n zero h = refl
found_past test n (suc k) h =
    ap (λ t. cond t (some n) (first_where test (suc n) k)) (h n (omega arith))
    ∙ found_past test (suc n) k (λ m below. h m (omega arith))

same_found : (test test' : ℕ → Bool) (n k k' : ℕ)
    → ((m : ℕ) → test m ≡ test' m)
    → k ≤ k'
    → ((m : ℕ) → n + k ≤ m → test m ≡ false)
    → first_where test n k' ≡ first_where test' n k
same_found test test' n zero k' e h none_past = found_past test n k' (λ m l. none_past m (omega arith))
same_found test test' n (suc k) zero e h none_past = absurd (omega arith)
same_found test test' n (suc k) (suc k') e h none_past =
    ap₂ (λ t o. cond t (some n) o) (e n)
    (same_found test test' (suc n) k k' e (omega arith) (λ m l. none_past m (omega arith)))

pub lowest_read : {m : List ℕ} {types : List Wire} {gone : List ℕ} (many : ℕ)
    → length types ≤ many
    → Holds m types gone
    → first_where (λ w. ltb 0 (get_or m w 0)) 0 many ≡ lowest_left types gone
lowest_read {m} {types} {gone} many h t =
    same_found (λ w. ltb 0 (get_or m w 0)) (λ w. is_there (there types gone w)) 0 (length types) many same h past
  where
    same : (w : ℕ) → ltb 0 (get_or m w 0) ≡ is_there (there types gone w)
    same w = ap (ltb 0) (t.bytes w) ∙ byte_there (there types gone w)

    nothing : (n : ℕ) → is_there (if_none n none) ≡ false
    nothing zero = refl
    nothing (suc n) = refl

    past : (w : ℕ) → 0 + length types ≤ w → ltb 0 (get_or m w 0) ≡ false
    past w l =
        same w ∙ ap (λ o. is_there (if_none (count w gone) o)) (nth_beyond types w (omega arith)) ∙ nothing (count w gone)
