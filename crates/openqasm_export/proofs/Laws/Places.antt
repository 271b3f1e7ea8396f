-- Laws of specs/Places.antt.
use Rattle.std.specs.Prelude.{ℕ, zero, suc, ◌+◌, ◌*◌, ◌/◌, ◌%◌, ◌≤◌, ◌<◌, ◌≡◌, refl, cond, List, [], ◌∷◌, ◌++◌, map, eqb, length, get_or, set, take, drop, replicate}
use Rattle.std.proofs.Common.{arith, sym, ◌∙◌, ap, subst, append_assoc, append-nil, length-append, get_or-set_same, get_or-set_other, eq-eqb, ne_eqb}
use Rattle.std.proofs.Math.Decide.{dec_lt}
use Rattle.rules.specs.Types.{Wire, Bit, Qubit, wire_code}
use Rattle.rules.specs.Gates.{gate_outputs, wires_out}
use Rattle.rules.specs.GateCodes.{wires_code}
use Rattle.words.specs.Numbers.{word_at, words_at}
use Rattle.wire_table.proofs.Laws.Table.{first_of}
use Rattle.listing.specs.Listing.{entry_slots}
use Rattle.listing.proofs.Laws.ReadBack.{made_fit}
use Rattle.listing_check.proofs.Laws.Answering.{cleared_table}
use Rattle.openqasm_export.specs.Places.{place_bytes, Begins, retyped}

-- The code of a wire's type is below 2.
code_below : (α : Wire) → wire_code α < 2
code_below Bit = omega arith
code_below Qubit = omega arith

-- A place tells the register and the type of its wire.
pub place_register : (rs : List ℕ) (αs : List Wire) (w : ℕ) → length rs ≡ length αs → get_or (place_bytes rs αs) w 0 / 2 ≡ get_or rs w 0
place_register [] αs w same = refl
place_register (r ∷ rs) [] w same = absurd (omega arith)
place_register (r ∷ rs) (α ∷ αs) zero same = omega (arith, code_below α)
place_register (r ∷ rs) (α ∷ αs) (suc w) same = place_register rs αs w (omega arith)

type_of_code : (r : ℕ) (α : Wire) → cond (eqb ((2 * r + wire_code α) % 2) 1) Qubit Bit ≡ α
type_of_code r Bit = ap (λ b. cond b Qubit Bit) (ne_eqb ((2 * r + 0) % 2) 1 (λ e. absurd (omega arith)))
type_of_code r Qubit = ap (λ b. cond b Qubit Bit) (eq-eqb ((2 * r + 1) % 2) 1 (omega arith))

pub place_type : (rs : List ℕ) (αs : List Wire) (w : ℕ)
    → length rs ≡ length αs
    → cond (eqb (get_or (place_bytes rs αs) w 0 % 2) 1) Qubit Bit ≡ get_or αs w Bit
place_type [] [] w same = refl
place_type [] (α ∷ αs) w same = absurd (omega arith)
place_type (r ∷ rs) [] w same = absurd (omega arith)
place_type (r ∷ rs) (α ∷ αs) zero same = type_of_code r α
place_type (r ∷ rs) (α ∷ αs) (suc w) same = place_type rs αs w (omega arith)

-- There are no places of no wire.
pub of_no_type : (rs : List ℕ) → place_bytes rs [] ≡ []
of_no_type [] = refl
of_no_type (r ∷ rs) = refl

-- Places of more wires stand behind.
pub places_append : (rs ss : List ℕ) (αs βs : List Wire)
    → length rs ≡ length αs
    → place_bytes (rs ++ ss) (αs ++ βs) ≡ place_bytes rs αs ++ place_bytes ss βs
places_append [] ss [] βs same = refl
places_append [] ss (α ∷ αs) βs same = absurd (omega arith)
places_append (r ∷ rs) ss [] βs same = absurd (omega arith)
places_append (r ∷ rs) ss (α ∷ αs) βs same =
    ap (λ l. (2 * r + wire_code α) ∷ l) (places_append rs ss αs βs (omega arith))

pub length_places : (rs : List ℕ) (αs : List Wire) → length rs ≡ length αs → length (place_bytes rs αs) ≡ length αs
length_places [] [] same = refl
length_places [] (α ∷ αs) same = absurd (omega arith)
length_places (r ∷ rs) [] same = absurd (omega arith)
length_places (r ∷ rs) (α ∷ αs) same = ap suc (length_places rs αs (omega arith))

-- MEMORY

-- What stands in a list with one more element.
more_before : (l : List ℕ) (x w : ℕ) → w < length l → get_or (l ++ (x ∷ [])) w 0 ≡ get_or l w 0
more_before [] x w below = absurd (omega arith)
more_before (y ∷ l) x zero below = refl
more_before (y ∷ l) x (suc w) below = more_before l x w (omega arith)

more_last : (l : List ℕ) (x : ℕ) → get_or (l ++ (x ∷ [])) (length l) 0 ≡ x
more_last [] x = refl
more_last (y ∷ l) x = more_last l x

more_past : (l : List ℕ) (x w : ℕ) → length l < w → get_or (l ++ (x ∷ [])) w 0 ≡ get_or l w 0
more_past [] x zero past = absurd (omega arith)
more_past [] x (suc w) past = refl
more_past (y ∷ l) x zero past = absurd (omega arith)
more_past (y ∷ l) x (suc w) past = more_past l x w (omega arith)

-- One more byte.
pub begins_more : {m bytes : List ℕ} (at x : ℕ)
    → at ≡ length bytes
    → at < length m
    → Begins m bytes
    → Begins (set m at x) (bytes ++ (x ∷ []))
begins_more {m} {bytes} at x here room begun = record { at_each = λ w. of w (dec_lt w at) (dec_lt at w) }
  where
    of : (w : ℕ) → Dec (w < at) → Dec (at < w) → get_or (set m at x) w 0 ≡ get_or (bytes ++ (x ∷ [])) w 0
    of w (yes b) d =
        get_or-set_other m at w x 0 (λ e. omega arith) ∙ begun.at_each w ∙ sym (more_before bytes x w (omega (arith, here)))
    of w (no n) (yes b) =
        get_or-set_other m at w x 0 (λ e. omega arith) ∙ begun.at_each w ∙ sym (more_past bytes x w (omega (arith, here)))
    of w (no n) (no k) =
        let same : w ≡ at = omega arith in
        ap (λ j. get_or (set m at x) j 0) same
        ∙ get_or-set_same m at x 0 room
        ∙ sym (ap (λ j. get_or (bytes ++ (x ∷ [])) j 0) (same ∙ here) ∙ more_last bytes x)

pub begins_same : {m bytes bytes' : List ℕ} → bytes ≡ bytes' → Begins m bytes → Begins m bytes'
begins_same {m} e begun = subst (Begins m) e begun

-- Memory of zeros.
pub begins_none : (m : List ℕ) (n : ℕ) → ◌≡◌ {A = List ℕ} m (replicate n 0) → Begins m []
begins_none m n e = record { at_each = λ w. (cleared_table n m e).bytes w }

-- WHAT A GATE MAKES

-- A place with the type of a wire.
retyped_is : (place code : ℕ) (α : Wire) → code ≡ suc (wire_code α) → retyped place code ≡ 2 * (place / 2) + wire_code α
retyped_is place code Bit e = ap (λ b. 2 * (place / 2) + cond b 1 0) (ne_eqb code 2 (λ two. absurd (omega arith)))
retyped_is place code Qubit e = ap (λ b. 2 * (place / 2) + cond b 1 0) (eq-eqb code 2 e)

-- Where the code of the types is 0, there is no wire to place.
pub kept_none : {m : List ℕ} (codes place : ℕ) (αs : List Wire) (bytes : List ℕ)
    → codes ≡ 0
    → codes ≡ wires_code αs
    → Begins m bytes
    → Begins m (bytes ++ place_bytes (place / 2 ∷ []) (take 1 αs))
kept_none codes place [] bytes none are begun = begins_same (sym (append-nil bytes)) begun
kept_none codes place (α ∷ αs) bytes none are begun = absurd (omega arith)

pub none_made : (codes : ℕ) (αs : List Wire) → codes ≡ 0 → codes ≡ wires_code αs → length (take 1 αs) ≡ 0
none_made codes [] none are = refl
none_made codes (α ∷ αs) none are = absurd (omega arith)

-- Else there is one, whose type is the code's lowest digit.
pub kept_one : {m : List ℕ} (codes place made x : ℕ) (αs : List Wire) (bytes : List ℕ)
    → 0 < codes
    → x ≡ retyped place (codes % 4)
    → codes ≡ wires_code αs
    → Begins m bytes
    → made ≡ length bytes
    → made < length m
    → Begins (set m made x) (bytes ++ place_bytes (place / 2 ∷ []) (take 1 αs))
kept_one codes place made x αs bytes some_code is are begun here room =
    let f = first_of codes αs are some_code in
    begins_same
    (ap (λ y. bytes ++ (y ∷ [])) (is ∙ retyped_is place (codes % 4) f.first f.byte_is)
    ∙ sym (ap (λ l. bytes ++ place_bytes (place / 2 ∷ []) (take 1 l)) f.split))
    (begins_more made x here room begun)

pub length_kept : (place : ℕ) (αs : List Wire) (bytes : List ℕ)
    → length (bytes ++ place_bytes (place / 2 ∷ []) (take 1 αs)) ≡ length bytes + length (take 1 αs)
length_kept place [] bytes = length-append bytes []
length_kept place (α ∷ αs) bytes = length-append bytes ((2 * (place / 2) + wire_code α) ∷ [])

pub one_made : (codes : ℕ) (αs : List Wire) → 0 < codes → codes ≡ wires_code αs → length (take 1 αs) ≡ 1
one_made codes αs some_code are = ap (λ l. length (take 1 l)) (first_of codes αs are some_code).split

-- The wires behind the first have the code without its lowest digit.
pub quarter : (codes : ℕ) (αs : List Wire) → codes ≡ wires_code αs → codes / 4 ≡ wires_code (drop 1 αs)
quarter codes [] are = omega arith
quarter codes (α ∷ αs) are = omega (arith, code_below α)

-- Places one by one are those of all.
kept_split : (place : ℕ) (places : List ℕ) (αs : List Wire)
    → place_bytes (place / 2 ∷ []) (take 1 αs) ++ place_bytes (map (λ p. p / 2) places) (drop 1 αs)
    ≡ place_bytes (map (λ p. p / 2) (place ∷ places)) αs
kept_split place places [] = of_no_type (map (λ p. p / 2) places)
kept_split place places (α ∷ αs) = refl

pub kept_all : (first second third : ℕ) (αs : List Wire) (bytes : List ℕ)
    → ((bytes ++ place_bytes (first / 2 ∷ []) (take 1 αs)) ++ place_bytes (second / 2 ∷ []) (take 1 (drop 1 αs)))
    ++ place_bytes (third / 2 ∷ []) (take 1 (drop 1 (drop 1 αs)))
    ≡ bytes ++ place_bytes (map (λ p. p / 2) (first ∷ second ∷ third ∷ [])) αs
kept_all first second third αs bytes =
    let A = place_bytes (first / 2 ∷ []) (take 1 αs) in
    let B = place_bytes (second / 2 ∷ []) (take 1 (drop 1 αs)) in
    let C = place_bytes (third / 2 ∷ []) (take 1 (drop 1 (drop 1 αs))) in
    append_assoc (bytes ++ A) B C
    ∙ append_assoc bytes A (B ++ C)
    ∙ ap (λ l. bytes ++ (A ++ l))
    (ap (λ l. B ++ l) (sym (append-nil C) ∙ kept_split third [] (drop 1 (drop 1 αs)))
    ∙ kept_split second (third ∷ []) (drop 1 αs))
    ∙ ap (λ l. bytes ++ l) (kept_split first (second ∷ third ∷ []) αs)

-- A gate makes at most as many wires as an entry has slots.
pub all_made : (n : ℕ) → let αs = gate_outputs n in
    length (take 1 αs) + length (take 1 (drop 1 αs)) + length (take 1 (drop 1 (drop 1 αs))) ≡ wires_out n
unfolding wires_out
all_made n = of (gate_outputs n) (made_fit n)
  where
    of : (αs : List Wire)
        → length αs ≤ entry_slots
        → length (take 1 αs) + length (take 1 (drop 1 αs)) + length (take 1 (drop 1 (drop 1 αs))) ≡ length αs
    of [] few = refl
    of (α ∷ []) few = refl
    of (α ∷ β ∷ []) few = refl
    of (α ∷ β ∷ γ ∷ []) few = refl
    of (α ∷ β ∷ γ ∷ δ ∷ αs) few = absurd (omega arith)

-- What a function gives for the words that are read, one by one.
pub word_mapped : (f : ℕ → ℕ) (b : List ℕ) (n k from : ℕ) → k < n → get_or (map f (words_at b from n)) k 0 ≡ f (word_at b (from + 2 * k))
word_mapped f b zero k from below = absurd (omega arith)
word_mapped f b (suc n) zero from below = let e : from ≡ from + 2 * 0 = omega arith in ap (λ i. f (word_at b i)) e
word_mapped f b (suc n) (suc k) from below =
    let e : from + 2 + 2 * k ≡ from + 2 * suc k = omega arith in
    word_mapped f b n k (from + 2) (omega arith) ∙ ap (λ i. f (word_at b i)) e

pub none_mapped : (f : ℕ → ℕ) (b : List ℕ) (n k from : ℕ) → n ≤ k → get_or (map f (words_at b from n)) k 0 ≡ 0
none_mapped f b zero k from past = refl
none_mapped f b (suc n) zero from past = absurd (omega arith)
none_mapped f b (suc n) (suc k) from past = none_mapped f b n k (from + 2) (omega arith)
