-- Laws of specs/Copies.antt.
use Rattle.std.specs.Prelude.{ℕ, zero, suc, ◌+◌, ◌-◌, ◌*◌, ◌/◌, ◌≤◌, ◌<◌, ◌%◌, ◌≡◌, refl, ◌⊎◌, List, [], ◌∷◌, map, length, get_or, take, set}
use Rattle.std.proofs.Common.{arith, eq-or-lt_of_le, sym, ◌∙◌, ap, ap₂, subst, inl, inr, ⊎_elim, get_or-set_same, get_or-set_other, get_or-take, length-take-le}
use Rattle.std.proofs.Math.Decide.{dec_lt}
use Rattle.std.proofs.Math.Nat.{le-pred_of_lt}
use Rattle.std.specs.List.{CopiedTo, SameBelow, SameFrom}
use Rattle.rules.specs.Gates.{wires_in}
use Rattle.rules.specs.GateCodes.{wires_of}
use Rattle.rules.specs.Terms.{Gate, ◌on◌}
use Rattle.rules.specs.Circuits.{rename, rename_gate}
use Rattle.words.specs.Words.{words}
use Rattle.words.proofs.Laws.Words.{length_words, word_at_lem}
use Rattle.machine_terms.proofs.Laws.Renaming.{rename_input, rename_later}
use Rattle.words.specs.Quadwords.{Quadword, quadword, quadword_at, quadwords_in, word_in}
use Rattle.machine_circuits.specs.Layout.{gate_of, slot_of, gate_words, gates_in}
use Rattle.rules.specs.Slots.{no_wire}
use Rattle.words.proofs.Laws.Quadwords.{quadword_of_words, quadword_past}
use Rattle.machine_circuits.proofs.Laws.Gates.{read_back_renamed, gates_same}
use Rattle.machine_circuits.specs.Copies.{AllBelow, WiresBelow, low_words, CopyFits, renamed_words, GatesCopied}
use Rattle.machine_circuits.specs.Copies.{GatesMoved}

pub all_below_take : (m n : ℕ) (ws : List ℕ) → AllBelow m ws → AllBelow m (take n ws)
all_below_take m zero ws h = tt
all_below_take m (suc n) [] h = tt
all_below_take m (suc n) (w ∷ ws) h = (h.0, all_below_take m n ws h.1)

pub wires_below_at : (m : ℕ) (rs : List Quadword) (from count i : ℕ)
    → WiresBelow m (gates_in rs from count)
    → i < count
    → AllBelow m (wires_of (gate_of (quadword_at rs (from + i))))
wires_below_at m rs from zero i h below = absurd (omega arith)
wires_below_at m rs from (suc k) i h below =
    ⊎_elim
    (λ (e : i ≡ k). subst (λ j. AllBelow m (wires_of (gate_of (quadword_at rs (from + j))))) (sym e) h.0)
    (λ (l : i < k). wires_below_at m rs from k i h.1 l)
    (eq-or-lt_of_le (le-pred_of_lt below))

-- Renaming by the first n words of a list: an input becomes the label at its place, another wire is numbered on.
pub renamed_input : (ws : List ℕ) (n next w : ℕ) → n ≤ length ws → w < n → get_or ws w 0 ≡ rename (take n ws) next w
renamed_input ws n next w h below =
    sym (
    rename_input (take n ws) next w (omega (arith, length-take-le n ws h)) ∙ get_or-take n ws w 0 below
    )

pub renamed_later : (ws : List ℕ) (n next w : ℕ)
    → n ≤ length ws
    → n ≤ w
    → next + (w - n) ≡ rename (take n ws) next w
renamed_later ws n next w h from =
    sym (
    rename_later (take n ws) next w (omega (arith, length-take-le n ws h))
    ∙ ap (λ j. next + (w - j)) (length-take-le n ws h)
    )

-- A renamed wire is a 16-bit number.
pub renamed_below : (ks : List ℕ) (next m w : ℕ)
    → AllBelow 65536 ks
    → next + m ≤ no_wire
    → w < m
    → rename ks next w < 65536
renamed_below [] next m w h room below = omega arith
renamed_below (ℓ ∷ ℓs) next m zero h room below = h.0
renamed_below (ℓ ∷ ℓs) next m (suc w) h room below = renamed_below ℓs next m w h.1 room (omega arith)

pub low_words_lem : (a b c d : ℕ)
    → a < 65536
    → b < 65536
    → c < 65536
    → d < 65536
    → low_words (quadword a b c d) ≡ quadword a b c d
low_words_lem a b c d ha hb hc hd =
    let ea : a % 65536 ≡ a = omega arith in
    let eb : b % 65536 ≡ b = omega arith in
    let ec : c % 65536 ≡ c = omega arith in
    let ed : d % 65536 ≡ d = omega arith in
    rw (ea, eb, ec, ed)

slot_low : (n : ℕ) (ws : List ℕ) (k : ℕ) → AllBelow 65536 ws → slot_of (n on ws) k < 65536
slot_low n [] k h = omega arith
slot_low n (w ∷ ws) zero h = h.0
slot_low n (w ∷ ws) (suc k) h = slot_low n ws k h.1

all_renamed : (ks : List ℕ) (next m : ℕ) (ws : List ℕ)
    → AllBelow 65536 ks
    → next + m ≤ no_wire
    → AllBelow m ws
    → AllBelow 65536 (map (rename ks next) ws)
all_renamed ks next m [] h room below = tt
all_renamed ks next m (w ∷ ws) h room below =
    (renamed_below ks next m w h room below.0, all_renamed ks next m ws h room below.1)

pub gate_words_low : (n : ℕ) (ws : List ℕ) → n < 65536 → AllBelow 65536 ws → low_words (gate_words (n on ws)) ≡ gate_words (n on ws)
gate_words_low n ws hn h =
    low_words_lem n (slot_of (n on ws) 0) (slot_of (n on ws) 1) (slot_of (n on ws) 2) hn (slot_low n ws 0 h) (slot_low n ws 1 h)
    (slot_low n ws 2 h)

-- The quadword of a renamed gate has 16-bit words.
pub renamed_words_low : (ks : List ℕ) (next m : ℕ) (r : Quadword)
    → word_in r 0 < 65536
    → AllBelow 65536 ks
    → next + m ≤ no_wire
    → AllBelow m (wires_of (gate_of r))
    → low_words (gate_words (rename_gate ks next (gate_of r))) ≡ gate_words (rename_gate ks next (gate_of r))
renamed_words_low ks next m (quadword n u v w) hn h room below =
    gate_words_low n (map (rename ks next) (take (wires_in n) (u ∷ v ∷ w ∷ []))) hn
    (all_renamed ks next m (take (wires_in n) (u ∷ v ∷ w ∷ [])) h room below)

-- Quadwords that have been written so far: so many quadwords from `to` on are made of those from `from` on, as at first, and the
-- others are as at first.
pub record GatesWritten (f : Quadword → Quadword) (rs rs' : List Quadword) (from to done : ℕ) : Type 0 where
  pub made : (i : ℕ) → i < done → quadword_at rs' (to + i) ≡ f (quadword_at rs (from + i))
  pub kept : (i : ℕ) → (i < to) ⊎ (to + done ≤ i) → quadword_at rs' i ≡ quadword_at rs i

pub none_written : (f : Quadword → Quadword) (rs : List Quadword) (from to : ℕ) → GatesWritten f rs rs from to 0
none_written f rs from to = record { made = λ i h. absurd (omega arith); kept = λ i h. refl }

pub one_more_written : (f : Quadword → Quadword) (rs rs' : List Quadword) (from to done : ℕ) (r : Quadword)
    → GatesWritten f rs rs' from to done
    → to + done < length rs'
    → r ≡ f (quadword_at rs (from + done))
    → GatesWritten f rs (set rs' (to + done) r) from to (done + 1)
one_more_written f rs rs' from to done r written inside e =
    record { made = λ i h. made_at i (eq-or-lt_of_le {n = i} {m = done} (omega arith)); kept = λ i h. kept_at i h }
  where
    made_at : (i : ℕ) → (i ≡ done) ⊎ (i < done) → quadword_at (set rs' (to + done) r) (to + i) ≡ f (quadword_at rs (from + i))
    made_at i (inl same) =
        rw same (get_or-set_same rs' (to + done) r (quadword 0 0 0 0) inside ∙ e)
    made_at i (inr less) =
        get_or-set_other rs' (to + done) (to + i) r (quadword 0 0 0 0) (omega arith) ∙ written.made i less

    kept_at : (i : ℕ) → (i < to) ⊎ (to + (done + 1) ≤ i) → quadword_at (set rs' (to + done) r) i ≡ quadword_at rs i
    kept_at i (inl h) = get_or-set_other rs' (to + done) i r (quadword 0 0 0 0) (omega arith) ∙ written.kept i (inl h)
    kept_at i (inr h) =
        get_or-set_other rs' (to + done) i r (quadword 0 0 0 0) (omega arith) ∙ written.kept i (inr (omega arith))

-- The gates of the quadwords written.
pub written_gates : (f : Quadword → Quadword) (g : Gate → Gate) (rs rs' : List Quadword) (from to count : ℕ)
    → ((r : Quadword) → gate_of (f r) ≡ g (gate_of r))
    → ((i : ℕ) → i < count → quadword_at rs' (to + i) ≡ f (quadword_at rs (from + i)))
    → gates_in rs' to count ≡ map g (gates_in rs from count)
written_gates f g rs rs' from to zero each made = refl
written_gates f g rs rs' from to (suc k) each made =
    ap₂ (λ x xs. x ∷ xs) (ap gate_of (made k (omega arith)) ∙ each (quadword_at rs (from + k)))
    (written_gates f g rs rs' from to k each (λ i h. made i (omega arith)))

-- The words of a buffer are 16-bit numbers, if the bytes are below 256.
pub words_below : (m : List ℕ) → ((i : ℕ) → get_or m i 0 < 256) → AllBelow 65536 (words m)
words_below [] h = tt
words_below (a ∷ []) h = tt
words_below (a ∷ b ∷ m) h = (omega (arith, h 0, h 1), words_below m (λ j. h (suc (suc j))))

-- One more gate is copied.
pub one_more_copied : (rs rs' rs'' : List Quadword) (ws : List ℕ) (from count to n next m i : ℕ)
    → ((j : ℕ) → word_in (quadword_at rs j) 0 < 65536)
    → AllBelow 65536 ws
    → CopyFits rs from count to (length ws) n next m
    → GatesWritten (renamed_words (take n ws) next) rs rs' from to i
    → length rs' ≡ length rs
    → i < count
    → rs'' ≡ set rs' (to + i) (low_words (renamed_words (take n ws) next (quadword_at rs' (from + i))))
    → GatesWritten (renamed_words (take n ws) next) rs rs'' from to (i + 1)
one_more_copied rs rs' rs'' ws from count to n next m i low_numbers low_labels fits written long below e =
    let ks = take n ws in
    let same : quadword_at rs' (from + i) ≡ quadword_at rs (from + i)
    = written.kept (from + i) (inr (omega (arith, fits.apart))) in
    let made : low_words (renamed_words ks next (quadword_at rs' (from + i))) ≡ renamed_words ks next (quadword_at rs (from + i))
    = ap (λ r. low_words (renamed_words ks next r)) same
    ∙ renamed_words_low ks next m (quadword_at rs (from + i)) (low_numbers (from + i)) (all_below_take 65536 n ws low_labels)
    fits.room (wires_below_at m rs from count i fits.below below) in
    subst (λ l. GatesWritten (renamed_words ks next) rs l from to (i + 1)) (sym e)
    (one_more_written (renamed_words ks next) rs rs' from to i (low_words (renamed_words ks next (quadword_at rs' (from + i)))) written
    (omega (arith, fits.inside, fits.apart)) made)

-- All gates are copied.
pub all_copied : (rs rs' : List Quadword) (ks : List ℕ) (from count to next : ℕ)
    → GatesWritten (renamed_words ks next) rs rs' from to count
    → GatesCopied rs rs' from count to ks next
all_copied rs rs' ks from count to next written =
    record {
      copied =
          written_gates (renamed_words ks next) (rename_gate ks next) rs rs' from to count
          (read_back_renamed ks next)
          written.made;
      rows = written.made;
      kept = written.kept;
    }

-- Words whose bytes agree are the same, and so are quadwords.
word_same : (m m' : List ℕ) (i j : ℕ)
    → i < length m / 2
    → j < length m' / 2
    → get_or m' (2 * j) 0 ≡ get_or m (2 * i) 0
    → get_or m' (2 * j + 1) 0 ≡ get_or m (2 * i + 1) 0
    → get_or (words m') j 0 ≡ get_or (words m) i 0
word_same m m' i j hi hj low high =
    word_at_lem m' j hj ∙ ap₂ (λ a b. a + 256 * b) low high ∙ sym (word_at_lem m i hi)

quadword_same : (m m' : List ℕ) (i j : ℕ)
    → i < length m / 8
    → j < length m' / 8
    → ((k : ℕ) → k < 8 → get_or m' (8 * j + k) 0 ≡ get_or m (8 * i + k) 0)
    → quadword_at (quadwords_in m') j ≡ quadword_at (quadwords_in m) i
quadword_same m m' i j hi hj same =
    let e0 : get_or (words m') (4 * j) 0 ≡ get_or (words m) (4 * i) 0 = word (4 * i) (4 * j) 0 (omega arith) (omega arith) (omega arith) in
    let e1 : get_or (words m') (4 * j + 1) 0 ≡ get_or (words m) (4 * i + 1) 0
    = word (4 * i + 1) (4 * j + 1) 1 (omega arith) (omega arith) (omega arith) in
    let e2 : get_or (words m') (4 * j + 2) 0 ≡ get_or (words m) (4 * i + 2) 0
    = word (4 * i + 2) (4 * j + 2) 2 (omega arith) (omega arith) (omega arith) in
    let e3 : get_or (words m') (4 * j + 3) 0 ≡ get_or (words m) (4 * i + 3) 0
    = word (4 * i + 3) (4 * j + 3) 3 (omega arith) (omega arith) (omega arith) in
    quadword_of_words (words m') j (omega (arith, length_words m'))
    ∙ rw (e0, e1, e2, e3) (sym (quadword_of_words (words m) i (omega (arith, length_words m))))
  where
    byte : (a b k : ℕ) → a ≡ 8 * i + k → b ≡ 8 * j + k → k < 8 → get_or m' b 0 ≡ get_or m a 0
    byte a b k ea eb below = rw (ea, eb) (same k below)

    word : (a b k : ℕ) → a ≡ 4 * i + k → b ≡ 4 * j + k → k < 4 → get_or (words m') b 0 ≡ get_or (words m) a 0
    word a b k ea eb below =
        word_same m m' a b (omega arith) (omega arith)
        (byte (2 * a) (2 * b) (2 * k) (omega arith) (omega arith) (omega arith))
        (byte (2 * a + 1) (2 * b + 1) (2 * k + 1) (omega arith) (omega arith) (omega arith))

-- All gates are moved, where their bytes are.
pub all_moved : (m m' : List ℕ) (from count to size : ℕ)
    → length m' ≡ length m
    → from + count ≤ length m / 8
    → to + count ≤ length m / 8
    → size ≡ 8 * count
    → CopiedTo m m' (8 * from) (8 * to) size
    → SameBelow m m' (8 * to)
    → SameFrom m m' (8 * to + size)
    → GatesMoved (quadwords_in m) (quadwords_in m') from count to
all_moved m m' from count to size long inside room many copied before behind =
    record { moved = gates_same (quadwords_in m) (quadwords_in m') from to count rows; rows = rows; kept = kept }
  where
    rows : (i : ℕ) → i < count → quadword_at (quadwords_in m') (to + i) ≡ quadword_at (quadwords_in m) (from + i)
    rows i below =
        quadword_same m m' (from + i) (to + i) (omega arith) (omega arith)
        (λ k h. copied (8 * (to + i) + k) 0 (omega arith) (omega arith) ∙ ap (λ j. get_or m j 0) (omega arith))

    kept : (i : ℕ) → (i < to) ⊎ (to + count ≤ i) → quadword_at (quadwords_in m') i ≡ quadword_at (quadwords_in m) i
    kept i (inl h) = quadword_same m m' i i (omega arith) (omega arith) (λ k h'. before (8 * i + k) 0 (omega arith))
    kept i (inr h) =
        elim (dec_lt i (length m / 8)) [
          | yes inside ↦ quadword_same m m' i i inside (omega arith) (λ k h'. behind (8 * i + k) 0 (omega arith))
          | no past ↦ (
              quadword_past (words m') i (omega (arith, length_words m'))
              ∙ sym (quadword_past (words m) i (omega (arith, length_words m)))
              )
        ]

-- The quadword of a gate on labels.
labels_words : (n : ℕ) (ws : List ℕ) (a b c : ℕ)
    → a ≡ get_or ws 0 no_wire
    → b ≡ get_or ws 1 no_wire
    → c ≡ get_or ws 2 no_wire
    → a < 65536
    → b < 65536
    → c < 65536
    → low_words (quadword n a b c) ≡ gate_words ((n % 65536) on ws)
labels_words n ws a b c ea eb ec ha hb hc =
    let la : a % 65536 ≡ get_or ws 0 no_wire = omega arith in
    let lb : b % 65536 ≡ get_or ws 1 no_wire = omega arith in
    let lc : c % 65536 ≡ get_or ws 2 no_wire = omega arith in
    rw (la, lb, lc)

-- The quadword of a renamed gate.
slots_words : (ks : List ℕ) (next : ℕ) (r : Quadword) (n a b c : ℕ)
    → n ≡ word_in r 0
    → a ≡ slot_of (rename_gate ks next (gate_of r)) 0
    → b ≡ slot_of (rename_gate ks next (gate_of r)) 1
    → c ≡ slot_of (rename_gate ks next (gate_of r)) 2
    → quadword n a b c ≡ renamed_words ks next r
slots_words ks next (quadword m u v w) n a b c en ea eb ec = rw (en, ea, eb, ec)

-- What is left where a quadword is put that is a gate on labels, or a renamed gate.
pub labels_put : (rs rs' : List Quadword) (at n wide : ℕ) (ws : List ℕ) (m a b c : ℕ)
    → rs' ≡ set rs at (low_words (quadword n a b c))
    → wide ≡ m
    → (a ≡ get_or (take wide ws) 0 no_wire) × (a < 65536)
    → (b ≡ get_or (take wide ws) 1 no_wire) × (b < 65536)
    → (c ≡ get_or (take wide ws) 2 no_wire) × (c < 65536)
    → rs' ≡ set rs at (gate_words ((n % 65536) on take m ws))
labels_put rs rs' at n wide ws m a b c put e ha hb hc =
    put
    ∙ ap (set rs at) (
    labels_words n (take wide ws) a b c ha.0 hb.0 hc.0 ha.1 hb.1 hc.1
    ∙ ap (λ j. gate_words ((n % 65536) on take j ws)) e
    )

pub gate_copied : (rs rs' : List Quadword) (at next : ℕ) (ks : List ℕ) (r : Quadword) (n a b c : ℕ)
    → rs' ≡ set rs at (low_words (quadword n a b c))
    → n ≡ word_in r 0
    → a ≡ slot_of (rename_gate ks next (gate_of r)) 0
    → b ≡ slot_of (rename_gate ks next (gate_of r)) 1
    → c ≡ slot_of (rename_gate ks next (gate_of r)) 2
    → rs' ≡ set rs at (low_words (renamed_words ks next r))
gate_copied rs rs' at next ks r n a b c put en ea eb ec =
    put ∙ ap (λ x. set rs at (low_words x)) (slots_words ks next r n a b c en ea eb ec)
