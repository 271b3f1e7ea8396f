-- Laws of specs/NewCell.antt.
use Prim.Native.Nat.{ℕ, suc, ◌+◌, ◌*◌, ◌/◌, ◌%◌, ◌≤◌, ◌<◌}
use native.Mathlib.Omega.{arith}
use Rattle.std.proofs.Math.Decide.{dec_lt}
use Rattle.std.specs.Prelude.{◌≡◌, refl, ◌≢◌, Bool, true, false, List, [], ◌∷◌, length, get_or, set, leb}
use Rattle.std.proofs.Common.{sym, ◌∙◌, ap, subst, length-set, get_or-set_same, get_or-set_other, le-leb}
use Rattle.std.proofs.lemmas.Bool.{lt-leb}
use Rattle.words.specs.Words.{words, put_words}
use Rattle.words.proofs.Laws.Words.{put_view, set_within, set_past, length_set_words}
use Rattle.rules.specs.Kinds.{unit_kind}
use Rattle.rules.specs.Types.{Wire, Bit, Qubit, Ty, wire, unit, ◌⊗◌, ◌⊸◌, !◌, Circ, copyable, entries, most_entries}
use Rattle.rules.specs.Types.{wire_code}
use Rattle.check_types.specs.Cells.{copyable_mark, marked, cell_kind, cell_first, cell_second, kind_of, Cell, Agree, Room}
use Rattle.check_types.specs.Cells.{Denotes, unit_cell}
use Rattle.check_types.specs.Cells.{wire_cell, pair_cell, function_cell, reusable_cell, circuit_cell, Made, made_pair}
use Rattle.check_types.specs.Cells.{made_function, made_circuit}
use Rattle.check_types.proofs.Laws.Cells.{cell_of, denotes_kept}
use Rattle.check_types.specs.NewCell.{with_cell}

-- Where the four words of a cell are put, the words are these.
pub cell_put : (m m' : List ℕ) (n kind first second word : ℕ)
    → m' ≡ put_words 4 m n (kind ∷ first ∷ second ∷ word ∷ [])
    → words m' ≡ with_cell (words m) n kind first second word
unfolding with_cell
cell_put m m' n kind first second word e =
    ap words e ∙ put_view 4 m n (kind ∷ first ∷ second ∷ word ∷ []) (omega arith)

-- The four words, one after another.
abbrev with_one : List ℕ → ℕ → ℕ → List ℕ
with_one w n kind = set w (4 * n) (kind % 65536)

abbrev with_two : List ℕ → ℕ → ℕ → ℕ → List ℕ
with_two w n kind first = set (with_one w n kind) (4 * n + 1) (first % 65536)

abbrev with_three : List ℕ → ℕ → ℕ → ℕ → ℕ → List ℕ
with_three w n kind first second = set (with_two w n kind first) (4 * n + 2) (second % 65536)

-- A number of entries and a mark in one word: both are read back.
marked_fits : (c : Bool) (m : ℕ) → m ≤ most_entries → marked c m < 65536
marked_fits true m h = omega arith
marked_fits false m h = omega arith

marked_size : (c : Bool) (m : ℕ) → m ≤ most_entries → marked c m % copyable_mark ≡ m
marked_size true m h = omega arith
marked_size false m h = omega arith

marked_copyable : (c : Bool) (m : ℕ) → m ≤ most_entries → leb copyable_mark (marked c m) ≡ c
marked_copyable true m h = le-leb copyable_mark (m + copyable_mark) (omega arith)
marked_copyable false m h = lt-leb copyable_mark m (omega arith)

module _ (w : List ℕ) (n kind first second word : ℕ) where
  pub length_with_cell : length (with_cell w n kind first second word) ≡ length w
  unfolding with_cell
  length_with_cell = length_set_words 4 w n (kind ∷ first ∷ second ∷ word ∷ [])

  cell_there : n < length w / 4
      → with_cell w n kind first second word ≡ set (with_three w n kind first second) (4 * n + 3) (word % 65536)
  unfolding with_cell
  cell_there h =
      let one : 4 * n + 1 ≡ suc (4 * n) = omega arith in
      let two : 4 * n + 2 ≡ suc (suc (4 * n)) = omega arith in
      let three : 4 * n + 3 ≡ suc (suc (suc (4 * n))) = omega arith in
      rw (three, two, one) (set_within 4 w n (kind ∷ first ∷ second ∷ word ∷ []) h)

  cell_past : length w / 4 ≤ n → with_cell w n kind first second word ≡ w
  unfolding with_cell
  cell_past h = set_past 4 w n (kind ∷ first ∷ second ∷ word ∷ []) h

  -- No word of another quadword changes.
  other_word : (k : ℕ)
      → k ≢ 4 * n
      → k ≢ 4 * n + 1
      → k ≢ 4 * n + 2
      → k ≢ 4 * n + 3
      → get_or (with_cell w n kind first second word) k 0 ≡ get_or w k 0
  other_word k h0 h1 h2 h3 = of (dec_lt n (length w / 4))
    where
      of : Dec (n < length w / 4) → get_or (with_cell w n kind first second word) k 0 ≡ get_or w k 0
      of (yes h) =
          ap (λ l. get_or l k 0) (cell_there h)
          ∙ get_or-set_other (with_three w n kind first second) (4 * n + 3) k (word % 65536) 0 h3
          ∙ get_or-set_other (with_two w n kind first) (4 * n + 2) k (second % 65536) 0 h2
          ∙ get_or-set_other (with_one w n kind) (4 * n + 1) k (first % 65536) 0 h1
          ∙ get_or-set_other w (4 * n) k (kind % 65536) 0 h0
      of (no h) = ap (λ l. get_or l k 0) (cell_past (omega arith))

  pub word_above_cell : (k : ℕ) → 4 * n + 4 ≤ k → get_or (with_cell w n kind first second word) k 0 ≡ get_or w k 0
  word_above_cell k h = other_word k (omega arith) (omega arith) (omega arith) (omega arith)

  -- The first n cells are as they were.
  pub agree_with_cell : Agree w (with_cell w n kind first second word) n
  agree_with_cell =
      record { words_same = λ k h. other_word k (omega arith) (omega arith) (omega arith) (omega arith) }

  -- The quadword that was written.
  module _ (room : 4 * n + 4 ≤ length w) where
    there : with_cell w n kind first second word ≡ set (with_three w n kind first second) (4 * n + 3) (word % 65536)
    there = cell_there (omega arith)

    pub kind_written : kind < 65536 → cell_kind (with_cell w n kind first second word) n ≡ kind
    kind_written h =
        ap (λ l. get_or l (4 * n) 0) there
        ∙ get_or-set_other (with_three w n kind first second) (4 * n + 3) (4 * n) (word % 65536) 0 (omega arith)
        ∙ get_or-set_other (with_two w n kind first) (4 * n + 2) (4 * n) (second % 65536) 0 (omega arith)
        ∙ get_or-set_other (with_one w n kind) (4 * n + 1) (4 * n) (first % 65536) 0 (omega arith)
        ∙ get_or-set_same w (4 * n) (kind % 65536) 0 (omega arith)
        ∙ omega arith

    pub first_written : first < 65536 → cell_first (with_cell w n kind first second word) n ≡ first
    first_written h =
        ap (λ l. get_or l (4 * n + 1) 0) there
        ∙ get_or-set_other (with_three w n kind first second) (4 * n + 3) (4 * n + 1) (word % 65536) 0 (omega arith)
        ∙ get_or-set_other (with_two w n kind first) (4 * n + 2) (4 * n + 1) (second % 65536) 0 (omega arith)
        ∙ get_or-set_same (with_one w n kind) (4 * n + 1) (first % 65536) 0 (simp length-set (omega arith))
        ∙ omega arith

    pub second_written : second < 65536 → cell_second (with_cell w n kind first second word) n ≡ second
    second_written h =
        ap (λ l. get_or l (4 * n + 2) 0) there
        ∙ get_or-set_other (with_three w n kind first second) (4 * n + 3) (4 * n + 2) (word % 65536) 0 (omega arith)
        ∙ get_or-set_same (with_two w n kind first) (4 * n + 2) (second % 65536) 0 (simp length-set (omega arith))
        ∙ omega arith

    word_written : word < 65536 → get_or (with_cell w n kind first second word) (4 * n + 3) 0 ≡ word
    word_written h =
        ap (λ l. get_or l (4 * n + 3) 0) there
        ∙ get_or-set_same (with_three w n kind first second) (4 * n + 3) (word % 65536) 0 (simp length-set (omega arith))
        ∙ omega arith

    -- It is the quadword of a type of this kind.
    cell_written : (A : Ty)
        → kind ≡ kind_of A
        → word ≡ marked (copyable A) (entries A)
        → entries A ≤ most_entries
        → Cell (with_cell w n kind first second word) (n + 1) n A
    cell_written A k s b =
        let fourth : get_or (with_cell w n kind first second word) (4 * n + 3) 0 ≡ marked (copyable A) (entries A)
        = word_written (subst (λ x. x < 65536) (sym s) (marked_fits (copyable A) (entries A) b)) ∙ s in
        record {
          below = omega arith;
          kind = kind_written (kind_fits A k) ∙ k;
          size = ap (λ x. x % copyable_mark) fourth ∙ marked_size (copyable A) (entries A) b;
          may_be_copied = ap (leb copyable_mark) fourth ∙ marked_copyable (copyable A) (entries A) b;
          bounded = b;
        }
      where
        kind_fits : (A : Ty) → kind ≡ kind_of A → kind < 65536
        kind_fits (wire Bit) k = omega arith
        kind_fits (wire Qubit) k = omega arith
        kind_fits unit k = omega arith
        kind_fits (A ⊗ B) k = omega arith
        kind_fits (A ⊸ B) k = omega arith
        kind_fits (! A) k = omega arith
        kind_fits (Circ T U) k = omega arith

  -- A cell that was there before is the first or the second part.
  first_denotes : {A : Ty} → Room w n → Denotes w n first A
      → Denotes (with_cell w n kind first second word) (n + 1) (cell_first (with_cell w n kind first second word) n) A
  first_denotes {A} room d =
      let f : first < n = (cell_of d).below in
      let m : n < 65536 = room.number_fits in
      subst (λ j. Denotes (with_cell w n kind first second word) (n + 1) j A)
      (sym (first_written room.room_fits (omega arith)))
      (denotes_kept agree_with_cell (omega arith) d)

  second_denotes : {A : Ty} → Room w n → Denotes w n second A
      → Denotes (with_cell w n kind first second word) (n + 1) (cell_second (with_cell w n kind first second word) n) A
  second_denotes {A} room d =
      let f : second < n = (cell_of d).below in
      let m : n < 65536 = room.number_fits in
      subst (λ j. Denotes (with_cell w n kind first second word) (n + 1) j A)
      (sym (second_written room.room_fits (omega arith)))
      (denotes_kept agree_with_cell (omega arith) d)

-- The new cell denotes the type of its kind and parts: of two parts, of one, of none.
pub two_parts_written : (w : List ℕ) (n kind first second word : ℕ) {A B C : Ty}
    → Made kind A B C → Room w n → Denotes w n first A → Denotes w n second B
    → word ≡ marked (copyable C) (entries C)
    → entries C ≤ most_entries
    → Denotes (with_cell w n kind first second word) (n + 1) n C
two_parts_written w n kind first second word (made_pair {A = A} {B = B}) room d e s b =
    pair_cell
    (cell_written w n 2 first second word room.room_fits (A ⊗ B) refl s b)
    (first_denotes w n 2 first second word room d)
    (second_denotes w n 2 first second word room e)
two_parts_written w n kind first second word (made_function {A = A} {B = B}) room d e s b =
    function_cell
    (cell_written w n 3 first second word room.room_fits (A ⊸ B) refl s b)
    (first_denotes w n 3 first second word room d)
    (second_denotes w n 3 first second word room e)
two_parts_written w n kind first second word (made_circuit {T = T} {U = U}) room d e s b =
    circuit_cell
    (cell_written w n 5 first second word room.room_fits (Circ T U) refl s b)
    (first_denotes w n 5 first second word room d)
    (second_denotes w n 5 first second word room e)

pub one_part_written : (w : List ℕ) (n first second word : ℕ) {A : Ty}
    → Room w n → Denotes w n first A
    → word ≡ marked true (entries (! A))
    → entries (! A) ≤ most_entries
    → Denotes (with_cell w n 4 first second word) (n + 1) n (! A)
one_part_written w n first second word {A} room d s b =
    reusable_cell
    (cell_written w n 4 first second word room.room_fits (! A) refl s b)
    (first_denotes w n 4 first second word room d)

pub wire_written : (w : List ℕ) (n first second : ℕ) (α : Wire)
    → 4 * n + 4 ≤ length w
    → Denotes (with_cell w n (wire_code α) first second 1) (n + 1) n (wire α)
wire_written w n first second α room =
    wire_cell (cell_written w n (wire_code α) first second 1 room (wire α) refl refl (omega arith))

pub unit_written : (w : List ℕ) (n first second : ℕ)
    → 4 * n + 4 ≤ length w
    → Denotes (with_cell w n unit_kind first second (marked true 1)) (n + 1) n unit
unit_written w n first second room =
    unit_cell (cell_written w n unit_kind first second (marked true 1) room unit refl refl (omega arith))
