-- Laws of specs/Load.antt.
use Rattle.std.specs.Prelude.{ℕ, zero, suc, ◌+◌, ◌*◌, ◌-◌, ◌≤◌, ◌<◌, ◌≡◌, refl, List, ◌∷◌, ◌++◌, length, get_or}
use Rattle.std.proofs.Common.{arith, sym, ◌∙◌, ap, ap₂, subst, subst₂, get_or-append-add, ne_eqb}
use Rattle.std.proofs.Math.Decide.{dec_le}
use Rattle.std.proofs.Math.ListN.{get_or-append}
use Rattle.rules.specs.Kinds.{reusable_kind, unit_kind}
use Rattle.rules.specs.Types.{Wire, Bit, Qubit, Ty, wire, ◌⊗◌, ◌⊸◌, !◌, Circ, copyable, entries, most_entries, wire_code}
use Rattle.rules.specs.Types.{type_codes, unit}
use Rattle.rules.specs.Parts.{parts_of_kind}
use Rattle.rules.specs.GateCodes.{code_at}
use Rattle.rules.proofs.Laws.TypeCodes.{type_codes_entries, entries_positive}
use Rattle.check_types.specs.Cells.{marked, cell_size, copyable_from, Denotes, Agree, Room, Made, made_pair, made_function}
use Rattle.check_types.specs.Cells.{made_circuit}
use Rattle.check_types.proofs.Laws.Cells.{cell_of, agree_refl, agree_less, agree_trans, denotes_kept, made_entries}
use Rattle.check_types.proofs.Laws.Cells.{made_copyable}
use Rattle.check_types.specs.NewCell.{with_cell}
use Rattle.check_types.proofs.Laws.NewCell.{length_with_cell, word_above_cell, agree_with_cell, two_parts_written}
use Rattle.check_types.proofs.Laws.NewCell.{one_part_written, wire_written, unit_written}
use Rattle.check_types.specs.Load.{pick, first_behind, second_behind, size_with, entry_size, entry_word, load_entry, load_codes}
use Rattle.check_types.specs.Load.{codes_of, TypesLoaded}

-- The codes f have the type A in preorder at position p.
pub data CodesAt (f : ℕ → ℕ) : ℕ → Ty → Type 0 where
  codes_wire : {p : ℕ} {α : Wire} → f p ≡ wire_code α → CodesAt f p (wire α)
  codes_unit : {p : ℕ} → f p ≡ unit_kind → CodesAt f p unit
  codes_one : {p : ℕ} {A : Ty} → f p ≡ reusable_kind → CodesAt f (suc p) A → CodesAt f p (! A)
  codes_two : {p k : ℕ} {A B C : Ty}
      → Made k A B C → f p ≡ k → CodesAt f (suc p) A → CodesAt f (suc p + entries A) B
      → CodesAt f p C

-- The size of an entry, by the number of its parts.
pub size_of_leaf : (w : List ℕ) (n kind : ℕ) → parts_of_kind kind ≡ 0 → 1 ≡ entry_size w n kind
unfolding entry_size
size_of_leaf w n kind none =
    ap (λ p. size_with p (cell_size w (first_behind n)) (cell_size w (second_behind w n))) (sym none)

pub size_of_one : (w : List ℕ) (n kind : ℕ) → parts_of_kind kind ≡ 1 → 1 + cell_size w (first_behind n) ≡ entry_size w n kind
unfolding entry_size
size_of_one w n kind one =
    ap (λ p. size_with p (cell_size w (first_behind n)) (cell_size w (second_behind w n))) (sym one)

pub size_of_two : (w : List ℕ) (n kind : ℕ) → (parts_of_kind kind ≡ 0 → ⊥) → (parts_of_kind kind ≡ 1 → ⊥)
    → 1 + cell_size w (first_behind n) + cell_size w (second_behind w n) ≡ entry_size w n kind
unfolding entry_size
size_of_two w n kind some more =
    let s = cell_size w (first_behind n) in
    let t = cell_size w (second_behind w n) in
    ap₂ (λ b c. pick b 1 (pick c (1 + s) (1 + s + t)))
    (sym (ne_eqb (parts_of_kind kind) 0 some))
    (sym (ne_eqb (parts_of_kind kind) 1 more))

-- A cell with these parts and this fourth word, however they were computed, is the entry loaded.
pub entry_loaded : (w w' : List ℕ) (n kind first second size word t : ℕ)
    → first ≡ n - 1
    → t ≡ cell_size w first
    → second ≡ first - t
    → size ≡ entry_size w n kind
    → word ≡ marked (copyable_from w kind first second) size
    → w' ≡ with_cell w n kind first second word
    → w' ≡ load_entry w n kind
unfolding load_entry
entry_loaded w w' n kind first second size word t f e g s m r =
    let second_cell : second ≡ second_behind w n = g ∙ ap₂ (λ i j. i - j) f (e ∙ ap (cell_size w) f) in
    r
    ∙ ap (λ z. with_cell w n kind first second z) (m ∙ ap (marked (copyable_from w kind first second)) s)
    ∙ ap₂ (λ i j. with_cell w n kind i j (marked (copyable_from w kind i j) (entry_size w n kind))) f second_cell

-- What loading one entry keeps.
pub length_load_entry : (w : List ℕ) (n kind : ℕ) → length (load_entry w n kind) ≡ length w
unfolding load_entry
length_load_entry w n kind = length_with_cell w n kind (first_behind n) (second_behind w n) (entry_word w n kind)

pub agree_load_entry : (w : List ℕ) (n kind : ℕ) → Agree w (load_entry w n kind) n
unfolding load_entry
agree_load_entry w n kind = agree_with_cell w n kind (first_behind n) (second_behind w n) (entry_word w n kind)

pub above_load_entry : (w : List ℕ) (n kind k : ℕ) → 4 * n + 4 ≤ k → get_or (load_entry w n kind) k 0 ≡ get_or w k 0
unfolding load_entry
above_load_entry w n kind k h =
    word_above_cell w n kind (first_behind n) (second_behind w n) (entry_word w n kind) k h

-- The entry that was loaded, by the number of its parts.
pub entry_wire : (w : List ℕ) (n : ℕ) (α : Wire) → 4 * n + 4 ≤ length w → Denotes (load_entry w n (wire_code α)) (n + 1) n (wire α)
unfolding load_entry entry_size parts_of_kind
entry_wire w n Bit h = wire_written w n (first_behind n) (second_behind w n) Bit h
entry_wire w n Qubit h = wire_written w n (first_behind n) (second_behind w n) Qubit h

pub entry_unit : (w : List ℕ) (n : ℕ) → 4 * n + 4 ≤ length w → Denotes (load_entry w n unit_kind) (n + 1) n unit
unfolding load_entry entry_size parts_of_kind
entry_unit w n h = unit_written w n (first_behind n) (second_behind w n) h

entry_one : (w : List ℕ) (n : ℕ) {A : Ty} → Room w n → Denotes w n (n - 1) A → entries (! A) ≤ most_entries
    → Denotes (load_entry w n 4) (n + 1) n (! A)
unfolding load_entry entry_size parts_of_kind
entry_one w n room d h =
    let s = (cell_of d).size in
    one_part_written w n (first_behind n) (second_behind w n) (entry_word w n 4) room d (omega arith) h

two_words : (w : List ℕ) (n a b : ℕ) {k : ℕ} {A B C : Ty}
    → Made k A B C → Denotes w n a A → Denotes w n b B
    → marked (copyable_from w k a b) (1 + cell_size w a + cell_size w b) ≡ marked (copyable C) (entries C)
two_words w n a b m d e =
    ap₂ marked (made_copyable m d e) (omega (arith, (cell_of d).size, (cell_of e).size, made_entries m))

entry_made : (w : List ℕ) (n : ℕ) {k : ℕ} {A B C : Ty}
    → Made k A B C → Room w n → Denotes w n (first_behind n) A → Denotes w n (second_behind w n) B
    → entries C ≤ most_entries
    → Denotes (load_entry w n k) (n + 1) n C
unfolding load_entry entry_size parts_of_kind
entry_made w n made_pair room d e h =
    let a = first_behind n in
    let b = second_behind w n in
    two_parts_written w n 2 a b (entry_word w n 2) made_pair room d e (two_words w n a b made_pair d e) h
entry_made w n made_function room d e h =
    let a = first_behind n in
    let b = second_behind w n in
    two_parts_written w n 3 a b (entry_word w n 3) made_function room d e (two_words w n a b made_function d e) h
entry_made w n made_circuit room d e h =
    let a = first_behind n in
    let b = second_behind w n in
    two_parts_written w n 5 a b (entry_word w n 5) made_circuit room d e (two_words w n a b made_circuit d e) h

entry_two : (w : List ℕ) (n : ℕ) {k : ℕ} {A B C : Ty}
    → Made k A B C → Room w n → Denotes w n (n - 1) A → Denotes w n (n - 1 - entries A) B → entries C ≤ most_entries
    → Denotes (load_entry w n k) (n + 1) n C
entry_two w n {B = B} m room d e h =
    entry_made w n m room d (subst (λ j. Denotes w n (first_behind n - j) B) (sym (cell_of d).size) e) h

-- Loading P codes one by one: the next one, and all of them.
pub load_next : (w : List ℕ) (n : ℕ) (f : ℕ → ℕ) (P k : ℕ) → k < P
    → load_entry (load_codes w n f (P - k) k) (n + k) (f (P - 1 - k)) ≡ load_codes w n f (P - (k + 1)) (k + 1)
unfolding load_codes
load_next w n f P k h =
    let before : P - k ≡ suc (P - suc k) = omega arith in
    let place : P - 1 - k ≡ P - suc k = omega arith in
    let count : k + 1 ≡ suc k = omega arith in
    ap₂ (λ i j. load_entry (load_codes w n f i k) (n + k) (f j)) before place
    ∙ sym (ap (λ i. load_codes w n f (P - i) i) count)

pub load_none : (w : List ℕ) (n : ℕ) (f : ℕ → ℕ) (p : ℕ) → w ≡ load_codes w n f p 0
unfolding load_codes
load_none w n f p = refl

pub load_all : (w : List ℕ) (n : ℕ) (f : ℕ → ℕ) (P k : ℕ) → k ≡ P → load_codes w n f (P - k) k ≡ load_codes w n f 0 P
load_all w n f P k e =
    let none_left : P - k ≡ 0 = omega arith in
    ap₂ (λ i j. load_codes w n f i j) none_left e

-- What loading a string of codes keeps.
pub length_load_codes : (w : List ℕ) (n : ℕ) (f : ℕ → ℕ) (p k : ℕ) → length (load_codes w n f p k) ≡ length w
unfolding load_codes
length_load_codes w n f p zero = refl
length_load_codes w n f p (suc k) =
    length_load_entry (load_codes w n f (suc p) k) (n + k) (f p) ∙ length_load_codes w n f (suc p) k

pub agree_load_codes : (w : List ℕ) (n : ℕ) (f : ℕ → ℕ) (p k : ℕ) → Agree w (load_codes w n f p k) n
unfolding load_codes
agree_load_codes w n f p zero = agree_refl w n
agree_load_codes w n f p (suc k) =
    agree_trans
    (agree_load_codes w n f (suc p) k)
    (agree_less n (omega arith) (agree_load_entry (load_codes w n f (suc p) k) (n + k) (f p)))

pub above_load_codes : (w : List ℕ) (n : ℕ) (f : ℕ → ℕ) (p k j : ℕ)
    → 4 * (n + k) ≤ j
    → get_or (load_codes w n f p k) j 0 ≡ get_or w j 0
unfolding load_codes
above_load_codes w n f p zero j h = refl
above_load_codes w n f p (suc k) j h =
    above_load_entry (load_codes w n f (suc p) k) (n + k) (f p) j (omega arith)
    ∙ above_load_codes w n f (suc p) k j (omega arith)

-- Every type that stands at a position of the k codes from p on, and ends inside them, is the cell of that position.
abbrev pub CodesDenote : List ℕ → ℕ → (ℕ → ℕ) → ℕ → ℕ → Type 0
CodesDenote w n f p k =
    (q : ℕ) (A : Ty)
    → CodesAt f q A
    → p ≤ q
    → q + entries A ≤ p + k
    → entries A ≤ most_entries
    → Denotes w (n + k) (n + (p + k - 1 - q)) A

module _ (w : List ℕ) (n : ℕ) (f : ℕ → ℕ) (p k : ℕ)
    (fits : n + suc k ≤ 65536) (room : 4 * (n + suc k) ≤ length w) (behind : CodesDenote w n f (suc p) k) where
  -- The entry at p, which is loaded as cell n + k, behind which everything is loaded.
  first_entry : (A : Ty) → CodesAt f p A → entries A ≤ suc k → entries A ≤ most_entries
      → Denotes (load_entry w (n + k) (f p)) (n + k + 1) (n + k) A
  first_entry A (codes_wire {α = α} e) h b =
      subst
      (λ c. Denotes (load_entry w (n + k) c) (n + k + 1) (n + k) (wire α))
      (sym e)
      (entry_wire w (n + k) α (omega arith))
  first_entry A (codes_unit e) h b =
      subst
      (λ c. Denotes (load_entry w (n + k) c) (n + k + 1) (n + k) unit)
      (sym e)
      (entry_unit w (n + k) (omega arith))
  first_entry A (codes_one {A = B} e s) h b =
      let d : Denotes w (n + k) (n + k - 1) B
      = subst (λ j. Denotes w (n + k) j B) (omega (arith, entries_positive B))
      (behind (suc p) B s (omega arith) (omega arith) (omega arith)) in
      subst
      (λ c. Denotes (load_entry w (n + k) c) (n + k + 1) (n + k) (! B))
      (sym e)
      (entry_one w (n + k) (record { number_fits = omega arith; room_fits = omega arith }) d b)
  first_entry C (codes_two {k = kind} {A = A} {B = B} m e s t) h b =
      let z = made_entries m in
      let d : Denotes w (n + k) (n + k - 1) A
      = subst (λ j. Denotes w (n + k) j A) (omega (arith, entries_positive A))
      (behind (suc p) A s (omega arith) (omega arith) (omega arith)) in
      let d' : Denotes w (n + k) (n + k - 1 - entries A) B
      = subst (λ j. Denotes w (n + k) j B) (omega (arith, entries_positive B))
      (behind (suc p + entries A) B t (omega arith) (omega arith) (omega arith)) in
      subst
      (λ c. Denotes (load_entry w (n + k) c) (n + k + 1) (n + k) C)
      (sym e)
      (entry_two w (n + k) m (record { number_fits = omega arith; room_fits = omega arith }) d d' b)

  one_more : CodesDenote (load_entry w (n + k) (f p)) n f p (suc k)
  one_more q A s h e b = go (dec_le (suc p) q)
    where
      go : Dec (suc p ≤ q) → Denotes (load_entry w (n + k) (f p)) (n + suc k) (n + (p + suc k - 1 - q)) A
      go (yes l) =
          subst
          (λ j. Denotes (load_entry w (n + k) (f p)) (n + suc k) j A)
          (omega arith)
          (denotes_kept (agree_load_entry w (n + k) (f p)) (omega arith) (behind q A s l (omega arith) b))
      go (no l) =
          let same : q ≡ p = omega arith in
          subst₂
          (λ i j. Denotes (load_entry w (n + k) (f p)) i j A)
          (omega arith)
          (omega arith)
          (first_entry A (subst (λ j. CodesAt f j A) same s) (omega arith) b)

pub codes_denote : (w : List ℕ) (n : ℕ) (f : ℕ → ℕ) (p k : ℕ)
    → n + k ≤ 65536
    → 4 * (n + k) ≤ length w
    → CodesDenote (load_codes w n f p k) n f p k
unfolding load_codes
codes_denote w n f p zero fits room = λ q A s h e b. absurd (omega (arith, entries_positive A))
codes_denote w n f p (suc k) fits room =
    one_more
    (load_codes w n f (suc p) k)
    n
    f
    p
    k
    fits
    (omega (arith, length_load_codes w n f (suc p) k))
    (codes_denote w n f (suc p) k (omega arith) (omega arith))

-- What a string of codes that was loaded gives: every type that stands at a position p of P, and ends inside the string, is
-- cell n + (P - 1 - p); the first n cells, and the words behind those of the string, are as they were.
pub record TypesAreCells (w w' : List ℕ) (n : ℕ) (codes : List ℕ) : Type 0 where
  pub denotes : (p : ℕ) (A : Ty)
      → CodesAt (codes_of codes) p A
      → p + entries A ≤ length codes
      → entries A ≤ most_entries
      → Denotes w' (n + length codes) (n + (length codes - 1 - p)) A
  pub agree : Agree w w' n
  pub above : (k : ℕ) → 4 * (n + length codes) ≤ k → get_or w' k 0 ≡ get_or w k 0
  pub length_kept : length w' ≡ length w

pub types_are_cells : (w w' : List ℕ) (n : ℕ) (codes : List ℕ) (r : ℕ)
    → TypesLoaded w w' n codes r
    → n + length codes ≤ 65536
    → 4 * (n + length codes) ≤ length w
    → TypesAreCells w w' n codes
types_are_cells w w' n codes r t fits room =
    subst
    (λ v. TypesAreCells w v n codes)
    (sym t.words_loaded)
    (record {
      denotes = λ p A s h b.
          let e : n + (0 + length codes - 1 - p) ≡ n + (length codes - 1 - p) = omega arith in
          subst
          (λ j. Denotes (load_codes w n (codes_of codes) 0 (length codes)) (n + length codes) j A)
          e
          (codes_denote w n (codes_of codes) 0 (length codes) fits room p A s (omega arith) (omega arith) b);
      agree = agree_load_codes w n (codes_of codes) 0 (length codes);
      above = above_load_codes w n (codes_of codes) 0 (length codes);
      length_kept = length_load_codes w n (codes_of codes) 0 (length codes);
    })

-- A type stands where its codes stand. First: of the codes k, then a of them, then b, the three parts.
module _ (f : ℕ → ℕ) (p k a b : ℕ) (xs ys : List ℕ) (l : length xs ≡ a)
    (h : (i : ℕ) → i < 1 + (a + b) → f (p + i) ≡ code_at (k ∷ (xs ++ ys)) i) where
  head_code : f p ≡ k
  head_code = let e : p ≡ p + 0 = omega arith in ap f e ∙ h 0 (omega arith)

  first_codes : (i : ℕ) → i < a → f (suc p + i) ≡ code_at xs i
  first_codes i c =
      let e : suc p + i ≡ p + suc i = omega arith in
      ap f e ∙ h (suc i) (omega arith) ∙ get_or-append xs ys 255 i (omega arith)

  second_codes : (i : ℕ) → i < b → f (suc p + a + i) ≡ code_at ys i
  second_codes i c =
      let e : suc p + a + i ≡ p + suc (length xs + i) = omega arith in
      ap f e ∙ h (suc (length xs + i)) (omega arith) ∙ get_or-append-add xs ys i 255

pub codes_stand : (f : ℕ → ℕ) (p : ℕ) (A : Ty)
    → ((i : ℕ) → i < entries A → f (p + i) ≡ code_at (type_codes A) i)
    → CodesAt f p A
codes_stand f p (wire α) h = let e : p ≡ p + 0 = omega arith in codes_wire (ap f e ∙ h 0 (omega arith))
codes_stand f p unit h = let e : p ≡ p + 0 = omega arith in codes_unit (ap f e ∙ h 0 (omega arith))
codes_stand f p (! A) h =
    let e : p ≡ p + 0 = omega arith in
    codes_one
    (ap f e ∙ h 0 (omega arith))
    (codes_stand f (suc p) A λ i c. let e : suc p + i ≡ p + suc i = omega arith in ap f e ∙ h (suc i) (omega arith))
codes_stand f p (A ⊗ B) h =
    let l = type_codes_entries A in
    codes_two
    made_pair
    (head_code f p 2 (entries A) (entries B) (type_codes A) (type_codes B) l h)
    (codes_stand f (suc p) A (first_codes f p 2 (entries A) (entries B) (type_codes A) (type_codes B) l h))
    (codes_stand f (suc p + entries A) B (second_codes f p 2 (entries A) (entries B) (type_codes A) (type_codes B) l h))
codes_stand f p (A ⊸ B) h =
    let l = type_codes_entries A in
    codes_two
    made_function
    (head_code f p 3 (entries A) (entries B) (type_codes A) (type_codes B) l h)
    (codes_stand f (suc p) A (first_codes f p 3 (entries A) (entries B) (type_codes A) (type_codes B) l h))
    (codes_stand f (suc p + entries A) B (second_codes f p 3 (entries A) (entries B) (type_codes A) (type_codes B) l h))
codes_stand f p (Circ A B) h =
    let l = type_codes_entries A in
    codes_two
    made_circuit
    (head_code f p 5 (entries A) (entries B) (type_codes A) (type_codes B) l h)
    (codes_stand f (suc p) A (first_codes f p 5 (entries A) (entries B) (type_codes A) (type_codes B) l h))
    (codes_stand f (suc p + entries A) B (second_codes f p 5 (entries A) (entries B) (type_codes A) (type_codes B) l h))
