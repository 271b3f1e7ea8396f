-- Laws of the registers in lent memory, a word for each.
use Rattle.std.specs.Prelude.{ℕ, suc, ◌+◌, ◌≤◌, ◌<◌, ◌≡◌, true, List, [], ◌∷◌, ◌++◌, T as Truth, length, get_or, set, take, drop}
use Rattle.std.proofs.Common.{arith, sym, ◌∙◌, ap, ap₂, subst, append_assoc, append-nil, drop_of_length-le, drop-cons}
use Rattle.std.proofs.Math.Seq.{set-append_seam}
use Rattle.rules.specs.Gates.{is_gate, wires_in}
use Rattle.rules.specs.Circuits.{numbers}
use Rattle.listing.specs.Listing.{entry_slots}
use Rattle.listing.proofs.Laws.ReadBack.{wires_fit}
use Rattle.openqasm.specs.Layout.{has_statement}
use Rattle.openqasm.proofs.Laws.Registers.{length_numbers, numbers_more}
use Rattle.openqasm_reader.specs.declared.Item.{Item}
use Rattle.openqasm_reader.specs.Items.{item_in}
use Rattle.openqasm_parts.specs.Reading.{holding}
use Rattle.openqasm_parts.proofs.Laws.Items.{item_written}
use Rattle.openqasm_parts.proofs.Laws.Held.{takes_some}

-- The first k registers are numbered.
pub registers_next : (first m : List ℕ) (k : ℕ)
    → m ≡ numbers 0 k ++ drop k first
    → k < length first
    → set m k k ≡ numbers 0 (k + 1) ++ drop (k + 1) first
registers_next first m k is below =
    let next : suc k ≡ k + 1 = omega arith in
    let from_zero : k ≡ 0 + k = omega arith in
    let k' : length (numbers 0 k) ≡ k = length_numbers 0 k in
    ap (λ l. set l k k) (is ∙ ap (λ l. numbers 0 k ++ l) (drop-cons first k 0 below))
    ∙ ap (λ j. set (numbers 0 k ++ (get_or first k 0 ∷ drop (suc k) first)) j k) (sym k')
    ∙ set-append_seam (numbers 0 k) (get_or first k 0) (drop (suc k) first) k
    ∙ sym (append_assoc (numbers 0 k) (k ∷ []) (drop (suc k) first))
    ∙ ap (λ l. l ++ drop (suc k) first) (ap (λ j. numbers 0 k ++ (j ∷ [])) from_zero ∙ sym (numbers_more 0 k))
    ∙ ap (λ j. numbers 0 j ++ drop j first) next

pub registers_end : (first m : List ℕ) (most k : ℕ)
    → m ≡ numbers 0 k ++ drop k first
    → length first ≡ most
    → k ≡ most
    → m ≡ numbers 0 most
registers_end first m most k is long all =
    is
    ∙ ap (λ l. numbers 0 k ++ l) (drop_of_length-le first {i = k} (omega arith))
    ∙ append-nil (numbers 0 k)
    ∙ ap (numbers 0) all

-- A gate that is read takes at least one wire, and no more than an entry has slots.
pub wires_taken_lem : (item : Item) (text : List ℕ)
    → item ≡ item_in text
    → is_gate item.kind ≡ true
    → (1 ≤ wires_in item.kind) × (wires_in item.kind ≤ entry_slots)
wires_taken_lem item text is known =
    let written = subst (λ i. Truth (has_statement i.kind)) (sym is) (item_written text) in
    (takes_some item.kind (subst Truth (sym known) tt) written, wires_fit item.kind)

-- What a gate makes is held where what it takes was.
module _ (count : ℕ) (m : List ℕ) (first second third made : ℕ) where
  abbrev Holds : ℕ → List ℕ → Type 0
  Holds made' m' = (made' ≡ made + count) × (m' ≡ holding m (take count (first ∷ second ∷ third ∷ [])) made)

  module _ (m₁ : List ℕ) (put₁ : m₁ ≡ set m first made) where
    pub holds_one : 1 ≤ count → count < 2 → Holds (made + 1) m₁
    holds_one some one =
        let is : 1 ≡ count = omega arith in
        (omega arith, put₁ ∙ ap (λ k. holding m (take k (first ∷ second ∷ third ∷ [])) made) is)

    module _ (m₂ : List ℕ) (put₂ : m₂ ≡ set m₁ second (made + 1)) where
      two_held : m₂ ≡ set (set m first made) second (suc made)
      two_held =
          let next : made + 1 ≡ suc made = omega arith in
          put₂ ∙ ap₂ (λ l n. set l second n) put₁ next

      pub holds_two : 2 ≤ count → count < 3 → Holds (made + 2) m₂
      holds_two some two =
          let is : 2 ≡ count = omega arith in
          (omega arith, two_held ∙ ap (λ k. holding m (take k (first ∷ second ∷ third ∷ [])) made) is)

      pub holds_three : (m₃ : List ℕ)
          → m₃ ≡ set m₂ third (made + 2)
          → 3 ≤ count
          → count ≤ entry_slots
          → Holds (made + 3) m₃
      holds_three m₃ put₃ some few =
          let is : 3 ≡ count = omega arith in
          let next : made + 2 ≡ suc (suc made) = omega arith in (
            omega arith,
            put₃
                ∙ ap₂ (λ l n. set l third n) two_held next
                ∙ ap (λ k. holding m (take k (first ∷ second ∷ third ∷ [])) made) is,
          )
