-- Laws of reading items one after the other.
use Rattle.std.specs.Prelude.{ℕ, zero, suc, ◌+◌, ◌≤◌, ◌≡◌, refl, Bool, true, false, cond, List, T as Truth}
use Rattle.std.proofs.Common.{arith, ◌∙◌, ap}
use Rattle.openqasm_reader.specs.declared.Item.{Item}
use Rattle.openqasm_reader.specs.Items.{item_in}
use Rattle.openqasm_parts.specs.Reading.{Parts, items_read}
use Rattle.openqasm_parts.proofs.Laws.Items.{item, Reads}

module _ (wanted : ℕ → Bool) (with_item : Parts → Item → Parts) where
  -- What every wanted item keeps, all that are read keep.
  pub items_keep : (Kept : Parts → Type 0)
      → ((p : Parts) → Truth (wanted (item_in p.rest).kind) → Kept p → Kept (with_item p (item_in p.rest)))
      → (k : ℕ) (p : Parts)
      → Kept p
      → Kept (items_read wanted with_item k p)
  items_keep Kept each zero p kept = kept
  items_keep Kept each (suc k) p kept = of (wanted i.kind) (each p) (items_keep Kept each k (with_item p i))
    where
      i : Item
      i = item_in p.rest

      of : (b : Bool)
          → (Truth b → Kept p → Kept (with_item p i))
          → (Kept (with_item p i) → Kept (items_read wanted with_item k (with_item p i)))
          → Kept (cond b (items_read wanted with_item k (with_item p i)) p)
      of true this later = later (this tt kept)
      of false this later = kept

  -- A number that every item makes at most one greater is at most k greater behind k items.
  pub items_add : (f : Parts → ℕ)
      → ((p : Parts) (i : Item) → f (with_item p i) ≤ suc (f p))
      → (k : ℕ) (p : Parts)
      → f (items_read wanted with_item k p) ≤ f p + k
  items_add f each zero p = omega arith
  items_add f each (suc k) p = of (wanted i.kind) (items_add f each k (with_item p i))
    where
      i : Item
      i = item_in p.rest

      of : (b : Bool)
          → f (items_read wanted with_item k (with_item p i)) ≤ f (with_item p i) + k
          → f (cond b (items_read wanted with_item k (with_item p i)) p) ≤ f p + suc k
      of true later = omega (arith, each p i)
      of false later = omega arith

  -- A wanted item is read, and then at most k more.
  pub item_next : {kind first second third : ℕ} {rest : List ℕ} (k : ℕ) (p : Parts)
      (reads : Reads p.rest kind first second third rest)
      → wanted kind ≡ true
      → items_read wanted with_item (suc k) p ≡ items_read wanted with_item k (with_item p (item kind first second third reads.bytes))
  item_next {kind} {first} {second} {third} k p reads is =
      let this = item kind first second third reads.bytes in
      ap (λ i. cond (wanted i.kind) (items_read wanted with_item k (with_item p i)) p) reads.item_is
      ∙ ap (λ b. cond b (items_read wanted with_item k (with_item p this)) p) is

  -- Where the next item is not wanted, no more are read.
  pub items_end : (k : ℕ) (p : Parts) → wanted (item_in p.rest).kind ≡ false → items_read wanted with_item k p ≡ p
  items_end zero p not = refl
  items_end (suc k) p not =
      ap (λ b. cond b (items_read wanted with_item k (with_item p (item_in p.rest))) p) not
