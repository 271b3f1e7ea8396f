-- Laws of specs/Items.
use Rattle.std.specs.Prelude.{ℕ, zero, suc, ◌+◌, ◌-◌, ◌*◌, ◌<◌, ◌≡◌, Bool, true, false, cond, List, [], ◌∷◌, eqb, length, get_or, drop}
use Rattle.std.proofs.Common.{arith, sym, ◌∙◌, get_or-drop, drop-drop, ne_eqb}
use Rattle.std.proofs.Math.Path.{ap}
use Rattle.openqasm_reader.specs.Items.{is_digit, digits_in, number_in, ccx_item, kind_of, before, between}
use Rattle.openqasm_reader.specs.Items.{behind, one_number, two_numbers, three_numbers, item_of, item_in}
use Rattle.openqasm_reader.specs.Bounds.{Bounded}
use Rattle.openqasm_reader.specs.declared.Item.{Item}

-- Is the byte behind a place a digit?
pub digit_behind : (s : List ℕ) (at byte : ℕ) (r v : Bool)
    → byte ≡ get_or s (at + 1) 0
    → r ≡ is_digit byte
    → r ≡ v
    → is_digit (get_or (drop at s) 1 0) ≡ v
digit_behind s at byte r v e d h = ap is_digit (get_or-drop at s 1 0 ∙ sym e) ∙ sym d ∙ h

-- A number of two digits, and of one.
module _ (s : List ℕ) (at first : ℕ) (f : first ≡ get_or s at 0 - 48) where
  head : first ≡ get_or (drop at s) 0 0 - 48
  head =
      let here : at + 0 ≡ at = omega arith in
      rw (get_or-drop at s 0 0, here) f

  pub two_digits : (second : ℕ)
      → second ≡ get_or s (at + 1) 0 - 48
      → is_digit (get_or (drop at s) 1 0) ≡ true
      → 10 * first + second ≡ number_in (drop at s)
  two_digits second g d = rw d (omega (arith, head, get_or-drop at s 1 0))

  pub one_digit : is_digit (get_or (drop at s) 1 0) ≡ false → first ≡ number_in (drop at s)
  one_digit d = rw d head

-- A byte behind a place.
pub byte_here : (s : List ℕ) (at i j byte : ℕ) → byte ≡ get_or s j 0 → j ≡ at + i → byte ≡ get_or (drop at s) i 0
byte_here s at i j byte e h = e ∙ ap (λ k. get_or s k 0) h ∙ sym (get_or-drop at s i 0)

-- A byte that begins no item.
pub kind_none : (f s n : ℕ)
    → (f ≡ 104 → ⊥)
    → (f ≡ 120 → ⊥)
    → (f ≡ 122 → ⊥)
    → (f ≡ 115 → ⊥)
    → (f ≡ 116 → ⊥)
    → (f ≡ 99 → ⊥)
    → (f ≡ 109 → ⊥)
    → (f ≡ 105 → ⊥)
    → (f ≡ 113 → ⊥)
    → (f ≡ 32 → ⊥)
    → kind_of f s n ≡ 255
unfolding kind_of
kind_none f s n h x z p t c m i q o =
    simp (
      ne_eqb f 104 h,
      ne_eqb f 120 x,
      ne_eqb f 122 z,
      ne_eqb f 115 p,
      ne_eqb f 116 t,
      ne_eqb f 99 c,
      ne_eqb f 109 m,
      ne_eqb f 105 i,
      ne_eqb f 113 q,
      ne_eqb f 32 o,
    )

-- The name of a gate behind an `if`.
pub name_here : (s : List ℕ) (at name digits : ℕ)
    → digits ≡ digits_in (drop (at + 4) s)
    → name ≡ get_or s (at + 9 + digits) 0
    → name ≡ get_or (drop at s) (9 + digits_in (drop 4 (drop at s))) 0
name_here s at name digits d n =
    let d' : digits ≡ digits_in (drop 4 (drop at s)) = d ∙ ap digits_in (sym (drop-drop 4 at s)) in
    byte_here s at (9 + digits_in (drop 4 (drop at s))) (at + 9 + digits) name n (omega arith)

-- A place where a byte other than 0 stands is inside the text.
pub inside : (s : List ℕ) (at : ℕ) → 0 < get_or s at 0 → at < length s
inside [] at h = omega arith
inside (x ∷ xs) zero h = omega arith
inside (x ∷ xs) (suc at) h = let deeper = inside xs at h in omega arith

-- Where the first number of an item stands, and where the next one stands behind so many digits and bytes.
first_at : (s : List ℕ) (at kind b : ℕ) → b ≡ before kind → drop (before kind) (drop at s) ≡ drop (at + b) s
first_at s at kind b is = drop-drop (before kind) at s ∙ ap (λ k. drop (at + k) s) (sym is)

next_at : (s : List ℕ) (at d g : ℕ) → drop (d + g) (drop at s) ≡ drop (at + d + g) s
next_at s at d g = let sum : at + (d + g) ≡ at + d + g = omega arith in drop-drop (d + g) at s ∙ ap (λ k. drop k s) sum

-- An item with one number, with two and with three.
pub one_here : (s : List ℕ) (at kind b n d e : ℕ)
    → b ≡ before kind
    → n ≡ number_in (drop (at + b) s)
    → d ≡ digits_in (drop (at + b) s)
    → e ≡ behind kind
    → ◌≡◌ {A = Item} (record { kind = kind; first = n; second = 0; third = 0; length = b + d + e }) (one_number kind (drop at s))
one_here s at kind b n d e hb hn hd he = rw (first_at s at kind b hb, ← hb, ← he, ← hd, ← hn)

pub two_here : (s : List ℕ) (at kind b g n d m c e : ℕ)
    → b ≡ before kind
    → g ≡ between kind
    → n ≡ number_in (drop (at + b) s)
    → d ≡ digits_in (drop (at + b) s)
    → m ≡ number_in (drop (at + b + d + g) s)
    → c ≡ digits_in (drop (at + b + d + g) s)
    → e ≡ behind kind
    → ◌≡◌ {A = Item} (record { kind = kind; first = n; second = m; third = 0; length = b + d + g + c + e }) (two_numbers kind (drop at s))
two_here s at kind b g n d m c e hb hg hn hd hm hc he =
    rw (first_at s at kind b hb, ← hb, ← hg, ← he, ← hd, ← hn, next_at s (at + b) d g, ← hm, ← hc)

pub three_here : (s : List ℕ) (at kind b g n d m c o f e : ℕ)
    → b ≡ before kind
    → g ≡ between kind
    → n ≡ number_in (drop (at + b) s)
    → d ≡ digits_in (drop (at + b) s)
    → m ≡ number_in (drop (at + b + d + g) s)
    → c ≡ digits_in (drop (at + b + d + g) s)
    → o ≡ number_in (drop (at + b + d + g + c + g) s)
    → f ≡ digits_in (drop (at + b + d + g + c + g) s)
    → e ≡ behind kind
    → ◌≡◌ {A = Item} (record { kind = kind; first = n; second = m; third = o; length = b + d + g + c + g + f + e })
    (three_numbers kind (drop at s))
three_here s at kind b g n d m c o f e hb hg hn hd hm hc ho hf he =
    rw (
      first_at s at kind b hb,
      ← hb,
      ← hg,
      ← he,
      ← hd,
      ← hn,
      next_at s (at + b) d g,
      ← hm,
      ← hc,
      next_at s (at + b + d + g) c g,
      ← ho,
      ← hf,
    )

-- The item at a place, by the kind that its first byte gives.
abbrev kind_by : ℕ → List ℕ → ℕ
kind_by byte s = kind_of byte (get_or s 1 0) (get_or s (9 + digits_in (drop 4 s)) 0)

abbrev nothing : Item
nothing = record { kind = 255; first = 0; second = 0; third = 0; length = 0 }

abbrev item_by : ℕ → List ℕ → Item
item_by kind s = cond (eqb kind 255) nothing (item_of kind s)

module _ (s : List ℕ) (at byte kind : ℕ) (first : byte ≡ get_or s at 0) (known : kind_by byte (drop at s) ≡ kind) where
  by_kind : item_by kind (drop at s) ≡ item_in (drop at s)
  unfolding item_in
  by_kind =
      let here = byte_here s at 0 at byte first (omega arith) in
      ap (λ k. item_by k (drop at s)) (sym known ∙ ap (λ b. kind_by b (drop at s)) here)

  pub no_item_here : kind ≡ 255 → nothing ≡ item_in (drop at s)
  no_item_here none = ap (λ k. item_by k (drop at s)) (sym none) ∙ by_kind

  module _ (i : Item) (some : eqb kind 255 ≡ false) where
    pub item_one : eqb (between kind) 0 ≡ true
        → (i ≡ one_number kind (drop at s)) × Bounded i
        → (i ≡ item_in (drop at s)) × Bounded i
    item_one one r = (r.0 ∙ sym (simp (some, one)) ∙ by_kind, r.1)

    pub item_two : eqb (between kind) 0 ≡ false
        → eqb kind ccx_item ≡ false
        → (i ≡ two_numbers kind (drop at s)) × Bounded i
        → (i ≡ item_in (drop at s)) × Bounded i
    item_two more two r = (r.0 ∙ sym (simp (some, more, two)) ∙ by_kind, r.1)

    pub item_three : eqb (between kind) 0 ≡ false
        → eqb kind ccx_item ≡ true
        → (i ≡ three_numbers kind (drop at s)) × Bounded i
        → (i ≡ item_in (drop at s)) × Bounded i
    item_three more three r = (r.0 ∙ sym (simp (some, more, three)) ∙ by_kind, r.1)
