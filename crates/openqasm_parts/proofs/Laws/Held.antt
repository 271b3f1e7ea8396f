-- Laws of the registers: a wire that has been made and that no gate has taken is what its register holds.
use Rattle.std.specs.Prelude.{ℕ, zero, suc, ◌+◌, ◌-◌, ◌≤◌, ◌<◌, ◌≡◌, refl, Bool, List, [], ◌∷◌, ◌++◌, map, T as Truth, eqb, length, get_or, set}
use Rattle.std.proofs.Common.{arith, sym, ◌∙◌, ap, ap₂, subst, length-append, length-set, get_or-append-add, get_or-set_same, get_or-set_other}
use Rattle.std.proofs.Math.Decide.{dec_lt}
use Rattle.std.proofs.lemmas.List.{length-map}
use Rattle.std.proofs.Math.ListN.{get_or-append}
use Rattle.rules.specs.Types.{Wire}
use Rattle.rules.specs.Gates.{is_gate, wires_in}
use Rattle.rules.specs.Terms.{Gate, ◌on◌}
use Rattle.rules.specs.Circuits.{numbers, outputs, taken, one_if, count, OfTypes, wires_end, next_wire, TakesEarlier, next_gate}
use Rattle.rules.proofs.Laws.Wires.{Compared, equal, unequal, compared, one_if_equal, count_append}
use Rattle.rules.proofs.Laws.Wires.{nth_some_within}
use Rattle.rules.proofs.Laws.KnownGates.{KnownGates}
use Rattle.listing.proofs.Laws.Bytes.{mapped_at}
use Rattle.openqasm.specs.Layout.{has_statement, AllWritten, registers_of}
use Rattle.openqasm_parts.specs.Reading.{holding}
use Rattle.openqasm.proofs.Laws.Registers.{known_counted, length_numbers, length_registers, map_below, registers_within}

-- A gate that has a statement takes at least one wire.
pub takes_some : (n : ℕ) → Truth (is_gate n) → Truth (has_statement n) → 1 ≤ wires_in n
unfolding is_gate has_statement wires_in
takes_some zero known written = omega arith
takes_some (suc zero) known written = omega arith
takes_some (suc (suc zero)) known written = omega arith
takes_some (suc (suc (suc zero))) known written = omega arith
takes_some (suc (suc (suc (suc zero)))) known written = omega arith
takes_some (suc (suc (suc (suc (suc zero))))) known written = omega arith
takes_some (suc (suc (suc (suc (suc (suc zero)))))) known written = omega arith
takes_some (suc (suc (suc (suc (suc (suc (suc zero))))))) known written = omega arith
takes_some (suc (suc (suc (suc (suc (suc (suc (suc zero)))))))) known written = omega arith
takes_some (suc (suc (suc (suc (suc (suc (suc (suc (suc zero))))))))) known written = absurd written
takes_some (suc (suc (suc (suc (suc (suc (suc (suc (suc (suc zero)))))))))) known written = absurd written
takes_some (suc (suc (suc (suc (suc (suc (suc (suc (suc (suc (suc zero))))))))))) known written = omega arith
takes_some (suc (suc (suc (suc (suc (suc (suc (suc (suc (suc (suc (suc n)))))))))))) known written = absurd known

-- The number at a place of numbers in a row.
number_at : (n k i : ℕ) → i < k → get_or (numbers n k) i 0 ≡ n + i
number_at n zero i below = absurd (omega arith)
number_at n (suc k) zero below = omega arith
number_at n (suc k) (suc i) below = omega (arith, number_at (suc n) k i (omega arith))

-- The register of a wire.
abbrev pub register_of : List Wire → List Gate → ℕ → ℕ
register_of I gs w = get_or (registers_of I gs) w 0

-- A number stands in a list as often as after a function that can be undone there.
count_undone : (f undo : ℕ → ℕ) (w : ℕ) (xs : List ℕ)
    → undo (f w) ≡ w
    → ((x : ℕ) → 1 ≤ count x xs → undo (f x) ≡ x)
    → count (f w) (map f xs) ≡ count w xs
count_undone f undo w [] this each = refl
count_undone f undo w (x ∷ xs) this each =
    ap₂
    ◌+◌
    (of (eqb (f w) (f x)) (eqb w x) (compared (f w) (f x)) (compared w x))
    (count_undone f undo w xs this (λ y h. each y (omega arith)))
  where
    of : (a b : Bool) → Compared (f w) (f x) a → Compared w x b → one_if a ≡ one_if b
    of _ _ (equal e) (equal e') = refl
    of _ _ (equal e) (unequal g) =
        absurd (g (sym this ∙ ap undo e ∙ each x (omega (arith, one_if_equal x x refl))))
    of _ _ (unequal g) (equal e') = absurd (g (ap f e'))
    of _ _ (unequal g) (unequal g') = refl

length_holding : (held rs : List ℕ) (w : ℕ) → length (holding held rs w) ≡ length held
length_holding held [] w = refl
length_holding held (r ∷ rs) w = length_holding (set held r w) rs (suc w) ∙ length-set held r w

-- Other registers hold what they held.
holds_other : (held rs : List ℕ) (w q : ℕ) → count q rs ≡ 0 → get_or (holding held rs w) q 0 ≡ get_or held q 0
holds_other held [] w q other = refl
holds_other held (r ∷ rs) w q other =
    holds_other (set held r w) rs (suc w) q (omega arith)
    ∙ get_or-set_other held r q w 0 (λ e. omega (arith, one_if_equal q r e))

-- A register that stands there once holds the wire of its place.
holds_new : (held rs : List ℕ) (w i : ℕ)
    → i < length rs
    → get_or rs i 0 < length held
    → count (get_or rs i 0) rs ≤ 1
    → get_or (holding held rs w) (get_or rs i 0) 0 ≡ w + i
holds_new held [] w i below room once = absurd (omega arith)
holds_new held (r ∷ rs) w zero below room once =
    holds_other (set held r w) rs (suc w) r (omega (arith, one_if_equal r r refl))
    ∙ get_or-set_same held r w 0 room
    ∙ omega arith
holds_new held (r ∷ rs) w (suc i) below room once =
    holds_new (set held r w) rs (suc w) i (omega arith) (omega (arith, length-set held r w)) (omega arith) ∙ omega arith

-- Each wire of a list that has types has been made.
pub typed_made : {types : List Wire} {ws : List ℕ} {αs : List Wire}
    → OfTypes types ws αs
    → (w : ℕ)
    → 1 ≤ count w ws
    → w < length types
typed_made wires_end w stands = absurd (omega arith)
typed_made {types} (next_wire {w = x} {ws = ws} e o) w stands = of (eqb w x) (compared w x) stands (typed_made o w)
  where
    of : (b : Bool) → Compared w x b → 1 ≤ one_if b + count w ws → (1 ≤ count w ws → w < length types) → w < length types
    of _ (equal p) h later = omega (arith, nth_some_within types x e)
    of _ (unequal f) h later = later (omega arith)

-- What stands at a place of a list stands in it.
counted_at : (xs : List ℕ) (i : ℕ) → i < length xs → 1 ≤ count (get_or xs i 0) xs
counted_at [] i below = absurd (omega arith)
counted_at (x ∷ xs) zero below = omega (arith, one_if_equal x x refl)
counted_at (x ∷ xs) (suc i) below = omega (arith, counted_at xs i (omega arith))

-- There are so many registers.
module _ (most : ℕ) where
  -- What they hold behind gates: register k holds wire k at first, and what a gate makes is held where what it takes was.
  abbrev pub held_behind : List Wire → List Gate → List ℕ
  held_behind I [] = numbers 0 most
  held_behind I ((n on ws) ∷ gs) = holding (held_behind I gs) (map (register_of I gs) ws) (length (I ++ outputs gs))

  length_held : (I : List Wire) (gs : List Gate) → length (held_behind I gs) ≡ most
  length_held I [] = length_numbers 0 most
  length_held I ((n on ws) ∷ gs) =
      length_holding (held_behind I gs) (map (register_of I gs) ws) (length (I ++ outputs gs)) ∙ length_held I gs

  -- A wire that has been made and that no gate has taken is what its register holds.
  pub held_back : (I : List Wire) (gs : List Gate)
      → 0 < most
      → length I ≤ most
      → KnownGates gs
      → AllWritten gs
      → TakesEarlier I gs
      → ((w : ℕ) → count w (taken gs) ≤ 1)
      → (w : ℕ)
      → w < length (I ++ outputs gs)
      → count w (taken gs) ≡ 0
      → get_or (held_behind I gs) (register_of I gs w) 0 ≡ w
  held_back I [] room few known written earlier once w made left =
      let below : w < length I = omega (arith, length-append I []) in
      let same : register_of I [] w ≡ w = omega (arith, number_at 0 (length I) w below) in
      ap (λ r. get_or (numbers 0 most) r 0) same ∙ omega (arith, number_at 0 most w (omega arith))
  held_back I ((n on ws) ∷ gs) room few known written (next_gate e o earlier) once w made left =
      of
      (held_back I gs room few known.2 written.1 earlier (λ x. omega (arith, once x, count_append x ws (taken gs))))
      (dec_lt w (length (I ++ outputs gs)))
    where
      m : ℕ
      m = length (I ++ outputs gs)

      rs : List ℕ
      rs = registers_of I gs

      held : List ℕ
      held = held_behind I gs

      Back : Type 0
      Back = (x : ℕ) → x < m → count x (taken gs) ≡ 0 → get_or held (get_or rs x 0) 0 ≡ x

      new : List ℕ
      new = map (register_of I gs) ws

      undone : Back → (x : ℕ) → 1 ≤ count x ws → get_or held (get_or rs x 0) 0 ≡ x
      undone back x stands =
          back x (typed_made o x stands) (omega (arith, once x, count_append x ws (taken gs)))

      of : Back → Dec (w < m) → get_or (holding held new m) (get_or (rs ++ new) w 0) 0 ≡ w
      of back (yes old) =
          let gone = count_append w ws (taken gs) in
          let this : get_or held (get_or rs w 0) 0 ≡ w = back w old (omega arith) in
          let apart = count_undone (register_of I gs) (λ r. get_or held r 0) w ws this (undone back) in
          ap
          (λ r. get_or (holding held new m) r 0)
          (get_or-append rs new 0 w (omega (arith, length_registers I gs (known_counted gs known.2) written.1)))
          ∙ holds_other held new m (get_or rs w 0) (omega arith)
          ∙ this
      of back (no fresh) =
          let i = w - m in
          let long = length_registers I gs (known_counted gs known.2) written.1 in
          let more = length_registers I ((n on ws) ∷ gs) (known_counted ((n on ws) ∷ gs) known) written in
          let below : i < length ws = omega (arith, length-append rs new, length-map ws (register_of I gs)) in
          let x = get_or ws i 0 in
          let stands = counted_at ws i below in
          let apart = count_undone (register_of I gs) (λ r. get_or held r 0) x ws (undone back x stands) (undone back) in
          let single : count (register_of I gs x) new ≤ 1 = omega (arith, once x, count_append x ws (taken gs)) in
          let place : w ≡ length rs + i = omega arith in
          ap (λ k. get_or (holding held new m) (get_or (rs ++ new) k 0) 0) place
          ∙ ap (λ r. get_or (holding held new m) r 0) (get_or-append-add rs new i 0)
          ∙ holds_new held new m i
          (omega (arith, length-map ws (register_of I gs)))
          (omega (arith, length_held I gs, map_below most room (register_of I gs) (registers_within most room I few gs) ws i))
          (subst (λ r. count r new ≤ 1) (sym (mapped_at (register_of I gs) 0 ws i below)) single)
          ∙ omega arith
