-- Laws of specs/Scope.antt.
use Rattle.std.specs.Prelude.{ℕ, zero, suc, ◌+◌, ◌*◌, ◌-◌, ◌≤◌, ◌<◌, ◌≡◌, refl, Bool, true, false, cond, List, [], ◌∷◌, eqb, length, get_or}
use Rattle.std.proofs.Common.{arith, sym, ◌∙◌, subst, eqb-true, eq-eqb, ne_eqb}
use Rattle.std.proofs.Math.Option.{Option, none, some, map, some-ne-none}
use Rattle.std.proofs.lemmas.Bool.{eqb-false}
use Rattle.rules.specs.Types.{Wire, Ty, wire}
use Rattle.rules.specs.Gates.{nth}
use Rattle.check_types.specs.Cells.{Denotes, Agree}
use Rattle.check_types.proofs.Laws.Cells.{cell_of, agree_refl, agree_less, agree_trans, denotes_kept}
use Rattle.check_types.proofs.Laws.NewCell.{length_with_cell, agree_with_cell, kind_written, first_written, second_written}
use Rattle.check_program.specs.Checking.{Binder, ◌under◌}
use Rattle.check_program.specs.Layout.{binding_cell, binding_lifts, binding_uses, held, variable_binding, least_words}
use Rattle.check_program.specs.Layout.{most_binders, most_cells}
use Rattle.rules.specs.Sizes.{most_labels}
use Rattle.rules.proofs.Laws.Wires.{nth_some_within}
use Rattle.check_program.specs.Scope.{type_of, Binding, Loaded, Environment, Kept, pushed}

-- What is held stands in one of the first bindings.
label_below : (L : List Wire) (i : ℕ) (b : Binder) (o : Option Wire)
    → nth L i ≡ o → map (λ α. wire α under 0) o ≡ some b → i < length L
label_below L i b none n e = absurd (some-ne-none b (sym e))
label_below L i b (some α) n e = nth_some_within L i n

pub held_below : (L : List Wire) (Γ : List Binder) (i : ℕ) (b : Binder)
    → length L ≤ most_labels → held L Γ i ≡ some b → i < most_labels + length Γ
held_below L [] i b h e = omega (arith, label_below L i b (nth L i) refl e)
held_below L (x ∷ Γ) i b h e = go (eqb i (most_labels + length Γ)) refl e (λ e. held_below L Γ i b h e)
  where
    go : (t : Bool) → eqb i (most_labels + length Γ) ≡ t → cond t (some x) (held L Γ i) ≡ some b
        → (held L Γ i ≡ some b → i < most_labels + length Γ)
        → i < most_labels + suc (length Γ)
    go true q e below = omega (arith, eqb-true i (most_labels + length Γ) q)
    go false q e below = omega (arith, below e)

-- A variable's binder stands in the variable's binding, and a label in its own.
pub held_variable : (L : List Wire) (Γ : List Binder) (x : ℕ) (b : Binder)
    → nth Γ x ≡ some b → held L Γ (variable_binding (length Γ) x) ≡ some b
held_variable L [] x b e = absurd (some-ne-none b (sym e))
held_variable L (y ∷ Γ) zero b e = rw (eq-eqb (most_labels + (suc (length Γ) - 1)) (most_labels + length Γ) (omega arith)) e
held_variable L (y ∷ Γ) (suc x) b e =
    let below : x < length Γ = nth_some_within Γ x e in
    let same : most_labels + (suc (length Γ) - suc (suc x)) ≡ most_labels + (length Γ - suc x) = omega arith in
    rw (same, ne_eqb (most_labels + (length Γ - suc x)) (most_labels + length Γ) (λ h. omega arith)) (held_variable L Γ x b e)

pub held_label : (L : List Wire) (Γ : List Binder) (ℓ : ℕ) (α : Wire)
    → length L ≤ most_labels → nth L ℓ ≡ some α → held L Γ ℓ ≡ some (wire α under 0)
held_label L [] ℓ α h e = rw e
held_label L (b ∷ Γ) ℓ α h e =
    let below : ℓ < length L = nth_some_within L ℓ e in
    rw (ne_eqb ℓ (most_labels + length Γ) (λ q. omega arith)) (held_label L Γ ℓ α h e)

-- What denotes a type in memory goes on denoting it where the cells agree and there are more of them.
pub loaded_kept : {f w w' : List ℕ} {cells cells' : ℕ}
    → Agree w w' cells → cells ≤ cells' → Loaded f w cells → Loaded f w' cells'
loaded_kept a h l =
    record {
      types = λ p A t. denotes_kept a h (l.types p A t);
      gates =
          record {
            bit = denotes_kept a h l.gates.bit;
            qubit = denotes_kept a h l.gates.qubit;
            unit_type = denotes_kept a h l.gates.unit_type;
            gate = λ g T U t. denotes_kept a h (l.gates.gate g T U t);
          };
    }

pub binding_kept : {w w' : List ℕ} {cells cells' i : ℕ} {b : Binder}
    → Agree w w' cells → cells ≤ cells' → binding_cell w' i ≡ binding_cell w i → binding_lifts w' i ≡ binding_lifts w i
    → Binding w cells i b
    → Binding w' cells' i b
binding_kept {w' = w'} {cells' = cells'} {b = b} a h c l s =
    record {
      denotes = subst (λ j. Denotes w' cells' j (type_of b)) (sym c) (denotes_kept a h s.denotes);
      lifts = l ∙ s.lifts;
    }

-- The memory that a term leaves is ready for what follows it.
pub environment_kept : {f w w' : List ℕ} {e e' cells cells' : ℕ} {L : List Wire} {Γ : List Binder} {count : ℕ → ℕ}
    → Environment f w e cells L Γ
    → Kept w w' cells (most_labels + length Γ) count
    → cells ≤ cells'
    → ((i : ℕ) → e + count i ≤ e')
    → Environment f w' e' cells' L Γ
environment_kept {L = L} {Γ = Γ} env k h bound =
    record {
      room = let r = env.room in omega (arith, k.length_kept);
      labels_fit = env.labels_fit;
      loaded = loaded_kept k.agree h env.loaded;
      slots = λ i b q.
          let below = held_below L Γ i b env.labels_fit q in
          binding_kept k.agree h (k.cells_same i below) (k.lifts_same i below) (env.slots i b q);
      uses_fit = λ i below. omega (arith, k.uses_counted i below, env.uses_fit i below, bound i);
    }

-- It stays ready while entries are passed.
pub environment_later : {f w : List ℕ} {e cells : ℕ} {L : List Wire} {Γ : List Binder} (e' : ℕ)
    → e ≤ e' → Environment f w e cells L Γ → Environment f w e' cells L Γ
environment_later e' h env =
    record {
      room = env.room;
      labels_fit = env.labels_fit;
      loaded = env.loaded;
      slots = env.slots;
      uses_fit = λ i below. omega (arith, env.uses_fit i below);
    }

-- Nothing is left out where one memory follows another.
pub kept_trans : {w w' w'' : List ℕ} {cells d : ℕ} {count count' : ℕ → ℕ}
    → Kept w w' cells d count → Kept w' w'' cells d count' → Kept w w'' cells d (λ i. count i + count' i)
kept_trans k m =
    record {
      agree = agree_trans k.agree m.agree;
      length_kept = m.length_kept ∙ k.length_kept;
      cells_same = λ i h. m.cells_same i h ∙ k.cells_same i h;
      lifts_same = λ i h. m.lifts_same i h ∙ k.lifts_same i h;
      uses_counted = λ i h. omega (arith, k.uses_counted i h, m.uses_counted i h);
    }

pub kept_refl : (w : List ℕ) (cells d : ℕ) → Kept w w cells d (λ i. 0)
kept_refl w cells d =
    record {
      agree = agree_refl w cells;
      length_kept = refl;
      cells_same = λ i h. refl;
      lifts_same = λ i h. refl;
      uses_counted = λ i h. omega arith;
    }

pub kept_less : {w w' : List ℕ} {cells d : ℕ} {count : ℕ → ℕ} (cells' d' : ℕ) (count' : ℕ → ℕ)
    → cells' ≤ cells → d' ≤ d → ((i : ℕ) → i < d' → count i ≡ count' i)
    → Kept w w' cells d count
    → Kept w w' cells' d' count'
kept_less cells' d' count' c h same k =
    record {
      agree = agree_less cells' c k.agree;
      length_kept = k.length_kept;
      cells_same = λ i below. k.cells_same i (omega arith);
      lifts_same = λ i below. k.lifts_same i (omega arith);
      uses_counted = λ i below. omega (arith, k.uses_counted i (omega arith), same i below);
    }

-- A cell that a rule makes changes no binding.
pub kept_cell : {w w' : List ℕ} {cells : ℕ} (n d : ℕ)
    → n < most_cells → cells ≤ n → Agree w w' n → ((k : ℕ) → 4 * n + 4 ≤ k → get_or w' k 0 ≡ get_or w k 0)
    → length w' ≡ length w
    → Kept w w' cells d (λ i. 0)
kept_cell {cells = cells} n d h c a above l =
    record {
      agree = agree_less cells c a;
      length_kept = l;
      cells_same = λ i below. above (4 * (most_cells + i)) (omega arith);
      lifts_same = λ i below. above (4 * (most_cells + i) + 1) (omega arith);
      uses_counted = λ i below. omega (arith, above (4 * (most_cells + i) + 2) (omega arith));
    }

module _ (w : List ℕ) (d cell lifts : ℕ) where
  word_kept : (i k : ℕ) → i < most_labels + d → k < 4 * (most_cells + i) + 4 → get_or (pushed w d cell lifts) k 0 ≡ get_or w k 0
  word_kept i k h s = (agree_with_cell w (most_cells + (most_labels + d)) cell lifts 0 0).words_same k (omega arith)

  pub kept_pushed : (cells : ℕ) → cells ≤ most_cells → Kept w (pushed w d cell lifts) cells (most_labels + d) (λ i. 0)
  kept_pushed cells h =
      record {
        agree = agree_less cells (omega arith) (agree_with_cell w (most_cells + (most_labels + d)) cell lifts 0 0);
        length_kept = length_with_cell w (most_cells + (most_labels + d)) cell lifts 0 0;
        cells_same = λ i below. word_kept i (4 * (most_cells + i)) below (omega arith);
        lifts_same = λ i below. word_kept i (4 * (most_cells + i) + 1) below (omega arith);
        uses_counted = λ i below. omega (arith, word_kept i (4 * (most_cells + i) + 2) below (omega arith));
      }

  -- The binding that was (pushed w d cell lifts).
  pub binding_pushed : (cells : ℕ) (A : Ty)
      → least_words ≤ length w → d < most_binders → cells ≤ most_cells → lifts < 65536 → Denotes w cells cell A
      → Binding (pushed w d cell lifts) cells (most_labels + d) (A under lifts)
  binding_pushed cells A room fits h l den =
      let below : cell < cells = (cell_of den).below in
      record {
        denotes =
            subst (λ j. Denotes (pushed w d cell lifts) cells j A)
            (sym (kind_written w (most_cells + (most_labels + d)) cell lifts 0 0 (omega arith) (omega arith)))
            (denotes_kept (kept_pushed cells h).agree (omega arith) den);
        lifts = first_written w (most_cells + (most_labels + d)) cell lifts 0 0 (omega arith) l;
      }

  pub uses_pushed : least_words ≤ length w → d < most_binders → binding_uses (pushed w d cell lifts) (most_labels + d) ≡ 0
  uses_pushed room fits = second_written w (most_cells + (most_labels + d)) cell lifts 0 0 (omega arith) (omega arith)

-- The memory with a binder pushed is ready for the term under that binder.
pub environment_pushed : {f w : List ℕ} {e cells : ℕ} {L : List Wire} {Γ : List Binder} (d cell lifts : ℕ) (A : Ty)
    → d ≡ length Γ → d < most_binders → cells ≤ most_cells → lifts < 65536
    → Environment f w e cells L Γ
    → Denotes w cells cell A
    → Environment f (pushed w d cell lifts) e cells L (A under lifts ∷ Γ)
environment_pushed {f} {w} {e} {cells} {L} {Γ} d cell lifts A is fits h l env den =
    record {
      room = let r = env.room in omega (arith, kept.length_kept);
      labels_fit = env.labels_fit;
      loaded = loaded_kept kept.agree (omega arith) env.loaded;
      slots = λ i b q. binding_at_lem i b (eqb i (most_labels + length Γ)) refl q;
      uses_fit = λ i below. uses_at i below (eqb i (most_labels + d)) refl;
    }
  where
    kept : Kept w (pushed w d cell lifts) cells (most_labels + d) (λ i. 0)
    kept = kept_pushed w d cell lifts cells h

    binding_at_lem : (i : ℕ) (b : Binder) (t : Bool) → eqb i (most_labels + length Γ) ≡ t
        → cond t (some (A under lifts)) (held L Γ i) ≡ some b
        → Binding (pushed w d cell lifts) cells i b
    binding_at_lem i b true t q =
        let same : most_labels + d ≡ i = omega (arith, eqb-true i (most_labels + length Γ) t) in
        let this : (A under lifts) ≡ b = cc in
        subst (λ j. Binding (pushed w d cell lifts) cells j b) same
        (subst (λ x. Binding (pushed w d cell lifts) cells (most_labels + d) x) this
        (binding_pushed w d cell lifts cells A env.room fits h l den))
    binding_at_lem i b false t q =
        let below : i < most_labels + d = omega (arith, held_below L Γ i b env.labels_fit q) in
        binding_kept kept.agree (omega arith) (kept.cells_same i below) (kept.lifts_same i below) (env.slots i b q)

    uses_at : (i : ℕ) → i < most_labels + suc (length Γ) → (t : Bool) → eqb i (most_labels + d) ≡ t
        → binding_uses (pushed w d cell lifts) i ≤ e
    uses_at i below true t =
        rw (eqb-true i (most_labels + d) t, uses_pushed w d cell lifts env.room fits) (omega arith)
    uses_at i below false t =
        let less : i < most_labels + d = omega (arith, eqb-false i (most_labels + d) t) in
        omega (arith, kept.uses_counted i less, env.uses_fit i (omega arith))
