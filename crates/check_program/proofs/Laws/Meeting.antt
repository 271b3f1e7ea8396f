-- What the inference owes at each of its calls and returns, from what its callees ensure.
use Rattle.std.specs.Prelude.{ℕ, zero, suc, ◌+◌, ◌*◌, ◌≤◌, ◌<◌, ◌≡◌, refl, Bool, true, false, List, length, Ok, Err}
use Rattle.std.proofs.Common.{add-one, arith, sym, ◌∙◌, ap, subst}
use Rattle.std.proofs.Math.Option.{Option, none, some}
use Rattle.rules.specs.Parts.{parts_of_kind}
use Rattle.rules.proofs.Laws.Parts.{at_most_two_lem}
use Rattle.rules.specs.Types.{Wire, Ty}
use Rattle.rules.specs.Terms.{Term}
use Rattle.rules.specs.Sizes.{nodes}
use Rattle.rules.specs.Inference.{uses}
use Rattle.program.specs.Format.{entry_count, kind_at}
use Rattle.program.specs.Sized.{most_file_entries}
use Rattle.program.specs.Trees.{TermAt}
use Rattle.program.proofs.Laws.TreeTraversal.{term_end}
use Rattle.check_types.specs.Cells.{Denotes}
use Rattle.refusals.specs.declared.Refusal.{Refusal}
use Rattle.check_program.specs.declared.Typed.{Typed}
use Rattle.check_program.specs.Checking.{Binder, Checked, typed, fault, check_term, followed, earlier, ruled}
use Rattle.check_program.specs.Layout.{most_binders}
use Rattle.check_program.proofs.Laws.Counting.{some_node}
use Rattle.check_program.proofs.Laws.Heads.{binders_in, two, binders_behind, bound, Shaped, shaped_leaf, shaped_one}
use Rattle.check_program.proofs.Laws.Heads.{shaped_two, shaped, no_parts, one_part, two_parts, check_two, check_second}
use Rattle.check_program.proofs.Laws.Heads.{behind, behind_binders}
use Rattle.check_program.specs.Heads.{TwoParts, of_application, of_pair, of_let, of_apply, two_kind, two_rule}
use Rattle.check_program.specs.Heads.{misuse_at_let}
use Rattle.check_program.specs.Inferring.{Inferred, no_rule, Ready, Gets, Answered, Possible, Meets, entered, binders_inside}
use Rattle.check_program.specs.Inferring.{lifts_inside, binders_after, SaysBetween, Passed}
use Rattle.check_program.proofs.Laws.Arms.{inside_binders, inside_lifts, entered_one, entered_two, one_ready}
use Rattle.check_program.proofs.Laws.Arms.{one_answers, EndsFirst, typed_is}
use Rattle.check_program.proofs.Laws.ArmsTwo.{EndsSecond, first_ready, stopped, second_opened, second_ready, both_typed}

-- The length of a file is right, and it has at most as many entries as an accepted one.
pub record RightLength (f : List ℕ) : Type 0 where
  pub length_is : length f ≡ 6 + 3 * entry_count f
  pub entries_fit : entry_count f ≤ most_file_entries

-- The numbers of an entry that is there to be checked are small.
pub record Small (f : List ℕ) (e binders lifts : ℕ) : Type 0 where
  pub whole : RightLength f
  pub entry : e < most_file_entries
  pub inside : e < length f
  pub binders_few : binders + 2 ≤ most_binders
  pub lifts_few : lifts < most_binders

pub small : (f w : List ℕ) (e binders lifts cells : ℕ) → Possible f w e binders lifts cells → Small f e binders lifts
small f w e binders lifts cells p =
    let r = p.4 in
    let M = p.2 in
    let n = p.3 in
    let fits = r.entries_fit in
    let end = r.ends in
    let b = r.binders_are in
    let c = r.binders_fit in
    let l = r.lifts_fit in
    let at = term_end r.term_is_at in
    let one = some_node M in
    record {
      whole = record { length_is = r.length_is; entries_fit = r.entries_fit };
      entry = omega arith;
      inside = omega (arith, r.length_is);
      binders_few = omega arith;
      lifts_few = omega arith;
    }

-- The binders and lifts around the parts of a node of two parts.
inside_two : (h : TwoParts) (k binders lifts : ℕ)
    → k ≡ two_kind h → (binders_inside k binders ≡ binders) × (lifts_inside k lifts ≡ lifts)
inside_two of_application k binders lifts q = (rw q, rw q)
inside_two of_pair k binders lifts q = (rw q, rw q)
inside_two of_let k binders lifts q = (rw q, rw q)
inside_two of_apply k binders lifts q = (rw q, rw q)

after_two : (h : TwoParts) (k binders : ℕ) → k ≡ two_kind h → binders_after k binders ≡ binders + bound h
after_two of_application k binders q = rw q (omega arith)
after_two of_pair k binders q = rw q (omega arith)
after_two of_let k binders q = rw q
after_two of_apply k binders q = rw q (omega arith)

-- The same said with other numbers and another memory that are equal.
ready_moved : {f w w' : List ℕ} {e e' b b' l l' cells : ℕ} {L : List Wire} {Γ : List Binder} {M : Term} {n : ℕ}
    → w ≡ w' → e ≡ e' → b ≡ b' → l ≡ l'
    → Ready f w' e' b' l' cells L Γ M n
    → Ready f w e b l cells L Γ M n
ready_moved {f} {w} {w'} {e} {e'} {b} {b'} {l} {l'} {cells} {L} {Γ} {M} {n} p q r s ready =
    subst (λ x. Ready f x e b l cells L Γ M n) (sym p)
    (subst (λ x. Ready f w' x b l cells L Γ M n) (sym q)
    (subst (λ x. Ready f w' e' x l cells L Γ M n) (sym r)
    (subst (λ x. Ready f w' e' b' x cells L Γ M n) (sym s) ready)))

answered_moved : (w₂ : List ℕ) (cells : ℕ) (L : List Wire) (Γ : List Binder) (M : Term) (n : ℕ) (r : Inferred)
    {w w' : List ℕ} {e e' l l' : ℕ}
    → w ≡ w' → e ≡ e' → l ≡ l'
    → Answered w w₂ cells Γ M n (check_term L Γ l e M) r
    → Answered w' w₂ cells Γ M n (check_term L Γ l' e' M) r
answered_moved w₂ cells L Γ M n r {w} {w'} {e} {e'} {l} {l'} p q s answered =
    subst (λ x. Answered x w₂ cells Γ M n (check_term L Γ l' e' M) r) p
    (subst (λ x. Answered w w₂ cells Γ M n (check_term L Γ l' x M) r) q
    (subst (λ x. Answered w w₂ cells Γ M n (check_term L Γ x e M) r) s answered))

module _ {f w : List ℕ} {e binders lifts cells : ℕ} where
  -- The first part of a node is ready.
  first_ready_at : {L : List Wire} {Γ : List Binder} {M : Term} {n : ℕ}
      → (parts_of_kind (kind_at f e) ≡ 0 → ⊥)
      → Shaped f e M n
      → Ready f w e binders lifts cells L Γ M n
      → Possible f (entered f w e binders lifts) (e + 1) (binders_inside (kind_at f e) binders)
      (lifts_inside (kind_at f e) lifts) cells
  first_ready_at parts (shaped_leaf l k a) ready = absurd (parts (no_parts (kind_at f e) l k))
  first_ready_at {L} {Γ} {n = n} parts (shaped_one {M = M} h k named d) ready = (
    L,
    binders_in h lifts Γ,
    M,
    n,
    ready_moved
        (entered_one h f w e binders lifts k)
        (add-one e)
        (inside_binders h (kind_at f e) binders lifts Γ k ready.binders_are)
        (inside_lifts h (kind_at f e) lifts k)
        (one_ready h M k named d ready),
  )
  first_ready_at {L} {Γ} {n = n} parts (shaped_two {M = M} {N = N} {m = m} h k d d') ready = (
    L,
    Γ,
    M,
    m,
    ready_moved
        (entered_two h f w e binders lifts k)
        (add-one e)
        (inside_two h (kind_at f e) binders lifts k).0
        (inside_two h (kind_at f e) binders lifts k).1
        (first_ready h M N k d d' ready),
  )

  first_possible : (w₁ : List ℕ)
      → (parts_of_kind (kind_at f e) ≡ 0 → ⊥)
      → w₁ ≡ entered f w e binders lifts
      → Possible f w e binders lifts cells
      → Possible f w₁ (e + 1) (binders_inside (kind_at f e) binders) (lifts_inside (kind_at f e) lifts) cells
  first_possible w₁ parts is p =
      subst
      (λ x. Possible f x (e + 1) (binders_inside (kind_at f e) binders) (lifts_inside (kind_at f e) lifts) cells)
      (sym is)
      (first_ready_at parts (shaped p.4.term_is_at) p.4)

  -- A node of one part answers what the check finds.
  one_meets : (w₁ w₂ w₃ : List ℕ) (first r : Inferred)
      → parts_of_kind (kind_at f e) ≡ 1
      → w₁ ≡ entered f w e binders lifts
      → Meets f w₁ w₂ (e + 1) (binders_inside (kind_at f e) binders) (lifts_inside (kind_at f e) lifts) cells first
      → EndsFirst f w₂ w₃ e binders first r
      → Meets f w w₃ e binders lifts cells r
  one_meets w₁ w₂ w₃ first r parts is meets ends L Γ M n ready = go (shaped ready.term_is_at) ready
    where
      go : {M' : Term} {n' : ℕ} → Shaped f e M' n' → Ready f w e binders lifts cells L Γ M' n'
          → Answered w w₃ cells Γ M' n' (check_term L Γ lifts e M') r
      go (shaped_leaf l k a) ready = absurd (omega (arith, no_parts (kind_at f e) l k))
      go (shaped_one {M = M} {n = n} h k named d) ready =
          one_answers h M k named ready w₂ w₃ first r
          (answered_moved w₂ cells L (binders_in h lifts Γ) M n first
          (is ∙ entered_one h f w e binders lifts k)
          (add-one e)
          (inside_lifts h (kind_at f e) lifts k)
          (meets L (binders_in h lifts Γ) M n
          (ready_moved
          (is ∙ entered_one h f w e binders lifts k)
          (add-one e)
          (inside_binders h (kind_at f e) binders lifts Γ k ready.binders_are)
          (inside_lifts h (kind_at f e) lifts k)
          (one_ready h M k named d ready))))
          ends
      go (shaped_two h k d d') ready = absurd (omega (arith, two_parts (kind_at f e) h k))

-- A node of two parts is nothing else.
two_only : {f : List ℕ} {e : ℕ} (X : Term → ℕ → Type 0)
    → parts_of_kind (kind_at f e) ≡ 2
    → ((h : TwoParts) (M N : Term) (m n : ℕ)
    → kind_at f e ≡ two_kind h → TermAt f (suc e) M m → TermAt f m N n
    → X (two h M N) n)
    → {M₀ : Term} {n₀ : ℕ} → Shaped f e M₀ n₀ → X M₀ n₀
two_only {f} {e} X parts x (shaped_leaf l k a) = absurd (omega (arith, no_parts (kind_at f e) l k))
two_only {f} {e} X parts x (shaped_one h k named d) = absurd (omega (arith, one_part (kind_at f e) h k))
two_only {f} {e} X parts x (shaped_two {M = M} {N = N} {m = m} {n = n} h k d d') = x h M N m n k d d'

-- The first part of a node has been looked at, in the memory that the node left to it.
pub record Looked (f w : List ℕ) (e binders lifts cells : ℕ) (w₂ : List ℕ) (first : Inferred) : Type 0 where
  pub memory : List ℕ
  pub some_parts : parts_of_kind (kind_at f e) ≡ 0 → ⊥
  pub is : memory ≡ entered f w e binders lifts
  pub meets : Meets f memory w₂ (e + 1) (binders_inside (kind_at f e) binders) (lifts_inside (kind_at f e) lifts) cells first

-- A node of one part answers what the check finds.
pub one_ends : {f w : List ℕ} {e binders lifts cells : ℕ} {w₂ : List ℕ} {first : Inferred}
    → Looked f w e binders lifts cells w₂ first
    → parts_of_kind (kind_at f e) ≡ 1
    → (w₃ : List ℕ) (r : Inferred)
    → EndsFirst f w₂ w₃ e binders first r
    → Meets f w w₃ e binders lifts cells r
one_ends {w₂ = w₂} {first = first} looked one w₃ r ends = one_meets looked.memory w₂ w₃ first r one looked.is looked.meets ends

module _ {f w : List ℕ} {e binders lifts cells : ℕ} {w₂ : List ℕ} {first : Inferred}
    (looked : Looked f w e binders lifts cells w₂ first) (has_two : parts_of_kind (kind_at f e) ≡ 2) where
  -- What the first part answered, as the check of that part.
  first_answered : (L : List Wire) (Γ : List Binder) (h : TwoParts) (M N : Term) (m n : ℕ)
      → kind_at f e ≡ two_kind h → TermAt f (suc e) M m → TermAt f m N n
      → Ready f w e binders lifts cells L Γ (two h M N) n
      → Answered w w₂ cells Γ M m (check_term L Γ lifts (suc e) M) first
  first_answered L Γ h M N m n k d d' ready =
      answered_moved w₂ cells L Γ M m first
      (looked.is ∙ entered_two h f w e binders lifts k)
      (add-one e)
      (inside_two h (kind_at f e) binders lifts k).1
      (looked.meets L Γ M m
      (ready_moved
      (looked.is ∙ entered_two h f w e binders lifts k)
      (add-one e)
      (inside_two h (kind_at f e) binders lifts k).0
      (inside_two h (kind_at f e) binders lifts k).1
      (first_ready h M N k d d' ready)))

  -- The first part has the first 16.
  pub first_at_fault : (x : Refusal) → first ≡ Err x → Meets f w w₂ e binders lifts cells first
  first_at_fault x faults L Γ M₀ n₀ ready₀ =
      two_only
      (λ M₀ n₀. Ready f w e binders lifts cells L Γ M₀ n₀ → Answered w w₂ cells Γ M₀ n₀ (check_term L Γ lifts e M₀) first)
      has_two
      (λ h M N m n k d d' ready.
      subst (λ c. Answered w w₂ cells Γ (two h M N) n c first) (sym (check_two h L Γ lifts e M N))
      (go h M N m n (check_term L Γ lifts (suc e) M) (first_answered L Γ h M N m n k d d' ready)))
      (shaped ready₀.term_is_at)
      ready₀
    where
      go : (h : TwoParts) (M N : Term) (m n : ℕ) (c : Checked)
          → Answered w w₂ cells Γ M m c first
          → Answered w w₂ cells Γ (two h M N) n (followed c (check_second h L Γ lifts e (suc e + nodes M) N)) first
      go h M N m n (typed A u v) g = let z : ◌≡◌ {A = ℕ} 0 1 = cc (faults, g.answer) in absurd (omega arith)
      go h M N m n (fault q) t = t

  -- The first part has a type, of which this is the cell.
  module _ (t : Typed) (types : first ≡ Ok t) (w₃ : List ℕ) (b : Bool)
      (says : SaysBetween f w₂ w₃ e binders lifts t.cell b) where
    passes : (L : List Wire) (Γ : List Binder) (h : TwoParts) (M : Term) (m : ℕ) (A : Ty) (u v : Option ℕ)
        → kind_at f e ≡ two_kind h
        → (g : Gets w w₂ cells Γ M m A u v first)
        → Passed h w₂ w₃ binders lifts g.cells' A b
    passes L Γ h M m A u v k g =
        let same : g.cell ≡ t.cell = sym (ap (λ x. x.cell) (typed_is t types g)) in
        says h g.cells' A k (subst (λ j. Denotes w₂ g.cells' j A) same g.denotes)

    -- The let's first part has a type that is no pair.
    pub no_pair : b ≡ false → Meets f w w₃ e binders lifts cells (Err (no_rule e))
    no_pair stops L Γ M₀ n₀ ready₀ =
        two_only
        (λ M₀ n₀. Ready f w e binders lifts cells L Γ M₀ n₀
        → Answered w w₃ cells Γ M₀ n₀ (check_term L Γ lifts e M₀) (Err (no_rule e)))
        has_two
        (λ h M N m n k d d' ready.
        subst (λ c. Answered w w₃ cells Γ (two h M N) n c (Err (no_rule e))) (sym (check_two h L Γ lifts e M N))
        (go h M N m n k d d' ready (check_term L Γ lifts (suc e) M) (first_answered L Γ h M N m n k d d' ready)))
        (shaped ready₀.term_is_at)
        ready₀
      where
        behind_fault : (h : TwoParts) (M N : Term) (m n : ℕ) (A : Ty) (u v : Option ℕ)
            → (k : kind_at f e ≡ two_kind h) → TermAt f (suc e) M m → TermAt f m N n
            → Ready f w e binders lifts cells L Γ (two h M N) n
            → (g : Gets w w₂ cells Γ M m A u v first)
            → (o : Option (List Binder)) → binders_behind h lifts Γ A ≡ o
            → (check : List Binder → Checked)
            → Answered w w₃ cells Γ (two h M N) n (behind e o check) (Err (no_rule e))
        behind_fault h M N m n A u v k d d' ready g none q check = refl
        behind_fault h M N m n A u v k d d' ready g (some Δ) q check =
            let goes : b ≡ true =
            (second_opened h M N k d d' ready g w₃ b Δ q (passes L Γ h M m A u v k g)).goes_on
            in
            let z : ◌≡◌ {A = ℕ} 0 1 = cc in
            absurd (omega arith)

        go : (h : TwoParts) (M N : Term) (m n : ℕ)
            → kind_at f e ≡ two_kind h → TermAt f (suc e) M m → TermAt f m N n
            → Ready f w e binders lifts cells L Γ (two h M N) n
            → (c : Checked) → Answered w w₂ cells Γ M m c first
            → Answered w w₃ cells Γ (two h M N) n (followed c (check_second h L Γ lifts e (suc e + nodes M) N)) (Err (no_rule e))
        go h M N m n k d d' ready (typed A u v) g = behind_fault h M N m n A u v k d d' ready g (binders_behind h lifts Γ A) refl _
        go h M N m n k d d' ready (fault q) faults = let z : ◌≡◌ {A = ℕ} 0 1 = cc (types, faults) in absurd (omega arith)

    -- The second part stands behind this node.
    pub second_later : Possible f w e binders lifts cells → e < t.next
    second_later p =
        two_only
        (λ M₀ n₀. Ready f w e binders lifts cells p.0 p.1 M₀ n₀ → e < t.next)
        has_two
        (λ h M N m n k d d' ready.
        go M m d (check_term p.0 p.1 lifts (suc e) M) (first_answered p.0 p.1 h M N m n k d d' ready))
        (shaped p.4.term_is_at)
        p.4
      where
        go : (M : Term) (m : ℕ) → TermAt f (suc e) M m → (c : Checked) → Answered w w₂ cells p.1 M m c first → e < t.next
        go M m d (typed A u v) g =
            let at : t.next ≡ m = ap (λ x. x.next) (typed_is t types g) in
            omega (arith, term_end d)
        go M m d (fault q) faults = let z : ◌≡◌ {A = ℕ} 0 1 = cc (types, faults) in absurd (omega arith)

    -- The second part is looked at.
    module _ (goes : b ≡ true) where
      second_at : (L : List Wire) (Γ Δ : List Binder) (h : TwoParts) (M N : Term) (m n : ℕ) (A : Ty) (u v : Option ℕ)
          → (k : kind_at f e ≡ two_kind h) → TermAt f (suc e) M m → TermAt f m N n
          → Ready f w e binders lifts cells L Γ (two h M N) n
          → (g : Gets w w₂ cells Γ M m A u v first)
          → binders_behind h lifts Γ A ≡ some Δ
          → Ready f w₃ t.next (binders_after (kind_at f e) binders) lifts t.cells L Δ N n
      second_at L Γ Δ h M N m n A u v k d d' ready g q =
          let at : t.next ≡ m = ap (λ x. x.next) (typed_is t types g) in
          let same : g.cells' ≡ t.cells = sym (ap (λ x. x.cells) (typed_is t types g)) in
          let more : length Δ ≡ length Γ + bound h = behind_binders h M N lifts Γ Δ A q in
          let few = ready.binders_are in
          ready_moved refl at (omega (arith, after_two h (kind_at f e) binders k)) refl
          (subst (λ x. Ready f w₃ m (length Δ) lifts x L Δ N n) same
          (second_ready h M N k d d' ready g w₃ b Δ q (passes L Γ h M m A u v k g)))

      not_stopped : (L : List Wire) (Γ : List Binder) (h : TwoParts) (M : Term) (m : ℕ) (A : Ty) (u v : Option ℕ)
          → (k : kind_at f e ≡ two_kind h)
          → (g : Gets w w₂ cells Γ M m A u v first)
          → binders_behind h lifts Γ A ≡ none
          → ⊥
      not_stopped L Γ h M m A u v k g q =
          let stops : b ≡ false =
          stopped w₂ w₃ binders lifts g.cells' Γ b h A q (passes L Γ h M m A u v k g)
          in
          let z : ◌≡◌ {A = ℕ} 0 1 = cc in
          omega arith

      pub second_possible : Possible f w e binders lifts cells
          → Possible f w₃ t.next (binders_after (kind_at f e) binders) lifts t.cells
      second_possible p =
          two_only
          (λ M₀ n₀. Ready f w e binders lifts cells p.0 p.1 M₀ n₀
          → Possible f w₃ t.next (binders_after (kind_at f e) binders) lifts t.cells)
          has_two
          (λ h M N m n k d d' ready.
          go h M N m n k d d' ready (check_term p.0 p.1 lifts (suc e) M)
          (first_answered p.0 p.1 h M N m n k d d' ready))
          (shaped p.4.term_is_at)
          p.4
        where
          allowed : (h : TwoParts) (M N : Term) (m n : ℕ) (A : Ty) (u v : Option ℕ)
              → (k : kind_at f e ≡ two_kind h) → TermAt f (suc e) M m → TermAt f m N n
              → Ready f w e binders lifts cells p.0 p.1 (two h M N) n
              → (g : Gets w w₂ cells p.1 M m A u v first)
              → (o : Option (List Binder)) → binders_behind h lifts p.1 A ≡ o
              → Possible f w₃ t.next (binders_after (kind_at f e) binders) lifts t.cells
          allowed h M N m n A u v k d d' ready g none q = absurd (not_stopped p.0 p.1 h M m A u v k g q)
          allowed h M N m n A u v k d d' ready g (some Δ) q =
              (p.0, Δ, N, n, second_at p.0 p.1 Δ h M N m n A u v k d d' ready g q)

          go : (h : TwoParts) (M N : Term) (m n : ℕ)
              → kind_at f e ≡ two_kind h → TermAt f (suc e) M m → TermAt f m N n
              → Ready f w e binders lifts cells p.0 p.1 (two h M N) n
              → (c : Checked) → Answered w w₂ cells p.1 M m c first
              → Possible f w₃ t.next (binders_after (kind_at f e) binders) lifts t.cells
          go h M N m n k d d' ready (typed A u v) g =
              allowed h M N m n A u v k d d' ready g (binders_behind h lifts p.1 A) refl
          go h M N m n k d d' ready (fault q) faults = let z : ◌≡◌ {A = ℕ} 0 1 = cc (types, faults) in absurd (omega arith)

      -- A node of two parts answers what the check finds.
      pub two_meets : (w₄ w₅ : List ℕ) (second r : Inferred)
          → Meets f w₃ w₄ t.next (binders_after (kind_at f e) binders) lifts t.cells second
          → EndsSecond f w₄ w₅ e binders t second r
          → Meets f w w₅ e binders lifts cells r
      two_meets w₄ w₅ second r meets₂ ends L Γ M₀ n₀ ready₀ =
          two_only
          (λ M₀ n₀. Ready f w e binders lifts cells L Γ M₀ n₀ → Answered w w₅ cells Γ M₀ n₀ (check_term L Γ lifts e M₀) r)
          has_two
          (λ h M N m n k d d' ready.
          subst (λ c. Answered w w₅ cells Γ (two h M N) n c r) (sym (check_two h L Γ lifts e M N))
          (go h M N m n k d d' ready (check_term L Γ lifts (suc e) M) (first_answered L Γ h M N m n k d d' ready)))
          (shaped ready₀.term_is_at)
          ready₀
        where
          -- What the second part answered, as the check of that part.
          second_answered : (Δ : List Binder) (h : TwoParts) (M N : Term) (m n : ℕ) (A : Ty) (u v : Option ℕ)
              → (k : kind_at f e ≡ two_kind h) → TermAt f (suc e) M m → TermAt f m N n
              → Ready f w e binders lifts cells L Γ (two h M N) n
              → (g : Gets w w₂ cells Γ M m A u v first)
              → binders_behind h lifts Γ A ≡ some Δ
              → Answered w₃ w₄ g.cells' Δ N n (check_term L Δ lifts (suc e + nodes M) N) second
          second_answered Δ h M N m n A u v k d d' ready g q =
              let at : t.next ≡ m = ap (λ x. x.next) (typed_is t types g) in
              let same : t.cells ≡ g.cells' = ap (λ x. x.cells) (typed_is t types g) in
              subst (λ x. Answered w₃ w₄ x Δ N n (check_term L Δ lifts (suc e + nodes M) N) second) same
              (answered_moved w₄ t.cells L Δ N n second refl (at ∙ term_end d) refl
              (meets₂ L Δ N n (second_at L Γ Δ h M N m n A u v k d d' ready g q)))

          second_of : (Δ : List Binder) (h : TwoParts) (M N : Term) (m n : ℕ) (A : Ty) (u v : Option ℕ)
              → (k : kind_at f e ≡ two_kind h) → TermAt f (suc e) M m → TermAt f m N n
              → Ready f w e binders lifts cells L Γ (two h M N) n
              → (g : Gets w w₂ cells Γ M m A u v first)
              → binders_behind h lifts Γ A ≡ some Δ
              → (c : Checked)
              → Answered w₃ w₄ g.cells' Δ N n c second
              → Answered w w₅ cells Γ (two h M N) n
              (followed c λ B u' v'.
              ruled e (two_rule h A B) (earlier (misuse_at_let h A (uses 1 N) (uses 0 N) e) (earlier u u')) (earlier v v'))
              r
          second_of Δ h M N m n A u v k d d' ready g q (typed B u' v') g₂ =
              both_typed h M N k d d' ready g w₃ b Δ q (passes L Γ h M m A u v k g) g₂ w₅ r t types ends
          second_of Δ h M N m n A u v k d d' ready g q (fault p) faults =
              subst (λ x. EndsSecond f w₄ w₅ e binders t x r) faults ends

          behind_second : (h : TwoParts) (M N : Term) (m n : ℕ) (A : Ty) (u v : Option ℕ)
              → (k : kind_at f e ≡ two_kind h) → TermAt f (suc e) M m → TermAt f m N n
              → Ready f w e binders lifts cells L Γ (two h M N) n
              → (g : Gets w w₂ cells Γ M m A u v first)
              → (o : Option (List Binder)) → binders_behind h lifts Γ A ≡ o
              → Answered w w₅ cells Γ (two h M N) n
              (behind e o λ Δ. followed (check_term L Δ lifts (suc e + nodes M) N) λ B u' v'.
              ruled e (two_rule h A B) (earlier (misuse_at_let h A (uses 1 N) (uses 0 N) e) (earlier u u')) (earlier v v'))
              r
          behind_second h M N m n A u v k d d' ready g none q = absurd (not_stopped L Γ h M m A u v k g q)
          behind_second h M N m n A u v k d d' ready g (some Δ) q =
              second_of Δ h M N m n A u v k d d' ready g q (check_term L Δ lifts (suc e + nodes M) N)
              (second_answered Δ h M N m n A u v k d d' ready g q)

          go : (h : TwoParts) (M N : Term) (m n : ℕ)
              → kind_at f e ≡ two_kind h → TermAt f (suc e) M m → TermAt f m N n
              → Ready f w e binders lifts cells L Γ (two h M N) n
              → (c : Checked) → Answered w w₂ cells Γ M m c first
              → Answered w w₅ cells Γ (two h M N) n (followed c (check_second h L Γ lifts e (suc e + nodes M) N)) r
          go h M N m n k d d' ready (typed A u v) g =
              behind_second h M N m n A u v k d d' ready g (binders_behind h lifts Γ A) refl
          go h M N m n k d d' ready (fault q) faults = let z : ◌≡◌ {A = ℕ} 0 1 = cc (types, faults) in absurd (omega arith)

-- The 16 of a first part is that of its node.
pub part_at_fault : {f w : List ℕ} {e binders lifts cells : ℕ} {w₂ : List ℕ} {first : Inferred} (x : Refusal)
    → Looked f w e binders lifts cells w₂ first
    → first ≡ Err x
    → Meets f w w₂ e binders lifts cells (Err x)
part_at_fault {f} {w} {e} {binders} {lifts} {cells} {w₂} {first} x looked faults =
    go (parts_of_kind (kind_at f e)) refl (at_most_two_lem (kind_at f e))
  where
    go : (p : ℕ) → parts_of_kind (kind_at f e) ≡ p → p ≤ 2 → Meets f w w₂ e binders lifts cells (Err x)
    go zero q h = absurd (looked.some_parts q)
    go (suc zero) q h =
        one_ends looked q w₂ (Err x) (subst (λ y. EndsFirst f w₂ w₂ e binders y (Err x)) (sym faults) refl)
    go (suc (suc zero)) q h =
        subst (λ y. Meets f w w₂ e binders lifts cells y) faults (first_at_fault looked q x faults)
    go (suc (suc (suc p))) q h = absurd (omega arith)

-- The same with the numbers that the code computes.
module _ (f w w₁ : List ℕ) (e binders lifts cells kind parts e' b l : ℕ)
    (is : kind ≡ kind_at f e) (parts_are : parts ≡ parts_of_kind kind) (some_parts : parts ≡ 0 → ⊥)
    (at : e' ≡ e + 1) (b_is : b ≡ binders_inside kind binders) (l_is : l ≡ lifts_inside kind lifts)
    (entered_is : w₁ ≡ entered f w e binders lifts) where
  inside_is : b ≡ binders_inside (kind_at f e) binders
  inside_is = b_is ∙ ap (λ k. binders_inside k binders) is

  lifted_is : l ≡ lifts_inside (kind_at f e) lifts
  lifted_is = l_is ∙ ap (λ k. lifts_inside k lifts) is

  not_zero : parts_of_kind (kind_at f e) ≡ 0 → ⊥
  not_zero q = some_parts (parts_are ∙ ap parts_of_kind is ∙ q)

  pub inside_possible : Possible f w e binders lifts cells → Possible f w₁ e' b l cells
  inside_possible p =
      subst (λ x. Possible f w₁ x b l cells) (sym at)
      (subst (λ x. Possible f w₁ (e + 1) x l cells) (sym inside_is)
      (subst (λ x. Possible f w₁ (e + 1) (binders_inside (kind_at f e) binders) x cells) (sym lifted_is)
      (first_possible w₁ not_zero entered_is p)))

  pub looked_at : (w₂ : List ℕ) (first : Inferred) → Meets f w₁ w₂ e' b l cells first → Looked f w e binders lifts cells w₂ first
  looked_at w₂ first m =
      record {
        memory = w₁;
        some_parts = not_zero;
        is = entered_is;
        meets =
            subst (λ x. Meets f w₁ w₂ (e + 1) (binders_inside (kind_at f e) binders) x cells first) lifted_is
            (subst (λ x. Meets f w₁ w₂ (e + 1) x l cells first) inside_is
            (subst (λ x. Meets f w₁ w₂ x b l cells first) at m));
      }

-- How many parts a node has, by the number that the code computes.
module _ (f : List ℕ) (e kind parts : ℕ) (is : kind ≡ kind_at f e) (parts_are : parts ≡ parts_of_kind kind) where
  pub one_left : parts ≡ 1 → parts_of_kind (kind_at f e) ≡ 1
  one_left q = ap parts_of_kind (sym is) ∙ sym parts_are ∙ q

  pub two_left : (parts ≡ 0 → ⊥) → (parts ≡ 1 → ⊥) → parts_of_kind (kind_at f e) ≡ 2
  two_left a b = go (parts_of_kind (kind_at f e)) (parts_are ∙ ap parts_of_kind is) (at_most_two_lem (kind_at f e))
    where
      go : (p : ℕ) → parts ≡ p → p ≤ 2 → p ≡ 2
      go zero q h = absurd (a q)
      go (suc zero) q h = absurd (b q)
      go (suc (suc p)) q h = omega arith

module _ (f w₃ : List ℕ) (e next binders lifts cells kind e' b l : ℕ) (is : kind ≡ kind_at f e) (at : e' ≡ next)
    (b_is : b ≡ binders_after kind binders) (l_is : l ≡ lifts) where
  after_is : b ≡ binders_after (kind_at f e) binders
  after_is = b_is ∙ ap (λ k. binders_after k binders) is

  pub possible_after : Possible f w₃ next (binders_after (kind_at f e) binders) lifts cells → Possible f w₃ e' b l cells
  possible_after p =
      subst (λ x. Possible f w₃ x b l cells) (sym at)
      (subst (λ x. Possible f w₃ next x l cells) (sym after_is)
      (subst (λ x. Possible f w₃ next (binders_after (kind_at f e) binders) x cells) (sym l_is) p))

  pub meets_after : (w₄ : List ℕ) (second : Inferred)
      → Meets f w₃ w₄ e' b l cells second
      → Meets f w₃ w₄ next (binders_after (kind_at f e) binders) lifts cells second
  meets_after w₄ second m =
      subst (λ x. Meets f w₃ w₄ next (binders_after (kind_at f e) binders) x cells second) l_is
      (subst (λ x. Meets f w₃ w₄ next x l cells second) after_is
      (subst (λ x. Meets f w₃ w₄ x b l cells second) at m))
