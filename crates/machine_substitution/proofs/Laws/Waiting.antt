-- Laws of specs/Waiting.antt.
use Rattle.std.specs.Prelude.{ℕ, zero, suc, ◌+◌, ◌-◌, ◌%◌, ◌≤◌, ◌<◌, ◌≡◌, refl, Bool, true, false, cond, List, [], ◌∷◌, eqb, length, get_or, set}
use Rattle.std.proofs.Common.{arith, sym, ◌∙◌, ap, subst, length-set, get_or-set_same, get_or-set_other}
use Rattle.rules.specs.Kinds.{abstraction_kind, let_kind}
use Rattle.machine_terms.specs.Trees.{parts, one_kind, two_kind, binders_one, binders_two}
use Rattle.machine_terms.proofs.Laws.Kinds.{KindIs, kind_abstraction, kind_lift, kind_force, kind_box, kind_application}
use Rattle.machine_terms.proofs.Laws.Kinds.{kind_pair, kind_let, kind_apply, kind_variable, kind_label, kind_gate}
use Rattle.machine_terms.proofs.Laws.Kinds.{kind_constant, no_kind, kind_view, kind_unit_value}
use Rattle.machine_substitution.specs.Substituted.{parts_waiting, waiting_after}
use Rattle.machine_substitution.specs.Waiting.{stack_of, binders_of}

-- What is put above the top changes nothing.
pub stack_above : (ws : List ℕ) (i x d : ℕ) → d ≤ i → stack_of (set ws i x) d ≡ stack_of ws d
stack_above ws i x zero h = refl
stack_above ws i x (suc d) h =
    let other : d ≡ i → ⊥ = λ e. omega arith in
    let top : get_or (set ws i x) d 0 ≡ get_or ws d 0 = get_or-set_other ws i d x 0 other in
    let rest : stack_of (set ws i x) d ≡ stack_of ws d = stack_above ws i x d (omega arith) in
    cc

-- What is put on the top stands there.
pub stack_push : (ws : List ℕ) (d x : ℕ) → d < length ws → stack_of (set ws d x) (suc d) ≡ x ∷ stack_of ws d
stack_push ws d x h =
    let top : get_or (set ws d x) d 0 ≡ x = get_or-set_same ws d x 0 h in
    let rest : stack_of (set ws d x) d ≡ stack_of ws d = stack_above ws d x d (omega arith) in
    cc

-- The part on top, and those below it.
pub stack_top : (ws : List ℕ) (d : ℕ) → 0 < d → stack_of ws d ≡ get_or ws (d - 1) 0 ∷ stack_of ws (d - 1)
stack_top ws zero h = absurd (omega arith)
stack_top ws (suc d) h =
    let e : suc d - 1 ≡ d = omega arith in
    rw e

-- At most two.
pub binders_few : (k : ℕ) → binders_of k ≤ 2
unfolding binders_of
binders_few k = few (eqb k abstraction_kind) (eqb k let_kind)
  where
    few : (x y : Bool) → cond x 1 (cond y 2 0) ≤ 2
    few true y = omega arith
    few false true = omega arith
    few false false = omega arith

one_binders : (b : ℕ) {k : ℕ} → KindIs k 1 → binders_one (one_kind k) b ≡ b + binders_of k
unfolding binders_of one_kind
one_binders b kind_abstraction = omega arith
one_binders b kind_lift = omega arith
one_binders b kind_force = omega arith
one_binders b kind_box = omega arith

two_binders : (b : ℕ) {k : ℕ} → KindIs k 2 → binders_two (two_kind k) b ≡ b + binders_of k
unfolding binders_of two_kind
two_binders b kind_application = omega arith
two_binders b kind_pair = omega arith
two_binders b kind_let = omega arith
two_binders b kind_apply = omega arith

-- What is waited for after a node of kind k with one part.
pub waiting_one : (k b : ℕ) (waiting : List ℕ) → parts k ≡ 1 → waiting_after k b waiting ≡ (b + binders_of k) ∷ waiting
unfolding waiting_after
waiting_one k b waiting e =
    ap (λ p. parts_waiting p k b waiting) e
    ∙ ap (λ x. x ∷ waiting) (one_binders b (subst (KindIs k) e (kind_view k)))

-- After one with two parts.
pub waiting_two : (k b : ℕ) (waiting : List ℕ) → parts k ≡ 2 → waiting_after k b waiting ≡ b ∷ (b + binders_of k) ∷ waiting
unfolding waiting_after
waiting_two k b waiting e =
    ap (λ p. parts_waiting p k b waiting) e
    ∙ ap (λ x. b ∷ x ∷ waiting) (two_binders b (subst (KindIs k) e (kind_view k)))

none_waiting : (p k b : ℕ) (waiting : List ℕ)
    → (p ≡ 1 → ⊥) → (p ≡ 2 → ⊥) → parts_waiting p k b waiting ≡ waiting
none_waiting zero k b waiting h h' = refl
none_waiting (suc zero) k b waiting h h' = absurd (h refl)
none_waiting (suc (suc zero)) k b waiting h h' = absurd (h' refl)
none_waiting (suc (suc (suc p))) k b waiting h h' = refl

-- And after any other.
pub waiting_none : (k b : ℕ) (waiting : List ℕ)
    → (parts k ≡ 1 → ⊥) → (parts k ≡ 2 → ⊥) → waiting_after k b waiting ≡ waiting
unfolding waiting_after
waiting_none k b waiting h h' = none_waiting (parts k) k b waiting h h'

-- No part that is waited for has more binders around it than m.
abbrev pub AtMost : ℕ → List ℕ → Type 0
AtMost m [] = Unit {0}
AtMost m (b ∷ waiting) = (b ≤ m) × AtMost m waiting

-- A larger number will do.
pub at_most_more : (m m' : ℕ) (waiting : List ℕ) → m ≤ m' → AtMost m waiting → AtMost m' waiting
at_most_more m m' [] h a = tt
at_most_more m m' (b ∷ waiting) h a = (omega (arith, a.0), at_most_more m m' waiting h a.1)

parts_at_most : (m b k p : ℕ) (waiting : List ℕ)
    → KindIs k p
    → b ≤ m
    → AtMost (m + 2) waiting
    → AtMost (m + 2) (parts_waiting p k b waiting)
unfolding one_kind two_kind
parts_at_most m b k p waiting kind_variable h a = a
parts_at_most m b k p waiting kind_label h a = a
parts_at_most m b k p waiting kind_gate h a = a
parts_at_most m b k p waiting kind_unit_value h a = a
parts_at_most m b k p waiting kind_constant h a = a
parts_at_most m b k p waiting kind_abstraction h a = (omega arith, a)
parts_at_most m b k p waiting kind_lift h a = (omega arith, a)
parts_at_most m b k p waiting kind_force h a = (omega arith, a)
parts_at_most m b k p waiting kind_box h a = (omega arith, a)
parts_at_most m b k p waiting kind_application h a = (omega arith, (omega arith, a))
parts_at_most m b k p waiting kind_pair h a = (omega arith, (omega arith, a))
parts_at_most m b k p waiting kind_let h a = (omega arith, (omega arith, a))
parts_at_most m b k p waiting kind_apply h a = (omega arith, (omega arith, a))
parts_at_most m b k p waiting no_kind h a = a

-- A node puts at most two more binders around its parts.
pub at_most_next : (m k b : ℕ) (waiting : List ℕ)
    → AtMost m (b ∷ waiting)
    → AtMost (m + 2) (waiting_after k b waiting)
unfolding waiting_after
at_most_next m k b waiting a =
    parts_at_most m b k (parts k) waiting (kind_view k) a.0 (at_most_more m (m + 2) waiting (omega arith) a.1)

-- The one part of a node is put on the stack.
pub one_pushed : (ws ws' : List ℕ) (d k b last : ℕ)
    → parts k ≡ 1
    → last ≡ b + binders_of k
    → ws' ≡ set ws d (last % 65536)
    → d + 1 < length ws
    → b + 2 < 65536
    → stack_of ws' (d + 1) ≡ waiting_after k b (stack_of ws d)
one_pushed ws ws' d k b last p e w h h' =
    let next : d + 1 ≡ suc d = omega arith in
    let fits : last % 65536 ≡ b + binders_of k = omega (arith, binders_few k) in
    ap (stack_of ws') next
    ∙ ap (λ x. stack_of x (suc d)) (w ∙ ap (set ws d) fits)
    ∙ stack_push ws d (b + binders_of k) (omega arith)
    ∙ sym (waiting_one k b (stack_of ws d) p)

-- The two parts of a node are.
pub two_pushed : (ws ws₁ ws₂ : List ℕ) (d k b last : ℕ)
    → parts k ≡ 2
    → last ≡ b + binders_of k
    → ws₁ ≡ set ws d (last % 65536)
    → ws₂ ≡ set ws₁ (d + 1) (b % 65536)
    → d + 1 < length ws
    → b + 2 < 65536
    → stack_of ws₂ (d + 2) ≡ waiting_after k b (stack_of ws d)
two_pushed ws ws₁ ws₂ d k b last p e w w' h h' =
    let next : d + 1 ≡ suc d = omega arith in
    let after_next : d + 2 ≡ suc (suc d) = omega arith in
    let fits : last % 65536 ≡ b + binders_of k = omega (arith, binders_few k) in
    let fits' : b % 65536 ≡ b = omega arith in
    let one : ws₁ ≡ set ws d (b + binders_of k) = w ∙ ap (set ws d) fits in
    let two : ws₂ ≡ set ws₁ (suc d) b = w' ∙ ap (λ j. set ws₁ j (b % 65536)) next ∙ ap (set ws₁ (suc d)) fits' in
    let long : length ws₁ ≡ length ws = ap length one ∙ length-set ws d (b + binders_of k) in
    ap (stack_of ws₂) after_next
    ∙ ap (λ x. stack_of x (suc (suc d))) two
    ∙ stack_push ws₁ (suc d) b (omega arith)
    ∙ ap (λ x. b ∷ stack_of x (suc d)) one
    ∙ ap (λ x. b ∷ x) (stack_push ws d (b + binders_of k) (omega arith))
    ∙ sym (waiting_two k b (stack_of ws d) p)
