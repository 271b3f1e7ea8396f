-- Uses by binding, and by variable and label.
use Rattle.std.specs.Prelude.{ℕ, suc, ◌+◌, ◌≤◌, ◌<◌, ◌≡◌, refl, Bool, true, false, T as Truth, eqb}
use Rattle.std.proofs.Common.{add-one, arith, ◌∙◌, ap, ap₂, ltb→lt, eq-eqb, ne_eqb, eqb-true}
use Rattle.std.proofs.Math.Numerals.{add-two}
use Rattle.std.proofs.lemmas.Bool.{eqb-false}
use Rattle.rules.specs.Terms.{Term, variable, label, gate, constant, abstraction, application, pair, let_in, lift, force}
use Rattle.rules.specs.Terms.{box, apply, unit_value}
use Rattle.rules.specs.Circuits.{one_if}
use Rattle.rules.specs.Sizes.{nodes}
use Rattle.rules.specs.Inference.{uses, label_uses}
use Rattle.program.specs.Trees.{closed_under, labels_below}
use Rattle.check_program.specs.Layout.{variable_binding, counted}
use Rattle.rules.specs.Sizes.{most_labels}
use Rattle.rules.proofs.Laws.Booleans.{and_left, and_right}

one_at_most : (t : Bool) → one_if t ≤ 1
one_at_most true = omega arith
one_at_most false = omega arith

-- A term has at least as many nodes as uses of a binding.
pub counted_least : (d i : ℕ) (M : Term) → counted d i M ≤ nodes M
counted_least d i (variable x) = one_at_most (eqb i (variable_binding d x))
counted_least d i (label ℓ) = one_at_most (eqb i ℓ)
counted_least d i (gate x) = omega arith
counted_least d i unit_value = omega arith
counted_least d i (constant c) = omega arith
counted_least d i (abstraction A M) = omega (arith, counted_least (suc d) i M)
counted_least d i (application M N) = omega (arith, counted_least d i M, counted_least d i N)
counted_least d i (pair M N) = omega (arith, counted_least d i M, counted_least d i N)
counted_least d i (let_in M N) = omega (arith, counted_least d i M, counted_least (suc (suc d)) i N)
counted_least d i (lift M) = omega (arith, counted_least d i M)
counted_least d i (force M) = omega (arith, counted_least d i M)
counted_least d i (box T M) = omega (arith, counted_least d i M)
counted_least d i (apply M N) = omega (arith, counted_least d i M, counted_least d i N)

pub some_node : (M : Term) → 1 ≤ nodes M
some_node (variable x) = omega arith
some_node (label ℓ) = omega arith
some_node (gate x) = omega arith
some_node unit_value = omega arith
some_node (constant c) = omega arith
some_node (abstraction A M) = omega arith
some_node (application M N) = omega arith
some_node (pair M N) = omega arith
some_node (let_in M N) = omega arith
some_node (lift M) = omega arith
some_node (force M) = omega arith
some_node (box T M) = omega arith
some_node (apply M N) = omega arith

-- The uses of a label's binding are the uses of the label.
pub counted_label : (d ℓ : ℕ) (M : Term) → ℓ < most_labels → counted d ℓ M ≡ label_uses ℓ M
counted_label d ℓ (variable x) h = ap one_if (ne_eqb ℓ (variable_binding d x) (λ q. omega arith))
counted_label d ℓ (label k) h = refl
counted_label d ℓ (gate x) h = refl
counted_label d ℓ unit_value h = refl
counted_label d ℓ (constant c) h = refl
counted_label d ℓ (abstraction A M) h = counted_label (suc d) ℓ M h
counted_label d ℓ (application M N) h = ap₂ ◌+◌ (counted_label d ℓ M h) (counted_label d ℓ N h)
counted_label d ℓ (pair M N) h = ap₂ ◌+◌ (counted_label d ℓ M h) (counted_label d ℓ N h)
counted_label d ℓ (let_in M N) h = ap₂ ◌+◌ (counted_label d ℓ M h) (counted_label (suc (suc d)) ℓ N h)
counted_label d ℓ (lift M) h = counted_label d ℓ M h
counted_label d ℓ (force M) h = counted_label d ℓ M h
counted_label d ℓ (box T M) h = counted_label d ℓ M h
counted_label d ℓ (apply M N) h = ap₂ ◌+◌ (counted_label d ℓ M h) (counted_label d ℓ N h)

-- The uses of a variable's binding are the uses of the variable, in a term whose variables have binders and whose labels are
-- below 64.
same_binding : (d n x : ℕ) → n < d → x < d → eqb (variable_binding d n) (variable_binding d x) ≡ eqb n x
same_binding d n x h b = go (eqb n x) refl
  where
    go : (t : Bool) → eqb n x ≡ t → eqb (variable_binding d n) (variable_binding d x) ≡ t
    go true q = eq-eqb (variable_binding d n) (variable_binding d x) (omega (arith, eqb-true n x q))
    go false q = ne_eqb (variable_binding d n) (variable_binding d x) (λ s. eqb-false n x q (omega arith))

pub counted_variable : (d l n : ℕ) (M : Term)
    → n < d → l ≤ most_labels → Truth (closed_under d M) → Truth (labels_below l M)
    → counted d (variable_binding d n) M ≡ uses n M
counted_variable d l n (variable x) h f c b = ap one_if (same_binding d n x h (ltb→lt x d c))
counted_variable d l n (label ℓ) h f c b =
    let below : ℓ < l = ltb→lt ℓ l b in
    ap one_if (ne_eqb (variable_binding d n) ℓ (λ q. omega arith))
counted_variable d l n (gate x) h f c b = refl
counted_variable d l n unit_value h f c b = refl
counted_variable d l n (constant k) h f c b = refl
counted_variable d l n (abstraction A M) h f c b =
    let same : variable_binding d n ≡ variable_binding (suc d) (suc n) = omega arith in
    ap (λ i. counted (suc d) i M) same
    ∙ counted_variable (suc d) l (suc n) M (omega arith) f (rw add-one at c) b
counted_variable d l n (application M N) h f c b =
    ap₂ ◌+◌
    (counted_variable d l n M h f (and_left (closed_under d M) (closed_under d N) c) (and_left (labels_below l M) (labels_below l N) b))
    (counted_variable d l n N h f (and_right (closed_under d M) (closed_under d N) c) (and_right (labels_below l M) (labels_below l N) b))
counted_variable d l n (pair M N) h f c b =
    ap₂ ◌+◌
    (counted_variable d l n M h f (and_left (closed_under d M) (closed_under d N) c) (and_left (labels_below l M) (labels_below l N) b))
    (counted_variable d l n N h f (and_right (closed_under d M) (closed_under d N) c) (and_right (labels_below l M) (labels_below l N) b))
counted_variable d l n (let_in M N) h f c b =
    let same : variable_binding d n ≡ variable_binding (suc (suc d)) (suc (suc n)) = omega arith in
    ap₂ ◌+◌
    (counted_variable d l n M h f (and_left (closed_under d M) (closed_under (d + 2) N) c) (and_left (labels_below l M) (labels_below l N) b))
    (ap (λ i. counted (suc (suc d)) i N) same
    ∙ counted_variable (suc (suc d)) l (suc (suc n)) N (omega arith) f
    (rw add-two at (and_right (closed_under d M) (closed_under (d + 2) N) c))
    (and_right (labels_below l M) (labels_below l N) b))
counted_variable d l n (lift M) h f c b = counted_variable d l n M h f c b
counted_variable d l n (force M) h f c b = counted_variable d l n M h f c b
counted_variable d l n (box T M) h f c b = counted_variable d l n M h f c b
counted_variable d l n (apply M N) h f c b =
    ap₂ ◌+◌
    (counted_variable d l n M h f (and_left (closed_under d M) (closed_under d N) c) (and_left (labels_below l M) (labels_below l N) b))
    (counted_variable d l n N h f (and_right (closed_under d M) (closed_under d N) c) (and_right (labels_below l M) (labels_below l N) b))
