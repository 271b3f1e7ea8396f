-- The check agrees with the typing rules: it accepts a program with a type exactly if the rules derive that type with
-- exactly the labels of the file. 01, "Typing": "The check must agree with 000's derivation rules, context splitting
-- included".
use Rattle.std.specs.Prelude.{ℕ, zero, suc, ◌+◌, ◌≤◌, ◌<◌, ◌≡◌, refl, ◌↔◌, ◌≢◌, Bool, true, false, ◌&&◌, not, cond, List, [], ◌∷◌, T as Truth, eqb, ltb, length}
use Rattle.std.proofs.Common.{sym, ◌∙◌, ap, ap₂, subst, arith, eqb→eq, ltb→lt, lt→ltb}
use Rattle.std.proofs.Math.Path.{subst₂}
use Rattle.std.proofs.Math.Option.{Option, none, some, map, some-ne-none}
use Rattle.std.proofs.Math.Decide.{ℕ_discrete}
use Rattle.std.proofs.Math.Dec.{eqb_refl, not_T}
use Rattle.rules.specs.Types.{Wire, Ty, wire, ◌⊗◌, unit}
use Rattle.rules.specs.Gates.{nth, gate_type}
use Rattle.rules.specs.Terms.{Term, variable, label, gate, constant, abstraction, application, pair, let_in, lift, force}
use Rattle.rules.specs.Terms.{box, apply, unit_value}
use Rattle.rules.specs.Sizes.{nodes}
use Rattle.rules.specs.Circuits.{one_if}
use Rattle.rules.specs.Typing.{◌∣◌⊢◌∶◌}
use Rattle.rules.specs.Inference.{uses, label_uses, Linear, as_pair, as_reusable, given, gate_node_type, abstraction_type}
use Rattle.rules.specs.Inference.{application_type, pair_type, lift_type, box_type, apply_type, infer}
use Rattle.rules.proofs.Laws.Counting.{Plain, plain_var, plain_label, plain_gate, plain_circ, plain_abs, plain_app}
use Rattle.rules.proofs.Laws.Counting.{plain_tuple, plain_let, plain_lift, plain_force, plain_box, plain_apply, BoundOnce}
use Rattle.rules.proofs.Laws.Counting.{NoneCrosses, Counted, plain_unit}
use Rattle.rules.specs.Counting.{source}
use Rattle.rules.proofs.Theorems.Counting.{plain_unique, has→counted, counted→has}
use Rattle.rules.proofs.Theorems.Inferring.{infer→plain, plain→infer}
use Rattle.rules.proofs.Laws.Wires.{nth_some_within, nth_within, one_if_unequal}
use Rattle.check_program.specs.Checking.{Binder, ◌under◌, Checked, typed, fault, earlier, if_so, linear, used_wrongly}
use Rattle.check_program.specs.Checking.{crosses, followed, ruled, two_ruled, variable_found, label_found, check_term, wrong_label}
use Rattle.check_program.specs.Checking.{has_type, secondly, decided, verdict}
use Rattle.check_program.specs.Places.{types_of}

-- The type that the check finds, if it finds one.
abbrev pub type_of : Checked → Option Ty
type_of (typed A u v) = some A
type_of (fault e) = none

followed_type : (c : Checked) (next : Ty → Option ℕ → Option ℕ → Checked) (f : Ty → Option Ty)
    → ((A : Ty) (u v : Option ℕ) → type_of (next A u v) ≡ f A) → type_of (followed c next) ≡ given (type_of c) f
followed_type (typed A u v) next f h = h A u v
followed_type (fault e) next f h = refl

ruled_type : (e : ℕ) (o : Option Ty) (u v : Option ℕ) → type_of (ruled e o u v) ≡ o
ruled_type e (some A) u v = refl
ruled_type e none u v = refl

variable_found_lem : (e lifts : ℕ) (Γ : List Binder) (n : ℕ) → type_of (variable_found e lifts (nth Γ n)) ≡ nth (types_of Γ) n
variable_found_lem e lifts [] n = refl
variable_found_lem e lifts (A under bound ∷ Γ) zero = refl
variable_found_lem e lifts (A under bound ∷ Γ) (suc n) = variable_found_lem e lifts Γ n

label_found_lem : (e lifts : ℕ) (o : Option Wire) → type_of (label_found e lifts o) ≡ map wire o
label_found_lem e lifts (some α) = refl
label_found_lem e lifts none = refl

-- One part, with the rule for its node; and two parts.
one_type : (e : ℕ) (c : Checked) (rule : Ty → Option Ty) (w : Option ℕ → Option ℕ) (o : Option Ty)
    → type_of c ≡ o → type_of (followed c λ A u v. ruled e (rule A) (w u) v) ≡ given o rule
one_type e c rule w o h =
    followed_type c (λ A u v. ruled e (rule A) (w u) v) rule (λ A u v. ruled_type e (rule A) (w u) v)
    ∙ ap (λ x. given x rule) h

two_types : (e : ℕ) (c d : Checked) (rule : Ty → Ty → Option Ty) (o p : Option Ty)
    → type_of c ≡ o → type_of d ≡ p
    → type_of (two_ruled e rule c d) ≡ given o λ A. given p λ B. rule A B
two_types e c d rule o p h k = of_parts c d ∙ ap₂ (λ x y. given x λ A. given y λ B. rule A B) h k
  where
    of_parts : (c d : Checked) → type_of (two_ruled e rule c d) ≡ given (type_of c) λ A. given (type_of d) λ B. rule A B
    of_parts (fault i) (fault j) = refl
    of_parts (fault i) (typed B u' v') = refl
    of_parts (typed A u v) (fault j) = refl
    of_parts (typed A u v) (typed B u' v') = ruled_type e (rule A B) _ _

-- What the check finds at a let: its first part is a pair or not, and what it finds in the second part, for a pair.
abbrev pub let_found : ℕ → Term → Option (Ty × Ty) → (Ty → Ty → Checked) → Option ℕ → Option ℕ → Checked
let_found e N o second u v =
    elim o [
      | none ↦ fault e
      | some p ↦
          followed (second p.0 p.1) λ C u' v'.
          typed C
          (earlier (if_so (used_wrongly p.0 (uses 1 N)) e) (earlier (if_so (used_wrongly p.1 (uses 0 N)) e) (earlier u u')))
          (earlier v v')
    ]

pub given_same : (x : Option Ty) → given x (λ C. some C) ≡ x
given_same none = refl
given_same (some C) = refl

let_type : (e : ℕ) (c : Checked) (second : Ty → Ty → Checked) (N : Term) (o : Option Ty) (f : Ty → Ty → Option Ty)
    → type_of c ≡ o → ((A B : Ty) → type_of (second A B) ≡ f A B)
    → type_of (followed c λ P u v. let_found e N (as_pair P) second u v) ≡ given o λ P. given (as_pair P) λ p. f p.0 p.1
let_type e c second N o f h k =
    followed_type c _ (λ P. given (as_pair P) λ p. f p.0 p.1) (λ P u v. go (as_pair P) u v)
    ∙ ap (λ x. given x λ P. given (as_pair P) λ p. f p.0 p.1) h
  where
    go : (p : Option (Ty × Ty)) (u v : Option ℕ) → type_of (let_found e N p second u v) ≡ given p λ q. f q.0 q.1
    go none u v = refl
    go (some p) u v =
        followed_type (second p.0 p.1) _ (λ C. some C) (λ C u' v'. refl)
        ∙ given_same (type_of (second p.0 p.1))
        ∙ k p.0 p.1

-- The check finds the type that plain inference finds, and a fault where that finds none.
pub check_type : (L : List Wire) (Γ : List Binder) (lifts e : ℕ) (M : Term)
    → type_of (check_term L Γ lifts e M) ≡ infer (types_of Γ) (nth L) M
check_type L Γ lifts e (variable n) = variable_found_lem e lifts Γ n
check_type L Γ lifts e (label ℓ) = label_found_lem e lifts (nth L ℓ)
check_type L Γ lifts e (gate n) = ruled_type e (map gate_node_type (gate_type n)) none none
check_type L Γ lifts e unit_value = refl
check_type L Γ lifts e (constant b) = refl
check_type L Γ lifts e (abstraction A M) =
    one_type e (check_term L (A under lifts ∷ Γ) lifts (suc e) M) (abstraction_type A)
    (earlier (if_so (used_wrongly A (uses 0 M)) e)) (infer (A ∷ types_of Γ) (nth L) M)
    (check_type L (A under lifts ∷ Γ) lifts (suc e) M)
check_type L Γ lifts e (application M N) =
    two_types e (check_term L Γ lifts (suc e) M) (check_term L Γ lifts (suc e + nodes M) N) application_type
    (infer (types_of Γ) (nth L) M) (infer (types_of Γ) (nth L) N)
    (check_type L Γ lifts (suc e) M) (check_type L Γ lifts (suc e + nodes M) N)
check_type L Γ lifts e (pair M N) =
    two_types e (check_term L Γ lifts (suc e) M) (check_term L Γ lifts (suc e + nodes M) N) pair_type
    (infer (types_of Γ) (nth L) M) (infer (types_of Γ) (nth L) N)
    (check_type L Γ lifts (suc e) M) (check_type L Γ lifts (suc e + nodes M) N)
check_type L Γ lifts e (let_in M N) =
    let_type e (check_term L Γ lifts (suc e) M)
    (λ A B. check_term L (B under lifts ∷ A under lifts ∷ Γ) lifts (suc e + nodes M) N) N
    (infer (types_of Γ) (nth L) M) (λ A B. infer (B ∷ A ∷ types_of Γ) (nth L) N)
    (check_type L Γ lifts (suc e) M)
    (λ A B. check_type L (B under lifts ∷ A under lifts ∷ Γ) lifts (suc e + nodes M) N)
check_type L Γ lifts e (lift M) =
    one_type e (check_term L Γ (suc lifts) (suc e) M) lift_type (λ u. u) (infer (types_of Γ) (nth L) M)
    (check_type L Γ (suc lifts) (suc e) M)
check_type L Γ lifts e (force M) =
    one_type e (check_term L Γ lifts (suc e) M) as_reusable (λ u. u) (infer (types_of Γ) (nth L) M)
    (check_type L Γ lifts (suc e) M)
check_type L Γ lifts e (box T M) =
    one_type e (check_term L Γ lifts (suc e) M) (box_type T) (λ u. u) (infer (types_of Γ) (nth L) M)
    (check_type L Γ lifts (suc e) M)
check_type L Γ lifts e (apply M N) =
    two_types e (check_term L Γ lifts (suc e) M) (check_term L Γ lifts (suc e + nodes M) N) apply_type
    (infer (types_of Γ) (nth L) M) (infer (types_of Γ) (nth L) N)
    (check_type L Γ lifts (suc e) M) (check_type L Γ lifts (suc e + nodes M) N)

-- Where a node has a type, so have its parts.
followed_typed : (c : Checked) (next : Ty → Option ℕ → Option ℕ → Checked) (B : Ty) (u v : Option ℕ)
    → followed c next ≡ typed B u v
    → (A : Ty) × (u₁ : Option ℕ) × (v₁ : Option ℕ) × (c ≡ typed A u₁ v₁) × (next A u₁ v₁ ≡ typed B u v)
followed_typed (typed A u₁ v₁) next B u v h = (A, u₁, v₁, refl, h)
followed_typed (fault e) next B u v h = let z : ◌≡◌ {A = ℕ} 0 1 = cc in absurd (omega arith)

ruled_typed : (e : ℕ) (o : Option Ty) (B : Ty) (u₁ v₁ u v : Option ℕ)
    → ruled e o u₁ v₁ ≡ typed B u v → (u₁ ≡ u) × (v₁ ≡ v)
ruled_typed e (some A) B u₁ v₁ u v h = (cc, cc)
ruled_typed e none B u₁ v₁ u v h = let z : ◌≡◌ {A = ℕ} 0 1 = cc in absurd (omega arith)

one_typed : (e : ℕ) (c : Checked) (rule : Ty → Option Ty) (w : Option ℕ → Option ℕ) (B : Ty) (u v : Option ℕ)
    → followed c (λ A u₁ v₁. ruled e (rule A) (w u₁) v₁) ≡ typed B u v
    → (A : Ty) × (u₁ : Option ℕ) × (v₁ : Option ℕ) × (c ≡ typed A u₁ v₁) × (w u₁ ≡ u) × (v₁ ≡ v)
one_typed e c rule w B u v h =
    let f = followed_typed c _ B u v h in
    let r = ruled_typed e (rule f.0) B (w f.1) f.2 u v f.4 in
    (f.0, f.1, f.2, f.3, r.0, r.1)

two_typed : (e : ℕ) (c d : Checked) (rule : Ty → Ty → Option Ty) (C : Ty) (u v : Option ℕ)
    → two_ruled e rule c d ≡ typed C u v
    → (A : Ty) × (u₁ : Option ℕ) × (v₁ : Option ℕ) × (B : Ty) × (u₂ : Option ℕ) × (v₂ : Option ℕ)
    × (c ≡ typed A u₁ v₁) × (d ≡ typed B u₂ v₂) × (earlier u₁ u₂ ≡ u) × (earlier v₁ v₂ ≡ v)
two_typed e (fault i) (fault j) rule C u v h = let z : ◌≡◌ {A = ℕ} 0 1 = cc in absurd (omega arith)
two_typed e (fault i) (typed B u₂ v₂) rule C u v h = let z : ◌≡◌ {A = ℕ} 0 1 = cc in absurd (omega arith)
two_typed e (typed A u₁ v₁) (fault j) rule C u v h = let z : ◌≡◌ {A = ℕ} 0 1 = cc in absurd (omega arith)
two_typed e (typed A u₁ v₁) (typed B u₂ v₂) rule C u v h =
    let r = ruled_typed e (rule A B) C (earlier u₁ u₂) (earlier v₁ v₂) u v h in
    (A, u₁, v₁, B, u₂, v₂, refl, refl, r.0, r.1)

let_typed : (e : ℕ) (c : Checked) (second : Ty → Ty → Checked) (N : Term) (A B C : Ty) (u v : Option ℕ)
    → ((P : Ty) (u₁ v₁ : Option ℕ) → c ≡ typed P u₁ v₁ → P ≡ A ⊗ B)
    → followed c (λ P u₁ v₁. let_found e N (as_pair P) second u₁ v₁) ≡ typed C u v
    → (u₁ : Option ℕ) × (v₁ : Option ℕ) × (D : Ty) × (u₂ : Option ℕ) × (v₂ : Option ℕ)
    × (c ≡ typed (A ⊗ B) u₁ v₁) × (second A B ≡ typed D u₂ v₂)
    × (earlier (if_so (used_wrongly A (uses 1 N)) e) (earlier (if_so (used_wrongly B (uses 0 N)) e) (earlier u₁ u₂)) ≡ u)
    × (earlier v₁ v₂ ≡ v)
let_typed e c second N A B C u v p h =
    let f = followed_typed c _ C u v h in
    let q = p f.0 f.1 f.2 f.3 in
    let k = subst (λ P. let_found e N (as_pair P) second f.1 f.2 ≡ typed C u v) q f.4 in
    let g = followed_typed (second A B) _ C u v k in
    let x = g.4 in
    (f.1, f.2, g.0, g.1, g.2, f.3 ∙ ap (λ P. typed P f.1 f.2) q, g.3, cc, cc)

-- The type that the check finds is the plain type.
found_type : (L : List Wire) (Γ : List Binder) (lifts e : ℕ) (M : Term) (A : Ty)
    → Plain (types_of Γ) (nth L) M A
    → (B : Ty) (u v : Option ℕ) → check_term L Γ lifts e M ≡ typed B u v → B ≡ A
found_type L Γ lifts e M A d B u v h =
    plain_unique (infer→plain (types_of Γ) (nth L) M B (sym (check_type L Γ lifts e M) ∙ ap type_of h)) d

none_both : (a b : Option ℕ) → (earlier a b ≡ none) ↔ ((a ≡ none) × (b ≡ none))
none_both none b = (λ h. (refl, h), λ h. h.1)
none_both (some p) b = (λ h. absurd (some-ne-none p h), λ h. absurd (some-ne-none p h.0))

-- No place is given where the test fails.
none_if_false : (b : Bool) (e : ℕ) → (Truth b → ⊥) → if_so b e ≡ none
none_if_false true e f = absurd (f tt)
none_if_false false e f = refl

false_if_none : (b : Bool) (e : ℕ) → if_so b e ≡ none → Truth b → ⊥
false_if_none true e h t = some-ne-none e h
false_if_none false e h t = t

-- 17: the tests and what they say.
pub used_wrongly→ : (A : Ty) (n : ℕ) → Truth (used_wrongly A n) → Linear A × (n ≢ 1)
used_wrongly→ A n t = go (linear A) t
  where
    other : (b : Bool) → eqb n 1 ≡ b → Truth (not b) → n ≢ 1
    other true h t k = t
    other false h t k = subst Truth (ap (λ m. eqb m 1) (sym k) ∙ h) tt

    go : (b : Bool) → Truth (b && not (eqb n 1)) → Truth b × (n ≢ 1)
    go true t = (tt, other (eqb n 1) refl t)
    go false t = absurd t

pub →used_wrongly : (A : Ty) (n : ℕ) → Linear A → n ≢ 1 → Truth (used_wrongly A n)
→used_wrongly A n l h = go (linear A) l
  where
    go : (b : Bool) → Truth b → Truth (b && not (eqb n 1))
    go true t = not_T (eqb n 1) (λ t. h (eqb→eq n 1 t))
    go false t = absurd t

-- 18: likewise.
pub crosses→ : (A : Ty) (bound lifts : ℕ) → Truth (crosses A bound lifts) → Linear A × (bound < lifts)
crosses→ A bound lifts t = go (linear A) t
  where
    go : (b : Bool) → Truth (b && ltb bound lifts) → Truth b × (bound < lifts)
    go true t = (tt, ltb→lt bound lifts t)
    go false t = absurd t

pub →crosses : (A : Ty) (bound lifts : ℕ) → Linear A → bound < lifts → Truth (crosses A bound lifts)
→crosses A bound lifts l h = go (linear A) l
  where
    go : (b : Bool) → Truth b → Truth (b && ltb bound lifts)
    go true t = lt→ltb bound lifts h
    go false t = absurd t

once_or_place : (A : Ty) (n e : ℕ) → (Linear A → n ≡ 1) ↔ (if_so (used_wrongly A n) e ≡ none)
once_or_place A n e = (
  λ h. none_if_false (used_wrongly A n) e (λ t. (used_wrongly→ A n t).1 (h (used_wrongly→ A n t).0)),
  λ h l. go (ℕ_discrete n 1) h l,
)
  where
    go : Dec (n ≡ 1) → if_so (used_wrongly A n) e ≡ none → Linear A → n ≡ 1
    go (yes k) h l = k
    go (no k) h l = absurd (false_if_none (used_wrongly A n) e h (→used_wrongly A n l k))

-- None of the binders that stand under fewer lifts than these, if linear, and no label, if there is a lift, is used; the
-- uses of variables are f, those of labels g.
abbrev NoneInside : List Binder → ℕ → (ℕ → ℕ) → (ℕ → ℕ) → Type 0
NoneInside Γ lifts f g =
    ((n : ℕ) (A : Ty) (bound : ℕ) → nth Γ n ≡ some (A under bound) → Linear A → bound < lifts → f n ≡ 0)
    × (0 < lifts → (ℓ : ℕ) → g ℓ ≡ 0)

-- Each binder in scope stands under at most so many lifts.
abbrev Within : List Binder → ℕ → Type 0
Within Γ lifts = (n : ℕ) (A : Ty) (bound : ℕ) → nth Γ n ≡ some (A under bound) → bound ≤ lifts

within_more : (Γ : List Binder) (lifts : ℕ) (A : Ty) → Within Γ lifts → Within (A under lifts ∷ Γ) lifts
within_more Γ lifts A w zero B bound h = let e : bound ≡ lifts = cc in omega arith
within_more Γ lifts A w (suc n) B bound h = w n B bound h

within_lift : (Γ : List Binder) (lifts : ℕ) → Within Γ lifts → Within Γ (suc lifts)
within_lift Γ lifts w n A bound h = let e = w n A bound h in omega arith

-- The binder of a variable in scope, and its type.
pub binder_type : (Γ : List Binder) (n : ℕ) (A : Ty) (bound : ℕ)
    → nth Γ n ≡ some (A under bound) → nth (types_of Γ) n ≡ some A
binder_type [] n A bound h = let z : ◌≡◌ {A = ℕ} 0 1 = cc in absurd (omega arith)
binder_type (B under k ∷ Γ) zero A bound h = cc
binder_type (B under k ∷ Γ) (suc n) A bound h = binder_type Γ n A bound h

pub type_binder : (Γ : List Binder) (n : ℕ) (A : Ty)
    → nth (types_of Γ) n ≡ some A → (bound : ℕ) × (nth Γ n ≡ some (A under bound))
type_binder [] n A h = let z : ◌≡◌ {A = ℕ} 0 1 = cc in absurd (omega arith)
type_binder (B under k ∷ Γ) zero A h = (k, cc)
type_binder (B under k ∷ Γ) (suc n) A h = type_binder Γ n A h

-- A variable bound here stands under as many lifts as its binder.
none_inside_bound : (Γ : List Binder) (lifts : ℕ) (A : Ty) (f g : ℕ → ℕ)
    → NoneInside (A under lifts ∷ Γ) lifts f g ↔ NoneInside Γ lifts (λ n. f (suc n)) g
none_inside_bound Γ lifts A f g =
    (λ h. (λ n B bound e l b. h.0 (suc n) B bound e l b, h.1), λ h. (go h.0, h.1))
  where
    go : ((n : ℕ) (B : Ty) (bound : ℕ) → nth Γ n ≡ some (B under bound) → Linear B → bound < lifts → f (suc n) ≡ 0)
        → (n : ℕ) (B : Ty) (bound : ℕ)
        → nth (A under lifts ∷ Γ) n ≡ some (B under bound) → Linear B → bound < lifts → f n ≡ 0
    go h zero B bound e l b = let x : bound ≡ lifts = cc in absurd (omega arith)
    go h (suc n) B bound e l b = h n B bound e l b

none_inside_sum : (Γ : List Binder) (lifts : ℕ) (f f' g g' : ℕ → ℕ)
    → NoneInside Γ lifts (λ n. f n + f' n) (λ ℓ. g ℓ + g' ℓ) ↔ (NoneInside Γ lifts f g × NoneInside Γ lifts f' g')
none_inside_sum Γ lifts f f' g g' = (
  λ h. (
    (
      λ n A bound e l b. let x = h.0 n A bound e l b in omega arith,
      λ p ℓ. let x = h.1 p ℓ in omega arith,
    ),
    (
      λ n A bound e l b. let x = h.0 n A bound e l b in omega arith,
      λ p ℓ. let x = h.1 p ℓ in omega arith,
    ),
  ),
  λ h. (
    λ n A bound e l b. let x = h.0.0 n A bound e l b in let y = h.1.0 n A bound e l b in omega arith,
    λ p ℓ. let x = h.0.1 p ℓ in let y = h.1.1 p ℓ in omega arith,
  ),
)

-- What two parts say, together.
both_none : {P Q : Type 0} (a b c : Option ℕ)
    → P ↔ (a ≡ none) → Q ↔ (b ≡ none) → earlier a b ≡ c → (P × Q) ↔ (c ≡ none)
both_none a b c p q h = (
  λ x. sym h ∙ (none_both a b).1 (p.0 x.0, q.0 x.1),
  λ x. let y = (none_both a b).0 (h ∙ x) in (p.1 y.0, q.1 y.1),
)

parts_none : {P Q R S W : Type 0} (a b c : Option ℕ)
    → (P × R) ↔ (a ≡ none) → (Q × S) ↔ (b ≡ none) → W ↔ (R × S) → earlier a b ≡ c → ((P × Q) × W) ↔ (c ≡ none)
parts_none a b c p q w h = (
  λ x. sym h ∙ (none_both a b).1 (p.0 (x.0.0, (w.0 x.1).0), q.0 (x.0.1, (w.0 x.1).1)),
  λ x.
      let y = (none_both a b).0 (h ∙ x) in
      let l = p.1 y.0 in
      let r = q.1 y.1 in
      ((l.0, r.0), w.1 (l.1, r.1)),
)

-- A number of uses of one variable, or label, that is another.
one_use : (n : ℕ) → one_if (eqb n n) ≡ 0 → ⊥
one_use n h = go (eqb n n) (eqb_refl n) h
  where
    go : (b : Bool) → Truth b → one_if b ≡ 0 → ⊥
    go true t h = omega arith
    go false t h = t

-- A variable alone: the place of 18 is none exactly if it does not stand under more lifts than its binder.
variable_agrees : (Γ : List Binder) (lifts e n : ℕ) (B : Ty) (u v : Option ℕ)
    → variable_found e lifts (nth Γ n) ≡ typed B u v
    → (u ≡ none) × (NoneInside Γ lifts (λ m. one_if (eqb m n)) (λ ℓ. 0) ↔ (v ≡ none))
variable_agrees Γ lifts e n B u v h = go (nth Γ n) refl h
  where
    go : (o : Option Binder) → nth Γ n ≡ o → variable_found e lifts o ≡ typed B u v
        → (u ≡ none) × (NoneInside Γ lifts (λ m. one_if (eqb m n)) (λ ℓ. 0) ↔ (v ≡ none))
    go none k h = let z : ◌≡◌ {A = ℕ} 0 1 = cc in absurd (omega arith)
    go (some (A under bound)) k h =
        let x : if_so (crosses A bound lifts) e ≡ v = cc in (
          cc,
          (
            λ i.
                sym x
                ∙ none_if_false (crosses A bound lifts) e
                (λ t. one_use n (i.0 n A bound k (crosses→ A bound lifts t).0 (crosses→ A bound lifts t).1)),
            λ y. (
              λ m C other f l b.
                  one_if_unequal m n λ q.
                  let same : some (C under other) ≡ some (A under bound) = sym f ∙ ap (nth Γ) q ∙ k in
                  let type : C ≡ A = cc in
                  let place : other ≡ bound = cc in
                  false_if_none (crosses A bound lifts) e (x ∙ y)
                  (→crosses A bound lifts (subst Linear type l) (subst (λ j. j < lifts) place b)),
              λ p ℓ. refl,
            ),
          ),
        )

label_agrees : (L : List Wire) (Γ : List Binder) (lifts e ℓ : ℕ) (B : Ty) (u v : Option ℕ)
    → label_found e lifts (nth L ℓ) ≡ typed B u v
    → (u ≡ none) × (NoneInside Γ lifts (λ m. 0) (λ k. one_if (eqb k ℓ)) ↔ (v ≡ none))
label_agrees L Γ lifts e ℓ B u v h = go (nth L ℓ) h
  where
    go : (o : Option Wire) → label_found e lifts o ≡ typed B u v
        → (u ≡ none) × (NoneInside Γ lifts (λ m. 0) (λ k. one_if (eqb k ℓ)) ↔ (v ≡ none))
    go none h = let z : ◌≡◌ {A = ℕ} 0 1 = cc in absurd (omega arith)
    go (some α) h =
        let x : if_so (crosses (wire α) 0 lifts) e ≡ v = cc in (
          cc,
          (
            λ i.
                sym x
                ∙ none_if_false (crosses (wire α) 0 lifts) e
                (λ t. one_use ℓ (i.1 (crosses→ (wire α) 0 lifts t).1 ℓ)),
            λ y. (
              λ m C other f l b. refl,
              λ p k. absurd (false_if_none (crosses (wire α) 0 lifts) e (x ∙ y) (→crosses (wire α) 0 lifts tt p)),
            ),
          ),
        )

-- A lift: what is bound outside it is what stands under fewer lifts than what is inside.
lift_agrees : {P : Type 0} (Γ : List Binder) (lifts : ℕ) (f g : ℕ → ℕ) (v : Option ℕ)
    → Within Γ lifts
    → (P × NoneInside Γ (suc lifts) f g) ↔ (v ≡ none)
    → ((((n : ℕ) (A : Ty) → nth (types_of Γ) n ≡ some A → Linear A → f n ≡ 0) × ((ℓ : ℕ) → g ℓ ≡ 0) × P)
    × NoneInside Γ lifts f g) ↔ (v ≡ none)
lift_agrees Γ lifts f g v w i = (
  λ h. i.0 (h.0.2, (λ n A bound e l b. h.0.0 n A (binder_type Γ n A bound e) l, λ p ℓ. h.0.1 ℓ)),
  λ h.
      let x = i.1 h in (
        (
          λ n A e l.
              let b = type_binder Γ n A e in
              let p = w n A b.0 b.1 in
              x.1.0 n A b.0 b.1 l (omega arith),
          λ ℓ. x.1.1 (omega arith) ℓ,
          x.0,
        ),
        (λ n A bound e l b. x.1.0 n A bound e l (omega arith), λ p ℓ. x.1.1 (omega arith) ℓ),
      ),
)

-- The same of types that are those of the binders.
lift_under : {P : Type 0} (Γ : List Binder) {Δ : List Ty} (lifts : ℕ) (f g : ℕ → ℕ) (v : Option ℕ)
    → Δ ≡ types_of Γ → Within Γ lifts
    → (P × NoneInside Γ (suc lifts) f g) ↔ (v ≡ none)
    → ((((n : ℕ) (A : Ty) → nth Δ n ≡ some A → Linear A → f n ≡ 0) × ((ℓ : ℕ) → g ℓ ≡ 0) × P)
    × NoneInside Γ lifts f g) ↔ (v ≡ none)
lift_under {P} Γ lifts f g v same w i =
    subst
    (λ Δ. ((((n : ℕ) (A : Ty) → nth Δ n ≡ some A → Linear A → f n ≡ 0) × ((ℓ : ℕ) → g ℓ ≡ 0) × P)
    × NoneInside Γ lifts f g) ↔ (v ≡ none))
    (sym same) (lift_agrees Γ lifts f g v w i)

one_same : (e : ℕ) (c : Checked) (rule : Ty → Option Ty) (B : Ty) (u v : Option ℕ)
    → followed c (λ A u₁ v₁. ruled e (rule A) u₁ v₁) ≡ typed B u v → (A : Ty) × (c ≡ typed A u v)
one_same e c rule B u v h =
    let o = one_typed e c rule (λ x. x) B u v h in
    let x = o.3 in
    let y = o.4 in
    let z = o.5 in
    (o.0, cc)

-- The same with another way to say what is not used.
part_none : {P R S : Type 0} (a c : Option ℕ) → (P × R) ↔ (a ≡ none) → R ↔ S → a ≡ c → (P × S) ↔ (c ≡ none)
part_none a c p r h = (
  λ x. sym h ∙ p.0 (x.0, r.1 x.1),
  λ x. let y = p.1 (h ∙ x) in (y.0, r.0 y.1),
)

-- The uses of a term's variables and labels, as NoneInside takes them.
abbrev Untouched : List Binder → ℕ → Term → Type 0
Untouched Γ lifts M = NoneInside Γ lifts (λ n. uses n M) (λ ℓ. label_uses ℓ M)

untouched_parts : (Γ : List Binder) (lifts : ℕ) (M N : Term)
    → NoneInside Γ lifts (λ n. uses n M + uses n N) (λ ℓ. label_uses ℓ M + label_uses ℓ N)
    ↔ (Untouched Γ lifts M × Untouched Γ lifts N)
untouched_parts Γ lifts M N =
    none_inside_sum Γ lifts (λ n. uses n M) (λ n. uses n N) (λ ℓ. label_uses ℓ M) (λ ℓ. label_uses ℓ N)

-- Of a let: its second part stands under two more binders.
untouched_let : (Γ : List Binder) (lifts : ℕ) (A B : Ty) (M N : Term)
    → NoneInside Γ lifts (λ n. uses n M + uses (suc (suc n)) N) (λ ℓ. label_uses ℓ M + label_uses ℓ N)
    ↔ (Untouched Γ lifts M × Untouched (B under lifts ∷ A under lifts ∷ Γ) lifts N)
untouched_let Γ lifts A B M N = (
  λ h. let x = sum.0 h in (x.0, inner.1 (outer.1 x.1)),
  λ h. sum.1 (h.0, outer.0 (inner.0 h.1)),
)
  where
    sum : NoneInside Γ lifts (λ n. uses n M + uses (suc (suc n)) N) (λ ℓ. label_uses ℓ M + label_uses ℓ N)
        ↔ (Untouched Γ lifts M × NoneInside Γ lifts (λ n. uses (suc (suc n)) N) (λ ℓ. label_uses ℓ N))
    sum =
        none_inside_sum Γ lifts (λ n. uses n M) (λ n. uses (suc (suc n)) N) (λ ℓ. label_uses ℓ M) (λ ℓ. label_uses ℓ N)

    outer : NoneInside (A under lifts ∷ Γ) lifts (λ n. uses (suc n) N) (λ ℓ. label_uses ℓ N)
        ↔ NoneInside Γ lifts (λ n. uses (suc (suc n)) N) (λ ℓ. label_uses ℓ N)
    outer = none_inside_bound Γ lifts A (λ n. uses (suc n) N) (λ ℓ. label_uses ℓ N)

    inner : Untouched (B under lifts ∷ A under lifts ∷ Γ) lifts N
        ↔ NoneInside (A under lifts ∷ Γ) lifts (λ n. uses (suc n) N) (λ ℓ. label_uses ℓ N)
    inner = none_inside_bound (A under lifts ∷ Γ) lifts B (λ n. uses n N) (λ ℓ. label_uses ℓ N)

let_agrees : {R S : Type 0} (A B : Ty) (k l e : ℕ) (a b c : Option ℕ)
    → R ↔ (a ≡ none) → S ↔ (b ≡ none)
    → earlier (if_so (used_wrongly A k) e) (earlier (if_so (used_wrongly B l) e) (earlier a b)) ≡ c
    → ((Linear A → k ≡ 1) × (Linear B → l ≡ 1) × R × S) ↔ (c ≡ none)
let_agrees A B k l e a b c r s h =
    let ab = both_none a b (earlier a b) r s refl in
    let x = if_so (used_wrongly A k) e in
    let y = if_so (used_wrongly B l) e in
    let yab = both_none y (earlier a b) (earlier y (earlier a b)) (once_or_place B l e) ab refl in
    let all = both_none x (earlier y (earlier a b)) c (once_or_place A k e) yab h in (
      λ z. all.0 (z.0, (z.1, (z.2, z.3))),
      λ z. let t = all.1 z in (t.0, t.1.0, t.1.1.0, t.1.1.1),
    )

-- In a term with a plain type, the place of 17 is none exactly if each linear variable that it binds is used once, and the
-- place of 18 exactly if nothing linear is used under more lifts than its binder.
agrees_in : (L : List Wire) (Γ : List Binder) (lifts e : ℕ) {Δ : List Ty} {wires : ℕ → Option Wire} {M : Term} {A : Ty}
    → Within Γ lifts → (d : Plain Δ wires M A) → Δ ≡ types_of Γ → wires ≡ nth L → (B : Ty) (u v : Option ℕ)
    → check_term L Γ lifts e M ≡ typed B u v
    → (BoundOnce d ↔ (u ≡ none))
    × ((NoneCrosses d × NoneInside Γ lifts (λ n. uses n M) (λ ℓ. label_uses ℓ M)) ↔ (v ≡ none))
agrees_in L Γ lifts e w (plain_var {n = n} k) same labels B u v h =
    let x = variable_agrees Γ lifts e n B u v h in
    ((λ y. x.0, λ y. tt), (λ y. x.1.0 y.1, λ y. (tt, x.1.1 y)))
agrees_in L Γ lifts e w (plain_label {ℓ = ℓ} k) same labels B u v h =
    let x = label_agrees L Γ lifts e ℓ B u v h in
    ((λ y. x.0, λ y. tt), (λ y. x.1.0 y.1, λ y. (tt, x.1.1 y)))
agrees_in L Γ lifts e w (plain_gate {n = n} k) same labels B u v h =
    let x = ruled_typed e (map gate_node_type (gate_type n)) B none none u v h in
    ((λ y. sym x.0, λ y. tt), (λ y. sym x.1, λ y. (tt, (λ n A bound f l b. refl, λ p ℓ. refl))))
agrees_in L Γ lifts e w plain_unit same labels B u v h =
    let x = ruled_typed e (some unit) B none none u v h in
    ((λ y. sym x.0, λ y. tt), (λ y. sym x.1, λ y. (tt, (λ n A bound f l b. refl, λ p ℓ. refl))))
agrees_in L Γ lifts e w (plain_circ t b s d) same labels B u v h = let z : ◌≡◌ {A = ℕ} 0 1 = cc in absurd (omega arith)
agrees_in L Γ lifts e w (plain_abs {A = A} {M = M} b d) same labels B u v h =
    let wrong = if_so (used_wrongly A (uses 0 M)) e in
    let c = check_term L (A under lifts ∷ Γ) lifts (suc e) M in
    let o = one_typed e c (abstraction_type A) (earlier wrong) B u v h in
    let x = agrees_in L (A under lifts ∷ Γ) lifts (suc e) (within_more Γ lifts A w) d (ap (λ Δ. A ∷ Δ) same) labels o.0 o.1 o.2 o.3 in (
      both_none wrong o.1 u (once_or_place A (uses 0 M) e) x.0 o.4,
      part_none o.2 v x.1 (none_inside_bound Γ lifts A (λ n. uses n M) (λ ℓ. label_uses ℓ M)) o.5,
    )
agrees_in L Γ lifts e w (plain_app {M = M} {N = N} d f) same labels B u v h =
    let first = check_term L Γ lifts (suc e) M in
    let second = check_term L Γ lifts (suc e + nodes M) N in
    let t = two_typed e first second application_type B u v h in
    let x = agrees_in L Γ lifts (suc e) w d same labels t.0 t.1 t.2 t.6 in
    let y = agrees_in L Γ lifts (suc e + nodes M) w f same labels t.3 t.4 t.5 t.7 in (
      both_none t.1 t.4 u x.0 y.0 t.8,
      parts_none t.2 t.5 v x.1 y.1 (untouched_parts Γ lifts M N) t.9,
    )
agrees_in L Γ lifts e w (plain_tuple {M = M} {N = N} b d f) same labels B u v h =
    let first = check_term L Γ lifts (suc e) M in
    let second = check_term L Γ lifts (suc e + nodes M) N in
    let t = two_typed e first second pair_type B u v h in
    let x = agrees_in L Γ lifts (suc e) w d same labels t.0 t.1 t.2 t.6 in
    let y = agrees_in L Γ lifts (suc e + nodes M) w f same labels t.3 t.4 t.5 t.7 in (
      both_none t.1 t.4 u x.0 y.0 t.8,
      parts_none t.2 t.5 v x.1 y.1 (untouched_parts Γ lifts M N) t.9,
    )
agrees_in L Γ lifts e w (plain_let {A = A} {B = A'} {M = M} {N = N} d f) same labels B u v h =
    let inner = A' under lifts ∷ A under lifts ∷ Γ in
    let second : Ty → Ty → Checked = λ C D. check_term L (D under lifts ∷ C under lifts ∷ Γ) lifts (suc e + nodes M) N in
    let first = check_term L Γ lifts (suc e) M in
    let t = let_typed e first second N A A' B u v (found_type L Γ lifts (suc e) M (A ⊗ A') (subst₂ (λ Δ wires. Plain Δ wires M (A ⊗ A')) same labels d)) h in
    let x = agrees_in L Γ lifts (suc e) w d same labels (A ⊗ A') t.0 t.1 t.5 in
    let w₂ = within_more (A under lifts ∷ Γ) lifts A' (within_more Γ lifts A w) in
    let y = agrees_in L inner lifts (suc e + nodes M) w₂ f (ap (λ Δ. A' ∷ A ∷ Δ) same) labels t.2 t.3 t.4 t.6 in (
      let_agrees A A' (uses 1 N) (uses 0 N) e t.0 t.3 u x.0 y.0 t.7,
      parts_none t.1 t.4 v x.1 y.1 (untouched_let Γ lifts A A' M N) t.8,
    )
agrees_in L Γ lifts e w (plain_lift {M = M} b d) same labels B u v h =
    let o = one_same e (check_term L Γ (suc lifts) (suc e) M) lift_type B u v h in
    let x = agrees_in L Γ (suc lifts) (suc e) (within_lift Γ lifts w) d same labels o.0 u v o.1 in
    (x.0, lift_under Γ lifts (λ n. uses n M) (λ ℓ. label_uses ℓ M) v same w x.1)
agrees_in L Γ lifts e w (plain_force {M = M} d) same labels B u v h =
    let o = one_same e (check_term L Γ lifts (suc e) M) as_reusable B u v h in
    agrees_in L Γ lifts (suc e) w d same labels o.0 u v o.1
agrees_in L Γ lifts e w (plain_box {T = T} {M = M} t c d) same labels B u v h =
    let o = one_same e (check_term L Γ lifts (suc e) M) (box_type T) B u v h in
    agrees_in L Γ lifts (suc e) w d same labels o.0 u v o.1
agrees_in L Γ lifts e w (plain_apply {M = M} {N = N} d f) same labels B u v h =
    let first = check_term L Γ lifts (suc e) M in
    let second = check_term L Γ lifts (suc e + nodes M) N in
    let t = two_typed e first second apply_type B u v h in
    let x = agrees_in L Γ lifts (suc e) w d same labels t.0 t.1 t.2 t.6 in
    let y = agrees_in L Γ lifts (suc e + nodes M) w f same labels t.3 t.4 t.5 t.7 in (
      both_none t.1 t.4 u x.0 y.0 t.8,
      parts_none t.2 t.5 v x.1 y.1 (untouched_parts Γ lifts M N) t.9,
    )

agrees : (L : List Wire) (Γ : List Binder) (lifts e : ℕ) {M : Term} {A : Ty}
    → Within Γ lifts → (d : Plain (types_of Γ) (nth L) M A) (B : Ty) (u v : Option ℕ)
    → check_term L Γ lifts e M ≡ typed B u v
    → (BoundOnce d ↔ (u ≡ none))
    × ((NoneCrosses d × NoneInside Γ lifts (λ n. uses n M) (λ ℓ. label_uses ℓ M)) ↔ (v ≡ none))
agrees L Γ lifts e w d = agrees_in L Γ lifts e w d refl refl

-- Among k labels from ℓ on, none is found exactly if each of them is used once.
none_wrong→once : (M : Term) (ℓ k : ℕ) → wrong_label M ℓ k ≡ none
    → (p : ℕ) → ℓ ≤ p → p < ℓ + k → label_uses p M ≡ 1
none_wrong→once M ℓ zero h p a b = absurd (omega arith)
none_wrong→once M ℓ (suc k) h p a b = go (eqb (label_uses ℓ M) 1) refl h (none_wrong→once M (suc ℓ) k) (ℕ_discrete p ℓ)
  where
    go : (t : Bool) → eqb (label_uses ℓ M) 1 ≡ t → cond t (wrong_label M (suc ℓ) k) (some ℓ) ≡ none
        → (wrong_label M (suc ℓ) k ≡ none → (q : ℕ) → suc ℓ ≤ q → q < suc ℓ + k → label_uses q M ≡ 1)
        → Dec (p ≡ ℓ) → label_uses p M ≡ 1
    go true t h later (yes q) = ap (λ i. label_uses i M) q ∙ eqb→eq (label_uses ℓ M) 1 (subst Truth (sym t) tt)
    go true t h later (no q) = later h p (omega arith) (omega arith)
    go false t h later d = absurd (some-ne-none ℓ h)

once→none_wrong : (M : Term) (ℓ k : ℕ) → ((p : ℕ) → ℓ ≤ p → p < ℓ + k → label_uses p M ≡ 1)
    → wrong_label M ℓ k ≡ none
once→none_wrong M ℓ zero h = refl
once→none_wrong M ℓ (suc k) h =
    let later = once→none_wrong M (suc ℓ) k (λ p a b. h p (omega arith) (omega arith)) in
    let this = h ℓ (omega arith) (omega arith) in
    subst (λ n. cond (eqb n 1) (wrong_label M (suc ℓ) k) (some ℓ) ≡ none) (sym this) later

-- No label of the file is found exactly if each of them is used once.
none_wrong→labels_once : (L : List Wire) (M : Term) → wrong_label M 0 (length L) ≡ none
    → (ℓ : ℕ) (α : Wire) → nth L ℓ ≡ some α → label_uses ℓ M ≡ 1
none_wrong→labels_once L M h ℓ α f =
    let b = nth_some_within L ℓ f in
    none_wrong→once M 0 (length L) h ℓ (omega arith) (omega arith)

labels_once→none_wrong : (L : List Wire) (M : Term)
    → ((ℓ : ℕ) (α : Wire) → nth L ℓ ≡ some α → label_uses ℓ M ≡ 1) → wrong_label M 0 (length L) ≡ none
labels_once→none_wrong L M h = once→none_wrong M 0 (length L) once
  where
    once : (p : ℕ) → 0 ≤ p → p < 0 + length L → label_uses p M ≡ 1
    once p l b = let q = nth_within L p (omega arith) in h p q.0 q.1

accepted : (B : Ty) (u v : Option ℕ) (A : Ty) → secondly B u v ≡ has_type A → (u ≡ none) × (v ≡ none) × (B ≡ A)
accepted B none none A h = (refl, refl, cc)
accepted B none (some p) A h = let z : ◌≡◌ {A = ℕ} 0 1 = cc in absurd (omega arith)
accepted B (some p) v A h = let z : ◌≡◌ {A = ℕ} 0 1 = cc in absurd (omega arith)

-- No binder is in scope of the whole program.
within_none : Within [] 0
within_none n A bound h = absurd (some-ne-none (A under bound) (sym h))

none_inside_program : (f g : ℕ → ℕ) → NoneInside [] 0 f g
none_inside_program f g = (λ n A bound e l b. absurd (omega arith), λ p ℓ. absurd (omega arith))

-- 01, "Typing": if the check accepts a program with type A, the rules derive A, with exactly the labels of the file.
pub accepts→has : (L : List Wire) (e : ℕ) (M : Term) (A : Ty) → verdict L e M ≡ has_type A → [] ∣ nth L ⊢ M ∶ A
accepts→has L e M A h = go (check_term L [] 0 e M) refl h
  where
    go : (c : Checked) → check_term L [] 0 e M ≡ c → decided L M c ≡ has_type A → [] ∣ nth L ⊢ M ∶ A
    go (fault p) k h = let z : ◌≡◌ {A = ℕ} 0 1 = cc in absurd (omega arith)
    go (typed B u v) k h =
        let x = accepted B (earlier (wrong_label M 0 (length L)) u) v A h in
        let y = (none_both (wrong_label M 0 (length L)) u).0 x.0 in
        let i : infer [] (nth L) M ≡ some B = sym (check_type L [] 0 e M) ∙ ap type_of k in
        let d = infer→plain [] (nth L) M B i in
        let a = agrees L [] 0 e within_none d B u v k in
        subst (λ X. [] ∣ nth L ⊢ M ∶ X) x.2
        (counted→has
        (record {
          plain = d;
          variables_once = λ n C f l. absurd (some-ne-none C (sym f));
          labels_once = λ ℓ α f. none_wrong→labels_once L M y.0 ℓ α f;
          bound_once = a.0.1 y.1;
          none_crosses = (a.1.1 x.1).0;
        }))

-- 01, "Typing": if the rules derive A for the term of a program, with exactly the labels of the file, the check accepts it
-- with type A.
pub has→accepts : (L : List Wire) (e : ℕ) (M : Term) (A : Ty) → Truth (source M)
    → [] ∣ nth L ⊢ M ∶ A → verdict L e M ≡ has_type A
has→accepts L e M A s t = go (check_term L [] 0 e M) refl
  where
    c : Counted [] (nth L) M A
    c = has→counted t

    go : (r : Checked) → check_term L [] 0 e M ≡ r → decided L M r ≡ has_type A
    go (fault p) k =
        let i : none ≡ some A = sym (ap type_of k) ∙ check_type L [] 0 e M ∙ plain→infer s c.plain in
        absurd (some-ne-none A (sym i))
    go (typed B u v) k =
        let i : some B ≡ some A = sym (ap type_of k) ∙ check_type L [] 0 e M ∙ plain→infer s c.plain in
        let a = agrees L [] 0 e within_none c.plain B u v k in
        let x : u ≡ none = a.0.0 c.bound_once in
        let y : v ≡ none = a.1.0 (c.none_crosses, none_inside_program (λ n. uses n M) (λ ℓ. label_uses ℓ M)) in
        let z : wrong_label M 0 (length L) ≡ none = labels_once→none_wrong L M c.labels_once in
        let w : earlier (wrong_label M 0 (length L)) u ≡ none = (none_both (wrong_label M 0 (length L)) u).1 (z, x) in
        let type : B ≡ A = cc in
        rw (w, y, type) refl

-- So the check and the typing rules agree on the terms of program files: the same programs, and the same types.
pub check_is_typing : (L : List Wire) (e : ℕ) (M : Term) (A : Ty) → Truth (source M)
    → (verdict L e M ≡ has_type A) ↔ ([] ∣ nth L ⊢ M ∶ A)
check_is_typing L e M A s = (accepts→has L e M A, has→accepts L e M A s)
