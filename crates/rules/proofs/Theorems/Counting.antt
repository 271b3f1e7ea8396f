-- The typing rules, which share a context out to the parts of a term, agree with plain typing and counting. 01, "Typing":
-- "so it is used exactly once; none bound outside a lift is used inside it".
use Rattle.std.specs.Prelude.{ℕ, zero, suc, ◌+◌, ◌≡◌, refl, ◌↔◌, ◌⊎◌, Bool, true, false, not, List, [], ◌∷◌, T as Truth, eqb}
use Rattle.std.proofs.Common.{sym, ◌∙◌, ap, subst, inl, inr, arith, eqb→eq, T_not}
use Rattle.std.proofs.Math.Path.{fun_ext}
use Rattle.std.proofs.Math.Option.{Option, none, some, some-ne-none}
use Rattle.std.proofs.Math.Dec.{eqb_refl, eqb-zero-suc, eqb-suc-zero, eqb-suc-suc}
use Rattle.rules.specs.Types.{Wire, Ty, ◌⊗◌, copyable}
use Rattle.rules.specs.Gates.{nth}
use Rattle.rules.specs.Terms.{Tuple, single, both, Term, tuple, empty}
use Rattle.rules.specs.Circuits.{one_if}
use Rattle.rules.specs.Typing.{Context, LabelContext, Copyable, Shares, nowhere, left, right, copied, Splits}
use Rattle.rules.specs.Typing.{split_end, ◌then◌, Never, SplitsLabels, Parameter, parameters_end, absent, parameter}
use Rattle.rules.specs.Typing.{Variable, here, past_absent, past_parameter, NoLabel, OnlyLabel, ◌∣◌⊢◌∶◌, by_var}
use Rattle.rules.specs.Typing.{by_label, by_gate, by_circ, by_abs, by_app, by_tuple, by_let, by_lift, by_force, by_box}
use Rattle.rules.specs.Typing.{by_apply, by_unit}
use Rattle.rules.specs.Inference.{uses, label_uses, Linear}
use Rattle.rules.proofs.Laws.Counting.{Plain, plain_var, plain_label, plain_gate, plain_circ, plain_abs, plain_app}
use Rattle.rules.proofs.Laws.Counting.{plain_tuple, plain_let, plain_lift, plain_force, plain_box, plain_apply}
use Rattle.rules.proofs.Laws.Counting.{BoundOnce, NoneCrosses, Counted, plain_unit}
use Rattle.rules.proofs.Laws.Booleans.{is_true, is_false}

-- The context of a part of a term against the types of all variables in scope: a variable that is the part's own has
-- its type there, one that another part has is left out.
data PartOf : Context → List Ty → Type 0 where
  part_end : PartOf [] []
  elsewhere : {A : Ty} {Γ : Context} {Δ : List Ty} → PartOf Γ Δ → PartOf (none ∷ Γ) (A ∷ Δ)
  present : {A : Ty} {Γ : Context} {Δ : List Ty} → PartOf Γ Δ → PartOf (some A ∷ Γ) (A ∷ Δ)

-- The labels of a part against all labels.
abbrev LabelsOf : LabelContext → LabelContext → Type 0
LabelsOf Q P = (ℓ : ℕ) (α : Wire) → Q ℓ ≡ some α → P ℓ ≡ some α

part_left : {Γ Γ₁ Γ₂ : Context} {Δ : List Ty} → Splits Γ Γ₁ Γ₂ → PartOf Γ Δ → PartOf Γ₁ Δ
part_left split_end part_end = part_end
part_left (nowhere then s) (elsewhere p) = elsewhere (part_left s p)
part_left (left then s) (present p) = present (part_left s p)
part_left (right then s) (present p) = elsewhere (part_left s p)
part_left (copied c then s) (present p) = present (part_left s p)

part_right : {Γ Γ₁ Γ₂ : Context} {Δ : List Ty} → Splits Γ Γ₁ Γ₂ → PartOf Γ Δ → PartOf Γ₂ Δ
part_right split_end part_end = part_end
part_right (nowhere then s) (elsewhere p) = elsewhere (part_right s p)
part_right (left then s) (present p) = elsewhere (part_right s p)
part_right (right then s) (present p) = present (part_right s p)
part_right (copied c then s) (present p) = present (part_right s p)

shared_left : {a a₁ a₂ : Option Wire} (α : Wire) → Shares Never a a₁ a₂ → a₁ ≡ some α → a ≡ some α
shared_left α nowhere e = e
shared_left α left e = e
shared_left α right e = absurd (some-ne-none α (sym e))
shared_left α (copied n) e = absurd n

shared_right : {a a₁ a₂ : Option Wire} (α : Wire) → Shares Never a a₁ a₂ → a₂ ≡ some α → a ≡ some α
shared_right α nowhere e = e
shared_right α left e = absurd (some-ne-none α (sym e))
shared_right α right e = e
shared_right α (copied n) e = absurd n

labels_left : (Q Q₁ Q₂ P : LabelContext) → SplitsLabels Q Q₁ Q₂ → LabelsOf Q P → LabelsOf Q₁ P
labels_left Q Q₁ Q₂ P s p ℓ α e = p ℓ α (shared_left α (s ℓ) e)

labels_right : (Q Q₁ Q₂ P : LabelContext) → SplitsLabels Q Q₁ Q₂ → LabelsOf Q P → LabelsOf Q₂ P
labels_right Q Q₁ Q₂ P s p ℓ α e = p ℓ α (shared_right α (s ℓ) e)

variable_type : {Γ : Context} {Δ : List Ty} {n : ℕ} {A : Ty} → Variable Γ n A → PartOf Γ Δ → nth Δ n ≡ some A
variable_type (here h) (present p) = refl
variable_type (past_absent v) (elsewhere p) = variable_type v p
variable_type (past_parameter c v) (present p) = variable_type v p

-- What the rules type, plain typing types, with the same type.
has→plain : {Γ : Context} {Δ : List Ty} {Q : LabelContext} (P : LabelContext) {M : Term} {A : Ty}
    → PartOf Γ Δ → LabelsOf Q P → Γ ∣ Q ⊢ M ∶ A → Plain Δ P M A
has→plain P p q (by_var v n) = plain_var (variable_type v p)
has→plain P p q (by_label {ℓ = ℓ} {α = α} h o) = plain_label (q ℓ α o.0)
has→plain P p q (by_gate h n e) = plain_gate e
has→plain P p q (by_unit h n) = plain_unit
has→plain P p q (by_circ h n t b s d) = plain_circ t b s d
has→plain P p q (by_abs b d) = plain_abs b (has→plain P (present p) q d)
has→plain P p q (by_app {Q = Q} {Q₁ = Q₁} {Q₂ = Q₂} s l d e) =
    plain_app
    (has→plain P (part_left s p) (labels_left Q Q₁ Q₂ P l q) d)
    (has→plain P (part_right s p) (labels_right Q Q₁ Q₂ P l q) e)
has→plain P p q (by_tuple {Q = Q} {Q₁ = Q₁} {Q₂ = Q₂} b s l d e) =
    plain_tuple b
    (has→plain P (part_left s p) (labels_left Q Q₁ Q₂ P l q) d)
    (has→plain P (part_right s p) (labels_right Q Q₁ Q₂ P l q) e)
has→plain P p q (by_let {Q = Q} {Q₁ = Q₁} {Q₂ = Q₂} s l d e) =
    plain_let
    (has→plain P (part_left s p) (labels_left Q Q₁ Q₂ P l q) d)
    (has→plain P (present (present (part_right s p))) (labels_right Q Q₁ Q₂ P l q) e)
has→plain P p q (by_lift b h n d) = plain_lift b (has→plain P p q d)
has→plain P p q (by_force d) = plain_force (has→plain P p q d)
has→plain P p q (by_box t u d) = plain_box t u (has→plain P p q d)
has→plain P p q (by_apply {Q = Q} {Q₁ = Q₁} {Q₂ = Q₂} s l d e) =
    plain_apply
    (has→plain P (part_left s p) (labels_left Q Q₁ Q₂ P l q) d)
    (has→plain P (part_right s p) (labels_right Q Q₁ Q₂ P l q) e)

-- The same for a closed program.
pub closed→plain : {Q : LabelContext} {M : Term} {A : Ty} → [] ∣ Q ⊢ M ∶ A → Plain [] Q M A
closed→plain {Q} d = has→plain Q part_end (λ ℓ α e. e) d

-- A label tuple has at most one plain type.
tuple_unique : (r : Tuple) {Γ : List Ty} {Q : LabelContext} {A B : Ty}
    → Plain Γ Q (tuple r) A → Plain Γ Q (tuple r) B → A ≡ B
tuple_unique (single ℓ) (plain_label h) (plain_label k) = cc
tuple_unique empty plain_unit plain_unit = refl
tuple_unique (both t u) (plain_tuple b d e) (plain_tuple c f g) =
    let x = tuple_unique t d f in
    let y = tuple_unique u e g in
    cc

-- Plain typing gives a term at most one type.
pub plain_unique : {Γ : List Ty} {Q : LabelContext} {M : Term} {A B : Ty} → Plain Γ Q M A → Plain Γ Q M B → A ≡ B
plain_unique (plain_var h) (plain_var k) = cc
plain_unique (plain_label h) (plain_label k) = cc
plain_unique (plain_gate h) (plain_gate k) = cc
plain_unique plain_unit plain_unit = refl
plain_unique (plain_circ {r = r} t b s d) (plain_circ t' b' s' d') =
    let x = tuple_unique r (closed→plain d) (closed→plain d') in
    cc
plain_unique (plain_abs b d) (plain_abs c e) =
    let x = plain_unique d e in
    cc
plain_unique (plain_app d e) (plain_app f g) =
    let x = plain_unique d f in
    cc
plain_unique (plain_tuple b d e) (plain_tuple c f g) =
    let x = plain_unique d f in
    let y = plain_unique e g in
    cc
plain_unique (plain_let {Γ = Γ} {Q = Q} {A = A} {B = B} {C = C} {N = N} d e) (plain_let {A = A'} {B = B'} {C = C'} f g) =
    let x : A ⊗ B ≡ A' ⊗ B' = plain_unique d f in
    let a : A' ≡ A = cc in
    let b : B' ≡ B = cc in
    plain_unique e (subst (λ X. Plain (B ∷ X ∷ Γ) Q N C') a (subst (λ Y. Plain (Y ∷ A' ∷ Γ) Q N C') b g))
plain_unique (plain_lift b d) (plain_lift c e) =
    let x = plain_unique d e in
    cc
plain_unique (plain_force d) (plain_force e) =
    let x = plain_unique d e in
    cc
plain_unique (plain_box t u d) (plain_box t' u' e) =
    let x = plain_unique d e in
    cc
plain_unique (plain_apply d e) (plain_apply f g) =
    let x = plain_unique d f in
    cc

-- A closed program has at most one type under the same labels.
pub unique_types : {Q : LabelContext} {M : Term} {A B : Ty} → [] ∣ Q ⊢ M ∶ A → [] ∣ Q ⊢ M ∶ B → A ≡ B
unique_types d e = plain_unique (closed→plain d) (closed→plain e)

-- A number of uses is right for an entry of a context: none where the entry is left out, one where it is there and must
-- be used once, any where it may be copied.
abbrev RightUses : {X : Type 0} → (X → Type 0) → Option X → ℕ → Type 0
RightUses Once none k = k ≡ 0
RightUses Once (some x) k = Once x → k ≡ 1

-- How an entry is shared out to two parts so that the uses in each are right.
abbrev RightlyShared : {X : Type 0} → (X → Type 0) → (X → Type 0) → Option X → ℕ → ℕ → Type 0
RightlyShared {X} MayCopy Once a k l =
    (a₁ : Option X) × (a₂ : Option X) × Shares MayCopy a a₁ a₂ × RightUses Once a₁ k × RightUses Once a₂ l

-- No entry both may be copied and must be used once.
module _ {X : Type 0} (MayCopy Once : X → Type 0) (apart : (x : X) → MayCopy x → Once x → ⊥) where
  -- If the uses in both parts are right, so are those in the whole.
  right_sum : {a a₁ a₂ : Option X} (k l : ℕ)
      → Shares MayCopy a a₁ a₂ → RightUses Once a₁ k → RightUses Once a₂ l → RightUses Once a (k + l)
  right_sum k l nowhere r t = omega arith
  right_sum k l left r t = λ o. let e = r o in omega arith
  right_sum k l right r t = λ o. let e = t o in omega arith
  right_sum k l (copied {x = x} c) r t = λ o. absurd (apart x c o)

  -- One use in two parts: the entry goes to the part that uses it.
  one_of_two : (x : X) (k l : ℕ) → k + l ≡ 1 → RightlyShared MayCopy Once (some x) k l
  one_of_two x zero l e = (none, some x, right, refl, λ o. omega arith)
  one_of_two x (suc k) l e = (some x, none, left, λ o. omega arith, omega arith)

  -- If the uses in the whole are right, the entry can be shared out so that those in the parts are.
  right_share : (a : Option X) (k l : ℕ) → ((x : X) → MayCopy x ⊎ Once x)
      → RightUses Once a (k + l) → RightlyShared MayCopy Once a k l
  right_share none k l either r = (none, none, nowhere, omega arith, omega arith)
  right_share (some x) k l either r = go (either x)
    where
      go : MayCopy x ⊎ Once x → RightlyShared MayCopy Once (some x) k l
      go (inl c) = (some x, some x, copied c, λ o. absurd (apart x c o), λ o. absurd (apart x c o))
      go (inr o) = one_of_two x k l (r o)

linear_apart : (A : Ty) → Copyable A → Linear A → ⊥
linear_apart A c l = T_not (copyable A) l c

copyable_or_linear : (A : Ty) → Copyable A ⊎ Linear A
copyable_or_linear A = go (copyable A)
  where
    go : (b : Bool) → Truth b ⊎ Truth (not b)
    go true = inl tt
    go false = inr tt

-- A label must always be used once.
abbrev Always : Wire → Type 0
Always α = Unit

never_apart : (α : Wire) → Never α → Always α → ⊥
never_apart α n o = n

-- The uses of the variables of a context, by number, are right.
abbrev VariablesRight : Context → (ℕ → ℕ) → Type 0
VariablesRight [] f = Unit
VariablesRight (a ∷ Γ) f = RightUses Linear a (f 0) × VariablesRight Γ (λ n. f (suc n))

-- The uses of the labels are right.
abbrev LabelsRight : LabelContext → Term → Type 0
LabelsRight Q M = (ℓ : ℕ) → RightUses Always (Q ℓ) (label_uses ℓ M)

variables_same : (Γ : Context) (f g : ℕ → ℕ) → ((n : ℕ) → f n ≡ g n) → VariablesRight Γ f → VariablesRight Γ g
variables_same Γ f g e r = subst (λ h. VariablesRight Γ h) (fun_ext e) r

-- Two parts with the right uses make a whole with the right uses.
variables_sum : {Γ Γ₁ Γ₂ : Context} (f g : ℕ → ℕ)
    → Splits Γ Γ₁ Γ₂ → VariablesRight Γ₁ f → VariablesRight Γ₂ g → VariablesRight Γ (λ n. f n + g n)
variables_sum f g split_end r t = tt
variables_sum f g (s then ss) r t = (
  right_sum Copyable Linear linear_apart (f 0) (g 0) s r.0 t.0,
  variables_sum (λ n. f (suc n)) (λ n. g (suc n)) ss r.1 t.1,
)

-- Where every type that is there may be copied, it is right to use none.
unused_right : {Γ : Context} → Parameter Γ → VariablesRight Γ (λ n. 0)
unused_right parameters_end = tt
unused_right (absent h) = (refl, unused_right h)
unused_right (parameter {A = A} c h) = (λ l. absurd (linear_apart A c l), unused_right h)

-- How often variable m, or label m, stands in a term that is variable n, or label n.
abbrev is : ℕ → ℕ → ℕ
is m n = one_if (eqb m n)

variable_right : {Γ : Context} {n : ℕ} {A : Ty} → Variable Γ n A → VariablesRight Γ (λ m. is m n)
variable_right (here {Γ = Γ} h) = (
  λ l. refl,
  variables_same Γ (λ m. 0) (λ m. is (suc m) 0) (λ m. ap one_if (sym (eqb-suc-zero m))) (unused_right h),
)
variable_right (past_absent {n = n} {Γ = Γ} v) = (
  ap one_if (eqb-zero-suc n),
  variables_same Γ (λ m. is m n) (λ m. is (suc m) (suc n)) (λ m. ap one_if (sym (eqb-suc-suc m n))) (variable_right v),
)
variable_right (past_parameter {n = n} {B = B} {Γ = Γ} c v) = (
  λ l. absurd (linear_apart B c l),
  variables_same Γ (λ m. is m n) (λ m. is (suc m) (suc n)) (λ m. ap one_if (sym (eqb-suc-suc m n))) (variable_right v),
)

-- The rules give the right number of uses of each variable of the context.
has→variables : {Γ : Context} {Q : LabelContext} {M : Term} {A : Ty} → Γ ∣ Q ⊢ M ∶ A → VariablesRight Γ (λ n. uses n M)
has→variables (by_var v n) = variable_right v
has→variables (by_label h o) = unused_right h
has→variables (by_gate h n e) = unused_right h
has→variables (by_unit h n) = unused_right h
has→variables (by_circ h n t b s d) = unused_right h
has→variables (by_abs b d) = (has→variables d).1
has→variables (by_app {M = M} {N = N} s l d e) =
    variables_sum (λ n. uses n M) (λ n. uses n N) s (has→variables d) (has→variables e)
has→variables (by_tuple {M = M} {N = N} b s l d e) =
    variables_sum (λ n. uses n M) (λ n. uses n N) s (has→variables d) (has→variables e)
has→variables (by_let {M = M} {N = N} s l d e) =
    variables_sum (λ n. uses n M) (λ n. uses (suc (suc n)) N) s (has→variables d) (has→variables e).1.1
has→variables (by_lift b h n d) = has→variables d
has→variables (by_force d) = has→variables d
has→variables (by_box t u d) = has→variables d
has→variables (by_apply {M = M} {N = N} s l d e) =
    variables_sum (λ n. uses n M) (λ n. uses n N) s (has→variables d) (has→variables e)

no_label_right : (Q : LabelContext) → NoLabel Q → (ℓ : ℕ) → RightUses Always (Q ℓ) 0
no_label_right Q n ℓ = subst (λ a. RightUses Always a 0) (sym (n ℓ)) refl

only_label_right : (Q : LabelContext) (ℓ : ℕ) (α : Wire) → OnlyLabel Q ℓ α → (k : ℕ) → RightUses Always (Q k) (is k ℓ)
only_label_right Q ℓ α o k = go (eqb k ℓ) refl
  where
    go : (b : Bool) → eqb k ℓ ≡ b → RightUses Always (Q k) (one_if b)
    go true e =
        let h : Q k ≡ some α = ap Q (eqb→eq k ℓ (subst Truth (sym e) tt)) ∙ o.0 in
        subst (λ a. RightUses Always a 1) (sym h) (λ u. refl)
    go false e =
        let h : Q k ≡ none = o.1 k (λ p. subst Truth (ap (eqb k) p ∙ e) (eqb_refl k)) in
        subst (λ a. RightUses Always a 0) (sym h) refl

labels_sum : (Q Q₁ Q₂ : LabelContext) (M N : Term)
    → SplitsLabels Q Q₁ Q₂ → LabelsRight Q₁ M → LabelsRight Q₂ N
    → (ℓ : ℕ) → RightUses Always (Q ℓ) (label_uses ℓ M + label_uses ℓ N)
labels_sum Q Q₁ Q₂ M N s r t ℓ =
    right_sum Never Always never_apart (label_uses ℓ M) (label_uses ℓ N) (s ℓ) (r ℓ) (t ℓ)

-- The rules give the right number of uses of each label.
has→labels : {Γ : Context} {Q : LabelContext} {M : Term} {A : Ty} → Γ ∣ Q ⊢ M ∶ A → LabelsRight Q M
has→labels (by_var {Q = Q} v n) = no_label_right Q n
has→labels (by_label {Q = Q} {ℓ = ℓ} {α = α} h o) = only_label_right Q ℓ α o
has→labels (by_gate {Q = Q} h n e) = no_label_right Q n
has→labels (by_unit {Q = Q} h n) = no_label_right Q n
has→labels (by_circ {Q = Q} h n t b s d) = no_label_right Q n
has→labels (by_abs b d) = has→labels d
has→labels (by_app {Q = Q} {Q₁ = Q₁} {Q₂ = Q₂} {M = M} {N = N} s l d e) =
    labels_sum Q Q₁ Q₂ M N l (has→labels d) (has→labels e)
has→labels (by_tuple {Q = Q} {Q₁ = Q₁} {Q₂ = Q₂} {M = M} {N = N} b s l d e) =
    labels_sum Q Q₁ Q₂ M N l (has→labels d) (has→labels e)
has→labels (by_let {Q = Q} {Q₁ = Q₁} {Q₂ = Q₂} {M = M} {N = N} s l d e) =
    labels_sum Q Q₁ Q₂ M N l (has→labels d) (has→labels e)
has→labels (by_lift b h n d) = has→labels d
has→labels (by_force d) = has→labels d
has→labels (by_box t u d) = has→labels d
has→labels (by_apply {Q = Q} {Q₁ = Q₁} {Q₂ = Q₂} {M = M} {N = N} s l d e) =
    labels_sum Q Q₁ Q₂ M N l (has→labels d) (has→labels e)

-- Each linear variable bound is used exactly once.
has→bound_once : {Γ : Context} {Δ : List Ty} {Q : LabelContext} (P : LabelContext) {M : Term} {A : Ty}
    (p : PartOf Γ Δ) (q : LabelsOf Q P) (d : Γ ∣ Q ⊢ M ∶ A) → BoundOnce (has→plain P p q d)
unfolding has→plain
has→bound_once P p q (by_var v n) = tt
has→bound_once P p q (by_label h o) = tt
has→bound_once P p q (by_gate h n e) = tt
has→bound_once P p q (by_unit h n) = tt
has→bound_once P p q (by_circ h n t b s d) = tt
has→bound_once P p q (by_abs b d) = ((has→variables d).0, has→bound_once P (present p) q d)
has→bound_once P p q (by_app {Q = Q} {Q₁ = Q₁} {Q₂ = Q₂} s l d e) = (
  has→bound_once P (part_left s p) (labels_left Q Q₁ Q₂ P l q) d,
  has→bound_once P (part_right s p) (labels_right Q Q₁ Q₂ P l q) e,
)
has→bound_once P p q (by_tuple {Q = Q} {Q₁ = Q₁} {Q₂ = Q₂} b s l d e) = (
  has→bound_once P (part_left s p) (labels_left Q Q₁ Q₂ P l q) d,
  has→bound_once P (part_right s p) (labels_right Q Q₁ Q₂ P l q) e,
)
has→bound_once P p q (by_let {Q = Q} {Q₁ = Q₁} {Q₂ = Q₂} s l d e) = (
  (has→variables e).1.0,
  (has→variables e).0,
  has→bound_once P (part_left s p) (labels_left Q Q₁ Q₂ P l q) d,
  has→bound_once P (present (present (part_right s p))) (labels_right Q Q₁ Q₂ P l q) e,
)
has→bound_once P p q (by_lift b h n d) = has→bound_once P p q d
has→bound_once P p q (by_force d) = has→bound_once P p q d
has→bound_once P p q (by_box t u d) = has→bound_once P p q d
has→bound_once P p q (by_apply {Q = Q} {Q₁ = Q₁} {Q₂ = Q₂} s l d e) = (
  has→bound_once P (part_left s p) (labels_left Q Q₁ Q₂ P l q) d,
  has→bound_once P (part_right s p) (labels_right Q Q₁ Q₂ P l q) e,
)

-- Where all types there may be copied, the linear variables are elsewhere, and so unused.
linear_unused : {Γ : Context} {Δ : List Ty} (f : ℕ → ℕ)
    → PartOf Γ Δ → Parameter Γ → VariablesRight Γ f
    → (n : ℕ) (A : Ty) → nth Δ n ≡ some A → Linear A → f n ≡ 0
linear_unused f part_end parameters_end r n A e l = absurd (some-ne-none A (sym e))
linear_unused f (elsewhere p) (absent h) r zero A e l = r.0
linear_unused f (elsewhere p) (absent h) r (suc n) A e l = linear_unused (λ m. f (suc m)) p h r.1 n A e l
linear_unused f (present {A = B} p) (parameter c h) r zero A e l =
    let q : A ≡ B = cc in
    absurd (linear_apart B c (subst Linear q l))
linear_unused f (present p) (parameter c h) r (suc n) A e l = linear_unused (λ m. f (suc m)) p h r.1 n A e l

no_label_unused : {Γ : Context} (Q : LabelContext) {M : Term} {A : Ty}
    → NoLabel Q → Γ ∣ Q ⊢ M ∶ A → (ℓ : ℕ) → label_uses ℓ M ≡ 0
no_label_unused Q {M} n d ℓ = subst (λ a. RightUses Always a (label_uses ℓ M)) (n ℓ) (has→labels d ℓ)

-- No linear variable and no label from outside a lift is used inside it.
has→none_crosses : {Γ : Context} {Δ : List Ty} {Q : LabelContext} (P : LabelContext) {M : Term} {A : Ty}
    (p : PartOf Γ Δ) (q : LabelsOf Q P) (d : Γ ∣ Q ⊢ M ∶ A) → NoneCrosses (has→plain P p q d)
unfolding has→plain
has→none_crosses P p q (by_var v n) = tt
has→none_crosses P p q (by_label h o) = tt
has→none_crosses P p q (by_gate h n e) = tt
has→none_crosses P p q (by_unit h n) = tt
has→none_crosses P p q (by_circ h n t b s d) = tt
has→none_crosses P p q (by_abs b d) = has→none_crosses P (present p) q d
has→none_crosses P p q (by_app {Q = Q} {Q₁ = Q₁} {Q₂ = Q₂} s l d e) = (
  has→none_crosses P (part_left s p) (labels_left Q Q₁ Q₂ P l q) d,
  has→none_crosses P (part_right s p) (labels_right Q Q₁ Q₂ P l q) e,
)
has→none_crosses P p q (by_tuple {Q = Q} {Q₁ = Q₁} {Q₂ = Q₂} b s l d e) = (
  has→none_crosses P (part_left s p) (labels_left Q Q₁ Q₂ P l q) d,
  has→none_crosses P (part_right s p) (labels_right Q Q₁ Q₂ P l q) e,
)
has→none_crosses P p q (by_let {Q = Q} {Q₁ = Q₁} {Q₂ = Q₂} s l d e) = (
  has→none_crosses P (part_left s p) (labels_left Q Q₁ Q₂ P l q) d,
  has→none_crosses P (present (present (part_right s p))) (labels_right Q Q₁ Q₂ P l q) e,
)
has→none_crosses P p q (by_lift {Q = Q} {M = M} b h n d) =
    (linear_unused (λ m. uses m M) p h (has→variables d), no_label_unused Q n d, has→none_crosses P p q d)
has→none_crosses P p q (by_force d) = has→none_crosses P p q d
has→none_crosses P p q (by_box t u d) = has→none_crosses P p q d
has→none_crosses P p q (by_apply {Q = Q} {Q₁ = Q₁} {Q₂ = Q₂} s l d e) = (
  has→none_crosses P (part_left s p) (labels_left Q Q₁ Q₂ P l q) d,
  has→none_crosses P (part_right s p) (labels_right Q Q₁ Q₂ P l q) e,
)

-- What the rules type is used as the rules ask: it has its plain type, every linear variable and label is used exactly
-- once, and none is used through a lift.
pub has→counted : {Q : LabelContext} {M : Term} {A : Ty} → [] ∣ Q ⊢ M ∶ A → Counted [] Q M A
has→counted {Q} {M} d =
    record {
      plain = has→plain Q part_end (λ ℓ α e. e) d;
      variables_once = λ n B e l. absurd (some-ne-none B (sym e));
      labels_once = λ ℓ α e. subst (λ a. RightUses Always a (label_uses ℓ M)) e (has→labels d ℓ) tt;
      bound_once = has→bound_once Q part_end (λ ℓ α e. e) d;
      none_crosses = has→none_crosses Q part_end (λ ℓ α e. e) d;
    }

-- A context shared out to two parts so that the uses in each are right.
abbrev ContextShared : Context → (ℕ → ℕ) → (ℕ → ℕ) → Type 0
ContextShared Γ f g =
    (Γ₁ : Context) × (Γ₂ : Context) × Splits Γ Γ₁ Γ₂ × VariablesRight Γ₁ f × VariablesRight Γ₂ g

-- Each linear variable goes to the part that uses it, one that may be copied to both.
context_share : (Γ : Context) (f g : ℕ → ℕ) → VariablesRight Γ (λ n. f n + g n) → ContextShared Γ f g
context_share [] f g r = ([], [], split_end, tt, tt)
context_share (a ∷ Γ) f g r =
    let s = right_share Copyable Linear linear_apart a (f 0) (g 0) copyable_or_linear r.0 in
    let t = context_share Γ (λ n. f (suc n)) (λ n. g (suc n)) r.1 in
    (s.0 ∷ t.0, s.1 ∷ t.1, s.2 then t.2, (s.3, t.3), (s.4, t.4))

-- Labels shared out likewise.
abbrev LabelsShared : LabelContext → Term → Term → Type 0
LabelsShared Q M N =
    (Q₁ : LabelContext) × (Q₂ : LabelContext) × SplitsLabels Q Q₁ Q₂ × LabelsRight Q₁ M × LabelsRight Q₂ N

labels_share : (Q : LabelContext) (M N : Term)
    → ((ℓ : ℕ) → RightUses Always (Q ℓ) (label_uses ℓ M + label_uses ℓ N)) → LabelsShared Q M N
labels_share Q M N r = (λ ℓ. (s ℓ).0, λ ℓ. (s ℓ).1, λ ℓ. (s ℓ).2, λ ℓ. (s ℓ).3, λ ℓ. (s ℓ).4)
  where
    s : (ℓ : ℕ) → RightlyShared Never Always (Q ℓ) (label_uses ℓ M) (label_uses ℓ N)
    s ℓ = right_share Never Always never_apart (Q ℓ) (label_uses ℓ M) (label_uses ℓ N) (λ α. inr tt) (r ℓ)

-- A variable that is there and has no use may be copied: a linear one has one use.
copyable_unless_once : (A : Ty) (k : ℕ) → (Linear A → k ≡ 1) → (Linear A → k ≡ 0) → Copyable A
copyable_unless_once A k r z = go (copyable_or_linear A)
  where
    go : Copyable A ⊎ Linear A → Copyable A
    go (inl c) = c
    go (inr l) = let e = r l in let h = z l in absurd (omega arith)

-- Where no linear variable in scope is used, every type that is there may be copied.
unused→parameter : {Γ : Context} {Δ : List Ty} (f : ℕ → ℕ)
    → PartOf Γ Δ → VariablesRight Γ f → ((n : ℕ) (A : Ty) → nth Δ n ≡ some A → Linear A → f n ≡ 0) → Parameter Γ
unused→parameter f part_end r u = parameters_end
unused→parameter f (elsewhere p) r u =
    absent (unused→parameter (λ n. f (suc n)) p r.1 (λ n A e l. u (suc n) A e l))
unused→parameter f (present {A = A} p) r u =
    parameter (copyable_unless_once A (f 0) r.0 (u 0 A refl))
    (unused→parameter (λ n. f (suc n)) p r.1 (λ n A e l. u (suc n) A e l))

zero→parameter : {Γ : Context} {Δ : List Ty} → PartOf Γ Δ → VariablesRight Γ (λ n. 0) → Parameter Γ
zero→parameter p r = unused→parameter (λ n. 0) p r (λ n A e l. refl)

right→variable : {Γ : Context} {Δ : List Ty} (n : ℕ) (A : Ty)
    → PartOf Γ Δ → nth Δ n ≡ some A → VariablesRight Γ (λ m. is m n) → Variable Γ n A
right→variable n A part_end e r = absurd (some-ne-none A (sym e))
right→variable zero A (elsewhere p) e r = let z : ◌≡◌ {A = ℕ} 1 0 = r.0 in absurd (omega arith)
right→variable (suc n) A (elsewhere {Γ = Γ} p) e r =
    past_absent
    (right→variable n A p e
    (variables_same Γ (λ m. is (suc m) (suc n)) (λ m. is m n) (λ m. ap one_if (eqb-suc-suc m n)) r.1))
right→variable zero A (present {A = B} {Γ = Γ} p) e r =
    let q : B ≡ A = cc in
    subst (λ X. Variable (some B ∷ Γ) zero X) q
    (here
    (zero→parameter p
    (variables_same Γ (λ m. is (suc m) 0) (λ m. 0) (λ m. ap one_if (eqb-suc-zero m)) r.1)))
right→variable (suc n) A (present {A = B} {Γ = Γ} p) e r =
    past_parameter
    (copyable_unless_once B (is 0 (suc n)) r.0 (λ l. ap one_if (eqb-zero-suc n)))
    (right→variable n A p e
    (variables_same Γ (λ m. is (suc m) (suc n)) (λ m. is m n) (λ m. ap one_if (eqb-suc-suc m n)) r.1))

unused_label : (a : Option Wire) (k : ℕ) → RightUses Always a k → k ≡ 0 → a ≡ none
unused_label none k r e = refl
unused_label (some α) k r e = let h = r tt in absurd (omega arith)

used_label : (a : Option Wire) (α : Wire) (k : ℕ)
    → RightUses Always a k → k ≡ 1 → ((β : Wire) → a ≡ some β → α ≡ β) → a ≡ some α
used_label none α k r e h = absurd (omega arith)
used_label (some β) α k r e h = ap some (sym (h β refl))

right→only_label : (Q P : LabelContext) (ℓ : ℕ) (α : Wire)
    → LabelsOf Q P → P ℓ ≡ some α → ((k : ℕ) → RightUses Always (Q k) (is k ℓ)) → OnlyLabel Q ℓ α
right→only_label Q P ℓ α q e r = (
  used_label (Q ℓ) α (is ℓ ℓ) (r ℓ) (ap one_if (is_true (eqb ℓ ℓ) (eqb_refl ℓ))) (λ β h. let g = q ℓ β h in cc),
  λ k n. unused_label (Q k) (is k ℓ) (r k) (ap one_if (is_false (eqb k ℓ) (λ t. n (eqb→eq k ℓ t)))),
)

-- A term with its plain type and the right uses, with each linear variable bound used once and none through a lift, is
-- typed by the rules.
plain→has : {Γ : Context} {Δ : List Ty} {Q : LabelContext} (P : LabelContext) {M : Term} {A : Ty}
    → PartOf Γ Δ → LabelsOf Q P → (d : Plain Δ P M A)
    → VariablesRight Γ (λ n. uses n M) → LabelsRight Q M → BoundOnce d → NoneCrosses d
    → Γ ∣ Q ⊢ M ∶ A
plain→has {Γ} {Δ} {Q} P p q (plain_var {n = n} {A = A} e) v l b c =
    by_var (right→variable n A p e v) (λ ℓ. unused_label (Q ℓ) 0 (l ℓ) refl)
plain→has {Γ} {Δ} {Q} P p q (plain_label {ℓ = ℓ} {α = α} e) v l b c =
    by_label (zero→parameter p v) (right→only_label Q P ℓ α q e l)
plain→has {Γ} {Δ} {Q} P p q (plain_gate e) v l b c =
    by_gate (zero→parameter p v) (λ ℓ. unused_label (Q ℓ) 0 (l ℓ) refl) e
plain→has {Γ} {Δ} {Q} P p q plain_unit v l b c =
    by_unit (zero→parameter p v) (λ ℓ. unused_label (Q ℓ) 0 (l ℓ) refl)
plain→has {Γ} {Δ} {Q} P p q (plain_circ t m s d) v l b c =
    by_circ (zero→parameter p v) (λ ℓ. unused_label (Q ℓ) 0 (l ℓ) refl) t m s d
plain→has {Γ} {Δ} {Q} P p q (plain_abs {A = A} m d) v l b c =
    by_abs m (plain→has {Γ = some A ∷ Γ} P (present p) q d (b.0, v) l b.1 c)
plain→has {Γ} {Δ} {Q} P p q (plain_app {M = M} {N = N} d e) v l b c =
    let s = context_share Γ (λ n. uses n M) (λ n. uses n N) v in
    let t = labels_share Q M N l in
    by_app s.2 t.2
    (plain→has P (part_left s.2 p) (labels_left Q t.0 t.1 P t.2 q) d s.3 t.3 b.0 c.0)
    (plain→has P (part_right s.2 p) (labels_right Q t.0 t.1 P t.2 q) e s.4 t.4 b.1 c.1)
plain→has {Γ} {Δ} {Q} P p q (plain_tuple {M = M} {N = N} m d e) v l b c =
    let s = context_share Γ (λ n. uses n M) (λ n. uses n N) v in
    let t = labels_share Q M N l in
    by_tuple m s.2 t.2
    (plain→has P (part_left s.2 p) (labels_left Q t.0 t.1 P t.2 q) d s.3 t.3 b.0 c.0)
    (plain→has P (part_right s.2 p) (labels_right Q t.0 t.1 P t.2 q) e s.4 t.4 b.1 c.1)
plain→has {Γ} {Δ} {Q} P p q (plain_let {M = M} {N = N} d e) v l b c =
    let s = context_share Γ (λ n. uses n M) (λ n. uses (suc (suc n)) N) v in
    let t = labels_share Q M N l in
    by_let s.2 t.2
    (plain→has P (part_left s.2 p) (labels_left Q t.0 t.1 P t.2 q) d s.3 t.3 b.2 c.0)
    (plain→has P (present (present (part_right s.2 p))) (labels_right Q t.0 t.1 P t.2 q) e
    (b.1, (b.0, s.4)) t.4 b.3 c.1)
plain→has {Γ} {Δ} {Q} P p q (plain_lift {M = M} m d) v l b c =
    by_lift m
    (unused→parameter (λ n. uses n M) p v c.0)
    (λ ℓ. unused_label (Q ℓ) (label_uses ℓ M) (l ℓ) (c.1 ℓ))
    (plain→has P p q d v l b c.2)
plain→has {Γ} {Δ} {Q} P p q (plain_force d) v l b c = by_force (plain→has P p q d v l b c)
plain→has {Γ} {Δ} {Q} P p q (plain_box t u d) v l b c = by_box t u (plain→has P p q d v l b c)
plain→has {Γ} {Δ} {Q} P p q (plain_apply {M = M} {N = N} d e) v l b c =
    let s = context_share Γ (λ n. uses n M) (λ n. uses n N) v in
    let t = labels_share Q M N l in
    by_apply s.2 t.2
    (plain→has P (part_left s.2 p) (labels_left Q t.0 t.1 P t.2 q) d s.3 t.3 b.0 c.0)
    (plain→has P (part_right s.2 p) (labels_right Q t.0 t.1 P t.2 q) e s.4 t.4 b.1 c.1)

-- A label that is not there is not used by a term that has a plain type.
pub plain_unused : {Γ : List Ty} {Q : LabelContext} {M : Term} {A : Ty}
    → Plain Γ Q M A → (ℓ : ℕ) → Q ℓ ≡ none → label_uses ℓ M ≡ 0
plain_unused (plain_var e) ℓ n = refl
plain_unused {Q = Q} (plain_label {ℓ = k} {α = α} e) ℓ n = go (eqb ℓ k) refl
  where
    go : (b : Bool) → eqb ℓ k ≡ b → one_if b ≡ 0
    go true h =
        let x : ℓ ≡ k = eqb→eq ℓ k (subst Truth (sym h) tt) in
        absurd (some-ne-none α (sym e ∙ ap Q (sym x) ∙ n))
    go false h = refl
plain_unused (plain_gate e) ℓ n = refl
plain_unused plain_unit ℓ n = refl
plain_unused (plain_circ t b s d) ℓ n = refl
plain_unused (plain_abs b d) ℓ n = plain_unused d ℓ n
plain_unused (plain_app d e) ℓ n =
    let x = plain_unused d ℓ n in
    let y = plain_unused e ℓ n in
    omega arith
plain_unused (plain_tuple b d e) ℓ n =
    let x = plain_unused d ℓ n in
    let y = plain_unused e ℓ n in
    omega arith
plain_unused (plain_let d e) ℓ n =
    let x = plain_unused d ℓ n in
    let y = plain_unused e ℓ n in
    omega arith
plain_unused (plain_lift b d) ℓ n = plain_unused d ℓ n
plain_unused (plain_force d) ℓ n = plain_unused d ℓ n
plain_unused (plain_box t u d) ℓ n = plain_unused d ℓ n
plain_unused (plain_apply d e) ℓ n =
    let x = plain_unused d ℓ n in
    let y = plain_unused e ℓ n in
    omega arith

right_if : (a : Option Wire) (k : ℕ) → (a ≡ none → k ≡ 0) → ((α : Wire) → a ≡ some α → k ≡ 1) → RightUses Always a k
right_if none k n s = n refl
right_if (some α) k n s = λ u. s α refl

-- What has its plain type and is used as the rules ask is typed by the rules.
pub counted→has : {Q : LabelContext} {M : Term} {A : Ty} → Counted [] Q M A → [] ∣ Q ⊢ M ∶ A
counted→has {Q} {M} c =
    plain→has Q part_end (λ ℓ α e. e) c.plain tt
    (λ ℓ. right_if (Q ℓ) (label_uses ℓ M) (plain_unused c.plain ℓ) (c.labels_once ℓ))
    c.bound_once c.none_crosses

-- The typing rules are plain typing and counting: a closed program has a type by the rules exactly if it has it by plain
-- typing, with every linear variable and every label used exactly once and none through a lift.
pub judgement_is_counting : {Q : LabelContext} {M : Term} {A : Ty} → ([] ∣ Q ⊢ M ∶ A) ↔ Counted [] Q M A
judgement_is_counting = (has→counted, counted→has)
