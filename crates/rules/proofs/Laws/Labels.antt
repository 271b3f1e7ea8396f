-- How labels are shared out (000, definition 2.5 and section 2.3: Q₁, Q₂ is the union of two label contexts that share no
-- label). Each law is stated for one entry and then for label contexts.
use Rattle.std.specs.Prelude.{◌≡◌, refl}
use Rattle.std.proofs.Common.{sym, ◌∙◌, subst}
use Rattle.std.proofs.Math.Path.{fun_ext}
use Rattle.std.proofs.Math.Option.{Option, none, some}
use Rattle.rules.specs.Types.{Wire}
use Rattle.rules.specs.Typing.{LabelContext, Shares, nowhere, left, right, copied, Never, SplitsLabels, NoLabel}

-- An entry that is there is not absent.
some_is_not_none : {X : Type 0} {P : Type 0} {x : X} → some x ≡ none → P
some_is_not_none {X} {P} {x} e = absurd (subst {A = Option X} IsSome e tt)
  where
    IsSome : Option X → Type 0
    IsSome none = ⊥
    IsSome (some y) = Unit {0}

-- The two parts may be named in either order.
pub shares_swap : {X : Type 0} {MayCopy : X → Type 0} {a b c : Option X} → Shares MayCopy a b c → Shares MayCopy a c b
shares_swap nowhere = nowhere
shares_swap left = right
shares_swap right = left
shares_swap (copied m) = copied m

pub splits_swap : {Q Q₁ Q₂ : LabelContext} → SplitsLabels Q Q₁ Q₂ → SplitsLabels Q Q₂ Q₁
splits_swap s ℓ = shares_swap (s ℓ)

-- What two parts hold together.
abbrev pub merge : Option Wire → Option Wire → Option Wire
merge none y = y
merge (some x) y = some x

abbrev pub join : LabelContext → LabelContext → LabelContext
join Q R = λ ℓ. merge (Q ℓ) (R ℓ)

-- Of Q shared out to Q₁ and Q₂, and Q₁ to R and S: Q is shared out to R and the rest, and the rest to S and Q₂.
pub shares_regroup : {a b c r s : Option Wire}
    → Shares Never a b c → Shares Never b r s
    → Shares Never a r (merge s c) × Shares Never (merge s c) s c
shares_regroup nowhere nowhere = (nowhere, nowhere)
shares_regroup left left = (left, nowhere)
shares_regroup left right = (right, left)
shares_regroup left (copied z) = absurd z
shares_regroup right nowhere = (right, right)
shares_regroup (copied z) t = absurd z

pub splits_regroup : {Q Q₁ Q₂ R S : LabelContext}
    → SplitsLabels Q Q₁ Q₂ → SplitsLabels Q₁ R S
    → SplitsLabels Q R (join S Q₂) × SplitsLabels (join S Q₂) S Q₂
splits_regroup s t = (λ ℓ. (shares_regroup (s ℓ) (t ℓ)).0, λ ℓ. (shares_regroup (s ℓ) (t ℓ)).1)

-- The same on the other side: of Q shared out to Q₁ and Q₂, and Q₂ to R and S.
pub shares_regroup_right : {a b c r s : Option Wire}
    → Shares Never a b c → Shares Never c r s
    → Shares Never a (merge b r) s × Shares Never (merge b r) b r
shares_regroup_right nowhere nowhere = (nowhere, nowhere)
shares_regroup_right left nowhere = (left, left)
shares_regroup_right right left = (left, right)
shares_regroup_right right right = (right, nowhere)
shares_regroup_right right (copied z) = absurd z
shares_regroup_right (copied z) t = absurd z

pub splits_regroup_right : {Q Q₁ Q₂ R S : LabelContext}
    → SplitsLabels Q Q₁ Q₂ → SplitsLabels Q₂ R S
    → SplitsLabels Q (join Q₁ R) S × SplitsLabels (join Q₁ R) Q₁ R
splits_regroup_right s t = (λ ℓ. (shares_regroup_right (s ℓ) (t ℓ)).0, λ ℓ. (shares_regroup_right (s ℓ) (t ℓ)).1)

-- All labels may go to one part.
pub shares_left : {X : Type 0} (MayCopy : X → Type 0) (a : Option X) → Shares MayCopy a a none
shares_left MayCopy none = nowhere
shares_left MayCopy (some x) = left

pub splits_none_right : (Q : LabelContext) {R : LabelContext} → NoLabel R → SplitsLabels Q Q R
splits_none_right Q n ℓ = subst (λ r. Shares Never (Q ℓ) (Q ℓ) r) (sym (n ℓ)) (shares_left Never (Q ℓ))

pub splits_none_left : (Q : LabelContext) {R : LabelContext} → NoLabel R → SplitsLabels Q R Q
splits_none_left Q n = splits_swap (splits_none_right Q n)

-- If one part has no label, the other has them all.
shares_right_none : {a b c : Option Wire} → c ≡ none → Shares Never a b c → a ≡ b
shares_right_none e nowhere = refl
shares_right_none e left = refl
shares_right_none e right = some_is_not_none e
shares_right_none e (copied z) = absurd z

pub splits_right_none : {Q Q₁ Q₂ : LabelContext} → NoLabel Q₂ → SplitsLabels Q Q₁ Q₂ → Q ≡ Q₁
splits_right_none n s = fun_ext (λ ℓ. shares_right_none (n ℓ) (s ℓ))

pub splits_left_none : {Q Q₁ Q₂ : LabelContext} → NoLabel Q₁ → SplitsLabels Q Q₁ Q₂ → Q ≡ Q₂
splits_left_none n s = fun_ext (λ ℓ. shares_right_none (n ℓ) (shares_swap (s ℓ)))

-- If no part has a label, there is none.
pub no_label_whole : {Q Q₁ Q₂ : LabelContext} → NoLabel Q₁ → NoLabel Q₂ → SplitsLabels Q Q₁ Q₂ → NoLabel Q
no_label_whole n m s ℓ = shares_right_none (m ℓ) (s ℓ) ∙ n ℓ

-- Of P shared out to Q and R, and each of these to two: P is shared out to the first two together and the last two together.
pub shares_interchange : {a b c b₁ b₂ c₁ c₂ : Option Wire}
    → Shares Never a b c → Shares Never b b₁ b₂ → Shares Never c c₁ c₂
    → Shares Never a (merge b₁ c₁) (merge b₂ c₂) × Shares Never (merge b₁ c₁) b₁ c₁ × Shares Never (merge b₂ c₂) b₂ c₂
shares_interchange nowhere nowhere nowhere = (nowhere, nowhere, nowhere)
shares_interchange left left nowhere = (left, left, nowhere)
shares_interchange left right nowhere = (right, nowhere, left)
shares_interchange left (copied z) t = absurd z
shares_interchange right nowhere left = (left, right, nowhere)
shares_interchange right nowhere right = (right, nowhere, right)
shares_interchange right nowhere (copied z) = absurd z
shares_interchange (copied z) s t = absurd z

pub splits_interchange : {P Q R Q₁ Q₂ R₁ R₂ : LabelContext}
    → SplitsLabels P Q R → SplitsLabels Q Q₁ Q₂ → SplitsLabels R R₁ R₂
    → SplitsLabels P (join Q₁ R₁) (join Q₂ R₂) × SplitsLabels (join Q₁ R₁) Q₁ R₁ × SplitsLabels (join Q₂ R₂) Q₂ R₂
splits_interchange s t u =
    (λ ℓ. (shares_interchange (s ℓ) (t ℓ) (u ℓ)).0, λ ℓ. (shares_interchange (s ℓ) (t ℓ) (u ℓ)).1, λ ℓ. (shares_interchange (s ℓ) (t ℓ) (u ℓ)).2)
