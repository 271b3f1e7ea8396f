-- Laws of specs/Heads.antt.
use Rattle.std.specs.Prelude.{ℕ, suc, ◌+◌, ◌≤◌, ◌≡◌, refl, ◌&&◌, List, ◌∷◌, T as Truth, length}
use Rattle.std.proofs.Common.{add-zero, add-one, arith, sym, ◌∙◌, ap, subst}
use Rattle.std.proofs.Math.Numerals.{add-two}
use Rattle.std.proofs.Math.Option.{Option, none, some, some-ne-none}
use Rattle.rules.specs.Kinds.{variable_kind, label_kind}
use Rattle.rules.specs.Kinds.{gate_term_kind, unit_value_kind}
use Rattle.rules.specs.Parts.{parts_of_kind}
use Rattle.rules.specs.Types.{Wire, Ty}
use Rattle.rules.specs.Terms.{Term, variable, label, gate, unit_value, abstraction, application, pair, let_in, lift, force}
use Rattle.rules.specs.Terms.{box, apply}
use Rattle.rules.specs.Sizes.{nodes}
use Rattle.rules.specs.Inference.{uses, as_pair, application_type, pair_type, apply_type}
use Rattle.rules.proofs.Laws.Booleans.{and_left, and_right}
use Rattle.program.specs.Format.{kind_at, argument_at}
use Rattle.program.specs.Trees.{TypeAtPosition, TermAt, variable_term_at, label_at, abstraction_at, application_at, pair_at}
use Rattle.program.specs.Trees.{let_at, lift_at, force_at, box_term_at, apply_at, gate_term_at, unit_value_at, closed_under, labels_below, gates_known}
use Rattle.check_program.specs.Checking.{Binder, ◌under◌, Checked, typed, fault, earlier, if_so, used_wrongly, followed}
use Rattle.check_program.specs.Checking.{ruled, two_ruled, check_term}
use Rattle.check_program.specs.Layout.{counted}
use Rattle.check_program.specs.Heads.{OnePart, of_abstraction, of_lift, of_force, of_box, one_kind, one_rule}
use Rattle.check_program.specs.Heads.{misuse_at_abstraction, TwoParts, of_application, of_pair, of_let, of_apply}
use Rattle.check_program.specs.Heads.{two_kind, two_rule, own_halves, misuse_at_let}

abbrev pub one : OnePart → Term → Term
one (of_abstraction A) M = abstraction A M
one of_lift M = lift M
one of_force M = force M
one (of_box T) M = box T M

-- The binders and the lifts around the part.
abbrev pub binders_in : OnePart → ℕ → List Binder → List Binder
binders_in (of_abstraction A) lifts Γ = A under lifts ∷ Γ
binders_in of_lift lifts Γ = Γ
binders_in of_force lifts Γ = Γ
binders_in (of_box T) lifts Γ = Γ

abbrev pub lifts_in : OnePart → ℕ → ℕ
lifts_in (of_abstraction A) lifts = lifts
lifts_in of_lift lifts = suc lifts
lifts_in of_force lifts = lifts
lifts_in (of_box T) lifts = lifts

-- The type that the entry names, if it names one, stands at its position.
abbrev pub Named : List ℕ → ℕ → OnePart → Type 0
Named f e (of_abstraction A) = TypeAtPosition f (argument_at f e) A
Named f e of_lift = Unit {0}
Named f e of_force = Unit {0}
Named f e (of_box T) = TypeAtPosition f (argument_at f e) T

abbrev pub two : TwoParts → Term → Term → Term
two of_application M N = application M N
two of_pair M N = pair M N
two of_let M N = let_in M N
two of_apply M N = apply M N

-- The binders around the second part, if the first has a type that allows it: let takes a pair type apart.
abbrev pub halves : ℕ → List Binder → Option (Ty × Ty) → Option (List Binder)
halves lifts Γ none = none
halves lifts Γ (some p) = some (p.1 under lifts ∷ p.0 under lifts ∷ Γ)

abbrev pub binders_behind : TwoParts → ℕ → List Binder → Ty → Option (List Binder)
binders_behind of_application lifts Γ A = some Γ
binders_behind of_pair lifts Γ A = some Γ
binders_behind of_let lifts Γ A = halves lifts Γ (as_pair A)
binders_behind of_apply lifts Γ A = some Γ

-- How many binders a node has for its second part.
abbrev pub bound : TwoParts → ℕ
bound of_application = 0
bound of_pair = 0
bound of_let = 2
bound of_apply = 0

-- The second part is looked at if the first allows it.
abbrev pub behind : ℕ → Option (List Binder) → (List Binder → Checked) → Checked
behind e none check = fault e
behind e (some Δ) check = check Δ

-- The check of a node of one part, and of two.
pub check_one : (h : OnePart) (L : List Wire) (Γ : List Binder) (lifts e : ℕ) (M : Term)
    → check_term L Γ lifts e (one h M)
    ≡ followed (check_term L (binders_in h lifts Γ) (lifts_in h lifts) (suc e) M) λ A u v.
    ruled e (one_rule h A) (earlier (misuse_at_abstraction h (uses 0 M) e) u) v
check_one (of_abstraction A) L Γ lifts e M = refl
check_one of_lift L Γ lifts e M = refl
check_one of_force L Γ lifts e M = refl
check_one (of_box T) L Γ lifts e M = refl

-- What a node of two parts makes of its first part.
abbrev pub check_second : TwoParts → List Wire → List Binder → ℕ → ℕ → ℕ → Term → Ty → Option ℕ → Option ℕ → Checked
check_second h L Γ lifts e m N A u v =
    behind e (binders_behind h lifts Γ A) λ Δ.
    followed (check_term L Δ lifts m N) λ B u' v'.
    ruled e (two_rule h A B) (earlier (misuse_at_let h A (uses 1 N) (uses 0 N) e) (earlier u u')) (earlier v v')

earlier_assoc : (p q r : Option ℕ) → earlier p (earlier q r) ≡ earlier (earlier p q) r
earlier_assoc none q r = refl
earlier_assoc (some p) q r = refl

followed_same : (c : Checked) (k k' : Ty → Option ℕ → Option ℕ → Checked)
    → ((A : Ty) (u v : Option ℕ) → k A u v ≡ k' A u v)
    → followed c k ≡ followed c k'
followed_same (typed A u v) k k' h = h A u v
followed_same (fault e) k k' h = refl

two_followed : (e : ℕ) (rule : Ty → Ty → Option Ty) (c d : Checked)
    → two_ruled e rule c d
    ≡ followed c λ A u v. followed d λ B u' v'. ruled e (rule A B) (earlier u u') (earlier v v')
two_followed e rule (fault p) (fault q) = refl
two_followed e rule (fault p) (typed B u' v') = refl
two_followed e rule (typed A u v) (fault q) = refl
two_followed e rule (typed A u v) (typed B u' v') = refl

pub check_two : (h : TwoParts) (L : List Wire) (Γ : List Binder) (lifts e : ℕ) (M N : Term)
    → check_term L Γ lifts e (two h M N)
    ≡ followed (check_term L Γ lifts (suc e) M) (check_second h L Γ lifts e (suc e + nodes M) N)
check_two of_application L Γ lifts e M N =
    two_followed e application_type (check_term L Γ lifts (suc e) M) (check_term L Γ lifts (suc e + nodes M) N)
check_two of_pair L Γ lifts e M N =
    two_followed e pair_type (check_term L Γ lifts (suc e) M) (check_term L Γ lifts (suc e + nodes M) N)
check_two of_let L Γ lifts e M N =
    followed_same (check_term L Γ lifts (suc e) M) _ _ (λ P u v. halved (as_pair P) u v)
  where
    halved : (o : Option (Ty × Ty)) (u v : Option ℕ)
        → elim o [
          | none ↦ fault e
          | some p ↦
              followed (check_term L (p.1 under lifts ∷ p.0 under lifts ∷ Γ) lifts (suc e + nodes M) N) λ C u' v'.
              typed C
              (earlier (if_so (used_wrongly p.0 (uses 1 N)) e)
              (earlier (if_so (used_wrongly p.1 (uses 0 N)) e) (earlier u u')))
              (earlier v v')
        ]
        ≡ behind e (halves lifts Γ o) (λ Δ.
        followed (check_term L Δ lifts (suc e + nodes M) N) λ C u' v'.
        typed C (earlier (own_halves o (uses 1 N) (uses 0 N) e) (earlier u u')) (earlier v v'))
    halved none u v = refl
    halved (some p) u v =
        followed_same
        (check_term L (p.1 under lifts ∷ p.0 under lifts ∷ Γ) lifts (suc e + nodes M) N)
        (λ C u' v'.
        typed C
        (earlier (if_so (used_wrongly p.0 (uses 1 N)) e)
        (earlier (if_so (used_wrongly p.1 (uses 0 N)) e) (earlier u u')))
        (earlier v v'))
        (λ C u' v'.
        typed C (earlier (own_halves (some p) (uses 1 N) (uses 0 N) e) (earlier u u')) (earlier v v'))
        (λ C u' v'.
        ap (λ x. typed C x (earlier v v'))
        (earlier_assoc
        (if_so (used_wrongly p.0 (uses 1 N)) e)
        (if_so (used_wrongly p.1 (uses 0 N)) e)
        (earlier u u')))
check_two of_apply L Γ lifts e M N =
    two_followed e apply_type (check_term L Γ lifts (suc e) M) (check_term L Γ lifts (suc e + nodes M) N)

-- A node without parts.
pub data Leaf : Type 0 where
  of_variable of_label of_gate : ℕ → Leaf
  of_unit : Leaf

abbrev pub leaf : Leaf → Term
leaf (of_variable x) = variable x
leaf (of_label ℓ) = label ℓ
leaf (of_gate g) = gate g
leaf of_unit = unit_value

abbrev pub leaf_kind : Leaf → ℕ
leaf_kind (of_variable x) = variable_kind
leaf_kind (of_label ℓ) = label_kind
leaf_kind (of_gate g) = gate_term_kind
leaf_kind of_unit = unit_value_kind

abbrev pub leaf_number : Leaf → ℕ
leaf_number (of_variable x) = x
leaf_number (of_label ℓ) = ℓ
leaf_number (of_gate g) = g
leaf_number of_unit = 0

-- A term that stands at an entry, by the number of its parts.
pub data Shaped (f : List ℕ) (e : ℕ) : Term → ℕ → Type 0 where
  shaped_leaf : (l : Leaf) → kind_at f e ≡ leaf_kind l → argument_at f e ≡ leaf_number l → Shaped f e (leaf l) (suc e)
  shaped_one : {M : Term} {n : ℕ} (h : OnePart)
      → kind_at f e ≡ one_kind h → Named f e h → TermAt f (suc e) M n
      → Shaped f e (one h M) n
  shaped_two : {M N : Term} {m n : ℕ} (h : TwoParts)
      → kind_at f e ≡ two_kind h → TermAt f (suc e) M m → TermAt f m N n
      → Shaped f e (two h M N) n

pub shaped : {f : List ℕ} {e n : ℕ} {M : Term} → TermAt f e M n → Shaped f e M n
shaped (variable_term_at {x = x} k a) = shaped_leaf (of_variable x) k a
shaped (label_at {x = x} k a) = shaped_leaf (of_label x) k a
shaped (abstraction_at {A = A} k t d) = shaped_one (of_abstraction A) k t d
shaped (application_at k a d e) = shaped_two of_application k d e
shaped (pair_at k a d e) = shaped_two of_pair k d e
shaped (let_at k a d e) = shaped_two of_let k d e
shaped (lift_at k a d) = shaped_one of_lift k tt d
shaped (force_at k a d) = shaped_one of_force k tt d
shaped (box_term_at {T = T} k t d) = shaped_one (of_box T) k t d
shaped (apply_at k a d e) = shaped_two of_apply k d e
shaped (gate_term_at {x = x} k a) = shaped_leaf (of_gate x) k a
shaped (unit_value_at k a) = shaped_leaf of_unit k a

-- How many parts its kind has.
pub no_parts : (k : ℕ) (l : Leaf) → k ≡ leaf_kind l → parts_of_kind k ≡ 0
unfolding parts_of_kind
no_parts k (of_variable x) h = rw h
no_parts k (of_label ℓ) h = rw h
no_parts k (of_gate g) h = rw h
no_parts k of_unit h = rw h

pub one_part : (k : ℕ) (h : OnePart) → k ≡ one_kind h → parts_of_kind k ≡ 1
unfolding parts_of_kind
one_part k (of_abstraction A) h = rw h
one_part k of_lift h = rw h
one_part k of_force h = rw h
one_part k (of_box T) h = rw h

pub two_parts : (k : ℕ) (h : TwoParts) → k ≡ two_kind h → parts_of_kind k ≡ 2
unfolding parts_of_kind
two_parts k of_application h = rw h
two_parts k of_pair h = rw h
two_parts k of_let h = rw h
two_parts k of_apply h = rw h

-- What a part has of what its node has: nodes, binders, labels, gates, uses.
module _ (h : OnePart) (M : Term) where
  pub one_nodes : nodes (one h M) ≡ 1 + nodes M
  one_nodes = go h
    where
      go : (h : OnePart) → nodes (one h M) ≡ 1 + nodes M
      go (of_abstraction A) = refl
      go of_lift = refl
      go of_force = refl
      go (of_box T) = refl

  pub one_closed : (lifts : ℕ) (Γ : List Binder)
      → Truth (closed_under (length Γ) (one h M))
      → Truth (closed_under (length (binders_in h lifts Γ)) M)
  one_closed lifts Γ = go h
    where
      go : (h : OnePart)
          → Truth (closed_under (length Γ) (one h M))
          → Truth (closed_under (length (binders_in h lifts Γ)) M)
      go (of_abstraction A) c = subst (λ b. Truth (closed_under b M)) (add-one (length Γ)) c
      go of_lift c = c
      go of_force c = c
      go (of_box T) c = c

  pub one_labels : (l : ℕ) → Truth (labels_below l (one h M)) → Truth (labels_below l M)
  one_labels l = go h
    where
      go : (h : OnePart) → Truth (labels_below l (one h M)) → Truth (labels_below l M)
      go (of_abstraction A) c = c
      go of_lift c = c
      go of_force c = c
      go (of_box T) c = c

  pub one_gates : Truth (gates_known (one h M)) → Truth (gates_known M)
  one_gates = go h
    where
      go : (h : OnePart) → Truth (gates_known (one h M)) → Truth (gates_known M)
      go (of_abstraction A) c = c
      go of_lift c = c
      go of_force c = c
      go (of_box T) c = c

  pub one_counted : (lifts i : ℕ) (Γ : List Binder)
      → counted (length (binders_in h lifts Γ)) i M ≡ counted (length Γ) i (one h M)
  one_counted lifts i Γ = go h
    where
      go : (h : OnePart) → counted (length (binders_in h lifts Γ)) i M ≡ counted (length Γ) i (one h M)
      go (of_abstraction A) = refl
      go of_lift = refl
      go of_force = refl
      go (of_box T) = refl

  pub one_binders : (lifts : ℕ) (Γ : List Binder)
      → (length Γ ≤ length (binders_in h lifts Γ)) × (length (binders_in h lifts Γ) ≤ length Γ + 1)
  one_binders lifts Γ = go h
    where
      go : (h : OnePart)
          → (length Γ ≤ length (binders_in h lifts Γ)) × (length (binders_in h lifts Γ) ≤ length Γ + 1)
      go (of_abstraction A) = omega arith
      go of_lift = omega arith
      go of_force = omega arith
      go (of_box T) = omega arith

  pub one_lifts : (lifts : ℕ) → lifts_in h lifts ≤ lifts + 1
  one_lifts lifts = go h
    where
      go : (h : OnePart) → lifts_in h lifts ≤ lifts + 1
      go (of_abstraction A) = omega arith
      go of_lift = omega arith
      go of_force = omega arith
      go (of_box T) = omega arith

module _ (h : TwoParts) (M N : Term) where
  pub two_nodes : nodes (two h M N) ≡ 1 + (nodes M + nodes N)
  two_nodes = go h
    where
      go : (h : TwoParts) → nodes (two h M N) ≡ 1 + (nodes M + nodes N)
      go of_application = refl
      go of_pair = refl
      go of_let = refl
      go of_apply = refl

  pub two_closed : (b : ℕ)
      → Truth (closed_under b (two h M N))
      → Truth (closed_under b M) × Truth (closed_under (b + bound h) N)
  two_closed b = go h
    where
      plain : Truth (closed_under b M && closed_under b N) → Truth (closed_under b M) × Truth (closed_under (b + 0) N)
      plain c =
          (and_left (closed_under b M) (closed_under b N) c, rw add-zero (and_right (closed_under b M) (closed_under b N) c))

      go : (h : TwoParts)
          → Truth (closed_under b (two h M N))
          → Truth (closed_under b M) × Truth (closed_under (b + bound h) N)
      go of_application c = plain c
      go of_pair c = plain c
      go of_let c =
          (and_left (closed_under b M) (closed_under (b + 2) N) c, and_right (closed_under b M) (closed_under (b + 2) N) c)
      go of_apply c = plain c

  pub two_labels : (l : ℕ)
      → Truth (labels_below l (two h M N))
      → Truth (labels_below l M) × Truth (labels_below l N)
  two_labels l = go h
    where
      both : Truth (labels_below l M && labels_below l N) → Truth (labels_below l M) × Truth (labels_below l N)
      both c = (and_left (labels_below l M) (labels_below l N) c, and_right (labels_below l M) (labels_below l N) c)

      go : (h : TwoParts) → Truth (labels_below l (two h M N)) → Truth (labels_below l M) × Truth (labels_below l N)
      go of_application c = both c
      go of_pair c = both c
      go of_let c = both c
      go of_apply c = both c

  pub two_gates : Truth (gates_known (two h M N)) → Truth (gates_known M) × Truth (gates_known N)
  two_gates = go h
    where
      both : Truth (gates_known M && gates_known N) → Truth (gates_known M) × Truth (gates_known N)
      both c = (and_left (gates_known M) (gates_known N) c, and_right (gates_known M) (gates_known N) c)

      go : (h : TwoParts) → Truth (gates_known (two h M N)) → Truth (gates_known M) × Truth (gates_known N)
      go of_application c = both c
      go of_pair c = both c
      go of_let c = both c
      go of_apply c = both c

  pub two_counted : (d i : ℕ) → counted d i M + counted (d + bound h) i N ≡ counted d i (two h M N)
  two_counted d i = go h
    where
      plain : counted d i M + counted (d + 0) i N ≡ counted d i M + counted d i N
      plain = rw add-zero

      go : (h : TwoParts) → counted d i M + counted (d + bound h) i N ≡ counted d i (two h M N)
      go of_application = plain
      go of_pair = plain
      go of_let = rw add-two
      go of_apply = plain

  -- The second part stands under as many more binders as the node has for it.
  pub behind_binders : (lifts : ℕ) (Γ Δ : List Binder) (A : Ty)
      → binders_behind h lifts Γ A ≡ some Δ
      → length Δ ≡ length Γ + bound h
  behind_binders lifts Γ Δ A = go h
    where
      same : some Γ ≡ some Δ → length Δ ≡ length Γ + 0
      same q = let s : Γ ≡ Δ = cc in omega (arith, ap length s)

      halved : (o : Option (Ty × Ty)) → halves lifts Γ o ≡ some Δ → length Δ ≡ length Γ + 2
      halved none q = absurd (some-ne-none Δ (sym q))
      halved (some p) q =
          let s : (p.1 under lifts ∷ p.0 under lifts ∷ Γ) ≡ Δ = cc in
          sym (ap length s) ∙ omega arith

      go : (h : TwoParts) → binders_behind h lifts Γ A ≡ some Δ → length Δ ≡ length Γ + bound h
      go of_application q = same q
      go of_pair q = same q
      go of_let q = halved (as_pair A) q
      go of_apply q = same q
