-- The places of the refusals 16, 17 and 18 (01, "Check, in number order"; 02, ticket 1): the theorems at the end say, for each of
-- the three, when the check gives it, and that its place is the first such entry.
use Rattle.std.specs.Prelude.{ℕ, zero, suc, ◌+◌, ◌≤◌, ◌<◌, ◌≡◌, refl, ◌↔◌, ◌≢◌, ◌⊎◌, Bool, true, false, cond, List, [], ◌∷◌, T as Truth, eqb, length}
use Rattle.std.proofs.Common.{sym, ◌∙◌, ap, subst, subst₂, inl, inr, arith, eqb→eq}
use Rattle.std.proofs.Math.Option.{Option, none, some, map, some-ne-none}
use Rattle.std.proofs.Math.Decide.{ℕ_discrete}
use Rattle.rules.specs.Types.{Wire, Ty, wire, ◌⊗◌, ◌⊸◌, !◌, Circ, unit}
use Rattle.rules.specs.Gates.{nth, gate_type}
use Rattle.rules.specs.Terms.{Term, variable, label, gate, constant, abstraction, application, pair, let_in, lift, force}
use Rattle.rules.specs.Terms.{box, apply, unit_value}
use Rattle.rules.specs.Sizes.{nodes}
use Rattle.rules.specs.Inference.{uses, label_uses, as_pair, as_reusable, given, gate_node_type, Linear, abstraction_type}
use Rattle.rules.specs.Inference.{application_type, pair_type, lift_type, box_type, apply_type, infer}
use Rattle.check_program.specs.Checking.{Binder, ◌under◌, Checked, typed, fault, earlier, if_so, used_wrongly, crosses}
use Rattle.check_program.specs.Checking.{followed, ruled, two_ruled, variable_found, label_found, check_term, wrong_label}
use Rattle.check_program.specs.Checking.{refusal, secondly, decided, verdict}
use Rattle.check_program.specs.Places.{types_of, Occurs, itself, in_abstraction, in_application_first}
use Rattle.check_program.specs.Places.{in_application_second, in_pair_first, in_pair_second, in_let_first}
use Rattle.check_program.specs.Places.{in_let_second, in_lift, in_force, in_box, in_apply_first, in_apply_second}
use Rattle.check_program.specs.Places.{HasType, Faulty, rule_fails, no_pair, BindsWrongly}
use Rattle.check_program.specs.Places.{by_abstraction, by_let_first, by_let_second, UsesInside, of_variable, of_label}
use Rattle.check_program.specs.Places.{Property, At, FaultAt, WrongLabelAt, WrongBinderAt, NotOnceAt, UseInsideAt, Nowhere, First}
use Rattle.check_program.proofs.Theorems.Agreement.{type_of, let_found, check_type, binder_type, used_wrongly→}
use Rattle.check_program.proofs.Theorems.Agreement.{→used_wrongly, crosses→, →crosses, given_same}

nodes_positive : (M : Term) → 0 < nodes M
nodes_positive (variable n) = omega arith
nodes_positive (label ℓ) = omega arith
nodes_positive (gate n) = omega arith
nodes_positive unit_value = omega arith
nodes_positive (constant b) = omega arith
nodes_positive (abstraction A M) = omega arith
nodes_positive (application M N) = omega arith
nodes_positive (pair M N) = omega arith
nodes_positive (let_in M N) = omega arith
nodes_positive (lift M) = omega arith
nodes_positive (force M) = omega arith
nodes_positive (box T M) = omega arith
nodes_positive (apply M N) = omega arith

-- The nodes of a term stand at its entries.
pub occurs_within : {L : List Wire} {Γ Γ' : List Binder} {lifts e lifts' e' : ℕ} {M M' : Term}
    → Occurs L Γ lifts e M Γ' lifts' e' M' → (e ≤ e') × (e' < e + nodes M)
occurs_within (itself {M = M}) = let n = nodes_positive M in (omega arith, omega arith)
occurs_within (in_abstraction s) = let x = occurs_within s in (omega arith, omega arith)
occurs_within (in_application_first s) = let x = occurs_within s in (omega arith, omega arith)
occurs_within (in_application_second s) = let x = occurs_within s in (omega arith, omega arith)
occurs_within (in_pair_first s) = let x = occurs_within s in (omega arith, omega arith)
occurs_within (in_pair_second s) = let x = occurs_within s in (omega arith, omega arith)
occurs_within (in_let_first s) = let x = occurs_within s in (omega arith, omega arith)
occurs_within (in_let_second h s) = let x = occurs_within s in (omega arith, omega arith)
occurs_within (in_lift s) = let x = occurs_within s in (omega arith, omega arith)
occurs_within (in_force s) = let x = occurs_within s in (omega arith, omega arith)
occurs_within (in_box s) = let x = occurs_within s in (omega arith, omega arith)
occurs_within (in_apply_first s) = let x = occurs_within s in (omega arith, omega arith)
occurs_within (in_apply_second s) = let x = occurs_within s in (omega arith, omega arith)

-- What stands in the second part stands behind what stands in the first.
behind_first : (L : List Wire) (P : Property) (Γ Γ₂ : List Binder) (lifts e : ℕ) (M N : Term) (p q : ℕ)
    → At L P Γ lifts (suc e) M p → At L P Γ₂ lifts (suc e + nodes M) N q → p ≤ q
behind_first L P Γ Γ₂ lifts e M N p q a b =
    let x = (occurs_within a.3).1 in
    let y = (occurs_within b.3).0 in
    omega arith

-- A node with a property stands at the entry of the node itself, or in its parts.
abbrev Own : Property → List Binder → ℕ → ℕ → Term → ℕ → Type 0
Own P Γ lifts e M p = (p ≡ e) × P Γ lifts M

abbrev InParts : List Wire → Property → List Binder → ℕ → ℕ → Term → ℕ → Type 0
InParts L P Γ lifts e (variable n) p = ⊥
InParts L P Γ lifts e (label ℓ) p = ⊥
InParts L P Γ lifts e (gate n) p = ⊥
InParts L P Γ lifts e unit_value p = ⊥
InParts L P Γ lifts e (constant b) p = ⊥
InParts L P Γ lifts e (abstraction A M) p = At L P (A under lifts ∷ Γ) lifts (suc e) M p
InParts L P Γ lifts e (application M N) p = At L P Γ lifts (suc e) M p ⊎ At L P Γ lifts (suc e + nodes M) N p
InParts L P Γ lifts e (pair M N) p = At L P Γ lifts (suc e) M p ⊎ At L P Γ lifts (suc e + nodes M) N p
InParts L P Γ lifts e (let_in M N) p =
    At L P Γ lifts (suc e) M p
    ⊎ ((A : Ty) × (B : Ty) × (infer (types_of Γ) (nth L) M ≡ some (A ⊗ B))
    × At L P (B under lifts ∷ A under lifts ∷ Γ) lifts (suc e + nodes M) N p)
InParts L P Γ lifts e (lift M) p = At L P Γ (suc lifts) (suc e) M p
InParts L P Γ lifts e (force M) p = At L P Γ lifts (suc e) M p
InParts L P Γ lifts e (box T M) p = At L P Γ lifts (suc e) M p
InParts L P Γ lifts e (apply M N) p = At L P Γ lifts (suc e) M p ⊎ At L P Γ lifts (suc e + nodes M) N p

occurs_out : {L : List Wire} (P : Property) {Γ Γ' : List Binder} {lifts e lifts' e' : ℕ} {M M' : Term}
    → Occurs L Γ lifts e M Γ' lifts' e' M' → P Γ' lifts' M' → Own P Γ lifts e M e' ⊎ InParts L P Γ lifts e M e'
occurs_out P itself h = inl (refl, h)
occurs_out P (in_abstraction {Γ' = Γ'} {lifts' = k} {M' = M'} s) h = inr (Γ', k, M', s, h)
occurs_out P (in_application_first {Γ' = Γ'} {lifts' = k} {M' = M'} s) h = inr (inl (Γ', k, M', s, h))
occurs_out P (in_application_second {Γ' = Γ'} {lifts' = k} {M' = M'} s) h = inr (inr (Γ', k, M', s, h))
occurs_out P (in_pair_first {Γ' = Γ'} {lifts' = k} {M' = M'} s) h = inr (inl (Γ', k, M', s, h))
occurs_out P (in_pair_second {Γ' = Γ'} {lifts' = k} {M' = M'} s) h = inr (inr (Γ', k, M', s, h))
occurs_out P (in_let_first {Γ' = Γ'} {lifts' = k} {M' = M'} s) h = inr (inl (Γ', k, M', s, h))
occurs_out P (in_let_second {Γ' = Γ'} {lifts' = k} {A = A} {B = B} {M' = M'} i s) h =
    inr (inr (A, B, i, (Γ', k, M', s, h)))
occurs_out P (in_lift {Γ' = Γ'} {lifts' = k} {M' = M'} s) h = inr (Γ', k, M', s, h)
occurs_out P (in_force {Γ' = Γ'} {lifts' = k} {M' = M'} s) h = inr (Γ', k, M', s, h)
occurs_out P (in_box {Γ' = Γ'} {lifts' = k} {M' = M'} s) h = inr (Γ', k, M', s, h)
occurs_out P (in_apply_first {Γ' = Γ'} {lifts' = k} {M' = M'} s) h = inr (inl (Γ', k, M', s, h))
occurs_out P (in_apply_second {Γ' = Γ'} {lifts' = k} {M' = M'} s) h = inr (inr (Γ', k, M', s, h))

at_out : (L : List Wire) (P : Property) (Γ : List Binder) (lifts e : ℕ) (M : Term) (p : ℕ)
    → At L P Γ lifts e M p → Own P Γ lifts e M p ⊎ InParts L P Γ lifts e M p
at_out L P Γ lifts e M p a = occurs_out P a.3 a.4

at_own : (L : List Wire) (P : Property) (Γ : List Binder) (lifts e : ℕ) (M : Term) (p : ℕ)
    → Own P Γ lifts e M p → At L P Γ lifts e M p
at_own L P Γ lifts e M p o = subst (At L P Γ lifts e M) (sym o.0) (Γ, lifts, M, itself, o.1)

at_parts : (L : List Wire) (P : Property) (Γ : List Binder) (lifts e : ℕ) (M : Term) (p : ℕ)
    → InParts L P Γ lifts e M p → At L P Γ lifts e M p
at_parts L P Γ lifts e (variable n) p a = absurd a
at_parts L P Γ lifts e (label ℓ) p a = absurd a
at_parts L P Γ lifts e (gate n) p a = absurd a
at_parts L P Γ lifts e unit_value p a = absurd a
at_parts L P Γ lifts e (constant b) p a = absurd a
at_parts L P Γ lifts e (abstraction A M) p a = (a.0, a.1, a.2, in_abstraction a.3, a.4)
at_parts L P Γ lifts e (application M N) p (inl a) = (a.0, a.1, a.2, in_application_first a.3, a.4)
at_parts L P Γ lifts e (application M N) p (inr a) = (a.0, a.1, a.2, in_application_second a.3, a.4)
at_parts L P Γ lifts e (pair M N) p (inl a) = (a.0, a.1, a.2, in_pair_first a.3, a.4)
at_parts L P Γ lifts e (pair M N) p (inr a) = (a.0, a.1, a.2, in_pair_second a.3, a.4)
at_parts L P Γ lifts e (let_in M N) p (inl a) = (a.0, a.1, a.2, in_let_first a.3, a.4)
at_parts L P Γ lifts e (let_in M N) p (inr b) =
    let a = b.3 in
    (a.0, a.1, a.2, in_let_second b.2 a.3, a.4)
at_parts L P Γ lifts e (lift M) p a = (a.0, a.1, a.2, in_lift a.3, a.4)
at_parts L P Γ lifts e (force M) p a = (a.0, a.1, a.2, in_force a.3, a.4)
at_parts L P Γ lifts e (box T M) p a = (a.0, a.1, a.2, in_box a.3, a.4)
at_parts L P Γ lifts e (apply M N) p (inl a) = (a.0, a.1, a.2, in_apply_first a.3, a.4)
at_parts L P Γ lifts e (apply M N) p (inr a) = (a.0, a.1, a.2, in_apply_second a.3, a.4)

-- A place, if there is one, is the first entry that is such; if there is none, no entry is.
abbrev Found : Option ℕ → (ℕ → Type 0) → Type 0
Found none P = Nowhere P
Found (some p) P = First P p

found_same : (o : Option ℕ) (P Q : ℕ → Type 0) → ((p : ℕ) → P p → Q p) → ((p : ℕ) → Q p → P p) → Found o P → Found o Q
found_same none P Q f g h = λ p q. h p (g p q)
found_same (some p) P Q f g h = (f p h.0, λ q l b. h.1 q l (g q b))

found_both : (a b : Option ℕ) (P Q : ℕ → Type 0) → ((p q : ℕ) → P p → Q q → p ≤ q)
    → Found a P → Found b Q → Found (earlier a b) (λ p. P p ⊎ Q p)
found_both none none P Q behind h k = λ p x. elim x [ inl a ↦ h p a | inr b ↦ k p b ]
found_both none (some q) P Q behind h k = (inr k.0, λ p l x. elim x [ inl a ↦ h p a | inr b ↦ k.1 p l b ])
found_both (some p) b P Q behind h k = (
  inl h.0,
  λ q l x. elim x [ inl a ↦ h.1 q l a | inr c ↦ let y = behind p q h.0 c in absurd (omega arith) ],
)

found_if : (t : Bool) (e : ℕ) (X : Type 0) → X ↔ Truth t → Found (if_so t e) (λ p. (p ≡ e) × X)
found_if true e X h = ((refl, h.1 tt), λ q l x. let y = x.0 in absurd (omega arith))
found_if false e X h = λ p x. h.0 x.1

-- There is at most one first entry: a promise of the first leaves no place open.
pub one_first : (P : ℕ → Type 0) {p q : ℕ} → First P p → First P q → p ≡ q
one_first P {p} {q} f g = same (λ l. f.1 q l g.0) (λ l. g.1 p l f.0)
  where
    same : ((q < p) → ⊥) → ((p < q) → ⊥) → p ≡ q
    same a b = omega arith

found_first : (o : Option ℕ) (P : ℕ → Type 0) (p : ℕ) → Found o P → First P p → o ≡ some p
found_first none P p h f = absurd (h p f.0)
found_first (some q) P p h f = ap some (one_first P h f)

found_nowhere : (o : Option ℕ) (P : ℕ → Type 0) → Found o P → Nowhere P → o ≡ none
found_nowhere none P h n = refl
found_nowhere (some q) P h n = absurd (n q h.0)

-- What the check's result says of a term: of a fault, that the term has no type and that this is the first faulty node; of a
-- type, that it is the term's, that there is no faulty node, and what the places of 17 and 18 are.
abbrev Describes : List Wire → List Binder → ℕ → ℕ → Term → Checked → Type 0
Describes L Γ lifts e M (typed A u v) =
    (infer (types_of Γ) (nth L) M ≡ some A)
    × Nowhere (At L (Faulty L) Γ lifts e M)
    × Found u (At L (BindsWrongly L) Γ lifts e M)
    × Found v (At L (UsesInside L) Γ lifts e M)
Describes L Γ lifts e M (fault p) = (infer (types_of Γ) (nth L) M ≡ none) × First (At L (Faulty L) Γ lifts e M) p

-- A faulty node has no type.
faulty_untyped : {L : List Wire} {Γ : List Binder} {lifts : ℕ} {M : Term}
    → Faulty L Γ lifts M → infer (types_of Γ) (nth L) M ≡ none
faulty_untyped (rule_fails p h) = h
faulty_untyped {L} {Γ} (no_pair {N = N} h k) =
    ap (λ o. given o λ A. given (as_pair A) λ p. infer (p.1 ∷ p.0 ∷ types_of Γ) (nth L) N) h
    ∙ ap (λ o. given o λ p. infer (p.1 ∷ p.0 ∷ types_of Γ) (nth L) N) k

typed_not_faulty : {L : List Wire} {Γ : List Binder} {lifts : ℕ} {M : Term} (A : Ty)
    → infer (types_of Γ) (nth L) M ≡ some A → Faulty L Γ lifts M → ⊥
typed_not_faulty A h f = some-ne-none A (sym h ∙ faulty_untyped f)

-- A fault of the node itself is the first.
own_fault : (L : List Wire) (Γ : List Binder) (lifts e : ℕ) (M : Term)
    → Faulty L Γ lifts M → Describes L Γ lifts e M (fault e)
own_fault L Γ lifts e M f = (
  faulty_untyped f,
  ((Γ, lifts, M, itself, f), λ q l a. let x = (occurs_within a.3).0 in omega arith),
)

-- A node without parts that has a type.
no_parts : (L : List Wire) (Γ : List Binder) (lifts e : ℕ) (M : Term) (A : Ty) (v : Option ℕ)
    → ((P : Property) (p : ℕ) → InParts L P Γ lifts e M p → ⊥)
    → infer (types_of Γ) (nth L) M ≡ some A
    → (BindsWrongly L Γ lifts M → ⊥)
    → Found v (λ p. (p ≡ e) × UsesInside L Γ lifts M)
    → Describes L Γ lifts e M (typed A none v)
no_parts L Γ lifts e M A v empty h binds f = (
  h,
  λ q a. typed_not_faulty A h (own (Faulty L) q a).1,
  λ q a. binds (own (BindsWrongly L) q a).1,
  found_same v _ (At L (UsesInside L) Γ lifts e M) (at_own L (UsesInside L) Γ lifts e M) (own (UsesInside L)) f,
)
  where
    own : (P : Property) (p : ℕ) → At L P Γ lifts e M p → Own P Γ lifts e M p
    own P p a = elim (at_out L P Γ lifts e M p a) [ inl o ↦ o | inr b ↦ absurd (empty P p b) ]

-- A node K with the one part M.
one_part : (L : List Wire) (Γ Γ₁ : List Binder) (lifts lifts₁ e : ℕ) (K M : Term) (rule : Ty → Option Ty) (t : Bool)
    → ((P : Property) (p : ℕ) → At L P Γ lifts e K p → Own P Γ lifts e K p ⊎ At L P Γ₁ lifts₁ (suc e) M p)
    → ((P : Property) (p : ℕ) → At L P Γ₁ lifts₁ (suc e) M p → At L P Γ lifts e K p)
    → infer (types_of Γ) (nth L) K ≡ given (infer (types_of Γ₁) (nth L) M) rule
    → (Faulty L Γ lifts K → HasType L Γ₁ M)
    → (HasType L Γ₁ M → infer (types_of Γ) (nth L) K ≡ none → Faulty L Γ lifts K)
    → BindsWrongly L Γ lifts K ↔ Truth t
    → (UsesInside L Γ lifts K → ⊥)
    → (c : Checked) → Describes L Γ₁ lifts₁ (suc e) M c
    → Describes L Γ lifts e K (followed c λ A u v. ruled e (rule A) (earlier (if_so t e) u) v)
one_part L Γ Γ₁ lifts lifts₁ e K M rule t out into types parts fails binds no_use (fault p) x = (
  types ∙ ap (λ o. given o rule) x.0,
  (into (Faulty L) p x.1.0, λ q l a. go q l (out (Faulty L) q a)),
)
  where
    go : (q : ℕ) → q < p → Own (Faulty L) Γ lifts e K q ⊎ At L (Faulty L) Γ₁ lifts₁ (suc e) M q → ⊥
    go q l (inl f) = let h = parts f.1 in some-ne-none h.0 (sym h.1 ∙ x.0)
    go q l (inr a) = x.1.1 q l a
one_part L Γ Γ₁ lifts lifts₁ e K M rule t out into types parts fails binds no_use (typed A u v) x = ruling (rule A) refl
  where
    type : (o : Option Ty) → rule A ≡ o → infer (types_of Γ) (nth L) K ≡ o
    type o r = types ∙ ap (λ x. given x rule) x.0 ∙ r

    none_faulty : (q : ℕ) (B : Ty) → rule A ≡ some B
        → Own (Faulty L) Γ lifts e K q ⊎ At L (Faulty L) Γ₁ lifts₁ (suc e) M q → ⊥
    none_faulty q B r (inl f) = typed_not_faulty B (type (some B) r) f.1
    none_faulty q B r (inr a) = x.1 q a

    own_before : (p q : ℕ) → Own (BindsWrongly L) Γ lifts e K p → At L (BindsWrongly L) Γ₁ lifts₁ (suc e) M q → p ≤ q
    own_before p q o a = let y = o.0 in let z = (occurs_within a.3).0 in omega arith

    wrong_into : (p : ℕ) → Own (BindsWrongly L) Γ lifts e K p ⊎ At L (BindsWrongly L) Γ₁ lifts₁ (suc e) M p
        → At L (BindsWrongly L) Γ lifts e K p
    wrong_into p (inl o) = at_own L (BindsWrongly L) Γ lifts e K p o
    wrong_into p (inr a) = into (BindsWrongly L) p a

    inside_out : (p : ℕ) → At L (UsesInside L) Γ lifts e K p → At L (UsesInside L) Γ₁ lifts₁ (suc e) M p
    inside_out p a = elim (out (UsesInside L) p a) [ inl o ↦ absurd (no_use o.1) | inr b ↦ b ]

    ruling : (o : Option Ty) → rule A ≡ o → Describes L Γ lifts e K (ruled e o (earlier (if_so t e) u) v)
    ruling none r = own_fault L Γ lifts e K (fails (A, x.0) (type none r))
    ruling (some B) r = (
      type (some B) r,
      λ q a. none_faulty q B r (out (Faulty L) q a),
      found_same (earlier (if_so t e) u) _ _ wrong_into (out (BindsWrongly L))
          (found_both (if_so t e) u _ _ own_before (found_if t e (BindsWrongly L Γ lifts K) binds) x.2),
      found_same v _ _ (into (UsesInside L)) inside_out x.3,
    )

-- A node K with the parts M and N, of which the first has a type. It binds two variables in N, or none.
second_part : (L : List Wire) (Γ Γ₂ : List Binder) (lifts e : ℕ) (K M N : Term) (rule : Ty → Option Ty) (s t : Bool)
    (X Y : Type 0) (A : Ty) (u v : Option ℕ)
    → ((P : Property) (p : ℕ) → At L P Γ lifts e K p
    → Own P Γ lifts e K p ⊎ (At L P Γ lifts (suc e) M p ⊎ At L P Γ₂ lifts (suc e + nodes M) N p))
    → ((P : Property) (p : ℕ) → At L P Γ lifts (suc e) M p ⊎ At L P Γ₂ lifts (suc e + nodes M) N p → At L P Γ lifts e K p)
    → infer (types_of Γ) (nth L) K ≡ given (infer (types_of Γ₂) (nth L) N) rule
    → (Faulty L Γ lifts K → HasType L Γ₂ N)
    → (HasType L Γ₂ N → infer (types_of Γ) (nth L) K ≡ none → Faulty L Γ lifts K)
    → X ↔ Truth s → Y ↔ Truth t
    → (BindsWrongly L Γ lifts K → X ⊎ Y) → (X ⊎ Y → BindsWrongly L Γ lifts K)
    → (UsesInside L Γ lifts K → ⊥)
    → Describes L Γ lifts (suc e) M (typed A u v)
    → (d : Checked) → Describes L Γ₂ lifts (suc e + nodes M) N d
    → Describes L Γ lifts e K
    (followed d λ B u' v'.
    ruled e (rule B) (earlier (if_so s e) (earlier (if_so t e) (earlier u u'))) (earlier v v'))
second_part L Γ Γ₂ lifts e K M N rule s t X Y A u v out into types parts fails b c binds bound no_use x (fault p) y = (
  types ∙ ap (λ o. given o rule) y.0,
  (into (Faulty L) p (inr y.1.0), λ q l a. go q l (out (Faulty L) q a)),
)
  where
    go : (q : ℕ) → q < p
        → Own (Faulty L) Γ lifts e K q
        ⊎ (At L (Faulty L) Γ lifts (suc e) M q ⊎ At L (Faulty L) Γ₂ lifts (suc e + nodes M) N q)
        → ⊥
    go q l (inl f) = let h = parts f.1 in some-ne-none h.0 (sym h.1 ∙ y.0)
    go q l (inr (inl a)) = x.1 q a
    go q l (inr (inr b)) = y.1.1 q l b
second_part L Γ Γ₂ lifts e K M N rule s t X Y A u v out into types parts fails b c binds bound no_use x (typed B u' v') y =
    ruling (rule B) refl
  where
    Parts : Property → ℕ → Type 0
    Parts P p = At L P Γ lifts (suc e) M p ⊎ At L P Γ₂ lifts (suc e + nodes M) N p

    type : (o : Option Ty) → rule B ≡ o → infer (types_of Γ) (nth L) K ≡ o
    type o r = types ∙ ap (λ o. given o rule) y.0 ∙ r

    none_faulty : (q : ℕ) (C : Ty) → rule B ≡ some C → Own (Faulty L) Γ lifts e K q ⊎ Parts (Faulty L) q → ⊥
    none_faulty q C r (inl f) = typed_not_faulty C (type (some C) r) f.1
    none_faulty q C r (inr (inl a)) = x.1 q a
    none_faulty q C r (inr (inr b)) = y.1 q b

    in_parts : (P : Property) (a b : Option ℕ)
        → Found a (At L P Γ lifts (suc e) M) → Found b (At L P Γ₂ lifts (suc e + nodes M) N) → Found (earlier a b) (Parts P)
    in_parts P a b f g = found_both a b _ _ (behind_first L P Γ Γ₂ lifts e M N) f g

    Wrong : ℕ → Type 0
    Wrong p = ((p ≡ e) × X) ⊎ (((p ≡ e) × Y) ⊎ Parts (BindsWrongly L) p)

    wrong_out : (p : ℕ) → At L (BindsWrongly L) Γ lifts e K p → Wrong p
    wrong_out p a =
        elim (out (BindsWrongly L) p a) [
          | inl o ↦ elim (binds o.1) [ inl f ↦ inl (o.0, f) | inr g ↦ inr (inl (o.0, g)) ]
          | inr b ↦ inr (inr b)
        ]

    wrong_into : (p : ℕ) → Wrong p → At L (BindsWrongly L) Γ lifts e K p
    wrong_into p (inl f) = at_own L (BindsWrongly L) Γ lifts e K p (f.0, bound (inl f.1))
    wrong_into p (inr (inl g)) = at_own L (BindsWrongly L) Γ lifts e K p (g.0, bound (inr g.1))
    wrong_into p (inr (inr b)) = into (BindsWrongly L) p b

    before_parts : (p q : ℕ) → (p ≡ e) × Y → Parts (BindsWrongly L) q → p ≤ q
    before_parts p q h (inl a) = let i = h.0 in let j = (occurs_within a.3).0 in omega arith
    before_parts p q h (inr b) = let i = h.0 in let j = (occurs_within b.3).0 in omega arith

    before_all : (p q : ℕ) → (p ≡ e) × X → ((q ≡ e) × Y) ⊎ Parts (BindsWrongly L) q → p ≤ q
    before_all p q h (inl g) = let i = h.0 in let j = g.0 in omega arith
    before_all p q h (inr (inl a)) = let i = h.0 in let j = (occurs_within a.3).0 in omega arith
    before_all p q h (inr (inr b)) = let i = h.0 in let j = (occurs_within b.3).0 in omega arith

    wrong : Found (earlier (if_so s e) (earlier (if_so t e) (earlier u u'))) Wrong
    wrong =
        found_both (if_so s e) (earlier (if_so t e) (earlier u u')) _ _ before_all (found_if s e X b)
        (found_both (if_so t e) (earlier u u') _ _ before_parts (found_if t e Y c)
        (in_parts (BindsWrongly L) u u' x.2 y.2))

    inside_out : (p : ℕ) → At L (UsesInside L) Γ lifts e K p → Parts (UsesInside L) p
    inside_out p a = elim (out (UsesInside L) p a) [ inl o ↦ absurd (no_use o.1) | inr b ↦ b ]

    ruling : (o : Option Ty) → rule B ≡ o
        → Describes L Γ lifts e K
        (ruled e o (earlier (if_so s e) (earlier (if_so t e) (earlier u u'))) (earlier v v'))
    ruling none r = own_fault L Γ lifts e K (fails (B, y.0) (type none r))
    ruling (some C) r = (
      type (some C) r,
      λ q a. none_faulty q C r (out (Faulty L) q a),
      found_same (earlier (if_so s e) (earlier (if_so t e) (earlier u u'))) Wrong _ wrong_into wrong_out wrong,
      found_same (earlier v v') _ _ (into (UsesInside L)) inside_out (in_parts (UsesInside L) v v' x.3 y.3),
    )

-- A node with two parts under the same binders.
two_parts : (L : List Wire) (Γ : List Binder) (lifts e : ℕ) (K M N : Term) (rule : Ty → Ty → Option Ty)
    → ((P : Property) (p : ℕ) → At L P Γ lifts e K p
    → Own P Γ lifts e K p ⊎ (At L P Γ lifts (suc e) M p ⊎ At L P Γ lifts (suc e + nodes M) N p))
    → ((P : Property) (p : ℕ) → At L P Γ lifts (suc e) M p ⊎ At L P Γ lifts (suc e + nodes M) N p → At L P Γ lifts e K p)
    → infer (types_of Γ) (nth L) K
    ≡ given (infer (types_of Γ) (nth L) M) (λ A. given (infer (types_of Γ) (nth L) N) λ B. rule A B)
    → (Faulty L Γ lifts K → HasType L Γ M × HasType L Γ N)
    → (HasType L Γ M × HasType L Γ N → infer (types_of Γ) (nth L) K ≡ none → Faulty L Γ lifts K)
    → (BindsWrongly L Γ lifts K → ⊥)
    → (UsesInside L Γ lifts K → ⊥)
    → (c d : Checked) → Describes L Γ lifts (suc e) M c → Describes L Γ lifts (suc e + nodes M) N d
    → Describes L Γ lifts e K (two_ruled e rule c d)
two_parts L Γ lifts e K M N rule out into types parts fails binds no_use c d x y = of_parts c d x y
  where
    first_fault : (p : ℕ) → Describes L Γ lifts (suc e) M (fault p) → Describes L Γ lifts e K (fault p)
    first_fault p x = (
      types ∙ ap (λ o. given o λ A. given (infer (types_of Γ) (nth L) N) λ B. rule A B) x.0,
      (into (Faulty L) p (inl x.1.0), λ q l a. go q l (out (Faulty L) q a)),
    )
      where
        go : (q : ℕ) → q < p
            → Own (Faulty L) Γ lifts e K q
            ⊎ (At L (Faulty L) Γ lifts (suc e) M q ⊎ At L (Faulty L) Γ lifts (suc e + nodes M) N q)
            → ⊥
        go q l (inl f) = let h = (parts f.1).0 in some-ne-none h.0 (sym h.1 ∙ x.0)
        go q l (inr (inl a)) = x.1.1 q l a
        go q l (inr (inr b)) = let z = behind_first L (Faulty L) Γ Γ lifts e M N p q x.1.0 b in omega arith

    never : ⊥ ⊎ ⊥ → BindsWrongly L Γ lifts K
    never (inl n) = absurd n
    never (inr n) = absurd n

    first_typed : (A : Ty) (u v : Option ℕ) → Describes L Γ lifts (suc e) M (typed A u v)
        → (d : Checked) → Describes L Γ lifts (suc e + nodes M) N d
        → Describes L Γ lifts e K (followed d λ B u' v'. ruled e (rule A B) (earlier u u') (earlier v v'))
    first_typed A u v x d y =
        second_part L Γ Γ lifts e K M N (rule A) false false ⊥ ⊥ A u v out into
        (types ∙ ap (λ o. given o λ A. given (infer (types_of Γ) (nth L) N) λ B. rule A B) x.0)
        (λ f. (parts f).1) (λ h. fails ((A, x.0), h)) (λ n. n, λ n. n) (λ n. n, λ n. n) (λ b. absurd (binds b)) never
        no_use x d y

    of_parts : (c d : Checked) → Describes L Γ lifts (suc e) M c → Describes L Γ lifts (suc e + nodes M) N d
        → Describes L Γ lifts e K (two_ruled e rule c d)
    of_parts (fault p) (fault q) x y = first_fault p x
    of_parts (fault p) (typed B u' v') x y = first_fault p x
    of_parts (typed A u v) (fault q) x y = first_typed A u v x (fault q) y
    of_parts (typed A u v) (typed B u' v') x y = first_typed A u v x (typed B u' v') y

-- A let has the type of its second part.
let_type : (L : List Wire) (Γ : List Ty) (M N : Term) (A B : Ty)
    → infer Γ (nth L) M ≡ some (A ⊗ B)
    → infer Γ (nth L) (let_in M N) ≡ given (infer (B ∷ A ∷ Γ) (nth L) N) (λ C. some C)
let_type L Γ M N A B h =
    ap (λ o. given o λ P. given (as_pair P) λ p. infer (p.1 ∷ p.0 ∷ Γ) (nth L) N) h
    ∙ sym (given_same (infer (B ∷ A ∷ Γ) (nth L) N))

-- A let is faulty only if its first part has a type that is no pair.
let_faulty : {L : List Wire} {Γ : List Binder} {lifts : ℕ} {M N : Term}
    → Faulty L Γ lifts (let_in M N) → (A : Ty) × (infer (types_of Γ) (nth L) M ≡ some A) × (as_pair A ≡ none)
let_faulty {L} {Γ} {lifts} {M} {N} (rule_fails p h) =
    let t = p.3 in
    let x = let_type L (types_of Γ) M N p.0 p.1 p.2 ∙ ap (λ o. given o λ C. some C) t.1 in
    absurd (some-ne-none t.0 (sym x ∙ h))
let_faulty (no_pair {A = A} h k) = (A, h, k)

pair_not_faulty : {L : List Wire} {Γ : List Binder} {lifts : ℕ} {M N : Term} (A B : Ty)
    → infer (types_of Γ) (nth L) M ≡ some (A ⊗ B) → Faulty L Γ lifts (let_in M N) → ⊥
pair_not_faulty A B h f =
    let g = let_faulty f in
    let i = g.1 in
    let k : A ⊗ B ≡ g.0 = cc in
    some-ne-none {A = Ty × Ty} (A, B) (ap as_pair k ∙ g.2)

-- What a let binds wrongly, where its first part gives these two types.
let_binds : {L : List Wire} {Γ : List Binder} {lifts : ℕ} {M N : Term} (A B : Ty)
    → infer (types_of Γ) (nth L) M ≡ some (A ⊗ B) → BindsWrongly L Γ lifts (let_in M N)
    → (Linear A × (uses 1 N ≢ 1)) ⊎ (Linear B × (uses 0 N ≢ 1))
let_binds A B h (by_let_first {A = A'} i l n) = let e : A' ≡ A = cc in inl (subst Linear e l, n)
let_binds A B h (by_let_second {B = B'} i l n) = let e : B' ≡ B = cc in inr (subst Linear e l, n)

wrong_use_lem : (A : Ty) (n : ℕ) → (Linear A × (n ≢ 1)) ↔ Truth (used_wrongly A n)
wrong_use_lem A n = (λ h. →used_wrongly A n h.0 h.1, used_wrongly→ A n)

-- A let whose first part has a pair type.
let_pair : (L : List Wire) (Γ : List Binder) (lifts e : ℕ) (M N : Term) (A B : Ty) (u v : Option ℕ)
    → Describes L Γ lifts (suc e) M (typed (A ⊗ B) u v)
    → (d : Checked) → Describes L (B under lifts ∷ A under lifts ∷ Γ) lifts (suc e + nodes M) N d
    → Describes L Γ lifts e (let_in M N)
    (followed d λ C u' v'.
    typed C
    (earlier (if_so (used_wrongly A (uses 1 N)) e) (earlier (if_so (used_wrongly B (uses 0 N)) e) (earlier u u')))
    (earlier v v'))
let_pair L Γ lifts e M N A B u v x d y =
    second_part L Γ (B under lifts ∷ A under lifts ∷ Γ) lifts e (let_in M N) M N (λ C. some C)
    (used_wrongly A (uses 1 N)) (used_wrongly B (uses 0 N)) (Linear A × (uses 1 N ≢ 1)) (Linear B × (uses 0 N ≢ 1))
    (A ⊗ B) u v out into (let_type L (types_of Γ) M N A B x.0)
    (λ f. absurd (pair_not_faulty A B x.0 f)) (λ h k. rule_fails (A, B, x.0, h) k)
    (wrong_use_lem A (uses 1 N)) (wrong_use_lem B (uses 0 N)) (let_binds A B x.0) bound (λ b. elim b [ ]) x d y
  where
    second : (P : Property) (p : ℕ)
        → ((A' : Ty) × (B' : Ty) × (infer (types_of Γ) (nth L) M ≡ some (A' ⊗ B'))
        × At L P (B' under lifts ∷ A' under lifts ∷ Γ) lifts (suc e + nodes M) N p)
        → At L P (B under lifts ∷ A under lifts ∷ Γ) lifts (suc e + nodes M) N p
    second P p b =
        let i = b.2 in
        let j = x.0 in
        let a : b.0 ≡ A = cc in
        let c : b.1 ≡ B = cc in
        subst₂ (λ X Y. At L P (Y under lifts ∷ X under lifts ∷ Γ) lifts (suc e + nodes M) N p) a c b.3

    out : (P : Property) (p : ℕ) → At L P Γ lifts e (let_in M N) p
        → Own P Γ lifts e (let_in M N) p
        ⊎ (At L P Γ lifts (suc e) M p ⊎ At L P (B under lifts ∷ A under lifts ∷ Γ) lifts (suc e + nodes M) N p)
    out P p a =
        elim (at_out L P Γ lifts e (let_in M N) p a) [
          | inl o ↦ inl o
          | inr b ↦ inr (elim b [ inl m ↦ inl m | inr n ↦ inr (second P p n) ])
        ]

    into : (P : Property) (p : ℕ)
        → At L P Γ lifts (suc e) M p ⊎ At L P (B under lifts ∷ A under lifts ∷ Γ) lifts (suc e + nodes M) N p
        → At L P Γ lifts e (let_in M N) p
    into P p (inl a) = at_parts L P Γ lifts e (let_in M N) p (inl a)
    into P p (inr b) = at_parts L P Γ lifts e (let_in M N) p (inr (A, B, x.0, b))

    bound : (Linear A × (uses 1 N ≢ 1)) ⊎ (Linear B × (uses 0 N ≢ 1)) → BindsWrongly L Γ lifts (let_in M N)
    bound (inl h) = by_let_first x.0 h.0 h.1
    bound (inr h) = by_let_second x.0 h.0 h.1

let_described : (L : List Wire) (Γ : List Binder) (lifts e : ℕ) (M N : Term) (second : Ty → Ty → Checked) (c : Checked)
    → Describes L Γ lifts (suc e) M c
    → ((A B : Ty) → Describes L (B under lifts ∷ A under lifts ∷ Γ) lifts (suc e + nodes M) N (second A B))
    → Describes L Γ lifts e (let_in M N) (followed c λ P u v. let_found e N (as_pair P) second u v)
let_described L Γ lifts e M N second (fault p) x y = (
  ap (λ o. given o λ P. given (as_pair P) λ p. infer (p.1 ∷ p.0 ∷ types_of Γ) (nth L) N) x.0,
  (
    at_parts L (Faulty L) Γ lifts e (let_in M N) p (inl x.1.0),
    λ q l a. go q l (at_out L (Faulty L) Γ lifts e (let_in M N) q a),
  ),
)
  where
    go : (q : ℕ) → q < p → Own (Faulty L) Γ lifts e (let_in M N) q ⊎ InParts L (Faulty L) Γ lifts e (let_in M N) q → ⊥
    go q l (inl f) = let h = let_faulty f.1 in some-ne-none h.0 (sym h.1 ∙ x.0)
    go q l (inr (inl a)) = x.1.1 q l a
    go q l (inr (inr b)) = some-ne-none (b.0 ⊗ b.1) (sym b.2 ∙ x.0)
let_described L Γ lifts e M N second (typed (wire α) u v) x y =
    own_fault L Γ lifts e (let_in M N) (no_pair {A = wire α} x.0 refl)
let_described L Γ lifts e M N second (typed unit u v) x y =
    own_fault L Γ lifts e (let_in M N) (no_pair {A = unit} x.0 refl)
let_described L Γ lifts e M N second (typed (A ⊗ B) u v) x y = let_pair L Γ lifts e M N A B u v x (second A B) (y A B)
let_described L Γ lifts e M N second (typed (A ⊸ B) u v) x y =
    own_fault L Γ lifts e (let_in M N) (no_pair {A = A ⊸ B} x.0 refl)
let_described L Γ lifts e M N second (typed (! A) u v) x y =
    own_fault L Γ lifts e (let_in M N) (no_pair {A = ! A} x.0 refl)
let_described L Γ lifts e M N second (typed (Circ A B) u v) x y =
    own_fault L Γ lifts e (let_in M N) (no_pair {A = Circ A B} x.0 refl)

variable_described : (L : List Wire) (Γ : List Binder) (lifts e n : ℕ)
    → Describes L Γ lifts e (variable n) (variable_found e lifts (nth Γ n))
variable_described L Γ lifts e n = go (nth Γ n) refl
  where
    inside : (A : Ty) (bound : ℕ) → nth Γ n ≡ some (A under bound)
        → UsesInside L Γ lifts (variable n) → Truth (crosses A bound lifts)
    inside A bound h (of_variable {A = B} {bound = other} k l b) =
        let x : B ≡ A = cc in
        let y : other ≡ bound = cc in
        →crosses A bound lifts (subst Linear x l) (subst (λ j. j < lifts) y b)

    go : (o : Option Binder) → nth Γ n ≡ o → Describes L Γ lifts e (variable n) (variable_found e lifts o)
    go none h =
        own_fault L Γ lifts e (variable n)
        (rule_fails tt (sym (check_type L Γ lifts e (variable n)) ∙ ap (λ o. type_of (variable_found e lifts o)) h))
    go (some (A under bound)) h =
        no_parts L Γ lifts e (variable n) A (if_so (crosses A bound lifts) e) (λ P p b. b) (binder_type Γ n A bound h)
        (λ b. elim b [ ])
        (found_if (crosses A bound lifts) e (UsesInside L Γ lifts (variable n))
        (inside A bound h, λ t. of_variable h (crosses→ A bound lifts t).0 (crosses→ A bound lifts t).1))

label_described : (L : List Wire) (Γ : List Binder) (lifts e ℓ : ℕ)
    → Describes L Γ lifts e (label ℓ) (label_found e lifts (nth L ℓ))
label_described L Γ lifts e ℓ = go (nth L ℓ) refl
  where
    inside : (α : Wire) → UsesInside L Γ lifts (label ℓ) → Truth (crosses (wire α) 0 lifts)
    inside α (of_label k b) = →crosses (wire α) 0 lifts tt b

    go : (o : Option Wire) → nth L ℓ ≡ o → Describes L Γ lifts e (label ℓ) (label_found e lifts o)
    go none h = own_fault L Γ lifts e (label ℓ) (rule_fails tt (ap (map wire) h))
    go (some α) h =
        no_parts L Γ lifts e (label ℓ) (wire α) (if_so (crosses (wire α) 0 lifts) e) (λ P p b. b)
        (ap (map wire) h) (λ b. elim b [ ])
        (found_if (crosses (wire α) 0 lifts) e (UsesInside L Γ lifts (label ℓ))
        (inside α, λ t. of_label h (crosses→ (wire α) 0 lifts t).1))

gate_described : (L : List Wire) (Γ : List Binder) (lifts e n : ℕ)
    → Describes L Γ lifts e (gate n) (ruled e (map gate_node_type (gate_type n)) none none)
gate_described L Γ lifts e n = go (map gate_node_type (gate_type n)) refl
  where
    go : (o : Option Ty) → map gate_node_type (gate_type n) ≡ o → Describes L Γ lifts e (gate n) (ruled e o none none)
    go none h = own_fault L Γ lifts e (gate n) (rule_fails tt h)
    go (some A) h =
        no_parts L Γ lifts e (gate n) A none (λ P p b. b) h (λ b. elim b [ ]) (λ p x. elim x.1 [ ])

-- The parts of a faulty node that is no let have types.
abstraction_parts : {L : List Wire} {Γ : List Binder} {lifts : ℕ} {A : Ty} {M : Term}
    → Faulty L Γ lifts (abstraction A M) → HasType L (A under lifts ∷ Γ) M
abstraction_parts (rule_fails p h) = p

lift_parts : {L : List Wire} {Γ : List Binder} {lifts : ℕ} {M : Term} → Faulty L Γ lifts (lift M) → HasType L Γ M
lift_parts (rule_fails p h) = p

force_parts : {L : List Wire} {Γ : List Binder} {lifts : ℕ} {M : Term} → Faulty L Γ lifts (force M) → HasType L Γ M
force_parts (rule_fails p h) = p

box_parts : {L : List Wire} {Γ : List Binder} {lifts : ℕ} {T : Ty} {M : Term}
    → Faulty L Γ lifts (box T M) → HasType L Γ M
box_parts (rule_fails p h) = p

application_parts : {L : List Wire} {Γ : List Binder} {lifts : ℕ} {M N : Term}
    → Faulty L Γ lifts (application M N) → HasType L Γ M × HasType L Γ N
application_parts (rule_fails p h) = p

pair_parts : {L : List Wire} {Γ : List Binder} {lifts : ℕ} {M N : Term}
    → Faulty L Γ lifts (pair M N) → HasType L Γ M × HasType L Γ N
pair_parts (rule_fails p h) = p

apply_parts : {L : List Wire} {Γ : List Binder} {lifts : ℕ} {M N : Term}
    → Faulty L Γ lifts (apply M N) → HasType L Γ M × HasType L Γ N
apply_parts (rule_fails p h) = p

abstraction_binds : {L : List Wire} {Γ : List Binder} {lifts : ℕ} {A : Ty} {M : Term}
    → BindsWrongly L Γ lifts (abstraction A M) → Truth (used_wrongly A (uses 0 M))
abstraction_binds {A = A} {M = M} (by_abstraction l n) = →used_wrongly A (uses 0 M) l n

-- The check's result describes the term.
described : (L : List Wire) (Γ : List Binder) (lifts e : ℕ) (M : Term) → Describes L Γ lifts e M (check_term L Γ lifts e M)
described L Γ lifts e (variable n) = variable_described L Γ lifts e n
described L Γ lifts e (label ℓ) = label_described L Γ lifts e ℓ
described L Γ lifts e (gate n) = gate_described L Γ lifts e n
described L Γ lifts e unit_value =
    no_parts L Γ lifts e unit_value unit none (λ P p b. b) refl (λ b. elim b [ ]) (λ p x. elim x.1 [ ])
described L Γ lifts e (constant b) = own_fault L Γ lifts e (constant b) (rule_fails tt refl)
described L Γ lifts e (abstraction A M) =
    one_part L Γ (A under lifts ∷ Γ) lifts lifts e (abstraction A M) M (abstraction_type A) (used_wrongly A (uses 0 M))
    (λ P p. at_out L P Γ lifts e (abstraction A M) p) (λ P p. at_parts L P Γ lifts e (abstraction A M) p)
    refl abstraction_parts rule_fails
    (abstraction_binds, λ x. by_abstraction (used_wrongly→ A (uses 0 M) x).0 (used_wrongly→ A (uses 0 M) x).1)
    (λ b. elim b [ ])
    (check_term L (A under lifts ∷ Γ) lifts (suc e) M) (described L (A under lifts ∷ Γ) lifts (suc e) M)
described L Γ lifts e (application M N) =
    two_parts L Γ lifts e (application M N) M N application_type
    (λ P p. at_out L P Γ lifts e (application M N) p) (λ P p. at_parts L P Γ lifts e (application M N) p)
    refl application_parts rule_fails (λ b. elim b [ ]) (λ b. elim b [ ])
    (check_term L Γ lifts (suc e) M) (check_term L Γ lifts (suc e + nodes M) N)
    (described L Γ lifts (suc e) M) (described L Γ lifts (suc e + nodes M) N)
described L Γ lifts e (pair M N) =
    two_parts L Γ lifts e (pair M N) M N pair_type
    (λ P p. at_out L P Γ lifts e (pair M N) p) (λ P p. at_parts L P Γ lifts e (pair M N) p)
    refl pair_parts rule_fails (λ b. elim b [ ]) (λ b. elim b [ ])
    (check_term L Γ lifts (suc e) M) (check_term L Γ lifts (suc e + nodes M) N)
    (described L Γ lifts (suc e) M) (described L Γ lifts (suc e + nodes M) N)
described L Γ lifts e (let_in M N) =
    let_described L Γ lifts e M N (λ A B. check_term L (B under lifts ∷ A under lifts ∷ Γ) lifts (suc e + nodes M) N)
    (check_term L Γ lifts (suc e) M) (described L Γ lifts (suc e) M)
    (λ A B. described L (B under lifts ∷ A under lifts ∷ Γ) lifts (suc e + nodes M) N)
described L Γ lifts e (lift M) =
    one_part L Γ Γ lifts (suc lifts) e (lift M) M lift_type false
    (λ P p. at_out L P Γ lifts e (lift M) p) (λ P p. at_parts L P Γ lifts e (lift M) p)
    refl lift_parts rule_fails (λ b. elim b [ ], λ x. absurd x) (λ b. elim b [ ])
    (check_term L Γ (suc lifts) (suc e) M) (described L Γ (suc lifts) (suc e) M)
described L Γ lifts e (force M) =
    one_part L Γ Γ lifts lifts e (force M) M as_reusable false
    (λ P p. at_out L P Γ lifts e (force M) p) (λ P p. at_parts L P Γ lifts e (force M) p)
    refl force_parts rule_fails (λ b. elim b [ ], λ x. absurd x) (λ b. elim b [ ])
    (check_term L Γ lifts (suc e) M) (described L Γ lifts (suc e) M)
described L Γ lifts e (box T M) =
    one_part L Γ Γ lifts lifts e (box T M) M (box_type T) false
    (λ P p. at_out L P Γ lifts e (box T M) p) (λ P p. at_parts L P Γ lifts e (box T M) p)
    refl box_parts rule_fails (λ b. elim b [ ], λ x. absurd x) (λ b. elim b [ ])
    (check_term L Γ lifts (suc e) M) (described L Γ lifts (suc e) M)
described L Γ lifts e (apply M N) =
    two_parts L Γ lifts e (apply M N) M N apply_type
    (λ P p. at_out L P Γ lifts e (apply M N) p) (λ P p. at_parts L P Γ lifts e (apply M N) p)
    refl apply_parts rule_fails (λ b. elim b [ ]) (λ b. elim b [ ])
    (check_term L Γ lifts (suc e) M) (check_term L Γ lifts (suc e + nodes M) N)
    (described L Γ lifts (suc e) M) (described L Γ lifts (suc e + nodes M) N)

-- From label ℓ on, the first that is not used exactly once.
wrong_label_found : (M : Term) (ℓ k : ℕ)
    → Found (wrong_label M ℓ k) (λ p. (ℓ ≤ p) × (p < ℓ + k) × (label_uses p M ≢ 1))
wrong_label_found M ℓ zero = λ p h. let a = h.0 in let b = h.1 in omega arith
wrong_label_found M ℓ (suc k) = go (eqb (label_uses ℓ M) 1) refl (wrong_label_found M (suc ℓ) k)
  where
    later : (p : ℕ) → (suc ℓ ≤ p) × (p < suc ℓ + k) × (label_uses p M ≢ 1)
        → (ℓ ≤ p) × (p < ℓ + suc k) × (label_uses p M ≢ 1)
    later p h = let a = h.0 in let b = h.1 in (omega arith, omega arith, h.2)

    not_this : label_uses ℓ M ≡ 1 → (p : ℕ) → (ℓ ≤ p) × (p < ℓ + suc k) × (label_uses p M ≢ 1)
        → (suc ℓ ≤ p) × (p < suc ℓ + k) × (label_uses p M ≢ 1)
    not_this e p h = decide (ℕ_discrete p ℓ)
      where
        decide : Dec (p ≡ ℓ) → (suc ℓ ≤ p) × (p < suc ℓ + k) × (label_uses p M ≢ 1)
        decide (yes q) = absurd (h.2 (ap (λ i. label_uses i M) q ∙ e))
        decide (no q) = let a = h.0 in let b = h.1 in (omega arith, omega arith, h.2)

    go : (t : Bool) → eqb (label_uses ℓ M) 1 ≡ t
        → Found (wrong_label M (suc ℓ) k) (λ p. (suc ℓ ≤ p) × (p < suc ℓ + k) × (label_uses p M ≢ 1))
        → Found (cond t (wrong_label M (suc ℓ) k) (some ℓ)) (λ p. (ℓ ≤ p) × (p < ℓ + suc k) × (label_uses p M ≢ 1))
    go true t f =
        found_same (wrong_label M (suc ℓ) k) _ _ later
        (not_this (eqb→eq (label_uses ℓ M) 1 (subst Truth (sym t) tt))) f
    go false t f = (
      (omega arith, omega arith, λ e. subst Truth (ap (λ n. eqb n 1) (sym e) ∙ t) tt),
      λ q l h. let a = h.0 in omega arith,
    )

labels_found : (L : List Wire) (M : Term) → Found (wrong_label M 0 (length L)) (WrongLabelAt L M)
labels_found L M =
    found_same (wrong_label M 0 (length L)) _ (WrongLabelAt L M)
    (λ p h. (let b = h.1 in omega arith, h.2)) (λ p h. (omega arith, let b = h.0 in omega arith, h.1))
    (wrong_label_found M 0 (length L))

-- What is decided from the places that were found: u of 17, v of 18.
not_16 : (A : Ty) (u v : Option ℕ) (p : ℕ) → secondly A u v ≡ refusal 16 p → ⊥
not_16 A none none p h = let z : ◌≡◌ {A = ℕ} 0 1 = cc in omega arith
not_16 A none (some q) p h = let z : ◌≡◌ {A = ℕ} 18 16 = cc in omega arith
not_16 A (some q) v p h = let z : ◌≡◌ {A = ℕ} 17 16 = cc in omega arith

decided_17 : (A : Ty) (u v : Option ℕ) (Q : ℕ → Type 0) (p : ℕ) → Found u Q
    → (secondly A u v ≡ refusal 17 p) ↔ First Q p
decided_17 A u v Q p g = (from u v g, λ f. ap (λ o. secondly A o v) (found_first u Q p g f))
  where
    from : (u v : Option ℕ) → Found u Q → secondly A u v ≡ refusal 17 p → First Q p
    from (some q) v g h = let x : q ≡ p = cc in subst (First Q) x g
    from none (some q) g h = let z : ◌≡◌ {A = ℕ} 18 17 = cc in absurd (omega arith)
    from none none g h = let z : ◌≡◌ {A = ℕ} 0 1 = cc in absurd (omega arith)

decided_18 : (A : Ty) (u v : Option ℕ) (Q R : ℕ → Type 0) (p : ℕ) → Found u Q → Found v R
    → (secondly A u v ≡ refusal 18 p) ↔ (Nowhere Q × First R p)
decided_18 A u v Q R p g k = (from u v g k, to)
  where
    from : (u v : Option ℕ) → Found u Q → Found v R → secondly A u v ≡ refusal 18 p → Nowhere Q × First R p
    from (some q) v g k h = let z : ◌≡◌ {A = ℕ} 18 17 = cc in absurd (omega arith)
    from none (some q) g k h = let x : q ≡ p = cc in (g, subst (First R) x k)
    from none none g k h = let z : ◌≡◌ {A = ℕ} 0 1 = cc in absurd (omega arith)

    to : Nowhere Q × First R p → secondly A u v ≡ refusal 18 p
    to h =
        ap (λ o. secondly A o v) (found_nowhere u Q g h.0)
        ∙ ap (λ o. secondly A none o) (found_first v R p k h.1)

-- 16: the check refuses with 16 and place p exactly if p is the first entry of a faulty node.
pub sixteen : (L : List Wire) (e : ℕ) (M : Term) (p : ℕ)
    → (verdict L e M ≡ refusal 16 p) ↔ First (FaultAt L e M) p
sixteen L e M p = go (check_term L [] 0 e M) (described L [] 0 e M)
  where
    go : (c : Checked) → Describes L [] 0 e M c → (decided L M c ≡ refusal 16 p) ↔ First (FaultAt L e M) p
    go (fault q) d = (
      λ h. let x : q ≡ p = cc in subst (First (FaultAt L e M)) x d.1,
      λ f. let x = found_first (some q) (FaultAt L e M) p d.1 f in cc,
    )
    go (typed A u v) d =
        (λ h. absurd (not_16 A (earlier (wrong_label M 0 (length L)) u) v p h), λ f. absurd (d.1 p f.0))

-- A program whose labels stand before its term, as in a file.
module _ (L : List Wire) (e : ℕ) (M : Term) (behind : length L ≤ e) where
  -- The labels are the first of what 17 concerns.
  not_once_found : (u : Option ℕ) → Found u (WrongBinderAt L e M)
      → Found (earlier (wrong_label M 0 (length L)) u) (NotOnceAt L e M)
  not_once_found u f =
      found_both (wrong_label M 0 (length L)) u (WrongLabelAt L M) (WrongBinderAt L e M) before (labels_found L M) f
    where
      before : (p q : ℕ) → WrongLabelAt L M p → WrongBinderAt L e M q → p ≤ q
      before p q h a = let x = h.0 in let y = (occurs_within a.3).0 in omega arith

  -- 17: the check refuses with 17 and place p exactly if no node is faulty and p is the first label or binder of a linear
  -- variable that is not used exactly once.
  pub seventeen : (p : ℕ)
      → (verdict L e M ≡ refusal 17 p) ↔ (Nowhere (FaultAt L e M) × First (NotOnceAt L e M) p)
  seventeen p = go (check_term L [] 0 e M) (described L [] 0 e M)
    where
      go : (c : Checked) → Describes L [] 0 e M c
          → (decided L M c ≡ refusal 17 p) ↔ (Nowhere (FaultAt L e M) × First (NotOnceAt L e M) p)
      go (fault q) d =
          (λ h. let z : ◌≡◌ {A = ℕ} 16 17 = cc in absurd (omega arith), λ f. absurd (f.0 q d.1.0))
      go (typed A u v) d =
          let o = earlier (wrong_label M 0 (length L)) u in
          let x = decided_17 A o v (NotOnceAt L e M) p (not_once_found u d.2) in
          (λ h. (d.1, x.0 h), λ f. x.1 f.1)

  -- 18: the check refuses with 18 and place p exactly if no node is faulty, every label and every linear variable is used
  -- exactly once, and p is the first linear use inside a lift from outside it.
  pub eighteen : (p : ℕ)
      → (verdict L e M ≡ refusal 18 p)
      ↔ (Nowhere (FaultAt L e M) × Nowhere (NotOnceAt L e M) × First (UseInsideAt L e M) p)
  eighteen p = go (check_term L [] 0 e M) (described L [] 0 e M)
    where
      go : (c : Checked) → Describes L [] 0 e M c
          → (decided L M c ≡ refusal 18 p)
          ↔ (Nowhere (FaultAt L e M) × Nowhere (NotOnceAt L e M) × First (UseInsideAt L e M) p)
      go (fault q) d =
          (λ h. let z : ◌≡◌ {A = ℕ} 16 18 = cc in absurd (omega arith), λ f. absurd (f.0 q d.1.0))
      go (typed A u v) d =
          let o = earlier (wrong_label M 0 (length L)) u in
          let x = decided_18 A o v (NotOnceAt L e M) (UseInsideAt L e M) p (not_once_found u d.2) d.3 in
          (λ h. let y = x.0 h in (d.1, y.0, y.1), λ f. x.1 (f.1, f.2))
