-- A value evaluates to itself and to nothing else, and a term to at most one value.
use Rattle.std.specs.Prelude.{ℕ, ◌≡◌, refl, List, [], ◌∷◌, T as Truth}
use Rattle.std.proofs.Common.{arith, sym, ap, ap₂, ◌∙◌, subst, subst₂}
use Rattle.std.proofs.Math.Option.{some, some-injective}
use Rattle.rules.specs.Types.{Wire, Ty}
use Rattle.rules.specs.Gates.{◌to◌, gate_type}
use Rattle.rules.specs.Terms.{Tuple, tuple_from, Gate, Boxed, boxed, Term, variable, label, gate, unit_value, constant, abstraction}
use Rattle.rules.specs.Terms.{application, pair, let_in, lift, force, box, apply, value, tuple, substitute}
use Rattle.rules.specs.Circuits.{Circuit, circuit, appended, returned, gate_boxed}
use Rattle.rules.specs.Next.{tuple_of}
use Rattle.rules.proofs.Theorems.Deterministic.{first_value, second_value, tuple_value, tuple_of_tuple}
use Rattle.boxing.proofs.Laws.Evaluation.{◌∣◌⇓◌∣◌, label⇓, gate⇓, unit⇓, constant⇓, abstraction⇓, application⇓, let⇓, pair⇓}
use Rattle.boxing.proofs.Laws.Evaluation.{lift⇓, force⇓, box⇓, apply_constant⇓, apply_gate⇓}

-- 003, lemma: a value evaluates to itself and builds nothing.
pub value_evaluates : (W : Term) {C : Circuit} → Truth (value W) → C ∣ W ⇓ C ∣ W
value_evaluates (variable n) v = absurd v
value_evaluates (label ℓ) v = label⇓
value_evaluates (gate n) v = gate⇓
value_evaluates unit_value v = unit⇓
value_evaluates (constant b) v = constant⇓
value_evaluates (abstraction A M) v = abstraction⇓
value_evaluates (application M N) v = absurd v
value_evaluates (pair M N) v =
    pair⇓ (value_evaluates M (first_value M N v)) (value_evaluates N (second_value M N v))
value_evaluates (let_in M N) v = absurd v
value_evaluates (lift M) v = lift⇓
value_evaluates (force M) v = absurd v
value_evaluates (box T M) v = absurd v
value_evaluates (apply M N) v = absurd v

pub tuple_evaluates : (k : Tuple) {C : Circuit} → C ∣ tuple k ⇓ C ∣ tuple k
tuple_evaluates k = value_evaluates (tuple k) (tuple_value k)

-- A label tuple is one in one way.
pub tuple_injective : (k l : Tuple) → tuple k ≡ tuple l → k ≡ l
tuple_injective k l e = some-injective k l (sym (tuple_of_tuple k) ∙ ap tuple_of e ∙ tuple_of_tuple l)

-- An evaluation of an equal term from an equal circuit.
pub evaluates_as : {C C' D : Circuit} {M M' W : Term} → C ≡ C' → M ≡ M' → C' ∣ M' ⇓ D ∣ W → C ∣ M ⇓ D ∣ W
evaluates_as {D = D} {W = W} c m d = subst₂ (λ C M. C ∣ M ⇓ D ∣ W) (sym c) (sym m) d

-- An evaluation to an equal value.
pub comes_to : {C D : Circuit} {M W W' : Term} → W ≡ W' → C ∣ M ⇓ D ∣ W → C ∣ M ⇓ D ∣ W'
comes_to {C} {D} {M} w d = subst (λ X. C ∣ M ⇓ D ∣ X) w d

-- Equal values have equal parts.
same_body : {A B : Ty} {M N : Term} → abstraction A M ≡ abstraction B N → M ≡ N
same_body e = cc

same_first : {M N P Q : Term} → pair M N ≡ pair P Q → M ≡ P
same_first e = cc

same_second : {M N P Q : Term} → pair M N ≡ pair P Q → N ≡ Q
same_second e = cc

same_lifted : {M N : Term} → lift M ≡ lift N → M ≡ N
same_lifted e = cc

pub same_gates : {I J : List Wire} {gs hs : List Gate} → circuit I gs ≡ circuit J hs → gs ≡ hs
same_gates e = cc

same_gate : {n m : ℕ} → gate n ≡ gate m → n ≡ m
same_gate e = cc

same_types : {T U T' U' : Ty} → some (T to U) ≡ some (T' to U') → (T ≡ T') × (U ≡ U')
same_types e = (cc, cc)

same_boxed : {b c : Boxed} → constant b ≡ constant c → b ≡ c
same_boxed e = cc

-- One gate is one boxed circuit.
same_gate_boxed : {n m : ℕ} {T U T' U' : Ty}
    → n ≡ m
    → gate_type n ≡ some (T to U)
    → gate_type m ≡ some (T' to U')
    → gate_boxed n T U ≡ gate_boxed m T' U'
same_gate_boxed {n} {m} {T} {U} {T'} {U'} e g h =
    let s : (T ≡ T') × (U ≡ U') = same_types (sym g ∙ ap gate_type e ∙ h) in
    λ i. gate_boxed (e i) (s.0 i) (s.1 i)

-- Equal circuits, tuples and boxed circuits give equal circuits and results of append.
same_applied : {C C' : Circuit} {k k' : Tuple} {b b' : Boxed}
    → C ≡ C'
    → k ≡ k'
    → b ≡ b'
    → (appended C k b ≡ appended C' k' b') × (tuple (returned C k b) ≡ tuple (returned C' k' b'))
same_applied c k b = (λ i. appended (c i) (k i) (b i), λ i. tuple (returned (c i) (k i) (b i)))

no_gate : {A : Type 0} {n : ℕ} {b : Boxed} → gate n ≡ constant b → A
no_gate e = let z : ◌≡◌ {A = ℕ} 0 1 = cc in absurd (omega arith)

-- A term evaluates to at most one value, and builds at most one circuit.
pub one_evaluation : {C D D' : Circuit} {M W W' : Term} → C ∣ M ⇓ D ∣ W → C ∣ M ⇓ D' ∣ W' → (D ≡ D') × (W ≡ W')
one_evaluation label⇓ label⇓ = (refl, refl)
one_evaluation gate⇓ gate⇓ = (refl, refl)
one_evaluation unit⇓ unit⇓ = (refl, refl)
one_evaluation constant⇓ constant⇓ = (refl, refl)
one_evaluation abstraction⇓ abstraction⇓ = (refl, refl)
one_evaluation (application⇓ d e f) (application⇓ d' e' f') =
    let s = one_evaluation d d' in
    let t = one_evaluation e (evaluates_as s.0 refl e') in
    one_evaluation f (evaluates_as t.0 (ap₂ (λ W P. substitute (W ∷ []) P) t.1 (same_body s.1)) f')
one_evaluation (let⇓ {N = N} d e) (let⇓ d' e') =
    let s = one_evaluation d d' in
    one_evaluation e
    (evaluates_as s.0
    (ap₂ (λ W W'. substitute (W' ∷ W ∷ []) N) (same_first s.1) (same_second s.1))
    e')
one_evaluation (pair⇓ d e) (pair⇓ d' e') =
    let s = one_evaluation d d' in
    let t = one_evaluation e (evaluates_as s.0 refl e') in
    (t.0, ap₂ pair s.1 t.1)
one_evaluation lift⇓ lift⇓ = (refl, refl)
one_evaluation (force⇓ d e) (force⇓ d' e') =
    let s = one_evaluation d d' in one_evaluation e (evaluates_as s.0 (same_lifted s.1) e')
one_evaluation (box⇓ {T = T} r d n e) (box⇓ r' d' n' e') =
    let s = one_evaluation d d' in
    let t = one_evaluation e
    (evaluates_as refl (ap (λ N. application N (tuple (tuple_from 0 T))) (same_lifted s.1)) e') in
    (s.0, ap₂ (λ gs r. constant (boxed T gs r)) (same_gates t.0) (tuple_injective r r' t.1))
one_evaluation (apply_constant⇓ k d e h) (apply_constant⇓ k' d' e' h') =
    let s = one_evaluation d d' in
    let t = one_evaluation e (evaluates_as s.0 refl e') in
    same_applied t.0 (tuple_injective k k' t.1) (same_boxed s.1)
one_evaluation (apply_constant⇓ k d e h) (apply_gate⇓ k' d' g e') = no_gate (sym (one_evaluation d d').1)
one_evaluation (apply_gate⇓ k d g e) (apply_constant⇓ k' d' e' h) = no_gate (one_evaluation d d').1
one_evaluation (apply_gate⇓ k d g e) (apply_gate⇓ k' d' g' e') =
    let s = one_evaluation d d' in
    let t = one_evaluation e (evaluates_as s.0 refl e') in
    same_applied t.0 (tuple_injective k k' t.1) (same_gate_boxed (same_gate s.1) g g')
