-- Values, evaluation contexts and substitution (000, lemma 2.1 and theorem 2.4), as preservation and progress need them.
use Rattle.std.specs.Prelude.{ℕ, zero, suc, ◌≡◌, refl, ◌⊎◌, Bool, true, ◌&&◌, List, [], ◌∷◌, T as Truth}
use Rattle.std.proofs.Common.{sym, subst, inl, inr}
use Rattle.std.proofs.Math.Option.{Option, none, some}
use Rattle.rules.specs.Types.{Ty, wire, ◌⊗◌, ◌⊸◌, !◌, Circ, is_wire_type, copyable}
use Rattle.rules.specs.Gates.{GateType, ◌to◌, nth, gate_table, gate_type}
use Rattle.rules.specs.Terms.{Tuple, single, both, Boxed, boxed, Term, variable, label, gate, constant, abstraction}
use Rattle.rules.specs.Terms.{pair, lift, value, tuple, term_at, variable_at, under, substitute, empty}
use Rattle.rules.specs.Typing.{Context, LabelContext, Copyable, nowhere, left, right, copied, Splits, split_end}
use Rattle.rules.specs.Typing.{◌then◌, SplitsLabels, Parameter, parameters_end, absent, parameter, Variable, here}
use Rattle.rules.specs.Typing.{past_absent, past_parameter, NoLabel, ◌∣◌⊢◌∶◌, by_var, by_label, by_gate, by_circ}
use Rattle.rules.specs.Typing.{by_abs, by_app, by_tuple, by_let, by_lift, by_force, by_box, by_apply, by_unit}
use Rattle.rules.specs.Contexts.{EvaluationContext, hole, application_left, application_right, pair_left, pair_right}
use Rattle.rules.specs.Contexts.{let_first, force_of, box_of, apply_left, apply_right, plug}
use Rattle.rules.proofs.Laws.Labels.{splits_swap, join, splits_regroup, splits_regroup_right, splits_none_right}
use Rattle.rules.proofs.Laws.Labels.{splits_none_left, splits_right_none, splits_left_none, no_label_whole}
use Rattle.rules.proofs.Laws.Labels.{splits_interchange}
use Rattle.rules.proofs.Laws.Booleans.{and_parts}

-- 000, lemma 2.1: a value of a type that may be copied holds no label.
pub copyable_no_label : {Q : LabelContext} {W : Term} {A : Ty}
    → Truth (value W) → Copyable A → [] ∣ Q ⊢ W ∶ A → NoLabel Q
copyable_no_label v c (by_var x n) = n
copyable_no_label v c (by_label p o) = absurd c
copyable_no_label v c (by_gate p n e) = n
copyable_no_label v c (by_unit p n) = n
copyable_no_label v c (by_circ p n w b h t) = n
copyable_no_label v c (by_abs b t) = absurd c
copyable_no_label v c (by_app g s t u) = absurd v
copyable_no_label v c (by_tuple {A = A} {B = B} {M = M} {N = N} b split_end s t u) =
    let vs = and_parts (value M) (value N) v in
    let cs = and_parts (copyable A) (copyable B) c in
    no_label_whole (copyable_no_label vs.0 cs.0 t) (copyable_no_label vs.1 cs.1 u) s
copyable_no_label v c (by_let g s t u) = absurd v
copyable_no_label v c (by_lift b p n t) = n
copyable_no_label v c (by_force t) = absurd v
copyable_no_label v c (by_box w w' t) = absurd v
copyable_no_label v c (by_apply g s t u) = absurd v

-- E[M] has type A: then M has some type B with a part of the labels, and any N of type B may take its place, with labels of
-- its own next to those of E.
pub record Plugged (E : EvaluationContext) (Q : LabelContext) (M : Term) (A : Ty) : Type 0 where
  pub B : Ty
  pub Q₁ : LabelContext
  pub Q₂ : LabelContext
  pub shared : SplitsLabels Q Q₁ Q₂
  pub has : [] ∣ Q₁ ⊢ M ∶ B
  pub refill : (N : Term) (R R₁ : LabelContext) → SplitsLabels R R₁ Q₂ → [] ∣ R₁ ⊢ N ∶ B → [] ∣ R ⊢ plug E N ∶ A

-- From a part of a term, in E, to the whole, in E', where another part has the labels Q₂.
in_one_part : (E E' : EvaluationContext) {Q Q₁ Q₂ : LabelContext} {M : Term} {A C : Ty}
    → SplitsLabels Q Q₁ Q₂
    → ((N : Term) (R R₁ : LabelContext) → SplitsLabels R R₁ Q₂ → [] ∣ R₁ ⊢ plug E N ∶ C → [] ∣ R ⊢ plug E' N ∶ A)
    → Plugged E Q₁ M C → Plugged E' Q M A
in_one_part E E' {Q₂ = Q₂} s f p =
    let r = splits_regroup s p.shared in
    record {
      B = p.B;
      Q₁ = p.Q₁;
      Q₂ = join p.Q₂ Q₂;
      shared = r.0;
      has = p.has;
      refill = λ N R R₁ u t.
          let r' = splits_regroup_right u r.1 in
          f N R (join R₁ p.Q₂) r'.0 (p.refill N (join R₁ p.Q₂) R₁ r'.1 t);
    }

-- The same for a term's only part.
in_only_part : (E E' : EvaluationContext) {Q : LabelContext} {M : Term} {A C : Ty}
    → ((N : Term) (R : LabelContext) → [] ∣ R ⊢ plug E N ∶ C → [] ∣ R ⊢ plug E' N ∶ A)
    → Plugged E Q M C → Plugged E' Q M A
in_only_part E E' f p =
    record {
      B = p.B;
      Q₁ = p.Q₁;
      Q₂ = p.Q₂;
      shared = p.shared;
      has = p.has;
      refill = λ N R R₁ u t. f N R (p.refill N R R₁ u t);
    }

-- A term in an evaluation context: if E[M] has a type then M has one, and E does with any other term of M's type.
pub plug_has : (E : EvaluationContext) {Q : LabelContext} {M : Term} {A : Ty}
    → [] ∣ Q ⊢ plug E M ∶ A → Plugged E Q M A
plug_has hole {Q} {M} {A} t =
    record {
      B = A;
      Q₁ = Q;
      Q₂ = λ ℓ. none;
      shared = splits_none_right Q (λ ℓ. refl);
      has = t;
      refill = λ N R R₁ s u. subst (λ S. [] ∣ S ⊢ N ∶ A) (sym (splits_right_none (λ ℓ. refl) s)) u;
    }
plug_has (application_left E N) (by_app split_end s t u) =
    in_one_part E (application_left E N) s (λ N' R R₁ s' t'. by_app split_end s' t' u) (plug_has E t)
plug_has (application_right W v E) (by_app split_end s t u) =
    in_one_part E (application_right W v E) (splits_swap s)
    (λ N' R R₁ s' u'. by_app split_end (splits_swap s') t u') (plug_has E u)
plug_has (pair_left E N) (by_tuple b split_end s t u) =
    in_one_part E (pair_left E N) s (λ N' R R₁ s' t'. by_tuple b split_end s' t' u) (plug_has E t)
plug_has (pair_right W v E) (by_tuple b split_end s t u) =
    in_one_part E (pair_right W v E) (splits_swap s)
    (λ N' R R₁ s' u'. by_tuple b split_end (splits_swap s') t u') (plug_has E u)
plug_has (let_first E N) (by_let split_end s t u) =
    in_one_part E (let_first E N) s (λ N' R R₁ s' t'. by_let split_end s' t' u) (plug_has E t)
plug_has (force_of E) (by_force t) = in_only_part E (force_of E) (λ N' R t'. by_force t') (plug_has E t)
plug_has (box_of T E) (by_box w w' t) = in_only_part E (box_of T E) (λ N' R t'. by_box w w' t') (plug_has E t)
plug_has (apply_left E N) (by_apply split_end s t u) =
    in_one_part E (apply_left E N) s (λ N' R R₁ s' t'. by_apply split_end s' t' u) (plug_has E t)
plug_has (apply_right W v E) (by_apply split_end s t u) =
    in_one_part E (apply_right W v E) (splits_swap s)
    (λ N' R R₁ s' u'. by_apply split_end (splits_swap s') t u') (plug_has E u)

-- If two tests together are passed, each is.
-- The closed values of each kind of type: a function is an abstraction.
pub canonical_function : {Q : LabelContext} {W : Term} {A B : Ty}
    → Truth (value W) → [] ∣ Q ⊢ W ∶ A ⊸ B → (M : Term) × (W ≡ abstraction A M)
canonical_function v (by_var x n) = absurd v
canonical_function v (by_abs {M = M} b t) = (M, refl)
canonical_function v (by_app g s t u) = absurd v
canonical_function v (by_let g s t u) = absurd v
canonical_function v (by_force t) = absurd v
canonical_function v (by_apply g s t u) = absurd v

-- A value of a pair type is a pair of values.
pub canonical_pair : {Q : LabelContext} {W : Term} {A B : Ty}
    → Truth (value W) → [] ∣ Q ⊢ W ∶ A ⊗ B
    → (W₁ : Term) × (W₂ : Term) × (W ≡ pair W₁ W₂) × Truth (value W₁) × Truth (value W₂)
canonical_pair v (by_var x n) = absurd v
canonical_pair v (by_app g s t u) = absurd v
canonical_pair v (by_tuple {M = M} {N = N} b g s t u) =
    let vs = and_parts (value M) (value N) v in (M, N, refl, vs.0, vs.1)
canonical_pair v (by_let g s t u) = absurd v
canonical_pair v (by_force t) = absurd v
canonical_pair v (by_apply g s t u) = absurd v

-- A value of a reusable type is a lift.
pub canonical_reusable : {Q : LabelContext} {W : Term} {A : Ty}
    → Truth (value W) → [] ∣ Q ⊢ W ∶ ! A → (M : Term) × (W ≡ lift M)
canonical_reusable v (by_var x n) = absurd v
canonical_reusable v (by_app g s t u) = absurd v
canonical_reusable v (by_let g s t u) = absurd v
canonical_reusable v (by_lift {M = M} b p n t) = (M, refl)
canonical_reusable v (by_force t) = absurd v
canonical_reusable v (by_apply g s t u) = absurd v

-- A value of a circuit type is a gate or a boxed circuit.
pub canonical_circ : {Q : LabelContext} {W : Term} {T U : Ty}
    → Truth (value W) → [] ∣ Q ⊢ W ∶ Circ T U → ((n : ℕ) × (W ≡ gate n)) ⊎ ((b : Boxed) × (W ≡ constant b))
canonical_circ v (by_var x n) = absurd v
canonical_circ v (by_gate {n = n} p l e) = inl (n, refl)
canonical_circ v (by_circ {T = T} {gs = gs} {r = r} p n w b h t) = inr (boxed T gs r, refl)
canonical_circ v (by_app g s t u) = absurd v
canonical_circ v (by_let g s t u) = absurd v
canonical_circ v (by_force t) = absurd v
canonical_circ v (by_box w w' t) = absurd v
canonical_circ v (by_apply g s t u) = absurd v

-- A value of a wire type is a label tuple.
pub canonical_wires : {Q : LabelContext} {W : Term} {T : Ty}
    → Truth (is_wire_type T) → Truth (value W) → [] ∣ Q ⊢ W ∶ T → (k : Tuple) × (W ≡ tuple k)
canonical_wires w v (by_var x n) = absurd v
canonical_wires w v (by_label {ℓ = ℓ} p o) = (single ℓ, refl)
canonical_wires w v (by_gate p n e) = absurd w
canonical_wires w v (by_unit p n) = (empty, refl)
canonical_wires w v (by_circ p n w' b h t) = absurd w
canonical_wires w v (by_abs b t) = absurd w
canonical_wires w v (by_app g s t u) = absurd v
canonical_wires w v (by_tuple {A = A} {B = B} {M = M} {N = N} b split_end s t u) =
    let ws = and_parts (is_wire_type A) (is_wire_type B) w in
    let vs = and_parts (value M) (value N) v in
    let k = canonical_wires ws.0 vs.0 t in
    let l = canonical_wires ws.1 vs.1 u in
    (both k.0 l.0, λ i. pair (k.1 i) (l.1 i))
canonical_wires w v (by_let g s t u) = absurd v
canonical_wires w v (by_lift b p n t) = absurd w
canonical_wires w v (by_force t) = absurd v
canonical_wires w v (by_box w' w'' t) = absurd v
canonical_wires w v (by_apply g s t u) = absurd v

-- Every gate of a table takes and makes wires: a test, computed once for the table of 01.
abbrev gates_on_wires : List GateType → Bool
gates_on_wires [] = true
gates_on_wires ((T to U) ∷ l) = is_wire_type T && is_wire_type U && gates_on_wires l

abbrev OnWires : Option GateType → Type 0
OnWires none = Unit {0}
OnWires (some (T to U)) = Truth (is_wire_type T) × Truth (is_wire_type U)

on_wires_at : (l : List GateType) (n : ℕ) → Truth (gates_on_wires l) → OnWires (nth l n)
on_wires_at [] n t = tt
on_wires_at ((T to U) ∷ l) zero t =
    and_parts (is_wire_type T) (is_wire_type U) (and_parts (is_wire_type T && is_wire_type U) (gates_on_wires l) t).0
on_wires_at ((T to U) ∷ l) (suc n) t = on_wires_at l n (and_parts (is_wire_type T && is_wire_type U) (gates_on_wires l) t).1

-- The input and the output of a gate have wire types.
pub gate_wire_types : (n : ℕ) {T U : Ty}
    → gate_type n ≡ some (T to U) → Truth (is_wire_type T) × Truth (is_wire_type U)
gate_wire_types n e = subst OnWires e (on_wires_at gate_table n tt)

-- A closed value of a circuit type takes a wire type.
pub circ_wire_types : {Q : LabelContext} {W : Term} {T U : Ty}
    → Truth (value W) → [] ∣ Q ⊢ W ∶ Circ T U → Truth (is_wire_type T)
circ_wire_types v (by_var x n) = absurd v
circ_wire_types v (by_gate {n = n} p l e) = (gate_wire_types n e).0
circ_wire_types v (by_circ p n w b h t) = w
circ_wire_types v (by_app g s t u) = absurd v
circ_wire_types v (by_let g s t u) = absurd v
circ_wire_types v (by_force t) = absurd v
circ_wire_types v (by_box w w' t) = absurd v
circ_wire_types v (by_apply g s t u) = absurd v

-- G is Γ, with k entries, and then Δ.
pub data Appends : ℕ → Context → Context → Context → Type 0 where
  appends_end : {Δ : Context} → Appends zero [] Δ Δ
  appends_next : {k : ℕ} {a : Option Ty} {Γ Δ G : Context} → Appends k Γ Δ G → Appends (suc k) (a ∷ Γ) Δ (a ∷ G)

-- A parameter context is one in both parts, and the other way round.
appends_parameter : {k : ℕ} {Γ Δ G : Context} → Appends k Γ Δ G → Parameter G → Parameter Γ × Parameter Δ
appends_parameter appends_end p = (parameters_end, p)
appends_parameter (appends_next e) (absent p) =
    let q = appends_parameter e p in (absent q.0, q.1)
appends_parameter (appends_next e) (parameter c p) =
    let q = appends_parameter e p in (parameter c q.0, q.1)

parameter_appends : {k : ℕ} {Γ Δ G : Context} → Appends k Γ Δ G → Parameter Γ → Parameter Δ → Parameter G
parameter_appends appends_end p q = q
parameter_appends (appends_next e) (absent p) q = absent (parameter_appends e p q)
parameter_appends (appends_next e) (parameter c p) q = parameter c (parameter_appends e p q)

-- How both parts of a context are split where the whole is.
record BothSplit (k : ℕ) (Γ Δ G₁ G₂ : Context) : Type 0 where
  Γ₁ : Context
  Γ₂ : Context
  Δ₁ : Context
  Δ₂ : Context
  first_split : Splits Γ Γ₁ Γ₂
  then_split : Splits Δ Δ₁ Δ₂
  appends₁ : Appends k Γ₁ Δ₁ G₁
  appends₂ : Appends k Γ₂ Δ₂ G₂

appends_splits : {k : ℕ} {Γ Δ G G₁ G₂ : Context} → Appends k Γ Δ G → Splits G G₁ G₂ → BothSplit k Γ Δ G₁ G₂
appends_splits (appends_end {Δ = Δ}) g =
    record {
      Γ₁ = [];
      Γ₂ = [];
      Δ₁ = _;
      Δ₂ = _;
      first_split = split_end;
      then_split = g;
      appends₁ = appends_end;
      appends₂ = appends_end;
    }
appends_splits (appends_next e) (◌then◌ {a₁ = a₁} {a₂ = a₂} s g) =
    let b = appends_splits e g in
    record {
      Γ₁ = a₁ ∷ b.Γ₁;
      Γ₂ = a₂ ∷ b.Γ₂;
      Δ₁ = b.Δ₁;
      Δ₂ = b.Δ₂;
      first_split = s then b.first_split;
      then_split = b.then_split;
      appends₁ = appends_next b.appends₁;
      appends₂ = appends_next b.appends₂;
    }

-- A parameter context may be split into itself twice.
parameter_splits : {Δ : Context} → Parameter Δ → Splits Δ Δ Δ
parameter_splits parameters_end = split_end
parameter_splits (absent p) = nowhere then parameter_splits p
parameter_splits (parameter c p) = copied c then parameter_splits p

-- Behind any split context parameters may stand, which go to both sides.
splits_parameter_end : {k : ℕ} {Γ Γ₁ Γ₂ Δ G : Context}
    → Parameter Δ → Appends k Γ Δ G → Splits Γ Γ₁ Γ₂
    → (G₁ : Context) × (G₂ : Context) × Splits G G₁ G₂ × Appends k Γ₁ Δ G₁ × Appends k Γ₂ Δ G₂
splits_parameter_end p (appends_end {Δ = Δ}) split_end = (Δ, Δ, parameter_splits p, appends_end, appends_end)
splits_parameter_end p (appends_next e) (◌then◌ {a₁ = a₁} {a₂ = a₂} s g) =
    let r = splits_parameter_end p e g in
    (a₁ ∷ r.0, a₂ ∷ r.1, s then r.2, appends_next r.3, appends_next r.4)

variable_parameter_end : {k n : ℕ} {Γ Δ G : Context} {A : Ty}
    → Parameter Δ → Appends k Γ Δ G → Variable Γ n A → Variable G n A
variable_parameter_end {n = n} {A = A} p (appends_end {Δ = Δ}) x = elim x [ ]
variable_parameter_end p (appends_next e) (here q) = here (parameter_appends e q p)
variable_parameter_end p (appends_next e) (past_absent x) = past_absent (variable_parameter_end p e x)
variable_parameter_end p (appends_next e) (past_parameter c x) = past_parameter c (variable_parameter_end p e x)

-- Parameters may be added at the outer end of a context.
weaken : {k : ℕ} {Γ Δ G : Context} {Q : LabelContext} {M : Term} {A : Ty}
    → Parameter Δ → Appends k Γ Δ G → Γ ∣ Q ⊢ M ∶ A → G ∣ Q ⊢ M ∶ A
weaken p e (by_var x n) = by_var (variable_parameter_end p e x) n
weaken p e (by_label q o) = by_label (parameter_appends e q p) o
weaken p e (by_gate q n d) = by_gate (parameter_appends e q p) n d
weaken p e (by_unit q n) = by_unit (parameter_appends e q p) n
weaken p e (by_circ q n w b h t) = by_circ (parameter_appends e q p) n w b h t
weaken {k = k} p e (by_abs b t) = by_abs b (weaken {k = suc k} p (appends_next e) t)
weaken p e (by_app g s t u) =
    let r = splits_parameter_end p e g in by_app r.2 s (weaken p r.3 t) (weaken p r.4 u)
weaken p e (by_tuple b g s t u) =
    let r = splits_parameter_end p e g in by_tuple b r.2 s (weaken p r.3 t) (weaken p r.4 u)
weaken {k = k} p e (by_let g s t u) =
    let r = splits_parameter_end p e g in
    by_let r.2 s (weaken p r.3 t) (weaken {k = suc (suc k)} p (appends_next (appends_next r.4)) u)
weaken p e (by_lift b q n t) = by_lift b (parameter_appends e q p) n (weaken p e t)
weaken p e (by_force t) = by_force (weaken p e t)
weaken p e (by_box w w' t) = by_box w w' (weaken p e t)
weaken p e (by_apply g s t u) =
    let r = splits_parameter_end p e g in by_apply r.2 s (weaken p r.3 t) (weaken p r.4 u)

-- A closed term keeps its type where there are parameters.
pub weaken_closed : {Γ : Context} {Q : LabelContext} {M : Term} {A : Ty}
    → Parameter Γ → [] ∣ Q ⊢ M ∶ A → Γ ∣ Q ⊢ M ∶ A
weaken_closed p t = weaken p appends_end t

-- Closed values for the variables of a context, with the labels R shared out to them. An absent variable's value is not used.
pub data Values : Context → LabelContext → List Term → Type 0 where
  values_end : {R : LabelContext} → NoLabel R → Values [] R []
  unused : {Δ : Context} {R : LabelContext} {W : Term} {Ws : List Term} → Values Δ R Ws → Values (none ∷ Δ) R (W ∷ Ws)
  used : {Δ : Context} {R R₁ R₂ : LabelContext} {A : Ty} {W : Term} {Ws : List Term}
      → SplitsLabels R R₁ R₂ → Truth (value W) → [] ∣ R₁ ⊢ W ∶ A → Values Δ R₂ Ws
      → Values (some A ∷ Δ) R (W ∷ Ws)

-- The values of parameters hold no label.
values_parameter : {Δ : Context} {R : LabelContext} {Ws : List Term} → Parameter Δ → Values Δ R Ws → NoLabel R
values_parameter parameters_end (values_end n) = n
values_parameter (absent p) (unused vs) = values_parameter p vs
values_parameter (parameter c p) (used s v t vs) =
    no_label_whole (copyable_no_label v c t) (values_parameter p vs) s

-- Where the context is split, so are the labels of the values; the value of a copied variable holds none and goes to both.
values_splits : {Δ Δ₁ Δ₂ : Context} {R : LabelContext} {Ws : List Term}
    → Splits Δ Δ₁ Δ₂ → Values Δ R Ws
    → (R₁ : LabelContext) × (R₂ : LabelContext) × SplitsLabels R R₁ R₂ × Values Δ₁ R₁ Ws × Values Δ₂ R₂ Ws
values_splits split_end (values_end {R = R} n) = (R, R, splits_none_right R n, values_end n, values_end n)
values_splits (nowhere then g) (unused vs) =
    let r = values_splits g vs in (r.0, r.1, r.2, unused r.3, unused r.4)
values_splits (left then g) (used {R₁ = R₁} s v t vs) =
    let r = values_splits g vs in
    let q = splits_regroup_right s r.2 in
    (join R₁ r.0, r.1, q.0, used q.1 v t r.3, unused r.4)
values_splits (right then g) (used {R₁ = R₁} s v t vs) =
    let r = values_splits g vs in
    let q = splits_regroup_right s (splits_swap r.2) in
    (r.0, join R₁ r.1, splits_swap q.0, unused r.3, used q.1 v t r.4)
values_splits (copied c then g) (used {R₁ = R₁} s v t vs) =
    let r = values_splits g vs in
    let n = copyable_no_label v c t in (
      r.0,
      r.1,
      subst (λ P. SplitsLabels P r.0 r.1) (sym (splits_left_none n s)) r.2,
      used (splits_none_left r.0 n) v t r.3,
      used (splits_none_left r.1 n) v t r.4,
    )

-- The value of a variable has its type.
value_at_lem : {Δ : Context} {R : LabelContext} {Ws : List Term} {n : ℕ} {A : Ty} (M : Term)
    → Values Δ R Ws → Variable Δ n A → [] ∣ R ⊢ term_at Ws n M ∶ A
value_at_lem {n = n} {A = A} M (values_end {R = R} _) x = elim x [ ]
value_at_lem M (unused vs) (past_absent x) = value_at_lem M vs x
value_at_lem {A = A} M (used {W = W} s v t vs) (here p) =
    subst (λ P. [] ∣ P ⊢ W ∶ A) (sym (splits_right_none (values_parameter p vs) s)) t
value_at_lem {A = A} M (used {Ws = Ws} s v t vs) (past_parameter {n = n} c x) =
    subst (λ P. [] ∣ P ⊢ term_at Ws n M ∶ A) (sym (splits_left_none (copyable_no_label v c t) s)) (value_at_lem M vs x)

-- Under k binders a variable is one of theirs, and stays, or becomes a value.
abbrev StaysOrValue : Context → LabelContext → ℕ → Term → Term → Ty → Type 0
StaysOrValue Γ R n M N A = (Variable Γ n A × NoLabel R × (N ≡ M)) ⊎ (Parameter Γ × ([] ∣ R ⊢ N ∶ A))

past_none : {Γ : Context} {R : LabelContext} {n : ℕ} {M N : Term} {A : Ty}
    → StaysOrValue Γ R n M N A → StaysOrValue (none ∷ Γ) R (suc n) M N A
past_none (inl x) = inl (past_absent x.0, x.1, x.2)
past_none (inr t) = inr (absent t.0, t.1)

past_some : {Γ : Context} {R : LabelContext} {n : ℕ} {M N : Term} {A B : Ty}
    → Copyable B → StaysOrValue Γ R n M N A → StaysOrValue (some B ∷ Γ) R (suc n) M N A
past_some c (inl x) = inl (past_parameter c x.0, x.1, x.2)
past_some c (inr t) = inr (parameter c t.0, t.1)

stays_or_value : {k n : ℕ} {Γ Δ G : Context} {R : LabelContext} {Ws : List Term} {A : Ty} (M : Term)
    → Appends k Γ Δ G → Values Δ R Ws → Variable G n A → StaysOrValue Γ R n M (variable_at k Ws n M) A
stays_or_value M appends_end vs x = inr (parameters_end, value_at_lem M vs x)
stays_or_value M (appends_next e) vs (here p) =
    let q = appends_parameter e p in inl (here q.0, values_parameter q.1 vs, refl)
stays_or_value M (appends_next e) vs (past_absent x) = past_none (stays_or_value M e vs x)
stays_or_value M (appends_next e) vs (past_parameter c x) = past_some c (stays_or_value M e vs x)

stays_or_value_has : {n : ℕ} {Γ : Context} {R : LabelContext} {N : Term} {A : Ty}
    → StaysOrValue Γ R n (variable n) N A → Γ ∣ R ⊢ N ∶ A
stays_or_value_has {Γ = Γ} {R = R} {A = A} (inl x) = subst (λ N. Γ ∣ R ⊢ N ∶ A) (sym x.2) (by_var x.0 x.1)
stays_or_value_has (inr t) = weaken_closed t.0 t.1

-- 000, theorem 2.4 (substitution), for closed values and under k binders: M keeps its type when the values take the place of
-- the variables of Δ, and its labels are then its own and those of the values.
pub substitution : {k : ℕ} {Γ Δ G : Context} {P Q R : LabelContext} {Ws : List Term} {M : Term} {A : Ty}
    → Appends k Γ Δ G → Values Δ R Ws → SplitsLabels P Q R → G ∣ Q ⊢ M ∶ A
    → Γ ∣ P ⊢ under k Ws M ∶ A
substitution {k} {Γ} {Ws = Ws} {A = A} e vs s (by_var {n = n} x l) =
    subst (λ S. Γ ∣ S ⊢ variable_at k Ws n (variable n) ∶ A) (sym (splits_left_none l s))
    (stays_or_value_has (stays_or_value (variable n) e vs x))
substitution {Γ = Γ} e vs s (by_label {ℓ = ℓ} {α = α} p o) =
    let q = appends_parameter e p in
    subst (λ S. Γ ∣ S ⊢ label ℓ ∶ wire α) (sym (splits_right_none (values_parameter q.1 vs) s)) (by_label q.0 o)
substitution e vs s (by_gate p n d) =
    let q = appends_parameter e p in by_gate q.0 (no_label_whole n (values_parameter q.1 vs) s) d
substitution e vs s (by_unit p n) =
    let q = appends_parameter e p in by_unit q.0 (no_label_whole n (values_parameter q.1 vs) s)
substitution e vs s (by_circ p n w b h t) =
    let q = appends_parameter e p in by_circ q.0 (no_label_whole n (values_parameter q.1 vs) s) w b h t
substitution {k = k} e vs s (by_abs b t) = by_abs b (substitution {k = suc k} (appends_next e) vs s t)
substitution e vs s (by_app g s' t u) =
    let b = appends_splits e g in
    let r = values_splits b.then_split vs in
    let q = splits_interchange s s' r.2 in
    by_app b.first_split q.0 (substitution b.appends₁ r.3 q.1 t)
    (substitution b.appends₂ r.4 q.2 u)
substitution e vs s (by_tuple d g s' t u) =
    let b = appends_splits e g in
    let r = values_splits b.then_split vs in
    let q = splits_interchange s s' r.2 in
    by_tuple d b.first_split q.0 (substitution b.appends₁ r.3 q.1 t)
    (substitution b.appends₂ r.4 q.2 u)
substitution {k = k} e vs s (by_let g s' t u) =
    let b = appends_splits e g in
    let r = values_splits b.then_split vs in
    let q = splits_interchange s s' r.2 in
    by_let b.first_split q.0 (substitution b.appends₁ r.3 q.1 t)
    (substitution {k = suc (suc k)} (appends_next (appends_next b.appends₂)) r.4 q.2 u)
substitution e vs s (by_lift b p n t) =
    let q = appends_parameter e p in
    by_lift b q.0 (no_label_whole n (values_parameter q.1 vs) s) (substitution e vs s t)
substitution e vs s (by_force t) = by_force (substitution e vs s t)
substitution e vs s (by_box w w' t) = by_box w w' (substitution e vs s t)
substitution e vs s (by_apply g s' t u) =
    let b = appends_splits e g in
    let r = values_splits b.then_split vs in
    let q = splits_interchange s s' r.2 in
    by_apply b.first_split q.0 (substitution b.appends₁ r.3 q.1 t)
    (substitution b.appends₂ r.4 q.2 u)

-- Substitution of one closed value, as β-reduction does it.
pub substitute_one : {A B : Ty} {Q Q₁ Q₂ : LabelContext} {M W : Term}
    → Truth (value W)
    → SplitsLabels Q Q₁ Q₂
    → (some A ∷ []) ∣ Q₁ ⊢ M ∶ B
    → [] ∣ Q₂ ⊢ W ∶ A
    → [] ∣ Q ⊢ substitute (W ∷ []) M ∶ B
substitute_one {Q₂ = Q₂} v s t u =
    substitution appends_end (used (splits_none_right Q₂ {R = λ ℓ. none} (λ ℓ. refl)) v u (values_end (λ ℓ. refl))) s t

-- Substitution of two closed values, as let does it.
pub substitute_two : {A B C : Ty} {Q Q₁ Q₂ R R' : LabelContext} {M W W' : Term}
    → Truth (value W)
    → Truth (value W')
    → SplitsLabels Q Q₁ Q₂
    → SplitsLabels Q₁ R R'
    → [] ∣ R ⊢ W ∶ A
    → [] ∣ R' ⊢ W' ∶ B
    → (some B ∷ some A ∷ []) ∣ Q₂ ⊢ M ∶ C
    → [] ∣ Q ⊢ substitute (W' ∷ W ∷ []) M ∶ C
substitute_two {R = R} v v' s s' t t' u =
    let last = used (splits_none_right R {R = λ ℓ. none} (λ ℓ. refl)) v t (values_end (λ ℓ. refl)) in
    substitution appends_end (used (splits_swap s') v' t' last) (splits_swap s) u
