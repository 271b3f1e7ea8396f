-- An evaluation from a circuit with inputs holds on top of any circuit, with its labels renamed as append renames them.
use Rattle.std.specs.Prelude.{ℕ, zero, suc, ◌+◌, ◌≡◌, refl, List, [], ◌∷◌, ◌++◌, map, length}
use Rattle.std.proofs.Common.{arith, zero-add, suc-add, sym, ap, ap₂, ◌∙◌, subst, subst₂, append_assoc, append-nil, length-append}
use Rattle.std.proofs.lemmas.List.{map-append}
use Rattle.rules.specs.Types.{Wire, Ty, wires}
use Rattle.rules.specs.Terms.{Tuple, single, empty, both, labels, tuple_from, Gate, ◌on◌, Boxed, boxed, Term, variable, label}
use Rattle.rules.specs.Terms.{gate, unit_value, constant, abstraction, application, pair, let_in, lift, force, box, apply}
use Rattle.rules.specs.Terms.{tuple, term_labels, term_at, variable_at, under}
use Rattle.rules.specs.Circuits.{Circuit, circuit, outputs, wire_count, rename, rename_gate, rename_tuple, appended, returned}
use Rattle.rules.specs.Circuits.{gate_boxed}
use Rattle.rules.proofs.Laws.Appending.{append_types}
use Rattle.boxing.proofs.Laws.Evaluation.{OfForm, wire_form, unit_form, pair_form, ◌∣◌⇓◌∣◌, label⇓, gate⇓, unit⇓, constant⇓}
use Rattle.boxing.proofs.Laws.Evaluation.{abstraction⇓, application⇓, let⇓, pair⇓, lift⇓, force⇓, box⇓, apply_constant⇓}
use Rattle.boxing.proofs.Laws.Evaluation.{apply_gate⇓}
use Rattle.boxing.proofs.Laws.Values.{evaluates_as, comes_to}

-- The labels of a term renamed by a function. Those inside a circuit constant are its own.
abbrev pub relabel : (ℕ → ℕ) → Term → Term
relabel f (variable n) = variable n
relabel f (label ℓ) = label (f ℓ)
relabel f (gate n) = gate n
relabel f unit_value = unit_value
relabel f (constant b) = constant b
relabel f (abstraction A M) = abstraction A (relabel f M)
relabel f (application M N) = application (relabel f M) (relabel f N)
relabel f (pair M N) = pair (relabel f M) (relabel f N)
relabel f (let_in M N) = let_in (relabel f M) (relabel f N)
relabel f (lift M) = lift (relabel f M)
relabel f (force M) = force (relabel f M)
relabel f (box T M) = box T (relabel f M)
relabel f (apply M N) = apply (relabel f M) (relabel f N)

-- If two lists joined are empty, each is.
left_empty : (xs ys : List ℕ) → xs ++ ys ≡ [] → xs ≡ []
left_empty [] ys e = refl
left_empty (x ∷ xs) ys e = let z : ◌≡◌ {A = ℕ} 0 1 = cc in absurd (omega arith)

right_empty : (xs ys : List ℕ) → xs ++ ys ≡ [] → ys ≡ []
right_empty [] ys e = e
right_empty (x ∷ xs) ys e = let z : ◌≡◌ {A = ℕ} 0 1 = cc in absurd (omega arith)

relabel_two : (f : ℕ → ℕ) (c : Term → Term → Term) (M N : Term)
    → (term_labels M ≡ [] → relabel f M ≡ M)
    → (term_labels N ≡ [] → relabel f N ≡ N)
    → term_labels M ++ term_labels N ≡ []
    → c (relabel f M) (relabel f N) ≡ c M N
relabel_two f c M N m n e =
    ap₂ c (m (left_empty (term_labels M) (term_labels N) e)) (n (right_empty (term_labels M) (term_labels N) e))

-- A term that holds no label stays as it is.
pub relabel_none : (f : ℕ → ℕ) (M : Term) → term_labels M ≡ [] → relabel f M ≡ M
relabel_none f (variable n) e = refl
relabel_none f (label ℓ) e = let z : ◌≡◌ {A = ℕ} 0 1 = cc in absurd (omega arith)
relabel_none f (gate n) e = refl
relabel_none f unit_value e = refl
relabel_none f (constant b) e = refl
relabel_none f (abstraction A M) e = ap (abstraction A) (relabel_none f M e)
relabel_none f (application M N) e = relabel_two f application M N (relabel_none f M) (relabel_none f N) e
relabel_none f (pair M N) e = relabel_two f pair M N (relabel_none f M) (relabel_none f N) e
relabel_none f (let_in M N) e = relabel_two f let_in M N (relabel_none f M) (relabel_none f N) e
relabel_none f (lift M) e = ap lift (relabel_none f M e)
relabel_none f (force M) e = ap force (relabel_none f M e)
relabel_none f (box T M) e = ap (box T) (relabel_none f M e)
relabel_none f (apply M N) e = relabel_two f apply M N (relabel_none f M) (relabel_none f N) e

-- Renaming the labels and substituting may change their order.
module _ (f : ℕ → ℕ) (Ws : List Term) where
  relabel_at : (Ws : List Term) (n : ℕ) (M : Term) → relabel f (term_at Ws n M) ≡ term_at (map (relabel f) Ws) n (relabel f M)
  relabel_at [] n M = refl
  relabel_at (W ∷ Ws) zero M = refl
  relabel_at (W ∷ Ws) (suc n) M = relabel_at Ws n M

  relabel_variable : (k n : ℕ) (M : Term)
      → relabel f (variable_at k Ws n M) ≡ variable_at k (map (relabel f) Ws) n (relabel f M)
  relabel_variable zero n M = relabel_at Ws n M
  relabel_variable (suc k) zero M = refl
  relabel_variable (suc k) (suc n) M = relabel_variable k n M

  pub relabel_under : (k : ℕ) (M : Term) → relabel f (under k Ws M) ≡ under k (map (relabel f) Ws) (relabel f M)
  relabel_under k (variable n) = relabel_variable k n (variable n)
  relabel_under k (label ℓ) = refl
  relabel_under k (gate n) = refl
  relabel_under k unit_value = refl
  relabel_under k (constant b) = refl
  relabel_under k (abstraction A M) = ap (abstraction A) (relabel_under (suc k) M)
  relabel_under k (application M N) = ap₂ application (relabel_under k M) (relabel_under k N)
  relabel_under k (pair M N) = ap₂ pair (relabel_under k M) (relabel_under k N)
  relabel_under k (let_in M N) = ap₂ let_in (relabel_under k M) (relabel_under (suc (suc k)) N)
  relabel_under k (lift M) = ap lift (relabel_under k M)
  relabel_under k (force M) = ap force (relabel_under k M)
  relabel_under k (box T M) = ap (box T) (relabel_under k M)
  relabel_under k (apply M N) = ap₂ apply (relabel_under k M) (relabel_under k N)

-- The inputs of a circuit.
abbrev pub inputs : Circuit → List Wire
inputs (circuit I gs) = I

appended_inputs : (C : Circuit) (k : Tuple) (b : Boxed) → inputs (appended C k b) ≡ inputs C
appended_inputs (circuit I gs) k (boxed T hs r) = refl

-- Evaluation keeps the inputs of the circuit.
pub inputs_kept : {C D : Circuit} {M W : Term} → C ∣ M ⇓ D ∣ W → inputs D ≡ inputs C
inputs_kept label⇓ = refl
inputs_kept gate⇓ = refl
inputs_kept unit⇓ = refl
inputs_kept constant⇓ = refl
inputs_kept abstraction⇓ = refl
inputs_kept (application⇓ d e f) = inputs_kept f ∙ inputs_kept e ∙ inputs_kept d
inputs_kept (let⇓ d e) = inputs_kept e ∙ inputs_kept d
inputs_kept (pair⇓ d e) = inputs_kept e ∙ inputs_kept d
inputs_kept lift⇓ = refl
inputs_kept (force⇓ d e) = inputs_kept e ∙ inputs_kept d
inputs_kept (box⇓ r d n e) = inputs_kept d
inputs_kept (apply_constant⇓ {C₂ = C₂} {T = T} {gs = gs} {r = r} k d e h) =
    appended_inputs C₂ k (boxed T gs r) ∙ inputs_kept e ∙ inputs_kept d
inputs_kept (apply_gate⇓ {C₂ = C₂} {n = n} {T = T} {U = U} k d g e) =
    appended_inputs C₂ k (gate_boxed n T U) ∙ inputs_kept e ∙ inputs_kept d

-- A wire beyond the inputs is numbered on.
rename_beyond : (ℓs : List ℕ) (next j : ℕ) → rename ℓs next (length ℓs + j) ≡ next + j
rename_beyond [] next j = ap (λ m. next + m) (zero-add j)
rename_beyond (ℓ ∷ ℓs) next j = ap (rename (ℓ ∷ ℓs) next) (suc-add (length ℓs) j) ∙ rename_beyond ℓs next j

-- A wire renamed twice: where the second renaming takes the numbers from a on to those from b on, it is renamed once.
rename_twice : (f : ℕ → ℕ) (ks : List ℕ) (a b : ℕ)
    → ((j : ℕ) → f (a + j) ≡ b + j)
    → (w : ℕ)
    → f (rename ks a w) ≡ rename (map f ks) b w
rename_twice f [] a b shifts w = shifts w
rename_twice f (k ∷ ks) a b shifts zero = refl
rename_twice f (k ∷ ks) a b shifts (suc w) = rename_twice f ks a b shifts w

-- The labels of a renamed tuple, and the tuple as a term.
pub renamed_labels : (ℓs : List ℕ) (next : ℕ) (k : Tuple) → labels (rename_tuple ℓs next k) ≡ map (rename ℓs next) (labels k)
renamed_labels ℓs next (single ℓ) = refl
renamed_labels ℓs next empty = refl
renamed_labels ℓs next (both t u) =
    ap₂ ◌++◌ (renamed_labels ℓs next t) (renamed_labels ℓs next u)
    ∙ sym (map-append (rename ℓs next) (labels t) (labels u))

pub relabel_tuple : (ℓs : List ℕ) (next : ℕ) (k : Tuple) → relabel (rename ℓs next) (tuple k) ≡ tuple (rename_tuple ℓs next k)
relabel_tuple ℓs next (single ℓ) = refl
relabel_tuple ℓs next empty = refl
relabel_tuple ℓs next (both t u) = ap₂ pair (relabel_tuple ℓs next t) (relabel_tuple ℓs next u)

form_renamed : (ℓs : List ℕ) (next : ℕ) {T : Ty} (k : Tuple) → OfForm T k → OfForm T (rename_tuple ℓs next k)
form_renamed ℓs next (single ℓ) wire_form = wire_form
form_renamed ℓs next empty unit_form = unit_form
form_renamed ℓs next (both t u) (pair_form h i) = pair_form (form_renamed ℓs next t h) (form_renamed ℓs next u i)

-- Gates, the newest first, and a tuple renamed twice.
module _ (ℓs : List ℕ) (next : ℕ) (ks : List ℕ) (a b : ℕ) (shifts : (j : ℕ) → rename ℓs next (a + j) ≡ b + j) where
  gates_twice : (gs : List Gate)
      → map (rename_gate ℓs next) (map (rename_gate ks a) gs) ≡ map (rename_gate (map (rename ℓs next) ks) b) gs
  gates_twice [] = refl
  gates_twice ((n on ws) ∷ gs) = ap₂ (λ vs hs. (n on vs) ∷ hs) (wires_twice ws) (gates_twice gs)
    where
      wires_twice : (ws : List ℕ)
          → map (rename ℓs next) (map (rename ks a) ws) ≡ map (rename (map (rename ℓs next) ks) b) ws
      wires_twice [] = refl
      wires_twice (w ∷ ws) = ap₂ ◌∷◌ (rename_twice (rename ℓs next) ks a b shifts w) (wires_twice ws)

  tuple_twice : (r : Tuple) → rename_tuple ℓs next (rename_tuple ks a r) ≡ rename_tuple (map (rename ℓs next) ks) b r
  tuple_twice (single w) = ap single (rename_twice (rename ℓs next) ks a b shifts w)
  tuple_twice empty = refl
  tuple_twice (both t u) = ap₂ both (tuple_twice t) (tuple_twice u)

-- On top of the circuit with inputs I₀ and gates hs: an evaluation from a circuit whose inputs, I, become the labels ℓs.
module _ (ℓs : List ℕ) (I I₀ : List Wire) (hs : List Gate) (as_many : length ℓs ≡ length I) where
  abbrev next : ℕ
  next = length (I₀ ++ outputs hs)

  -- The gates of a circuit, renamed, on top.
  abbrev above : Circuit → Circuit
  above (circuit I₁ gs) = circuit I₀ (map (rename_gate ℓs next) gs ++ hs)

  abbrev renamed_term : Term → Term
  renamed_term M = relabel (rename ℓs next) M

  -- The next wire above is the next wire renamed.
  next_above : (gs : List Gate) (j : ℕ)
      → rename ℓs next (wire_count (circuit I gs) + j) ≡ wire_count (above (circuit I gs)) + j
  next_above gs j =
      ap (rename ℓs next)
      (let e : length (I ++ outputs gs) ≡ length I + length (outputs gs) = length-append I (outputs gs) in
      let f : length (I ++ outputs gs) + j ≡ length ℓs + (length (outputs gs) + j) = omega (arith, e, as_many) in f)
      ∙ rename_beyond ℓs next (length (outputs gs) + j)
      ∙ (let e = ap length (append_types ℓs next I₀ gs hs) in
      let f = length-append (I₀ ++ outputs hs) (outputs gs) in
      omega (arith, e, f))

  -- To append and then to rename is to rename and then to append.
  above_appended : (gs : List Gate) (k : Tuple) (b : Boxed)
      → above (appended (circuit I gs) k b) ≡ appended (above (circuit I gs)) (rename_tuple ℓs next k) b
  above_appended gs k (boxed T bs r) =
      let a = wire_count (circuit I gs) in
      let b = wire_count (above (circuit I gs)) in
      ap (circuit I₀)
      (ap (λ l. l ++ hs) (map-append (rename_gate ℓs next) (map (rename_gate (labels k) a) bs) gs)
      ∙ append_assoc (map (rename_gate ℓs next) (map (rename_gate (labels k) a) bs)) (map (rename_gate ℓs next) gs) hs
      ∙ ap (λ l. l ++ (map (rename_gate ℓs next) gs ++ hs))
      (gates_twice ℓs next (labels k) a b (next_above gs) bs
      ∙ ap (λ l. map (rename_gate l b) bs) (sym (renamed_labels ℓs next k))))

  renamed_returned : (gs : List Gate) (k : Tuple) (b : Boxed)
      → renamed_term (tuple (returned (circuit I gs) k b))
      ≡ tuple (returned (above (circuit I gs)) (rename_tuple ℓs next k) b)
  renamed_returned gs k (boxed T bs r) =
      let a = wire_count (circuit I gs) in
      let b = wire_count (above (circuit I gs)) in
      relabel_tuple ℓs next (rename_tuple (labels k) a r)
      ∙ ap tuple
      (tuple_twice ℓs next (labels k) a b (next_above gs) r
      ∙ ap (λ l. rename_tuple l b r) (sym (renamed_labels ℓs next k)))

  -- What an apply comes to, on top.
  applied_above : {C : Circuit} {I₁ : List Wire} (gs : List Gate) (k : Tuple) (b : Boxed) {M : Term}
      → I₁ ≡ I
      → C ∣ M ⇓ appended (above (circuit I₁ gs)) (rename_tuple ℓs next k) b
      ∣ tuple (returned (above (circuit I₁ gs)) (rename_tuple ℓs next k) b)
      → C ∣ M ⇓ above (appended (circuit I₁ gs) k b) ∣ renamed_term (tuple (returned (circuit I₁ gs) k b))
  applied_above {C} gs k b {M} j d =
      subst
      (λ I₁. C ∣ M ⇓ above (appended (circuit I₁ gs) k b) ∣ renamed_term (tuple (returned (circuit I₁ gs) k b)))
      (sym j)
      (subst₂ (λ D W. C ∣ M ⇓ D ∣ W) (sym (above_appended gs k b)) (sym (renamed_returned gs k b)) d)

  -- The evaluation, renamed, on top.
  pub evaluates_above : {C D : Circuit} {M W : Term}
      → inputs C ≡ I
      → C ∣ M ⇓ D ∣ W
      → above C ∣ renamed_term M ⇓ above D ∣ renamed_term W
  evaluates_above c label⇓ = label⇓
  evaluates_above c gate⇓ = gate⇓
  evaluates_above c unit⇓ = unit⇓
  evaluates_above c constant⇓ = constant⇓
  evaluates_above c abstraction⇓ = abstraction⇓
  evaluates_above c (application⇓ {P = P} {W = W} d e f) =
      let c₁ = inputs_kept d ∙ c in
      let c₂ = inputs_kept e ∙ c₁ in
      application⇓ (evaluates_above c d) (evaluates_above c₁ e)
      (evaluates_as refl (sym (relabel_under (rename ℓs next) (W ∷ []) zero P)) (evaluates_above c₂ f))
  evaluates_above c (let⇓ {N = N} {W₁ = W₁} {W₂ = W₂} d e) =
      let⇓ (evaluates_above c d)
      (evaluates_as refl
      (sym (relabel_under (rename ℓs next) (W₂ ∷ W₁ ∷ []) zero N))
      (evaluates_above (inputs_kept d ∙ c) e))
  evaluates_above c (pair⇓ d e) = pair⇓ (evaluates_above c d) (evaluates_above (inputs_kept d ∙ c) e)
  evaluates_above c lift⇓ = lift⇓
  evaluates_above c (force⇓ d e) = force⇓ (evaluates_above c d) (evaluates_above (inputs_kept d ∙ c) e)
  evaluates_above {C} c (box⇓ {C₁ = C₁} {M = M} {N = N} r d n e) =
      box⇓ r
      (subst (λ X. above C ∣ renamed_term M ⇓ above C₁ ∣ lift X) (relabel_none (rename ℓs next) N n) (evaluates_above c d))
      n
      e
  evaluates_above c (apply_constant⇓ {C₂ = circuit I₁ gs} {T = T} {gs = bs} {r = r} k d e h) =
      let c₁ = inputs_kept d ∙ c in
      applied_above gs k (boxed T bs r) (inputs_kept e ∙ c₁)
      (apply_constant⇓ (rename_tuple ℓs next k) (evaluates_above c d)
      (comes_to (relabel_tuple ℓs next k) (evaluates_above c₁ e))
      (form_renamed ℓs next k h))
  evaluates_above c (apply_gate⇓ {C₂ = circuit I₁ gs} {n = n} {T = T} {U = U} k d g e) =
      let c₁ = inputs_kept d ∙ c in
      applied_above gs k (gate_boxed n T U) (inputs_kept e ∙ c₁)
      (apply_gate⇓ (rename_tuple ℓs next k) (evaluates_above c d) g
      (comes_to (relabel_tuple ℓs next k) (evaluates_above c₁ e)))

-- The tuple that box entry makes, renamed to a tuple of T's form, is that tuple.
form_length : {T : Ty} (k : Tuple) → OfForm T k → length (labels k) ≡ length (wires T)
form_length (single ℓ) wire_form = refl
form_length empty unit_form = refl
form_length (both t u) (pair_form {T = T} {U = U} h i) =
    length-append (labels t) (labels u)
    ∙ ap₂ ◌+◌ (form_length t h) (form_length u i)
    ∙ sym (length-append (wires T) (wires U))

-- Behind some labels comes the one of their number.
rename_behind : (ps : List ℕ) (ℓ : ℕ) (qs : List ℕ) (next : ℕ) → rename (ps ++ (ℓ ∷ qs)) next (length ps) ≡ ℓ
rename_behind [] ℓ qs next = refl
rename_behind (p ∷ ps) ℓ qs next = rename_behind ps ℓ qs next

inputs_behind : (ps : List ℕ) {T : Ty} (k : Tuple) (qs : List ℕ) (next : ℕ)
    → OfForm T k
    → rename_tuple (ps ++ (labels k ++ qs)) next (tuple_from (length ps) T) ≡ k
inputs_behind ps (single ℓ) qs next wire_form = ap single (rename_behind ps ℓ qs next)
inputs_behind ps empty qs next unit_form = refl
inputs_behind ps (both t u) qs next (pair_form {T = T} {U = U} h i) =
    ap₂ both
    (ap (λ l. rename_tuple (ps ++ l) next (tuple_from (length ps) T)) (append_assoc (labels t) (labels u) qs)
    ∙ inputs_behind ps t (labels u ++ qs) next h)
    (ap₂ (λ l n. rename_tuple l next (tuple_from n U))
    (ap (λ l. ps ++ l) (append_assoc (labels t) (labels u) qs) ∙ sym (append_assoc ps (labels t) (labels u ++ qs)))
    (sym (length-append ps (labels t) ∙ ap (λ n. length ps + n) (form_length t h)))
    ∙ inputs_behind (ps ++ labels t) u qs next i)

inputs_become : {T : Ty} (k : Tuple) (next : ℕ) → OfForm T k → rename_tuple (labels k) next (tuple_from 0 T) ≡ k
inputs_become {T} k next h =
    ap (λ l. rename_tuple l next (tuple_from 0 T)) (sym (append-nil (labels k))) ∙ inputs_behind [] k [] next h

-- What a box's body builds from the inputs of T, it builds from a tuple of T's form on top of any circuit, and that is what the
-- closed circuit adds there: append.
pub body_above : {I₁ : List Wire} {gs : List Gate} {T : Ty} {N : Term} (r k : Tuple) (C : Circuit)
    → term_labels N ≡ []
    → OfForm T k
    → circuit (wires T) [] ∣ application N (tuple (tuple_from 0 T)) ⇓ circuit I₁ gs ∣ tuple r
    → C ∣ application N (tuple k) ⇓ appended C k (boxed T gs r) ∣ tuple (returned C k (boxed T gs r))
body_above {T = T} {N = N} r k (circuit I₀ hs) n h d =
    let next = length (I₀ ++ outputs hs) in
    evaluates_as refl
    (sym
    (ap₂ application (relabel_none (rename (labels k) next) N n)
    (relabel_tuple (labels k) next (tuple_from 0 T) ∙ ap tuple (inputs_become k next h))))
    (comes_to (relabel_tuple (labels k) next r)
    (evaluates_above (labels k) (wires T) I₀ hs (form_length k h) refl d))
