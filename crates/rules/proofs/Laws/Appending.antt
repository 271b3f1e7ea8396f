-- Theorems on circuits: the empty one, a gate as one, what one circuit appended to another gives, and where wires go.
use Rattle.std.specs.Prelude.{ℕ, zero, suc, ◌+◌, ◌≤◌, ◌<◌, ◌≡◌, refl, ◌≢◌, Bool, true, false, ◌&&◌, List, [], ◌∷◌, ◌++◌, map, T as Truth, eqb, leb, length}
use Rattle.std.proofs.Common.{zero-le, sym, ap, ap₂, ◌∙◌, subst, subst₂, append-nil, append_assoc, arith, zero-add, add-zero, suc-add, leb→le, length-append}
use Rattle.std.proofs.Math.Path.{fun_ext}
use Rattle.std.proofs.Math.Option
use Rattle.std.proofs.Math.Option.{Option, none, some, some-injective}
use Rattle.rules.specs.Types.{Wire, Ty, wire, ◌⊗◌, ◌⊸◌, !◌, Circ, is_wire_type, wires, entries, most_entries, unit}
use Rattle.rules.specs.Gates.{GateType, ◌to◌, gate_table, nth, gate_type, output_wires, gate_outputs}
use Rattle.rules.specs.Terms.{Tuple, single, both, labels, tuple_from, Gate, ◌on◌, Term, variable, label, gate}
use Rattle.rules.specs.Terms.{constant, abstraction, application, pair, let_in, lift, force, box, apply, tuple}
use Rattle.rules.specs.Terms.{term_labels, unit_value, empty}
use Rattle.rules.specs.Circuits.{outputs, numbers, made_by, taken, count, OfTypes, wires_end, next_wire, TakesEarlier}
use Rattle.rules.specs.Circuits.{no_gate, next_gate, Sound, if_none, loose, GoneOnce, rename, rename_gate, rename_tuple}
use Rattle.rules.specs.Circuits.{gate_boxed}
use Rattle.rules.specs.Typing.{LabelContext, Shares, nowhere, left, right, copied, split_end, Never, SplitsLabels}
use Rattle.rules.specs.Typing.{parameters_end, OnlyLabel, Bounded, ◌∣◌⊢◌∶◌, by_label, by_circ, by_tuple, by_unit}
use Rattle.rules.specs.Inference.{label_uses}
use Rattle.rules.proofs.Theorems.Counting.{closed→plain, has→counted, plain_unused}
use Rattle.rules.proofs.Laws.Wires.{Compared, equal, unequal, compared, one_if_equal, one_if_unequal, count_append}
use Rattle.rules.proofs.Laws.Wires.{count_map, count_map_none, count_above, count_between, numbers_append}
use Rattle.rules.proofs.Laws.Wires.{nth_append_right, nth_append_left, nth_beyond, nth_within, nth_some_within}
use Rattle.rules.proofs.Laws.Wires.{map-append, count_at_most_once, every, every_nth}
use Rattle.rules.proofs.Laws.Booleans.{and_left, and_right}

-- The wires made are the numbers from 0 on.
made_are_numbers : (I : List Wire) (gs : List Gate) → made_by I gs ≡ numbers 0 (length (I ++ outputs gs))
made_are_numbers I [] = ap (λ l. numbers 0 (length l)) (sym (append-nil I))
made_are_numbers I ((n on ws) ∷ gs) =
    ap (λ l. l ++ numbers (length M) (length O)) (made_are_numbers I gs)
    ∙ ap (λ m. numbers 0 (length M) ++ numbers m (length O)) (sym (zero-add (length M)))
    ∙ sym (numbers_append 0 (length M) (length O))
    ∙ ap (numbers 0) (sym (length-append M O))
    ∙ ap (λ l. numbers 0 (length l)) (append_assoc I (outputs gs) O)
  where
    M : List Wire
    M = I ++ outputs gs

    O : List Wire
    O = gate_outputs n

-- Each wire of a circuit is made once.
pub made_once : (I : List Wire) (gs : List Gate) (w : ℕ) → w < length (I ++ outputs gs) → count w (made_by I gs) ≡ 1
made_once I gs w h =
    ap (count w) (made_are_numbers I gs) ∙ count_between w 0 (length (I ++ outputs gs)) zero-le (omega arith)

-- A circuit without gates is sound.
pub empty_sound : (I : List Wire) → Sound I []
empty_sound I = record { made_once = made_once I []; takes_earlier = no_gate; taken_once = λ w. zero-le }

-- Its loose wires are its inputs.
pub empty_loose : (I : List Wire) → loose I [] ≡ nth I
empty_loose I = fun_ext λ w. ap (λ l. nth l w) (append-nil I)

-- How far v comes after b, if not before it.
abbrev pub offset : ℕ → ℕ → Option ℕ
offset zero v = some v
offset (suc b) zero = none
offset (suc b) (suc v) = offset b v

-- What a label context has at a number, if there is one.
abbrev pub at_some : LabelContext → Option ℕ → Option Wire
at_some Q none = none
at_some Q (some u) = Q u

-- The label context of wires numbered from n on.
abbrev pub segment : ℕ → List Wire → LabelContext
segment n αs v = at_some (nth αs) (offset n v)

pub shares_left : (a : Option Wire) → Shares Never a a none
shares_left none = nowhere
shares_left (some α) = left

pub shares_right : (a : Option Wire) → Shares Never a none a
shares_right none = nowhere
shares_right (some α) = right

nth_splits : (αs βs : List Wire) (v : ℕ) → Shares Never (nth (αs ++ βs) v) (nth αs v) (segment (length αs) βs v)
nth_splits [] βs v = shares_right (nth βs v)
nth_splits (α ∷ αs) βs zero = left
nth_splits (α ∷ αs) βs (suc v) = nth_splits αs βs v

segment_splits : (n : ℕ) (αs βs : List Wire)
    → SplitsLabels (segment n (αs ++ βs)) (segment n αs) (segment (n + length αs) βs)
segment_splits zero αs βs v =
    subst
    (λ m. Shares Never (nth (αs ++ βs) v) (nth αs v) (segment m βs v))
    (sym (zero-add (length αs)))
    (nth_splits αs βs v)
segment_splits (suc n) αs βs zero =
    subst (λ m. Shares Never none none (segment m βs zero)) (sym (suc-add n (length αs))) nowhere
segment_splits (suc n) αs βs (suc v) =
    subst
    (λ m. Shares Never (segment n (αs ++ βs) v) (segment n αs v) (segment m βs (suc v)))
    (sym (suc-add n (length αs)))
    (segment_splits n αs βs v)

segment_single : (n : ℕ) (α : Wire) → OnlyLabel (segment n (α ∷ [])) n α
segment_single n α = (there n, others n)
  where
    there : (n : ℕ) → segment n (α ∷ []) n ≡ some α
    there zero = refl
    there (suc n) = there n

    others : (n k : ℕ) → k ≢ n → segment n (α ∷ []) k ≡ none
    others zero zero f = absurd (f refl)
    others zero (suc k) f = refl
    others (suc n) zero f = refl
    others (suc n) (suc k) f = others n k (λ p. f (ap suc p))

segment_none : (n k : ℕ) → segment n [] k ≡ none
segment_none zero k = refl
segment_none (suc n) zero = refl
segment_none (suc n) (suc k) = segment_none n k

-- The tuple of T's wires, numbered from n on, has type T.
pub tuple_from_typed : (n : ℕ) (T : Ty) → Truth (is_wire_type T) → Bounded T
    → [] ∣ segment n (wires T) ⊢ tuple (tuple_from n T) ∶ T
tuple_from_typed n (wire α) t b = by_label parameters_end (segment_single n α)
tuple_from_typed n unit t b = by_unit parameters_end (segment_none n)
tuple_from_typed n (A ⊗ B) t b =
    by_tuple
    b
    split_end
    (segment_splits n (wires A) (wires B))
    (tuple_from_typed n A (and_left (is_wire_type A) (is_wire_type B) t) (omega arith))
    (tuple_from_typed (n + length (wires A)) B (and_right (is_wire_type A) (is_wire_type B) t) (omega arith))
tuple_from_typed n (A ⊸ B) t b = absurd t
tuple_from_typed n (! A) t b = absurd t
tuple_from_typed n (Circ T U) t b = absurd t

-- 01, box entry: "one new label for each wire of T, left to right from 0": that tuple has type T.
pub tuple_from_has : (T : Ty) → Truth (is_wire_type T) → Bounded T → [] ∣ nth (wires T) ⊢ tuple (tuple_from 0 T) ∶ T
tuple_from_has T t b = tuple_from_typed 0 T t b

-- How often a label context has a label: once or not.
abbrev pub present : Option Wire → ℕ
present none = 0
present (some α) = 1

uses_of_two : (ℓ : ℕ) (M N : Term)
    → count ℓ (term_labels M) ≡ label_uses ℓ M → count ℓ (term_labels N) ≡ label_uses ℓ N
    → count ℓ (term_labels M ++ term_labels N) ≡ label_uses ℓ M + label_uses ℓ N
uses_of_two ℓ M N p q = count_append ℓ (term_labels M) (term_labels N) ∙ ap₂ ◌+◌ p q

-- A label stands in a term as often as the term uses it.
uses_counted : (ℓ : ℕ) (M : Term) → count ℓ (term_labels M) ≡ label_uses ℓ M
uses_counted ℓ (variable n) = refl
uses_counted ℓ (label k) = omega arith
uses_counted ℓ (gate n) = refl
uses_counted ℓ unit_value = refl
uses_counted ℓ (constant b) = refl
uses_counted ℓ (abstraction A M) = uses_counted ℓ M
uses_counted ℓ (application M N) = uses_of_two ℓ M N (uses_counted ℓ M) (uses_counted ℓ N)
uses_counted ℓ (pair M N) = uses_of_two ℓ M N (uses_counted ℓ M) (uses_counted ℓ N)
uses_counted ℓ (let_in M N) = uses_of_two ℓ M N (uses_counted ℓ M) (uses_counted ℓ N)
uses_counted ℓ (lift M) = uses_counted ℓ M
uses_counted ℓ (force M) = uses_counted ℓ M
uses_counted ℓ (box T M) = uses_counted ℓ M
uses_counted ℓ (apply M N) = uses_of_two ℓ M N (uses_counted ℓ M) (uses_counted ℓ N)

-- A typed term holds each label of its context once, and no other.
pub labels_once : {Q : LabelContext} {M : Term} {A : Ty}
    → [] ∣ Q ⊢ M ∶ A → (ℓ : ℕ) → count ℓ (term_labels M) ≡ present (Q ℓ)
labels_once {Q} {M} d ℓ = uses_counted ℓ M ∙ of (Q ℓ) refl
  where
    of : (a : Option Wire) → Q ℓ ≡ a → label_uses ℓ M ≡ present a
    of none p = plain_unused (closed→plain d) ℓ p
    of (some α) p = (has→counted d).labels_once ℓ α p

-- The labels of a label tuple are those of the term that it is.
pub labels_of_tuple : (r : Tuple) → term_labels (tuple r) ≡ labels r
labels_of_tuple (single ℓ) = refl
labels_of_tuple empty = refl
labels_of_tuple (both t u) = ap₂ ◌++◌ (labels_of_tuple t) (labels_of_tuple u)

pub tuple_labels_once : (r : Tuple) {Q : LabelContext} {U : Ty}
    → [] ∣ Q ⊢ tuple r ∶ U → (ℓ : ℕ) → count ℓ (labels r) ≡ present (Q ℓ)
tuple_labels_once r d ℓ = ap (count ℓ) (sym (labels_of_tuple r)) ∙ labels_once d ℓ

present_within : (M : List Wire) (w : ℕ) → w < length M → present (nth M w) ≡ 1
present_within M w h = let a = nth_within M w h in rw a.1 refl

-- Each wire has gone exactly once, to a gate or to one place of a typed term.
pub gone_once : (I : List Wire) (gs : List Gate) {M : Term} {A : Ty}
    → ((w : ℕ) → count w (taken gs) ≤ 1)
    → [] ∣ loose I gs ⊢ M ∶ A
    → GoneOnce I gs (term_labels M)
gone_once I gs {M} once d w h =
    count_append w (taken gs) (term_labels M) ∙ of_count (count w (taken gs)) (once w) (labels_once d w)
  where
    of_count : (c : ℕ) → c ≤ 1 → count w (term_labels M) ≡ present (if_none c (nth (I ++ outputs gs) w))
        → c + count w (term_labels M) ≡ 1
    of_count zero l p = omega (arith, present_within (I ++ outputs gs) w h)
    of_count (suc c) l p = omega arith

-- The same where the term is a label tuple.
pub tuple_gone_once : (I : List Wire) (gs : List Gate) (r : Tuple) {U : Ty}
    → ((w : ℕ) → count w (taken gs) ≤ 1)
    → [] ∣ loose I gs ⊢ tuple r ∶ U
    → GoneOnce I gs (labels r)
tuple_gone_once I gs r once d = subst (GoneOnce I gs) (labels_of_tuple r) (gone_once I gs once d)

pub shares_some_left : {a a₁ a₂ : Option Wire} {α : Wire} → Shares Never a a₁ a₂ → a₁ ≡ some α → a ≡ some α
shares_some_left nowhere p = p
shares_some_left left p = p
shares_some_left right p = cc
shares_some_left (copied n) p = absurd n

pub shares_some_right : {a a₁ a₂ : Option Wire} {α : Wire} → Shares Never a a₁ a₂ → a₂ ≡ some α → a ≡ some α
shares_some_right nowhere p = p
shares_some_right left p = cc
shares_some_right right p = p
shares_some_right (copied n) p = absurd n

of_types_append : {types : List Wire} {xs ys : List ℕ} {αs βs : List Wire}
    → OfTypes types xs αs → OfTypes types ys βs → OfTypes types (xs ++ ys) (αs ++ βs)
of_types_append wires_end e = e
of_types_append (next_wire p d) e = next_wire p (of_types_append d e)

of_types_below : {types : List Wire} {ws : List ℕ} {αs : List Wire}
    → OfTypes types ws αs → (v : ℕ) → length types ≤ v → count v ws ≡ 0
of_types_below wires_end v h = refl
of_types_below {types} (next_wire {w = w} p d) v h =
    let l = nth_some_within types w p in
    omega (arith, one_if_unequal v w (omega arith), of_types_below d v h)

-- The labels of a typed tuple have the types of T's wires, left to right.
labels_of_types : (k : Tuple) {Q : LabelContext} {T : Ty} (types : List Wire)
    → ((ℓ : ℕ) (α : Wire) → Q ℓ ≡ some α → nth types ℓ ≡ some α)
    → [] ∣ Q ⊢ tuple k ∶ T
    → OfTypes types (labels k) (wires T)
labels_of_types (single ℓ) types known (by_label {α = α} p o) = next_wire (known ℓ α o.0) wires_end
labels_of_types empty types known (by_unit p n) = wires_end
labels_of_types (both t u) types known (by_tuple b split_end s d e) =
    of_types_append
    (labels_of_types t types (λ ℓ α p. known ℓ α (shares_some_left (s ℓ) p)) d)
    (labels_of_types u types (λ ℓ α p. known ℓ α (shares_some_right (s ℓ) p)) e)

-- No gate takes a wire that is not made.
taken_below : {I : List Wire} {gs : List Gate}
    → TakesEarlier I gs → (v : ℕ) → length (I ++ outputs gs) ≤ v → count v (taken gs) ≡ 0
taken_below no_gate v h = refl
taken_below {I} (next_gate {n = n} {ws = ws} {gs = gs} e o t) v h =
    omega (arith, count_append v ws (taken gs), of_types_below o v fewer, taken_below t v fewer)
  where
    all_types : length (I ++ (outputs gs ++ gate_outputs n)) ≡ length (I ++ outputs gs) + length (gate_outputs n)
    all_types =
        ap length (sym (append_assoc I (outputs gs) (gate_outputs n)))
        ∙ length-append (I ++ outputs gs) (gate_outputs n)

    fewer : length (I ++ outputs gs) ≤ v
    fewer = omega (arith, all_types)

-- Appending: what the copied gates make and take.
append_outputs : (ℓs : List ℕ) (b : ℕ) (gs hs : List Gate)
    → outputs (map (rename_gate ℓs b) gs ++ hs) ≡ outputs hs ++ outputs gs
append_outputs ℓs b [] hs = sym (append-nil (outputs hs))
append_outputs ℓs b ((n on ws) ∷ gs) hs =
    ap (λ l. l ++ gate_outputs n) (append_outputs ℓs b gs hs)
    ∙ append_assoc (outputs hs) (outputs gs) (gate_outputs n)

pub append_types : (ℓs : List ℕ) (b : ℕ) (I : List Wire) (gs hs : List Gate)
    → I ++ outputs (map (rename_gate ℓs b) gs ++ hs) ≡ I ++ outputs hs ++ outputs gs
append_types ℓs b I gs hs =
    ap (λ l. I ++ l) (append_outputs ℓs b gs hs) ∙ sym (append_assoc I (outputs hs) (outputs gs))

append_taken : (ℓs : List ℕ) (b : ℕ) (gs hs : List Gate)
    → taken (map (rename_gate ℓs b) gs ++ hs) ≡ map (rename ℓs b) (taken gs) ++ taken hs
append_taken ℓs b [] hs = refl
append_taken ℓs b ((n on ws) ∷ gs) hs =
    ap (λ l. map (rename ℓs b) ws ++ l) (append_taken ℓs b gs hs)
    ∙ sym (append_assoc (map (rename ℓs b) ws) (map (rename ℓs b) (taken gs)) (taken hs))
    ∙ ap (λ l. l ++ taken hs) (sym (map-append (rename ℓs b) ws (taken gs)))

-- A renamed wire has the type that it had.
rename_type : {M : List Wire} {ℓs : List ℕ} {αs : List Wire}
    → OfTypes M ℓs αs → (X : List Wire) (w : ℕ) → nth (M ++ X) (rename ℓs (length M) w) ≡ nth (αs ++ X) w
rename_type {M} wires_end X w = nth_append_right M X w
rename_type {M} (next_wire {w = ℓ} p d) X zero = nth_append_left M X ℓ (nth_some_within M ℓ p) ∙ p
rename_type (next_wire p d) X (suc w) = rename_type d X w

rename_types : {M : List Wire} {ℓs : List ℕ} {αs : List Wire} → OfTypes M ℓs αs → (X : List Wire)
    {ws : List ℕ} {βs : List Wire}
    → OfTypes (αs ++ X) ws βs
    → OfTypes (M ++ X) (map (rename ℓs (length M)) ws) βs
rename_types o X wires_end = wires_end
rename_types o X (next_wire {w = w} p d) = next_wire (rename_type o X w ∙ p) (rename_types o X d)

-- The copied gates take wires made before them, of their types.
append_takes_earlier : (I : List Wire) {hs : List Gate} {ℓs : List ℕ} {αs : List Wire} {gs : List Gate}
    → OfTypes (I ++ outputs hs) ℓs αs
    → TakesEarlier I hs
    → TakesEarlier αs gs
    → TakesEarlier I (map (rename_gate ℓs (length (I ++ outputs hs))) gs ++ hs)
append_takes_earlier I o h no_gate = h
append_takes_earlier I {hs} {ℓs = ℓs} o h (next_gate {T = T} {ws = ws} {gs = gs} e d t) =
    next_gate
    e
    (subst
    (λ l. OfTypes l (map (rename ℓs (length (I ++ outputs hs))) ws) (wires T))
    (sym (append_types ℓs (length (I ++ outputs hs)) I gs hs))
    (rename_types o (outputs gs) d))
    (append_takes_earlier I o h t)

abbrev if_same : Bool → Option ℕ → Option ℕ
if_same true o = some zero
if_same false o = Option.map suc o

-- The wire that gets number v when wires are renamed, if there is one.
abbrev origin : List ℕ → ℕ → ℕ → Option ℕ
origin [] b v = offset b v
origin (ℓ ∷ ℓs) b v = if_same (eqb v ℓ) (origin ℓs b v)

-- A number that a renamed wire gets, or one before b that is none of the labels.
data Renamed (ℓs : List ℕ) (b v : ℕ) : Option ℕ → Type 0 where
  from_wire : {u : ℕ} → rename ℓs b u ≡ v → Renamed ℓs b v (some u)
  from_none : count v ℓs ≡ 0 → v < b → Renamed ℓs b v none

renamed : (ℓs : List ℕ) (b v : ℕ) → Renamed ℓs b v (origin ℓs b v)
renamed [] b v = from_offset b v
  where
    one_on : (b v : ℕ) (o : Option ℕ) → Renamed [] b v o → Renamed [] (suc b) (suc v) o
    one_on b v _ (from_wire {u = u} q) = from_wire {u = u} (omega arith)
    one_on b v _ (from_none c h) = from_none refl (omega arith)

    from_offset : (b v : ℕ) → Renamed [] b v (offset b v)
    from_offset zero v = from_wire (zero-add v)
    from_offset (suc b) zero = from_none refl (omega arith)
    from_offset (suc b) (suc v) = one_on b v (offset b v) (from_offset b v)
renamed (ℓ ∷ ℓs) b v = of_test (eqb v ℓ) (compared v ℓ) (origin ℓs b v) (renamed ℓs b v)
  where
    of_test : (t : Bool) → Compared v ℓ t → (o : Option ℕ) → Renamed ℓs b v o → Renamed (ℓ ∷ ℓs) b v (if_same t o)
    of_test _ (equal p) o r = from_wire (sym p)
    of_test _ (unequal f) _ (from_wire q) = from_wire q
    of_test _ (unequal f) _ (from_none c h) = from_none (omega (arith, one_if_unequal v ℓ f)) h

-- Labels that are distinct and come before b.
record Distinct (ℓs : List ℕ) (b : ℕ) : Type 0 where
  once : (v : ℕ) → count v ℓs ≤ 1
  before : (v : ℕ) → b ≤ v → count v ℓs ≡ 0

distinct_rest : {ℓ : ℕ} {ℓs : List ℕ} {b : ℕ} → Distinct (ℓ ∷ ℓs) b → Distinct ℓs b
distinct_rest d = record { once = λ v. omega (arith, d.once v); before = λ v h. omega (arith, d.before v h) }

-- A renamed wire is one of the labels, or comes from b on.
rename_where : (ℓs : List ℕ) (b u : ℕ) → count (rename ℓs b u) ℓs ≡ 0 → b ≤ rename ℓs b u
rename_where [] b u p = omega arith
rename_where (ℓ ∷ ℓs) b zero p = absurd (omega (arith, one_if_equal ℓ ℓ refl))
rename_where (ℓ ∷ ℓs) b (suc u) p = rename_where ℓs b u (omega arith)

offset_add : (b u : ℕ) → offset b (b + u) ≡ some u
offset_add zero u = ap (λ m. some m) (zero-add u)
offset_add (suc b) u = ap (offset (suc b)) (suc-add b u) ∙ offset_add b u

origin_rename : (ℓs : List ℕ) (b u : ℕ) → Distinct ℓs b → origin ℓs b (rename ℓs b u) ≡ some u
origin_rename [] b u d = offset_add b u
origin_rename (ℓ ∷ ℓs) b zero d = of_test (eqb ℓ ℓ) (compared ℓ ℓ)
  where
    of_test : (t : Bool) → Compared ℓ ℓ t → if_same t (origin ℓs b ℓ) ≡ some zero
    of_test _ (equal p) = refl
    of_test _ (unequal f) = absurd (f refl)
origin_rename (ℓ ∷ ℓs) b (suc u) d =
    of_test (eqb (rename ℓs b u) ℓ) (compared (rename ℓs b u) ℓ) (origin_rename ℓs b u (distinct_rest d))
  where
    another : rename ℓs b u ≢ ℓ
    another p =
        let c : count ℓ (ℓ ∷ ℓs) ≤ 1 = d.once ℓ in
        let e = one_if_equal ℓ ℓ refl in
        let n : count (rename ℓs b u) ℓs ≡ 0 = rw p (omega arith) in
        let h : b ≤ ℓ = subst (λ v. b ≤ v) p (rename_where ℓs b u n) in
        omega (arith, d.before ℓ h)

    of_test : (t : Bool) → Compared (rename ℓs b u) ℓ t → origin ℓs b (rename ℓs b u) ≡ some u
        → if_same t (origin ℓs b (rename ℓs b u)) ≡ some (suc u)
    of_test _ (equal p) rest = absurd (another p)
    of_test _ (unequal f) rest = rw rest refl

rename_injective : (ℓs : List ℕ) (b x u : ℕ) → Distinct ℓs b → rename ℓs b x ≡ rename ℓs b u → x ≡ u
rename_injective ℓs b x u d p =
    some-injective
    x
    u
    (sym (origin_rename ℓs b x d) ∙ ap (origin ℓs b) p ∙ origin_rename ℓs b u d)

-- The label context in which renamed labels have the types that they had.
abbrev through_rename : List ℕ → ℕ → LabelContext → LabelContext
through_rename ℓs b Q v = at_some Q (origin ℓs b v)

-- A renamed tuple has the type that it had.
rename_has : (ℓs : List ℕ) (b : ℕ) → Distinct ℓs b → (r : Tuple) {Q : LabelContext} {U : Ty}
    → [] ∣ Q ⊢ tuple r ∶ U
    → [] ∣ through_rename ℓs b Q ⊢ tuple (rename_tuple ℓs b r) ∶ U
rename_has ℓs b d (single w) {Q = Q} (by_label p o) =
    by_label p (ap (at_some Q) (origin_rename ℓs b w d) ∙ o.0, λ v f. others v f (origin ℓs b v) (renamed ℓs b v))
  where
    others : (v : ℕ) → v ≢ rename ℓs b w → (x : Option ℕ) → Renamed ℓs b v x → at_some Q x ≡ none
    others v f _ (from_wire {u = u} q) = o.1 u (λ e. f (sym q ∙ ap (rename ℓs b) e))
    others v f _ (from_none c h) = refl
rename_has ℓs b d empty {Q = Q} (by_unit p n) = by_unit p (λ v. at (origin ℓs b v))
  where
    at : (x : Option ℕ) → at_some Q x ≡ none
    at none = refl
    at (some v) = n v
rename_has ℓs b d (both t u) {Q = Q} (by_tuple {Q₁ = Q₁} {Q₂ = Q₂} n split_end s e f) =
    by_tuple n split_end (λ v. splits_at (origin ℓs b v)) (rename_has ℓs b d t e) (rename_has ℓs b d u f)
  where
    splits_at : (x : Option ℕ) → Shares Never (at_some Q x) (at_some Q₁ x) (at_some Q₂ x)
    splits_at none = nowhere
    splits_at (some v) = s v

if_none_some : (c : ℕ) (a : Option Wire) {α : Wire} → if_none c a ≡ some α → (c ≡ 0) × (a ≡ some α)
if_none_some zero a p = (refl, p)
if_none_some (suc c) a p = let z : ◌≡◌ {A = ℕ} 0 1 = cc in absurd (omega arith)

if_none_none : (c : ℕ) (a : Option Wire) → a ≡ none → if_none c a ≡ none
if_none_none zero a p = p
if_none_none (suc c) a p = refl

shares_other : {a a₁ a₂ : Option Wire} {α : Wire} → Shares Never a a₁ a₂ → a₁ ≡ some α → a₂ ≡ none
shares_other nowhere p = refl
shares_other left p = refl
shares_other right p = cc
shares_other (copied n) p = absurd n

shares_none : {a a₁ a₂ : Option Wire} → Shares Never a a₁ a₂ → a ≡ none → a₂ ≡ none
shares_none nowhere p = refl
shares_none left p = refl
shares_none right p = p
shares_none (copied n) p = absurd n

shares_rest : {a a₁ a₂ : Option Wire} → Shares Never a a₁ a₂ → present a₁ ≡ 0 → a ≡ a₂
shares_rest nowhere p = refl
shares_rest left p = absurd (omega arith)
shares_rest right p = refl
shares_rest (copied n) p = absurd n

present_one : (a : Option Wire) → present a ≤ 1
present_one none = omega arith
present_one (some α) = omega arith

-- The number of the next wire, and the gates of a circuit after the copied ones gs on the labels of k.
abbrev next_number : List Wire → List Gate → ℕ
next_number I hs = length (I ++ outputs hs)

abbrev with_copy : List Wire → List Gate → Tuple → List Gate → List Gate
with_copy I hs k gs = map (rename_gate (labels k) (next_number I hs)) gs ++ hs

-- A sound circuit with gates hs, some of whose loose wires are the tuple k of type T: gates on T's wires are copied.
module _ (I : List Wire) (hs : List Gate) (k : Tuple) (T : Ty) (Q₁ Q₂ : LabelContext)
    (sound : Sound I hs) (splits : SplitsLabels (loose I hs) Q₁ Q₂) (has : [] ∣ Q₁ ⊢ tuple k ∶ T) where
  argument_types : OfTypes (I ++ outputs hs) (labels k) (wires T)
  argument_types =
      labels_of_types
      k
      (I ++ outputs hs)
      (λ ℓ α p. (if_none_some (count ℓ (taken hs)) (nth (I ++ outputs hs) ℓ) (shares_some_left (splits ℓ) p)).1)
      has

  argument_distinct : Distinct (labels k) (next_number I hs)
  argument_distinct =
      record {
        once = λ v. omega (arith, tuple_labels_once k has v, present_one (Q₁ v));
        before = λ v h. of_types_below argument_types v h;
      }

  -- A wire of the argument, or a new one, is taken by no gate of hs and is no label of the rest.
  not_elsewhere : (v : ℕ) → (count v (labels k) ≡ 0 → next_number I hs ≤ v) → (count v (taken hs) ≡ 0) × (Q₂ v ≡ none)
  not_elsewhere v new = of_label (Q₁ v) refl
    where
      of_label : (a : Option Wire) → Q₁ v ≡ a → (count v (taken hs) ≡ 0) × (Q₂ v ≡ none)
      of_label (some α) p = (
        (if_none_some (count v (taken hs)) (nth (I ++ outputs hs) v) (shares_some_left (splits v) p)).0,
        shares_other (splits v) p,
      )
      of_label none p =
          let h = new (tuple_labels_once k has v ∙ ap present p) in (
            taken_below sound.takes_earlier v h,
            shares_none
                (splits v)
                (if_none_none (count v (taken hs)) (nth (I ++ outputs hs) v) (nth_beyond (I ++ outputs hs) v h)),
          )

  renamed_not_elsewhere : (u v : ℕ) → rename (labels k) (next_number I hs) u ≡ v
      → (count v (taken hs) ≡ 0) × (Q₂ v ≡ none)
  renamed_not_elsewhere u v q =
      not_elsewhere v λ c.
      subst
      (λ x. next_number I hs ≤ x)
      q
      (rename_where (labels k) (next_number I hs) u (ap (λ x. count x (labels k)) q ∙ c))

  taken_at : (gs : List Gate) (v : ℕ)
      → count v (taken (with_copy I hs k gs))
      ≡ count v (map (rename (labels k) (next_number I hs)) (taken gs)) + count v (taken hs)
  taken_at gs v =
      ap (count v) (append_taken (labels k) (next_number I hs) gs hs)
      ∙ count_append v (map (rename (labels k) (next_number I hs)) (taken gs)) (taken hs)

  types_at_lem : (gs : List Gate) (v : ℕ)
      → nth (I ++ outputs (with_copy I hs k gs)) v ≡ nth (I ++ outputs hs ++ outputs gs) v
  types_at_lem gs v = ap (λ l. nth l v) (append_types (labels k) (next_number I hs) I gs hs)

  -- What wire u of the copied circuit became is taken as often, and of the same type.
  taken_from_wire : (gs : List Gate) (u v : ℕ) → rename (labels k) (next_number I hs) u ≡ v
      → count v (taken (with_copy I hs k gs)) ≡ count u (taken gs)
  taken_from_wire gs u v q =
      omega (arith, taken_at gs v, of_copy, (renamed_not_elsewhere u v q).0)
    where
      of_copy : count v (map (rename (labels k) (next_number I hs)) (taken gs)) ≡ count u (taken gs)
      of_copy =
          count_map
          (rename (labels k) (next_number I hs))
          u
          v
          q
          (λ x p. rename_injective (labels k) (next_number I hs) x u argument_distinct (p ∙ sym q))
          (taken gs)

  loose_from_wire : (gs : List Gate) (u v : ℕ) → rename (labels k) (next_number I hs) u ≡ v
      → loose I (with_copy I hs k gs) v ≡ loose (wires T) gs u
  loose_from_wire gs u v q =
      ap₂
      if_none
      (taken_from_wire gs u v q)
      (types_at_lem gs v ∙ ap (nth (I ++ outputs hs ++ outputs gs)) (sym q) ∙ rename_type argument_types (outputs gs) u)

  -- A wire that none of the copied circuit became is taken as often as before, and of the same type.
  taken_from_none : (gs : List Gate) (v : ℕ) → count v (labels k) ≡ 0 → v < next_number I hs
      → count v (taken (with_copy I hs k gs)) ≡ count v (taken hs)
  taken_from_none gs v c h = omega (arith, taken_at gs v, of_copy)
    where
      never : (x : ℕ) → rename (labels k) (next_number I hs) x ≢ v
      never x p =
          let n : count (rename (labels k) (next_number I hs) x) (labels k) ≡ 0 = rw p c in
          omega (arith, rename_where (labels k) (next_number I hs) x n)

      of_copy : count v (map (rename (labels k) (next_number I hs)) (taken gs)) ≡ 0
      of_copy = count_map_none (rename (labels k) (next_number I hs)) v never (taken gs)

  loose_from_none : (gs : List Gate) (v : ℕ) → count v (labels k) ≡ 0 → v < next_number I hs
      → loose I (with_copy I hs k gs) v ≡ loose I hs v
  loose_from_none gs v c h =
      ap₂ if_none (taken_from_none gs v c h) (types_at_lem gs v ∙ nth_append_left (I ++ outputs hs) (outputs gs) v h)

  -- The loose wires after append: those of the copied circuit, renamed, and those that were not in the argument.
  append_splits : (gs : List Gate)
      → SplitsLabels
      (loose I (with_copy I hs k gs))
      (through_rename (labels k) (next_number I hs) (loose (wires T) gs))
      Q₂
  append_splits gs v = of_origin (origin (labels k) (next_number I hs) v) (renamed (labels k) (next_number I hs) v)
    where
      of_origin : (o : Option ℕ) → Renamed (labels k) (next_number I hs) v o
          → Shares Never (loose I (with_copy I hs k gs) v) (at_some (loose (wires T) gs) o) (Q₂ v)
      of_origin _ (from_wire {u = u} q) =
          subst₂
          (λ x y. Shares Never x (loose (wires T) gs u) y)
          (sym (loose_from_wire gs u v q))
          (sym (renamed_not_elsewhere u v q).1)
          (shares_left (loose (wires T) gs u))
      of_origin _ (from_none c h) =
          subst
          (λ x. Shares Never x none (Q₂ v))
          (sym (loose_from_none gs v c h ∙ shares_rest (splits v) (sym (tuple_labels_once k has v) ∙ c)))
          (shares_right (Q₂ v))

  append_sound : (gs : List Gate) → Sound (wires T) gs → Sound I (with_copy I hs k gs)
  append_sound gs copied_sound =
      record {
        made_once = made_once I (with_copy I hs k gs);
        takes_earlier = append_takes_earlier I argument_types sound.takes_earlier copied_sound.takes_earlier;
        taken_once = λ v.
            of_origin v (origin (labels k) (next_number I hs) v) (renamed (labels k) (next_number I hs) v);
      }
    where
      of_origin : (v : ℕ) (o : Option ℕ) → Renamed (labels k) (next_number I hs) v o
          → count v (taken (with_copy I hs k gs)) ≤ 1
      of_origin v _ (from_wire {u = u} q) = rw (taken_from_wire gs u v q) (copied_sound.taken_once u)
      of_origin v _ (from_none c h) = rw (taken_from_none gs v c h) (sound.taken_once v)

-- 000, definition 2.13: a typed circuit constant appended to a sound circuit at a tuple of its loose wires leaves a sound
-- circuit; the tuple returned has the constant's result type, and its labels and those of the rest are the loose wires.
pub append_has : {I : List Wire} {hs gs : List Gate} (k r : Tuple) {T U : Ty} {Q₁ Q₂ : LabelContext}
    → Sound I hs
    → SplitsLabels (loose I hs) Q₁ Q₂
    → [] ∣ Q₁ ⊢ tuple k ∶ T
    → Sound (wires T) gs
    → [] ∣ loose (wires T) gs ⊢ tuple r ∶ U
    → Sound I (map (rename_gate (labels k) (length (I ++ outputs hs))) gs ++ hs)
    × ((R : LabelContext)
    × SplitsLabels (loose I (map (rename_gate (labels k) (length (I ++ outputs hs))) gs ++ hs)) R Q₂
    × ([] ∣ R ⊢ tuple (rename_tuple (labels k) (length (I ++ outputs hs)) r) ∶ U))
append_has {I} {hs} {gs} k r {T} {U} {Q₁} {Q₂} sound splits has copied_sound result = (
  append_sound I hs k T Q₁ Q₂ sound splits has gs copied_sound,
  (
    through_rename (labels k) (length (I ++ outputs hs)) (loose (wires T) gs),
    append_splits I hs k T Q₁ Q₂ sound splits has gs,
    rename_has
        (labels k)
        (length (I ++ outputs hs))
        (argument_distinct I hs k T Q₁ Q₂ sound splits has)
        r
        result,
  ),
)

-- A gate's two types are wire types, and its type is within the bound.
abbrev fitting : GateType → Bool
fitting (T to U) = is_wire_type T && (is_wire_type U && leb (entries (Circ T U)) most_entries)

table_fitting : Truth (every fitting gate_table)
table_fitting = tt

numbers_of_types : (types : List Wire) (n : ℕ) (αs : List Wire)
    → ((w : ℕ) → nth types (n + w) ≡ nth αs w)
    → OfTypes types (numbers n (length αs)) αs
numbers_of_types types n [] known = wires_end
numbers_of_types types n (α ∷ αs) known =
    next_wire
    (ap (nth types) (sym (add-zero n)) ∙ known 0)
    (numbers_of_types types (suc n) αs (λ w. ap (nth types) (omega arith) ∙ known (suc w)))

-- The loose wires of a circuit whose one gate takes all inputs are those that it makes.
one_gate_loose : (αs βs : List Wire) (w : ℕ)
    → if_none (count w (numbers 0 (length αs) ++ [])) (nth (αs ++ βs) w) ≡ segment (length αs) βs w
one_gate_loose αs βs w = of_origin (offset (length αs) w) (renamed [] (length αs) w)
  where
    of_origin : (o : Option ℕ) → Renamed [] (length αs) w o
        → if_none (count w (numbers 0 (length αs) ++ [])) (nth (αs ++ βs) w) ≡ at_some (nth βs) o
    of_origin _ (from_wire {u = u} q) =
        ap₂
        if_none
        (ap (count w) (append-nil (numbers 0 (length αs))) ∙ count_above w 0 (length αs) (omega arith))
        (ap (nth (αs ++ βs)) (sym q) ∙ nth_append_right αs βs u)
    of_origin _ (from_none c h) =
        ap
        (λ m. if_none m (nth (αs ++ βs) w))
        (ap (count w) (append-nil (numbers 0 (length αs))) ∙ count_between w 0 (length αs) zero-le (omega arith))

one_gate_sound : {n : ℕ} {T U : Ty}
    → gate_type n ≡ some (T to U)
    → Sound (wires T) ((n on numbers 0 (length (wires T))) ∷ [])
one_gate_sound {n} {T} {U} e =
    record {
      made_once = made_once (wires T) ((n on numbers 0 (length (wires T))) ∷ []);
      takes_earlier =
          next_gate
          e
          (numbers_of_types
          (wires T ++ [])
          0
          (wires T)
          (λ w. ap (nth (wires T ++ [])) (zero-add w) ∙ ap (λ l. nth l w) (append-nil (wires T))))
          no_gate;
      taken_once = λ w.
          rw (append-nil (numbers 0 (length (wires T)))) (count_at_most_once w 0 (length (wires T)));
    }

-- A gate of the table, as a circuit of one gate, is a constant of its type.
pub gate_has : {n : ℕ} {T U : Ty}
    → gate_type n ≡ some (T to U)
    → [] ∣ (λ ℓ. none) ⊢ constant (gate_boxed n T U) ∶ Circ T U
gate_has {n} {T} {U} e =
    by_circ
    parameters_end
    (λ ℓ. refl)
    input
    bound
    (one_gate_sound e)
    (subst
    (λ (Q : LabelContext). [] ∣ Q ⊢ tuple (tuple_from (length (wires T)) U) ∶ U)
    (sym loose_are)
    (tuple_from_typed (length (wires T)) U output (omega (arith, bound))))
  where
    fits : Truth (fitting (T to U))
    fits = every_nth fitting gate_table n e table_fitting

    input : Truth (is_wire_type T)
    input = and_left (is_wire_type T) (is_wire_type U && leb (entries (Circ T U)) most_entries) fits

    rest : Truth (is_wire_type U && leb (entries (Circ T U)) most_entries)
    rest = and_right (is_wire_type T) (is_wire_type U && leb (entries (Circ T U)) most_entries) fits

    output : Truth (is_wire_type U)
    output = and_left (is_wire_type U) (leb (entries (Circ T U)) most_entries) rest

    bound : Bounded (Circ T U)
    bound =
        leb→le (entries (Circ T U)) most_entries (and_right (is_wire_type U) (leb (entries (Circ T U)) most_entries) rest)

    loose_are : loose (wires T) ((n on numbers 0 (length (wires T))) ∷ []) ≡ segment (length (wires T)) (wires U)
    loose_are = fun_ext λ w.
        ap (λ o. if_none (count w (numbers 0 (length (wires T)) ++ [])) (nth (wires T ++ output_wires o) w)) e
        ∙ one_gate_loose (wires T) (wires U) w
