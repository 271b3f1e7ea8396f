-- The inference function agrees with plain typing on the terms of program files.
use Rattle.std.specs.Prelude.{◌≡◌, refl, ◌↔◌, Bool, true, false, ◌&&◌, List, [], ◌∷◌, T as Truth, leb}
use Rattle.std.proofs.Common.{sym, ◌∙◌, ap, subst, leb→le, le→leb}
use Rattle.std.proofs.Math.Option.{Option, none, some, map, some-ne-none}
use Rattle.rules.specs.Types.{Wire, Ty, wire, ◌⊗◌, ◌⊸◌, !◌, Circ, is_wire_type, entries, most_entries, Wire_discrete}
use Rattle.rules.specs.Types.{Ty_discrete, unit}
use Rattle.rules.specs.Gates.{GateType, ◌to◌, gate_type}
use Rattle.rules.specs.Terms.{Term, variable, label, gate, constant, abstraction, application, pair, let_in, lift}
use Rattle.rules.specs.Terms.{force, box, apply, unit_value}
use Rattle.rules.specs.Typing.{LabelContext, Bounded, ◌∣◌⊢◌∶◌}
use Rattle.rules.proofs.Laws.Counting.{Plain, plain_var, plain_label, plain_gate, plain_circ, plain_abs, plain_app}
use Rattle.rules.proofs.Laws.Counting.{plain_tuple, plain_let, plain_lift, plain_force, plain_box, plain_apply, Counted}
use Rattle.rules.proofs.Laws.Counting.{plain_unit}
use Rattle.rules.specs.Inference.{as_pair, as_function, as_reusable, as_circ, given, if_true, is_yes, same, if_bounded}
use Rattle.rules.specs.Inference.{gate_node_type, infer}
use Rattle.rules.specs.Counting.{source}
use Rattle.rules.proofs.Theorems.Counting.{closed→plain, has→counted, counted→has}
use Rattle.rules.proofs.Laws.Booleans.{and_left, and_right, and_both}

-- If something follows, there was something that it follows from.
given_some : {X Y : Type 0} (o : Option X) (f : X → Option Y) (y : Y)
    → given o f ≡ some y → (x : X) × (o ≡ some x) × (f x ≡ some y)
given_some none f y e = absurd (some-ne-none y (sym e))
given_some (some x) f y e = (x, refl, e)

if_true_some : (b : Bool) (A B : Ty) → if_true b A ≡ some B → Truth b × (A ≡ B)
if_true_some true A B e = (tt, cc)
if_true_some false A B e = absurd (some-ne-none B (sym e))

true_some : (b : Bool) (A : Ty) → Truth b → if_true b A ≡ some A
true_some true A t = refl
true_some false A t = absurd t

yes_holds : {X : Type 0} (d : Dec X) → Truth (is_yes d) → X
yes_holds (yes x) t = x
yes_holds (no f) t = absurd t

holds_yes : {X : Type 0} (d : Dec X) → X → Truth (is_yes d)
holds_yes (yes x) y = tt
holds_yes (no f) y = absurd (f y)

same→equal : (A B : Ty) → Truth (same A B) → A ≡ B
same→equal A B t = yes_holds (Ty_discrete Wire_discrete A B) t

same_refl : (A : Ty) → Truth (same A A)
same_refl A = holds_yes (Ty_discrete Wire_discrete A A) refl

bounded_some : (A B : Ty) → if_bounded A ≡ some B → Bounded A × (A ≡ B)
bounded_some A B e =
    let p = if_true_some (leb (entries A) most_entries) A B e in
    (leb→le (entries A) most_entries p.0, p.1)

some_bounded : (A : Ty) → Bounded A → if_bounded A ≡ some A
some_bounded A b = true_some (leb (entries A) most_entries) A (le→leb (entries A) most_entries b)

as_pair_lem : (A : Ty) (p : Ty × Ty) → as_pair A ≡ some p → A ≡ p.0 ⊗ p.1
as_pair_lem (wire α) p e = absurd (some-ne-none p (sym e))
as_pair_lem unit p e = absurd (some-ne-none p (sym e))
as_pair_lem (A ⊗ B) p e = cc
as_pair_lem (A ⊸ B) p e = absurd (some-ne-none p (sym e))
as_pair_lem (! A) p e = absurd (some-ne-none p (sym e))
as_pair_lem (Circ T U) p e = absurd (some-ne-none p (sym e))

as_function_lem : (A : Ty) (p : Ty × Ty) → as_function A ≡ some p → A ≡ p.0 ⊸ p.1
as_function_lem (wire α) p e = absurd (some-ne-none p (sym e))
as_function_lem unit p e = absurd (some-ne-none p (sym e))
as_function_lem (A ⊗ B) p e = absurd (some-ne-none p (sym e))
as_function_lem (A ⊸ B) p e = cc
as_function_lem (! A) p e = absurd (some-ne-none p (sym e))
as_function_lem (Circ T U) p e = absurd (some-ne-none p (sym e))

as_reusable_lem : (A B : Ty) → as_reusable A ≡ some B → A ≡ ! B
as_reusable_lem (wire α) X e = absurd (some-ne-none X (sym e))
as_reusable_lem unit X e = absurd (some-ne-none X (sym e))
as_reusable_lem (A ⊗ B) X e = absurd (some-ne-none X (sym e))
as_reusable_lem (A ⊸ B) X e = absurd (some-ne-none X (sym e))
as_reusable_lem (! A) X e = cc
as_reusable_lem (Circ T U) X e = absurd (some-ne-none X (sym e))

as_circ_lem : (A : Ty) (p : Ty × Ty) → as_circ A ≡ some p → A ≡ Circ p.0 p.1
as_circ_lem (wire α) p e = absurd (some-ne-none p (sym e))
as_circ_lem unit p e = absurd (some-ne-none p (sym e))
as_circ_lem (A ⊗ B) p e = absurd (some-ne-none p (sym e))
as_circ_lem (A ⊸ B) p e = absurd (some-ne-none p (sym e))
as_circ_lem (! A) p e = absurd (some-ne-none p (sym e))
as_circ_lem (Circ T U) p e = cc

-- What each form of a type asks of the parts' types, read from the inference function.
function_inferred : (F A B : Ty)
    → given (as_function F) (λ p. if_true (same p.0 A) p.1) ≡ some B → F ≡ A ⊸ B
function_inferred F A B e =
    let g = given_some (as_function F) (λ p. if_true (same p.0 A) p.1) B e in
    let h = if_true_some (same g.0.0 A) g.0.1 B g.2 in
    as_function_lem F g.0 g.1 ∙ ap (λ X. X ⊸ g.0.1) (same→equal g.0.0 A h.0) ∙ ap (λ X. A ⊸ X) h.1

circ_inferred : (F A B : Ty)
    → given (as_circ F) (λ p. if_true (same p.0 A) p.1) ≡ some B → F ≡ Circ A B
circ_inferred F A B e =
    let g = given_some (as_circ F) (λ p. if_true (same p.0 A) p.1) B e in
    let h = if_true_some (same g.0.0 A) g.0.1 B g.2 in
    as_circ_lem F g.0 g.1 ∙ ap (λ X. Circ X g.0.1) (same→equal g.0.0 A h.0) ∙ ap (λ X. Circ A X) h.1

-- What inference does at a box, given the function's two types, and given the function type.
abbrev box_at : Ty → Ty × Ty → Option Ty
box_at T p = if_true (same T p.0 && (is_wire_type T && is_wire_type p.1)) (Circ T p.1)

abbrev type_of_box : Ty → Ty → Option Ty
type_of_box T F = given (as_function F) (box_at T)

box_inferred : (T A B : Ty) → given (as_reusable A) (type_of_box T) ≡ some B
    → (U : Ty) × Truth (is_wire_type T) × Truth (is_wire_type U) × (A ≡ ! (T ⊸ U)) × (Circ T U ≡ B)
box_inferred T A B e =
    let f = given_some (as_reusable A) (type_of_box T) B e in
    let g = given_some (as_function f.0) (box_at T) B f.2 in
    let U = g.0.1 in
    let h = if_true_some (same T g.0.0 && (is_wire_type T && is_wire_type U)) (Circ T U) B g.2 in
    let s = same→equal T g.0.0 (and_left (same T g.0.0) (is_wire_type T && is_wire_type U) h.0) in
    let w = and_right (same T g.0.0) (is_wire_type T && is_wire_type U) h.0 in (
      U,
      and_left (is_wire_type T) (is_wire_type U) w,
      and_right (is_wire_type T) (is_wire_type U) w,
      as_reusable_lem A f.0 f.1 ∙ ap !◌ (as_function_lem f.0 g.0 g.1) ∙ ap (λ X. ! (X ⊸ U)) (sym s),
      h.1,
    )

-- A type that the inference function gives is the term's plain type.
pub infer→plain : (Γ : List Ty) (Q : LabelContext) (M : Term) (A : Ty) → infer Γ Q M ≡ some A → Plain Γ Q M A
infer→plain Γ Q (variable n) A e = plain_var e
infer→plain Γ Q (label ℓ) A e = go (Q ℓ) refl e
  where
    go : (o : Option Wire) → Q ℓ ≡ o → map wire o ≡ some A → Plain Γ Q (label ℓ) A
    go none h k = absurd (some-ne-none A (sym k))
    go (some α) h k =
        let x : wire α ≡ A = cc in
        subst (Plain Γ Q (label ℓ)) x (plain_label h)
infer→plain Γ Q (gate n) A e = go (gate_type n) refl e
  where
    go : (o : Option GateType) → gate_type n ≡ o → map gate_node_type o ≡ some A → Plain Γ Q (gate n) A
    go none h k = absurd (some-ne-none A (sym k))
    go (some (T to U)) h k =
        let x : Circ T U ≡ A = cc in
        subst (Plain Γ Q (gate n)) x (plain_gate h)
infer→plain Γ Q unit_value A e =
    let x : unit ≡ A = cc in
    subst (Plain Γ Q unit_value) x plain_unit
infer→plain Γ Q (constant b) A e = absurd (some-ne-none A (sym e))
infer→plain Γ Q (abstraction B M) A e =
    let g = given_some (infer (B ∷ Γ) Q M) (λ C. if_bounded (B ⊸ C)) A e in
    let h = bounded_some (B ⊸ g.0) A g.2 in
    subst (Plain Γ Q (abstraction B M)) h.1 (plain_abs h.0 (infer→plain (B ∷ Γ) Q M g.0 g.1))
infer→plain Γ Q (application M N) A e =
    let f = given_some (infer Γ Q M) _ A e in
    let g = given_some (infer Γ Q N) _ A f.2 in
    let h = function_inferred f.0 g.0 A g.2 in
    plain_app
    (subst (Plain Γ Q M) h (infer→plain Γ Q M f.0 f.1))
    (infer→plain Γ Q N g.0 g.1)
infer→plain Γ Q (pair M N) A e =
    let f = given_some (infer Γ Q M) _ A e in
    let g = given_some (infer Γ Q N) _ A f.2 in
    let h = bounded_some (f.0 ⊗ g.0) A g.2 in
    subst (Plain Γ Q (pair M N)) h.1
    (plain_tuple h.0 (infer→plain Γ Q M f.0 f.1) (infer→plain Γ Q N g.0 g.1))
infer→plain Γ Q (let_in M N) A e =
    let f = given_some (infer Γ Q M) _ A e in
    let g = given_some (as_pair f.0) _ A f.2 in
    plain_let
    (subst (Plain Γ Q M) (as_pair_lem f.0 g.0 g.1) (infer→plain Γ Q M f.0 f.1))
    (infer→plain (g.0.1 ∷ g.0.0 ∷ Γ) Q N A g.2)
infer→plain Γ Q (lift M) A e =
    let g = given_some (infer Γ Q M) (λ C. if_bounded (! C)) A e in
    let h = bounded_some (! g.0) A g.2 in
    subst (Plain Γ Q (lift M)) h.1 (plain_lift h.0 (infer→plain Γ Q M g.0 g.1))
infer→plain Γ Q (force M) A e =
    let g = given_some (infer Γ Q M) as_reusable A e in
    plain_force (subst (Plain Γ Q M) (as_reusable_lem g.0 A g.2) (infer→plain Γ Q M g.0 g.1))
infer→plain Γ Q (box T M) A e =
    let g = given_some (infer Γ Q M) (λ B. given (as_reusable B) (type_of_box T)) A e in
    let h = box_inferred T g.0 A g.2 in
    subst (Plain Γ Q (box T M)) h.4
    (plain_box h.1 h.2 (subst (Plain Γ Q M) h.3 (infer→plain Γ Q M g.0 g.1)))
infer→plain Γ Q (apply M N) A e =
    let f = given_some (infer Γ Q M) _ A e in
    let g = given_some (infer Γ Q N) _ A f.2 in
    let h = circ_inferred f.0 g.0 A g.2 in
    plain_apply
    (subst (Plain Γ Q M) h (infer→plain Γ Q M f.0 f.1))
    (infer→plain Γ Q N g.0 g.1)

-- The inference function gives a term of a program file its plain type.
pub plain→infer : {Γ : List Ty} {Q : LabelContext} {M : Term} {A : Ty}
    → Truth (source M) → Plain Γ Q M A → infer Γ Q M ≡ some A
plain→infer s (plain_var e) = e
plain→infer s (plain_label e) = ap (map wire) e
plain→infer s (plain_gate e) = ap (map gate_node_type) e
plain→infer s plain_unit = refl
plain→infer s (plain_circ t b c d) = absurd s
plain→infer s (plain_abs {A = A} {B = B} b d) =
    ap (λ o. given o λ C. if_bounded (A ⊸ C)) (plain→infer s d) ∙ some_bounded (A ⊸ B) b
plain→infer s (plain_app {A = A} {B = B} {M = M} {N = N} d e) =
    let x = plain→infer (and_left (source M) (source N) s) d in
    let y = plain→infer (and_right (source M) (source N) s) e in
    rw (x, y) (true_some (same A A) B (same_refl A))
plain→infer s (plain_tuple {A = A} {B = B} {M = M} {N = N} b d e) =
    let x = plain→infer (and_left (source M) (source N) s) d in
    let y = plain→infer (and_right (source M) (source N) s) e in
    rw (x, y) (some_bounded (A ⊗ B) b)
plain→infer s (plain_let {M = M} {N = N} d e) =
    let x = plain→infer (and_left (source M) (source N) s) d in
    rw x (plain→infer (and_right (source M) (source N) s) e)
plain→infer s (plain_lift {A = A} b d) =
    ap (λ o. given o λ C. if_bounded (! C)) (plain→infer s d) ∙ some_bounded (! A) b
plain→infer s (plain_force d) = ap (λ o. given o as_reusable) (plain→infer s d)
plain→infer s (plain_box {T = T} {U = U} t u d) =
    rw (plain→infer s d)
    (true_some (same T T && (is_wire_type T && is_wire_type U)) (Circ T U)
    (and_both (same T T) (is_wire_type T && is_wire_type U) (same_refl T) (and_both (is_wire_type T) (is_wire_type U) t u)))
plain→infer s (plain_apply {T = T} {U = U} {M = M} {N = N} d e) =
    let x = plain→infer (and_left (source M) (source N) s) d in
    let y = plain→infer (and_right (source M) (source N) s) e in
    rw (x, y) (true_some (same T T) U (same_refl T))

-- The typing rules by computation: a program file's term has a type by the rules exactly if the inference function gives
-- that type and the counts are right.
pub judgement_is_inference : (Q : LabelContext) (M : Term) (A : Ty)
    → Truth (source M)
    → ([] ∣ Q ⊢ M ∶ A) ↔ ((infer [] Q M ≡ some A) × Counted [] Q M A)
judgement_is_inference Q M A s = (λ d. (plain→infer s (closed→plain d), has→counted d), λ p. counted→has p.1)
