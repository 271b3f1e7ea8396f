-- The test for wire types (01, refusal 7), said of the types that stand in the file.
use Rattle.std.specs.Prelude.{ℕ, suc, ◌+◌, ◌-◌, ◌≤◌, ◌<◌, ◌≡◌, refl, Bool, true, false, ◌&&◌, not, is_ok, is_err, Result, Ok, Err, List, [], ◌∷◌, eqb}
use Rattle.std.proofs.Common.{sym, ap, ◌∙◌, arith, lt-ltb, le-ltb}
use Rattle.rules.specs.Kinds.{circuit_kind, box_kind}
use Rattle.rules.specs.Types.{Ty, is_wire_type, entries}
use Rattle.program.specs.Format.{label_count, type_count, first_term, kind_at, argument_at}
use Rattle.program.specs.Traversal.{traverse_from}
use Rattle.program.specs.Reading.{circ_wrong, box_wrong, wires_wrong}
use Rattle.program.specs.Trees.{TypeAt, TypeAtPosition, at_position}
use Rattle.program.proofs.Laws.Kinds.{of_true}
use Rattle.program.proofs.Laws.TreeTraversal.{type_end, pass_wire, stop_wire}
use Rattle.program.specs.Traversal.{WireType}
use Rattle.program.proofs.Laws.Traversal.{traverse_none}

-- The traversal for wire types comes through a type exactly if it is a wire type.
wire_traverse : {f : List ℕ} {e n : ℕ} {A : Ty}
    → TypeAt f e A n
    → (b left : ℕ) (waiting : List ℕ)
    → is_ok (traverse_from WireType f (entries A + left) e (b ∷ waiting))
    ≡ (is_wire_type A && is_ok (traverse_from WireType f left n waiting))
wire_traverse {f} {e} {n} {A} s b left waiting = go (is_wire_type A) refl
  where
    go : (w : Bool)
        → is_wire_type A ≡ w
        → is_ok (traverse_from WireType f (entries A + left) e (b ∷ waiting))
        ≡ (is_wire_type A && is_ok (traverse_from WireType f left n waiting))
    go true q =
        ap is_ok (pass_wire s b (of_true (is_wire_type A) q) left waiting)
        ∙ ap (λ w. w && is_ok (traverse_from WireType f left n waiting)) (sym q)
    go false q =
        ap is_ok (stop_wire s b q left waiting).1
        ∙ ap (λ w. w && is_ok (traverse_from WireType f left n waiting)) (sym q)

err_is_not_ok : {A E : Type 0} (r : Result A E) → is_err r ≡ not (is_ok r)
err_is_not_ok (Ok x) = refl
err_is_not_ok (Err x) = refl

and_true : (b : Bool) → (b && true) ≡ b
and_true true = refl
and_true false = refl

one_wired : {f : List ℕ} {e n : ℕ} {A : Ty}
    → TypeAt f e A n
    → (left : ℕ)
    → left ≡ entries A + (left - entries A)
    → is_ok (traverse_from WireType f left e (0 ∷ [])) ≡ is_wire_type A
one_wired {f} {e} {n} {A} s left h =
    ap (λ k. is_ok (traverse_from WireType f k e (0 ∷ []))) h
    ∙ wire_traverse s 0 (left - entries A) []
    ∙ ap (λ w. is_wire_type A && is_ok w) (traverse_none WireType f (left - entries A) n)
    ∙ and_true (is_wire_type A)

two_wired : {f : List ℕ} {e m n : ℕ} {A B : Ty}
    → TypeAt f e A m → TypeAt f m B n
    → (left rest : ℕ)
    → left ≡ entries A + (entries B + rest)
    → is_ok (traverse_from WireType f left e (0 ∷ 0 ∷ [])) ≡ (is_wire_type A && is_wire_type B)
two_wired {f} {e} {m} {n} {A} {B} s t left rest h =
    ap (λ k. is_ok (traverse_from WireType f k e (0 ∷ 0 ∷ []))) h
    ∙ wire_traverse s 0 (entries B + rest) (0 ∷ [])
    ∙ ap (λ w. is_wire_type A && w)
    (wire_traverse t 0 rest []
    ∙ ap (λ w. is_wire_type B && is_ok w) (traverse_none WireType f rest n)
    ∙ and_true (is_wire_type B))

-- The test at a Circ: its parts are wire types.
pub circ_test : {f : List ℕ} {e m n : ℕ} {A B : Ty}
    → TypeAt f (suc e) A m → TypeAt f m B n → n ≤ first_term f
    → circ_wrong f e ≡ not (is_wire_type A && is_wire_type B)
unfolding circ_wrong
circ_test {f} {e} {m} {n} {A} {B} s t h =
    let p = type_end s in
    let q = type_end t in
    err_is_not_ok (traverse_from WireType f (first_term f - (e + 1)) (e + 1) (0 ∷ 0 ∷ []))
    ∙ ap not
    (ap (λ i. is_ok (traverse_from WireType f (first_term f - i) i (0 ∷ 0 ∷ []))) (omega arith)
    ∙ two_wired s t (first_term f - suc e) (first_term f - n) (omega arith))

-- The test at a box: its type is a wire type.
pub box_test : {f : List ℕ} {T : Ty} (e : ℕ) → TypeAtPosition f (argument_at f e) T → box_wrong f e ≡ not (is_wire_type T)
unfolding box_wrong
box_test {f} {T} e (at_position s h) =
    let p = type_end s in
    err_is_not_ok (traverse_from WireType f (type_count f - argument_at f e) (label_count f + argument_at f e) (0 ∷ []))
    ∙ ap not (one_wired s (type_count f - argument_at f e) (omega arith))

-- Which of the two tests an entry has, by its section.
pub wires_of_label : (f : List ℕ) (e : ℕ) → e < label_count f → wires_wrong f e ≡ false
unfolding wires_wrong
wires_of_label f e h = rw (lt-ltb e (label_count f) h) refl

pub wires_of_type : (f : List ℕ) (e : ℕ)
    → label_count f ≤ e → e < first_term f
    → wires_wrong f e ≡ (eqb (kind_at f e) circuit_kind && circ_wrong f e)
unfolding wires_wrong
wires_of_type f e h k = rw (le-ltb e (label_count f) h, lt-ltb e (first_term f) k) refl

pub wires_of_term : (f : List ℕ) (e : ℕ)
    → first_term f ≤ e
    → wires_wrong f e ≡ (eqb (kind_at f e) box_kind && box_wrong f e)
unfolding wires_wrong
wires_of_term f e h =
    let k : label_count f ≤ e = omega arith in rw (le-ltb e (label_count f) k, le-ltb e (first_term f) h) refl
