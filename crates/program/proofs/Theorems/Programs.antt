-- What the program of an accepted file is known to be.
use Rattle.std.specs.Prelude.{ℕ, suc, ◌+◌, ◌≤◌, ◌<◌, ◌≡◌, refl, Bool, true, ◌&&◌, List, [], ◌∷◌, ◌++◌, T as Truth, eqb, leb}
use Rattle.std.proofs.Common.{ap, subst, arith, ltb→lt, le→leb, ne_eqb}
use Rattle.rules.specs.Types.{Wire, Ty, entries, most_entries}
use Rattle.rules.specs.Terms.{Term, variable, label, gate, constant, abstraction, application, pair, let_in, lift, force}
use Rattle.rules.specs.Terms.{unit_value, box, apply}
use Rattle.rules.specs.Circuits.{one_if}
use Rattle.rules.specs.Sizes.{nodes}
use Rattle.rules.specs.Inference.{uses, label_uses}
use Rattle.rules.proofs.Laws.Booleans.{and_left, and_right, and_both}
use Rattle.program.specs.Format.{term_count}
use Rattle.program.specs.Trees.{TypeAtPosition, at_position, formed, closed_under, labels_below, TermAt, variable_term_at}
use Rattle.program.specs.Trees.{label_at, abstraction_at, application_at, pair_at, let_at, lift_at, force_at, box_term_at}
use Rattle.program.specs.Trees.{apply_at, gate_term_at, unit_value_at, AcceptedFile}
use Rattle.program.specs.Encoding.{types_in}
use Rattle.program.proofs.Laws.Trees.{all_formed}
use Rattle.program.proofs.Laws.TreeTraversal.{type_end, type_nonempty, term_end}
use Rattle.program.proofs.Theorems.Unique.{position_unique}

-- A term has a node for each entry of the term section, so 2,048 at most.
pub accepted_nodes : {f : List ℕ} {labels : List Wire} {M : Term} → AcceptedFile f labels M → nodes M ≡ term_count f
accepted_nodes t = let h = term_end t.term_is_at in omega arith

-- Each type of a list has at most 512 entries (01: "No type of a node may exceed 512 entries").
abbrev pub all_bounded : List Ty → Bool
all_bounded [] = true
all_bounded (A ∷ As) = leb (entries A) most_entries && all_bounded As

-- What is known of the types that a term names.
abbrev pub GoodTypes : List Ty → Type 0
GoodTypes As = Truth (all_formed As) × Truth (all_bounded As)

good_first : (A : Ty) (As : List Ty) → Truth (formed A) → entries A ≤ most_entries → GoodTypes As → GoodTypes (A ∷ As)
good_first A As h k g = (
  and_both (formed A) (all_formed As) h g.0,
  and_both (leb (entries A) most_entries) (all_bounded As) (le→leb (entries A) most_entries k) g.1,
)

good_append : (As Bs : List Ty) → GoodTypes As → GoodTypes Bs → GoodTypes (As ++ Bs)
good_append [] Bs g h = h
good_append (A ∷ As) Bs g h =
    let r =
    good_append As Bs
    (and_right (formed A) (all_formed As) g.0, and_right (leb (entries A) most_entries) (all_bounded As) g.1) h in (
      and_both (formed A) (all_formed (As ++ Bs)) (and_left (formed A) (all_formed As) g.0) r.0,
      and_both (leb (entries A) most_entries) (all_bounded (As ++ Bs))
          (and_left (leb (entries A) most_entries) (all_bounded As) g.1) r.1,
    )

-- A type at a position of an accepted file: its Circs are of wire types, and it has at most as many entries as the section.
position_good : (f : List ℕ) (labels : List Wire) (M : Term) (p : ℕ) (A : Ty)
    → AcceptedFile f labels M → TypeAtPosition f p A
    → Truth (formed A) × (entries A ≤ most_entries)
position_good f labels M p A t (at_position s h) =
    let a = type_end s in
    let b = type_nonempty s in
    let c = t.types_fit in
    let r = t.type_at p (omega arith) in
    (subst (λ B. Truth (formed B)) (position_unique r.1 (at_position s h)) r.2, omega arith)

types_good : {f : List ℕ} {e n : ℕ} {N : Term}
    → ((p : ℕ) (A : Ty) → TypeAtPosition f p A → Truth (formed A) × (entries A ≤ most_entries))
    → TermAt f e N n
    → GoodTypes (types_in N)
types_good g (variable_term_at k a) = (tt, tt)
types_good g (label_at k a) = (tt, tt)
types_good g (abstraction_at {A = A} {M = M} k a s) =
    let r = g _ A a in good_first A (types_in M) r.0 r.1 (types_good g s)
types_good g (application_at {M = M} {N = N} k a s t) =
    good_append (types_in M) (types_in N) (types_good g s) (types_good g t)
types_good g (pair_at {M = M} {N = N} k a s t) =
    good_append (types_in M) (types_in N) (types_good g s) (types_good g t)
types_good g (let_at {M = M} {N = N} k a s t) =
    good_append (types_in M) (types_in N) (types_good g s) (types_good g t)
types_good g (lift_at k a s) = types_good g s
types_good g (force_at k a s) = types_good g s
types_good g (box_term_at {T = T} {M = M} k a s) =
    let r = g _ T a in good_first T (types_in M) r.0 r.1 (types_good g s)
types_good g (apply_at {M = M} {N = N} k a s t) =
    good_append (types_in M) (types_in N) (types_good g s) (types_good g t)
types_good g (gate_term_at k a) = (tt, tt)
types_good g (unit_value_at k a) = (tt, tt)

-- The types of a program's abstractions and boxes: their Circs are of wire types, and they have at most 512 entries.
pub accepted_types : {f : List ℕ} {labels : List Wire} {M : Term} → AcceptedFile f labels M → GoodTypes (types_in M)
accepted_types {f} {labels} {M} t = types_good (λ p A. position_good f labels M p A t) t.term_is_at

not_used : (n m l : ℕ) → m < l → l ≤ n → one_if (eqb n m) ≡ 0
not_used n m l h k = ap one_if (ne_eqb n m (λ q. omega arith))

none_of_two : (m n : ℕ) → m ≡ 0 → n ≡ 0 → m + n ≡ 0
none_of_two m n h k = omega arith

-- A label that is none of the file's is not used.
pub labels_unused : (M : Term) (l : ℕ) → Truth (labels_below l M) → (ℓ : ℕ) → l ≤ ℓ → label_uses ℓ M ≡ 0
labels_unused (variable x) l h ℓ k = refl
labels_unused (label x) l h ℓ k = not_used ℓ x l (ltb→lt x l h) k
labels_unused (gate x) l h ℓ k = refl
labels_unused unit_value l h ℓ k = refl
labels_unused (constant c) l h ℓ k = refl
labels_unused (abstraction A M) l h ℓ k = labels_unused M l h ℓ k
labels_unused (application M N) l h ℓ k =
    none_of_two (label_uses ℓ M) (label_uses ℓ N)
    (labels_unused M l (and_left (labels_below l M) (labels_below l N) h) ℓ k)
    (labels_unused N l (and_right (labels_below l M) (labels_below l N) h) ℓ k)
labels_unused (pair M N) l h ℓ k =
    none_of_two (label_uses ℓ M) (label_uses ℓ N)
    (labels_unused M l (and_left (labels_below l M) (labels_below l N) h) ℓ k)
    (labels_unused N l (and_right (labels_below l M) (labels_below l N) h) ℓ k)
labels_unused (let_in M N) l h ℓ k =
    none_of_two (label_uses ℓ M) (label_uses ℓ N)
    (labels_unused M l (and_left (labels_below l M) (labels_below l N) h) ℓ k)
    (labels_unused N l (and_right (labels_below l M) (labels_below l N) h) ℓ k)
labels_unused (lift M) l h ℓ k = labels_unused M l h ℓ k
labels_unused (force M) l h ℓ k = labels_unused M l h ℓ k
labels_unused (box T M) l h ℓ k = labels_unused M l h ℓ k
labels_unused (apply M N) l h ℓ k =
    none_of_two (label_uses ℓ M) (label_uses ℓ N)
    (labels_unused M l (and_left (labels_below l M) (labels_below l N) h) ℓ k)
    (labels_unused N l (and_right (labels_below l M) (labels_below l N) h) ℓ k)

-- A variable from outside is not used in a term whose variables all have their binder.
pub variables_unused : (M : Term) (b : ℕ) → Truth (closed_under b M) → (n : ℕ) → b ≤ n → uses n M ≡ 0
variables_unused (variable x) b h n k = not_used n x b (ltb→lt x b h) k
variables_unused (label x) b h n k = refl
variables_unused (gate x) b h n k = refl
variables_unused unit_value b h n k = refl
variables_unused (constant c) b h n k = refl
variables_unused (abstraction A M) b h n k = variables_unused M (b + 1) h (suc n) (omega arith)
variables_unused (application M N) b h n k =
    none_of_two (uses n M) (uses n N)
    (variables_unused M b (and_left (closed_under b M) (closed_under b N) h) n k)
    (variables_unused N b (and_right (closed_under b M) (closed_under b N) h) n k)
variables_unused (pair M N) b h n k =
    none_of_two (uses n M) (uses n N)
    (variables_unused M b (and_left (closed_under b M) (closed_under b N) h) n k)
    (variables_unused N b (and_right (closed_under b M) (closed_under b N) h) n k)
variables_unused (let_in M N) b h n k =
    none_of_two (uses n M) (uses (suc (suc n)) N)
    (variables_unused M b (and_left (closed_under b M) (closed_under (b + 2) N) h) n k)
    (variables_unused N (b + 2) (and_right (closed_under b M) (closed_under (b + 2) N) h) (suc (suc n)) (omega arith))
variables_unused (lift M) b h n k = variables_unused M b h n k
variables_unused (force M) b h n k = variables_unused M b h n k
variables_unused (box T M) b h n k = variables_unused M b h n k
variables_unused (apply M N) b h n k =
    none_of_two (uses n M) (uses n N)
    (variables_unused M b (and_left (closed_under b M) (closed_under b N) h) n k)
    (variables_unused N b (and_right (closed_under b M) (closed_under b N) h) n k)
