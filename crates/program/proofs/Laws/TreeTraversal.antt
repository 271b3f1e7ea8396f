-- Traversals over trees that stand in a file.
use Rattle.std.specs.Prelude.{ℕ, suc, ◌+◌, ◌≤◌, ◌<◌, ◌≡◌, refl, Bool, true, false, ◌&&◌, cond, List, ◌∷◌, T as Truth, eqb, ltb, Result, Err}
use Rattle.std.proofs.Common.{ap, ap₂, subst, ◌∙◌, true≢false, arith}
use Rattle.std.proofs.Math.Decide.{dec_lt, ℕ_discrete}
use Rattle.rules.specs.Kinds.{variable_kind, abstraction_kind, let_kind}
use Rattle.rules.specs.Types.{Ty, is_wire_type, entries}
use Rattle.rules.specs.Terms.{Term}
use Rattle.rules.specs.Sizes.{nodes}
use Rattle.program.specs.Format.{label_count, first_term, kind_at, argument_at, type_shape, term_shape}
use Rattle.program.specs.Traversal.{traverse_from, parts_at, parts_of, wire_parts}
use Rattle.rules.specs.Counting.{source}
use Rattle.rules.proofs.Laws.Booleans.{and_left, and_right, and_both, is_true}
use Rattle.rules.proofs.Laws.TypeCodes.{entries_positive}
use Rattle.program.specs.Trees.{TypeAt, bit_at, qubit_at, unit_at, tensor_at, function_at, reusable_at, circ_at, TermAt}
use Rattle.program.specs.Trees.{variable_term_at, label_at, abstraction_at, application_at, pair_at, let_at, lift_at}
use Rattle.program.specs.Trees.{force_at, box_term_at, apply_at, gate_term_at, unit_value_at, closed_under}
use Rattle.program.proofs.Laws.Kinds.{shape_of_type, shape_of_term}
use Rattle.program.specs.Traversal.{Subject}
use Rattle.program.specs.Traversal.{End, WireType, Scope}
use Rattle.program.specs.declared.traversal.Parts.{Parts}
use Rattle.program.specs.declared.traversal.Parts.TheVariants.{Leaf, One, Two, Stop}
use Rattle.program.specs.declared.traversal.Halt.{Halt}
use Rattle.program.specs.declared.traversal.Halt.TheVariants.{Stopped}

-- The entries from e to n − 1: the first of them, and those behind it.
pub range_leaf : (P : ℕ → Type 0) (e : ℕ) → P e → (i : ℕ) → e ≤ i → i < suc e → P i
range_leaf P e h i k l = let q : e ≡ i = omega arith in subst P q h

pub range_one : (P : ℕ → Type 0) (e n : ℕ)
    → P e → ((i : ℕ) → suc e ≤ i → i < n → P i)
    → (i : ℕ) → e ≤ i → i < n → P i
range_one P e n h rest i k l = go (ℕ_discrete e i)
  where
    go : Dec (e ≡ i) → P i
    go (yes q) = subst P q h
    go (no q) = rest i (omega arith) l

pub range_two : (P : ℕ → Type 0) (e m n : ℕ)
    → P e → ((i : ℕ) → suc e ≤ i → i < m → P i) → ((i : ℕ) → m ≤ i → i < n → P i)
    → (i : ℕ) → e ≤ i → i < n → P i
range_two P e m n h first second = range_one P e n h (λ i k l. go i k l (dec_lt i m))
  where
    go : (i : ℕ) → suc e ≤ i → i < n → Dec (i < m) → P i
    go i k l (yes q) = first i k q
    go i k l (no q) = second i (omega (arith, q)) l

-- How a traversal goes on behind an entry with these parts.
abbrev pub traverse_on : Subject → List ℕ → ℕ → ℕ → List ℕ → Parts → Result ℕ Halt
traverse_on s f left e waiting p =
    elim p [
      | Leaf ↦ traverse_from s f left (suc e) waiting
      | One x ↦ traverse_from s f left (suc e) (x ∷ waiting)
      | Two x y ↦ traverse_from s f left (suc e) (x ∷ y ∷ waiting)
      | Stop ↦ Err (Stopped e)
    ]

-- One entry of a traversal.
pub traverse_entry : (s : Subject) (f : List ℕ) (left e b : ℕ) (waiting : List ℕ) (p : Parts)
    → parts_at s f e b ≡ p
    → traverse_from s f (suc left) e (b ∷ waiting) ≡ traverse_on s f left e waiting p
traverse_entry s f left e b waiting p h = ap (traverse_on s f left e waiting) h

-- A type that stands in the entries e to n − 1 has n − e entries.
pub type_end : {f : List ℕ} {e n : ℕ} {A : Ty} → TypeAt f e A n → n ≡ e + entries A
type_end (bit_at k) = omega arith
type_end (qubit_at k) = omega arith
type_end (unit_at k) = omega arith
type_end (tensor_at k s t) = let a = type_end s in let b = type_end t in omega arith
type_end (function_at k s t) = let a = type_end s in let b = type_end t in omega arith
type_end (reusable_at k s) = let a = type_end s in omega arith
type_end (circ_at k s t) = let a = type_end s in let b = type_end t in omega arith

pub type_nonempty : {f : List ℕ} {e n : ℕ} {A : Ty} → TypeAt f e A n → e < n
type_nonempty {A} s = let p = type_end s in let q = entries_positive A in omega arith

-- A traversal passes over this many entries, from e to n − 1, if it waits there for a part under b binders.
abbrev pub Passes : Subject → List ℕ → ℕ → ℕ → ℕ → ℕ → Type 0
Passes s f e b size n =
    (left : ℕ) (waiting : List ℕ) → traverse_from s f (size + left) e (b ∷ waiting) ≡ traverse_from s f left n waiting

-- A traversal stops in these entries.
abbrev pub Stops : Subject → List ℕ → ℕ → ℕ → ℕ → Type 0
Stops s f e b size =
    (left : ℕ) (waiting : List ℕ) → (x : ℕ) × (traverse_from s f (size + left) e (b ∷ waiting) ≡ Err (Stopped x))

-- The same traversal with the number of entries left written in another way.
left_is : (s : Subject) (f : List ℕ) (e : ℕ) (waiting : List ℕ) (k l : ℕ)
    → k ≡ l
    → traverse_from s f k e waiting ≡ traverse_from s f l e waiting
left_is s f e waiting k l h = ap (λ i. traverse_from s f i e waiting) h

pass_leaf : (s : Subject) (f : List ℕ) (e b : ℕ) → parts_at s f e b ≡ Leaf → Passes s f e b 1 (suc e)
pass_leaf s f e b h left waiting =
    left_is s f e (b ∷ waiting) (1 + left) (suc left) (omega arith) ∙ traverse_entry s f left e b waiting Leaf h

pass_one : (s : Subject) (f : List ℕ) (e b x size n : ℕ)
    → parts_at s f e b ≡ One x → Passes s f (suc e) x size n
    → Passes s f e b (1 + size) n
pass_one s f e b x size n h p left waiting =
    left_is s f e (b ∷ waiting) (1 + size + left) (suc (size + left)) (omega arith)
    ∙ traverse_entry s f (size + left) e b waiting (One x) h
    ∙ p left waiting

pass_two : (s : Subject) (f : List ℕ) (e b x y size more m n : ℕ)
    → parts_at s f e b ≡ Two x y → Passes s f (suc e) x size m → Passes s f m y more n
    → Passes s f e b (1 + (size + more)) n
pass_two s f e b x y size more m n h p q left waiting =
    left_is s f e (b ∷ waiting) (1 + (size + more) + left) (suc (size + (more + left))) (omega arith)
    ∙ traverse_entry s f (size + (more + left)) e b waiting (Two x y) h
    ∙ p (more + left) (y ∷ waiting)
    ∙ q left waiting

stop_here : (s : Subject) (f : List ℕ) (e b size : ℕ) → parts_at s f e b ≡ Stop → Stops s f e b (1 + size)
stop_here s f e b size h left waiting = (
  e,
  left_is s f e (b ∷ waiting) (1 + size + left) (suc (size + left)) (omega arith)
      ∙ traverse_entry s f (size + left) e b waiting Stop h,
)

stop_leaf : (s : Subject) (f : List ℕ) (e b : ℕ) → parts_at s f e b ≡ Stop → Stops s f e b 1
stop_leaf s f e b h left waiting = (
  e,
  left_is s f e (b ∷ waiting) (1 + left) (suc left) (omega arith) ∙ traverse_entry s f left e b waiting Stop h,
)

stop_one_lem : (s : Subject) (f : List ℕ) (e b x size : ℕ)
    → parts_at s f e b ≡ One x → Stops s f (suc e) x size
    → Stops s f e b (1 + size)
stop_one_lem s f e b x size h p left waiting =
    let r = p left waiting in (
      r.0,
      left_is s f e (b ∷ waiting) (1 + size + left) (suc (size + left)) (omega arith)
          ∙ traverse_entry s f (size + left) e b waiting (One x) h
          ∙ r.1,
    )

stop_first : (s : Subject) (f : List ℕ) (e b x y size more : ℕ)
    → parts_at s f e b ≡ Two x y → Stops s f (suc e) x size
    → Stops s f e b (1 + (size + more))
stop_first s f e b x y size more h p left waiting =
    let r = p (more + left) (y ∷ waiting) in (
      r.0,
      left_is s f e (b ∷ waiting) (1 + (size + more) + left) (suc (size + (more + left))) (omega arith)
          ∙ traverse_entry s f (size + (more + left)) e b waiting (Two x y) h
          ∙ r.1,
    )

stop_second : (s : Subject) (f : List ℕ) (e b x y size more m : ℕ)
    → parts_at s f e b ≡ Two x y → Passes s f (suc e) x size m → Stops s f m y more
    → Stops s f e b (1 + (size + more))
stop_second s f e b x y size more m h p q left waiting =
    let r = q left waiting in (
      r.0,
      left_is s f e (b ∷ waiting) (1 + (size + more) + left) (suc (size + (more + left))) (omega arith)
          ∙ traverse_entry s f (size + (more + left)) e b waiting (Two x y) h
          ∙ p (more + left) (y ∷ waiting)
          ∙ r.1,
    )

-- The parts of an entry of the type section.
pub type_parts_lem : (f : List ℕ) (e b k : ℕ)
    → label_count f ≤ e → e < first_term f → kind_at f e ≡ k
    → parts_at End f e b ≡ parts_of (type_shape k) b
type_parts_lem f e b k h l q = ap (λ s. parts_of s b) (shape_of_type f e h l ∙ ap type_shape q)

-- A type that stands in the type section is passed over by the traversal to its end.
pub pass_type : {f : List ℕ} {e n : ℕ} {A : Ty}
    → TypeAt f e A n
    → (b : ℕ) → label_count f ≤ e → n ≤ first_term f
    → Passes End f e b (entries A) n
unfolding type_shape
pass_type {f} (bit_at {e = e} k) b h l = pass_leaf End f e b (type_parts_lem f e b 0 h l k)
pass_type {f} (qubit_at {e = e} k) b h l = pass_leaf End f e b (type_parts_lem f e b 1 h l k)
pass_type {f} (unit_at {e = e} k) b h l = pass_leaf End f e b (type_parts_lem f e b 6 h l k)
pass_type {f} (tensor_at {e = e} {m = m} {n = n} {A = A} {B = B} k s t) b h l =
    let p = type_end s in
    let q = type_end t in
    pass_two End f e b b b (entries A) (entries B) m n (type_parts_lem f e b 2 h (omega arith) k)
    (pass_type s b (omega arith) (omega arith))
    (pass_type t b (omega arith) l)
pass_type {f} (function_at {e = e} {m = m} {n = n} {A = A} {B = B} k s t) b h l =
    let p = type_end s in
    let q = type_end t in
    pass_two End f e b b b (entries A) (entries B) m n (type_parts_lem f e b 3 h (omega arith) k)
    (pass_type s b (omega arith) (omega arith))
    (pass_type t b (omega arith) l)
pass_type {f} (reusable_at {e = e} {n = n} {A = A} k s) b h l =
    let p = type_end s in
    pass_one End f e b b (entries A) n (type_parts_lem f e b 4 h (omega arith) k)
    (pass_type s b (omega arith) l)
pass_type {f} (circ_at {e = e} {m = m} {n = n} {A = A} {B = B} k s t) b h l =
    let p = type_end s in
    let q = type_end t in
    pass_two End f e b b b (entries A) (entries B) m n (type_parts_lem f e b 5 h (omega arith) k)
    (pass_type s b (omega arith) (omega arith))
    (pass_type t b (omega arith) l)

-- Of two tests that do not both hold, the first fails, or it holds and the second fails.
either_fails : {P : Type 0} (x y : Bool)
    → (x && y) ≡ false
    → (x ≡ false → P) → (Truth x → y ≡ false → P)
    → P
either_fails true y h first second = second tt h
either_fails false y h first second = first refl

-- A wire type is passed over by the traversal that looks for wire types only.
pub pass_wire : {f : List ℕ} {e n : ℕ} {A : Ty}
    → TypeAt f e A n
    → (b : ℕ) → Truth (is_wire_type A)
    → Passes WireType f e b (entries A) n
pass_wire {f} (bit_at {e = e} k) b w = pass_leaf WireType f e b (ap wire_parts k)
pass_wire {f} (qubit_at {e = e} k) b w = pass_leaf WireType f e b (ap wire_parts k)
pass_wire {f} (unit_at {e = e} k) b w = pass_leaf WireType f e b (ap wire_parts k)
pass_wire {f} (tensor_at {e = e} {m = m} {n = n} {A = A} {B = B} k s t) b w =
    pass_two WireType f e b 0 0 (entries A) (entries B) m n (ap wire_parts k)
    (pass_wire s 0 (and_left (is_wire_type A) (is_wire_type B) w))
    (pass_wire t 0 (and_right (is_wire_type A) (is_wire_type B) w))
pass_wire (function_at k s t) b w = absurd w
pass_wire (reusable_at k s) b w = absurd w
pass_wire (circ_at k s t) b w = absurd w

-- A type that is no wire type stops it.
pub stop_wire : {f : List ℕ} {e n : ℕ} {A : Ty}
    → TypeAt f e A n
    → (b : ℕ) → is_wire_type A ≡ false
    → Stops WireType f e b (entries A)
stop_wire (bit_at k) b w = absurd (true≢false w)
stop_wire (qubit_at k) b w = absurd (true≢false w)
stop_wire (unit_at k) b w = absurd (true≢false w)
stop_wire {f} (tensor_at {e = e} {m = m} {A = A} {B = B} k s t) b w =
    either_fails (is_wire_type A) (is_wire_type B) w
    (λ p. stop_first WireType f e b 0 0 (entries A) (entries B) (ap wire_parts k) (stop_wire s 0 p))
    (λ p q. stop_second WireType f e b 0 0 (entries A) (entries B) m (ap wire_parts k) (pass_wire s 0 p) (stop_wire t 0 q))
stop_wire {f} (function_at {e = e} {A = A} {B = B} k s t) b w =
    stop_here WireType f e b (entries A + entries B) (ap wire_parts k)
stop_wire {f} (reusable_at {e = e} {A = A} k s) b w = stop_here WireType f e b (entries A) (ap wire_parts k)
stop_wire {f} (circ_at {e = e} {A = A} {B = B} k s t) b w =
    stop_here WireType f e b (entries A + entries B) (ap wire_parts k)

-- A term that stands in the entries e to n − 1 has n − e nodes.
pub term_end : {f : List ℕ} {e n : ℕ} {M : Term} → TermAt f e M n → n ≡ e + nodes M
term_end (variable_term_at k a) = omega arith
term_end (label_at k a) = omega arith
term_end (abstraction_at k a s) = let p = term_end s in omega arith
term_end (application_at k a s t) = let p = term_end s in let q = term_end t in omega arith
term_end (pair_at k a s t) = let p = term_end s in let q = term_end t in omega arith
term_end (let_at k a s t) = let p = term_end s in let q = term_end t in omega arith
term_end (lift_at k a s) = let p = term_end s in omega arith
term_end (force_at k a s) = let p = term_end s in omega arith
term_end (box_term_at k a s) = let p = term_end s in omega arith
term_end (apply_at k a s t) = let p = term_end s in let q = term_end t in omega arith
term_end (gate_term_at k a) = omega arith
term_end (unit_value_at k a) = omega arith

-- A term that stands in a file has no circuit constant.
pub term_source : {f : List ℕ} {e n : ℕ} {M : Term} → TermAt f e M n → Truth (source M)
term_source (variable_term_at k a) = tt
term_source (label_at k a) = tt
term_source (abstraction_at k a s) = term_source s
term_source (application_at {M = M} {N = N} k a s t) = and_both (source M) (source N) (term_source s) (term_source t)
term_source (pair_at {M = M} {N = N} k a s t) = and_both (source M) (source N) (term_source s) (term_source t)
term_source (let_at {M = M} {N = N} k a s t) = and_both (source M) (source N) (term_source s) (term_source t)
term_source (lift_at k a s) = term_source s
term_source (force_at k a s) = term_source s
term_source (box_term_at k a s) = term_source s
term_source (apply_at {M = M} {N = N} k a s t) = and_both (source M) (source N) (term_source s) (term_source t)
term_source (gate_term_at k a) = tt
term_source (unit_value_at k a) = tt

-- The parts of an entry of the term section.
pub term_parts_lem : (f : List ℕ) (e b k : ℕ)
    → first_term f ≤ e → kind_at f e ≡ k
    → parts_at End f e b ≡ parts_of (term_shape k) b
term_parts_lem f e b k h q = ap (λ s. parts_of s b) (shape_of_term f e h ∙ ap term_shape q)

-- A term that stands in the term section is passed over by the traversal to its end.
pub pass_term : {f : List ℕ} {e n : ℕ} {M : Term}
    → TermAt f e M n
    → (b : ℕ) → first_term f ≤ e
    → Passes End f e b (nodes M) n
unfolding term_shape
pass_term {f} (variable_term_at {e = e} k a) b h = pass_leaf End f e b (term_parts_lem f e b 16 h k)
pass_term {f} (label_at {e = e} k a) b h = pass_leaf End f e b (term_parts_lem f e b 17 h k)
pass_term {f} (abstraction_at {e = e} {n = n} {M = M} k a s) b h =
    pass_one End f e b b (nodes M) n (term_parts_lem f e b 18 h k) (pass_term s b (omega arith))
pass_term {f} (application_at {e = e} {m = m} {n = n} {M = M} {N = N} k a s t) b h =
    let p = term_end s in
    pass_two End f e b b b (nodes M) (nodes N) m n (term_parts_lem f e b 19 h k)
    (pass_term s b (omega arith))
    (pass_term t b (omega arith))
pass_term {f} (pair_at {e = e} {m = m} {n = n} {M = M} {N = N} k a s t) b h =
    let p = term_end s in
    pass_two End f e b b b (nodes M) (nodes N) m n (term_parts_lem f e b 20 h k)
    (pass_term s b (omega arith))
    (pass_term t b (omega arith))
pass_term {f} (let_at {e = e} {m = m} {n = n} {M = M} {N = N} k a s t) b h =
    let p = term_end s in
    pass_two End f e b b b (nodes M) (nodes N) m n (term_parts_lem f e b 21 h k)
    (pass_term s b (omega arith))
    (pass_term t b (omega arith))
pass_term {f} (lift_at {e = e} {n = n} {M = M} k a s) b h =
    pass_one End f e b b (nodes M) n (term_parts_lem f e b 22 h k) (pass_term s b (omega arith))
pass_term {f} (force_at {e = e} {n = n} {M = M} k a s) b h =
    pass_one End f e b b (nodes M) n (term_parts_lem f e b 23 h k) (pass_term s b (omega arith))
pass_term {f} (box_term_at {e = e} {n = n} {M = M} k a s) b h =
    pass_one End f e b b (nodes M) n (term_parts_lem f e b 24 h k) (pass_term s b (omega arith))
pass_term {f} (apply_at {e = e} {m = m} {n = n} {M = M} {N = N} k a s t) b h =
    let p = term_end s in
    pass_two End f e b b b (nodes M) (nodes N) m n (term_parts_lem f e b 25 h k)
    (pass_term s b (omega arith))
    (pass_term t b (omega arith))
pass_term {f} (gate_term_at {e = e} k a) b h = pass_leaf End f e b (term_parts_lem f e b 26 h k)
pass_term {f} (unit_value_at {e = e} k a) b h = pass_leaf End f e b (term_parts_lem f e b 27 h k)

-- The parts of an entry of kind k with argument a in the traversal over binders.
abbrev scope_parts_of : ℕ → ℕ → ℕ → Parts
scope_parts_of k a b =
    cond (eqb k variable_kind) (cond (ltb a b) Leaf Stop)
    (cond (eqb k abstraction_kind) (One (b + 1)) (cond (eqb k let_kind) (Two b (b + 2)) (parts_of (term_shape k) b)))

scope_parts_lem : (f : List ℕ) (e b k : ℕ)
    → first_term f ≤ e → kind_at f e ≡ k
    → parts_at Scope f e b ≡ scope_parts_of k (argument_at f e) b
scope_parts_lem f e b k h q =
    ap₂
    (λ i s.
    cond (eqb i variable_kind) (cond (ltb (argument_at f e) b) Leaf Stop)
    (cond (eqb i abstraction_kind) (One (b + 1)) (cond (eqb i let_kind) (Two b (b + 2)) (parts_of s b))))
    q
    (shape_of_term f e h ∙ ap term_shape q)

-- The parts of a variable, if it has its binder and if it has not.
variable_parts : (f : List ℕ) (e b x : ℕ) (t : Bool)
    → first_term f ≤ e → kind_at f e ≡ variable_kind → argument_at f e ≡ x → ltb x b ≡ t
    → parts_at Scope f e b ≡ cond t Leaf Stop
variable_parts f e b x t h k a q =
    scope_parts_lem f e b 16 h k ∙ ap (λ i. cond (ltb i b) Leaf Stop) a ∙ ap (λ u. cond u Leaf Stop) q

-- A term whose variables have their binders is passed over by the traversal over binders.
pub pass_scope : {f : List ℕ} {e n : ℕ} {M : Term}
    → TermAt f e M n
    → (b : ℕ) → first_term f ≤ e → Truth (closed_under b M)
    → Passes Scope f e b (nodes M) n
unfolding term_shape
pass_scope {f} (variable_term_at {e = e} {x = x} k a) b h c =
    pass_leaf Scope f e b (variable_parts f e b x true h k a (is_true (ltb x b) c))
pass_scope {f} (label_at {e = e} k a) b h c = pass_leaf Scope f e b (scope_parts_lem f e b 17 h k)
pass_scope {f} (abstraction_at {e = e} {n = n} {M = M} k a s) b h c =
    pass_one Scope f e b (b + 1) (nodes M) n (scope_parts_lem f e b 18 h k) (pass_scope s (b + 1) (omega arith) c)
pass_scope {f} (application_at {e = e} {m = m} {n = n} {M = M} {N = N} k a s t) b h c =
    let p = term_end s in
    pass_two Scope f e b b b (nodes M) (nodes N) m n (scope_parts_lem f e b 19 h k)
    (pass_scope s b (omega arith) (and_left (closed_under b M) (closed_under b N) c))
    (pass_scope t b (omega arith) (and_right (closed_under b M) (closed_under b N) c))
pass_scope {f} (pair_at {e = e} {m = m} {n = n} {M = M} {N = N} k a s t) b h c =
    let p = term_end s in
    pass_two Scope f e b b b (nodes M) (nodes N) m n (scope_parts_lem f e b 20 h k)
    (pass_scope s b (omega arith) (and_left (closed_under b M) (closed_under b N) c))
    (pass_scope t b (omega arith) (and_right (closed_under b M) (closed_under b N) c))
pass_scope {f} (let_at {e = e} {m = m} {n = n} {M = M} {N = N} k a s t) b h c =
    let p = term_end s in
    pass_two Scope f e b b (b + 2) (nodes M) (nodes N) m n (scope_parts_lem f e b 21 h k)
    (pass_scope s b (omega arith) (and_left (closed_under b M) (closed_under (b + 2) N) c))
    (pass_scope t (b + 2) (omega arith) (and_right (closed_under b M) (closed_under (b + 2) N) c))
pass_scope {f} (lift_at {e = e} {n = n} {M = M} k a s) b h c =
    pass_one Scope f e b b (nodes M) n (scope_parts_lem f e b 22 h k) (pass_scope s b (omega arith) c)
pass_scope {f} (force_at {e = e} {n = n} {M = M} k a s) b h c =
    pass_one Scope f e b b (nodes M) n (scope_parts_lem f e b 23 h k) (pass_scope s b (omega arith) c)
pass_scope {f} (box_term_at {e = e} {n = n} {M = M} k a s) b h c =
    pass_one Scope f e b b (nodes M) n (scope_parts_lem f e b 24 h k) (pass_scope s b (omega arith) c)
pass_scope {f} (apply_at {e = e} {m = m} {n = n} {M = M} {N = N} k a s t) b h c =
    let p = term_end s in
    pass_two Scope f e b b b (nodes M) (nodes N) m n (scope_parts_lem f e b 25 h k)
    (pass_scope s b (omega arith) (and_left (closed_under b M) (closed_under b N) c))
    (pass_scope t b (omega arith) (and_right (closed_under b M) (closed_under b N) c))
pass_scope {f} (gate_term_at {e = e} k a) b h c = pass_leaf Scope f e b (scope_parts_lem f e b 26 h k)
pass_scope {f} (unit_value_at {e = e} k a) b h c = pass_leaf Scope f e b (scope_parts_lem f e b 27 h k)

-- Two parts of which one stops the traversal over binders.
stop_scope_two : {f : List ℕ} {e m : ℕ} {M : Term} (N : Term) (b x y : ℕ)
    → TermAt f (suc e) M m → first_term f ≤ e
    → parts_at Scope f e b ≡ Two x y
    → (closed_under x M && closed_under y N) ≡ false
    → (closed_under x M ≡ false → Stops Scope f (suc e) x (nodes M))
    → (closed_under y N ≡ false → Stops Scope f m y (nodes N))
    → Stops Scope f e b (1 + (nodes M + nodes N))
stop_scope_two {f} {e} {m} {M} N b x y s h q c first second =
    either_fails (closed_under x M) (closed_under y N) c
    (λ u. stop_first Scope f e b x y (nodes M) (nodes N) q (first u))
    (λ u v. stop_second Scope f e b x y (nodes M) (nodes N) m q (pass_scope s x (omega arith) u) (second v))

-- A variable with no binder stops it.
pub stop_scope : {f : List ℕ} {e n : ℕ} {M : Term}
    → TermAt f e M n
    → (b : ℕ) → first_term f ≤ e → closed_under b M ≡ false
    → Stops Scope f e b (nodes M)
unfolding term_shape
stop_scope {f} (variable_term_at {e = e} {x = x} k a) b h c =
    stop_leaf Scope f e b (variable_parts f e b x false h k a c)
stop_scope (label_at k a) b h c = absurd (true≢false c)
stop_scope {f} (abstraction_at {e = e} {M = M} k a s) b h c =
    stop_one_lem Scope f e b (b + 1) (nodes M) (scope_parts_lem f e b 18 h k) (stop_scope s (b + 1) (omega arith) c)
stop_scope {f} (application_at {e = e} {m = m} {M = M} {N = N} k a s t) b h c =
    let p = term_end s in
    stop_scope_two N b b b s h (scope_parts_lem f e b 19 h k) c
    (λ u. stop_scope s b (omega arith) u)
    (λ u. stop_scope t b (omega arith) u)
stop_scope {f} (pair_at {e = e} {m = m} {M = M} {N = N} k a s t) b h c =
    let p = term_end s in
    stop_scope_two N b b b s h (scope_parts_lem f e b 20 h k) c
    (λ u. stop_scope s b (omega arith) u)
    (λ u. stop_scope t b (omega arith) u)
stop_scope {f} (let_at {e = e} {m = m} {M = M} {N = N} k a s t) b h c =
    let p = term_end s in
    stop_scope_two N b b (b + 2) s h (scope_parts_lem f e b 21 h k) c
    (λ u. stop_scope s b (omega arith) u)
    (λ u. stop_scope t (b + 2) (omega arith) u)
stop_scope {f} (lift_at {e = e} {M = M} k a s) b h c =
    stop_one_lem Scope f e b b (nodes M) (scope_parts_lem f e b 22 h k) (stop_scope s b (omega arith) c)
stop_scope {f} (force_at {e = e} {M = M} k a s) b h c =
    stop_one_lem Scope f e b b (nodes M) (scope_parts_lem f e b 23 h k) (stop_scope s b (omega arith) c)
stop_scope {f} (box_term_at {e = e} {M = M} k a s) b h c =
    stop_one_lem Scope f e b b (nodes M) (scope_parts_lem f e b 24 h k) (stop_scope s b (omega arith) c)
stop_scope {f} (apply_at {e = e} {m = m} {M = M} {N = N} k a s t) b h c =
    let p = term_end s in
    stop_scope_two N b b b s h (scope_parts_lem f e b 25 h k) c
    (λ u. stop_scope s b (omega arith) u)
    (λ u. stop_scope t b (omega arith) u)
stop_scope (gate_term_at k a) b h c = absurd (true≢false c)
stop_scope (unit_value_at k a) b h c = absurd (true≢false c)
