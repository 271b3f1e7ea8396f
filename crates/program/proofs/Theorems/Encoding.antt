-- The file that is written for a program is accepted, and its trees are the program.
use Rattle.std.specs.Prelude.{ℕ, zero, suc, ◌+◌, ◌*◌, ◌/◌, ◌%◌, ◌≤◌, ◌<◌, ◌≡◌, refl, List, [], ◌∷◌, ◌++◌, map, T as Truth, length, get_or, replicate}
use Rattle.std.proofs.Common.{sym, ap, ap₂, subst, ◌∙◌, append_assoc, arith, length-append}
use Rattle.std.proofs.Math.Option.{some}
use Rattle.std.proofs.Math.Decide.{dec_lt}
use Rattle.std.proofs.lemmas.List.{length-map, length-replicate}
use Rattle.std.proofs.Math.ListN.{get_or-append}
use Rattle.rules.specs.Types.{Wire, Bit, Qubit, Ty, wire, unit, ◌⊗◌, ◌⊸◌, !◌, Circ, is_wire_type, entries, wire_code, type_codes}
use Rattle.rules.specs.Gates.{nth}
use Rattle.rules.specs.Terms.{Term, variable, label, gate, constant, abstraction, application, pair, let_in, lift, force}
use Rattle.rules.specs.Terms.{unit_value, box, apply}
use Rattle.rules.specs.Sizes.{nodes}
use Rattle.rules.specs.Counting.{source}
use Rattle.rules.proofs.Laws.Booleans.{and_left, and_right, and_both}
use Rattle.rules.proofs.Laws.TypeCodes.{type_codes_entries}
use Rattle.program.specs.Reading.{accepted}
use Rattle.program.specs.Format.{label_count, type_count, term_count, first_term, entry_count, kind_at, argument_at}
use Rattle.words.specs.Numbers.{word_at}
use Rattle.program.specs.Reading.{read_of}
use Rattle.program.specs.Trees.{TypeAt, bit_at, qubit_at, unit_at, tensor_at, function_at, reusable_at, circ_at}
use Rattle.program.specs.Trees.{TypeAtPosition}
use Rattle.program.specs.Trees.{at_position, formed, labels_below, TermAt, variable_term_at, label_at, abstraction_at}
use Rattle.program.specs.Trees.{application_at, pair_at, let_at, lift_at, force_at, box_term_at, apply_at, gate_term_at}
use Rattle.program.specs.Trees.{unit_value_at, AcceptedFile}
use Rattle.program.specs.Encoding.{types_in, entries_of, codes_of, term_kinds, term_arguments, words, program_kinds}
use Rattle.program.specs.Encoding.{program_arguments, encode}
use Rattle.program.proofs.Laws.Trees.{all_formed, Writable}
use Rattle.program.proofs.Laws.TreeTraversal.{range_leaf, range_one, range_two, type_end}
use Rattle.program.proofs.Laws.Sections.{some_is}
use Rattle.program.proofs.Theorems.Accepting.{read_complete}
use Rattle.program.proofs.Theorems.Unique.{tree_unique}

-- The numbers of a list stand one behind the other from entry e on.
abbrev Stand : (ℕ → ℕ) → ℕ → List ℕ → Type 0
Stand g e [] = Unit {0}
Stand g e (x ∷ xs) = (g e ≡ x) × Stand g (suc e) xs

stand_first : (g : ℕ → ℕ) (e : ℕ) (xs ys : List ℕ) → Stand g e (xs ++ ys) → Stand g e xs
stand_first g e [] ys h = tt
stand_first g e (x ∷ xs) ys h = (h.0, stand_first g (suc e) xs ys h.1)

stand_second : (g : ℕ → ℕ) (e n : ℕ) (xs ys : List ℕ) → n ≡ e + length xs → Stand g e (xs ++ ys) → Stand g n ys
stand_second g e n [] ys q h = let r : e ≡ n = omega arith in subst (λ i. Stand g i ys) r h
stand_second g e n (x ∷ xs) ys q h = stand_second g (suc e) n xs ys (omega arith) h.1

-- They stand there if each of them does.
stand_of : (g : ℕ → ℕ) (e : ℕ) (xs : List ℕ) → ((i : ℕ) → i < length xs → g (e + i) ≡ get_or xs i 0) → Stand g e xs
stand_of g e [] h = tt
stand_of g e (x ∷ xs) h =
    let q : e ≡ e + 0 = omega arith in (
      ap g q ∙ h 0 (omega arith),
      stand_of g (suc e) xs
          (λ i l. let r : suc e + i ≡ e + suc i = omega arith in ap g r ∙ h (suc i) (omega arith)),
    )

codes_of_count : (As : List Ty) → length (codes_of As) ≡ entries_of As
codes_of_count [] = refl
codes_of_count (A ∷ As) =
    let p = type_codes_entries A in
    let q = codes_of_count As in
    let r = length-append (type_codes A) (codes_of As) in
    omega arith

codes_append : (As Bs : List Ty) → codes_of (As ++ Bs) ≡ codes_of As ++ codes_of Bs
codes_append [] Bs = refl
codes_append (A ∷ As) Bs =
    ap (λ l. type_codes A ++ l) (codes_append As Bs) ∙ sym (append_assoc (type_codes A) (codes_of As) (codes_of Bs))

pub entries_append : (As Bs : List Ty) → entries_of (As ++ Bs) ≡ entries_of As + entries_of Bs
entries_append [] Bs = omega arith
entries_append (A ∷ As) Bs = let p = entries_append As Bs in omega arith

wire_stands : (f : List ℕ) (e n : ℕ) (α : Wire) → kind_at f e ≡ wire_code α → n ≡ suc e → TypeAt f e (wire α) n
wire_stands f e n Bit k q = subst (λ i. TypeAt f e (wire Bit) i) (sym q) (bit_at k)
wire_stands f e n Qubit k q = subst (λ i. TypeAt f e (wire Qubit) i) (sym q) (qubit_at k)

-- A type stands where its codes stand.
type_stands : (f : List ℕ) (A : Ty) (e n : ℕ) → Stand (kind_at f) e (type_codes A) → n ≡ e + entries A → TypeAt f e A n
type_stands f (wire α) e n h q = wire_stands f e n α h.0 (omega arith)
type_stands f unit e n h q = let r : suc e ≡ n = omega arith in subst (λ i. TypeAt f e unit i) r (unit_at h.0)
type_stands f (A ⊗ B) e n h q =
    let p = type_codes_entries A in
    tensor_at h.0
    (type_stands f A (suc e) (suc e + entries A) (stand_first (kind_at f) (suc e) (type_codes A) (type_codes B) h.1) refl)
    (type_stands f B (suc e + entries A) n
    (stand_second (kind_at f) (suc e) (suc e + entries A) (type_codes A) (type_codes B) (omega arith) h.1) (omega arith))
type_stands f (A ⊸ B) e n h q =
    let p = type_codes_entries A in
    function_at h.0
    (type_stands f A (suc e) (suc e + entries A) (stand_first (kind_at f) (suc e) (type_codes A) (type_codes B) h.1) refl)
    (type_stands f B (suc e + entries A) n
    (stand_second (kind_at f) (suc e) (suc e + entries A) (type_codes A) (type_codes B) (omega arith) h.1) (omega arith))
type_stands f (! A) e n h q = reusable_at h.0 (type_stands f A (suc e) n h.1 (omega arith))
type_stands f (Circ A B) e n h q =
    let p = type_codes_entries A in
    circ_at h.0
    (type_stands f A (suc e) (suc e + entries A) (stand_first (kind_at f) (suc e) (type_codes A) (type_codes B) h.1) refl)
    (type_stands f B (suc e + entries A) n
    (stand_second (kind_at f) (suc e) (suc e + entries A) (type_codes A) (type_codes B) (omega arith) h.1) (omega arith))

-- A wire type has no Circ at all.
wire_formed : (A : Ty) → Truth (is_wire_type A) → Truth (formed A)
wire_formed (wire α) h = tt
wire_formed unit h = tt
wire_formed (A ⊗ B) h =
    and_both (formed A) (formed B) (wire_formed A (and_left (is_wire_type A) (is_wire_type B) h))
    (wire_formed B (and_right (is_wire_type A) (is_wire_type B) h))
wire_formed (A ⊸ B) h = absurd h
wire_formed (! A) h = absurd h
wire_formed (Circ A B) h = absurd h

-- At entry i stands a type that ends by n, and its Circs are of wire types.
abbrev TypedBy : List ℕ → ℕ → ℕ → Type 0
TypedBy f n i = (A : Ty) × (m : ℕ) × TypeAt f i A m × (m ≤ n) × Truth (formed A)

typed_later : (f : List ℕ) (m n i : ℕ) → m ≤ n → TypedBy f m i → TypedBy f n i
typed_later f m n i h t = let l = t.3 in (t.0, t.1, t.2, omega arith, t.4)

-- At each entry of a type stands one of its parts.
typed_inside : {f : List ℕ} {e n : ℕ} {A : Ty}
    → TypeAt f e A n → Truth (formed A)
    → (i : ℕ) → e ≤ i → i < n → TypedBy f n i
typed_inside {f} (bit_at {e = e} k) w =
    range_leaf (TypedBy f (suc e)) e (wire Bit, suc e, bit_at k, omega arith, tt)
typed_inside {f} (qubit_at {e = e} k) w =
    range_leaf (TypedBy f (suc e)) e (wire Qubit, suc e, qubit_at k, omega arith, tt)
typed_inside {f} (unit_at {e = e} k) w = range_leaf (TypedBy f (suc e)) e (unit, suc e, unit_at k, omega arith, tt)
typed_inside {f} (tensor_at {e = e} {m = m} {n = n} {A = A} {B = B} k s t) w =
    let q = type_end t in
    range_two (TypedBy f n) e m n (A ⊗ B, n, tensor_at k s t, omega arith, w)
    (λ i h l. typed_later f m n i (omega arith) (typed_inside s (and_left (formed A) (formed B) w) i h l))
    (typed_inside t (and_right (formed A) (formed B) w))
typed_inside {f} (function_at {e = e} {m = m} {n = n} {A = A} {B = B} k s t) w =
    let q = type_end t in
    range_two (TypedBy f n) e m n (A ⊸ B, n, function_at k s t, omega arith, w)
    (λ i h l. typed_later f m n i (omega arith) (typed_inside s (and_left (formed A) (formed B) w) i h l))
    (typed_inside t (and_right (formed A) (formed B) w))
typed_inside {f} (reusable_at {e = e} {n = n} {A = A} k s) w =
    range_one (TypedBy f n) e n (! A, n, reusable_at k s, omega arith, w) (typed_inside s w)
typed_inside {f} (circ_at {e = e} {m = m} {n = n} {A = A} {B = B} k s t) w =
    let q = type_end t in
    range_two (TypedBy f n) e m n (Circ A B, n, circ_at k s t, omega arith, w)
    (λ i h l.
    typed_later f m n i (omega arith)
    (typed_inside s (wire_formed A (and_left (is_wire_type A) (is_wire_type B) w)) i h l))
    (typed_inside t (wire_formed B (and_right (is_wire_type A) (is_wire_type B) w)))

-- At each entry of a list of types stands a type.
typed_row : (f : List ℕ) (As : List Ty) (e n : ℕ)
    → Stand (kind_at f) e (codes_of As) → n ≡ e + entries_of As → Truth (all_formed As)
    → (i : ℕ) → e ≤ i → i < n → TypedBy f n i
typed_row f [] e n h q w i k l = let z : ⊥ = omega arith in absurd z
typed_row f (A ∷ As) e n h q w i k l =
    let c = type_codes_entries A in
    let m = e + entries A in
    go m (type_stands f A e m (stand_first (kind_at f) e (type_codes A) (codes_of As) h) refl)
    (omega arith)
    (typed_row f As m n (stand_second (kind_at f) e m (type_codes A) (codes_of As) (omega arith) h) (omega arith)
    (and_right (formed A) (all_formed As) w) i)
    (dec_lt i m)
  where
    go : (m : ℕ) → TypeAt f e A m → m ≤ n → (m ≤ i → i < n → TypedBy f n i) → Dec (i < m) → TypedBy f n i
    go m s u rest (yes v) = typed_later f m n i u (typed_inside s (and_left (formed A) (all_formed As) w) i k v)
    go m s u rest (no v) = rest (omega (arith, v)) l

-- The first of a term's types, and those behind it, where the codes of all of them stand.
first_types : (f : List ℕ) (e : ℕ) (As Bs : List Ty)
    → Stand (kind_at f) e (codes_of (As ++ Bs))
    → Stand (kind_at f) e (codes_of As)
first_types f e As Bs h =
    stand_first (kind_at f) e (codes_of As) (codes_of Bs) (subst (Stand (kind_at f) e) (codes_append As Bs) h)

later_types : (f : List ℕ) (e n : ℕ) (As Bs : List Ty)
    → n ≡ e + entries_of As → Stand (kind_at f) e (codes_of (As ++ Bs))
    → Stand (kind_at f) n (codes_of Bs)
later_types f e n As Bs q h =
    let c = codes_of_count As in
    stand_second (kind_at f) e n (codes_of As) (codes_of Bs) (omega arith)
    (subst (Stand (kind_at f) e) (codes_append As Bs) h)

-- A type at a position, from its codes.
position_stands : (f : List ℕ) (A : Ty) (p : ℕ) (rest : List ℕ)
    → Stand (kind_at f) (label_count f + p) (type_codes A ++ rest)
    → label_count f + p + entries A ≤ first_term f
    → TypeAtPosition f p A
position_stands f A p rest h l =
    at_position
    (type_stands f A (label_count f + p) (label_count f + p + entries A)
    (stand_first (kind_at f) (label_count f + p) (type_codes A) rest h)
    refl)
    l

kinds_count : (M : Term) → Truth (source M) → length (term_kinds M) ≡ nodes M
kinds_count (variable x) h = refl
kinds_count (label ℓ) h = refl
kinds_count (gate x) h = refl
kinds_count unit_value h = refl
kinds_count (constant c) h = absurd h
kinds_count (abstraction A M) h = let p = kinds_count M h in omega arith
kinds_count (application M N) h =
    let p = kinds_count M (and_left (source M) (source N) h) in
    let q = kinds_count N (and_right (source M) (source N) h) in
    let r = length-append (term_kinds M) (term_kinds N) in
    omega arith
kinds_count (pair M N) h =
    let p = kinds_count M (and_left (source M) (source N) h) in
    let q = kinds_count N (and_right (source M) (source N) h) in
    let r = length-append (term_kinds M) (term_kinds N) in
    omega arith
kinds_count (let_in M N) h =
    let p = kinds_count M (and_left (source M) (source N) h) in
    let q = kinds_count N (and_right (source M) (source N) h) in
    let r = length-append (term_kinds M) (term_kinds N) in
    omega arith
kinds_count (lift M) h = let p = kinds_count M h in omega arith
kinds_count (force M) h = let p = kinds_count M h in omega arith
kinds_count (box T M) h = let p = kinds_count M h in omega arith
kinds_count (apply M N) h =
    let p = kinds_count M (and_left (source M) (source N) h) in
    let q = kinds_count N (and_right (source M) (source N) h) in
    let r = length-append (term_kinds M) (term_kinds N) in
    omega arith

-- A term has as many arguments as kinds.
arguments_two : (p q : ℕ) (M N : Term)
    → length (term_arguments p M) ≡ length (term_kinds M)
    → length (term_arguments q N) ≡ length (term_kinds N)
    → length (term_arguments p M ++ term_arguments q N) ≡ length (term_kinds M ++ term_kinds N)
arguments_two p q M N h k =
    let r = length-append (term_kinds M) (term_kinds N) in
    let s = length-append (term_arguments p M) (term_arguments q N) in
    omega arith

arguments_count : (M : Term) (p : ℕ) → length (term_arguments p M) ≡ length (term_kinds M)
arguments_count (variable x) p = refl
arguments_count (label ℓ) p = refl
arguments_count (gate x) p = refl
arguments_count unit_value p = refl
arguments_count (constant c) p = refl
arguments_count (abstraction A M) p = ap suc (arguments_count M (p + entries A))
arguments_count (application M N) p =
    ap suc (arguments_two p _ M N (arguments_count M p) (arguments_count N (p + entries_of (types_in M))))
arguments_count (pair M N) p =
    ap suc (arguments_two p _ M N (arguments_count M p) (arguments_count N (p + entries_of (types_in M))))
arguments_count (let_in M N) p =
    ap suc (arguments_two p _ M N (arguments_count M p) (arguments_count N (p + entries_of (types_in M))))
arguments_count (lift M) p = ap suc (arguments_count M p)
arguments_count (force M) p = ap suc (arguments_count M p)
arguments_count (box T M) p = ap suc (arguments_count M (p + entries T))
arguments_count (apply M N) p =
    ap suc (arguments_two p _ M N (arguments_count M p) (arguments_count N (p + entries_of (types_in M))))

-- These kinds and arguments stand from entry e on, and these types from position p on, inside the type section.
record Written (f : List ℕ) (e p : ℕ) (kinds arguments : List ℕ) (types : List Ty) : Type 0 where
  kinds_stand : Stand (kind_at f) e kinds
  arguments_stand : Stand (argument_at f) e arguments
  types_stand : Stand (kind_at f) (label_count f + p) (codes_of types)
  types_inside : label_count f + p + entries_of types ≤ first_term f

-- The first of two parts, and the second.
written_first : (f : List ℕ) (e p : ℕ) (K K' G G' : List ℕ) (As Bs : List Ty)
    → Written f e p (K ++ K') (G ++ G') (As ++ Bs)
    → Written f e p K G As
written_first f e p K K' G G' As Bs w =
    let h = entries_append As Bs in
    let l = w.types_inside in
    record {
      kinds_stand = stand_first (kind_at f) e K K' w.kinds_stand;
      arguments_stand = stand_first (argument_at f) e G G' w.arguments_stand;
      types_stand = first_types f (label_count f + p) As Bs w.types_stand;
      types_inside = omega arith;
    }

written_second : (f : List ℕ) (e p m q : ℕ) (K K' G G' : List ℕ) (As Bs : List Ty)
    → m ≡ e + length K → length G ≡ length K → q ≡ p + entries_of As
    → Written f e p (K ++ K') (G ++ G') (As ++ Bs)
    → Written f m q K' G' Bs
written_second f e p m q K K' G G' As Bs h k l w =
    let r = entries_append As Bs in
    let i = w.types_inside in
    record {
      kinds_stand = stand_second (kind_at f) e m K K' h w.kinds_stand;
      arguments_stand = stand_second (argument_at f) e m G G' (omega arith) w.arguments_stand;
      types_stand = later_types f (label_count f + p) (label_count f + q) As Bs (omega arith) w.types_stand;
      types_inside = omega arith;
    }

-- The parts behind an entry, if it names no type and if it names one.
written_behind : (f : List ℕ) (e p k a : ℕ) (K G : List ℕ) (As : List Ty)
    → Written f e p (k ∷ K) (a ∷ G) As
    → Written f (suc e) p K G As
written_behind f e p k a K G As w =
    record {
      kinds_stand = w.kinds_stand.1;
      arguments_stand = w.arguments_stand.1;
      types_stand = w.types_stand;
      types_inside = w.types_inside;
    }

written_type_behind : (f : List ℕ) (e p k a : ℕ) (K G : List ℕ) (A : Ty) (As : List Ty)
    → Written f e p (k ∷ K) (a ∷ G) (A ∷ As)
    → Written f (suc e) (p + entries A) K G As
written_type_behind f e p k a K G A As w =
    let c = type_codes_entries A in
    let i = w.types_inside in
    record {
      kinds_stand = w.kinds_stand.1;
      arguments_stand = w.arguments_stand.1;
      types_stand = stand_second (kind_at f) (label_count f + p) (label_count f + (p + entries A)) (type_codes A) (codes_of As)
          (omega arith)
          w.types_stand;
      types_inside = omega arith;
    }

-- The type that an entry names.
written_type : (f : List ℕ) (e p k : ℕ) (K G : List ℕ) (A : Ty) (As : List Ty)
    → Written f e p (k ∷ K) (p ∷ G) (A ∷ As)
    → TypeAtPosition f (argument_at f e) A
written_type f e p k K G A As w =
    let i = w.types_inside in
    subst (λ j. TypeAtPosition f j A) (sym w.arguments_stand.0)
    (position_stands f A p (codes_of As) w.types_stand (omega arith))

-- What is written for a term from entry e on, with its types from position p on.
abbrev WrittenTerm : List ℕ → ℕ → ℕ → Term → Type 0
WrittenTerm f e p M = Written f e p (term_kinds M) (term_arguments p M) (types_in M)

-- What is written for two parts behind an entry.
abbrev WrittenParts : List ℕ → ℕ → ℕ → ℕ → Term → Term → Type 0
WrittenParts f e p k M N =
    Written f e p (k ∷ term_kinds M ++ term_kinds N)
    (0 ∷ term_arguments p M ++ term_arguments (p + entries_of (types_in M)) N) (types_in M ++ types_in N)

part_first : (f : List ℕ) (e p k : ℕ) (M N : Term) → WrittenParts f e p k M N → WrittenTerm f (suc e) p M
part_first f e p k M N w =
    written_first f (suc e) p (term_kinds M) (term_kinds N) (term_arguments p M)
    (term_arguments (p + entries_of (types_in M)) N) (types_in M) (types_in N)
    (written_behind f e p k 0 (term_kinds M ++ term_kinds N)
    (term_arguments p M ++ term_arguments (p + entries_of (types_in M)) N) (types_in M ++ types_in N) w)

part_second : (f : List ℕ) (e p k m : ℕ) (M N : Term)
    → Truth (source M) → m ≡ suc e + nodes M → WrittenParts f e p k M N
    → WrittenTerm f m (p + entries_of (types_in M)) N
part_second f e p k m M N h q w =
    let c = kinds_count M h in
    written_second f (suc e) p m (p + entries_of (types_in M)) (term_kinds M) (term_kinds N) (term_arguments p M)
    (term_arguments (p + entries_of (types_in M)) N) (types_in M) (types_in N) (omega arith) (arguments_count M p) refl
    (written_behind f e p k 0 (term_kinds M ++ term_kinds N)
    (term_arguments p M ++ term_arguments (p + entries_of (types_in M)) N) (types_in M ++ types_in N) w)

-- A term stands where its kinds, its arguments and its types are written.
term_stands : (f : List ℕ) (M : Term) (e p n : ℕ)
    → Truth (source M) → n ≡ e + nodes M → WrittenTerm f e p M
    → TermAt f e M n
term_stands f (variable x) e p n h q w =
    let r : suc e ≡ n = omega arith in
    subst (λ i. TermAt f e (variable x) i) r (variable_term_at w.kinds_stand.0 w.arguments_stand.0)
term_stands f (label x) e p n h q w =
    let r : suc e ≡ n = omega arith in
    subst (λ i. TermAt f e (label x) i) r (label_at w.kinds_stand.0 w.arguments_stand.0)
term_stands f (gate x) e p n h q w =
    let r : suc e ≡ n = omega arith in
    subst (λ i. TermAt f e (gate x) i) r (gate_term_at w.kinds_stand.0 w.arguments_stand.0)
term_stands f unit_value e p n h q w =
    let r : suc e ≡ n = omega arith in
    subst (λ i. TermAt f e unit_value i) r (unit_value_at w.kinds_stand.0 w.arguments_stand.0)
term_stands f (constant c) e p n h q w = absurd h
term_stands f (abstraction A M) e p n h q w =
    abstraction_at w.kinds_stand.0
    (written_type f e p 18 (term_kinds M) (term_arguments (p + entries A) M) A (types_in M) w)
    (term_stands f M (suc e) (p + entries A) n h (omega arith)
    (written_type_behind f e p 18 p (term_kinds M) (term_arguments (p + entries A) M) A (types_in M) w))
term_stands f (application M N) e p n h q w =
    let s = and_left (source M) (source N) h in
    application_at w.kinds_stand.0 w.arguments_stand.0
    (term_stands f M (suc e) p (suc e + nodes M) s refl (part_first f e p 19 M N w))
    (term_stands f N (suc e + nodes M) (p + entries_of (types_in M)) n (and_right (source M) (source N) h) (omega arith)
    (part_second f e p 19 (suc e + nodes M) M N s refl w))
term_stands f (pair M N) e p n h q w =
    let s = and_left (source M) (source N) h in
    pair_at w.kinds_stand.0 w.arguments_stand.0
    (term_stands f M (suc e) p (suc e + nodes M) s refl (part_first f e p 20 M N w))
    (term_stands f N (suc e + nodes M) (p + entries_of (types_in M)) n (and_right (source M) (source N) h) (omega arith)
    (part_second f e p 20 (suc e + nodes M) M N s refl w))
term_stands f (let_in M N) e p n h q w =
    let s = and_left (source M) (source N) h in
    let_at w.kinds_stand.0 w.arguments_stand.0
    (term_stands f M (suc e) p (suc e + nodes M) s refl (part_first f e p 21 M N w))
    (term_stands f N (suc e + nodes M) (p + entries_of (types_in M)) n (and_right (source M) (source N) h) (omega arith)
    (part_second f e p 21 (suc e + nodes M) M N s refl w))
term_stands f (lift M) e p n h q w =
    lift_at w.kinds_stand.0 w.arguments_stand.0
    (term_stands f M (suc e) p n h (omega arith)
    (written_behind f e p 22 0 (term_kinds M) (term_arguments p M) (types_in M) w))
term_stands f (force M) e p n h q w =
    force_at w.kinds_stand.0 w.arguments_stand.0
    (term_stands f M (suc e) p n h (omega arith)
    (written_behind f e p 23 0 (term_kinds M) (term_arguments p M) (types_in M) w))
term_stands f (box T M) e p n h q w =
    box_term_at w.kinds_stand.0
    (written_type f e p 24 (term_kinds M) (term_arguments (p + entries T) M) T (types_in M) w)
    (term_stands f M (suc e) (p + entries T) n h (omega arith)
    (written_type_behind f e p 24 p (term_kinds M) (term_arguments (p + entries T) M) T (types_in M) w))
term_stands f (apply M N) e p n h q w =
    let s = and_left (source M) (source N) h in
    apply_at w.kinds_stand.0 w.arguments_stand.0
    (term_stands f M (suc e) p (suc e + nodes M) s refl (part_first f e p 25 M N w))
    (term_stands f N (suc e + nodes M) (p + entries_of (types_in M)) n (and_right (source M) (source N) h) (omega arith)
    (part_second f e p 25 (suc e + nodes M) M N s refl w))

-- A file with these sizes, kinds and arguments.
abbrev file_of : ℕ → ℕ → ℕ → List ℕ → List ℕ → List ℕ
file_of l p n K G = words (l ∷ p ∷ n ∷ []) ++ (K ++ words G)

-- A number from its two bytes.
word_is : (x : ℕ) → x % 256 + 256 * (x / 256) ≡ x
word_is x = omega arith

file_labels : (l p n : ℕ) (K G : List ℕ) → label_count (file_of l p n K G) ≡ l
unfolding word_at
file_labels l p n K G = word_is l

file_types : (l p n : ℕ) (K G : List ℕ) → type_count (file_of l p n K G) ≡ p
unfolding word_at
file_types l p n K G = word_is p

file_terms : (l p n : ℕ) (K G : List ℕ) → term_count (file_of l p n K G) ≡ n
unfolding word_at
file_terms l p n K G = word_is n

-- The byte at place 6 + i stands behind the sizes.
file_behind : (l p n i j : ℕ) (K G : List ℕ)
    → j ≡ 6 + i
    → get_or (file_of l p n K G) j 0 ≡ get_or (K ++ words G) i 0
file_behind l p n i j K G h =
    let q : j ≡ suc (suc (suc (suc (suc (suc i))))) = omega arith in ap (λ k. get_or (file_of l p n K G) k 0) q

file_kind : (l p n e : ℕ) (K G : List ℕ) → e < length K → kind_at (file_of l p n K G) e ≡ get_or K e 0
unfolding kind_at
file_kind l p n e K G h = file_behind l p n e (6 + e) K G refl ∙ get_or-append K (words G) 0 e h

-- The places behind a list.
append_behind : (xs ys : List ℕ) (i j : ℕ) → j ≡ length xs + i → get_or (xs ++ ys) j 0 ≡ get_or ys i 0
append_behind [] ys i j h = let q : j ≡ i = omega arith in ap (λ k. get_or ys k 0) q
append_behind (x ∷ xs) ys i zero h = let z : ⊥ = omega arith in absurd z
append_behind (x ∷ xs) ys i (suc j) h = append_behind xs ys i j (omega arith)

words_at_lem : (xs : List ℕ) (i j k : ℕ)
    → j ≡ 2 * i → k ≡ suc j
    → get_or (words xs) j 0 + 256 * get_or (words xs) k 0 ≡ get_or xs i 0
words_at_lem [] i j k h q = refl
words_at_lem (x ∷ xs) zero j k h q =
    let r : j ≡ 0 = omega arith in
    let s : k ≡ 1 = omega arith in
    ap₂ (λ a b. get_or (words (x ∷ xs)) a 0 + 256 * get_or (words (x ∷ xs)) b 0) r s ∙ word_is x
words_at_lem (x ∷ xs) (suc i) j k h q =
    let r : j ≡ suc (suc (2 * i)) = omega arith in
    let s : k ≡ suc (suc (suc (2 * i))) = omega arith in
    ap₂ (λ a b. get_or (words (x ∷ xs)) a 0 + 256 * get_or (words (x ∷ xs)) b 0) r s
    ∙ words_at_lem xs i (2 * i) (suc (2 * i)) refl refl

file_word : (l p n e i : ℕ) (K G : List ℕ)
    → i ≡ 6 + (length K + 2 * e)
    → word_at (file_of l p n K G) i ≡ get_or G e 0
unfolding word_at
file_word l p n e i K G h =
    let j = length K + 2 * e in
    let r : i + 1 ≡ 6 + (length K + suc (2 * e)) = omega arith in
    ap₂ (λ a b. a + 256 * b)
    (file_behind l p n j i K G h ∙ append_behind K (words G) (2 * e) j refl)
    (file_behind l p n (length K + suc (2 * e)) (i + 1) K G r
    ∙ append_behind K (words G) (suc (2 * e)) (length K + suc (2 * e)) refl)
    ∙ words_at_lem G e (2 * e) (suc (2 * e)) refl refl

file_argument : (l p n e : ℕ) (K G : List ℕ)
    → length K ≡ l + p + n
    → argument_at (file_of l p n K G) e ≡ get_or G e 0
unfolding argument_at
file_argument l p n e K G h =
    let a = file_labels l p n K G in
    let b = file_types l p n K G in
    let c = file_terms l p n K G in
    let f = file_of l p n K G in
    file_word l p n e (6 + entry_count f + 2 * e) K G (omega arith)

words_count : (xs : List ℕ) → length (words xs) ≡ 2 * length xs
words_count [] = refl
words_count (x ∷ xs) = let p = words_count xs in omega arith

file_length : (l p n : ℕ) (K G : List ℕ) → length (file_of l p n K G) ≡ 6 + (length K + 2 * length G)
file_length l p n K G = let q = length-append K (words G) in let r = words_count G in omega arith

-- How many kinds and arguments a program has.
program_kinds_count : (labels : List Wire) (M : Term)
    → Truth (source M)
    → length (program_kinds labels M) ≡ length labels + entries_of (types_in M) + nodes M
unfolding program_kinds
program_kinds_count labels M h =
    let a = length-append (map wire_code labels) (codes_of (types_in M) ++ term_kinds M) in
    let b = length-append (codes_of (types_in M)) (term_kinds M) in
    let c = length-map labels wire_code in
    let d = codes_of_count (types_in M) in
    let e = kinds_count M h in
    omega arith

program_arguments_count : (labels : List Wire) (M : Term)
    → Truth (source M)
    → length (program_arguments labels M) ≡ length labels + entries_of (types_in M) + nodes M
unfolding program_arguments
program_arguments_count labels M h =
    let k = length labels + entries_of (types_in M) in
    let a = length-append (replicate k 0) (term_arguments 0 M) in
    let b = length-replicate {A = ℕ} k 0 in
    let c = arguments_count M 0 in
    let d = kinds_count M h in
    omega arith

-- What the file for a program holds.
record Holds (f : List ℕ) (labels : List Wire) (M : Term) : Type 0 where
  labels_are : label_count f ≡ length labels
  types_are : type_count f ≡ entries_of (types_in M)
  terms_are : term_count f ≡ nodes M
  length_is : length f ≡ 6 + 3 * entry_count f
  kinds_are : Stand (kind_at f) 0 (program_kinds labels M)
  arguments_are : Stand (argument_at f) 0 (program_arguments labels M)

encode_holds : (labels : List Wire) (M : Term) → Truth (source M) → Holds (encode labels M) labels M
unfolding encode
encode_holds labels M h =
    let l = length labels in
    let p = entries_of (types_in M) in
    let K = program_kinds labels M in
    let G = program_arguments labels M in
    let f = file_of l p (nodes M) K G in
    let a = file_labels l p (nodes M) K G in
    let b = file_types l p (nodes M) K G in
    let c = file_terms l p (nodes M) K G in
    let d = file_length l p (nodes M) K G in
    let k = program_kinds_count labels M h in
    let g = program_arguments_count labels M h in
    record {
      labels_are = a;
      types_are = b;
      terms_are = c;
      length_is = omega arith;
      kinds_are = stand_of (kind_at f) 0 K
          (λ i j. let r : 0 + i ≡ i = omega arith in ap (kind_at f) r ∙ file_kind l p (nodes M) i K G j);
      arguments_are = stand_of (argument_at f) 0 G
          (λ i j. let r : 0 + i ≡ i = omega arith in ap (argument_at f) r ∙ file_argument l p (nodes M) i K G k);
    }

-- The labels stand at the front.
labels_stand : (g : ℕ → ℕ) (e : ℕ) (labels : List Wire)
    → Stand g e (map wire_code labels)
    → (i : ℕ) (α : Wire) → nth labels i ≡ some α
    → g (e + i) ≡ wire_code α
labels_stand g e [] h i α q = let z : ◌≡◌ {A = ℕ} 0 1 = cc in let y : ⊥ = omega arith in absurd y
labels_stand g e (β ∷ labels) h zero α q =
    let r : e + 0 ≡ e = omega arith in ap g r ∙ h.0 ∙ ap wire_code (some_is β α q)
labels_stand g e (β ∷ labels) h (suc i) α q =
    let r : e + suc i ≡ suc e + i = omega arith in ap g r ∙ labels_stand g (suc e) labels h.1 i α q

-- The zeros stand at the front.
zeros_stand : (g : ℕ → ℕ) (e n : ℕ) → Stand g e (replicate n 0) → (i : ℕ) → i < n → g (e + i) ≡ 0
zeros_stand g e zero h i l = let z : ⊥ = omega arith in absurd z
zeros_stand g e (suc n) h zero l = let r : e + 0 ≡ e = omega arith in ap g r ∙ h.0
zeros_stand g e (suc n) h (suc i) l =
    let r : e + suc i ≡ suc e + i = omega arith in ap g r ∙ zeros_stand g (suc e) n h.1 i (omega arith)

-- Where the three sections of the kinds stand, and the two of the arguments.
label_section : (f : List ℕ) (labels : List Wire) (M : Term)
    → Holds f labels M
    → Stand (kind_at f) 0 (map wire_code labels)
unfolding program_kinds
label_section f labels M h =
    stand_first (kind_at f) 0 (map wire_code labels) (codes_of (types_in M) ++ term_kinds M) h.kinds_are

behind_labels : (f : List ℕ) (labels : List Wire) (M : Term)
    → Holds f labels M
    → Stand (kind_at f) (label_count f) (codes_of (types_in M) ++ term_kinds M)
unfolding program_kinds
behind_labels f labels M h =
    let a = length-map labels wire_code in
    let b = h.labels_are in
    stand_second (kind_at f) 0 (label_count f) (map wire_code labels) (codes_of (types_in M) ++ term_kinds M) (omega arith)
    h.kinds_are

type_section : (f : List ℕ) (labels : List Wire) (M : Term)
    → Holds f labels M
    → Stand (kind_at f) (label_count f) (codes_of (types_in M))
type_section f labels M h =
    stand_first (kind_at f) (label_count f) (codes_of (types_in M)) (term_kinds M) (behind_labels f labels M h)

term_section : (f : List ℕ) (labels : List Wire) (M : Term) → Holds f labels M → WrittenTerm f (first_term f) 0 M
unfolding program_arguments
term_section f labels M h =
    let a = codes_of_count (types_in M) in
    let b = h.types_are in
    let c = h.labels_are in
    let k = length labels + entries_of (types_in M) in
    let d = length-replicate {A = ℕ} k 0 in
    let q : label_count f ≡ label_count f + 0 = omega arith in
    record {
      kinds_stand = stand_second (kind_at f) (label_count f) (first_term f) (codes_of (types_in M)) (term_kinds M) (omega arith)
          (behind_labels f labels M h);
      arguments_stand = stand_second (argument_at f) 0 (first_term f) (replicate k 0) (term_arguments 0 M) (omega arith)
          h.arguments_are;
      types_stand = subst (λ i. Stand (kind_at f) i (codes_of (types_in M))) q (type_section f labels M h);
      types_inside = omega arith;
    }

first_arguments : (f : List ℕ) (labels : List Wire) (M : Term)
    → Holds f labels M
    → (e : ℕ) → e < first_term f
    → argument_at f e ≡ 0
unfolding program_arguments
first_arguments f labels M h e l =
    let b = h.types_are in
    let c = h.labels_are in
    let k = length labels + entries_of (types_in M) in
    let q : e ≡ 0 + e = omega arith in
    ap (argument_at f) q
    ∙ zeros_stand (argument_at f) 0 k (stand_first (argument_at f) 0 (replicate k 0) (term_arguments 0 M) h.arguments_are) e
    (omega arith)

nodes_some : (M : Term) → 1 ≤ nodes M
nodes_some (variable x) = omega arith
nodes_some (label ℓ) = omega arith
nodes_some (gate x) = omega arith
nodes_some unit_value = omega arith
nodes_some (constant c) = omega arith
nodes_some (abstraction A M) = omega arith
nodes_some (application M N) = omega arith
nodes_some (pair M N) = omega arith
nodes_some (let_in M N) = omega arith
nodes_some (lift M) = omega arith
nodes_some (force M) = omega arith
nodes_some (box T M) = omega arith
nodes_some (apply M N) = omega arith

positions_typed : (f : List ℕ) (labels : List Wire) (M : Term)
    → Holds f labels M → Truth (all_formed (types_in M))
    → (p : ℕ) → p < type_count f
    → (A : Ty) × TypeAtPosition f p A × Truth (formed A)
positions_typed f labels M h w p l =
    let b = h.types_are in
    let t =
    typed_row f (types_in M) (label_count f) (first_term f) (type_section f labels M h) (omega arith) w (label_count f + p)
    (omega arith)
    (omega arith) in
    (t.0, at_position t.2 t.3, t.4)

holds_accepted : (f : List ℕ) (labels : List Wire) (M : Term)
    → Holds f labels M → Writable labels M
    → AcceptedFile f labels M
holds_accepted f labels M h w =
    let a = h.labels_are in
    let b = h.types_are in
    let c = h.terms_are in
    let d = nodes_some M in
    let u = w.labels_fit in
    let v = w.types_fit in
    let x = w.nodes_fit in
    record {
      labels_fit = omega arith;
      types_fit = omega arith;
      some_term = omega arith;
      terms_fit = omega arith;
      length_is = h.length_is;
      label_count_is = sym a;
      label_kinds_are = λ e α q.
          let r : e ≡ 0 + e = omega arith in
          ap (kind_at f) r ∙ labels_stand (kind_at f) 0 labels (label_section f labels M h) e α q;
      arguments_zero = first_arguments f labels M h;
      type_at = positions_typed f labels M h w.types_formed;
      term_is_at = term_stands f M (first_term f) 0 (entry_count f) w.is_source (omega arith) (term_section f labels M h);
      is_source = w.is_source;
      labels_are_below = subst (λ l. Truth (labels_below l M)) (sym a) w.labels_are_below;
      gates_are_known = w.gates_are_known;
      boxes_are_wired = w.boxes_are_wired;
      closed = w.closed;
    }

-- The file that is written for a program is accepted, and the trees that stand in it are the program.
pub encode_accepted : (labels : List Wire) (M : Term) → Writable labels M → AcceptedFile (encode labels M) labels M
encode_accepted labels M w = holds_accepted (encode labels M) labels M (encode_holds labels M w.is_source) w

-- `read` accepts that file, with the program's sizes.
pub read_encode : (labels : List Wire) (M : Term)
    → Writable labels M
    → read_of (encode labels M) ≡ accepted (length labels) (entries_of (types_in M)) (nodes M)
read_encode labels M w =
    let h = encode_holds labels M w.is_source in
    let f = encode labels M in
    read_complete f labels M (encode_accepted labels M w)
    ∙ ap (λ l. accepted l (type_count f) (term_count f)) h.labels_are
    ∙ ap₂ (λ p n. accepted (length labels) p n) h.types_are h.terms_are

-- Reading that file gives the program back: it has no other labels and no other term.
pub encode_read : {labels labels' : List Wire} {M M' : Term}
    → Writable labels M → AcceptedFile (encode labels M) labels' M'
    → (labels ≡ labels') × (M ≡ M')
encode_read {labels} {M} w t = tree_unique (encode_accepted labels M w) t

-- 01, c1: "label 0 alone. File (hex) 01 00 00 00 01 00 01 11 00 00 00 00."
encode_c1 : encode (Qubit ∷ []) (label 0) ≡ 1 ∷ 0 ∷ 0 ∷ 0 ∷ 1 ∷ 0 ∷ 1 ∷ 17 ∷ 0 ∷ 0 ∷ 0 ∷ 0 ∷ []
unfolding encode program_kinds program_arguments
encode_c1 = refl
