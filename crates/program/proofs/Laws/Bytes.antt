-- The file that is written for a program is a file: each of its numbers is a byte.
use Rattle.std.specs.Prelude.{ℕ, zero, suc, ◌+◌, ◌*◌, ◌/◌, ◌%◌, ◌≤◌, ◌<◌, ◌&&◌, List, [], ◌∷◌, ◌++◌, map, T as Truth, ltb, length, replicate}
use Rattle.std.proofs.Common.{arith, ltb→lt, lt→ltb}
use Rattle.std.proofs.Math.Pow.{are_bytes}
use Rattle.rules.specs.Types.{Wire, Bit, Qubit, Ty, wire, unit, ◌⊗◌, ◌⊸◌, !◌, Circ, entries, wire_code, type_codes}
use Rattle.rules.specs.Gates.{GateType, nth, gate_table, is_some, is_gate}
use Rattle.rules.specs.Terms.{Term, variable, label, gate, constant, abstraction, application, pair, let_in, lift, force}
use Rattle.rules.specs.Terms.{unit_value, box, apply}
use Rattle.rules.specs.Sizes.{nodes, most_labels}
use Rattle.rules.proofs.Laws.Booleans.{and_left, and_right, and_both}
use Rattle.program.specs.Trees.{closed_under, labels_below, gates_known}
use Rattle.program.specs.Encoding.{types_in, entries_of, codes_of, term_kinds, term_arguments, words, program_kinds}
use Rattle.program.specs.Encoding.{program_arguments, encode}
use Rattle.program.proofs.Laws.Trees.{Writable}
use Rattle.program.proofs.Theorems.Encoding.{entries_append}

bytes_first : (x : ℕ) (xs : List ℕ) → x < 256 → Truth (are_bytes xs) → Truth (are_bytes (x ∷ xs))
bytes_first x xs h k = and_both (ltb x 256) (are_bytes xs) (lt→ltb x 256 h) k

bytes_append : (xs ys : List ℕ) → Truth (are_bytes xs) → Truth (are_bytes ys) → Truth (are_bytes (xs ++ ys))
bytes_append [] ys h k = k
bytes_append (x ∷ xs) ys h k =
    and_both (ltb x 256) (are_bytes (xs ++ ys)) (and_left (ltb x 256) (are_bytes xs) h)
    (bytes_append xs ys (and_right (ltb x 256) (are_bytes xs) h) k)

-- Each number of a list has two bytes.
abbrev Small : List ℕ → Type 0
Small [] = Unit {0}
Small (x ∷ xs) = (x < 65536) × Small xs

small_append : (xs ys : List ℕ) → Small xs → Small ys → Small (xs ++ ys)
small_append [] ys h k = k
small_append (x ∷ xs) ys h k = (h.0, small_append xs ys h.1 k)

words_bytes : (xs : List ℕ) → Small xs → Truth (are_bytes (words xs))
words_bytes [] h = tt
words_bytes (x ∷ xs) h =
    let l = h.0 in
    bytes_first (x % 256) (x / 256 ∷ words xs) (omega arith)
    (bytes_first (x / 256) (words xs) (omega arith) (words_bytes xs h.1))

wire_code_byte : (α : Wire) → wire_code α < 256
wire_code_byte Bit = omega arith
wire_code_byte Qubit = omega arith

labels_bytes : (labels : List Wire) → Truth (are_bytes (map wire_code labels))
labels_bytes [] = tt
labels_bytes (α ∷ labels) = bytes_first (wire_code α) (map wire_code labels) (wire_code_byte α) (labels_bytes labels)

type_bytes : (A : Ty) → Truth (are_bytes (type_codes A))
type_bytes (wire α) = bytes_first (wire_code α) [] (wire_code_byte α) tt
type_bytes unit = tt
type_bytes (A ⊗ B) = bytes_append (type_codes A) (type_codes B) (type_bytes A) (type_bytes B)
type_bytes (A ⊸ B) = bytes_append (type_codes A) (type_codes B) (type_bytes A) (type_bytes B)
type_bytes (! A) = type_bytes A
type_bytes (Circ A B) = bytes_append (type_codes A) (type_codes B) (type_bytes A) (type_bytes B)

types_bytes : (As : List Ty) → Truth (are_bytes (codes_of As))
types_bytes [] = tt
types_bytes (A ∷ As) = bytes_append (type_codes A) (codes_of As) (type_bytes A) (types_bytes As)

kinds_bytes : (M : Term) → Truth (are_bytes (term_kinds M))
kinds_bytes (variable x) = tt
kinds_bytes (label ℓ) = tt
kinds_bytes (gate x) = tt
kinds_bytes unit_value = tt
kinds_bytes (constant c) = tt
kinds_bytes (abstraction A M) = kinds_bytes M
kinds_bytes (application M N) = bytes_append (term_kinds M) (term_kinds N) (kinds_bytes M) (kinds_bytes N)
kinds_bytes (pair M N) = bytes_append (term_kinds M) (term_kinds N) (kinds_bytes M) (kinds_bytes N)
kinds_bytes (let_in M N) = bytes_append (term_kinds M) (term_kinds N) (kinds_bytes M) (kinds_bytes N)
kinds_bytes (lift M) = kinds_bytes M
kinds_bytes (force M) = kinds_bytes M
kinds_bytes (box T M) = kinds_bytes M
kinds_bytes (apply M N) = bytes_append (term_kinds M) (term_kinds N) (kinds_bytes M) (kinds_bytes N)

-- What bounds the arguments of a term under b binders whose types stand from position p on: each node binds two at most.
record Bounds (l b p : ℕ) (M : Term) : Type 0 where
  labels_small : l ≤ most_labels
  binders_small : b + 2 * nodes M ≤ 65535
  positions_small : p + entries_of (types_in M) ≤ 65535
  is_closed : Truth (closed_under b M)
  are_labels : Truth (labels_below l M)
  are_gates : Truth (gates_known M)

-- Two parts of a term, the second under at most two binders more.
parts_bound : (l b c p : ℕ) (M N : Term)
    → l ≤ most_labels → b + 2 * (1 + (nodes M + nodes N)) ≤ 65535 → c ≤ b + 2
    → p + entries_of (types_in M ++ types_in N) ≤ 65535
    → Truth (closed_under b M && closed_under c N)
    → Truth (labels_below l M && labels_below l N)
    → Truth (gates_known M && gates_known N)
    → Bounds l b p M × Bounds l c (p + entries_of (types_in M)) N
parts_bound l b c p M N hl hb hc hp x y z =
    let r = entries_append (types_in M) (types_in N) in (
      record {
        labels_small = hl;
        binders_small = omega arith;
        positions_small = omega arith;
        is_closed = and_left (closed_under b M) (closed_under c N) x;
        are_labels = and_left (labels_below l M) (labels_below l N) y;
        are_gates = and_left (gates_known M) (gates_known N) z;
      },
      record {
        labels_small = hl;
        binders_small = omega arith;
        positions_small = omega arith;
        is_closed = and_right (closed_under b M) (closed_under c N) x;
        are_labels = and_right (labels_below l M) (labels_below l N) y;
        are_gates = and_right (gates_known M) (gates_known N) z;
      },
    )

-- A part with nothing beside it, under at most two binders more, with its types from position q on.
part_bound : (l b c q : ℕ) (M : Term)
    → l ≤ most_labels → b + 2 * (1 + nodes M) ≤ 65535 → c ≤ b + 2
    → q + entries_of (types_in M) ≤ 65535
    → Truth (closed_under c M) → Truth (labels_below l M) → Truth (gates_known M)
    → Bounds l c q M
part_bound l b c q M hl hb hc hp x y z =
    record {
      labels_small = hl;
      binders_small = omega arith;
      positions_small = hp;
      is_closed = x;
      are_labels = y;
      are_gates = z;
    }

small_parts : (p : ℕ) (M N : Term)
    → Small (term_arguments p M) → Small (term_arguments (p + entries_of (types_in M)) N)
    → Small (0 ∷ term_arguments p M ++ term_arguments (p + entries_of (types_in M)) N)
small_parts p M N h k =
    (omega arith, small_append (term_arguments p M) (term_arguments (p + entries_of (types_in M)) N) h k)

-- The arguments of a term have two bytes each, if the gates' numbers have.
arguments_small : ((x : ℕ) → Truth (is_gate x) → x < 65536)
    → (M : Term) (l b p : ℕ) → Bounds l b p M
    → Small (term_arguments p M)
arguments_small gates (variable x) l b p w =
    let h = ltb→lt x b w.is_closed in let k = w.binders_small in (omega arith, tt)
arguments_small gates (label ℓ) l b p w =
    let h = ltb→lt ℓ l w.are_labels in let k = w.labels_small in (omega arith, tt)
arguments_small gates (gate x) l b p w = (gates x w.are_gates, tt)
arguments_small gates unit_value l b p w = (omega arith, tt)
arguments_small gates (constant c) l b p w = tt
arguments_small gates (abstraction A M) l b p w =
    let k = w.positions_small in (
      omega arith,
      arguments_small gates M l (b + 1) (p + entries A)
          (part_bound l b (b + 1) (p + entries A) M w.labels_small w.binders_small (omega arith) (omega arith)
          w.is_closed
          w.are_labels
          w.are_gates),
    )
arguments_small gates (application M N) l b p w =
    let r =
    parts_bound l b b p M N w.labels_small w.binders_small (omega arith) w.positions_small w.is_closed
    w.are_labels
    w.are_gates in
    small_parts p M N (arguments_small gates M l b p r.0)
    (arguments_small gates N l b (p + entries_of (types_in M)) r.1)
arguments_small gates (pair M N) l b p w =
    let r =
    parts_bound l b b p M N w.labels_small w.binders_small (omega arith) w.positions_small w.is_closed
    w.are_labels
    w.are_gates in
    small_parts p M N (arguments_small gates M l b p r.0)
    (arguments_small gates N l b (p + entries_of (types_in M)) r.1)
arguments_small gates (let_in M N) l b p w =
    let r =
    parts_bound l b (b + 2) p M N w.labels_small w.binders_small (omega arith) w.positions_small
    w.is_closed
    w.are_labels
    w.are_gates in
    small_parts p M N (arguments_small gates M l b p r.0)
    (arguments_small gates N l (b + 2) (p + entries_of (types_in M)) r.1)
arguments_small gates (lift M) l b p w = (
  omega arith,
  arguments_small gates M l b p
      (part_bound l b b p M w.labels_small w.binders_small (omega arith) w.positions_small w.is_closed
      w.are_labels
      w.are_gates),
)
arguments_small gates (force M) l b p w = (
  omega arith,
  arguments_small gates M l b p
      (part_bound l b b p M w.labels_small w.binders_small (omega arith) w.positions_small w.is_closed
      w.are_labels
      w.are_gates),
)
arguments_small gates (box T M) l b p w =
    let k = w.positions_small in (
      omega arith,
      arguments_small gates M l b (p + entries T)
          (part_bound l b b (p + entries T) M w.labels_small w.binders_small (omega arith) (omega arith)
          w.is_closed
          w.are_labels
          w.are_gates),
    )
arguments_small gates (apply M N) l b p w =
    let r =
    parts_bound l b b p M N w.labels_small w.binders_small (omega arith) w.positions_small w.is_closed
    w.are_labels
    w.are_gates in
    small_parts p M N (arguments_small gates M l b p r.0)
    (arguments_small gates N l b (p + entries_of (types_in M)) r.1)

zeros_small : (n : ℕ) → Small (replicate n 0)
zeros_small zero = tt
zeros_small (suc n) = (omega arith, zeros_small n)

-- A gate's number is below the length of the table.
some_below : (l : List GateType) (x : ℕ) → Truth (is_some (nth l x)) → x < length l
some_below [] x h = absurd h
some_below (g ∷ l) zero h = omega arith
some_below (g ∷ l) (suc x) h = let k : x < length l = some_below l x h in omega arith

gate_small : (x : ℕ) → Truth (is_gate x) → x < 65536
unfolding is_gate
gate_small x h = let k : x < length gate_table = some_below gate_table x h in omega arith

-- Each number of the file that is written for a program is a byte.
pub encode_bytes : (labels : List Wire) (M : Term) → Writable labels M → Truth (are_bytes (encode labels M))
unfolding encode program_kinds program_arguments
encode_bytes labels M w =
    let k = length labels + entries_of (types_in M) in
    let a = w.labels_fit in
    let b = w.types_fit in
    let c = w.nodes_fit in
    bytes_append (words (length labels ∷ entries_of (types_in M) ∷ nodes M ∷ []))
    (program_kinds labels M ++ words (program_arguments labels M))
    (words_bytes (length labels ∷ entries_of (types_in M) ∷ nodes M ∷ [])
    (omega arith, (omega arith, (omega arith, tt))))
    (bytes_append (program_kinds labels M) (words (program_arguments labels M))
    (bytes_append (map wire_code labels) (codes_of (types_in M) ++ term_kinds M) (labels_bytes labels)
    (bytes_append (codes_of (types_in M)) (term_kinds M) (types_bytes (types_in M)) (kinds_bytes M)))
    (words_bytes (program_arguments labels M)
    (small_append (replicate k 0) (term_arguments 0 M) (zeros_small k)
    (arguments_small gate_small M (length labels) 0 0
    (record {
      labels_small = a;
      binders_small = omega arith;
      positions_small = omega arith;
      is_closed = w.closed;
      are_labels = w.labels_are_below;
      are_gates = w.gates_are_known;
    })))))
