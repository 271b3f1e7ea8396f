-- What the typing rules say of circuits and tuples: how many wires there are, and below which number they are.
use Rattle.std.specs.Prelude.{ℕ, zero, suc, ◌+◌, ◌*◌, ◌≤◌, ◌<◌, ◌≡◌, List, [], ◌∷◌, ◌++◌, length}
use Rattle.std.proofs.Common.{arith, sym, ◌∙◌, ap, append_assoc, length-append}
use Rattle.std.proofs.Math.Option.{some}
use Rattle.rules.specs.Types.{Wire, Ty, Circ, wires, entries, most_entries}
use Rattle.rules.specs.Gates.{nth, gate_outputs, wires_out}
use Rattle.rules.specs.Terms.{Tuple, single, both, labels, Gate, ◌on◌, boxed, constant, tuple, empty}
use Rattle.rules.specs.Circuits.{outputs, count, taken, OfTypes, wires_end, next_wire, TakesEarlier, no_gate, next_gate}
use Rattle.rules.specs.Circuits.{if_none, loose}
use Rattle.rules.specs.Typing.{LabelContext, split_end, ◌∣◌⊢◌∶◌, by_label}
use Rattle.rules.specs.Typing.{by_circ, by_tuple, by_unit}
use Rattle.rules.proofs.Laws.Wires.{nth_some_within}
use Rattle.machine_terms.specs.Trees.{preorder, tuple_tree}
use Rattle.machine_terms.proofs.Laws.Typed.{nodes_typed}
use Rattle.rules.specs.Slots.{gate_slot_count}
use Rattle.rules.proofs.Laws.Appending.{shares_some_left, shares_some_right}
use Rattle.machine_circuits.proofs.Laws.Gates.{few_out}
use Rattle.machine_circuits.specs.Copies.{AllBelow, WiresBelow}

-- A bound may be raised.
pub all_below_more : (m m' : ℕ) (ws : List ℕ) → m ≤ m' → AllBelow m ws → AllBelow m' ws
all_below_more m m' [] h below = tt
all_below_more m m' (w ∷ ws) h below = (omega (arith, below.0), all_below_more m m' ws h below.1)

pub wires_below_more : (m m' : ℕ) (gs : List Gate) → m ≤ m' → WiresBelow m gs → WiresBelow m' gs
wires_below_more m m' [] h below = tt
wires_below_more m m' ((n on ws) ∷ gs) h below =
    (all_below_more m m' ws h below.0, wires_below_more m m' gs h below.1)

of_types_below : {types : List Wire} {ws : List ℕ} {αs : List Wire} → OfTypes types ws αs → AllBelow (length types) ws
of_types_below wires_end = tt
of_types_below {types} (next_wire {w = w} p d) = (nth_some_within types w p, of_types_below d)

-- The gates of a sound circuit take only wires that it has made.
pub takes_below : {I : List Wire} {gs : List Gate} → TakesEarlier I gs → WiresBelow (length (I ++ outputs gs)) gs
takes_below no_gate = tt
takes_below {I} (next_gate {n = n} {ws = ws} {gs = gs} e o t) =
    let m = length (I ++ outputs gs) in
    let m' = length (I ++ (outputs gs ++ gate_outputs n)) in
    let all : m' ≡ m + length (gate_outputs n)
    = ap length (sym (append_assoc I (outputs gs) (gate_outputs n))) ∙ length-append (I ++ outputs gs) (gate_outputs n) in
    let more : m ≤ m' = omega arith in
    (all_below_more m m' ws more (of_types_below o), wires_below_more m m' gs more (takes_below t))

-- A circuit makes at most so many wires.
pub few_outputs : (gs : List Gate) → length (outputs gs) ≤ gate_slot_count * length gs
unfolding wires_out
few_outputs [] = omega arith
few_outputs ((n on ws) ∷ gs) =
    omega (arith, length-append (outputs gs) (gate_outputs n), few_outputs gs, few_out n)

pub few_wires : (I : List Wire) (gs : List Gate) → length (I ++ outputs gs) ≤ length I + gate_slot_count * length gs
few_wires I gs = omega (arith, length-append I (outputs gs), few_outputs gs)

-- A loose wire is one that the circuit has made.
pub loose_below : (I : List Wire) (gs : List Gate) (ℓ : ℕ) (α : Wire)
    → loose I gs ℓ ≡ some α
    → ℓ < length (I ++ outputs gs)
loose_below I gs ℓ α p = by_count (count ℓ (taken gs)) p
  where
    by_count : (c : ℕ) → if_none c (nth (I ++ outputs gs) ℓ) ≡ some α → ℓ < length (I ++ outputs gs)
    by_count zero p = nth_some_within (I ++ outputs gs) ℓ p
    by_count (suc c) p = let z : ◌≡◌ {A = ℕ} 0 1 = cc in absurd (omega arith)

all_below_append : (m : ℕ) (xs ys : List ℕ) → AllBelow m xs → AllBelow m ys → AllBelow m (xs ++ ys)
all_below_append m [] ys h k = k
all_below_append m (x ∷ xs) ys h k = (h.0, all_below_append m xs ys h.1 k)

-- The labels of a typed tuple are labels of its context.
pub labels_are_below : (k : Tuple) {Q : LabelContext} {T : Ty} (m : ℕ)
    → ((ℓ : ℕ) (α : Wire) → Q ℓ ≡ some α → ℓ < m)
    → [] ∣ Q ⊢ tuple k ∶ T
    → AllBelow m (labels k)
labels_are_below (single ℓ) m known (by_label {α = α} p o) = (known ℓ α o.0, tt)
labels_are_below empty m known (by_unit p n) = tt
labels_are_below (both k l) m known (by_tuple b split_end s d e) =
    all_below_append m (labels k) (labels l)
    (labels_are_below k m (λ ℓ α p. known ℓ α (shares_some_left (s ℓ) p)) d)
    (labels_are_below l m (λ ℓ α p. known ℓ α (shares_some_right (s ℓ) p)) e)

-- A circuit constant's gates take wires that it has made, and the labels of its result are such wires.
pub record ConstantBelow (T U : Ty) (gs : List Gate) (r : Tuple) : Type 0 where
  pub takes : TakesEarlier (wires T) gs
  pub below : AllBelow (length (wires T ++ outputs gs)) (labels r)
  pub result_nodes_lem : length (preorder (tuple_tree r)) ≡ entries U
  pub bounded : entries T + entries U < most_entries

pub constant_below : {T S U : Ty} {Q : LabelContext} {gs : List Gate} {r : Tuple}
    → [] ∣ Q ⊢ constant (boxed T gs r) ∶ Circ S U
    → ConstantBelow T U gs r
constant_below {T} {gs = gs} {r = r} (by_circ p no_label t b sound d) =
    record {
      takes = sound.takes_earlier;
      below = labels_are_below r (length (wires T ++ outputs gs)) (loose_below (wires T) gs) d;
      result_nodes_lem = nodes_typed r d;
      bounded = omega (arith, b);
    }
