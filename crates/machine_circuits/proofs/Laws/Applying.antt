-- Laws of specs/Applying.antt.
use Rattle.std.specs.Prelude.{ℕ, zero, suc, ◌+◌, ◌≤◌, ◌<◌, ◌%◌, ◌≡◌, refl, ◌⊎◌, List, [], ◌∷◌, ◌++◌, map, length, set, take}
use Rattle.std.proofs.Common.{arith, sym, ◌∙◌, ap, ap₂, subst, inl, inr, length-append, get_or-set_same, get_or-set_other}
use Rattle.std.proofs.Math.Option.{some}
use Rattle.std.proofs.lemmas.List.{length-map}
use Rattle.rules.specs.Types.{Wire, Ty, wire, ◌⊗◌, ◌⊸◌, !◌, Circ, wires, unit}
use Rattle.rules.specs.Gates.{◌to◌, gate_table, gate_type, gate_outputs, wires_in, wires_out, input_wires}
use Rattle.rules.specs.Terms.{Tuple, single, both, labels, tuple_from, Gate, ◌on◌, Boxed, boxed}
use Rattle.rules.specs.Circuits.{Circuit, circuit, wire_count, outputs, numbers, rename, rename_gate, rename_tuple, appended}
use Rattle.rules.specs.Circuits.{returned, gate_boxed}
use Rattle.rules.specs.Sizes.{closed_gates}
use Rattle.rules.proofs.Laws.Wires.{nth_some_within}
use Rattle.machine_terms.specs.Trees.{preorder, tuple_tree}
use Rattle.machine_terms.specs.States.{open_gates}
use Rattle.machine_terms.proofs.Laws.Renaming.{rename_later}
use Rattle.words.specs.Quadwords.{Quadword, quadword, quadword_at, word_in}
use Rattle.machine_circuits.specs.Layout.{gate_of, gate_words, gates_in, tuple_words, closed_from, most_result, HoldsBoxed}
use Rattle.machine_circuits.proofs.Laws.Gates.{read_back}
use Rattle.machine_circuits.specs.Copies.{GatesCopied, GatesMoved}
use Rattle.machine_circuits.specs.Results.{LabelsCollected, result_nodes}
use Rattle.machine_circuits.proofs.Laws.Held.{open_kept, open_more, closed_kept, Closes, one_more_closed}
use Rattle.machine_circuits.specs.Applying.{HoldsCircuits}

-- At the start the buffers hold the outermost circuit without gates.
pub nothing_built : (types : ℕ → Ty) (positions : ℕ) (gs cs : List Quadword) (results : ℕ → List ℕ) (L : List Wire)
    → HoldsCircuits types positions gs cs results (circuit L [] ∷ []) []
nothing_built types positions gs cs results L = record { open_held = (refl, tt); closed_held = tt; fewer = omega arith }

-- New gates behind those of the innermost circuit, and no other quadword changed.
gates_added : (types : ℕ → Ty) (positions : ℕ) (gs gs' cs : List Quadword) (results : ℕ → List ℕ) (I : List Wire) (hs new : List Gate)
    (Cs : List Circuit) (K : List Boxed)
    → HoldsCircuits types positions gs cs results (circuit I hs ∷ Cs) K
    → gates_in gs' (open_gates (circuit I hs ∷ Cs)) (length new) ≡ new
    → ((i : ℕ) → (i < open_gates (circuit I hs ∷ Cs)) ⊎ (open_gates (circuit I hs ∷ Cs) + length new ≤ i)
    → quadword_at gs' i ≡ quadword_at gs i)
    → length new + open_gates (circuit I hs ∷ Cs) ≤ closed_from
    → HoldsCircuits types positions gs' cs results (circuit I (new ++ hs) ∷ Cs) K
gates_added types positions gs gs' cs results I hs new Cs K held made kept room =
    record {
      open_held = open_more gs gs' I hs new Cs held.open_held (λ i h. kept i (inl h)) made;
      closed_held =
          closed_kept types positions gs gs' cs results K (λ i from below. kept i (inr (omega arith))) held.closed_held;
      fewer = omega (arith, length-append new hs);
    }

-- The gates of a closed circuit are copied behind those of the innermost circuit: this is the circuit that append gives.
copied_behind : (types : ℕ → Ty) (positions : ℕ) (gs gs' cs : List Quadword) (results : ℕ → List ℕ) (I : List Wire) (hs copied : List Gate)
    (Cs : List Circuit) (K : List Boxed) (k r : Tuple) (T : Ty) (from : ℕ)
    → HoldsCircuits types positions gs cs results (circuit I hs ∷ Cs) K
    → gates_in gs from (length copied) ≡ copied
    → GatesCopied gs gs' from (length copied) (open_gates (circuit I hs ∷ Cs)) (labels k) (wire_count (circuit I hs))
    → length copied + open_gates (circuit I hs ∷ Cs) ≤ closed_from
    → HoldsCircuits types positions gs' cs results (appended (circuit I hs) k (boxed T copied r) ∷ Cs) K
copied_behind types positions gs gs' cs results I hs copied Cs K k r T from held stands done room =
    let next = wire_count (circuit I hs) in
    let new = map (rename_gate (labels k) next) copied in
    let long : length new ≡ length copied = length-map copied (rename_gate (labels k) next) in
    let top = open_gates (circuit I hs ∷ Cs) in
    gates_added types positions gs gs' cs results I hs new Cs K held
    (ap (gates_in gs' top) long ∙ done.copied ∙ ap (map (rename_gate (labels k) next)) stands)
    (λ i. at i)
    (omega arith)
  where
    at : (i : ℕ)
        → (i < open_gates (circuit I hs ∷ Cs))
        ⊎ (open_gates (circuit I hs ∷ Cs) + length (map (rename_gate (labels k) (wire_count (circuit I hs))) copied) ≤ i)
        → quadword_at gs' i ≡ quadword_at gs i
    at i (inl h) = done.kept i (inl h)
    at i (inr h) =
        done.kept i (inr (omega (arith, length-map copied (rename_gate (labels k) (wire_count (circuit I hs))))))

-- Apply of closed circuit i to the labels of k: after its gates are copied behind those of the innermost circuit, that is the
-- circuit which append gives.
pub constant_applied : (types : ℕ → Ty) (positions : ℕ) (gs gs' cs : List Quadword) (results : ℕ → List ℕ) (I : List Wire) (hs copied : List Gate)
    (Cs : List Circuit) (K : List Boxed) (k r : Tuple) (T : Ty) (i before : ℕ) (ws : List ℕ) (n : ℕ)
    → HoldsCircuits types positions gs cs results (circuit I hs ∷ Cs) K
    → HoldsBoxed types positions gs cs results i before T copied r
    → LabelsCollected k ws n
    → GatesCopied gs gs' (word_in (quadword_at cs i) 1) (word_in (quadword_at cs i) 2) (open_gates (circuit I hs ∷ Cs)) (take n ws)
    (wire_count (circuit I hs))
    → length copied + open_gates (circuit I hs ∷ Cs) ≤ closed_from
    → HoldsCircuits types positions gs' cs results (appended (circuit I hs) k (boxed T copied r) ∷ Cs) K
constant_applied types positions gs gs' cs results I hs copied Cs K k r T i before ws n held h collected done room =
    copied_behind types positions gs gs' cs results I hs copied Cs K k r T (closed_from + before) held h.gates
    (subst
    (λ ks. GatesCopied gs gs' (closed_from + before) (length copied) top ks next)
    collected.collected
    (subst
    (λ count. GatesCopied gs gs' (closed_from + before) count top (take n ws) next)
    h.many
    (subst (λ from. GatesCopied gs gs' from (word_in (quadword_at cs i) 2) top (take n ws) next) h.first done)))
    room
  where
    top : ℕ
    top = open_gates (circuit I hs ∷ Cs)

    next : ℕ
    next = wire_count (circuit I hs)

-- The result of the closed circuit, loaded with its wires renamed, is the tuple which append gives.
pub result_returned : (C : Circuit) (k r : Tuple) (T : Ty) (gs : List Gate) (ws : List ℕ) (n : ℕ)
    → LabelsCollected k ws n
    → result_nodes r (take n ws) (wire_count C) ≡ preorder (tuple_tree (returned C k (boxed T gs r)))
result_returned (circuit I hs) k r T gs ws n collected =
    ap (λ ks. result_nodes r ks (wire_count (circuit I hs))) collected.collected

-- The number of the next wire: that of the inputs with that of the wires which the gates make; append adds those of the
-- copied gates.
pub next_number_lem : (I : List Wire) (hs : List Gate) → wire_count (circuit I hs) ≡ length I + length (outputs hs)
next_number_lem I hs = length-append I (outputs hs)

outputs_joined : (ks : List ℕ) (next : ℕ) (gs hs : List Gate)
    → length (outputs (map (rename_gate ks next) gs ++ hs)) ≡ length (outputs hs) + length (outputs gs)
outputs_joined ks next [] hs = omega arith
outputs_joined ks next ((n on ws) ∷ gs) hs =
    omega (
      arith,
      length-append (outputs (map (rename_gate ks next) gs ++ hs)) (gate_outputs n),
      length-append (outputs gs) (gate_outputs n),
      outputs_joined ks next gs hs,
    )

pub next_appended : (C : Circuit) (k r : Tuple) (T : Ty) (gs : List Gate)
    → wire_count (appended C k (boxed T gs r)) ≡ wire_count C + length (outputs gs)
next_appended (circuit I hs) k r T gs =
    omega (
      arith,
      next_number_lem I (map (rename_gate (labels k) (wire_count (circuit I hs))) gs ++ hs),
      next_number_lem I hs,
      outputs_joined (labels k) (wire_count (circuit I hs)) gs hs,
    )

-- Labels renamed in order are the argument's labels.
numbers_suc : (m n : ℕ) → numbers (suc m) n ≡ map suc (numbers m n)
numbers_suc m zero = refl
numbers_suc m (suc n) = ap (λ l. suc m ∷ l) (numbers_suc (suc m) n)

renamed_suc : (ℓ : ℕ) (ℓs : List ℕ) (next : ℕ) (ws : List ℕ)
    → map (rename (ℓ ∷ ℓs) next) (map suc ws) ≡ map (rename ℓs next) ws
renamed_suc ℓ ℓs next [] = refl
renamed_suc ℓ ℓs next (w ∷ ws) = ap (λ l. rename ℓs next w ∷ l) (renamed_suc ℓ ℓs next ws)

renamed_all : (ℓs : List ℕ) (next : ℕ) → map (rename ℓs next) (numbers 0 (length ℓs)) ≡ ℓs
renamed_all [] next = refl
renamed_all (ℓ ∷ ℓs) next =
    ap
    (λ l. ℓ ∷ l)
    (ap (map (rename (ℓ ∷ ℓs) next)) (numbers_suc 0 (length ℓs))
    ∙ renamed_suc ℓ ℓs next (numbers 0 (length ℓs))
    ∙ renamed_all ℓs next)

-- A gate applied to as many labels as it takes is that gate on these labels.
pub gate_appended : (I : List Wire) (hs : List Gate) (k : Tuple) (n : ℕ) (T U : Ty)
    → length (labels k) ≡ length (wires T)
    → appended (circuit I hs) k (gate_boxed n T U) ≡ circuit I ((n on labels k) ∷ hs)
gate_appended I hs k n T U e =
    let next = wire_count (circuit I hs) in
    ap
    (λ ws. circuit I ((n on ws) ∷ hs))
    (ap (λ j. map (rename (labels k) next) (numbers 0 j)) (sym e) ∙ renamed_all (labels k) next)

numbered_on : (ks : List ℕ) (next j i : ℕ) → i ≡ length ks + j → rename ks next i ≡ next + j
numbered_on ks next j i e = rename_later ks next i (omega arith) ∙ omega arith

gate_takes : (n : ℕ) (T U : Ty) → gate_type n ≡ some (T to U) → wires_in n ≡ length (wires T)
unfolding wires_in
gate_takes n T U e = ap (λ g. length (input_wires g)) e

-- Its result is the tuple of the wires that it makes, numbered on.
tuple_renamed : (ks : List ℕ) (next j i : ℕ) (U : Ty)
    → i ≡ length ks + j
    → rename_tuple ks next (tuple_from i U) ≡ tuple_from (next + j) U
tuple_renamed ks next j i (wire α) e = ap single (numbered_on ks next j i e)
tuple_renamed ks next j i unit e = refl
tuple_renamed ks next j i (A ⊗ B) e =
    ap₂
    both
    (tuple_renamed ks next j i A e)
    (tuple_renamed ks next (j + length (wires A)) (i + length (wires A)) B (omega arith) ∙ further)
  where
    further : tuple_from (next + (j + length (wires A))) B ≡ tuple_from (next + j + length (wires A)) B
    further = let f : next + (j + length (wires A)) ≡ next + j + length (wires A) = omega arith in ap (λ x. tuple_from x B) f
tuple_renamed ks next j i (A ⊸ B) e = ap single (numbered_on ks next j i e)
tuple_renamed ks next j i (! A) e = ap single (numbered_on ks next j i e)
tuple_renamed ks next j i (Circ A B) e = ap single (numbered_on ks next j i e)

pub gate_returned : (I : List Wire) (hs : List Gate) (k : Tuple) (n : ℕ) (T U : Ty)
    → length (labels k) ≡ length (wires T)
    → returned (circuit I hs) k (gate_boxed n T U) ≡ tuple_from (wire_count (circuit I hs)) U
gate_returned I hs k n T U e =
    let next = wire_count (circuit I hs) in
    let f : next + 0 ≡ next = omega arith in
    tuple_renamed (labels k) next 0 (length (wires T)) U (omega arith) ∙ ap (λ j. tuple_from j U) f

pub next_after_gate : (C : Circuit) (k : Tuple) (n : ℕ) (T U : Ty)
    → wire_count (appended C k (gate_boxed n T U)) ≡ wire_count C + wires_out n
unfolding wires_out
next_after_gate C k n T U =
    next_appended C k (tuple_from (length (wires T)) U) T ((n on numbers 0 (length (wires T))) ∷ [])

-- Apply of a gate: after its quadword is put behind those of the innermost circuit, this is the circuit that append gives.
pub gate_applied : (types : ℕ → Ty) (positions : ℕ) (gs gs' cs : List Quadword) (results : ℕ → List ℕ) (I : List Wire) (hs : List Gate)
    (Cs : List Circuit) (K : List Boxed) (k : Tuple) (n : ℕ) (T U : Ty) (ws : List ℕ) (found : ℕ)
    → HoldsCircuits types positions gs cs results (circuit I hs ∷ Cs) K
    → gate_type n ≡ some (T to U)
    → length (labels k) ≡ length (wires T)
    → LabelsCollected k ws found
    → gs' ≡ set gs (open_gates (circuit I hs ∷ Cs)) (gate_words ((n % 65536) on take (wires_in n) ws))
    → open_gates (circuit I hs ∷ Cs) < closed_from
    → closed_from ≤ length gs
    → HoldsCircuits types positions gs' cs results (appended (circuit I hs) k (gate_boxed n T U) ∷ Cs) K
gate_applied types positions gs gs' cs results I hs Cs K k n T U ws found held e fits collected put room inside =
    subst (λ C. HoldsCircuits types positions gs' cs results (C ∷ Cs) K) (sym (gate_appended I hs k n T U fits))
    (gates_added types positions gs gs' cs results I hs ((n on labels k) ∷ []) Cs K held
    (ap (λ g. g ∷ []) (ap (λ j. gate_of (quadword_at gs' j)) first ∙ ap gate_of at_top ∙ read_back n (labels k) counted))
    (λ i. at i)
    (omega arith))
  where
    first : open_gates (circuit I hs ∷ Cs) + 0 ≡ open_gates (circuit I hs ∷ Cs)
    first = omega arith

    counted : length (labels k) ≡ wires_in n
    counted = fits ∙ sym (gate_takes n T U e)

    low : n % 65536 ≡ n
    low = let h : n < length gate_table = nth_some_within gate_table n e in omega arith

    all : take (wires_in n) ws ≡ labels k
    all = ap (λ j. take j ws) (sym (collected.number ∙ counted)) ∙ collected.collected

    at_top : quadword_at gs' (open_gates (circuit I hs ∷ Cs)) ≡ gate_words (n on labels k)
    at_top =
        ap (λ rs. quadword_at rs (open_gates (circuit I hs ∷ Cs))) put
        ∙ get_or-set_same gs (open_gates (circuit I hs ∷ Cs)) _ (quadword 0 0 0 0) (omega arith)
        ∙ ap₂ (λ m l. gate_words (m on l)) low all

    other : (i : ℕ) → (i ≡ open_gates (circuit I hs ∷ Cs) → ⊥) → quadword_at gs' i ≡ quadword_at gs i
    other i f =
        ap (λ rs. quadword_at rs i) put ∙ get_or-set_other gs (open_gates (circuit I hs ∷ Cs)) i _ (quadword 0 0 0 0) f

    at : (i : ℕ)
        → (i < open_gates (circuit I hs ∷ Cs)) ⊎ (open_gates (circuit I hs ∷ Cs) + 1 ≤ i)
        → quadword_at gs' i ≡ quadword_at gs i
    at i (inl h) = other i (λ p. omega arith)
    at i (inr h) = other i (λ p. omega arith)

-- Box entry: the new circuit has no gate yet.
pub box_entered : (types : ℕ → Ty) (positions : ℕ) (gs cs : List Quadword) (results : ℕ → List ℕ) (I : List Wire) (Cs : List Circuit)
    (K : List Boxed)
    → HoldsCircuits types positions gs cs results Cs K
    → HoldsCircuits types positions gs cs results (circuit I [] ∷ Cs) K
box_entered types positions gs cs results I Cs K held =
    record { open_held = (refl, held.open_held); closed_held = held.closed_held; fewer = omega (arith, held.fewer) }

-- Box exit: after the innermost circuit's gates are moved behind those of the closed circuits, and its quadword and its result
-- are put, it is the latest closed circuit.
pub box_left : (types : ℕ → Ty) (positions : ℕ) (gs gs' cs cs' : List Quadword) (results results' : ℕ → List ℕ) (I : List Wire) (hs : List Gate)
    (Cs : List Circuit) (K : List Boxed) (position : ℕ) (k : Tuple)
    → position < positions
    → HoldsCircuits types positions gs cs results (circuit I hs ∷ Cs) K
    → GatesMoved gs gs' (open_gates Cs) (length hs) (closed_from + closed_gates K)
    → length (tuple_words k) ≤ most_result
    → Closes cs cs' results results' (length K)
    (quadword position (closed_from + closed_gates K) (length hs) (length (tuple_words k)))
    k
    → HoldsCircuits types positions gs' cs' results' Cs (boxed (types position) hs k ∷ K)
box_left types positions gs gs' cs cs' results results' I hs Cs K position k real held moved short closes =
    record {
      open_held =
          open_kept gs gs' Cs (λ i h. moved.kept i (inl (omega (arith, held.fewer)))) held.open_held.1;
      closed_held =
          one_more_closed types positions gs gs' cs cs' results results' K position hs k real held.closed_held
          (λ i from below. moved.kept i (inl below))
          (moved.moved ∙ held.open_held.0)
          short
          closes;
      fewer = omega (arith, held.fewer);
    }
