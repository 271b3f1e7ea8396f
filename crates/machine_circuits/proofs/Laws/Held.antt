-- How what the buffers hold goes on holding, and how it grows.
use Rattle.std.specs.Prelude.{ℕ, zero, suc, ◌+◌, ◌*◌, ◌/◌, ◌%◌, ◌≤◌, ◌<◌, ◌≡◌, refl, cond, List, [], ◌∷◌, ◌++◌, length, set}
use Rattle.std.proofs.Common.{arith, eq-or-lt_of_le, sym, ◌∙◌, ap, subst, ⊎_elim, length-append, get_or-set_same, get_or-set_other, eq-eqb, ne_eqb}
use Rattle.std.proofs.Math.Decide.{ℕ_discrete}
use Rattle.std.proofs.Math.Nat.{le-pred_of_lt}
use Rattle.rules.specs.Types.{Wire, Ty, wires}
use Rattle.rules.specs.Terms.{Tuple, labels, Gate, Boxed, boxed}
use Rattle.rules.specs.Circuits.{Circuit, circuit, outputs, TakesEarlier}
use Rattle.rules.specs.Sizes.{closed_gates}
use Rattle.machine_terms.specs.States.{open_gates}
use Rattle.machine_terms.specs.Meaning.{circuit_at}
use Rattle.words.specs.Quadwords.{Quadword, quadword, quadword_at, word_in}
use Rattle.machine_circuits.specs.Layout.{gates_in, tuple_words, HoldsOpen, closed_from, most_result, results_each}
use Rattle.machine_circuits.specs.Layout.{HoldsBoxed, HoldsCircuit, HoldsClosed, four_results, no_label}
use Rattle.rules.specs.Slots.{no_wire}
use Rattle.words.specs.Regions.{over, Stands}
use Rattle.words.proofs.Laws.Regions.{stands_written, stands_before}
use Rattle.machine_circuits.proofs.Laws.Gates.{gates_same, gates_more}
use Rattle.machine_circuits.specs.Copies.{AllBelow, CopyFits}
use Rattle.machine_circuits.specs.Results.{ResultFits}
use Rattle.machine_circuits.proofs.Laws.Typed.{takes_below}

-- Quadwords below an end are the same.
abbrev pub SameBelow : List Quadword → List Quadword → ℕ → Type 0
SameBelow gs gs' end = (i : ℕ) → i < end → quadword_at gs' i ≡ quadword_at gs i

-- Open circuits stay where the quadwords of their gates do.
pub open_kept : (gs gs' : List Quadword) (Cs : List Circuit)
    → SameBelow gs gs' (open_gates Cs)
    → HoldsOpen gs Cs
    → HoldsOpen gs' Cs
open_kept gs gs' [] same held = tt
open_kept gs gs' (circuit I hs ∷ Cs) same held = (
  gates_same gs gs' (open_gates Cs) (open_gates Cs) (length hs) (λ i h. same (open_gates Cs + i) (omega arith)) ∙ held.0,
  open_kept gs gs' Cs (λ i h. same i (omega arith)) held.1,
)

-- More gates behind those of the innermost circuit are its gates too.
pub open_more : (gs gs' : List Quadword) (I : List Wire) (hs new : List Gate) (Cs : List Circuit)
    → HoldsOpen gs (circuit I hs ∷ Cs)
    → SameBelow gs gs' (open_gates (circuit I hs ∷ Cs))
    → gates_in gs' (open_gates (circuit I hs ∷ Cs)) (length new) ≡ new
    → HoldsOpen gs' (circuit I (new ++ hs) ∷ Cs)
open_more gs gs' I hs new Cs held same made =
    let kept = open_kept gs gs' (circuit I hs ∷ Cs) same held in
    let long : length (new ++ hs) ≡ length hs + length new = omega (arith, length-append new hs) in
    let top : open_gates Cs + length hs ≡ length hs + open_gates Cs = omega arith in (
      ap (gates_in gs' (open_gates Cs)) long
          ∙ gates_more gs' (open_gates Cs) (length hs) (length new)
          ∙ ap (λ l. l ++ gates_in gs' (open_gates Cs) (length hs)) (ap (λ j. gates_in gs' j (length new)) top ∙ made)
          ∙ ap (λ l. new ++ l) kept.0,
      kept.1,
    )

-- Closed circuits stay where the quadwords of their gates do.
pub closed_kept : (types : ℕ → Ty) (positions : ℕ) (gs gs' cs : List Quadword) (results : ℕ → List ℕ) (K : List Boxed)
    → ((i : ℕ) → closed_from ≤ i → i < closed_from + closed_gates K → quadword_at gs' i ≡ quadword_at gs i)
    → HoldsClosed types positions gs cs results K
    → HoldsClosed types positions gs' cs results K
closed_kept types positions gs gs' cs results [] same held = tt
closed_kept types positions gs gs' cs results (boxed T hs k ∷ K) same held =
    let h = held.0 in (
      record {
        position = h.position;
        typed = h.typed;
        first = h.first;
        many = h.many;
        size = h.size;
        gates =
            gates_same gs gs' (closed_from + closed_gates K) (closed_from + closed_gates K) (length hs)
            (λ i below. same (closed_from + closed_gates K + i) (omega arith) (omega arith))
            ∙ h.gates;
        result = h.result;
        short = h.short;
      },
      closed_kept types positions gs gs' cs results K (λ i from below. same i from (omega arith)) held.1,
    )

-- What the quadwords and results of the circuits closed so far are after another is closed: its quadword, its result, nothing else.
pub record Closes (cs cs' : List Quadword) (results results' : ℕ → List ℕ) (i : ℕ) (r : Quadword) (k : Tuple) : Type 0 where
  pub circuit_put : cs' ≡ set cs i r
  pub room : i < length cs
  pub result_saved : results' (i / results_each)
      ≡ over (results (i / results_each)) (most_result * (i % results_each)) (tuple_words k)
  pub slot_inside : most_result * (i % results_each) ≤ length (results (i / results_each))
  pub others_kept : (b : ℕ) → (b ≡ i / results_each → ⊥) → results' b ≡ results b

-- One of the four result buffers is written, and the others stay.
module _ (r₀ r₁ r₂ r₃ x : List ℕ) where
  pub others_kept₀ : (b : ℕ) → (b ≡ 0 → ⊥) → four_results x r₁ r₂ r₃ b ≡ four_results r₀ r₁ r₂ r₃ b
  others_kept₀ zero h = absurd (h refl)
  others_kept₀ (suc zero) h = refl
  others_kept₀ (suc (suc zero)) h = refl
  others_kept₀ (suc (suc (suc zero))) h = refl
  others_kept₀ (suc (suc (suc (suc b)))) h = refl

  pub others_kept₁ : (b : ℕ) → (b ≡ 1 → ⊥) → four_results r₀ x r₂ r₃ b ≡ four_results r₀ r₁ r₂ r₃ b
  others_kept₁ zero h = refl
  others_kept₁ (suc zero) h = absurd (h refl)
  others_kept₁ (suc (suc zero)) h = refl
  others_kept₁ (suc (suc (suc zero))) h = refl
  others_kept₁ (suc (suc (suc (suc b)))) h = refl

  pub others_kept₂ : (b : ℕ) → (b ≡ 2 → ⊥) → four_results r₀ r₁ x r₃ b ≡ four_results r₀ r₁ r₂ r₃ b
  others_kept₂ zero h = refl
  others_kept₂ (suc zero) h = refl
  others_kept₂ (suc (suc zero)) h = absurd (h refl)
  others_kept₂ (suc (suc (suc zero))) h = refl
  others_kept₂ (suc (suc (suc (suc b)))) h = refl

  pub others_kept₃ : (b : ℕ) → (b ≡ 3 → ⊥) → four_results r₀ r₁ r₂ x b ≡ four_results r₀ r₁ r₂ r₃ b
  others_kept₃ zero h = refl
  others_kept₃ (suc zero) h = refl
  others_kept₃ (suc (suc zero)) h = refl
  others_kept₃ (suc (suc (suc zero))) h = absurd (h refl)
  others_kept₃ (suc (suc (suc (suc b)))) h = refl

-- An earlier result stays.
result_kept : (cs cs' : List Quadword) (results results' : ℕ → List ℕ) (i : ℕ) (r : Quadword) (k : Tuple) (j : ℕ) (xs : List ℕ)
    → Closes cs cs' results results' i r k
    → j < i
    → length xs ≤ most_result
    → Stands (results (j / results_each)) (most_result * (j % results_each)) xs
    → Stands (results' (j / results_each)) (most_result * (j % results_each)) xs
result_kept cs cs' results results' i r k j xs closes less short stands =
    by_buffer (ℕ_discrete (j / results_each) (i / results_each))
  where
    by_buffer : Dec (j / results_each ≡ i / results_each) → Stands (results' (j / results_each)) (most_result * (j % results_each)) xs
    by_buffer (no other) = rw (closes.others_kept (j / results_each) other) stands
    by_buffer (yes same) =
        let old : Stands (results (i / results_each)) (most_result * (j % results_each)) xs
        = subst (λ b. Stands (results b) (most_result * (j % results_each)) xs) same stands in
        let later : j % results_each < i % results_each = omega arith in
        subst (λ b. Stands (results' b) (most_result * (j % results_each)) xs) (sym same)
        (subst (λ l. Stands l (most_result * (j % results_each)) xs) (sym closes.result_saved)
        (stands_before (results (i / results_each)) (most_result * (i % results_each)) (tuple_words k) (most_result * (j % results_each)) xs
        closes.slot_inside (omega arith) old))

-- The circuits closed before stay when another is closed.
pub earlier_kept : (types : ℕ → Ty) (positions : ℕ) (gs cs cs' : List Quadword) (results results' : ℕ → List ℕ) (i : ℕ) (r : Quadword) (k : Tuple)
    (K : List Boxed)
    → Closes cs cs' results results' i r k
    → length K ≤ i
    → HoldsClosed types positions gs cs results K
    → HoldsClosed types positions gs cs' results' K
earlier_kept types positions gs cs cs' results results' i r k [] closes few held = tt
earlier_kept types positions gs cs cs' results results' i r k (boxed T hs l ∷ K) closes few held =
    let h = held.0 in
    let same : quadword_at cs' (length K) ≡ quadword_at cs (length K)
    = ap (λ rs. quadword_at rs (length K)) closes.circuit_put
    ∙ get_or-set_other cs i (length K) r (quadword 0 0 0 0) (omega arith) in (
      record {
        position = subst (λ x. word_in x 0 < positions) (sym same) h.position;
        typed = ap (λ x. types (word_in x 0)) same ∙ h.typed;
        first = ap (λ x. word_in x 1) same ∙ h.first;
        many = ap (λ x. word_in x 2) same ∙ h.many;
        size = ap (λ x. word_in x 3) same ∙ h.size;
        gates = h.gates;
        result =
            result_kept cs cs' results results' i r k (length K) (tuple_words l) closes (omega arith) h.short
            h.result;
        short = h.short;
      },
      earlier_kept types positions gs cs cs' results results' i r k K closes (omega arith) held.1,
    )

-- Another circuit is closed: its gates stand behind those of the others, its quadword and its result are put.
pub one_more_closed : (types : ℕ → Ty) (positions : ℕ) (gs gs' cs cs' : List Quadword) (results results' : ℕ → List ℕ) (K : List Boxed)
    (position : ℕ) (hs : List Gate) (k : Tuple)
    → position < positions
    → HoldsClosed types positions gs cs results K
    → ((i : ℕ) → closed_from ≤ i → i < closed_from + closed_gates K → quadword_at gs' i ≡ quadword_at gs i)
    → gates_in gs' (closed_from + closed_gates K) (length hs) ≡ hs
    → length (tuple_words k) ≤ most_result
    → Closes cs cs' results results' (length K)
    (quadword position (closed_from + closed_gates K) (length hs) (length (tuple_words k)))
    k
    → HoldsClosed types positions gs' cs' results' (boxed (types position) hs k ∷ K)
one_more_closed types positions gs gs' cs cs' results results' K position hs k real held same made short closes =
    let r = quadword position (closed_from + closed_gates K) (length hs) (length (tuple_words k)) in
    let put : quadword_at cs' (length K) ≡ r
    = ap (λ rs. quadword_at rs (length K)) closes.circuit_put
    ∙ get_or-set_same cs (length K) r (quadword 0 0 0 0) closes.room in (
      record {
        position = subst (λ x. word_in x 0 < positions) (sym put) real;
        typed = ap (λ x. types (word_in x 0)) put;
        first = ap (λ x. word_in x 1) put;
        many = ap (λ x. word_in x 2) put;
        size = ap (λ x. word_in x 3) put;
        gates = made;
        result =
            subst (λ l. Stands l (most_result * (length K % results_each)) (tuple_words k)) (sym closes.result_saved)
            (stands_written
            (results (length K / results_each))
            (most_result * (length K % results_each))
            (tuple_words k)
            closes.slot_inside);
        short = short;
      },
      earlier_kept types positions gs' cs cs' results results' (length K) r k K closes (omega arith)
          (closed_kept types positions gs gs' cs results K same held),
    )

-- The gates of a boxed circuit.
abbrev pub gates_of : Boxed → List Gate
gates_of (boxed T hs k) = hs

-- Closed circuit i is b, and so many gates were closed before it, of a total.
abbrev pub ClosedAt : (ℕ → Ty) → ℕ → List Quadword → List Quadword → (ℕ → List ℕ) → ℕ → ℕ → Boxed → Type 0
ClosedAt types positions gs cs results total i b =
    (before : ℕ) × (before + length (gates_of b) ≤ total) × HoldsCircuit types positions gs cs results i before b

-- The circuit that a constant's number stands for is held.
pub closed_at_lem : (types : ℕ → Ty) (positions : ℕ) (gs cs : List Quadword) (results : ℕ → List ℕ) (K : List Boxed) (i : ℕ)
    → HoldsClosed types positions gs cs results K
    → i < length K
    → ClosedAt types positions gs cs results (closed_gates K) i (circuit_at K i)
closed_at_lem types positions gs cs results [] i held h = absurd (omega arith)
closed_at_lem types positions gs cs results (boxed T hs k ∷ K) i held h =
    ⊎_elim
    (λ (e : i ≡ length K).
    subst (λ t. ClosedAt types positions gs cs results (length hs + closed_gates K) i (cond t (boxed T hs k) (circuit_at K i)))
    (sym (eq-eqb i (length K) e))
    (subst (λ j. ClosedAt types positions gs cs results (length hs + closed_gates K) j (boxed T hs k)) (sym e)
    (closed_gates K, omega arith, held.0)))
    (λ (l : i < length K).
    subst (λ t. ClosedAt types positions gs cs results (length hs + closed_gates K) i (cond t (boxed T hs k) (circuit_at K i)))
    (sym (ne_eqb i (length K) (λ e. omega arith)))
    (let r = closed_at_lem types positions gs cs results K i held.1 l in (r.0, omega (arith, r.1), r.2)))
    (eq-or-lt_of_le (le-pred_of_lt h))

-- The gates of a closed circuit can be copied behind those of the open ones, its wires being below m.
pub closed_copy_fits : (types : ℕ → Ty) (positions : ℕ) (gs cs : List Quadword) (results : ℕ → List ℕ) (i before : ℕ) (T : Ty) (hs : List Gate)
    (k : Tuple) (to available n next : ℕ)
    → HoldsBoxed types positions gs cs results i before T hs k
    → TakesEarlier (wires T) hs
    → to + length hs ≤ closed_from
    → closed_from + before + length hs ≤ length gs
    → n ≤ available
    → next + length (wires T ++ outputs hs) ≤ no_wire
    → CopyFits gs (word_in (quadword_at cs i) 1) (word_in (quadword_at cs i) 2) to available n next (length (wires T ++ outputs hs))
closed_copy_fits types positions gs cs results i before T hs k to available n next h sound open_room inside enough room =
    rw (h.first, h.many)
    record {
      inside = omega arith;
      apart = omega arith;
      enough = enough;
      below = rw h.gates (takes_below sound);
      room = room;
    }

-- The result of a closed circuit can be loaded, its labels being below m.
pub closed_result_fits : (types : ℕ → Ty) (positions : ℕ) (gs cs : List Quadword) (results : ℕ → List ℕ) (i before : ℕ) (T : Ty)
    (hs : List Gate) (k : Tuple) (m size to available n next : ℕ)
    → HoldsBoxed types positions gs cs results i before T hs k
    → AllBelow m (labels k)
    → to + length (tuple_words k) ≤ size
    → n ≤ available
    → m ≤ no_label
    → next + m ≤ no_wire
    → ResultFits k m (results (i / results_each)) (most_result * (i % results_each)) (word_in (quadword_at cs i) 3) size to available n
    next
closed_result_fits types positions gs cs results i before T hs k m size to available n next h below inside enough apart room =
    record {
      stands = h.result;
      whole = h.size;
      inside = omega (arith, h.size);
      enough = enough;
      below = below;
      apart = apart;
      room = room;
    }
