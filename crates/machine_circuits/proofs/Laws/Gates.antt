-- Laws of the gates in quadwords.
use Rattle.std.specs.Prelude.{ℕ, zero, suc, ◌+◌, ◌≤◌, ◌<◌, ◌≡◌, refl, List, [], ◌∷◌, ◌++◌, map, length, get_or, take}
use Rattle.std.proofs.Common.{arith, sym, ◌∙◌, ap, ap₂, length-take, length-append, get_or-take}
use Rattle.std.proofs.Math.ListN.{get_or-eq_default}
use Rattle.std.proofs.lemmas.List.{length-map}
use Rattle.rules.specs.Gates.{gate_outputs, wires_in, wires_out}
use Rattle.rules.specs.GateCodes.{wires_of}
use Rattle.rules.specs.Terms.{Gate, ◌on◌}
use Rattle.rules.specs.Circuits.{outputs, rename, rename_gate}
use Rattle.rules.proofs.Laws.KnownGates.{few_wires}
use Rattle.words.specs.Quadwords.{Quadword, quadword, quadword_at, word_in}
use Rattle.machine_circuits.specs.Layout.{gate_of, slot_of, gate_words, gates_in}
use Rattle.rules.specs.Slots.{no_wire, gate_slot_count}

-- No gate takes or makes more wires than a quadword has slots.
pub few_in : (n : ℕ) → wires_in n ≤ gate_slot_count
few_in n = (few_wires gate_slot_count tt n).0

pub few_out : (n : ℕ) → wires_out n ≤ gate_slot_count
few_out n = (few_wires gate_slot_count tt n).1

-- A gate in a quadword takes as many wires as its number says.
pub wires_counted : (r : Quadword) → length (wires_of (gate_of r)) ≡ wires_in (word_in r 0)
wires_counted (quadword n u v w) = omega (arith, length-take (wires_in n) (u ∷ v ∷ w ∷ []), few_in n)

-- The wire in a slot, if the gate has that slot.
pub slot_used : (r : Quadword) (slot : ℕ) → slot < wires_in (word_in r 0) → slot_of (gate_of r) slot ≡ word_in r (1 + slot)
slot_used (quadword n u v w) slot h =
    get_or-take (wires_in n) (u ∷ v ∷ w ∷ []) slot no_wire h ∙ first slot (omega (arith, few_in n))
  where
    first : (k : ℕ) → k < 3 → get_or (u ∷ v ∷ w ∷ []) k no_wire ≡ word_in (quadword n u v w) (1 + k)
    first zero h = refl
    first (suc zero) h = refl
    first (suc (suc zero)) h = refl
    first (suc (suc (suc k))) h = absurd (omega arith)

pub slot_unused : (r : Quadword) (slot : ℕ) → wires_in (word_in r 0) ≤ slot → slot_of (gate_of r) slot ≡ no_wire
slot_unused (quadword n u v w) slot h =
    get_or-eq_default (take (wires_in n) (u ∷ v ∷ w ∷ [])) no_wire
    (omega (arith, length-take (wires_in n) (u ∷ v ∷ w ∷ [])))

-- The wire in a slot of a gate whose wires are renamed.
get_d_map : (f : ℕ → ℕ) (ws : List ℕ) (k d e : ℕ) → k < length ws → get_or (map f ws) k d ≡ f (get_or ws k e)
get_d_map f [] k d e h = absurd (omega arith)
get_d_map f (w ∷ ws) zero d e h = refl
get_d_map f (w ∷ ws) (suc k) d e h = get_d_map f ws k d e (omega arith)

pub slot_renamed : (ks : List ℕ) (next : ℕ) (r : Quadword) (slot : ℕ)
    → slot < wires_in (word_in r 0)
    → slot_of (rename_gate ks next (gate_of r)) slot ≡ rename ks next (word_in r (1 + slot))
slot_renamed ks next (quadword n u v w) slot h =
    get_d_map (rename ks next) (take (wires_in n) (u ∷ v ∷ w ∷ [])) slot no_wire no_wire
    (omega (arith, wires_counted (quadword n u v w)))
    ∙ ap (rename ks next) (slot_used (quadword n u v w) slot h)

-- A gate with as many wires as its number says is read back from its quadword.
slots_filled : (ws : List ℕ)
    → length ws ≤ 3
    → take (length ws) (get_or ws 0 no_wire ∷ get_or ws 1 no_wire ∷ get_or ws 2 no_wire ∷ []) ≡ ws
slots_filled [] h = refl
slots_filled (a ∷ []) h = refl
slots_filled (a ∷ b ∷ []) h = refl
slots_filled (a ∷ b ∷ c ∷ []) h = refl
slots_filled (a ∷ b ∷ c ∷ d ∷ ws) h = absurd (omega arith)

pub read_back : (n : ℕ) (ws : List ℕ) → length ws ≡ wires_in n → gate_of (gate_words (n on ws)) ≡ n on ws
read_back n ws e =
    ap
    (λ k. n on take k (get_or ws 0 no_wire ∷ get_or ws 1 no_wire ∷ get_or ws 2 no_wire ∷ []))
    (sym e)
    ∙ ap (λ l. n on l) (slots_filled ws (omega (arith, few_in n)))

pub read_back_renamed : (ks : List ℕ) (next : ℕ) (r : Quadword)
    → gate_of (gate_words (rename_gate ks next (gate_of r))) ≡ rename_gate ks next (gate_of r)
read_back_renamed ks next (quadword n u v w) =
    read_back n (map (rename ks next) (take (wires_in n) (u ∷ v ∷ w ∷ [])))
    (length-map (take (wires_in n) (u ∷ v ∷ w ∷ [])) (rename ks next) ∙ wires_counted (quadword n u v w))

-- Quadwords that agree hold the same gates.
pub gates_same : (rs rs' : List Quadword) (from from' count : ℕ)
    → ((i : ℕ) → i < count → quadword_at rs' (from' + i) ≡ quadword_at rs (from + i))
    → gates_in rs' from' count ≡ gates_in rs from count
gates_same rs rs' from from' zero h = refl
gates_same rs rs' from from' (suc k) h =
    ap₂
    (λ r gs. gate_of r ∷ gs)
    (h k (omega arith))
    (gates_same rs rs' from from' k (λ i below. h i (omega arith)))

-- The gates of one more quadword, and of more quadwords.
pub gates_next : (rs : List Quadword) (from k : ℕ)
    → gates_in rs from (k + 1) ≡ gate_of (quadword_at rs (from + k)) ∷ gates_in rs from k
gates_next rs from k = let e : k + 1 ≡ suc k = omega arith in rw e

pub gates_more : (rs : List Quadword) (from j k : ℕ)
    → gates_in rs from (j + k) ≡ gates_in rs (from + j) k ++ gates_in rs from j
gates_more rs from j zero = let e : j + 0 ≡ j = omega arith in ap (gates_in rs from) e
gates_more rs from j (suc k) =
    let e : j + suc k ≡ suc (j + k) = omega arith in
    let f : from + (j + k) ≡ from + j + k = omega arith in
    ap (gates_in rs from) e
    ∙ ap₂ (λ i gs. gate_of (quadword_at rs i) ∷ gs) f (gates_more rs from j k)

pub length_gates : (rs : List Quadword) (from count : ℕ) → length (gates_in rs from count) ≡ count
length_gates rs from zero = refl
length_gates rs from (suc k) = ap suc (length_gates rs from k)

-- Label k of the first n; there is none where the list has ended.
pub label_within : (ws : List ℕ) (n k : ℕ) → k < n → k < length ws → get_or (take n ws) k no_wire ≡ get_or ws k 0
label_within ws n k h h' = get_or-take n ws k no_wire h ∙ inside ws k h'
  where
    inside : (ws : List ℕ) (k : ℕ) → k < length ws → get_or ws k no_wire ≡ get_or ws k 0
    inside [] k h = absurd (omega arith)
    inside (w ∷ ws) zero h = refl
    inside (w ∷ ws) (suc k) h = inside ws k (omega arith)

pub label_ended : (ws : List ℕ) (n k : ℕ) → length ws ≤ k → get_or (take n ws) k no_wire ≡ no_wire
label_ended ws n k h = get_or-eq_default (take n ws) no_wire (omega (arith, length-take n ws))

-- The wires that one more gate makes.
pub outputs_next : (r : Quadword) (gs : List Gate)
    → length (outputs (gate_of r ∷ gs)) ≡ length (outputs gs) + wires_out (word_in r 0)
unfolding wires_out
outputs_next (quadword n u v w) gs = length-append (outputs gs) (gate_outputs n)
