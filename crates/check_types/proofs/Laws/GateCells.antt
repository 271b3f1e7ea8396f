-- Laws of specs/GateCells.antt.
use Rattle.std.specs.Prelude.{ℕ, zero, suc, ◌+◌, ◌*◌, ◌-◌, ◌≤◌, ◌<◌, ◌≡◌, refl, true, false, List, [], ◌∷◌, length, leb}
use Rattle.std.proofs.Common.{arith, sym, ◌∙◌, ap, subst, leb→le}
use Rattle.std.proofs.Math.Decide.{dec_le}
use Rattle.std.proofs.Math.Option.{some}
use Rattle.rules.specs.Kinds.{bit_kind, qubit_kind, unit_kind}
use Rattle.rules.specs.Types.{Bit, Qubit, Ty, wire, unit, Circ, entries, type_codes}
use Rattle.rules.specs.Gates.{GateType, ◌to◌, nth, gate_table, gate_type, is_gate, is_some}
use Rattle.rules.specs.GateCodes.{code_at, circ_codes, type_entries, type_code}
use Rattle.rules.proofs.Laws.GateCodes.{most_type}
use Rattle.rules.proofs.Laws.TypeCodes.{type_codes_entries, entries_positive}
use Rattle.rules.proofs.GateTable.{at_each}
use Rattle.check_types.specs.Cells.{Denotes}
use Rattle.check_types.proofs.Laws.Cells.{denotes_kept}
use Rattle.check_types.proofs.Laws.Load.{CodesAt, length_load_entry, agree_load_entry, entry_wire, entry_unit, length_load_codes}
use Rattle.check_types.proofs.Laws.Load.{agree_load_codes, codes_denote, codes_stand}
use Rattle.check_types.specs.Load.{pick, load_entry, load_codes}
use Rattle.check_types.specs.GateCells.{cell_of_unit, gate_start, gate_cells, gate_cell, load_gates, load_all_gates}
use Rattle.check_types.specs.GateCells.{GatesLoaded}

-- A gate's type has few entries.
pub few_entries : (g : ℕ) → type_entries g ≤ most_type
unfolding type_entries
few_entries g =
    leb→le (length (circ_codes (gate_type g))) most_type (at_each (λ o. leb (length (circ_codes o)) most_type) gate_table tt g)

pub gate_start_small : (g : ℕ) → gate_start g ≤ 3 + most_type * g
unfolding gate_start
gate_start_small zero = omega arith
gate_start_small (suc g) = omega (arith, gate_start_small g, few_entries g)

pub gate_start_positive : (g : ℕ) → 0 < gate_start g
unfolding gate_start
gate_start_positive zero = omega arith
gate_start_positive (suc g) = omega (arith, gate_start_positive g)

-- The codes of a gate's type are its type in preorder.
circuit_codes : (g : ℕ) (T U : Ty) → gate_type g ≡ some (T to U) → circ_codes (gate_type g) ≡ type_codes (Circ T U)
circuit_codes g T U e = ap circ_codes e

gate_entries : (g : ℕ) (T U : Ty) → gate_type g ≡ some (T to U) → type_entries g ≡ entries (Circ T U)
unfolding type_entries
gate_entries g T U e = ap length (circuit_codes g T U e) ∙ type_codes_entries (Circ T U)

gate_stands : (g : ℕ) (T U : Ty) → gate_type g ≡ some (T to U) → CodesAt (type_code g) 0 (Circ T U)
unfolding type_code
gate_stands g T U e =
    codes_stand (type_code g) 0 (Circ T U) λ i h.
    let z : 0 + i ≡ i = omega arith in
    ap (λ j. code_at (circ_codes (gate_type g)) j) z ∙ ap (λ l. code_at l i) (circuit_codes g T U e)

is_gate_lem : (g : ℕ) (T U : Ty) → gate_type g ≡ some (T to U) → is_gate g ≡ true
unfolding is_gate
is_gate_lem g T U e = ap is_some e

-- Bit, Qubit, unit and the types of the gates below g are cells.
record GatesBelow (w : List ℕ) (g : ℕ) : Type 0 where
  bit : Denotes w (gate_start g) 0 (wire Bit)
  qubit : Denotes w (gate_start g) 1 (wire Qubit)
  unit_type : Denotes w (gate_start g) cell_of_unit unit
  gate : (h : ℕ) (T U : Ty) → h < g → gate_type h ≡ some (T to U) → Denotes w (gate_start g) (gate_cell h) (Circ T U)

new_gate : (w : List ℕ) (g : ℕ) (T U : Ty) → gate_start (suc g) ≤ 65536 → 4 * gate_start (suc g) ≤ length w
    → gate_type g ≡ some (T to U)
    → Denotes (load_codes w (gate_start g) (type_code g) 0 (type_entries g)) (gate_start g + type_entries g) (gate_cell g) (Circ T U)
unfolding gate_start gate_cell
new_gate w g T U fits room e =
    let n = gate_start g in
    let k = type_entries g in
    let size : k ≡ entries (Circ T U) = gate_entries g T U e in
    let few : k ≤ most_type = few_entries g in
    let place : n + (0 + k - 1 - 0) ≡ n + k - 1 = omega (arith, entries_positive (Circ T U)) in
    subst
    (λ j. Denotes (load_codes w n (type_code g) 0 k) (n + k) j (Circ T U))
    (place ∙ ap (λ t. pick t (n + k - 1) 0) (sym (is_gate_lem g T U e)))
    (codes_denote w n (type_code g) 0 k fits room 0 (Circ T U) (gate_stands g T U e) (omega arith) (omega arith) (omega arith))

one_more_gate : (w : List ℕ) (g : ℕ) → gate_start (suc g) ≤ 65536 → 4 * gate_start (suc g) ≤ length w
    → GatesBelow w g
    → GatesBelow (load_codes w (gate_start g) (type_code g) 0 (type_entries g)) (suc g)
unfolding gate_start
one_more_gate w g fits room b = record { bit = kept b.bit; qubit = kept b.qubit; unit_type = kept b.unit_type; gate = gates }
  where
    n : ℕ
    n = gate_start g

    k : ℕ
    k = type_entries g

    w' : List ℕ
    w' = load_codes w n (type_code g) 0 k

    kept : {i : ℕ} {A : Ty} → Denotes w n i A → Denotes w' (n + k) i A
    kept d = denotes_kept (agree_load_codes w n (type_code g) 0 k) (omega arith) d

    gates : (h : ℕ) (T U : Ty) → h < suc g → gate_type h ≡ some (T to U) → Denotes w' (n + k) (gate_cell h) (Circ T U)
    gates h T U l e = go (dec_le (suc h) g)
      where
        go : Dec (suc h ≤ g) → Denotes w' (n + k) (gate_cell h) (Circ T U)
        go (yes m) = kept (b.gate h T U m e)
        go (no m) =
            let same : h ≡ g = omega arith in
            subst
            (λ j. Denotes w' (n + k) (gate_cell j) (Circ T U))
            (sym same)
            (new_gate w g T U fits room (sym (ap gate_type same) ∙ e))

length_load_gates : (w : List ℕ) (g : ℕ) → length (load_gates w g) ≡ length w
unfolding load_gates
length_load_gates w zero =
    length_load_entry (load_entry (load_entry w 0 bit_kind) 1 qubit_kind) cell_of_unit unit_kind
    ∙ length_load_entry (load_entry w 0 bit_kind) 1 qubit_kind
    ∙ length_load_entry w 0 bit_kind
length_load_gates w (suc g) =
    length_load_codes (load_gates w g) (gate_start g) (type_code g) 0 (type_entries g) ∙ length_load_gates w g

gates_below : (w : List ℕ) (g : ℕ) → gate_start g ≤ 65536 → 4 * gate_start g ≤ length w → GatesBelow (load_gates w g) g
unfolding load_gates gate_start
gates_below w zero fits room =
    record {
      bit =
          denotes_kept (agree_load_entry w₂ cell_of_unit unit_kind) (omega arith)
          (denotes_kept (agree_load_entry w₁ 1 qubit_kind) (omega arith) (entry_wire w 0 Bit (omega arith)));
      qubit =
          denotes_kept (agree_load_entry w₂ cell_of_unit unit_kind) (omega arith)
          (entry_wire w₁ 1 Qubit (omega (arith, l₁)));
      unit_type = entry_unit w₂ cell_of_unit (omega (arith, l₁, length_load_entry w₁ 1 qubit_kind));
      gate = λ h T U l e. absurd (omega arith);
    }
  where
    -- With Bit, and with Qubit.
    w₁ : List ℕ
    w₁ = load_entry w 0 bit_kind

    w₂ : List ℕ
    w₂ = load_entry w₁ 1 qubit_kind

    l₁ : length w₁ ≡ length w
    l₁ = length_load_entry w 0 bit_kind
gates_below w (suc g) fits room =
    one_more_gate
    (load_gates w g)
    g
    fits
    (omega (arith, length_load_gates w g))
    (gates_below w g (omega arith) (omega arith))

-- A number that is a gate is below the table's length.
gate_number : (l : List GateType) (g : ℕ) (t : GateType) → nth l g ≡ some t → g < length l
gate_number [] g t e = let z : ◌≡◌ {A = ℕ} 0 1 = cc in absurd (omega arith)
gate_number (x ∷ l) zero t e = omega arith
gate_number (x ∷ l) (suc g) t e = omega (arith, gate_number l g t e)

pub gate_below : (g : ℕ) → is_gate g ≡ true → g < length gate_table
unfolding is_gate
gate_below g e = go gate_table g e
  where
    go : (l : List GateType) (g : ℕ) → is_some (nth l g) ≡ true → g < length l
    go [] g e = let z : ◌≡◌ {A = ℕ} 0 1 = cc in absurd (omega arith)
    go (x ∷ l) zero e = omega arith
    go (x ∷ l) (suc g) e = omega (arith, go l g e)

-- The cell of a gate, from the number of cells before it; a number that is no gate has none.
pub cell_of_gate : (g : ℕ) → is_gate g ≡ true → gate_start g + type_entries g - 1 ≡ gate_cell g
unfolding gate_cell
cell_of_gate g e = ap (λ t. pick t (gate_start g + type_entries g - 1) 0) (sym e)

pub cell_of_no_gate : (g : ℕ) → is_gate g ≡ false → 0 ≡ gate_cell g
unfolding gate_cell
cell_of_no_gate g e = ap (λ t. pick t (gate_start g + type_entries g - 1) 0) (sym e)

-- The numbers of cells before the gates.
pub start_of_first : 3 ≡ gate_start 0
unfolding gate_start
start_of_first = refl

pub start_of_next : (g : ℕ) → gate_start g + type_entries g ≡ gate_start (g + 1)
unfolding gate_start
start_of_next g = let e : suc g ≡ g + 1 = omega arith in ap gate_start e

-- Loading the gates one by one.
pub load_leaves : (w : List ℕ)
    → load_entry (load_entry (load_entry w 0 bit_kind) 1 qubit_kind) cell_of_unit unit_kind ≡ load_gates w 0
unfolding load_gates
load_leaves w = refl

pub load_next_gate : (w : List ℕ) (g : ℕ)
    → load_codes (load_gates w g) (gate_start g) (type_code g) 0 (type_entries g) ≡ load_gates w (g + 1)
unfolding load_gates
load_next_gate w g = let e : suc g ≡ g + 1 = omega arith in ap (λ i. load_gates w i) e

-- Where the buffer has room for them, loading makes Bit, Qubit, unit and every gate's type cells.
pub gates_loaded : (w : List ℕ) → 4 * gate_cells ≤ length w → GatesLoaded (load_all_gates w) gate_cells
unfolding gate_cells
gates_loaded w room =
    let b = gates_below w (length gate_table) (omega (arith, gate_start_small (length gate_table))) room in
    record {
      bit = b.bit;
      qubit = b.qubit;
      unit_type = b.unit_type;
      gate = λ g T U e. b.gate g T U (gate_number gate_table g (T to U) e) e;
    }

-- There are 59 of these cells.
pub gate_cells_lem : gate_cells ≡ 59
unfolding gate_cells gate_start type_entries
gate_cells_lem = refl
