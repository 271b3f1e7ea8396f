-- The codes of a gate's type: Circ, its input, its output.
use Rattle.std.specs.Prelude.{ℕ, zero, suc, ◌+◌, ◌-◌, ◌<◌, ◌≡◌, refl, Bool, ◌&&◌, List, [], ◌∷◌, ◌++◌, T as Truth, length, get_or, drop}
use Rattle.std.proofs.Common.{arith, sym, ◌∙◌, ap, append-nil, length-append, drop_at}
use Rattle.std.proofs.Math.Option.{some}
use Rattle.rules.specs.Kinds.{circuit_kind}
use Rattle.rules.specs.Types.{Ty, is_wire_type, entries, type_codes}
use Rattle.rules.specs.Gates.{GateType, ◌to◌, gate_table, gate_type}
use Rattle.rules.specs.GateCodes.{circ_codes, type_code, type_entries}
use Rattle.rules.proofs.Laws.TypeCodes.{type_codes_entries}
use Rattle.rules.proofs.Laws.Wires.{every_nth}
use Rattle.rules.proofs.Laws.Booleans.{and_left, and_right}
use Rattle.rules.specs.Parts.{parts_of_kind}
use Rattle.machine_nodes.proofs.Laws.Spans.{none_waiting}
use Rattle.words.specs.Regions.{Stands}
use Rattle.words.proofs.Laws.Regions.{stands_first}
use Rattle.machine_circuits.specs.Tuples.{code_span}
use Rattle.machine_circuits.proofs.Laws.Tuples.{span_type}

-- The codes of the gate with a number.
abbrev pub gate_codes : ℕ → List ℕ
gate_codes n = circ_codes (gate_type n)

-- What the lookups of the gate table say of these codes.
pub entries_of_lem : (n : ℕ) → type_entries n ≡ length (gate_codes n)
unfolding type_entries
entries_of_lem n = refl

pub code_of : (n i : ℕ) → i < length (gate_codes n) → type_code n i ≡ get_or (gate_codes n) i 0
unfolding type_code
code_of n i h = inside (gate_codes n) i h
  where
    inside : (l : List ℕ) (i : ℕ) → i < length l → get_or l i 255 ≡ get_or l i 0
    inside [] i h = absurd (omega arith)
    inside (x ∷ l) zero h = refl
    inside (x ∷ l) (suc i) h = inside l i (omega arith)

-- A gate's input and output are wire types.
abbrev both_wires : GateType → Bool
both_wires (T to U) = is_wire_type T && is_wire_type U

pub input_wires_lem : (n : ℕ) (T U : Ty) → gate_type n ≡ some (T to U) → Truth (is_wire_type T)
input_wires_lem n T U e = and_left (is_wire_type T) (is_wire_type U) (every_nth both_wires gate_table n e tt)

pub output_wires_lem : (n : ℕ) (T U : Ty) → gate_type n ≡ some (T to U) → Truth (is_wire_type U)
output_wires_lem n T U e = and_right (is_wire_type T) (is_wire_type U) (every_nth both_wires gate_table n e tt)

module _ (n : ℕ) (T U : Ty) (e : gate_type n ≡ some (T to U)) where
  codes_are : gate_codes n ≡ circuit_kind ∷ (type_codes T ++ type_codes U)
  codes_are = ap circ_codes e

  -- The input takes the first codes behind Circ, and the output the rest.
  pub input_span : code_span (drop 1 (gate_codes n)) 1 ≡ entries T
  input_span =
      ap (λ l. code_span (drop 1 l) 1) codes_are
      ∙ omega (arith, span_type T (type_codes U) 0, none_waiting ℕ parts_of_kind (type_codes U))

  codes_length : length (gate_codes n) ≡ 1 + entries T + entries U
  codes_length =
      ap length codes_are
      ∙ omega (
        arith,
        length-append (type_codes T) (type_codes U),
        type_codes_entries T,
        type_codes_entries U,
      )

  -- So many entries are left behind the input's.
  pub output_count_is : {end start count : ℕ}
      → end ≡ type_entries n
      → start ≡ 1 + code_span (drop 1 (gate_codes n)) 1
      → count ≡ end - start
      → count ≡ entries U
  output_count_is ends starts counts =
      omega (arith, ends, entries_of_lem n, starts, input_span, counts, codes_length)

  pub output_stands : Stands (gate_codes n) (1 + entries T) (type_codes U)
  output_stands =
      let start : 1 + entries T ≡ suc (length (type_codes T)) = omega (arith, type_codes_entries T) in
      stands_first (gate_codes n) (1 + entries T) (type_codes U) []
      (ap (drop (1 + entries T)) codes_are
      ∙ ap (λ j. drop j (5 ∷ (type_codes T ++ type_codes U))) start
      ∙ drop_at (type_codes T) (type_codes U) (length (type_codes T)) refl
      ∙ sym (append-nil (type_codes U)))
