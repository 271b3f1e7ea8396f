-- What is written of a listing's bytes is the text of its circuit, outputs and steps.
use Prim.Native.Nat.{ℕ, zero, suc, ◌+◌, ◌<◌}
use native.Mathlib.Omega.{arith}
use Rattle.std.proofs.Math.Decide.{dec_lt}
use Rattle.std.specs.Prelude.{◌≡◌, refl, get_or}
use Rattle.std.proofs.Math.Path.{sym, ap, ap₂}
use Rattle.std.proofs.Common.{◌∙◌, length-append}
use mathlib.Core.List.{List, [], ◌∷◌, ◌++◌, flat_map, append-nil, append_assoc}
use Rattle.std.proofs.Math.ListN.{length, get_or-append}
use Rattle.std.proofs.lemmas.List.{get_or_at}
use Rattle.rules.specs.Types.{Wire, Bit}
use Rattle.rules.specs.Gates.{gate_outputs, wires_in, wires_out}
use Rattle.rules.specs.GateCodes.{wires_of}
use Rattle.rules.specs.Terms.{Tuple, labels, Gate, ◌on◌}
use Rattle.rules.specs.Circuits.{circuit, outputs, numbers, TakesEarlier}
use Rattle.listing.specs.Listing.{gate_kind, listing}
use Rattle.listing.specs.Pieces.{pieces}
use Rattle.listing.proofs.Laws.Pieces.{pieces_list}
use Rattle.wirelist_lines.specs.Lines.{input_line, gate_line, out_line, steps_line, input_lines, gate_lines, lines}
use Rattle.text.specs.Text.{joined}
use Rattle.words.specs.Numbers.{words_at}
use Rattle.listing.specs.Reading.{input_count, gate_count, kind_at, slots_from}
use Rattle.wirelist_lines.specs.LinesAt.{made_before, input_line_at, gate_line_at, out_line_at, text_at}
use Rattle.listing.proofs.Laws.ReadBack.{gate_at, newest_at, older_at, counted_at, inputs_are, gates_are, input_is, gate_is}
use Rattle.listing.proofs.Laws.ReadBack.{taken_is, listed_are}
use Rattle.text.proofs.Laws.Words.{joined_append}

-- The lines of the inputs.
length_inputs : (w : ℕ) (I : List Wire) → length (input_lines w I) ≡ length I
length_inputs w [] = refl
length_inputs w (α ∷ I) = ap suc (length_inputs (suc w) I)

input_line_lem : (w : ℕ) (I : List Wire) (i : ℕ)
    → i < length I
    → get_or (input_lines w I) i [] ≡ input_line (w + i) (get_or I i Bit)
input_line_lem w [] i below = absurd (omega arith)
input_line_lem w (α ∷ I) zero below = let e : w ≡ w + 0 = omega arith in ap (λ n. input_line n α) e
input_line_lem w (α ∷ I) (suc i) below =
    let e : suc w + i ≡ w + suc i = omega arith in
    input_line_lem (suc w) I i (omega arith) ∙ ap (λ n. input_line n (get_or I i Bit)) e

-- The lines of the gates.
length_gate_lines : (I : List Wire) (gs : List Gate) → length (gate_lines I gs) ≡ length gs
length_gate_lines I [] = refl
length_gate_lines I ((n on ws) ∷ gs) =
    length-append (gate_lines I gs) (_ ∷ []) ∙ omega (arith, length_gate_lines I gs)

module _ (I : List Wire) (kind made : ℕ → ℕ) (taken : ℕ → List ℕ) (first : made 0 ≡ length I)
    (next : (j : ℕ) → made (suc j) ≡ made j + wires_out (kind j)) where
  -- The number of wires made so far.
  made_read : (gs : List Gate)
      → ((j : ℕ) → j < length gs → kind j ≡ gate_kind (gate_at gs j))
      → made (length gs) ≡ length (I ++ outputs gs)
  unfolding wires_out
  made_read [] kinds = first ∙ ap length (sym (append-nil I))
  made_read ((n on ws) ∷ gs) kinds =
      let last : kind (length gs) ≡ n = kinds (length gs) (omega arith) ∙ ap gate_kind (newest_at (n on ws) gs) in
      let before : made (length gs) ≡ length (I ++ outputs gs)
      = made_read gs λ j below. kinds j (omega arith) ∙ ap gate_kind (older_at (n on ws) gs j below) in
      next (length gs)
      ∙ ap₂ ◌+◌ before (ap wires_out last)
      ∙ sym (length-append (I ++ outputs gs) (gate_outputs n))
      ∙ ap length (append_assoc I (outputs gs) (gate_outputs n))

  -- The line of gate j, by its kind, the wires that it takes and the number of wires made before.
  gate_line_lem : (gs : List Gate)
      → ((j : ℕ) → j < length gs → kind j ≡ gate_kind (gate_at gs j))
      → ((j : ℕ) → j < length gs → taken j ≡ wires_of (gate_at gs j))
      → (j : ℕ)
      → j < length gs
      → gate_line (kind j) (taken j) (numbers (made j) (wires_out (kind j))) ≡ get_or (gate_lines I gs) j []
  unfolding wires_out
  gate_line_lem [] kinds wires j below = absurd (omega arith)
  gate_line_lem ((n on ws) ∷ gs) kinds wires j below =
      of
      (gate_line_lem gs
      (λ k inside. kinds k (omega arith) ∙ ap gate_kind (older_at (n on ws) gs k inside))
      (λ k inside. wires k (omega arith) ∙ ap wires_of (older_at (n on ws) gs k inside))
      j)
      (dec_lt j (length gs))
    where
      line_of : ℕ → List ℕ
      line_of k = gate_line (kind k) (taken k) (numbers (made k) (wires_out (kind k)))

      newest : List ℕ
      newest = gate_line n ws (numbers (length (I ++ outputs gs)) (length (gate_outputs n)))

      is_newest : line_of (length gs) ≡ newest
      is_newest =
          let last : kind (length gs) ≡ n = kinds (length gs) (omega arith) ∙ ap gate_kind (newest_at (n on ws) gs) in
          let before : made (length gs) ≡ length (I ++ outputs gs)
          = made_read gs λ k inside. kinds k (omega arith) ∙ ap gate_kind (older_at (n on ws) gs k inside) in
          let its : taken (length gs) ≡ ws = wires (length gs) (omega arith) ∙ ap wires_of (newest_at (n on ws) gs) in
          ap₂ (λ k ts. gate_line k ts (numbers (made (length gs)) (wires_out k))) last its
          ∙ ap (λ m. gate_line n ws (numbers m (wires_out n))) before

      of : (j < length gs → line_of j ≡ get_or (gate_lines I gs) j [])
          → Dec (j < length gs)
          → line_of j ≡ get_or (gate_lines I gs ++ (newest ∷ [])) j []
      of earlier (yes p) =
          earlier p
          ∙ sym (get_or-append (gate_lines I gs) (newest ∷ []) [] j (omega (arith, length_gate_lines I gs)))
      of earlier (no p) =
          let last : j ≡ length gs = omega arith in
          ap line_of last
          ∙ is_newest
          ∙ sym (get_or_at (gate_lines I gs) newest [] [] (length gs) (length_gate_lines I gs))
          ∙ ap (λ k. get_or (gate_lines I gs ++ (newest ∷ [])) k []) (sym last)

-- Pieces that are the lines of a list are these lines one behind the other.
pieces_joined : (ls : List (List ℕ)) (f : ℕ → List ℕ)
    → ((i : ℕ) → i < length ls → f i ≡ get_or ls i [])
    → pieces f (length ls) ≡ joined ls
unfolding flat_map
pieces_joined ls f each = pieces_list (λ l. l) [] ls f each ∙ flat_joined ls
  where
    flat_joined : (ls : List (List ℕ)) → flat_map (λ l. l) ls ≡ joined ls
    flat_joined [] = refl
    flat_joined (l ∷ ls) = ap (λ ys. l ++ ys) (flat_joined ls)

-- The parts of all that is printed for a finished run.
pub lines_parts : (I : List Wire) (gs : List Gate) (r : Tuple) (steps : ℕ)
    → lines (circuit I gs) r steps
    ≡ joined (input_lines 0 I) ++ (joined (gate_lines I gs) ++ (out_line (labels r) ++ steps_line steps))
lines_parts I gs r steps =
    let C = out_line (labels r) ∷ steps_line steps ∷ [] in
    joined_append (input_lines 0 I) (gate_lines I gs ++ C)
    ∙ ap (λ ys. joined (input_lines 0 I) ++ ys) (
    joined_append (gate_lines I gs) C
    ∙ ap (λ ys. joined (gate_lines I gs) ++ (out_line (labels r) ++ ys)) (append-nil (steps_line steps))
    )

module _ (I : List Wire) (gs : List Gate) (r : Tuple) (rest b : List ℕ) (same : b ≡ listing (circuit I gs) r ++ rest)
    (steps : ℕ) where
  inputs_printed : pieces (input_line_at b) (input_count b) ≡ joined (input_lines 0 I)
  unfolding input_line_at
  inputs_printed =
      ap (pieces (input_line_at b)) (inputs_are I gs (labels r) rest b same ∙ sym (length_inputs 0 I))
      ∙ pieces_joined (input_lines 0 I) (input_line_at b) λ i below.
      let inside : i < length I = omega (arith, length_inputs 0 I) in
      let e : i ≡ 0 + i = omega arith in
      ap₂ input_line e (input_is I gs (labels r) rest b same i inside) ∙ sym (input_line_lem 0 I i inside)

  gates_printed : TakesEarlier I gs → pieces (gate_line_at b) (gate_count b) ≡ joined (gate_lines I gs)
  unfolding gate_line_at
  gates_printed sound =
      ap (pieces (gate_line_at b)) (gates_are I gs (labels r) rest b same ∙ sym (length_gate_lines I gs))
      ∙ pieces_joined (gate_lines I gs) (gate_line_at b) λ j below.
      gate_line_lem I (λ k. kind_at b (input_count b + k)) (made_before b)
      (λ k. words_at b (slots_from b (input_count b + k)) (wires_in (kind_at b (input_count b + k))))
      (inputs_are I gs (labels r) rest b same)
      (λ k. refl)
      gs
      (gate_is I gs (labels r) rest b same)
      (λ k inside. taken_is I gs (labels r) rest b same k inside (counted_at gs sound k inside))
      j
      (omega (arith, length_gate_lines I gs))

  outputs_printed : out_line_at b ≡ out_line (labels r)
  unfolding out_line_at
  outputs_printed = ap out_line (listed_are I gs (labels r) rest b same)

  -- What is written of the listing's bytes is all that is printed of the circuit, its outputs and the steps, in order.
  pub in_order : TakesEarlier I gs → text_at b steps ≡ lines (circuit I gs) r steps
  unfolding text_at
  in_order sound =
      ap₂ (λ xs ys. xs ++ (ys ++ (out_line_at b ++ steps_line steps))) inputs_printed (gates_printed sound)
      ∙ ap (λ ys. joined (input_lines 0 I) ++ (joined (gate_lines I gs) ++ (ys ++ steps_line steps))) outputs_printed
      ∙ sym (lines_parts I gs r steps)
