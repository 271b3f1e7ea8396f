-- Laws of specs/Lines.antt.
use Rattle.std.specs.Prelude.{ℕ, ◌+◌, ◌≡◌, cond, List, [], ◌∷◌, ◌++◌, map}
use Rattle.std.proofs.Common.{sym, ◌∙◌, ap, append_assoc, append-nil, eq-eqb, ne_eqb}
use Rattle.rules.specs.Types.{Wire, Bit, Qubit}
use Rattle.rules.specs.Gates.{wires_in, wires_out}
use Rattle.rules.specs.Circuits.{numbers}
use Rattle.listing.specs.Pieces.{pieces}
use Rattle.listing.proofs.Laws.Pieces.{no_piece, next_piece}
use Rattle.text.specs.Text.{ascii, decimal, spaced, line}
use Rattle.wirelist_lines.specs.Lines.{gate_name, wire_name, input_line, gate_line, steps_line}
use Rattle.text.specs.Written.{Written}
use Rattle.text.specs.Writing.{Puts}
use Rattle.text.proofs.Laws.Writing.{puts_none, puts_both, puts_same, puts_first}
use Rattle.words.specs.Numbers.{words_at}
use Rattle.listing.specs.Reading.{input_count, gate_count, kind_at, slots_from}
use Rattle.wirelist_lines.specs.LinesAt.{made_before, input_line_at, gate_line_at, out_line_at, text_at, taken_part}
use Rattle.text.proofs.Laws.Words.{spaced_append}

-- A line's first words, its last words, and its end.
line_parts : (first : List ℕ) (vs ws : List (List ℕ))
    → (first ++ spaced vs) ++ (spaced ws ++ (10 ∷ [])) ≡ line first (vs ++ ws)
line_parts first vs ws =
    append_assoc first (spaced vs) (spaced ws ++ (10 ∷ []))
    ∙ ap (λ ys. first ++ ys) (
    sym (append_assoc (spaced vs) (spaced ws) (10 ∷ []))
    ∙ ap (λ ys. ys ++ (10 ∷ [])) (sym (spaced_append vs ws))
    )

-- A line is written: its first word, the others, its end.
pub puts_line : (first : List ℕ) (ws : List (List ℕ)) {text₀ text₁ text₂ text₃ : List ℕ} {at₀ at₁ at₂ at₃ : ℕ}
    → Puts text₀ at₀ first text₁ at₁
    → Puts text₁ at₁ (spaced ws) text₂ at₂
    → Puts text₂ at₂ (10 ∷ []) text₃ at₃
    → Puts text₀ at₀ (line first ws) text₃ at₃
puts_line first ws p q e =
    puts_same (append_assoc first (spaced ws) (10 ∷ [])) (puts_both (puts_both p q) e)

-- Words behind other words.
pub puts_words : (vs ws : List (List ℕ)) {text text' text'' : List ℕ} {at at' at'' : ℕ}
    → Puts text at (spaced vs) text' at'
    → Puts text' at' (spaced ws) text'' at''
    → Puts text at (spaced (vs ++ ws)) text'' at''
puts_words vs ws p q = puts_same (sym (spaced_append vs ws)) (puts_both p q)

-- The line of an input: its type is written with the end of the line.
pub puts_input : (i : ℕ) (α : Wire) {text₀ text₁ text₂ text₃ : List ℕ} {at₀ at₁ at₂ at₃ : ℕ}
    → Puts text₀ at₀ (ascii "in") text₁ at₁
    → Puts text₁ at₁ (spaced (decimal i ∷ [])) text₂ at₂
    → Puts text₂ at₂ (32 ∷ (wire_name α ++ (10 ∷ []))) text₃ at₃
    → Puts text₀ at₀ (input_line i α) text₃ at₃
puts_input i α p q e =
    puts_same
    (ap (λ ys. (ascii "in" ++ spaced (decimal i ∷ [])) ++ (32 ∷ (ys ++ (10 ∷ [])))) (sym (append-nil (wire_name α)))
    ∙ line_parts (ascii "in") (decimal i ∷ []) (wire_name α ∷ []))
    (puts_both (puts_both p q) e)

pub puts_taken : (n : ℕ) (taken : List ℕ) {text₀ text₁ text₂ text₃ : List ℕ} {at₀ at₁ at₂ at₃ : ℕ}
    → Puts text₀ at₀ (ascii "gate ") text₁ at₁
    → Puts text₁ at₁ (gate_name n) text₂ at₂
    → Puts text₂ at₂ (spaced (map decimal taken)) text₃ at₃
    → Puts text₀ at₀ (taken_part n taken) text₃ at₃
puts_taken n taken p q e =
    puts_same (append_assoc (ascii "gate ") (gate_name n) (spaced (map decimal taken))) (puts_both (puts_both p q) e)

-- The line of a gate.
pub puts_gate : (n : ℕ) (taken made : List ℕ) {text₀ text₁ text₂ text₃ text₄ : List ℕ} {at₀ at₁ at₂ at₃ at₄ : ℕ}
    → Puts text₀ at₀ (taken_part n taken) text₁ at₁
    → Puts text₁ at₁ (ascii " :") text₂ at₂
    → Puts text₂ at₂ (spaced (map decimal made)) text₃ at₃
    → Puts text₃ at₃ (10 ∷ []) text₄ at₄
    → Puts text₀ at₀ (gate_line n taken made) text₄ at₄
puts_gate n taken made p q s e =
    puts_same
    (line_parts (ascii "gate") (gate_name n ∷ map decimal taken) (ascii ":" ∷ map decimal made))
    (puts_both p (puts_both (puts_both q s) e))

-- The type of an input by its kind.
pub bit_line : (b : List ℕ) (i : ℕ) → kind_at b i ≡ 128 → input_line i Bit ≡ input_line_at b i
unfolding input_line_at
bit_line b i e = ap (λ t. input_line i (cond t Bit Qubit)) (sym (eq-eqb (kind_at b i) 128 e))

pub qubit_line : (b : List ℕ) (i : ℕ) → (kind_at b i ≡ 128 → ⊥) → input_line i Qubit ≡ input_line_at b i
unfolding input_line_at
qubit_line b i e = ap (λ t. input_line i (cond t Bit Qubit)) (sym (ne_eqb (kind_at b i) 128 e))

-- The line of a gate by what is known there: where the gates start, its number, and the wires made before it.
pub gate_line_at_lem : (b : List ℕ) (gate inputs n made : ℕ)
    → inputs ≡ input_count b
    → n ≡ kind_at b (inputs + gate)
    → made ≡ made_before b gate
    → gate_line n (words_at b (slots_from b (inputs + gate)) (wires_in n)) (numbers made (wires_out n)) ≡ gate_line_at b gate
unfolding gate_line_at
gate_line_at_lem b gate inputs n made first kind before = rw (before, kind, first)

-- One more piece behind those that were written.
pub puts_piece : (f : ℕ → List ℕ) (i : ℕ) {text text' text'' : List ℕ} {at at' at'' : ℕ}
    → Puts text at (pieces f i) text' at'
    → Puts text' at' (f i) text'' at''
    → Puts text at (pieces f (i + 1)) text'' at''
puts_piece f i p q = puts_same (sym (next_piece f i)) (puts_both p q)

-- Before the first piece nothing is written.
pub puts_no_piece : (f : ℕ → List ℕ) (text : List ℕ) (at : ℕ) → Puts text at (pieces f 0) text at
puts_no_piece f text at = puts_same (sym (no_piece f)) (puts_none text at)

-- All lines are written: the inputs, the gates, the outputs, the steps.
pub puts_text : (b : List ℕ) (steps : ℕ) {text₀ text₁ text₂ text₃ text₄ : List ℕ} {at₁ at₂ at₃ at₄ : ℕ}
    → Puts text₀ 0 (pieces (input_line_at b) (input_count b)) text₁ at₁
    → Puts text₁ at₁ (pieces (gate_line_at b) (gate_count b)) text₂ at₂
    → Puts text₂ at₂ (out_line_at b) text₃ at₃
    → Puts text₃ at₃ (steps_line steps) text₄ at₄
    → Written text₀ (text_at b steps) text₄ at₄
unfolding text_at
puts_text b steps p q r s = puts_first (puts_both p (puts_both q (puts_both r s)))
